-- The broker knows the limit of each honest tab that has joined: the one by which its client counts.
use Rattle.std.proofs.Common.{◌≡◌, ℕ, ◌+◌, Bool, true, false, not, ◌&&◌, ◌||◌, List, [], ◌∷◌, Option, Some, None, is_some, refl, sym, ap, ◌∙◌, subst}
use Rattle.std.specs.Prelude.{⊤}
use Rattle.std.specs.Prelude.{◌==◌, nat_lt, nat_le}
use Rattle.std.proofs.lemmas.Bool.{not-true, not-false}
use Rattle.wl_draft.specs.Locks.{Locks, live}
use Rattle.wl_draft.specs.Membership.{In}
use Rattle.wl_draft.proofs.Membership.{either}
use Rattle.wl_grammar.specs.declared.frame.Operation.{Operation}
use Rattle.wl_grammar.specs.declared.frame.Stamped.{Stamped}
use Rattle.wl_grammar.specs.declared.frame.Addressed.{Addressed}
use Rattle.wl_grammar.specs.declared.frame.Upward.{Upward}
use Rattle.wl_grammar.specs.declared.frame.Upward.TheVariants as up
use Rattle.wl_grammar.specs.Generation.{generation_of}
use Rattle.wl_broker_reports.specs.ReportParts.{Told, Whole, at_once, in_part, has_held, all_below, fits, has_part, with_told, is_whole, whole_of}
use Rattle.wl_broker.specs.declared.seat.TabSeat.{TabSeat}
use Rattle.wl_broker.specs.declared.seat.TabSeat.TheVariants.{Joined, Dead}
use Rattle.wl_broker.specs.declared.dropped.Dropped.TheVariants.{OldGeneration, LaterGeneration, NotJoined, Recovering, OutOfTurn, DeadTab, AlreadyJoined, HeldByNewcomer, BadReport, Misplaced, TooMany, PartTwice}
use Rattle.wl_broker.specs.Broker.{BrokerState, Taking, Drops, Does, started, seat_of, partial_of, manager_of, is_joined, is_dead, next_of, limit_of, is_active, is_listed, listed_at, is_misplaced, place_of, with_seat, settled_at, later_answer, is_lock, keeping, join, join_if, take_report_part, perform, take_command, take_inner, taking, buried_at, death_step}
use Rattle.wl_limits.specs.declared.tabs.TheConstants.{LAST_NUMBER}
use Rattle.wl_agent.specs.Tab.{TabState}
use Rattle.wl_kernel.specs.Kernel.{is_opened, may_stop, start_refusal}
use Rattle.wl_kernel.specs.Routes.{frame_of}
use Rattle.wl_world_messages.specs.declared.message.Message.{Message}
use Rattle.wl_world_messages.specs.declared.message.Message.TheVariants.{Up, Down, Across}
use Rattle.wl_world_messages.specs.Messages.{is_sent}
use Rattle.wl_world_messages.proofs.Same.{is_sent-In}
use Rattle.wl_world_model.specs.declared.event.Event.{Event}
use Rattle.wl_world_model.specs.declared.event.Event.TheVariants as event
use Rattle.wl_world_model.specs.World.{WorldState, empty_world, tab_of, lives, unchanged, if_allowed, arrives_at_broker, arrives, tells, stops, starts, step_result, after_event, run}
use Rattle.wl_world_model.proofs.AtBroker.{with_broker, follows, buries, begins}
use Rattle.wl_world_model.proofs.exclusion.Invariant.{Sound, broker_of, was_opened, up_message}
use Rattle.wl_world_model.proofs.exclusion.ActsWithinAGeneration.{after}
use Rattle.wl_world_model.proofs.exclusion.TakenSeats.{each_seat}
use Rattle.wl_world_model.proofs.exclusion.SoundRuns.{run-sound}
use Rattle.std.proofs.Common.{⊎_elim, cond, arith}
use Rattle.std.proofs.lemmas.Bool.{cases_Bool, ltb-false}
use Rattle.wl_draft.proofs.Membership.{apart, In-one, In-map_cases}
use Rattle.wl_agent.specs.Tab.{live_limit, report_bodies, told_in_parts, told_at_once}
use Rattle.wl_grammar.specs.declared.frame.Report.{Report}
use Rattle.wl_grammar.specs.declared.frame.ReportPart.{ReportPart}
use Rattle.wl_world_model.specs.Holdings.{IsHonest}
use Rattle.wl_world_model.proofs.exclusion.Invariant.{IsSaid}
use Rattle.wl_broker.specs.Broker.{limit_in as limit_at}
use Rattle.wl_library_model.proofs.Later.{Later}
use Rattle.wl_library_model.proofs.Happens.{Good, happens-on, happens-good, empty-fit}
use Rattle.wl_library_model.proofs.ProgressPlaces.{calm, calm-allowed, calm-becomes, calm-takes_frame, at_broker, Steady, Numbered, steady-after, empty-steady}
use Rattle.std.specs.List.{list_any}
use Rattle.std.proofs.lemmas.Bool.{and_parts}
use Rattle.wl_world_model.proofs.exclusion.Invariant.{broker_in}
use Rattle.wl_library_model.specs.Library.{Library, client_of, is_taken, runs}
use Rattle.wl_library_model.specs.Library.{lives as lives_in}
use Rattle.wl_library_model.proofs.Carried.{Sim}

-- What the broker knows

abbrev LimitsAt : WorldState → BrokerState → Type 0
LimitsAt w b = (t : ℕ) → IsHonest w t → is_joined (seat_of b t) ≡ true → limit_of b t ≡ live_limit (tab_of w t).in_parts

abbrev pub Limits : WorldState → Type 0
Limits w = LimitsAt w (broker_of w)

abbrev TakesLimits : WorldState → Taking → Type 0
TakesLimits w (Drops reason) = ⊤
TakesLimits w (Does b outs) = LimitsAt w b

seated-limits : (w : WorldState) (b : BrokerState) (t : ℕ) (seat : TabSeat) → LimitsAt w b → (IsHonest w t → is_joined (Some seat) ≡ true → limit_at (Some seat) ≡ live_limit (tab_of w t).in_parts) → LimitsAt w (with_seat t seat b)
seated-limits w b t seat x f u = each_seat b t seat (λ n o. IsHonest w n → is_joined o ≡ true → limit_at o ≡ live_limit (tab_of w n).in_parts) f (λ n d. x n) u

settled-limits : (w : WorldState) (b : BrokerState) (p : ℕ) (m : Locks) → LimitsAt w b → LimitsAt w (settled_at b p m)
unfolding settled_at
settled-limits w b p m x u = x u

module _ (w : WorldState) (b : BrokerState) (x : LimitsAt w b) (t p : ℕ) where
  perform-limits : (n : ℕ) (o : Operation) → is_joined (seat_of b t) ≡ true → TakesLimits w (perform b t p n o)
  unfolding perform
  perform-limits n o j = settled-limits w (with_seat t (Joined p (n + 1) (limit_of b t)) b) p _ (seated-limits w b t (Joined p (n + 1) (limit_of b t)) x (λ h _. x t h j))

  command-limits : (n : ℕ) (o : Operation) → TakesLimits w (take_command b t p n o)
  unfolding take_command
  command-limits n o =
      either (TakesLimits w) (not (is_joined (seat_of b t))) (Drops NotJoined) _ (λ _. tt)
      (λ j. either (TakesLimits w) (not (is_active b p)) (Drops Recovering) _ (λ _. tt)
      (λ _. either (TakesLimits w) (nat_lt (next_of b t) n || n == LAST_NUMBER) (Drops OutOfTurn) _ (λ _. tt)
      (λ _. either (TakesLimits w) (nat_lt n (next_of b t)) (Does b (later_answer b t p n o ∷ [])) _ (λ _. x)
      (λ _. either (TakesLimits w) (is_lock o && nat_le (limit_of b t) (live (manager_of b p) t)) (Drops TooMany) _ (λ _. tt)
      (λ _. perform-limits n o (not-false _ j))))))

  join-limits : (r : Whole) → (IsHonest w t → r.limit ≡ live_limit (tab_of w t).in_parts) → TakesLimits w (join b t p r)
  unfolding join
  join-limits r f = settled-limits w (with_seat t (Joined p r.base r.limit) b) p _ (seated-limits w b t (Joined p r.base r.limit) x (λ h _. f h))

  told-limits : (y : Told) → (IsHonest w t → y.limit ≡ live_limit (tab_of w t).in_parts) → TakesLimits w (take_report_part b t p y)
  unfolding take_report_part join_if with_told
  told-limits y f =
      let k = with_told p y (partial_of b t) in
      either (TakesLimits w) (is_joined (seat_of b t)) (Drops AlreadyJoined) _ (λ _. tt)
      (λ _. either (TakesLimits w) (not (is_listed (listed_at t b.listed)) && has_held y.entries) (Drops HeldByNewcomer) _ (λ _. tt)
      (λ _. either (TakesLimits w) (not (all_below y.base y.entries && fits y (partial_of b t))) (Drops BadReport) _ (λ _. tt)
      (λ _. either (TakesLimits w) (has_part y (partial_of b t)) (Drops PartTwice) _ (λ _. tt)
      (λ _. either (TakesLimits w) (is_whole k) (join b t p (whole_of k)) (Does (keeping t k b) []) (λ _. join-limits (whole_of k) f) (λ _. x)))))

-- A tab that reports at once has the one limit, and one that reports in parts has the other.
part-other : (r : Report) (q : ReportPart) → up.Report r ≡ up.ReportPart q → ⊥
part-other r q e = cc

pub said-at_once : (a : TabState) (r : Report) → IsSaid a (up.Report r) → a.in_parts ≡ false
unfolding report_bodies
said-at_once a r i = ⊎_elim (λ y. absurd (let j = subst (λ b. In (up.Report r) (cond b (told_in_parts a.report) (told_at_once a.report))) y i in let m = In-map_cases _ _ j in part-other r _ m.2)) (λ n. n) (cases_Bool a.in_parts)

pub said-in_parts : (a : TabState) (r : ReportPart) → IsSaid a (up.ReportPart r) → a.in_parts ≡ true
unfolding report_bodies
said-in_parts a r i = ⊎_elim (λ y. y) (λ n. absurd (let j = subst (λ b. In (up.ReportPart r) (cond b (told_in_parts a.report) (told_at_once a.report))) n i in part-other a.report r (sym (In-one j)))) (cases_Bool a.in_parts)

-- A message that an honest tab sent.
inner-limits : (w : WorldState) (b : BrokerState) → Sound (at_broker w (Some b)) → LimitsAt w b → (t p : ℕ) (u : Upward) → In (up_message t p u) w.bag → generation_of u ≡ b.generation → TakesLimits w (take_inner b t p u)
inner-limits w b s x t p (up.Command c) i e = command-limits w b x t p c.number c.operation
inner-limits w b s x t p (up.Report r) i e = told-limits w b x t p (at_once r) (λ h.
    let o = ((s.messages t).reports p (up.Report r) (at_once r) refl i).2 h in
    let lt = (s.tabs t).entered in let c : b.generation ≡ w.kernel.generation = s.current in let le = o.1 in
    let z = said-at_once (tab_of w t) r (o.2 (omega (arith, lt, c, le, e))) in ap live_limit (sym z))
inner-limits w b s x t p (up.ReportPart r) i e = told-limits w b x t p (in_part r) (λ h.
    let o = ((s.messages t).reports p (up.ReportPart r) (in_part r) refl i).2 h in
    let lt = (s.tabs t).entered in let c : b.generation ≡ w.kernel.generation = s.current in let le = o.1 in
    let z = said-in_parts (tab_of w t) r (o.2 (omega (arith, lt, c, le, e))) in ap live_limit (sym z))

taking-limits : (w : WorldState) (b : BrokerState) → Sound (at_broker w (Some b)) → LimitsAt w b → (s : Stamped) → In (Up s) w.bag → TakesLimits w (taking b s)
unfolding taking
taking-limits w b sound x s i =
    either (TakesLimits w) (nat_lt (generation_of s.inner) b.generation) (Drops OldGeneration) _ (λ _. tt)
    (λ lo. either (TakesLimits w) (nat_lt b.generation (generation_of s.inner)) (Drops LaterGeneration) _ (λ _. tt)
    (λ hi. either (TakesLimits w) (is_dead (seat_of b s.tab)) (Drops DeadTab) _ (λ _. tt)
    (λ _. either (TakesLimits w) (is_misplaced b s.tab s.partition) (Drops Misplaced) _ (λ _. tt)
    (λ _. let p = ltb-false (generation_of s.inner) b.generation lo in let q = ltb-false b.generation (generation_of s.inner) hi in
    inner-limits w b sound x s.tab s.partition s.inner i (omega (arith, p, q))))))

buried-limits : (w : WorldState) (b : BrokerState) (t : ℕ) (o : Option ℕ) → LimitsAt w b → LimitsAt w (buried_at b t o).0
buried-limits w b t None x = x
buried-limits w b t (Some p) x = settled-limits w b p _ x

death-limits : (w : WorldState) (b : BrokerState) (t : ℕ) → LimitsAt w b → LimitsAt w (death_step b t).0
unfolding death_step
death-limits w b t x =
    either {A = BrokerState × List Addressed} (λ z. LimitsAt w z.0) (is_dead (seat_of b t)) (b, []) (buried_at (with_seat t Dead b) t (place_of b t))
    (λ _. x)
    (λ _. buried-limits w (with_seat t Dead b) t (place_of b t) (seated-limits w b t Dead x (λ _ j. apart j refl)))

-- Events

-- Nobody has joined a broker that starts.
new-limits : (w : WorldState) (g : ℕ) (listed : List (ℕ × ℕ)) → LimitsAt w (started g listed)
new-limits w g listed t h j = apart j refl

limits-later : (w v : WorldState) → Sound w → Later w v → broker_of v ≡ broker_of w → Limits w → Limits v
limits-later w v s later e x t h j =
    let honest = later.honest t h in
    let joined : is_joined (seat_of (broker_of w) t) ≡ true = subst (λ (z : BrokerState). is_joined (seat_of z t) ≡ true) e j in
    let opened : was_opened w t ≡ true = ⊎_elim (λ y. y) (λ n. absurd (
    let born = (s.tabs t).unopened n in let z : (tab_of w t).entered ≡ 0 = ap (λ y. y.entered) born.1 in
    let c = (s.seats t).joined honest joined in let pos = s.positive in omega (arith, z, c, pos))) (cases_Bool (was_opened w t)) in
    ap (λ (z : BrokerState). limit_of z t) e ∙ (x t honest joined ∙ ap live_limit (sym (later.tabs t opened).in_parts))

follows-limits : (w : WorldState) (b : BrokerState) (o : Taking) → LimitsAt w b → TakesLimits w o → Limits (after (with_broker b w) (follows (with_broker b w) o))
follows-limits w b (Drops reason) s t = s
follows-limits w b (Does c outs) s t = t

up-limits : (w : WorldState) (v : Option BrokerState) → Sound (at_broker w v) → Limits (at_broker w v) → (x : Stamped) → In (Up x) w.bag → Limits (after (at_broker w v) (arrives_at_broker (at_broker w v) x v))
up-limits w None s y x i = y
up-limits w (Some b) s y x i = follows-limits w b (taking b x) y (taking-limits w b s y x i)

tells-limits : (w : WorldState) (v : Option BrokerState) (t : ℕ) → Limits (at_broker w v) → Limits (after (at_broker w v) (tells (at_broker w v) t v))
tells-limits w None t y = y
tells-limits w (Some b) t y =
    either (λ d. Limits (after (at_broker w (Some b)) d)) (is_opened w.kernel t && not (lives w t)) (buries (at_broker w (Some b)) t b) (unchanged (at_broker w (Some b)))
    (λ _. death-limits w b t y)
    (λ _. y)

stops-limits : (w : WorldState) (v : Option BrokerState) → Limits (at_broker w v) → Limits (after (at_broker w v) (stops (at_broker w v) v))
stops-limits w None y = y
stops-limits w (Some b) y =
    either (λ d. Limits (after (at_broker w (Some b)) d)) (may_stop w.kernel) _ (unchanged (at_broker w (Some b))) (λ _ t h j. apart j refl) (λ _. y)

starts-limits : (w : WorldState) (ts : List ℕ) (v : Option BrokerState) → Limits (at_broker w v) → Limits (after (at_broker w v) (starts (at_broker w v) ts v))
starts-limits w ts (Some b) y = y
starts-limits w ts None y =
    either (λ d. Limits (after (at_broker w None) d)) (not (is_some (start_refusal ts w.kernel))) (begins (at_broker w None) ts) (unchanged (at_broker w None)) (λ _ t h j. apart j refl) (λ _. y)

arrives-limits : (w : WorldState) → Good w → Numbered w → Limits w → (m : Message) → In m w.bag → Later w (after w (arrives w m)) → Limits (after w (arrives w m))
arrives-limits w g n y (Up x) i later = up-limits w w.broker g.sound y x i
arrives-limits w g n y (Down v x) i later = limits-later w _ g.sound later (calm-allowed w (lives w x.tab) _ n (λ _. calm-takes_frame w x.tab (frame_of x.inner) n)).broker y
arrives-limits w g n y (Across t x) i later = limits-later w _ g.sound later (calm-allowed w (lives w t) _ n (λ _. calm-becomes w t _ [] n)).broker y

delivered-limits : (w : WorldState) (m : Message) (b : Bool) → Good w → Numbered w → Limits w → (b ≡ true → In m w.bag) → Later w (after w (if_allowed b w (arrives w m))) → Limits (after w (if_allowed b w (arrives w m)))
delivered-limits w m true g n y i later = arrives-limits w g n y m (i refl) later
delivered-limits w m false g n y i later = y

limits-after : (w : WorldState) (e : Event) → Good w → Numbered w → Limits w → Later w (after_event w e) → Limits (after_event w e)
unfolding after_event step_result
limits-after w (event.Deliver m) g n y later = delivered-limits w m (is_sent m w.bag) g n y (λ h. is_sent-In m w.bag h) later
limits-after w (event.Tell t) g n y later = tells-limits w w.broker t y
limits-after w event.Stop g n y later = stops-limits w w.broker y
limits-after w (event.Start ts) g n y later = starts-limits w ts w.broker y
limits-after w e g n y later = limits-later w _ g.sound later (calm w e tt n).broker y

keeps-limits : (es : List Event) (w : WorldState) → Good w → Steady w → Limits w → Limits (run es w)
keeps-limits [] w g y x = x
keeps-limits (e ∷ es) w g y x =
    let later = (happens-on w e g.sound g.fit).later in
    keeps-limits es (after_event w e) (happens-good w e g) (steady-after w e g y later) (limits-after w e g y.numbers x later)

pub run-limits : (es : List Event) → Limits (run es empty_world)
run-limits es = keeps-limits es empty_world (record { sound = run-sound []; fit = empty-fit }) empty-steady (λ t h j. apart j refl)

-- The client of a living honest tab that has joined counts by that limit.
pub sim-limit : (l : Library) (w : WorldState) (t : ℕ) (b : BrokerState) → Sim l w → Limits w → l.hub.supervised.broker ≡ Some b → runs l t ≡ true → is_joined (seat_of b t) ≡ true → limit_of b t ≡ live_limit (client_of l t).locks.in_parts
sim-limit l w t b s x up r j =
    let broker : broker_of w ≡ b = ap (broker_in w.kernel.generation) (sym s.hub.broker ∙ up) in
    let honest : IsHonest w t = subst (λ zs. list_any (λ u. u == t) zs ≡ false) s.taken (not-true _ (and_parts (lives_in l t) (not (is_taken l t)) r).1) in
    let joined : is_joined (seat_of (broker_of w) t) ≡ true = subst (λ (z : BrokerState). is_joined (seat_of z t) ≡ true) (sym broker) j in
    let e : (tab_of w t).entered ≡ w.kernel.generation = (s.good.sound.seats t).joined honest joined in
    let pos = s.good.sound.positive in
    let welcomed : (client_of l t).is_welcomed ≡ true = ⊎_elim (λ y. y) (λ n. absurd (
    let z : (tab_of w t).entered ≡ 0 = ap (λ a. a.entered) ((s.lines t).client.unwelcomed n) in omega (arith, z, e, pos))) (cases_Bool (client_of l t).is_welcomed) in
    sym (ap (λ (z : BrokerState). limit_of z t) broker) ∙ (x t honest joined ∙ ap live_limit (sym (ap (λ a. a.in_parts) ((s.lines t).client.welcomed welcomed))))
