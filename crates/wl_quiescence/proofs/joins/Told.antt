-- A tab is served after its report.
use Rattle.std.proofs.Common.{◌≡◌, ◌≢◌, ◌⊎◌, inl, inr, ⊎_elim, ℕ, ◌<◌, Bool, true, false, cond, not, ◌&&◌, List, [], ◌∷◌, ◌++◌, Some, is_some, refl, sym, ap, ◌∙◌, subst, arith}
use Rattle.std.specs.Prelude.{◌==◌}
use Rattle.std.proofs.lemmas.Bool.{cases_Bool, cases_eq, cases_lt, eq-eqb, ne_eqb}
use Rattle.wl_draft.specs.Membership.{In, Here}
use Rattle.wl_draft.specs.declared.row.Entry.{Entry}
use Rattle.wl_draft.proofs.Membership.{apart, either, In-nil, In-head, In-map, In-cons_cases}
use Rattle.wl_grammar.specs.Generation.{generation_of}
use Rattle.wl_grammar.specs.declared.frame.Addressed.{Addressed}
use Rattle.wl_grammar.specs.declared.frame.Frame.{Frame}
use Rattle.wl_grammar.specs.declared.frame.Stamped.{Stamped}
use Rattle.wl_grammar.specs.declared.frame.Upward.{Upward}
use Rattle.wl_grammar.specs.declared.frame.Upward.TheVariants as up
use Rattle.wl_broker_reports.specs.ReportParts.{Partial, Told, at_once, in_part, content_of, has_held, all_below, fits}
use Rattle.wl_broker.specs.Broker.{BrokerState, Taking, seat_of, partial_of, is_joined, is_listed, listed_at, take_report_part, take_inner, taking}
use Rattle.wl_broker.proofs.Drops.{old_generation, later_generation}
use Rattle.wl_broker.proofs.Takings.{Takes, joins, keeps, repeats, performs, taking-Takes}
use Rattle.wl_agent.specs.Tab.{TabState, live_limit, upward_frame}
use Rattle.wl_kernel.specs.Kernel.{KernelState, partition_number}
use Rattle.wl_kernel.specs.Kernel.{tab_of as opened_tab}
use Rattle.wl_supervised_broker.specs.SupervisedStates.{is_active_for, after_message}
use Rattle.wl_supervised_broker.specs.Supervising.{message_effect}
use Rattle.wl_hub.specs.Early.{noted, verdict_of}
use Rattle.wl_hub.specs.Hub.{from_broker}
use Rattle.wl_world_model.specs.World.{WorldState, tab_of, partition_of}
use Rattle.wl_world_model.specs.Sends.{stamped}
use Rattle.wl_world_model.specs.Holdings.{IsHonest}
use Rattle.wl_world_model.proofs.exclusion.Invariant.{Sound, IsSaid, broker_of, opening_in, up_message}
use Rattle.wl_world_model.proofs.exclusion.ToldParts.{IsPartOf, HasParts, body-told}
use Rattle.wl_library_model.specs.Library.{Library, client_of, runs}
use Rattle.wl_library_model.specs.Events.{events}
use Rattle.wl_library_model.specs.Simulation.{GoesUp}
use Rattle.wl_library_model.proofs.Carried.{Sim}
use Rattle.wl_library_model.proofs.ProgressPlaces.{at_broker}
use Rattle.wl_quiescence.proofs.Reached.{IsReached, world_of, reached-sim, reached-current, reached-queries}
use Rattle.wl_quiescence.proofs.rest.Invariant.{View, Tells, Nothing, view, item_of, outputs_to, HasKept, Serves, IsResting}
use Rattle.wl_quiescence.proofs.rest.Broker.{after_taking}
use Rattle.wl_quiescence.proofs.hub.Moves.{grown}
use Rattle.wl_quiescence.proofs.hub.Sender.{outs_of, nothing-serves}
use Rattle.wl_quiescence.proofs.hub.Joins.{taking-inner, report-serves}
use Rattle.wl_quiescence.proofs.hub.Reporting.{StaysEarly, report-early, part-early}
use Rattle.wl_quiescence.proofs.hub.Advances.{ServesSender}
use Rattle.wl_quiescence.proofs.calls.Reports.{run-reports}
use Rattle.wl_quiescence.proofs.client.Frames.{client-locks}
use Rattle.wl_quiescence.proofs.facts.Arrived.{reached-living}
use Rattle.wl_quiescence.proofs.facts.Listed.{reached-listed}
use Rattle.wl_quiescence.proofs.facts.Reported.{TellsLocks, run-tells}
use Rattle.wl_quiescence.proofs.facts.Said.{runs-honest, runs-alive, runs-placed}
use Rattle.wl_quiescence.proofs.facts.Untold.{broker-now}
use Rattle.wl_quiescence.proofs.joins.Calls.{reached-ready}
use Rattle.wl_quiescence.proofs.joins.Rising.{part-In, part-fits, run-rising}
use Rattle.wl_quiescence.proofs.joins.Seats.{MayJoin, joined-kept}
use Rattle.wl_quiescence.proofs.joins.Stored.{some-same, none-some, said-limit, now-said, run-stores}

-- A report, or a part of one

inner-told : (b : BrokerState) (t p : ℕ) (u : Upward) (y : Told) → content_of u ≡ Some y → take_inner b t p u ≡ take_report_part b t p y
inner-told b t p (up.Command c) y e = absurd (none-some y e)
inner-told b t p (up.Report r) y e = ap (take_report_part b t p) (some-same (at_once r) y e)
inner-told b t p (up.ReportPart r) y e = ap (take_report_part b t p) (some-same (in_part r) y e)

item-told : (g : ℕ) (u : Upward) (y : Told) → content_of u ≡ Some y → generation_of u ≡ g → item_of g (upward_frame u) ≡ Tells y
item-told g (up.Command c) y e n = absurd (none-some y e)
item-told g (up.Report r) y e n = ap (λ z. cond z (Tells (at_once r)) Nothing) (eq-eqb r.generation g n) ∙ ap Tells (some-same (at_once r) y e)
item-told g (up.ReportPart r) y e n = ap (λ z. cond z (Tells (in_part r)) Nothing) (eq-eqb r.generation g n) ∙ ap Tells (some-same (in_part r) y e)

item-old : (g : ℕ) (u : Upward) (y : Told) → content_of u ≡ Some y → generation_of u ≢ g → item_of g (upward_frame u) ≡ Nothing
item-old g (up.Command c) y e n = absurd (none-some y e)
item-old g (up.Report r) y e n = ap (λ z. cond z (Tells (at_once r)) Nothing) (ne_eqb r.generation g n)
item-old g (up.ReportPart r) y e n = ap (λ z. cond z (Tells (in_part r)) Nothing) (ne_eqb r.generation g n)

up-sent : (w : WorldState) (t : ℕ) (u : Upward) (y : Told) → content_of u ≡ Some y → GoesUp w t (upward_frame u) → In (stamped w.kernel t u) w.bag
up-sent w t (up.Command c) y e g = absurd (none-some y e)
up-sent w t (up.Report r) y e g = g
up-sent w t (up.ReportPart r) y e g = g

-- Newcomers

listed-some : (t q : ℕ) (xs : List (ℕ × ℕ)) → In (t, q) xs → is_listed (listed_at t xs) ≡ true
listed-some t q [] i = absurd (In-nil i)
listed-some t q (x ∷ xs) i =
    either (λ z. is_listed z ≡ true) (x.0 == t) (Some x.1) (listed_at t xs) (λ _. refl)
    (λ n. listed-some t q xs (⊎_elim (λ e. apart (eq-eqb x.0 t (ap (λ (z : ℕ × ℕ). z.0) (sym e))) n) (λ j. j) (In-cons_cases i)))

none-held : (es : List Entry) → ((e : Entry) → In e es → ⊥) → has_held es ≡ false
none-held [] f = refl
none-held (e ∷ es) f = absurd (f e Here)

listed-or : (a c : Bool) → (a ≡ true) ⊎ (c ≡ false) → (not a && c) ≡ false
listed-or true c o = refl
listed-or false c o = ⊎_elim (λ e. apart e refl) (λ e. e) o

module _ (l : Library) (r : IsReached l) (resting : IsResting l) (b : BrokerState) (u : Upward) (y : Told) (fs : List Frame) (has : l.hub.supervised.broker ≡ Some b) (content : content_of u ≡ Some y) (came : l.hub.arrived ≡ upward_frame u ∷ fs)
    (run : runs l l.hub.sender ≡ true) where
  abbrev t : ℕ
  t = l.hub.sender

  abbrev w : WorldState
  w = world_of l r

  abbrev v : View
  v = view l l.hub.sender

  abbrev x : TabState
  x = tab_of (world_of l r) l.hub.sender

  abbrev a : TabState
  a = (client_of l l.hub.sender).locks

  abbrev gs : List Frame
  gs = fs ++ (l.lines l.hub.sender).up

  abbrev message : Stamped
  message = record { tab = l.hub.sender; partition = partition_number l.hub.supervised.kernel l.hub.sender; inner = u }

  abbrev es : List ℕ
  es = (noted (verdict_of (is_active_for l.hub.sender (after_message message l.hub.supervised)) (message_effect message l.hub.supervised.broker)) l.hub.sender l.hub.early l.hub.greetings).0

  sim : Sim l w
  sim = reached-sim l r

  same : broker_of w ≡ b
  same = broker-now l r b has

  honest : IsHonest w t
  honest = runs-honest l r t run

  serves : Serves v t b
  serves = resting.serving b t has run

  stays : (z : Upward) → content_of z ≡ Some y → l.hub.arrived ≡ upward_frame z ∷ fs → StaysEarly l b z
  stays (up.Command c) e i = absurd (none-some y e)
  stays (up.Report q) e i = report-early l b q fs has i (reached-living l r (upward_frame (up.Report q)) fs i) (reached-current l r b has) (reached-listed l r b has) resting
  stays (up.ReportPart q) e i = part-early l b q fs has i (reached-living l r (upward_frame (up.ReportPart q)) fs i) (reached-current l r b has) (reached-listed l r b has) resting

  early : In t v.early → In t es
  early i = subst (In t) (sym (stays u content came).same) i

  first : v.up ≡ upward_frame u ∷ gs
  first = ap (λ z. cond z l.hub.arrived [] ++ (l.lines t).up) (eq-eqb t t refl) ∙ ap (λ z. z ++ (l.lines t).up) came

  sent : In (up_message t (partition_of w t) u) w.bag
  sent = up-sent w t u y content (sim.hub.arrived honest (upward_frame u) (subst (In (upward_frame u)) (sym came) (In-head refl))).1

  sound : Sound (at_broker w (Some b))
  sound = subst (λ z. Sound (at_broker w z)) (sym sim.hub.broker ∙ has) sim.good.sound

  -- A report of this generation
  module _ (now : generation_of u ≡ b.generation) where
    said : (x.entered ≡ b.generation) × IsSaid x u × (0 < generation_of u)
    said = now-said w b sound t (partition_of w t) u y content sent now honest

    locks : a ≡ record x { acknowledged = a.acknowledged; answered = a.answered }
    locks = client-locks l w t sim (⊎_elim (λ z. z)
        (λ n. let z : x.entered ≡ 0 = ap (λ (q : TabState). q.entered) ((sim.lines t).client.unwelcomed n) in let e = said.0 in let lt = said.2 in absurd (omega (arith, z, e, lt, now)))
        (cases_Bool (client_of l t).is_welcomed))

    part : IsPartOf x.in_parts x.report y
    part = (body-told x.in_parts x.report u y said.1 content).1

    limit : y.limit ≡ live_limit x.in_parts
    limit = said-limit x u y said.1 content

    stored : (k : Partial) → partial_of b t ≡ Some k → HasParts x.in_parts x.report k
    stored k e = (((sim.good.sound.seats t).partial k (ap (λ (z : BrokerState). partial_of z t) same ∙ e)).1 honest).1

    fit : (all_below y.base y.entries && fits y (partial_of b t)) ≡ true
    fit =
        part-fits x.in_parts x.report y (partial_of b t) (run-rising (events r.steps) t) (λ e i. (run-reports (events r.steps) t).1 e.number (In-map (λ (e : Entry). e.number) i)) part
        (λ k e. let h = subst (λ (z : BrokerState). (x.entered ≡ z.generation) → (k : Partial) → partial_of z t ≡ Some k → (k.base ≡ x.report.base) × (k.limit ≡ live_limit x.in_parts)) same (run-stores (events r.steps) t honest) said.0 k e in
        (stored k e, h.0, h.1 ∙ sym limit))

    -- A tab that is not listed reports no lock.
    listed : (not (is_listed (listed_at t b.listed)) && has_held y.entries) ≡ false
    listed =
        let part-now = sim.good.sound.tabs t in
        let current : b.generation ≡ w.kernel.generation = reached-current l r b has ∙ ap (λ (k : KernelState). k.generation) sim.hub.kernel in
        let entered : x.entered ≡ w.kernel.generation = said.0 ∙ current in
        listed-or (is_listed (listed_at t b.listed)) (has_held y.entries)
        (⊎_elim
        (λ lt. inl (listed-some t (partition_of w t) b.listed
        (subst (λ (z : BrokerState). In (t, partition_of w t) z.listed) same ((sim.good.sound.seats t).lists (ap is_some (sym sim.hub.broker ∙ has)) lt (inr entered)))))
        (λ le. inr (none-held y.entries (λ e i. ⊎_elim
        (λ z. let s = said.0 in let pos = said.2 in omega (arith, z, s, pos, now))
        (λ z. In-nil (subst (In e) z.1 (part-In x.in_parts x.report y e part i)))
        (part-now.newcomer (let since = part-now.since in omega (arith, le, since))))))
        (cases_lt (opening_in (opened_tab w.kernel t)) w.kernel.generation))

    may : is_joined (seat_of b t) ≡ false → MayJoin a t v.place b y
    may j = record {
      reported = serves.reported (ap (λ (z : TabState). z.entered) locks ∙ said.0) j;
      ready = reached-ready l t r;
      queries = reached-queries l t r;
      tells = subst TellsLocks (sym locks) (run-tells (events r.steps) t);
      part = subst (λ (z : TabState). IsPartOf z.in_parts z.report y) (sym locks) part;
      limit = subst (λ (z : TabState). y.limit ≡ live_limit z.in_parts) (sym locks) limit;
      stored = λ k e. subst (λ (z : TabState). HasParts z.in_parts z.report k) (sym locks) (stored k e);
      rowless = λ q i e. apart (subst (λ z. is_joined (seat_of b z) ≡ true) e ((resting.keeping b has).rows v.place q i)) j;
    }

    at-join : {z : Upward} {c : BrokerState} {outs : List Addressed} → content_of z ≡ Some y → Takes b t v.place z c outs → is_joined (seat_of b t) ≡ false → is_joined (seat_of c t) ≡ true
        → HasKept (grown v gs (outputs_to t (from_broker outs)) es) t c a
    at-join e (joins {x = q} told passes good whole) j jc = joined-kept v gs es t b q (subst (MayJoin a t v.place b) (some-same y q (sym e ∙ told)) (may j)) whole
    at-join e (keeps told passes good more) j jc = apart jc j
    at-join e (repeats passes served old) j jc = absurd (none-some y e)
    at-join e (performs passes served next) j jc = absurd (none-some y e)

    is : taking b message ≡ take_report_part b t v.place y
    is = taking-inner b t v.place u now (runs-alive l r b t has run) (runs-placed l r b t has) ∙ inner-told b t v.place u y content

    now-serves : ServesSender l b u fs
    now-serves =
        subst (λ o. Serves (grown v gs (outputs_to t (from_broker (outs_of o))) es) t (after_taking b o)) (sym is)
        (report-serves v gs es t b (upward_frame u) y first (item-told b.generation u y content now) early serves
        (λ c outs e j jc. at-join content (taking-Takes b message c outs (is ∙ e)) j jc) u is listed (λ _. fit))

  -- A report of another generation
  old-serves : generation_of u ≢ b.generation → ServesSender l b u fs
  old-serves d =
      let After = λ (o : Taking). Serves (grown v gs (outputs_to t (from_broker (outs_of o))) es) t (after_taking b o) in
      let h = nothing-serves v gs es t b (upward_frame u) first (item-old b.generation u y content d) early serves in
      ⊎_elim
      (λ lt. subst After (sym (old_generation b message lt)) h)
      (λ le. subst After (sym (later_generation b message (omega (arith, le, d)))) h)
      (cases_lt (generation_of u) b.generation)

  told-now : ServesSender l b u fs
  told-now = ⊎_elim now-serves old-serves (cases_eq (generation_of u) b.generation)

-- The hub handles a report, or a part of one, of a tab that is honest and lives.
pub told : (l : Library) → IsReached l → IsResting l → (b : BrokerState) (u : Upward) (y : Told) (fs : List Frame) → l.hub.supervised.broker ≡ Some b → content_of u ≡ Some y
    → l.hub.arrived ≡ upward_frame u ∷ fs → runs l l.hub.sender ≡ true → ServesSender l b u fs
told l r resting b u y fs has content came run = told-now l r resting b u y fs has content came run
