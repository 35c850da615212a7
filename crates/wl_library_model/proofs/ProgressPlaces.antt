-- The broker has each tab under the tab's own partition, and each tab may issue the same number of commands.
use Rattle.std.proofs.Common.{◌≡◌, ℕ, ◌+◌, Bool, true, false, not, ◌&&◌, ◌||◌, List, [], ◌∷◌, length, Option, Some, None, is_some, refl, sym, ap, ◌∙◌, subst}
use Rattle.std.specs.Prelude.{⊤}
use Rattle.std.specs.Prelude.{◌==◌, nat_lt, nat_le}
use Rattle.std.proofs.lemmas.Bool.{not-true, not-false, eqb-true, eq-eqb}
use Rattle.wl_draft.specs.Locks.{Locks, live}
use Rattle.wl_draft.specs.declared.mode.Mode.{Mode}
use Rattle.wl_draft.specs.Membership.{In, Here, Later as Behind}
use Rattle.wl_draft.proofs.Membership.{either}
use Rattle.wl_grammar.specs.declared.frame.Frame.{Frame}
use Rattle.wl_grammar.specs.declared.frame.Frame.TheVariants as frame
use Rattle.wl_grammar.specs.declared.frame.Operation.{Operation}
use Rattle.wl_grammar.specs.declared.frame.Operation.TheVariants.{Request, Release, Abort, Query}
use Rattle.wl_grammar.specs.declared.frame.Snapshot.{Snapshot as Part}
use Rattle.wl_grammar.specs.declared.frame.Stamped.{Stamped}
use Rattle.wl_grammar.specs.declared.frame.Addressed.{Addressed}
use Rattle.wl_grammar.specs.declared.frame.Upward.{Upward}
use Rattle.wl_grammar.specs.declared.frame.Upward.TheVariants as up
use Rattle.wl_grammar.specs.Generation.{generation_of}
use Rattle.wl_broadcast.specs.Channels.{ChannelState, open_refusal as channel_refusal, opened as channel_opened, post_refusal, posted, is_own as is_own_channel, read_at, closed_at}
use Rattle.wl_broker_reports.specs.ReportParts.{Partial, Told, Whole, kept_at, at_once, in_part, has_held, all_below, fits, has_part, partition_or, with_told, is_whole, whole_of}
use Rattle.wl_broker.specs.declared.seat.TabSeat.{TabSeat}
use Rattle.wl_broker.specs.declared.seat.TabSeat.TheVariants.{Joined, Dead}
use Rattle.wl_broker.specs.declared.dropped.Dropped.TheVariants.{OldGeneration, LaterGeneration, NotJoined, Recovering, OutOfTurn, DeadTab, AlreadyJoined, HeldByNewcomer, BadReport, Misplaced, TooMany, PartTwice}
use Rattle.wl_broker.specs.Broker.{BrokerState, Taking, Drops, Does, started, seat_of, partial_of, manager_of, is_joined, is_dead, next_of, limit_of, is_active, is_listed, listed_at, elsewhere, seated_at, is_misplaced, place_of, with_seat, settled_at, later_answer, is_lock, keeping, join, join_if, take_report_part, perform, take_command, take_inner, taking, buried_at, death_step}
use Rattle.wl_limits.specs.declared.tabs.TheConstants.{COMMAND_LIMIT, LAST_NUMBER}
use Rattle.wl_agent.specs.declared.delivered.Delivered.{Delivered}
use Rattle.wl_agent.specs.declared.delivered.Delivered.TheVariants as heard
use Rattle.wl_agent.specs.declared.status.Status.{Status}
use Rattle.wl_agent.specs.declared.status.Status.TheVariants.{Asked, Querying}
use Rattle.wl_agent.specs.SnapshotParts.{no_parts}
use Rattle.wl_agent.specs.Tab.{TabState, born, status_of, is_asked, ask_refusal, query_refusal, asked, queried, aborted, released, issue, finish, ended, enter, enter_first, enter_later}
use Rattle.wl_agent.specs.Tokens.{is_pending, is_holding}
use Rattle.wl_agent.specs.Delivery.{noted, becomes as becomes_status, after_answer, after_part, told_by_answer, part_refusal, parts_of, with_part_come, has_entered, delivery}
use Rattle.wl_origin.specs.Order.{Pair}
use Rattle.wl_kernel.specs.Kernel.{is_opened, open_refusal, opened, killed, may_stop, start_refusal, stranger, placed, partition_number}
use Rattle.wl_kernel.specs.Routes.{frame_of}
use Rattle.wl_tab.specs.Tabs.{told}
use Rattle.wl_world_messages.specs.declared.message.Message.{Message}
use Rattle.wl_world_messages.specs.declared.message.Message.TheVariants.{Up, Down, Across}
use Rattle.wl_world_messages.specs.Messages.{is_sent}
use Rattle.wl_world_messages.proofs.Same.{is_sent-In}
use Rattle.wl_world_model.specs.declared.event.Event.{Event}
use Rattle.wl_world_model.specs.declared.event.Event.TheVariants as event
use Rattle.wl_world_model.specs.declared.event.Forged.{Forged}
use Rattle.wl_world_model.specs.World.{WorldState, empty_world, tab_of, channels_of, lives, is_corrupt, partition_of, issues_command, post_of, StepResult, unchanged, if_allowed, acts, asks, queries, aborts, releases, resends, becomes, opens_channel, posts, reads, closes, forges, takes_frame, with_rows, with_kernel, opens_as, arrives_at_broker, arrives, tells, stops, starts, greets, taken_over, step_result, after_event, run}
use Rattle.wl_world_model.specs.Sends.{issued_messages, resent, to_hearers, forgery}
use Rattle.wl_world_model.proofs.AtBroker.{with_broker, follows, buries, begins}
use Rattle.wl_world_model.proofs.exclusion.Invariant.{Sound, broker_of, was_opened, up_message}
use Rattle.wl_world_model.proofs.exclusion.ActsWithinAGeneration.{after, each_tab}
use Rattle.wl_world_model.proofs.exclusion.TakenSeats.{each_seat}
use Rattle.wl_world_model.proofs.exclusion.ToldParts.{find-without}
use Rattle.wl_world_model.proofs.exclusion.Starting.{none-absent, first_such-none}
use Rattle.wl_world_model.proofs.exclusion.SoundRuns.{run-sound}
use Rattle.wl_world_model.proofs.Tables.{each_found}
use Rattle.wl_library_model.proofs.Later.{Later}
use Rattle.wl_library_model.proofs.Happens.{Good, happens-on, happens-good, empty-fit}

-- Places at the broker

-- The tab was opened, and the number, if there is one, is that of its partition.
abbrev pub IsPlace : WorldState → ℕ → Option ℕ → Type 0
IsPlace w t o = (q : ℕ) → o ≡ Some q → (was_opened w t ≡ true) × (partition_of w t ≡ q)

-- The places at which a tab is listed, has joined or has parts of its report.
abbrev pub PlacedAt : WorldState → BrokerState → ℕ → Type 0
PlacedAt w b t = record { listed : IsPlace w t (listed_at t b.listed); seated : IsPlace w t (seated_at (seat_of b t)); kept : IsPlace w t (kept_at (partial_of b t)) }

abbrev pub Places : WorldState → BrokerState → Type 0
Places w b = (t : ℕ) → PlacedAt w b t

no-place : (w : WorldState) (t : ℕ) → IsPlace w t None
no-place w t q e = absurd (none-some q e)
  where
    none-some : (q : ℕ) → None ≡ Some q → ⊥
    none-some q e = cc

one-place : (w : WorldState) (t p : ℕ) → was_opened w t ≡ true → partition_of w t ≡ p → IsPlace w t (Some p)
one-place w t p o e q s = (o, e ∙ same p q s)
  where
    same : (p q : ℕ) → Some p ≡ Some q → p ≡ q
    same p q e = cc

-- The tab is not misplaced under its own partition.
pub well-placed : (w : WorldState) (b : BrokerState) (t : ℕ) → PlacedAt w b t → is_misplaced b t (partition_of w t) ≡ false
unfolding is_misplaced
well-placed w b t x =
    either-false _ _ _ (here (listed_at t b.listed) x.listed) (here (seated_at (seat_of b t)) x.seated) (here (kept_at (partial_of b t)) x.kept)
  where
    either-false : (a c d : Bool) → a ≡ false → c ≡ false → d ≡ false → (a || (c || d)) ≡ false
    either-false a c d e f g = rw (e, f, g) refl

    here : (o : Option ℕ) → IsPlace w t o → elsewhere o (partition_of w t) ≡ false
    here None f = refl
    here (Some q) f = ap not (eq-eqb q (partition_of w t) (sym (f q refl).1))

-- Actions of the broker

-- A message that the broker takes keeps the places.
abbrev Takes : WorldState → Taking → Type 0
Takes w (Drops reason) = ⊤
Takes w (Does b outs) = Places w b

seated-places : (w : WorldState) (b : BrokerState) (t : ℕ) (seat : TabSeat) → Places w b → IsPlace w t (seated_at (Some seat)) → Places w (with_seat t seat b)
seated-places w b t seat x f u = record {
  listed = (x u).listed;
  seated = each_seat b t seat (λ n o. IsPlace w n (seated_at o)) f (λ n d. (x n).seated) u;
  kept = fewer (partial_of (with_seat t seat b) u) (λ k e. find-without t u k b.partial e);
}
  where
    fewer : (o : Option Partial) → ((k : Partial) → o ≡ Some k → partial_of b u ≡ Some k) → IsPlace w u (kept_at o)
    fewer None g = no-place w u
    fewer (Some k) g = subst (λ z. IsPlace w u (kept_at z)) (g k refl) (x u).kept

settled-places : (w : WorldState) (b : BrokerState) (p : ℕ) (m : Locks) → Places w b → Places w (settled_at b p m)
unfolding settled_at
settled-places w b p m x u = record { listed = (x u).listed; seated = (x u).seated; kept = (x u).kept }

keeping-places : (w : WorldState) (b : BrokerState) (t : ℕ) (k : Partial) → Places w b → IsPlace w t (Some k.partition) → Places w (keeping t k b)
keeping-places w b t k x f u = record {
  listed = (x u).listed;
  seated = (x u).seated;
  kept = each_found (λ n o. IsPlace w n (kept_at o)) t k b.partial f (λ n d. (x n).kept) u;
}

module _ (w : WorldState) (b : BrokerState) (x : Places w b) (t p : ℕ) (here : IsPlace w t (Some p)) where
  perform-places : (n : ℕ) (o : Operation) → Takes w (perform b t p n o)
  unfolding perform
  perform-places n o = settled-places w (with_seat t (Joined p (n + 1) (limit_of b t)) b) p _ (seated-places w b t (Joined p (n + 1) (limit_of b t)) x here)

  command-places : (n : ℕ) (o : Operation) → Takes w (take_command b t p n o)
  unfolding take_command
  command-places n o =
      either (Takes w) (not (is_joined (seat_of b t))) (Drops NotJoined) _ (λ _. tt)
      (λ _. either (Takes w) (not (is_active b p)) (Drops Recovering) _ (λ _. tt)
      (λ _. either (Takes w) (nat_lt (next_of b t) n || n == LAST_NUMBER) (Drops OutOfTurn) _ (λ _. tt)
      (λ _. either (Takes w) (nat_lt n (next_of b t)) (Does b (later_answer b t p n o ∷ [])) _ (λ _. x)
      (λ _. either (Takes w) (is_lock o && nat_le (limit_of b t) (live (manager_of b p) t)) (Drops TooMany) _ (λ _. tt)
      (λ _. perform-places n o)))))

  join-places : (r : Whole) → Takes w (join b t p r)
  unfolding join
  join-places r = settled-places w (with_seat t (Joined p r.base r.limit) b) p _ (seated-places w b t (Joined p r.base r.limit) x here)

  -- A part is kept under the partition of the first one.
  told-place : (y : Told) → IsPlace w t (Some (with_told p y (partial_of b t)).partition)
  unfolding with_told
  told-place y = go (partial_of b t) (x t).kept
    where
      go : (o : Option Partial) → IsPlace w t (kept_at o) → IsPlace w t (Some (partition_or p o))
      go None f = here
      go (Some k) f = f

  told-places : (y : Told) → Takes w (take_report_part b t p y)
  unfolding take_report_part join_if
  told-places y =
      let k = with_told p y (partial_of b t) in
      either (Takes w) (is_joined (seat_of b t)) (Drops AlreadyJoined) _ (λ _. tt)
      (λ _. either (Takes w) (not (is_listed (listed_at t b.listed)) && has_held y.entries) (Drops HeldByNewcomer) _ (λ _. tt)
      (λ _. either (Takes w) (not (all_below y.base y.entries && fits y (partial_of b t))) (Drops BadReport) _ (λ _. tt)
      (λ _. either (Takes w) (has_part y (partial_of b t)) (Drops PartTwice) _ (λ _. tt)
      (λ _. either (Takes w) (is_whole k) (join b t p (whole_of k)) (Does (keeping t k b) [])
      (λ _. join-places (whole_of k))
      (λ _. keeping-places w b t k x (told-place y))))))

  inner-places : (u : Upward) → Takes w (take_inner b t p u)
  inner-places (up.Command c) = command-places c.number c.operation
  inner-places (up.Report r) = told-places (at_once r)
  inner-places (up.ReportPart r) = told-places (in_part r)

taking-places : (w : WorldState) (b : BrokerState) (s : Stamped) → Places w b → IsPlace w s.tab (Some s.partition) → Takes w (taking b s)
unfolding taking
taking-places w b s x here =
    either (Takes w) (nat_lt (generation_of s.inner) b.generation) (Drops OldGeneration) _ (λ _. tt)
    (λ _. either (Takes w) (nat_lt b.generation (generation_of s.inner)) (Drops LaterGeneration) _ (λ _. tt)
    (λ _. either (Takes w) (is_dead (seat_of b s.tab)) (Drops DeadTab) _ (λ _. tt)
    (λ _. either (Takes w) (is_misplaced b s.tab s.partition) (Drops Misplaced) _ (λ _. tt)
    (λ _. inner-places w b x s.tab s.partition here s.inner))))

buried-places : (w : WorldState) (b : BrokerState) (t : ℕ) (o : Option ℕ) → Places w b → Places w (buried_at b t o).0
buried-places w b t None x = x
buried-places w b t (Some p) x = settled-places w b p _ x

death-places : (w : WorldState) (b : BrokerState) (t : ℕ) → Places w b → Places w (death_step b t).0
unfolding death_step
death-places w b t x =
    either {A = BrokerState × List Addressed} (λ z. Places w z.0) (is_dead (seat_of b t)) (b, []) (buried_at (with_seat t Dead b) t (place_of b t))
    (λ _. x)
    (λ _. buried-places w (with_seat t Dead b) t (place_of b t) (seated-places w b t Dead x (no-place w t)))

-- Each listed tab was opened, and is listed under its partition.
started-places : (w : WorldState) (ts : List ℕ) → stranger w.kernel ts ≡ None → Places w (started w.kernel.generation (placed ts w.kernel))
started-places w ts none t = record { listed = go ts (λ u i. not-false _ (first_such-none (λ v. not (is_opened w.kernel v)) ts u none i)); seated = no-place w t; kept = no-place w t }
  where
    go : (us : List ℕ) → ((u : ℕ) → In u us → was_opened w u ≡ true) → IsPlace w t (listed_at t (placed us w.kernel))
    go [] f = no-place w t
    go (u ∷ us) f =
        either (IsPlace w t) (u == t) (Some (partition_number w.kernel u)) (listed_at t (placed us w.kernel))
        (λ e. let same = eqb-true u t e in one-place w t (partition_number w.kernel u) (ap (was_opened w) (sym same) ∙ f u Here) (ap (partition_of w) (sym same)))
        (λ _. go us (λ v i. f v (Behind i)))

-- Numbers of a tab

abbrev pub Numbered : WorldState → Type 0
Numbered w = (t : ℕ) → (tab_of w t).numbers ≡ COMMAND_LIMIT

enter-numbers : (g : ℕ) (a : TabState) → (enter g a).numbers ≡ a.numbers
unfolding enter_first enter_later
enter-numbers g a = either (λ z. z.numbers ≡ a.numbers) (a.entered == 0) (enter_first g a) (enter_later g a) (λ _. refl) (λ _. refl)

answer-numbers : (d : Delivered) (a : TabState) → (after_answer d a).numbers ≡ a.numbers
unfolding becomes_status ended
answer-numbers (heard.Granted k) a = refl
answer-numbers (heard.Null k) a = refl
answer-numbers (heard.Lost k) a = refl
answer-numbers d a = refl

part-numbers : (x : Part) (a : TabState) → (after_part x a).numbers ≡ a.numbers
unfolding becomes_status
part-numbers x a =
    either (λ z. z.numbers ≡ a.numbers) (is_some (part_refusal x a)) a (becomes_status x.number (with_part_come x (parts_of (status_of a x.number))) a) (λ _. refl) (λ _. refl)

noted-numbers : (upto : ℕ) (a : TabState) → (noted upto a).numbers ≡ a.numbers
unfolding noted
noted-numbers upto a = refl

delivery-numbers : (f : Frame) (a : TabState) → (delivery f a).0.numbers ≡ a.numbers
unfolding delivery
delivery-numbers (frame.Hello x) a =
    either {A = TabState × Delivered} (λ o. o.0.numbers ≡ a.numbers) (nat_lt a.entered x.generation) _ _ (λ _. enter-numbers x.generation a) (λ _. refl)
delivery-numbers (frame.Answer x) a =
    either {A = TabState × Delivered} (λ o. o.0.numbers ≡ a.numbers) (has_entered x.generation a) _ _
    (λ _. noted-numbers x.upto (after_answer (told_by_answer x a) a) ∙ answer-numbers (told_by_answer x a) a) (λ _. refl)
delivery-numbers (frame.Snapshot x) a =
    either {A = TabState × Delivered} (λ o. o.0.numbers ≡ a.numbers) (has_entered x.generation a) _ _
    (λ _. noted-numbers (x.number + 1) (after_part x a) ∙ part-numbers x a) (λ _. refl)
delivery-numbers f a = refl

told-numbers : (a : TabState) → (told a).numbers ≡ a.numbers
unfolding told
told-numbers a = refl

issue-numbers : (o : Operation) (s : Status) (a : TabState) → (issue o s a).numbers ≡ a.numbers
unfolding issue
issue-numbers o s a = refl

finish-numbers : (o : Operation) (k : ℕ) (a : TabState) → (finish o k a).numbers ≡ a.numbers
unfolding finish
finish-numbers o k a = refl

-- Events

pub record Steady (w : WorldState) : Type 0 where
  pub places : Places w (broker_of w)
  pub numbers : Numbered w

-- The deed changes no broker and no number of commands.
pub record Calm (w : WorldState) (d : StepResult) : Type 0 where
  pub broker : broker_of (after w d) ≡ broker_of w
  pub numbers : Numbered (after w d)

pub calm-allowed : (w : WorldState) (b : Bool) (d : StepResult) → Numbered w → (b ≡ true → Calm w d) → Calm w (if_allowed b w d)
calm-allowed w b d n f = either (Calm w) b d (unchanged w) f (λ _. record { broker = refl; numbers = n })

calm-acts : (w : WorldState) (t : ℕ) (y : TabState) (ms : List Message) → Numbered w → y.numbers ≡ (tab_of w t).numbers → Calm w (acts w t y ms)
unfolding acts
calm-acts w t y ms n e = record { broker = refl; numbers = each_tab (λ u z. z.numbers ≡ COMMAND_LIMIT) t y w.tabs (e ∙ n t) (λ u d. n u) }

pub calm-becomes : (w : WorldState) (t : ℕ) (c : ChannelState) (ms : List Message) → Numbered w → Calm w (becomes w t c ms)
unfolding becomes
calm-becomes w t c ms n = record { broker = refl; numbers = n }

calm-opens : (i : Bool) (w : WorldState) (t : ℕ) (p : Pair) → Numbered w → Calm w (opens_as i w t p)
calm-opens i w t p n =
    calm-allowed w (not (is_some (open_refusal t p w.kernel))) (with_kernel (opened t p w.kernel) (with_rows i t w)) n
    (λ _. record { broker = refl; numbers = each_tab (λ u z. z.numbers ≡ COMMAND_LIMIT) t (born i t COMMAND_LIMIT) w.tabs refl (λ u d. n u) })

pub calm-takes_frame : (w : WorldState) (t : ℕ) (f : Frame) → Numbered w → Calm w (takes_frame w t f)
calm-takes_frame w t f n = calm-acts w t (told (delivery f (tab_of w t)).0) _ n (told-numbers (delivery f (tab_of w t)).0 ∙ delivery-numbers f (tab_of w t))

calm-greets : (w : WorldState) (t : ℕ) (v : Option BrokerState) → Numbered w → Calm w (greets w t v)
calm-greets w t None n = record { broker = refl; numbers = n }
calm-greets w t (Some b) n = calm-allowed w (lives w t) _ n (λ _. record { broker = refl; numbers = n })

places-later : (w v : WorldState) (b : BrokerState) → Later w v → Places w b → Places v b
places-later w v b later x t = record { listed = on (x t).listed; seated = on (x t).seated; kept = on (x t).kept }
  where
    on : {o : Option ℕ} → IsPlace w t o → IsPlace v t o
    on f q e = let p = f q e in let r = later.opened t p.0 in (r.0, r.1 ∙ p.1)

calm-steady : (w : WorldState) (d : StepResult) → Later w (after w d) → Steady w → Calm w d → Steady (after w d)
calm-steady w d later s c = record { places = subst (Places (after w d)) (sym c.broker) (places-later w (after w d) (broker_of w) later s.places); numbers = c.numbers }

-- The world with another broker, or with none.
abbrev pub at_broker : WorldState → Option BrokerState → WorldState
at_broker w v = record w { broker = v }

-- A message in the bag carries its tab's partition.
sent-place : (w : WorldState) → Sound w → (t p : ℕ) (u : Upward) → In (up_message t p u) w.bag → IsPlace w t (Some p)
sent-place w s t p (up.Command c) i = let o = (s.messages t).commands p c i in one-place w t p o.0 (sym o.1)
sent-place w s t p (up.Report r) i = let o = (s.messages t).reports p (up.Report r) (at_once r) refl i in one-place w t p o.0 (sym o.1)
sent-place w s t p (up.ReportPart r) i = let o = (s.messages t).reports p (up.ReportPart r) (in_part r) refl i in one-place w t p o.0 (sym o.1)

follows-steady : (w : WorldState) (b : BrokerState) (o : Taking) → Steady (with_broker b w) → Takes w o → Steady (after (with_broker b w) (follows (with_broker b w) o))
follows-steady w b (Drops reason) s t = s
follows-steady w b (Does c outs) s t = record { places = t; numbers = s.numbers }

up-steady : (w : WorldState) (v : Option BrokerState) → w.broker ≡ v → Sound w → Steady (at_broker w v) → (x : Stamped) → In (Up x) w.bag → Steady (after (at_broker w v) (arrives_at_broker (at_broker w v) x v))
up-steady w None e s y x i = y
up-steady w (Some b) e s y x i = follows-steady w b (taking b x) y (taking-places w b x y.places (sent-place w s x.tab x.partition x.inner i))

tells-steady : (w : WorldState) (v : Option BrokerState) (t : ℕ) → Steady (at_broker w v) → Steady (after (at_broker w v) (tells (at_broker w v) t v))
tells-steady w None t y = y
tells-steady w (Some b) t y =
    either (λ d. Steady (after (at_broker w (Some b)) d)) (is_opened w.kernel t && not (lives w t)) (buries (at_broker w (Some b)) t b) (unchanged (at_broker w (Some b)))
    (λ _. record { places = death-places w b t y.places; numbers = y.numbers })
    (λ _. y)

stops-steady : (w : WorldState) (v : Option BrokerState) → Steady (at_broker w v) → Steady (after (at_broker w v) (stops (at_broker w v) v))
stops-steady w None y = y
stops-steady w (Some b) y =
    either (λ d. Steady (after (at_broker w (Some b)) d)) (may_stop w.kernel) _ (unchanged (at_broker w (Some b)))
    (λ _. record { places = λ t. record { listed = no-place w t; seated = no-place w t; kept = no-place w t }; numbers = y.numbers })
    (λ _. y)

starts-steady : (w : WorldState) (ts : List ℕ) (v : Option BrokerState) → Steady (at_broker w v) → Steady (after (at_broker w v) (starts (at_broker w v) ts v))
starts-steady w ts (Some b) y = y
starts-steady w ts None y =
    either (λ d. Steady (after (at_broker w None) d)) (not (is_some (start_refusal ts w.kernel))) (begins (at_broker w None) ts) (unchanged (at_broker w None))
    (λ h. record { places = started-places w ts (none-absent ts w.kernel (not-true _ h)).0; numbers = y.numbers })
    (λ _. y)

arrives-steady : (w : WorldState) → Good w → Steady w → (m : Message) → In m w.bag → Later w (after w (arrives w m)) → Steady (after w (arrives w m))
arrives-steady w g y (Up x) i later = up-steady w w.broker refl g.sound y x i
arrives-steady w g y (Down v x) i later = calm-steady w (arrives w (Down v x)) later y (calm-allowed w (lives w x.tab) _ y.numbers (λ _. calm-takes_frame w x.tab (frame_of x.inner) y.numbers))
arrives-steady w g y (Across t x) i later = calm-steady w (arrives w (Across t x)) later y (calm-allowed w (lives w t) _ y.numbers (λ _. calm-becomes w t _ [] y.numbers))

-- A command of the tab

calm-issue : (w : WorldState) (t : ℕ) (o : Operation) (s : Status) (ms : List Message) → Numbered w → Calm w (acts w t (issue o s (tab_of w t)) ms)
calm-issue w t o s ms n = calm-acts w t (issue o s (tab_of w t)) ms n (issue-numbers o s (tab_of w t))

calm-finish : (w : WorldState) (t k : ℕ) (o : Operation) (ms : List Message) → Numbered w → Calm w (acts w t (finish o k (tab_of w t)) ms)
calm-finish w t k o ms n = calm-acts w t (finish o k (tab_of w t)) ms n (finish-numbers o k (tab_of w t))

delivered-steady : (w : WorldState) (m : Message) (b : Bool) → Good w → Steady w → (b ≡ true → In m w.bag) → Later w (after w (if_allowed b w (arrives w m))) → Steady (after w (if_allowed b w (arrives w m)))
delivered-steady w m true g y i later = arrives-steady w g y m (i refl) later
delivered-steady w m false g y i later = y

-- The event is for no broker.
abbrev pub IsElsewhere : Event → Type 0
IsElsewhere (event.Deliver m) = ⊥
IsElsewhere (event.Tell t) = ⊥
IsElsewhere event.Stop = ⊥
IsElsewhere (event.Start ts) = ⊥
IsElsewhere e = ⊤

calm-sends : (w : WorldState) (ms : List Message) → Numbered w → Calm w (record { world = w; sends = ms })
calm-sends w ms n = record { broker = refl; numbers = n }

calm-asks : (w : WorldState) (t : ℕ) (mode : Mode) (b : Bool) (name : List ℕ) → Numbered w → Calm w (asks w t mode b name)
calm-asks w t mode b name n =
    let a = asked mode b name (tab_of w t) in
    calm-allowed w (lives w t && not (is_some (ask_refusal (tab_of w t) name))) (issues_command w t a) n
    (λ _. calm-issue w t (Request mode b name) Asked (issued_messages w.kernel t a (length (tab_of w t).issued)) n)

calm-queries : (w : WorldState) (t : ℕ) → Numbered w → Calm w (queries w t)
calm-queries w t n =
    let a = queried (tab_of w t) in
    calm-allowed w (lives w t && not (is_some (query_refusal (tab_of w t)))) (issues_command w t a) n
    (λ _. calm-issue w t Query (Querying no_parts) (issued_messages w.kernel t a (length (tab_of w t).issued)) n)

calm-aborts : (w : WorldState) (t k : ℕ) → Numbered w → Calm w (aborts w t k)
calm-aborts w t k n =
    let a = aborted k (tab_of w t) in
    calm-allowed w (lives w t && is_pending (tab_of w t) k && is_asked (status_of (tab_of w t) k)) (issues_command w t a) n
    (λ _. calm-finish w t k (Abort k) (issued_messages w.kernel t a (length (tab_of w t).issued)) n)

calm-releases : (w : WorldState) (t k : ℕ) → Numbered w → Calm w (releases w t k)
calm-releases w t k n =
    let a = released k (tab_of w t) in
    calm-allowed w (lives w t && is_holding (tab_of w t) k) (issues_command w t a) n
    (λ _. calm-finish w t k (Release k) (issued_messages w.kernel t a (length (tab_of w t).issued)) n)

calm-resends : (w : WorldState) (t : ℕ) → Numbered w → Calm w (resends w t)
calm-resends w t n = calm-allowed w (lives w t) (record { world = w; sends = resent w.kernel t (tab_of w t) }) n (λ _. calm-sends w (resent w.kernel t (tab_of w t)) n)

calm-opens_channel : (w : WorldState) (t : ℕ) (name : List ℕ) → Numbered w → Calm w (opens_channel w t name)
calm-opens_channel w t name n =
    let c = channel_opened name (channels_of w t) in
    calm-allowed w (lives w t && not (is_some (channel_refusal name (channels_of w t)))) (becomes w t c []) n (λ _. calm-becomes w t c [] n)

calm-posts : (w : WorldState) (t k : ℕ) (bytes : List ℕ) → Numbered w → Calm w (posts w t k bytes)
calm-posts w t k bytes n =
    let c = posted k bytes (channels_of w t) in
    let ms = to_hearers w.kernel t (post_of k bytes (channels_of w t)) in
    calm-allowed w (lives w t && not (is_some (post_refusal t k bytes (channels_of w t)))) (becomes w t c ms) n (λ _. calm-becomes w t c ms n)

calm-reads : (w : WorldState) (t k : ℕ) → Numbered w → Calm w (reads w t k)
calm-reads w t k n =
    let c = read_at k (channels_of w t) in
    calm-allowed w (lives w t && is_own_channel (channels_of w t) t k) (becomes w t c []) n (λ _. calm-becomes w t c [] n)

calm-closes : (w : WorldState) (t k : ℕ) → Numbered w → Calm w (closes w t k)
calm-closes w t k n =
    let c = closed_at k (channels_of w t) in
    calm-allowed w (lives w t && is_own_channel (channels_of w t) t k) (becomes w t c []) n (λ _. calm-becomes w t c [] n)

calm-forges : (w : WorldState) (t : ℕ) (x : Forged) → Numbered w → Calm w (forges w t x)
calm-forges w t x n = calm-allowed w (is_corrupt w t && lives w t) (record { world = w; sends = forgery w.kernel t x }) n (λ _. calm-sends w (forgery w.kernel t x) n)

pub calm : (w : WorldState) (e : Event) → IsElsewhere e → Numbered w → Calm w (step_result w e)
unfolding step_result
calm w (event.Open t p) i n = calm-opens false w t p n
calm w (event.OpenTwo t p) i n = calm-opens true w t p n
calm w (event.Ask t mode name) i n = calm-asks w t mode false name n
calm w (event.Probe t mode name) i n = calm-asks w t mode true name n
calm w (event.Query t) i n = calm-queries w t n
calm w (event.Abort t k) i n = calm-aborts w t k n
calm w (event.Release t k) i n = calm-releases w t k n
calm w (event.Resend t) i n = calm-resends w t n
calm w (event.Channel t name) i n = calm-opens_channel w t name n
calm w (event.Post t k bytes) i n = calm-posts w t k bytes n
calm w (event.Read t k) i n = calm-reads w t k n
calm w (event.Close t k) i n = calm-closes w t k n
calm w (event.Deliver m) i n = absurd i
calm w (event.Kill t) i n = calm-allowed w (lives w t) (with_kernel (killed t w.kernel) w) n (λ _. record { broker = refl; numbers = n })
calm w (event.Tell t) i n = absurd i
calm w event.Stop i n = absurd i
calm w (event.Start ts) i n = absurd i
calm w (event.Hello t) i n = calm-greets w t w.broker n
calm w (event.Corrupt t) i n = calm-allowed w (lives w t) (unchanged (record w { corrupt = taken_over t w.corrupt })) n (λ _. record { broker = refl; numbers = n })
calm w (event.Forge t x) i n = calm-forges w t x n

pub steady-after : (w : WorldState) (e : Event) → Good w → Steady w → Later w (after_event w e) → Steady (after_event w e)
unfolding after_event step_result
steady-after w (event.Deliver m) g y later = delivered-steady w m (is_sent m w.bag) g y (λ h. is_sent-In m w.bag h) later
steady-after w (event.Tell t) g y later = tells-steady w w.broker t y
steady-after w event.Stop g y later = stops-steady w w.broker y
steady-after w (event.Start ts) g y later = starts-steady w ts w.broker y
steady-after w e g y later = calm-steady w (step_result w e) later y (calm w e tt y.numbers)

pub empty-steady : Steady empty_world
empty-steady = record { places = λ t. record { listed = no-place empty_world t; seated = no-place empty_world t; kept = no-place empty_world t }; numbers = λ t. refl }

keeps-steady : (es : List Event) (w : WorldState) → Good w → Steady w → Steady (run es w)
keeps-steady [] w g y = y
keeps-steady (e ∷ es) w g y = keeps-steady es (after_event w e) (happens-good w e g) (steady-after w e g y (happens-on w e g.sound g.fit).later)

pub run-steady : (es : List Event) → Steady (run es empty_world)
run-steady es = keeps-steady es empty_world (record { sound = run-sound []; fit = empty-fit }) empty-steady
