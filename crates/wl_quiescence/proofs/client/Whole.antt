-- The parts that the broker keeps of a report are never all of them.
use Rattle.std.proofs.Common.{◌≡◌, ℕ, ◌+◌, Bool, true, false, not, ◌&&◌, ◌||◌, List, [], ◌∷◌, Option, Some, None, is_some, sym, ap, ◌∙◌, subst}
use Rattle.std.specs.Prelude.{⊤}
use Rattle.std.specs.Prelude.{◌==◌, nat_lt, nat_le}
use Rattle.wl_draft.specs.Locks.{Locks, live}
use Rattle.wl_draft.proofs.Membership.{either}
use Rattle.wl_grammar.specs.declared.frame.Operation.{Operation}
use Rattle.wl_grammar.specs.declared.frame.Stamped.{Stamped}
use Rattle.wl_grammar.specs.declared.frame.Addressed.{Addressed}
use Rattle.wl_grammar.specs.declared.frame.Upward.{Upward}
use Rattle.wl_grammar.specs.declared.frame.Upward.TheVariants as up
use Rattle.wl_grammar.specs.Generation.{generation_of}
use Rattle.wl_broker_reports.specs.ReportParts.{Partial, Told, Whole, at_once, in_part, has_held, all_below, fits, has_part, with_told, is_whole, whole_of}
use Rattle.wl_broker.specs.declared.seat.TabSeat.{TabSeat}
use Rattle.wl_broker.specs.declared.seat.TabSeat.TheVariants.{Joined, Dead}
use Rattle.wl_broker.specs.declared.dropped.Dropped.TheVariants.{OldGeneration, LaterGeneration, NotJoined, Recovering, OutOfTurn, DeadTab, AlreadyJoined, HeldByNewcomer, BadReport, Misplaced, TooMany, PartTwice}
use Rattle.wl_broker.specs.Broker.{BrokerState, Taking, Drops, Does, seat_of, partial_of, manager_of, is_joined, is_dead, next_of, limit_of, is_active, is_listed, listed_at, is_misplaced, place_of, with_seat, settled_at, later_answer, is_lock, keeping, join, join_if, take_report_part, perform, take_command, take_inner, taking, buried_at, death_step}
use Rattle.wl_limits.specs.declared.tabs.TheConstants.{LAST_NUMBER}
use Rattle.wl_kernel.specs.Kernel.{is_opened, may_stop, start_refusal}
use Rattle.wl_kernel.specs.Routes.{frame_of}
use Rattle.wl_world_messages.specs.declared.message.Message.{Message}
use Rattle.wl_world_messages.specs.declared.message.Message.TheVariants.{Up, Down, Across}
use Rattle.wl_world_messages.specs.Messages.{is_sent}
use Rattle.wl_world_model.specs.declared.event.Event.{Event}
use Rattle.wl_world_model.specs.declared.event.Event.TheVariants as event
use Rattle.wl_world_model.specs.World.{WorldState, empty_world, lives, StepResult, unchanged, if_allowed, arrives_at_broker, arrives, tells, stops, starts, step_result, after_event, run}
use Rattle.wl_world_model.proofs.AtBroker.{with_broker, follows, buries, begins}
use Rattle.wl_world_model.proofs.exclusion.Invariant.{broker_of, broker_in}
use Rattle.wl_world_model.proofs.exclusion.ActsWithinAGeneration.{after}
use Rattle.wl_world_model.proofs.exclusion.ToldParts.{find-without}
use Rattle.wl_world_model.proofs.exclusion.SoundRuns.{run-sound}
use Rattle.wl_world_model.proofs.Tables.{each_found}
use Rattle.wl_library_model.specs.Library.{Step, new_library, run_steps}
use Rattle.wl_library_model.specs.Events.{events}
use Rattle.wl_library_model.proofs.Happens.{Good, happens-on, happens-good, empty-fit}
use Rattle.wl_library_model.proofs.Simulated.{run-sim}
use Rattle.wl_library_model.proofs.ProgressPlaces.{Numbered, Steady, Calm, calm, calm-allowed, calm-takes_frame, calm-becomes, steady-after, empty-steady}
use Rattle.wl_quiescence.proofs.client.Sends.{NoneWhole}

abbrev pub NoneAt : BrokerState → Type 0
NoneAt b = (t : ℕ) → NoneWhole b t

-- Actions of the broker

abbrev Takes : Taking → Type 0
Takes (Drops reason) = ⊤
Takes (Does b outs) = NoneAt b

seated-none : (b : BrokerState) (t : ℕ) (seat : TabSeat) → NoneAt b → NoneAt (with_seat t seat b)
seated-none b t seat h u k e = h u k (find-without t u k b.partial e)

settled-none : (b : BrokerState) (p : ℕ) (m : Locks) → NoneAt b → NoneAt (settled_at b p m)
unfolding settled_at
settled-none b p m h = h

keeping-none : (b : BrokerState) (t : ℕ) (k : Partial) → NoneAt b → is_whole k ≡ false → NoneAt (keeping t k b)
keeping-none b t k h n = each_found (λ _ o. (z : Partial) → o ≡ Some z → is_whole z ≡ false) t k b.partial (λ z e. subst (λ y. is_whole y ≡ false) (same k z e) n) (λ u d. h u)
  where
    same : (k z : Partial) → Some k ≡ Some z → k ≡ z
    same k z e = cc

module _ (b : BrokerState) (h : NoneAt b) (t p : ℕ) where
  perform-none : (n : ℕ) (o : Operation) → Takes (perform b t p n o)
  unfolding perform
  perform-none n o = settled-none (with_seat t (Joined p (n + 1) (limit_of b t)) b) p _ (seated-none b t (Joined p (n + 1) (limit_of b t)) h)

  command-none : (n : ℕ) (o : Operation) → Takes (take_command b t p n o)
  unfolding take_command
  command-none n o =
      either Takes (not (is_joined (seat_of b t))) (Drops NotJoined) _ (λ _. tt)
      (λ _. either Takes (not (is_active b p)) (Drops Recovering) _ (λ _. tt)
      (λ _. either Takes (nat_lt (next_of b t) n || n == LAST_NUMBER) (Drops OutOfTurn) _ (λ _. tt)
      (λ _. either Takes (nat_lt n (next_of b t)) (Does b (later_answer b t p n o ∷ [])) _ (λ _. h)
      (λ _. either Takes (is_lock o && nat_le (limit_of b t) (live (manager_of b p) t)) (Drops TooMany) _ (λ _. tt)
      (λ _. perform-none n o)))))

  join-none : (r : Whole) → Takes (join b t p r)
  unfolding join
  join-none r = settled-none (with_seat t (Joined p r.base r.limit) b) p _ (seated-none b t (Joined p r.base r.limit) h)

  told-none : (y : Told) → Takes (take_report_part b t p y)
  unfolding take_report_part join_if
  told-none y =
      let k = with_told p y (partial_of b t) in
      either Takes (is_joined (seat_of b t)) (Drops AlreadyJoined) _ (λ _. tt)
      (λ _. either Takes (not (is_listed (listed_at t b.listed)) && has_held y.entries) (Drops HeldByNewcomer) _ (λ _. tt)
      (λ _. either Takes (not (all_below y.base y.entries && fits y (partial_of b t))) (Drops BadReport) _ (λ _. tt)
      (λ _. either Takes (has_part y (partial_of b t)) (Drops PartTwice) _ (λ _. tt)
      (λ _. either Takes (is_whole k) (join b t p (whole_of k)) (Does (keeping t k b) [])
      (λ _. join-none (whole_of k))
      (λ n. keeping-none b t k h n)))))

  inner-none : (u : Upward) → Takes (take_inner b t p u)
  inner-none (up.Command c) = command-none c.number c.operation
  inner-none (up.Report r) = told-none (at_once r)
  inner-none (up.ReportPart r) = told-none (in_part r)

taking-none : (b : BrokerState) (s : Stamped) → NoneAt b → Takes (taking b s)
unfolding taking
taking-none b s h =
    either Takes (nat_lt (generation_of s.inner) b.generation) (Drops OldGeneration) _ (λ _. tt)
    (λ _. either Takes (nat_lt b.generation (generation_of s.inner)) (Drops LaterGeneration) _ (λ _. tt)
    (λ _. either Takes (is_dead (seat_of b s.tab)) (Drops DeadTab) _ (λ _. tt)
    (λ _. either Takes (is_misplaced b s.tab s.partition) (Drops Misplaced) _ (λ _. tt)
    (λ _. inner-none b h s.tab s.partition s.inner))))

buried-none : (b : BrokerState) (t : ℕ) (o : Option ℕ) → NoneAt b → NoneAt (buried_at b t o).0
buried-none b t None h = h
buried-none b t (Some p) h = settled-none b p _ h

death-none : (b : BrokerState) (t : ℕ) → NoneAt b → NoneAt (death_step b t).0
unfolding death_step
death-none b t h =
    either {A = BrokerState × List Addressed} (λ z. NoneAt z.0) (is_dead (seat_of b t)) (b, []) (buried_at (with_seat t Dead b) t (place_of b t))
    (λ _. h)
    (λ _. buried-none (with_seat t Dead b) t (place_of b t) (seated-none b t Dead h))

none-some : (k : Partial) → None ≡ Some k → ⊥
none-some k e = cc

-- Events

abbrev at_broker : WorldState → Option BrokerState → WorldState
at_broker w v = record w { broker = v }

abbrev HasNone : WorldState → Type 0
HasNone w = NoneAt (broker_of w)

follows-none : (w : WorldState) (b : BrokerState) (o : Taking) → NoneAt b → Takes o → HasNone (after (with_broker b w) (follows (with_broker b w) o))
follows-none w b (Drops reason) s t = s
follows-none w b (Does c outs) s t = t

up-none : (w : WorldState) (v : Option BrokerState) (x : Stamped) → HasNone (at_broker w v) → HasNone (after (at_broker w v) (arrives_at_broker (at_broker w v) x v))
up-none w None x y = y
up-none w (Some b) x y = follows-none w b (taking b x) y (taking-none b x y)

tells-none : (w : WorldState) (v : Option BrokerState) (t : ℕ) → HasNone (at_broker w v) → HasNone (after (at_broker w v) (tells (at_broker w v) t v))
tells-none w None t y = y
tells-none w (Some b) t y =
    either (λ d. HasNone (after (at_broker w (Some b)) d)) (is_opened w.kernel t && not (lives w t)) (buries (at_broker w (Some b)) t b) (unchanged (at_broker w (Some b)))
    (λ _. death-none b t y)
    (λ _. y)

stops-none : (w : WorldState) (v : Option BrokerState) → HasNone (at_broker w v) → HasNone (after (at_broker w v) (stops (at_broker w v) v))
stops-none w None y = y
stops-none w (Some b) y =
    either (λ d. HasNone (after (at_broker w (Some b)) d)) (may_stop w.kernel) _ (unchanged (at_broker w (Some b)))
    (λ _ t k e. absurd (none-some k e))
    (λ _. y)

starts-none : (w : WorldState) (ts : List ℕ) (v : Option BrokerState) → HasNone (at_broker w v) → HasNone (after (at_broker w v) (starts (at_broker w v) ts v))
starts-none w ts (Some b) y = y
starts-none w ts None y =
    either (λ d. HasNone (after (at_broker w None) d)) (not (is_some (start_refusal ts w.kernel))) (begins (at_broker w None) ts) (unchanged (at_broker w None))
    (λ h t k e. absurd (none-some k e))
    (λ _. y)

calm-none : (w : WorldState) (d : StepResult) → Calm w d → HasNone w → HasNone (after w d)
calm-none w d c y = subst NoneAt (sym c.broker) y

arrives-none : (w : WorldState) → Numbered w → HasNone w → (m : Message) → HasNone (after w (arrives w m))
arrives-none w n y (Up x) = up-none w w.broker x y
arrives-none w n y (Down v x) = calm-none w (arrives w (Down v x)) (calm-allowed w (lives w x.tab) _ n (λ _. calm-takes_frame w x.tab (frame_of x.inner) n)) y
arrives-none w n y (Across t x) = calm-none w (arrives w (Across t x)) (calm-allowed w (lives w t) _ n (λ _. calm-becomes w t _ [] n)) y

delivered-none : (w : WorldState) (m : Message) (b : Bool) → Numbered w → HasNone w → HasNone (after w (if_allowed b w (arrives w m)))
delivered-none w m true n y = arrives-none w n y m
delivered-none w m false n y = y

none-after : (w : WorldState) (e : Event) → Numbered w → HasNone w → HasNone (after_event w e)
unfolding after_event step_result
none-after w (event.Deliver m) n y = delivered-none w m (is_sent m w.bag) n y
none-after w (event.Tell t) n y = tells-none w w.broker t y
none-after w event.Stop n y = stops-none w w.broker y
none-after w (event.Start ts) n y = starts-none w ts w.broker y
none-after w e n y = calm-none w (step_result w e) (calm w e tt n) y

keeps-none : (es : List Event) (w : WorldState) → Good w → Steady w → HasNone w → HasNone (run es w)
keeps-none [] w g s y = y
keeps-none (e ∷ es) w g s y = keeps-none es (after_event w e) (happens-good w e g) (steady-after w e g s (happens-on w e g.sound g.fit).later) (none-after w e s.numbers y)

run-none : (es : List Event) → HasNone (run es empty_world)
run-none es = keeps-none es empty_world (record { sound = run-sound []; fit = empty-fit }) empty-steady (λ t k e. absurd (none-some k e))

-- After any steps of the library
pub steps-none : (steps : List Step) (b : BrokerState) → (run_steps steps new_library).hub.supervised.broker ≡ Some b → NoneAt b
steps-none steps b up =
    let w = run (events steps) empty_world in
    subst NoneAt (ap (broker_in w.kernel.generation) (sym (run-sim steps).hub.broker ∙ up)) (run-none (events steps))
