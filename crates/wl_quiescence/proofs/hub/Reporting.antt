-- The steps for a report and for a part of one, from what is said of the tab itself.
use Rattle.std.proofs.Common.{◌≡◌, inl, ℕ, Bool, true, false, not, ◌&&◌, List, ◌∷◌, length, Some, refl, sym, ap, ◌∙◌, subst}
use Rattle.wl_draft.specs.Membership.{In}
use Rattle.wl_draft.proofs.Membership.{In-nil}
use Rattle.wl_grammar.specs.declared.frame.Stamped.{Stamped}
use Rattle.wl_grammar.specs.declared.frame.Upward.TheVariants as up
use Rattle.wl_grammar.specs.declared.frame.Frame.{Frame}
use Rattle.wl_grammar.specs.declared.frame.Frame.TheVariants as frame
use Rattle.wl_broker_reports.specs.ReportParts.{Told}
use Rattle.wl_broker.specs.Broker.{BrokerState, Taking, Drops, Does, seat_of, is_active, taking}
use Rattle.wl_broker.specs.BrokerLaws.{IsListedOnce}
use Rattle.wl_broker.proofs.Takings.{taking-Takes}
use Rattle.wl_kernel.specs.Kernel.{is_living, partition_number}
use Rattle.wl_kernel.specs.Kernel.{tab_of as opened_tab}
use Rattle.wl_supervised_broker.specs.Changes.{message_change}
use Rattle.wl_supervised_broker.specs.SupervisedStates.{is_active_for, changed, after_message}
use Rattle.wl_supervised_broker.specs.Supervising.{message_effect}
use Rattle.wl_hub.specs.Early.{verdict_of, noted}
use Rattle.wl_hub.specs.Hub.{from_broker, after_first}
use Rattle.wl_world_model.proofs.exclusion.CoverExcludes.{living_opened}
use Rattle.wl_library_model.specs.Library.{Library, runs, with_hub}
use Rattle.wl_quiescence.proofs.rest.Invariant.{View, outputs_to, is_answer_in, Serves, IsResting}
use Rattle.wl_quiescence.proofs.rest.Broker.{after_taking}
use Rattle.wl_quiescence.proofs.hub.Moves.{grown}
use Rattle.wl_quiescence.proofs.hub.Others.{AreOf}
use Rattle.wl_quiescence.proofs.hub.Sender.{outs_of, handled-serves}
use Rattle.wl_quiescence.proofs.hub.Reports.{StaysDue, takes-of, report-due, part-due}
use Rattle.wl_quiescence.proofs.hub.Messages.{message-rests, SenderServes}
use Rattle.wl_quiescence.proofs.rest.Broker.{report-seen}
use Rattle.wl_quiescence.proofs.hub.Moves.{Goes}
use Rattle.wl_quiescence.proofs.rest.Invariant.{Tells, item_of, after_item, seen, HasKept}
use Rattle.wl_broker_reports.specs.ReportParts.{has_held, all_below, fits}
use Rattle.wl_broker.specs.Broker.{partial_of, is_joined, is_listed, listed_at, take_report_part}
use Rattle.wl_agent.specs.Tab.{is_report_due}
use Rattle.wl_supervised_broker.specs.Supervising.{taking_said}
use Rattle.wl_grammar.specs.declared.frame.Report.{Report}
use Rattle.wl_grammar.specs.declared.frame.ReportPart.{ReportPart}
use Rattle.wl_quiescence.proofs.hub.Commands.{change-of}
use Rattle.wl_grammar.specs.declared.frame.Upward.{Upward}
use Rattle.wl_agent.specs.Tab.{upward_frame}

-- The tab itself, from its clauses afterwards.
pub told-serves : (v : View) (fs : List Frame) (es : List ℕ) (t : ℕ) (b : BrokerState) (f : Frame) (x : Told) → v.up ≡ f ∷ fs → item_of b.generation f ≡ Tells x
    → (not (is_listed (listed_at t b.listed)) && has_held x.entries) ≡ false → (is_joined (seat_of b t) ≡ false → (all_below x.base x.entries && fits x (partial_of b t)) ≡ true)
    → let o = take_report_part b t v.place x in let more = outputs_to t (from_broker (outs_of o)) in
    Goes v es t b (after_taking b o) → ((g : Frame) → In g more → is_answer_in b.generation g ≡ true → is_joined (seat_of (after_taking b o) t) ≡ true)
    → (is_joined (seat_of (after_taking b o) t) ≡ true → HasKept (grown v fs more es) t (after_taking b o) v.client.locks)
    → Serves v t b → Serves (grown v fs more es) t (after_taking b o)
told-serves v fs es t b f x u item listed fit goes answers kept s =
    let o = take_report_part b t v.place x in
    handled-serves v fs (outputs_to t (from_broker (outs_of o))) es t b (after_taking b o) f u goes answers
    (λ _. inl (report-seen (is_report_due v.client.locks) (length v.client.locks.issued) b t v.place x listed fit
    ∙ ap (λ z. after_item v.place (is_report_due v.client.locks) (length v.client.locks.issued) z (seen b t)) (sym item)))
    kept s

module _ (l : Library) (b : BrokerState) (u : Upward) (f : Frame) (fs : List Frame) (has : l.hub.supervised.broker ≡ Some b) (is : f ≡ upward_frame u) (arrived : l.hub.arrived ≡ f ∷ fs)
    (living : is_living l.hub.supervised.kernel l.hub.sender ≡ true) (current : b.generation ≡ l.hub.supervised.kernel.generation) (once : IsListedOnce b) (resting : IsResting l) where
  abbrev st : Stamped
  st = record { tab = l.hub.sender; partition = partition_number l.hub.supervised.kernel l.hub.sender; inner = u }

  abbrev act : Bool
  act = is_active_for l.hub.sender (after_message st l.hub.supervised)

  waits : act ≡ false → is_active (after_taking b (taking b st)) (partition_number l.hub.supervised.kernel l.hub.sender) ≡ false
  waits e =
      let k = l.hub.supervised.kernel in
      let s = l.hub.sender in
      let same = ap (λ z. changed (message_change st k z) l.hub.supervised) has ∙ change-of l.hub.supervised b (taking b st) has in
      sym (ap (λ z. z && is_active (after_taking b (taking b st)) (partition_number k s)) (living_opened (opened_tab k s) living)) ∙ (sym (ap (is_active_for s) same) ∙ e)

  of-now : (q : Taking) → taking b st ≡ q → AreOf b.generation (outs_of q)
  of-now (Drops r) e = λ a n i y. absurd (In-nil i)
  of-now (Does c outs) e = takes-of b l.hub.sender (partition_number l.hub.supervised.kernel l.hub.sender) (taking-Takes b st c outs e)

  -- The hub keeps its list of early tabs, as the verdict says.
  pub due-now : StaysDue l.hub.supervised.kernel (after_taking b (taking b st)) l.hub.early (noted (verdict_of act (taking_said st (taking b st))) l.hub.sender l.hub.early l.hub.greetings)
      → StaysDue l.hub.supervised.kernel (after_taking b (taking b st)) l.hub.early (noted (verdict_of act (message_effect st l.hub.supervised.broker)) l.hub.sender l.hub.early l.hub.greetings)
  due-now stays = subst (StaysDue l.hub.supervised.kernel (after_taking b (taking b st)) l.hub.early) (sym (ap (λ z. noted (verdict_of act (message_effect st z)) l.hub.sender l.hub.early l.hub.greetings) has)) stays

  told-rests : StaysDue l.hub.supervised.kernel (after_taking b (taking b st)) l.hub.early (noted (verdict_of act (message_effect st l.hub.supervised.broker)) l.hub.sender l.hub.early l.hub.greetings)
      → (runs l l.hub.sender ≡ true → SenderServes l b u f fs has is arrived living current once resting) → IsResting (with_hub (after_first l.hub (f ∷ fs)) l)
  told-rests d own = message-rests l b u f fs has is arrived living current once resting d.due (λ t i. subst (In t) (sym d.same) i) (of-now (taking b st) refl) own

-- A report, or a part of one, leaves the list of early tabs as it is.
abbrev pub StaysEarly : Library → BrokerState → Upward → Type 0
StaysEarly l b u =
    let k = l.hub.supervised.kernel in
    let s = l.hub.sender in
    let m : Stamped = record { tab = s; partition = partition_number k s; inner = u } in
    StaysDue k (after_taking b (taking b m)) l.hub.early (noted (verdict_of (is_active_for s (after_message m l.hub.supervised)) (message_effect m l.hub.supervised.broker)) s l.hub.early l.hub.greetings)

pub report-early : (l : Library) (b : BrokerState) (r : Report) (fs : List Frame) (has : l.hub.supervised.broker ≡ Some b) (arrived : l.hub.arrived ≡ frame.Report r ∷ fs)
    (living : is_living l.hub.supervised.kernel l.hub.sender ≡ true) (current : b.generation ≡ l.hub.supervised.kernel.generation) (once : IsListedOnce b) (resting : IsResting l) → StaysEarly l b (up.Report r)
report-early l b r fs has arrived living current once resting =
    due-now l b (up.Report r) (frame.Report r) fs has refl arrived living current once resting
    (report-due _ l.hub.supervised.kernel b l.hub.sender l.hub.early l.hub.greetings r _ once refl (waits l b (up.Report r) (frame.Report r) fs has refl arrived living current once resting) (resting.keeping b has).early)

pub part-early : (l : Library) (b : BrokerState) (r : ReportPart) (fs : List Frame) (has : l.hub.supervised.broker ≡ Some b) (arrived : l.hub.arrived ≡ frame.ReportPart r ∷ fs)
    (living : is_living l.hub.supervised.kernel l.hub.sender ≡ true) (current : b.generation ≡ l.hub.supervised.kernel.generation) (once : IsListedOnce b) (resting : IsResting l) → StaysEarly l b (up.ReportPart r)
part-early l b r fs has arrived living current once resting =
    due-now l b (up.ReportPart r) (frame.ReportPart r) fs has refl arrived living current once resting
    (part-due _ l.hub.supervised.kernel b l.hub.sender l.hub.early l.hub.greetings r _ once refl (waits l b (up.ReportPart r) (frame.ReportPart r) fs has refl arrived living current once resting) (resting.keeping b has).early)

-- The hub handles a whole report.
pub report-rests : (l : Library) (b : BrokerState) (r : Report) (fs : List Frame) (has : l.hub.supervised.broker ≡ Some b) (arrived : l.hub.arrived ≡ frame.Report r ∷ fs)
    (living : is_living l.hub.supervised.kernel l.hub.sender ≡ true) (current : b.generation ≡ l.hub.supervised.kernel.generation) (once : IsListedOnce b) (resting : IsResting l)
    → (runs l l.hub.sender ≡ true → SenderServes l b (up.Report r) (frame.Report r) fs has refl arrived living current once resting)
    → IsResting (with_hub (after_first l.hub (frame.Report r ∷ fs)) l)
report-rests l b r fs has arrived living current once resting own =
    told-rests l b (up.Report r) (frame.Report r) fs has refl arrived living current once resting (report-early l b r fs has arrived living current once resting) own

-- The hub handles a part of a report.
pub part-rests : (l : Library) (b : BrokerState) (r : ReportPart) (fs : List Frame) (has : l.hub.supervised.broker ≡ Some b) (arrived : l.hub.arrived ≡ frame.ReportPart r ∷ fs)
    (living : is_living l.hub.supervised.kernel l.hub.sender ≡ true) (current : b.generation ≡ l.hub.supervised.kernel.generation) (once : IsListedOnce b) (resting : IsResting l)
    → (runs l l.hub.sender ≡ true → SenderServes l b (up.ReportPart r) (frame.ReportPart r) fs has refl arrived living current once resting)
    → IsResting (with_hub (after_first l.hub (frame.ReportPart r ∷ fs)) l)
part-rests l b r fs has arrived living current once resting own =
    told-rests l b (up.ReportPart r) (frame.ReportPart r) fs has refl arrived living current once resting (part-early l b r fs has arrived living current once resting) own
