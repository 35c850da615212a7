-- The hub handles a report or a part of one, whole but for the clauses of a tab that joins.
use Rattle.std.proofs.Common.{◌≡◌, ℕ, Bool, true, false, not, ◌&&◌, List, [], length, refl, sym, ap, ◌∙◌, subst}
use Rattle.std.specs.Prelude.{if◌then◌else◌, nat_lt}
use Rattle.wl_draft.specs.Locks.{restored}
use Rattle.wl_draft.proofs.Membership.{apart, either, In-nil}
use Rattle.wl_grammar.specs.declared.frame.Addressed.{Addressed}
use Rattle.wl_grammar.specs.declared.frame.Upward.TheVariants as up
use Rattle.wl_broker_reports.specs.ReportParts.{Told}
use Rattle.wl_broker.specs.declared.seat.TabSeat.TheVariants.{Joined}
use Rattle.wl_broker.specs.Broker.{BrokerState, Taking, Drops, Does, seat_of, manager_of, is_active, with_seat, taking}
use Rattle.wl_broker.specs.BrokerLaws.{IsListedOnce}
use Rattle.wl_broker.proofs.Takings.{Takes, joins, keeps, repeats, performs, taking-Takes, after_report}
use Rattle.wl_kernel.specs.Kernel.{KernelState, partition_number}
use Rattle.wl_hub.specs.Early.{verdict_of, noted}
use Rattle.wl_quiescence.proofs.rest.Broker.{after_taking}
use Rattle.wl_quiescence.proofs.hub.Others.{AreOf, grants-of, settled-generation}
use Rattle.wl_quiescence.proofs.hub.Taken.{AreDue, IsVerdict, early, other, drops-verdict}
use Rattle.wl_quiescence.proofs.hub.Commands.{command-of}
use Rattle.wl_quiescence.proofs.hub.Messages.{due-all, due-same, due-waiting}
use Rattle.wl_world_messages.specs.declared.effect.Effect.TheVariants as said
use Rattle.wl_world_messages.specs.declared.effect.Reason.TheVariants as reason
use Rattle.wl_broker.proofs.Activity.{is_active-keeping}
use Rattle.wl_broker.proofs.Counting.{seat_of-settled_at}
use Rattle.wl_supervised_broker.specs.Supervising.{taking_said, taken_said}
use Rattle.wl_broker_reports.specs.ReportParts.{has_held, all_below, fits, has_part, with_told, is_whole, whole_of, at_once, in_part}
use Rattle.wl_broker.specs.declared.dropped.Dropped.{Dropped}
use Rattle.wl_broker.specs.declared.dropped.Dropped.TheVariants.{OldGeneration, LaterGeneration, Recovering, DeadTab, Misplaced, AlreadyJoined, HeldByNewcomer, BadReport, PartTwice}
use Rattle.wl_broker.specs.Broker.{partial_of, is_joined, is_dead, is_misplaced, is_listed, listed_at, keeping, join, join_if, take_report_part, take_inner}
use Rattle.wl_grammar.specs.declared.frame.Report.{Report}
use Rattle.wl_grammar.specs.declared.frame.ReportPart.{ReportPart}
use Rattle.wl_grammar.specs.Generation.{generation_of}
use Rattle.wl_grammar.specs.declared.frame.Upward.{Upward}

-- Answers

pub takes-of : (b : BrokerState) (s p : ℕ) {u : Upward} {c : BrokerState} {outs : List Addressed} → Takes b s p u c outs → AreOf b.generation outs
takes-of b s p (joins {x = x} told passes may whole) =
    let r = whole_of (with_told p x (partial_of b s)) in
    λ o m i y. grants-of (after_report b s p r) _ o m i y ∙ settled-generation (with_seat s (Joined p r.base r.limit) b) p (restored s r.entries (manager_of b p))
takes-of b s p (keeps told passes may part) = λ o m i y. absurd (In-nil i)
takes-of b s p (repeats passes served old) = command-of b s p (repeats passes served old)
takes-of b s p (performs passes served next) = command-of b s p (performs passes served next)

-- No report is dropped as early

abbrev NotEarly : Taking → Type 0
NotEarly o = o ≡ Drops Recovering → ⊥

told-late : (b : BrokerState) (t p : ℕ) (x : Told) → NotEarly (take_report_part b t p x)
unfolding take_report_part join_if join
told-late b t p x =
    let y = with_told p x (partial_of b t) in
    either NotEarly (is_joined (seat_of b t)) (Drops AlreadyJoined) _ (λ _ e. cc)
    (λ _. either NotEarly (not (is_listed (listed_at t b.listed)) && has_held x.entries) (Drops HeldByNewcomer) _ (λ _ e. cc)
    (λ _. either NotEarly (not (all_below x.base x.entries && fits x (partial_of b t))) (Drops BadReport) _ (λ _ e. cc)
    (λ _. either NotEarly (has_part x (partial_of b t)) (Drops PartTwice) _ (λ _ e. cc)
    (λ _. either NotEarly (is_whole y) (join b t p (whole_of y)) (Does (keeping t y b) []) (λ _ e. cc) (λ _ e. cc)))))

taking-late : (b : BrokerState) (t p : ℕ) (u : Upward) → NotEarly (take_inner b t p u) → NotEarly (taking b (record { tab = t; partition = p; inner = u }))
unfolding taking
taking-late b t p u late =
    either NotEarly (nat_lt (generation_of u) b.generation) (Drops OldGeneration) _ (λ _ e. cc)
    (λ _. either NotEarly (nat_lt b.generation (generation_of u)) (Drops LaterGeneration) _ (λ _ e. cc)
    (λ _. either NotEarly (is_dead (seat_of b t)) (Drops DeadTab) _ (λ _ e. cc)
    (λ _. either NotEarly (is_misplaced b t p) (Drops Misplaced) _ (λ _ e. cc) (λ _. late))))

pub report-late : (b : BrokerState) (t p : ℕ) (r : Report) → NotEarly (taking b (record { tab = t; partition = p; inner = up.Report r }))
report-late b t p r = taking-late b t p (up.Report r) (told-late b t p (at_once r))

pub part-late : (b : BrokerState) (t p : ℕ) (r : ReportPart) → NotEarly (taking b (record { tab = t; partition = p; inner = up.ReportPart r }))
part-late b t p r = taking-late b t p (up.ReportPart r) (told-late b t p (in_part r))

-- Verdicts

noted-joined : (a : Bool) (s : ℕ) (ts : List ℕ) (n : ℕ) → noted (verdict_of a (said.Joined s)) s ts n ≡ (ts, if a then length ts else n)
noted-joined true s ts n = refl
noted-joined false s ts n = refl

-- The early tabs are the same, and stay due or recover.
pub record StaysDue (k : KernelState) (c : BrokerState) (ts : List ℕ) (x : List ℕ × ℕ) : Type 0 where
  pub same : x.0 ≡ ts
  pub due : AreDue k c x

joined-due : (a : Bool) (k : KernelState) (b c : BrokerState) (s : ℕ) (ts : List ℕ) (n : ℕ) {u : Upward} {outs : List Addressed} → IsListedOnce b → Takes b s (partition_number k s) u c outs → (a ≡ false → is_active c (partition_number k s) ≡ false)
    → AreDue k b (ts, n) → StaysDue k c ts (noted (verdict_of a (said.Joined s)) s ts n)
joined-due true k b c s ts n once takes waits due = record { same = refl; due = due-all k c ts }
joined-due false k b c s ts n once takes waits due = record { same = refl; due = due-waiting k b c s ts n once takes (waits refl) due }

dropped-due : (a : Bool) (k : KernelState) (b : BrokerState) (s : ℕ) (ts : List ℕ) (n : ℕ) (r : Dropped) → NotEarly (Drops r) → AreDue k b (ts, n)
    → StaysDue k b ts (noted (verdict_of a (said.Dropped (reason.AtBroker r))) s ts n)
dropped-due a k b s ts n r late due = go _ (drops-verdict a r)
  where
    go : (f : ℕ → List ℕ → ℕ → List ℕ × ℕ) → IsVerdict (Drops r) f → StaysDue k b ts (f s ts n)
    go f (early e g) = absurd (late e)
    go f (other g d) = subst (StaysDue k b ts) (sym (g s ts n)) (record { same = refl; due = due })

-- A whole report.
pub report-due : (a : Bool) (k : KernelState) (b : BrokerState) (s : ℕ) (ts : List ℕ) (n : ℕ) (r : Report) (o : Taking) → IsListedOnce b → taking b (record { tab = s; partition = partition_number k s; inner = up.Report r }) ≡ o
    → (a ≡ false → is_active (after_taking b o) (partition_number k s) ≡ false) → AreDue k b (ts, n)
    → StaysDue k (after_taking b o) ts (noted (verdict_of a (taking_said (record { tab = s; partition = partition_number k s; inner = up.Report r }) o)) s ts n)
report-due a k b s ts n r (Drops d) once e waits due = dropped-due a k b s ts n d (λ f. report-late b s (partition_number k s) r (e ∙ f)) due
report-due a k b s ts n r (Does c outs) once e waits due = joined-due a k b c s ts n once (taking-Takes b _ c outs e) waits due

-- A part of a report.
part-taken : (a : Bool) (k : KernelState) (b c : BrokerState) (s : ℕ) (ts : List ℕ) (n : ℕ) (r : ReportPart) {outs : List Addressed} → IsListedOnce b → Takes b s (partition_number k s) (up.ReportPart r) c outs
    → (a ≡ false → is_active c (partition_number k s) ≡ false) → AreDue k b (ts, n) → StaysDue k c ts (noted (verdict_of a (taken_said c s (up.ReportPart r))) s ts n)
part-taken a k b c s ts n r once takes waits due =
    either (λ z. StaysDue k c ts (noted (verdict_of a z) s ts n)) (is_joined (seat_of c s)) (said.Joined s) (said.Part r.part r.parts)
    (λ _. joined-due a k b c s ts n once takes waits due)
    (λ j. record { same = refl; due = due-same k b c ts n (still takes j) due })
  where
    still : {c : BrokerState} {u : Upward} {outs : List Addressed} → Takes b s (partition_number k s) u c outs → is_joined (seat_of c s) ≡ false → (q : ℕ) → is_active c q ≡ is_active b q
    still (joins told passes may whole) j q = apart (ap is_joined (seat_of-settled_at b s _ (partition_number k s) _)) j
    still (keeps {x = x} told passes may part) j q = is_active-keeping b s (with_told (partition_number k s) x (partial_of b s)) q
    still (repeats passes served old) j q = refl
    still (performs passes served next) j q = apart (ap is_joined (seat_of-settled_at b s _ (partition_number k s) _)) j

pub part-due : (a : Bool) (k : KernelState) (b : BrokerState) (s : ℕ) (ts : List ℕ) (n : ℕ) (r : ReportPart) (o : Taking) → IsListedOnce b → taking b (record { tab = s; partition = partition_number k s; inner = up.ReportPart r }) ≡ o
    → (a ≡ false → is_active (after_taking b o) (partition_number k s) ≡ false) → AreDue k b (ts, n)
    → StaysDue k (after_taking b o) ts (noted (verdict_of a (taking_said (record { tab = s; partition = partition_number k s; inner = up.ReportPart r }) o)) s ts n)
part-due a k b s ts n r (Drops d) once e waits due = dropped-due a k b s ts n d (λ f. part-late b s (partition_number k s) r (e ∙ f)) due
part-due a k b s ts n r (Does c outs) once e waits due = part-taken a k b c s ts n r once (taking-Takes b _ c outs e) waits due
