-- A report and a part of one, for the tab that sent it: only the clauses at its join are a premise.
use Rattle.std.proofs.Common.{◌≡◌, inr, ⊎_elim, ℕ, ◌<◌, true, false, not, ◌&&◌, List, [], ◌∷◌, refl, sym, ap, ◌∙◌, subst, arith}
use Rattle.std.specs.Prelude.{nat_lt}
use Rattle.wl_draft.specs.Membership.{In}
use Rattle.wl_draft.proofs.Membership.{apart, either, In-nil}
use Rattle.wl_grammar.specs.declared.frame.Addressed.{Addressed}
use Rattle.wl_grammar.specs.declared.frame.Frame.{Frame}
use Rattle.wl_broker_reports.specs.ReportParts.{Told}
use Rattle.wl_broker.specs.Broker.{BrokerState, Taking, Drops, Does, seat_of, taking}
use Rattle.wl_broker.proofs.Takings.{Takes, joins, keeps, repeats, performs, taking-Takes}
use Rattle.wl_hub.specs.Hub.{from_broker}
use Rattle.wl_quiescence.proofs.rest.Invariant.{View, outputs_to, Serves}
use Rattle.wl_quiescence.proofs.rest.Broker.{after_taking}
use Rattle.wl_quiescence.proofs.hub.Moves.{grown}
use Rattle.wl_quiescence.proofs.hub.Others.{takes-moved}
use Rattle.wl_quiescence.proofs.hub.Sender.{outs_of}
use Rattle.wl_quiescence.proofs.hub.Reporting.{told-serves}
use Rattle.wl_quiescence.proofs.hub.Sender.{kept-same, says-cases}
use Rattle.wl_quiescence.proofs.rest.Invariant.{Says}
use Rattle.wl_grammar.specs.Generation.{generation_of}
use Rattle.wl_broker.specs.Broker.{is_dead, is_misplaced, take_inner}
use Rattle.wl_broker.specs.declared.dropped.Dropped.TheVariants.{OldGeneration, LaterGeneration, DeadTab, Misplaced, AlreadyJoined}
use Rattle.wl_broker.proofs.Counting.{seat_of-settled_at}
use Rattle.std.proofs.lemmas.Bool.{cases_Bool, ltb-true}
use Rattle.wl_quiescence.proofs.rest.Invariant.{Tells, item_of, HasKept}
use Rattle.wl_broker_reports.specs.ReportParts.{has_held, all_below, fits}
use Rattle.wl_broker.specs.Broker.{partial_of, is_joined, is_listed, listed_at, take_report_part}
use Rattle.wl_grammar.specs.declared.frame.Upward.{Upward}

pub taking-inner : (b : BrokerState) (t p : ℕ) (u : Upward) → generation_of u ≡ b.generation → is_dead (seat_of b t) ≡ false → is_misplaced b t p ≡ false → taking b (record { tab = t; partition = p; inner = u }) ≡ take_inner b t p u
unfolding taking
taking-inner b t p u g alive placed =
    let Is = λ (z : Taking). z ≡ take_inner b t p u in
    either Is (nat_lt (generation_of u) b.generation) (Drops OldGeneration) _ (λ y. let lt : generation_of u < b.generation = ltb-true (generation_of u) b.generation y in absurd (omega (arith, lt, g)))
    (λ _. either Is (nat_lt b.generation (generation_of u)) (Drops LaterGeneration) _ (λ y. let lt : b.generation < generation_of u = ltb-true b.generation (generation_of u) y in absurd (omega (arith, lt, g)))
    (λ _. either Is (is_dead (seat_of b t)) (Drops DeadTab) _ (λ y. apart y alive)
    (λ _. either Is (is_misplaced b t p) (Drops Misplaced) _ (λ y. apart y placed) (λ _. refl))))

says-tells : (k : ℕ) (x : Told) → Says k ≡ Tells x → ⊥
says-tells k x e = cc

told-joined : (b : BrokerState) (t p : ℕ) (x : Told) → is_joined (seat_of b t) ≡ true → take_report_part b t p x ≡ Drops AlreadyJoined
unfolding take_report_part
told-joined b t p x j = either (λ z. z ≡ Drops AlreadyJoined) (is_joined (seat_of b t)) (Drops AlreadyJoined) _ (λ _. refl) (λ y. apart j y)

-- Frames go only to a tab that has joined.
sent-joined : (b : BrokerState) (t p : ℕ) {u : Upward} {c : BrokerState} {outs : List Addressed} {g : Frame} → Takes b t p u c outs → In g (outputs_to t (from_broker outs)) → is_joined (seat_of c t) ≡ true
sent-joined b t p (joins told passes may whole) i = ap is_joined (seat_of-settled_at b t _ p _)
sent-joined b t p (keeps told passes may part) i = absurd (In-nil i)
sent-joined b t p (repeats passes served old) i = served.joined
sent-joined b t p (performs passes served next) i = ap is_joined (seat_of-settled_at b t _ p _)

-- The clauses of a tab after its report was taken: those from before it, unless the tab joins now.
module _ (v : View) (fs : List Frame) (es : List ℕ) (t : ℕ) (b : BrokerState) (f : Frame) (x : Told) (first : v.up ≡ f ∷ fs) (item : item_of b.generation f ≡ Tells x) (early : In t v.early → In t es) (s : Serves v t b)
    (join : (c : BrokerState) (outs : List Addressed) → take_report_part b t v.place x ≡ Does c outs → is_joined (seat_of b t) ≡ false → is_joined (seat_of c t) ≡ true → HasKept (grown v fs (outputs_to t (from_broker outs)) es) t c v.client.locks) where
  dropped-kept : is_joined (seat_of b t) ≡ true → HasKept (grown v fs [] es) t b v.client.locks
  dropped-kept j =
      kept-same v fs [] es t b early (λ y i. In-nil i)
      (λ k lt e i. ⊎_elim (λ z. absurd (says-tells k x (z ∙ item))) (λ z. inr (inr (inr (inr z)))) (says-cases v fs [] es b.generation k f first i)) (s.kept j)

  -- A tab that has joined has its report dropped.
  pub after-kept : (o : Taking) → take_report_part b t v.place x ≡ o → (is_joined (seat_of b t) ≡ true → (c : BrokerState) (outs : List Addressed) → o ≡ Does c outs → ⊥) → is_joined (seat_of (after_taking b o) t) ≡ true
      → HasKept (grown v fs (outputs_to t (from_broker (outs_of o))) es) t (after_taking b o) v.client.locks
  after-kept (Drops r) e never j = dropped-kept j
  after-kept (Does c outs) e never j = ⊎_elim (λ y. absurd (never y c outs refl)) (λ y. join c outs e y j) (cases_Bool (is_joined (seat_of b t)))

  -- The tab is served after its report, if its clauses hold at the join.
  pub report-serves : (u : Upward) → taking b (record { tab = t; partition = v.place; inner = u }) ≡ take_report_part b t v.place x → (not (is_listed (listed_at t b.listed)) && has_held x.entries) ≡ false
      → (is_joined (seat_of b t) ≡ false → (all_below x.base x.entries && fits x (partial_of b t)) ≡ true)
      → Serves (grown v fs (outputs_to t (from_broker (outs_of (take_report_part b t v.place x)))) es) t (after_taking b (take_report_part b t v.place x))
  report-serves u is listed fit =
      told-serves v fs es t b f x first item listed fit
      (record {
        generation = generation (take_report_part b t v.place x) refl;
        noted = early;
        joined = λ j. subst (λ z. is_joined (seat_of (after_taking b z) t) ≡ true) (sym (told-joined b t v.place x j)) j;
      })
      (λ g i _. answers (take_report_part b t v.place x) refl g i)
      (after-kept (take_report_part b t v.place x) refl (λ j c outs e. drops-does (sym (told-joined b t v.place x j) ∙ e))) s
    where
      drops-does : {c : BrokerState} {outs : List Addressed} → Drops AlreadyJoined ≡ Does c outs → ⊥
      drops-does e = cc

      generation : (o : Taking) → take_report_part b t v.place x ≡ o → (after_taking b o).generation ≡ b.generation
      generation (Drops r) e = refl
      generation (Does c outs) e = (takes-moved b t v.place (taking-Takes b _ c outs (is ∙ e))).generation

      answers : (o : Taking) → take_report_part b t v.place x ≡ o → (g : Frame) → In g (outputs_to t (from_broker (outs_of o))) → is_joined (seat_of (after_taking b o) t) ≡ true
      answers (Drops r) e g i = absurd (In-nil i)
      answers (Does c outs) e g i = sent-joined b t v.place (taking-Takes b _ c outs (is ∙ e)) i
