-- In all worlds a release that the broker has still to take names a lock that does not wait there.
use Rattle.std.proofs.Common.{◌≡◌, ℕ, ◌+◌, ◌<◌, length, is_some, refl, ◌∙◌, arith}
use Rattle.std.specs.Prelude.{◌==◌, nat_lt}
use Rattle.std.proofs.lemmas.Bool.{eqb-true, ltb-true}
use Rattle.wl_draft.proofs.Membership.{either}
use Rattle.wl_grammar.specs.declared.frame.Frame.{Frame}
use Rattle.wl_grammar.specs.declared.frame.Frame.TheVariants as frame
use Rattle.wl_agent.specs.Tab.{TabState, status_of, ended as ended_number, enter, enter_first, enter_later, report_of}
use Rattle.wl_agent.specs.declared.delivered.Delivered.{Delivered}
use Rattle.wl_agent.specs.declared.delivered.Delivered.TheVariants as heard
use Rattle.wl_grammar.specs.declared.frame.Snapshot.{Snapshot as Part}
use Rattle.wl_agent.specs.Delivery.{noted, becomes as becomes_status, after_answer, after_part, told_by_answer, part_refusal, parts_of, with_part_come, has_entered, delivery}
use Rattle.wl_tab.specs.Tabs.{told}
use Rattle.wl_quiescence.proofs.calls.Reports.{answer-report, part-report, noted-report}

-- What a frame does to a tab's report

-- The tab goes on in its generation, enters its first one, or reports all that it has issued.
pub data Reports (a b : TabState) : Type 0 where
  GoesOn : b.entered ≡ a.entered → b.report ≡ a.report → Reports a b
  First : a.entered ≡ 0 → Reports a b
  Anew : 0 < b.entered → b.report.base ≡ length a.issued → Reports a b

enter-reports : (g : ℕ) (a : TabState) → 0 < g → Reports a (enter g a)
unfolding enter_first enter_later report_of
enter-reports g a lt = either (Reports a) (a.entered == 0) (enter_first g a) (enter_later g a) (λ y. First (eqb-true a.entered 0 y)) (λ _. Anew lt refl)

answer-entered : (d : Delivered) (a : TabState) → (after_answer d a).entered ≡ a.entered
unfolding becomes_status ended_number
answer-entered (heard.Granted k) a = refl
answer-entered (heard.Null k) a = refl
answer-entered (heard.Lost k) a = refl
answer-entered d a = refl

part-entered : (x : Part) (a : TabState) → (after_part x a).entered ≡ a.entered
unfolding becomes_status
part-entered x a = either (λ z. z.entered ≡ a.entered) (is_some (part_refusal x a)) a (becomes_status x.number (with_part_come x (parts_of (status_of a x.number))) a) (λ _. refl) (λ _. refl)

noted-entered : (upto : ℕ) (a : TabState) → (noted upto a).entered ≡ a.entered
unfolding noted
noted-entered upto a = refl

pub delivery-reports : (f : Frame) (a : TabState) → Reports a (delivery f a).0
unfolding delivery
delivery-reports (frame.Hello x) a = either {A = TabState × Delivered} (λ o. Reports a o.0) (nat_lt a.entered x.generation) _ _ (λ y. let lt = ltb-true a.entered x.generation y in enter-reports x.generation a (omega (arith, lt))) (λ _. GoesOn refl refl)
delivery-reports (frame.Answer x) a =
    let c = after_answer (told_by_answer x a) a in
    either {A = TabState × Delivered} (λ o. Reports a o.0) (has_entered x.generation a) _ _
    (λ _. GoesOn (noted-entered x.upto c ∙ answer-entered (told_by_answer x a) a) (noted-report x.upto c ∙ answer-report (told_by_answer x a) a)) (λ _. GoesOn refl refl)
delivery-reports (frame.Snapshot x) a =
    let c = after_part x a in
    either {A = TabState × Delivered} (λ o. Reports a o.0) (has_entered x.generation a) _ _
    (λ _. GoesOn (noted-entered (x.number + 1) c ∙ part-entered x a) (noted-report (x.number + 1) c ∙ part-report x a)) (λ _. GoesOn refl refl)
delivery-reports f a = GoesOn refl refl

pub told-reports : (a b : TabState) → Reports a b → Reports a (told b)
unfolding told
told-reports a b (GoesOn e r) = GoesOn e r
told-reports a b (First z) = First z
told-reports a b (Anew lt e) = Anew lt e
