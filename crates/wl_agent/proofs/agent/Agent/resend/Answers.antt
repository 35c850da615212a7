use Rattle.std.proofs.Common.{◌≡◌, ◌-◌, ◌≤◌, [], ◌∷◌, ◌++◌, length, refl, ap, ◌∙◌, append_assoc, arith}
use Rattle.std.specs.List.{range_with_len}
use Rattle.wl_agent.specs.Tab.{TabState}
use Rattle.wl_agent.proofs.Walks.{none-due, due-is, nothing-due, range-more}
use Rattle.wl_agent.proofs.Outcomes.{on_err}
use Rattle.wl_agent.proofs.agent.Agent.resend.Goals as goal

pub returns-then-self-eq0-clause-numbers : goal.returns-then-self-eq0-clause-numbers
returns-then-self-eq0-clause-numbers c = none-due _ _ _ c.self.view_is c.if-self-eq0.true c.new.ensures.items

pub loop-number-preserved : goal.loop-number-preserved
loop-number-preserved c =
    let low = c.in_ok-numbers.numbers.items in
    let a = c.args.self.now.acknowledged in
    let n = c.loop-number.number in
    let at = ap (λ (x : TabState). x.acknowledged) c.self.view_is in
    let from : a ≤ n = omega (arith, at, c.loop-number.auto.number) in
    c.in_ok-push.ensures.items ∙ ap (λ xs. xs ++ n ∷ []) c.loop-number.invariant ∙ append_assoc low (range_with_len a (n - a)) (n ∷ []) ∙ ap (λ xs. low ++ xs) (range-more a n from)

pub returns-clause-numbers : goal.returns-clause-numbers
returns-clause-numbers c =
    let a = c.args.self.now in
    let at = ap (λ (x : TabState). x.acknowledged) c.self.view_is in
    let within = ap (λ (x : TabState). length x.issued) c.self.view_is in
    let more : c.loop-number.number - a.acknowledged ≡ length a.issued - a.acknowledged = omega (arith, at, c.loop-number.auto.number-end, c.loop-number-test.false, c.count-number-end.ensures, within, c.self.invariant.0.acknowledged) in
    due-is _ a _ _ _ _ c.self.invariant.0 c.self.view_is c.if-self-eq0.false more c.in_ok-numbers.ensures.numbers c.loop-number.invariant

pub returns-in_err-numbers-clause-growth : goal.returns-in_err-numbers-clause-growth
returns-in_err-numbers-clause-growth c =
    on_err c.from_residual.result _ (λ none. c.in_err-numbers.ensures.growth (nothing-due _ c.args.self.now _ _ c.self.invariant.0 c.self.view_is c.if-self-eq0.false refl none).0)

pub returns-in_err-push-clause-growth : goal.returns-in_err-push-clause-growth
returns-in_err-push-clause-growth c =
    let a = c.args.self.now in
    let at = ap (λ (x : TabState). x.acknowledged) c.self.view_is in
    let within = ap (λ (x : TabState). length x.issued) c.self.view_is in
    on_err c.from_residual-in_err-push.result _ (λ none.
    let all : length a.issued - a.acknowledged ≡ 0 = (nothing-due _ a _ _ c.self.invariant.0 c.self.view_is c.if-self-eq0.false refl none).1 in
    omega (arith, at, within, all, c.count-number-end.ensures, c.loop-number.auto.number, c.loop-number-test.true))
