use Rattle.std.proofs.Common.{◌≡◌, ℕ, [], sym, ap, ◌∙◌, rules}
use Rattle.wl_tab.specs.declared.locks.settling.Settlement.{Settlement}
use Rattle.wl_tab.specs.declared.locks.settling.Settlement.TheVariants as fate
use Rattle.wl_tab.specs.Telling.{Run, fate_of, with_fate, told_run}
use Rattle.wl_tab.proofs.Fates.{run_of, run-step, run-none}
use Rattle.wl_tab.proofs.locks.settling.+tell_all.Goals as goal
use Rattle.wl_tab.proofs.locks.settling.+tell_all.Goals.{After-tell}

pub returns-in_err-operation-clause-agent : goal.returns-in_err-operation-clause-agent
returns-in_err-operation-clause-agent t c =
    let none : c.args.kept.now.items ≡ [] = search rules in
    sym (ap (λ (r : Run). r.agent) (run-none c.args.agent.now c.args.kept.now.items none))

pub returns-in_err-operation-clause-kept : goal.returns-in_err-operation-clause-kept
returns-in_err-operation-clause-kept t c =
    let none : c.args.kept.now.items ≡ [] = search rules in
    let left : c.pop.new.self.items ≡ [] = search rules in
    left ∙ sym (ap (λ (r : Run). r.kept) (run-none c.args.agent.now c.args.kept.now.items none))

pub returns-in_err-operation-clause-snapshot : goal.returns-in_err-operation-clause-snapshot
returns-in_err-operation-clause-snapshot t c =
    let none : c.args.kept.now.items ≡ [] = search rules in
    c.from_residual.ensures ∙ sym (ap (λ (r : Run). r.snapshot) (run-none c.args.agent.now c.args.kept.now.items none))

-- The run of all tokens, after the last one is settled.
ran : (t : ℕ) (c : After-tell t) (f : Settlement) → f ≡ fate_of c.tell_all-before.new.agent c.in_ok-operation.field-0.token → with_fate (run_of c.tell_all-before.new.agent c.tell_all-before.new.kept.items c.tell_all-before.result) c.in_ok-operation.field-0 f ≡ told_run c.args.agent.now c.args.kept.now.items
ran t c f told =
    let before = c.tell_all-before.ensures in
    sym (run-step c.args.agent.now c.tell_all-before.new.agent c.pop.new.self.items c.args.kept.now.items c.tell_all-before.new.kept.items c.in_ok-operation.field-0 f c.tell_all-before.result c.in_ok-operation.ensures.items before.agent before.kept before.snapshot told)

pub returns-in-Stays-clause-agent : goal.returns-in-Stays-clause-agent
returns-in-Stays-clause-agent t c =
    c.tell.ensures.agent ∙ ap (λ (r : Run). r.agent) (ran t (goal.at.returns-in-Stays-clause-agent t c).After-tell (fate.Stays c.in-Stays.token) c.in-Stays.ensures.fate)

pub returns-in-Stays-clause-kept : goal.returns-in-Stays-clause-kept
returns-in-Stays-clause-kept t c =
    c.push_reserved.ensures.items ∙ ap (λ (r : Run). r.kept) (ran t (goal.at.returns-in-Stays-clause-kept t c).After-tell (fate.Stays c.in-Stays.token) c.in-Stays.ensures.fate)

pub returns-in-Stays-clause-snapshot : goal.returns-in-Stays-clause-snapshot
returns-in-Stays-clause-snapshot t c =
    ap (λ (r : Run). r.snapshot) (ran t (goal.at.returns-in-Stays-clause-snapshot t c).After-tell (fate.Stays c.in-Stays.token) c.in-Stays.ensures.fate)

pub returns-in-Over-clause-agent : goal.returns-in-Over-clause-agent
returns-in-Over-clause-agent t c =
    c.tell.ensures.agent ∙ ap (λ (r : Run). r.agent) (ran t (goal.at.returns-in-Over-clause-agent t c).After-tell fate.Over c.in-Over.ensures.fate)

pub returns-in-Over-clause-kept : goal.returns-in-Over-clause-kept
returns-in-Over-clause-kept t c =
    ap (λ (r : Run). r.kept) (ran t (goal.at.returns-in-Over-clause-kept t c).After-tell fate.Over c.in-Over.ensures.fate)

pub returns-in-Over-clause-snapshot : goal.returns-in-Over-clause-snapshot
returns-in-Over-clause-snapshot t c =
    ap (λ (r : Run). r.snapshot) (ran t (goal.at.returns-in-Over-clause-snapshot t c).After-tell fate.Over c.in-Over.ensures.fate)

pub returns-in-Whole-clause-agent : goal.returns-in-Whole-clause-agent
returns-in-Whole-clause-agent t c =
    c.tell.ensures.agent ∙ ap (λ (r : Run). r.agent) (ran t (goal.at.returns-in-Whole-clause-agent t c).After-tell (fate.Whole c.in-Whole.snapshot) c.in-Whole.ensures.fate)

pub returns-in-Whole-clause-kept : goal.returns-in-Whole-clause-kept
returns-in-Whole-clause-kept t c =
    ap (λ (r : Run). r.kept) (ran t (goal.at.returns-in-Whole-clause-kept t c).After-tell (fate.Whole c.in-Whole.snapshot) c.in-Whole.ensures.fate)

pub returns-in-Whole-clause-snapshot : goal.returns-in-Whole-clause-snapshot
returns-in-Whole-clause-snapshot t c =
    ap (λ (r : Run). r.snapshot) (ran t (goal.at.returns-in-Whole-clause-snapshot t c).After-tell (fate.Whole c.in-Whole.snapshot) c.in-Whole.ensures.fate)
