use Rattle.std.proofs.Common.{Bool, length, sym, ap, ◌∙◌, subst}
use Rattle.wl_agent.specs.Tab.{TabState}
use Rattle.wl_agent.specs.AgentInvariant.{IsValidReport, entries_of}
use Rattle.wl_agent.proofs.Spellings.{tells, tells-none}
use Rattle.wl_agent.proofs.EnterSteps.{report-first, report-later}
use Rattle.wl_agent.proofs.agent.Agent.next_report.Goals as goal

pub returns-then-self-eq0-clause-report : goal.returns-then-self-eq0-clause-report
returns-then-self-eq0-clause-report c =
    report-first c.args.generation _ _ _ _ c.self.view_is c.if-self-eq0.true c.new-then-self-eq0.ensures c.new.ensures.items

pub returns-clause-report : goal.returns-clause-report
returns-clause-report c =
    report-later c.args.generation _ _ _ _ _ _ c.self.invariant.0 c.self.view_is c.if-self-eq0.false c.count.ensures c.new-2.ensures (c.in_ok-entries.ensures ∙ ap (λ issued. entries_of issued c.self.inside.statuses) c.deref.ensures.value)

pub returns-clause-tellable : goal.returns-clause-tellable
returns-clause-tellable c =
    let entries = c.new-2.ensures ∙ c.in_ok-entries.ensures ∙ ap (λ issued. entries_of issued c.self.inside.statuses) c.deref.ensures.value in
    let base = c.count.ensures ∙ ap (λ (a : TabState). length a.issued) (sym c.self.view_is) in
    subst (λ (b : Bool). IsValidReport b (record { generation = c.args.generation; base = c.count.result; entries = c.new-2.result })) (ap (λ (a : TabState). a.in_parts) c.self.view_is)
    (tells _ _ c.args.generation c.count.result c.new-2.result c.self.invariant.0 c.self.invariant.1.commands base entries)

pub returns-then-self-eq0-clause-tellable : goal.returns-then-self-eq0-clause-tellable
returns-then-self-eq0-clause-tellable c = tells-none _ c.args.generation _ (c.new-then-self-eq0.ensures ∙ c.new.ensures.items)
