use Rattle.std.proofs.Common.{sym, ◌∙◌}
use Rattle.wl_agent.proofs.Tidiness.{tidy-part}
use Rattle.wl_agent.proofs.Deliveries.{not-refused, step-part}
use Rattle.wl_agent.proofs.agent.Agent.take_part.Goals as goal

pub invariant_of-self-2 : goal.invariant_of-self-2
invariant_of-self-2 c =
    let p = c.args.part.now in
    let taken = sym c.part_refusal.ensures ∙ c.in_default.is in
    (tidy-part _ _ p p.number _ _ _ c.self.invariant.0 c.self.view_is c.in_ok-take_part.ensures.ok (not-refused p c.args.self.now taken), c.self.invariant.1)

pub returns-clause-ok : goal.returns-clause-ok
returns-clause-ok c =
    step-part _ _ c.args.part.now _ c.self.view_is c.in_ok-take_part.ensures.ok (sym c.part_refusal.ensures ∙ c.in_default.is)
