use Rattle.wl_agent.proofs.Tidiness.{tidy-ended}
use Rattle.wl_agent.proofs.TabSteps.{step-query}
use Rattle.wl_agent.proofs.agent.Agent.settle_query.Goals as goal

pub invariant_of-self : goal.invariant_of-self
invariant_of-self c =
    (tidy-ended _ c.asking.inside.number _ _ c.self.invariant.0 c.remove.ensures.rest, c.self.invariant.1)

pub invariant_of-self-2 : goal.invariant_of-self-2
invariant_of-self-2 c =
    (tidy-ended _ c.asking.inside.number _ _ c.self.invariant.0 c.remove.ensures.rest, c.self.invariant.1)

pub returns-in-Some-Whole-clause-ok : goal.returns-in-Some-Whole-clause-ok
returns-in-Some-Whole-clause-ok c =
    rw (← c.asking.view_is) (step-query _ _ c.asking.inside.number _ _ c.self.view_is c.remove.ensures.rest c.is_querying.ensures c.if-is_querying.false)

pub returns-clause-ok : goal.returns-clause-ok
returns-clause-ok c =
    rw (← c.asking.view_is) (step-query _ _ c.asking.inside.number _ _ c.self.view_is c.remove.ensures.rest c.is_querying.ensures c.if-is_querying.false)
