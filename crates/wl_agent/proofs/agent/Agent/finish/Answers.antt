use Rattle.std.proofs.Common.{arith}
use Rattle.wl_agent.proofs.Tidiness.{tidy-finish, finish-room}
use Rattle.wl_agent.proofs.Spellings.{spoken-more}
use Rattle.wl_agent.proofs.TabSteps.{step-finish}
use Rattle.wl_agent.proofs.agent.Agent.finish.Goals as goal

pub push_reserved-requires : goal.push_reserved-requires
push_reserved-requires c =
    omega (arith, finish-room _ _ c.args.number _ c.self.invariant.0 c.self.view_is c.requires.keeps, c.self.inside.issued.ok.0)

pub invariant_of-self : goal.invariant_of-self
invariant_of-self c =
    (tidy-finish _ _ c.args.operation c.args.number _ _ _ _ c.self.invariant.0 c.self.view_is c.push_reserved.ensures.items c.end.ensures c.requires.keeps c.push_reserved.ensures.capacity, spoken-more c.args.operation _ c.self.invariant.1 c.requires.spoken c.push_reserved.ensures.items)

pub returns-clause-new : goal.returns-clause-new
returns-clause-new c = step-finish _ _ c.args.operation c.args.number _ _ c.self.view_is c.push_reserved.ensures.items c.end.ensures
