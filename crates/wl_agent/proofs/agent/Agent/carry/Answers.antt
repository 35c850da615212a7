use Rattle.std.proofs.Common.{ap, ◌∙◌}
use Rattle.wl_agent.specs.Tab.{carried}
use Rattle.wl_agent.proofs.Tidiness.{tidy-carried}
use Rattle.wl_agent.proofs.agent.Agent.carry.Goals as goal

pub invariant_of-self : goal.invariant_of-self
invariant_of-self c =
    (tidy-carried _ _ _ c.self.invariant.0 (c.carry.ensures ∙ ap (λ issued. carried issued c.self.inside.statuses) c.deref.ensures.value), c.self.invariant.1)
