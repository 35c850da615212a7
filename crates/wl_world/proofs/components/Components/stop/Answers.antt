use Rattle.std.proofs.Common.{sym, ap, ◌∙◌}
use Rattle.wl_supervised_broker.specs.Changes.{stop_change}
use Rattle.wl_supervised_broker.specs.SupervisedStates.{SupervisedState}
use Rattle.wl_world_model.specs.World.{WorldState, stops}
use Rattle.wl_world.specs.Components.{world_of}
use Rattle.wl_world.proofs.calls.LivingRows.{stops-rowed}
use Rattle.wl_world.proofs.calls.SupervisorParts.{changed-world, stops-silent}
use Rattle.wl_world.proofs.components.Components.stop.Goals as goal

pub invariant_of-self : goal.invariant_of-self
invariant_of-self c =
    stops-rowed c.self.inside.supervisor c.stop-said.new.self c.self.inside.tabs.entries c.self.inside.channels.entries c.stop-said.ensures.supervisor c.self.invariant

pub returns-clause-world : goal.returns-clause-world
returns-clause-world c =
    ap (λ (s : SupervisedState). world_of c.self.inside.tabs.entries c.self.inside.channels.entries s c.self.inside.bag c.self.inside.corrupt.items) c.stop-said.ensures.supervisor
    ∙ changed-world c.self.inside.tabs.entries c.self.inside.channels.entries c.self.inside.supervisor c.self.inside.bag c.self.inside.corrupt.items (stop_change c.self.inside.supervisor.kernel c.self.inside.supervisor.broker)
    ∙ ap (λ (w : WorldState). (stops w w.broker).world) c.self.view_is

pub returns-clause-sends : goal.returns-clause-sends
returns-clause-sends c = c.silent.ensures.sends ∙ sym (stops-silent c.args.self.now c.args.self.now.broker)
