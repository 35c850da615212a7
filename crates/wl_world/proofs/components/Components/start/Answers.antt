use Rattle.std.proofs.Common.{List, map, ap, ◌∙◌}
use Rattle.std.proofs.lemmas.Result.{IfOk-weaker}
use Rattle.wl_grammar.specs.declared.frame.Addressed.{Addressed}
use Rattle.wl_supervised_broker.specs.Changes.{start_change}
use Rattle.wl_supervised_broker.specs.SupervisedStates.{SupervisedState}
use Rattle.wl_world_model.specs.World.{WorldState, from_broker, starts}
use Rattle.wl_world.specs.Components.{world_of}
use Rattle.wl_world.proofs.calls.SupervisorParts.{always, changed-world, changed-sends}
use Rattle.wl_world.proofs.components.Components.start.Goals as goal

pub returns-clause-world : goal.returns-clause-world
returns-clause-world c =
    always c.of_broker.result
    (ap (λ (s : SupervisedState). world_of c.self.inside.tabs.entries c.self.inside.channels.entries s c.self.inside.bag c.self.inside.corrupt.items) c.in_ok-outcome.ensures.supervisor
    ∙ changed-world c.self.inside.tabs.entries c.self.inside.channels.entries c.self.inside.supervisor c.self.inside.bag c.self.inside.corrupt.items (start_change c.args.listed.now c.self.inside.supervisor.kernel c.self.inside.supervisor.broker)
    ∙ ap (λ (w : WorldState). (starts w c.args.listed.now w.broker).world) c.self.view_is)

pub returns-clause-sends : goal.returns-clause-sends
returns-clause-sends c =
    IfOk-weaker c.of_broker.result _ _ (λ done e.
    e
    ∙ ap (λ (outs : List Addressed). map from_broker outs) c.in_ok-outcome.ensures.outs
    ∙ changed-sends (world_of c.self.inside.tabs.entries c.self.inside.channels.entries c.self.inside.supervisor c.self.inside.bag c.self.inside.corrupt.items) (start_change c.args.listed.now c.self.inside.supervisor.kernel c.self.inside.supervisor.broker)
    ∙ ap (λ (w : WorldState). (starts w c.args.listed.now w.broker).sends) c.self.view_is)
    c.of_broker.ensures.sends
