-- The world after its broker takes a message, takes a death, or starts.
use Rattle.std.proofs.Common.{ℕ, List, Some, map}
use Rattle.wl_grammar.specs.declared.frame.Addressed.{Addressed}
use Rattle.wl_broker.specs.Broker.{BrokerState, started, hellos, Taking, death_step}
use Rattle.wl_kernel.specs.Kernel.{placed}
use Rattle.wl_supervised_broker.specs.Changes.{taking_change}
use Rattle.wl_world_model.specs.World.{WorldState, StepResult, from_broker, supervised}

abbrev pub with_broker : BrokerState → WorldState → WorldState
with_broker b w = record w { broker = Some b }

-- The broker becomes `b` and sends the frames `outs`.
abbrev pub broker_does : WorldState → BrokerState → List Addressed → StepResult
broker_does w b outs = record { world = with_broker b w; sends = map from_broker outs }

abbrev pub follows : WorldState → Taking → StepResult
follows w d = supervised w (taking_change w.kernel d)

abbrev pub buries : WorldState → ℕ → BrokerState → StepResult
buries w t b = broker_does w (death_step b t).0 (death_step b t).1

abbrev pub begins : WorldState → List ℕ → StepResult
begins w ts =
    let g = w.kernel.generation in
    broker_does w (started g (placed ts w.kernel)) (hellos g (placed ts w.kernel))
