use Rattle.std.proofs.Common.{◌≡◌, take}
use Rattle.wl_world_model.specs.World.{empty_world, run}
use Rattle.wl_world.proofs.run.run.Given as goal

abbrev pub invariant-loop-event : goal.invariant-loop-event
invariant-loop-event l =
    record { events : l.world.events ≡ take l.event-index l.events; world : l.world.world ≡ run (take l.event-index l.events) empty_world }
