use Rattle.std.proofs.Common.{◌≡◌, drop}
use Rattle.wl_frames.specs.Bodies.{tabs_rise}
use Rattle.wl_frames.proofs.reading.bodies.tabs_rise.Given as goal

abbrev pub invariant-loop-tab : goal.invariant-loop-tab
invariant-loop-tab l = tabs_rise l.least (drop l.tab-index l.places) ≡ tabs_rise 1 l.places
