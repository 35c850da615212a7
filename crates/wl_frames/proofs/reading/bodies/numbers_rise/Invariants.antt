use Rattle.std.proofs.Common.{◌≡◌, drop}
use Rattle.wl_frames.specs.Bodies.{numbers_rise}
use Rattle.wl_frames.proofs.reading.bodies.numbers_rise.Given as goal

abbrev pub invariant-loop-entry : goal.invariant-loop-entry
invariant-loop-entry l = numbers_rise l.least (drop l.entry-index l.entries) ≡ numbers_rise 0 l.entries
