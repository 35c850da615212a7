use Rattle.std.proofs.Common.{◌≡◌, ℕ, List, false, take}
use Rattle.std.specs.Io.KnownBytes.{Appends}
use Rattle.wl_script.specs.SimSteps.{Plays}
use Rattle.wl_script.proofs.sim.Sim.take_piece.Given as goal

-- Nothing has failed, and the lines that ended so far were played.
abbrev pub invariant-loop-byte : goal.invariant-loop-byte
invariant-loop-byte g l = record {
  sound : l.sink.has_failed ≡ false;
  output : List ℕ;
  appended : Appends (g.W.Write.contents l.fn.sink.writer) (g.W.Write.contents l.sink.writer) output;
  plays : Plays l.fn.self (take l.byte-index l.piece) (record { world = l.world.world; number = l.number; text = l.text.items }) output;
}
