use Rattle.std.proofs.Common.{◌≡◌, ℕ, List, ◌++◌, false, drop}
use Rattle.std.specs.Io.KnownBytes.{Appends}
use Rattle.wl_workers.proofs.DeskLemmas.{Leaves}
use Rattle.wl_workers.proofs.desk.Desk.answer_all.Given as goal

-- The output written, the bytes gathered and the answers to the remaining frames are the full
-- output.
abbrev pub invariant-loop-frame : goal.invariant-loop-frame
invariant-loop-frame g l = record {
  sound : l.sink.has_failed ≡ false;
  written : List ℕ;
  appended : Appends (g.W.Write.contents l.fn.sink.writer) (g.W.Write.contents l.sink.writer) written;
  leaves : Leaves l.fn.self l.self l.frames (drop l.frame-index l.frames) (written ++ l.bytes.items);
}
