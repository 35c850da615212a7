use Rattle.std.proofs.Common.{◌≡◌, false}
use Rattle.wl_outbox.specs.Passes.{IsSamePass}
use Rattle.wl_workers.specs.TabWriter.{WritesTab}
use Rattle.wl_workers.proofs.WriterLemmas.{Looked}
use Rattle.wl_workers.proofs.tab_writer.write_all.Given as goal

-- The frames of all parcels taken are written.
abbrev pub invariant-loop : goal.invariant-loop
invariant-loop g l = record {
  pass : IsSamePass l.fn.pass l.pass;
  sink : l.sink.has_failed ≡ false;
  writes : WritesTab l.fn.pass.view.parcels l.pass.view.parcels (g.W.Write.contents l.fn.sink.writer) (g.W.Write.contents l.sink.writer) l.sink.has_failed;
  looks : Looked l.tab l.is_dead (g.L.Lives.answered l.fn.lives) (g.L.Lives.answered l.lives);
}
