use Rattle.std.proofs.Common.{◌≡◌, ◌≤◌, ◌+◌, ◌*◌, false}
use Rattle.wl_script.proofs.SimLemmas.{Stands}
use Rattle.wl_script.proofs.sim.sim_run.Given as goal

-- Nothing has failed, all input so far was played, and each read gave at most 4096 bytes.
abbrev pub invariant-loop-reads : goal.invariant-loop-reads
invariant-loop-reads g l = record {
  source : l.source.has_failed ≡ false;
  sink : l.sink.has_failed ≡ false;
  reads : l.source.reads ≡ l._reads;
  number : l.sim.number ≤ 4096 * l._reads + 1;
  stands : Stands (g.R.Read.remaining l.fn.source.reader) (g.R.Read.remaining l.source.reader)
      (g.W.Write.contents l.fn.sink.writer) (g.W.Write.contents l.sink.writer) l.sim;
}
