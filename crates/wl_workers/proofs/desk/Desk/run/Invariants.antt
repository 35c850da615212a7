use Rattle.std.proofs.Common.{◌≡◌, false}
use Rattle.wl_workers.proofs.RunLemmas.{Serves}
use Rattle.wl_workers.proofs.desk.Desk.run.Given as goal

-- Nothing has failed, and all frames read are answered, up to the feed's rest.
abbrev pub invariant-loop-reads : goal.invariant-loop-reads
invariant-loop-reads g l = record {
  feed : l.feed.has_failed ≡ false;
  source : l.source.has_failed ≡ false;
  sink : l.sink.has_failed ≡ false;
  reads : l.source.reads ≡ l._reads;
  serves : Serves (g.R.Read.remaining l.fn.source.reader) (g.R.Read.remaining l.source.reader)
      (g.W.Write.contents l.fn.sink.writer) (g.W.Write.contents l.sink.writer) l.feed.rest l.self;
}
