use Rattle.std.proofs.Common.{◌≡◌, false}
use Rattle.wl_workers.proofs.ReaderLemmas.{Handing}
use Rattle.wl_workers.proofs.tab_reader.read_all.Given as goal

-- Nothing has failed, and all frames read are forwarded, up to the feed's rest.
abbrev pub invariant-loop-reads : goal.invariant-loop-reads
invariant-loop-reads g l = record {
  feed : l.feed.has_failed ≡ false;
  source : l.source.has_failed ≡ false;
  reads : l.source.reads ≡ l._reads;
  hands : Handing l.tab (g.S.Read.remaining l.fn.source.reader) (g.S.Read.remaining l.source.reader) (g.L.Lives.answered l.fn.lives) (g.L.Lives.answered l.lives) (g.U.Uplink.handed l.fn.uplink)
      (g.U.Uplink.handed l.uplink) l.feed.rest;
}
