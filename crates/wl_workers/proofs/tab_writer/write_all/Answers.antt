use Rattle.std.proofs.Common.{refl, ap}
use Rattle.wl_workers.proofs.WriterLemmas.{WritesTab-start, WritesTab-still, WritesTab-more, Looked-none, Looked-more, same_pass, same_then}
use Rattle.wl_workers.proofs.tab_writer.write_all.Goals as goal

pub loop-init : goal.loop-init
loop-init g c = record {
  pass = same_pass _;
  sink = c.requires.sink;
  writes = WritesTab-start _ _ _ c.requires.sink;
  looks = Looked-none _ _;
}

pub loop-preserved-in_default : goal.loop-preserved-in_default
loop-preserved-in_default g c =
    let h = c.loop.invariant in record {
      pass = same_then _ _ _ h.pass c.take.ensures.pass;
      sink = h.sink;
      writes = WritesTab-still _ c.loop.pass _ _ _ _ h.writes c.in_default.ensures.empty.0;
      looks = Looked-more _ _ _ _ c.loop.is_dead c.finds_dead-is_dead.result c.if-is_dead.false h.looks c.finds_dead-is_dead.ensures;
    }

pub returns-in_err-written-clause-writes : goal.returns-in_err-written-clause-writes
returns-in_err-written-clause-writes g c =
    let h = c.loop.invariant in
    WritesTab-more _ c.loop.pass.view.parcels _ c.in-Some-take.parcel c.frame.result.now _ _ _ _ _ h.writes h.sink (ap (λ v. v.parcels) c.in-Some-take.ensures.taken) c.frame.ensures c.write_frame-written.ensures.written

pub loop-preserved : goal.loop-preserved
loop-preserved g c =
    let h = c.loop.invariant in record {
      pass = same_then _ _ _ h.pass c.take.ensures.pass;
      sink = c.in_ok-written.ensures.failed.0 refl;
      writes = WritesTab-more _ c.loop.pass.view.parcels _ c.in-Some-take.parcel c.frame.result.now _ _ _ _ _ h.writes h.sink (ap (λ v. v.parcels) c.in-Some-take.ensures.taken) c.frame.ensures c.write_frame-written.ensures.written;
      looks = h.looks;
    }
