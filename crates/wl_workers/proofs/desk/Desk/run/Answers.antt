use Rattle.std.proofs.Common.{◌+◌, Err, take, ap, ◌∙◌}
use Rattle.std.proofs.lemmas.Result.{err_from_is_err_and}
use Rattle.wl_frames.specs.Device.{Reading}
use Rattle.wl_workers.proofs.DeskLemmas.{sound_at_ok}
use Rattle.wl_workers.proofs.RunLemmas.{Serves-started, Serves-partial, Serves-more, Runs-unread, Runs-limit, Runs-broken, Runs-end, unread_is_read, unread_is_no_write, end_is_no_read, end_is_no_write, break_is_no_read}
use Rattle.wl_frames.specs.Stream.{Feeding}
use Rattle.wl_workers.proofs.desk.Desk.run.Goals as goal

pub loop-reads-init : goal.loop-reads-init
loop-reads-init g c = record {
  feed = ap (λ (f : Feeding). f.has_failed) c.new-feed.ensures;
  source = c.requires.source;
  sink = c.requires.sink;
  reads = c.requires.reads;
  serves = Serves-started _ _ c.new-feed.result _ c.new-feed.ensures c.requires.opening;
}

pub returns-in_err-n-clause-runs : goal.returns-in_err-n-clause-runs
returns-in_err-n-clause-runs g c =
    let p = err_from_is_err_and c.from_residual.result c.from_residual.ensures.1 in
    let h = c.loop-reads.invariant in
    rw (p.1, p.2) (Runs-unread _ _ _ _ _ _ _ c.in_err-n.field-0.0 h.serves (λ e. (c.in_err-n.ensures.failed (ap (λ x. Err x) e)).1)
    (λ e. ap (λ (r : Reading _). g.R.Read.remaining r.reader) (c.in_err-n.ensures.limit (ap (λ x. Err x) e)).1))

pub returns-in_err-n-clause-read : goal.returns-in_err-n-clause-read
returns-in_err-n-clause-read g c =
    let p = err_from_is_err_and c.from_residual.result c.from_residual.ensures.1 in
    rw (p.1, p.2) (unread_is_read c.in_err-n.field-0.0 _ _ c.loop-reads.invariant.source (λ e. (c.in_err-n.ensures.failed (ap (λ x. Err x) e)).0)
    (λ e. ap (λ (r : Reading _). r.has_failed) (c.in_err-n.ensures.limit (ap (λ x. Err x) e)).1))

pub returns-in_err-n-clause-write : goal.returns-in_err-n-clause-write
returns-in_err-n-clause-write g c =
    let p = err_from_is_err_and c.from_residual.result c.from_residual.ensures.1 in
    rw (p.1, p.2) (unread_is_no_write c.in_err-n.field-0.0 _ c.loop-reads.invariant.sink)

pub returns-then-n-eq0-clause-runs : goal.returns-then-n-eq0-clause-runs
returns-then-n-eq0-clause-runs g c =
    Runs-end _ _ _ _ _ _ _ _ _ c.loop-reads.invariant.serves c.in_ok-n.ensures.bytes (ap (λ n. take n c.read.new.buffer) c.if-n-eq0.true) (c.in_ok-n.ensures.end c.if-n-eq0.true) c.end.ensures

pub returns-then-n-eq0-clause-read : goal.returns-then-n-eq0-clause-read
returns-then-n-eq0-clause-read g c = end_is_no_read _ _ _ _ c.end.ensures (c.in_ok-n.ensures.counted.1 ∙ c.loop-reads.invariant.source)

pub returns-then-n-eq0-clause-write : goal.returns-then-n-eq0-clause-write
returns-then-n-eq0-clause-write g c = end_is_no_write _ _ _ _ c.end.ensures c.loop-reads.invariant.sink

pub take_piece-requires : goal.take_piece-requires
take_piece-requires g c =
    let h = c.loop-reads.invariant in record {
      feed = h.feed;
      rest = Serves-partial _ _ _ _ _ _ h.serves;
      is_open = h.serves.is_open;
      sink = h.sink;
    }

pub returns-in_err-take_piece-clause-runs : goal.returns-in_err-take_piece-clause-runs
returns-in_err-take_piece-clause-runs g c =
    let p = err_from_is_err_and c.from_residual-in_err-take_piece.result c.from_residual-in_err-take_piece.ensures.1 in
    let done = c.in_err-take_piece.ensures.treated in
    rw (p.1, p.2) (Runs-broken _ _ _ _ _ _ _ _ _ _ _ c.loop-reads.invariant.serves c.in_ok-n.ensures.bytes done.1 done.2)

pub returns-in_err-take_piece-clause-read : goal.returns-in_err-take_piece-clause-read
returns-in_err-take_piece-clause-read g c =
    let p = err_from_is_err_and c.from_residual-in_err-take_piece.result c.from_residual-in_err-take_piece.ensures.1 in
    rw (p.1, p.2) (break_is_no_read _ _ _ _ _ _ c.in_err-take_piece.ensures.treated.2 (c.in_ok-n.ensures.counted.1 ∙ c.loop-reads.invariant.source))

pub loop-reads-preserved : goal.loop-reads-preserved
loop-reads-preserved g c =
    let h = c.loop-reads.invariant in
    let done = c.in_ok-take_piece.ensures.treated in record {
      feed = done.2.sound;
      source = c.in_ok-n.ensures.counted.1 ∙ h.source;
      sink = sound_at_ok _ c.in_ok-take_piece.ensures.write.1;
      reads = c.in_ok-n.ensures.counted.0 ∙ ap (λ n. n + 1) h.reads;
      serves = Serves-more _ _ _ _ _ _ _ _ _ _ _ c.take_piece.new.feed h.serves c.in_ok-n.ensures.bytes done.1 done.2;
    }

pub returns-clause-runs : goal.returns-clause-runs
returns-clause-runs g c = Runs-limit _ _ _ _ _ _ c.loop-reads.invariant.serves
