use Rattle.std.proofs.Common.{◌+◌, ap, ◌∙◌}
use Rattle.std.proofs.lemmas.Result.{err_from_is_err_and}
use Rattle.wl_frames.specs.Stream.{Feeding}
use Rattle.wl_workers.proofs.ReaderLemmas.{Handing-start, Handing-more, ends_in_piece, not_plain, no_failure, no_limit, piece_needs_no_end, closes_at_end}
use Rattle.wl_workers.proofs.tab_reader.read_all.Goals as goal

pub loop-reads-init : goal.loop-reads-init
loop-reads-init g c = record {
  feed = ap (λ (f : Feeding). f.has_failed) c.new-feed.ensures;
  source = c.requires.source;
  reads = c.requires.reads;
  hands = Handing-start _ _ _ _ c.new-feed.result c.new-feed.ensures;
}

pub loop-reads-preserved : goal.loop-reads-preserved
loop-reads-preserved g c =
    let h = c.loop-reads.invariant in
    let done = c.in_ok-take_piece.ensures in record {
      feed = done.sound;
      source = c.in_ok-n.ensures.counted.1 ∙ h.source;
      reads = c.in_ok-n.ensures.counted.0 ∙ ap (λ n. n + 1) h.reads;
      hands = Handing-more _ _ _ _ _ _ _ _ _ _ _ _ c.take_piece.new.feed h.hands c.in_ok-n.ensures.bytes done;
    }

pub returns-in_err-take_piece-clause-reads : goal.returns-in_err-take_piece-clause-reads
returns-in_err-take_piece-clause-reads g c =
    let p = err_from_is_err_and c.from_residual-in_err-take_piece.result c.from_residual-in_err-take_piece.ensures.1 in
    let done = c.in_err-take_piece.ensures.1 in
    rw (p.1, p.2) (ends_in_piece _ _ _ _ _ _ _ _ _ _ _ _ done.0 _ c.loop-reads.invariant.hands c.in_ok-n.ensures.bytes done.1 done.2)

pub returns-in_err-take_piece-clause-other : goal.returns-in_err-take_piece-clause-other
returns-in_err-take_piece-clause-other g c =
    let p = err_from_is_err_and c.from_residual-in_err-take_piece.result c.from_residual-in_err-take_piece.ensures.1 in
    rw (p.1, p.2) (not_plain _ c.in_err-take_piece.ensures.0)

pub returns-in_err-take_piece-clause-failed : goal.returns-in_err-take_piece-clause-failed
returns-in_err-take_piece-clause-failed g c =
    let p = err_from_is_err_and c.from_residual-in_err-take_piece.result c.from_residual-in_err-take_piece.ensures.1 in
    rw (p.1, p.2) (no_failure _ _ c.in_err-take_piece.ensures.0 (c.in_ok-n.ensures.counted.1 ∙ c.loop-reads.invariant.source))

pub returns-in_err-take_piece-clause-limit : goal.returns-in_err-take_piece-clause-limit
returns-in_err-take_piece-clause-limit g c =
    let p = err_from_is_err_and c.from_residual-in_err-take_piece.result c.from_residual-in_err-take_piece.ensures.1 in
    rw (p.1, p.2) (no_limit _ _ c.in_err-take_piece.ensures.0)

pub returns-in_err-take_piece-clause-end : goal.returns-in_err-take_piece-clause-end
returns-in_err-take_piece-clause-end g c =
    let p = err_from_is_err_and c.from_residual-in_err-take_piece.result c.from_residual-in_err-take_piece.ensures.1 in
    rw (p.1, p.2) (piece_needs_no_end _ _ c.in_err-take_piece.ensures.0)

pub returns-then-n-eq0-clause-end : goal.returns-then-n-eq0-clause-end
returns-then-n-eq0-clause-end g c = closes_at_end c.close.result _ (c.in_ok-n.ensures.end c.if-n-eq0.true)
