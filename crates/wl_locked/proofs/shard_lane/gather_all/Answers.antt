use Rattle.std.proofs.Common.{◌∙◌, length, ap, arith}
use Rattle.std.specs.Prelude.{slice_index_or}
use Rattle.std.proofs.lemmas.List.{length_push}
use Rattle.wl_locked.specs.Receipts.{total}
use Rattle.wl_locked.specs.Sharding.{receipts_in}
use Rattle.wl_locked.proofs.Raising.{raised-length, raised-at, total-in-push}
use Rattle.wl_locked.proofs.shard_lane.gather_all.Goals as goal

pub loop-lane-preserved : goal.loop-lane-preserved
loop-lane-preserved g c =
    let l = c.loop-lane in
    let rest = c.pop.new.self.items in
    let lane = c.in-Some.lane in
    let count = ap length c.in-Some.ensures.items ∙ length_push rest lane in
    let wide = ap length c.merge.ensures.amounts ∙ raised-length l.all.1 lane ∙ l.invariant.wide in
    record {
      parts = omega (arith, count, c.merge.ensures.parts, l.invariant.parts);
      wide = wide;
      sums = λ shard lt.
          let sum = ap (λ ls. total (receipts_in shard ls)) c.in-Some.ensures.items ∙ total-in-push shard rest lane in
          let more = ap (λ ns. slice_index_or ns shard 0) c.merge.ensures.amounts ∙ raised-at l.all.1 lane shard (omega (arith, lt, l.invariant.wide)) in
          omega (arith, sum, more, l.invariant.sums shard lt);
    }
