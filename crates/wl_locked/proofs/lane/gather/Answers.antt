use Rattle.std.proofs.Common.{arith, ◌∙◌, ap, length}
use Rattle.std.proofs.lemmas.List.{length_push}
use Rattle.wl_locked.specs.Receipts.{total}
use Rattle.wl_locked.proofs.Runs.{total-push}
use Rattle.wl_locked.proofs.lane.gather.Goals as goal

pub loop-lane-preserved : goal.loop-lane-preserved
loop-lane-preserved g c =
    let rest = c.pop.new.self.items in
    let lane = c.in-Some.lane in
    let count = ap length c.in-Some.ensures.items ∙ length_push rest lane in
    let sum = ap total c.in-Some.ensures.items ∙ total-push rest lane in
    (omega (arith, count), omega (arith, sum))
