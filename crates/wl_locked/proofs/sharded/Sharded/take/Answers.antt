use Rattle.std.proofs.Common.{◌∙◌, ap, arith}
use Rattle.std.proofs.lemmas.Result.{IfOk-weaker}
use Rattle.wl_locked.specs.Sharding.{receipts_of}
use Rattle.wl_locked.proofs.Raising.{receipts-with}
use Rattle.wl_locked.proofs.sharded.Sharded.take.Goals as goal

pub returns-clause-kept : goal.returns-clause-kept
returns-clause-kept g c =
    let shard = c.args.work.shard in
    let old = c.args.lane.now in
    IfOk-weaker c.take.result _ _ (λ r e s. ap (receipts_of s) e ∙ receipts-with shard r old s (omega (arith, c.take.ensures.wide))) c.take.ensures.kept
