use Rattle.std.proofs.Common.{◌∙◌, ap, arith, replicate, []}
use Rattle.wl_locked.specs.declared.shards.TheConstants.{SHARD_LIMIT}
use Rattle.wl_locked.proofs.sharded.cut_lanes.Goals as goal

pub returns : goal.returns
returns g c =
    c.loop-i.invariant.2 ∙ ap (λ n. replicate n (replicate SHARD_LIMIT [])) (omega (arith, c.loop-i-test.false, c.loop-i.auto._i-end))
