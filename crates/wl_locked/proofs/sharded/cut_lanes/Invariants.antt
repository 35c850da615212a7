use Rattle.std.proofs.Common.{◌≡◌, ◌+◌, [], replicate}
use Rattle.wl_locked.specs.declared.shards.TheConstants.{SHARD_LIMIT}
use Rattle.wl_locked.proofs.sharded.cut_lanes.Given as goal

abbrev pub invariant-loop-i : goal.invariant-loop-i
invariant-loop-i g l =
    (l.shares.0 + l._i ≡ l.lanes) × (l.shares.1 ≡ replicate SHARD_LIMIT 0) × (l.made.items ≡ replicate l._i (replicate SHARD_LIMIT []))
