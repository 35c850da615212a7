use Rattle.std.proofs.Common.{◌≡◌, ◌+◌, ◌<◌, ℕ, length}
use Rattle.std.specs.Prelude.{slice_index_or}
use Rattle.wl_locked.specs.Receipts.{total}
use Rattle.wl_locked.specs.Sharding.{receipts_in}
use Rattle.wl_locked.proofs.shard_lane.gather_all.Given as goal

abbrev pub invariant-loop-lane : goal.invariant-loop-lane
invariant-loop-lane g l =
    record {
      parts : l.all.0 + length l.lanes.items ≡ l.initial.all.0 + length l.initial.lanes.items;
      wide : length l.all.1 ≡ length l.initial.all.1;
      sums : (shard : ℕ) → shard < length l.initial.all.1
          → slice_index_or l.all.1 shard 0 + total (receipts_in shard l.lanes.items) ≡ slice_index_or l.initial.all.1 shard 0 + total (receipts_in shard l.initial.lanes.items);
    }

abbrev pub decreases-loop-lane : goal.decreases-loop-lane
decreases-loop-lane g l = goal.left-loop-lane g l
