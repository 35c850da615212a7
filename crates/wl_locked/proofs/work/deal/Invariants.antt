use Rattle.std.proofs.Common.{◌≡◌, ◌≤◌, ◌+◌, ◌++◌, vec_len, vec_capacity}
use Rattle.wl_locked.specs.Sharding.{deaths_below}
use Rattle.wl_locked.proofs.work.deal.Given as goal

-- The deaths of the shards so far follow the earlier works, and there is room for the others.
abbrev pub invariant-loop-shard : goal.invariant-loop-shard
invariant-loop-shard l =
    record {
      items : l.works.items ≡ l.initial.works.items ++ deaths_below l.tab l.shard;
      length_is : vec_len l.works ≡ vec_len l.initial.works + l.shard;
      room : vec_len l.initial.works + l.shards ≤ vec_capacity l.works;
    }
