use Rattle.std.proofs.Common.{◌≡◌, ◌+◌, ◌≤◌}
use Rattle.std.specs.VecDeque.{deque_len, deque_capacity}
use Rattle.wl_process_rules.specs.ShardOutput.{filled}
use Rattle.wl_process_rules.proofs.shard_output.fill_behind.Given as goal

-- The places so far leave the result as it is, and there is room for all.
abbrev pub invariant-loop-place : goal.invariant-loop-place
invariant-loop-place l = record {
  places : filled l.index l.bytes.items l.places.items ≡ filled l.index l.bytes.items l.fn.places.items;
  count : deque_len l.places ≡ l._place;
  room : l.index + 1 ≤ deque_capacity l.places;
}
