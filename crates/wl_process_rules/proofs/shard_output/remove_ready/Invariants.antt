use Rattle.std.proofs.Common.{◌≡◌, ◌+◌, ◌≤◌, length}
use Rattle.std.specs.VecDeque.{deque_len}
use Rattle.wl_process_rules.specs.ShardOutput.{ready, behind}
use Rattle.wl_process_rules.proofs.shard_output.remove_ready.Given as goal

abbrev pub invariant-loop-bytes : goal.invariant-loop-bytes
invariant-loop-bytes l = record {
  room : l.count + deque_len l.places ≤ deque_len l.initial.places;
  places : behind l.places.items ≡ behind l.initial.places.items;
  count : l.count + length (ready l.places.items) ≡ length (ready l.initial.places.items);
}

abbrev pub decreases-loop-bytes : goal.decreases-loop-bytes
decreases-loop-bytes l = deque_len l.places
