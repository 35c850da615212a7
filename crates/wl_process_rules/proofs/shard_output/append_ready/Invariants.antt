use Rattle.std.proofs.Common.{◌≡◌, ◌++◌, length, take}
use Rattle.std.specs.List.{concat}
use Rattle.std.specs.VecDeque.Iter.{deque_iter_rest}
use Rattle.wl_process_rules.specs.ShardOutput.{ready}
use Rattle.wl_process_rules.proofs.shard_output.append_ready.Given as goal

-- What is appended, with what is still to append, is all that is ready.
abbrev pub invariant-loop-place : goal.invariant-loop-place
invariant-loop-place l = record {
  next : (goal.iterator-loop-place).can_next l.place-iterator;
  ends : (goal.iterator-loop-place).is_finite l.place-iterator;
  all : l.sink.items ++ concat (ready (deque_iter_rest l.place-iterator)) ≡ l.initial.sink.items ++ concat (ready l.places.items);
  begun : take (length l.initial.sink.items) l.sink.items ≡ l.initial.sink.items;
}
