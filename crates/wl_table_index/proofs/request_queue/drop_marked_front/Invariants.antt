use Rattle.std.proofs.Common.{◌≡◌, ◌≤◌, length}
use Rattle.std.specs.VecDeque.{deque_len, deque_capacity}
use Rattle.wl_table_index.specs.RequestQueue.{numbers_in}
use Rattle.wl_table_index.proofs.request_queue.drop_marked_front.Given as goal

abbrev pub invariant-loop-waiters : goal.invariant-loop-waiters
invariant-loop-waiters l = record {
  numbers : numbers_in l.waiters.items ≡ numbers_in l.initial.waiters.items;
  len : deque_len l.waiters ≤ deque_len l.initial.waiters;
  capacity : deque_capacity l.waiters ≡ deque_capacity l.initial.waiters;
}

abbrev pub decreases-loop-waiters : goal.decreases-loop-waiters
decreases-loop-waiters l = length l.waiters.items
