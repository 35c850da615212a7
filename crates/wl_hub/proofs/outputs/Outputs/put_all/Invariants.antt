use Rattle.std.proofs.Common.{◌≡◌, ◌+◌, ◌≤◌, ◌++◌, []}
use Rattle.std.specs.VecDeque.{deque_len, deque_capacity}
use Rattle.wl_hub.proofs.outputs.Outputs.put_all.Given as goal

-- The remaining frames follow those of the queue. It has room for them.
abbrev pub invariant-loop-frame : goal.invariant-loop-frame
invariant-loop-frame l =
    (l.self.rest.items ≡ [])
    × (l.self.queue.items ++ l.frames.items ≡ l.fn.self.queue.items ++ l.fn.frames.items)
    × (deque_len l.self.queue + deque_len l.frames ≤ deque_capacity l.self.queue)

abbrev pub decreases-loop-frame : goal.decreases-loop-frame
decreases-loop-frame l = deque_len l.frames
