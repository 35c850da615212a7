use Rattle.std.proofs.Common.{◌≡◌, ◌+◌, ◌≤◌}
use Rattle.std.specs.VecDeque.{deque_len, deque_capacity}
use Rattle.wl_hub.specs.Stored.{queued}
use Rattle.wl_hub.specs.declared.outputs.TheConstants.{SPARE}
use Rattle.wl_hub.proofs.outputs.Outputs.make_room.Given as goal

-- The frames stay the same, and the queue has room for the rest.
abbrev pub invariant-loop-addressed : goal.invariant-loop-addressed
invariant-loop-addressed l =
    (queued l.self ≡ queued l.fn.self) × (deque_len l.self.queue + (deque_len l.self.rest + SPARE) ≤ deque_capacity l.self.queue)

abbrev pub decreases-loop-addressed : goal.decreases-loop-addressed
decreases-loop-addressed l = deque_len l.self.rest
