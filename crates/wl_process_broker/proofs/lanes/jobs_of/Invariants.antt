use Rattle.std.proofs.Common.{◌≡◌, ◌+◌, length}
use Rattle.std.specs.Vec.Iter.{into_iter_items}
use Rattle.wl_process_broker.proofs.lanes.jobs_of.Given as goal

-- Each lane so far has its job.
abbrev pub invariant-loop-lane : goal.invariant-loop-lane
invariant-loop-lane g l = length l.jobs.items + length (into_iter_items l.lane-iterator) ≡ length l.fn.lanes.items
