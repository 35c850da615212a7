use Rattle.std.proofs.Common.{◌≡◌, ◌+◌, length}
use Rattle.wl_locked.specs.Receipts.{total}
use Rattle.wl_locked.proofs.lane.gather.Given as goal

abbrev pub invariant-loop-lane : goal.invariant-loop-lane
invariant-loop-lane g l =
    (l.all.parts + length l.lanes.items ≡ l.initial.all.parts + length l.initial.lanes.items) × (l.all.amount + total l.lanes.items ≡ l.initial.all.amount + total l.initial.lanes.items)

abbrev pub decreases-loop-lane : goal.decreases-loop-lane
decreases-loop-lane g l = goal.left-loop-lane g l
