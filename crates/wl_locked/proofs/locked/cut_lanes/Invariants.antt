use Rattle.std.proofs.Common.{◌≡◌, ◌+◌, [], replicate}
use Rattle.wl_locked.proofs.locked.cut_lanes.Given as goal

abbrev pub invariant-loop-i : goal.invariant-loop-i
invariant-loop-i g l = (l.rest.parts + l._i ≡ l.lanes) × (l.rest.amount ≡ 0) × (l.made.items ≡ replicate l._i [])
