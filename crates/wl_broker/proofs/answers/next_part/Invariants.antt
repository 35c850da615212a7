use Rattle.std.proofs.Common.{◌≡◌, ◌≤◌, ◌-◌, ◌++◌}
use Rattle.std.specs.Vec.{vec_len}
use Rattle.std.specs.Vec.Iter.{into_iter_items}
use Rattle.wl_limits.specs.declared.frames.TheConstants.{ENTRY_LIMIT}
use Rattle.wl_broker.proofs.answers.next_part.Given as goal

abbrev pub invariant-loop-rest : goal.invariant-loop-rest
invariant-loop-rest l = (l.part.items ++ into_iter_items l.rest ≡ into_iter_items l.fn.rest) × (vec_len l.part ≤ ENTRY_LIMIT)

abbrev pub decreases-loop-rest : goal.decreases-loop-rest
decreases-loop-rest l = ENTRY_LIMIT - vec_len l.part
