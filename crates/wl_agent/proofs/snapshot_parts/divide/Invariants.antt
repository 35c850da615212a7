use Rattle.std.proofs.Common.{◌≡◌, ◌++◌, take}
use Rattle.wl_agent.specs.SnapshotParts.{held_in, pending_in}
use Rattle.wl_agent.proofs.snapshot_parts.divide.Given as goal

abbrev pub invariant-loop-entry : goal.invariant-loop-entry
invariant-loop-entry l =
    (l.held.items ≡ l.initial.held.items ++ held_in (take l.entry-index l.entries))
    × (l.pending.items ≡ l.initial.pending.items ++ pending_in (take l.entry-index l.entries))
