use Rattle.std.proofs.Common.{◌≡◌, ◌++◌}
use Rattle.std.specs.List.{flat_map}
use Rattle.wl_agent.specs.SnapshotParts.{held_in, pending_in, all_entries}
use Rattle.wl_agent.proofs.snapshot_parts.assemble.Given as goal

-- The entries so far, followed by those of the remaining parts, are the entries of all parts.
abbrev pub invariant-loop-entries : goal.invariant-loop-entries
invariant-loop-entries l =
    (l.held.items ++ held_in (flat_map (λ es. es) l.entries-iterator) ≡ held_in (all_entries l.came.entries))
    × (l.pending.items ++ pending_in (flat_map (λ es. es) l.entries-iterator) ≡ pending_in (all_entries l.came.entries))
