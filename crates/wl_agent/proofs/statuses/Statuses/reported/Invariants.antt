use Rattle.std.proofs.Common.{◌≡◌, ◌++◌}
use Rattle.wl_agent.specs.AgentInvariant.{RowsFit, entries_of}
use Rattle.wl_agent.proofs.statuses.Statuses.reported.Given as goal

-- The entries so far, followed by those of the remaining rows, are the entries of all rows. Each
-- remaining row fits.
abbrev pub invariant-loop-number : goal.invariant-loop-number
invariant-loop-number l =
    (l.entries.items ++ entries_of l.issued l.number-iterator ≡ entries_of l.issued l.self) × RowsFit l.issued l.number-iterator
