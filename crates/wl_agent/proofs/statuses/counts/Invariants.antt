use Rattle.std.proofs.Common.{◌≡◌, ◌+◌, Some, count_by}
use Rattle.wl_agent.specs.Tab.{is_live, reserves_number, count_of}
use Rattle.wl_agent.proofs.statuses.counts.Given as goal

-- The counts so far, plus those of the remaining rows, are the counts of all rows.
abbrev pub invariant-loop-status : goal.invariant-loop-status
invariant-loop-status l =
    (l.live + count_by (λ s. is_live (Some s)) l.status-iterator ≡ count_of is_live l.rows.entries)
    × (l.kept + count_by (λ s. reserves_number (Some s)) l.status-iterator ≡ count_of reserves_number l.rows.entries)
