use Rattle.std.proofs.Common.{◌≡◌, ◌++◌, cond, false}
use Rattle.std.specs.List.{flat_map}
use Rattle.wl_draft.specs.Tables.{has_row, put}
use Rattle.wl_broker_reports.proofs.partial_report.PartialReport.gathered.Given as goal

-- The entries gathered and those still to come are the entries of all parts.
abbrev pub invariant-loop-number : goal.invariant-loop-number
invariant-loop-number l =
    (l.gathered.items ++ flat_map (λ row. row.1) (cond l.is_placed l.number-iterator (put l.part l.entries l.number-iterator)) ≡ flat_map (λ row. row.1) (put l.part l.entries l.self.came))
    × (has_row l.number-iterator l.part ≡ false)
