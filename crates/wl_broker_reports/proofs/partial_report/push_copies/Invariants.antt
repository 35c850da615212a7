use Rattle.std.proofs.Common.{◌≡◌, ◌++◌, take}
use Rattle.wl_broker_reports.proofs.partial_report.push_copies.Given as goal

abbrev pub invariant-loop-entry : goal.invariant-loop-entry
invariant-loop-entry l = l.copies.items ≡ l.fn.copies.items ++ take l.entry-index l.entries
