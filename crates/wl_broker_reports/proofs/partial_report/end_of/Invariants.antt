use Rattle.std.proofs.Common.{◌≡◌, drop, max}
use Rattle.wl_broker_reports.specs.PartialReports.{end_of}
use Rattle.wl_broker_reports.proofs.partial_report.end_of.Given as goal

-- The end of the whole list is the maximum of the end so far and the end of the remaining entries.
abbrev pub invariant-loop-entry : goal.invariant-loop-entry
invariant-loop-entry l = max l.end (end_of (drop l.entry-index l.entries)) ≡ end_of l.entries
