use Rattle.std.proofs.Common.{◌≡◌}
use Rattle.std.specs.List.{list_all}
use Rattle.wl_broker_reports.specs.ReportParts.{is_in_order}
use Rattle.wl_broker_reports.specs.PartialReports.{told}
use Rattle.wl_broker_reports.proofs.partial_report.PartialReport.is_in_order.Given as goal

-- The result depends only on the parts not yet compared.
abbrev pub invariant-loop-part : goal.invariant-loop-part
invariant-loop-part l =
    list_all (is_in_order (told l.heading l.entries)) l.part-iterator ≡ list_all (is_in_order (told l.heading l.entries)) l.self.came
