use Rattle.std.proofs.Common.{◌∙◌, ap}
use Rattle.std.proofs.Common.{List, []}
use Rattle.wl_draft.specs.declared.row.Entry.{Entry}
use Rattle.wl_draft.specs.Tables.{has_row}
use Rattle.wl_draft.proofs.TableLemmas.{is_some-lookup}
use Rattle.wl_broker_reports.specs.ReportParts.{Partial}
use Rattle.wl_broker_reports.proofs.partial_report.PartialReport.has.Goals as goal

pub returns : goal.returns
returns c =
    let none : List Entry = [] in
    c.contains_key.ensures ∙ is_some-lookup none c.self.inside.came.entries c.args.part ∙ ap (λ (k : Partial). has_row k.came c.args.part) c.self.view_is
