use Rattle.std.proofs.Common.{◌≡◌, List, ◌++◌, true, ap, ◌∙◌}
use Rattle.wl_draft.specs.declared.row.Entry.{Entry}
use Rattle.wl_draft.specs.Tables.{Table, put}
use Rattle.wl_draft.proofs.TableLemmas.{insert_entry-put}
use Rattle.wl_broker_reports.specs.ReportParts.{Partial, all_below}
use Rattle.wl_broker_reports.specs.PartialReports.{all_in_below}
use Rattle.wl_broker_reports.proofs.KeptParts.{all_in_below-put}
use Rattle.wl_broker_reports.proofs.partial_report.PartialReport.insert.Goals as goal

pub invariant_of-self-2 : goal.invariant_of-self-2
invariant_of-self-2 c =
    let i = c.self.inside in
    let copies = c.new.ensures ∙ c.in_ok-push_copies.ensures ∙ ap (λ (es : List Entry). es ++ c.args.entries.now) c.new-copies.ensures.items in
    let rows = c.in_ok-insert.ensures.entries ∙ insert_entry-put c.args.part _ i.came.entries ∙ ap (λ (es : List Entry). put c.args.part es i.came.entries) copies in
    let below : all_below i.base c.args.entries.now ≡ true = ap (λ (k : Partial). all_below k.base c.args.entries.now) c.self.view_is ∙ c.requires in
    ap (λ (came : Table (List Entry)). all_in_below i.base came) rows ∙ all_in_below-put i.base c.args.part c.args.entries.now i.came.entries below c.self.invariant

pub returns-clause-ok : goal.returns-clause-ok
returns-clause-ok c =
    let i = c.self.inside in
    let copies = c.new.ensures ∙ c.in_ok-push_copies.ensures ∙ ap (λ (es : List Entry). es ++ c.args.entries.now) c.new-copies.ensures.items in
    let rows = c.in_ok-insert.ensures.entries ∙ insert_entry-put c.args.part _ i.came.entries ∙ ap (λ (es : List Entry). put c.args.part es i.came.entries) copies in
    let with_rows : Table (List Entry) → Partial = λ came. record { partition = i.partition; base = i.base; parts = i.parts; limit = i.limit; came = came } in
    rw (← c.self.view_is) (ap with_rows rows)
