use Rattle.std.proofs.Common.{ℕ, nat_le, ap, ◌∙◌}
use Rattle.std.specs.List.{list_all}
use Rattle.wl_draft.specs.declared.row.Entry.{Entry}
use Rattle.wl_broker_reports.proofs.Bounds.{above_end}
use Rattle.wl_broker_reports.proofs.partial_report.all_above.Goals as goal

pub returns : goal.returns
returns c =
    c.all_from.ensures ∙ ap (λ (n : ℕ). list_all (λ (e : Entry). nat_le n e.number) c.args.above.now) c.end_of.ensures
    ∙ above_end c.args.below.now c.args.above.now
