use Rattle.std.proofs.Common.{◌∙◌}
use Rattle.wl_draft.proofs.RisingTables.{remove_entry-without}
use Rattle.wl_broker_reports.proofs.partial_report.discard.Goals as goal

pub returns : goal.returns
returns c = c.remove.ensures.entries ∙ remove_entry-without c.args.tab 0 c.args.kept.now.entries c.requires
