use Rattle.std.proofs.Common.{◌∙◌}
use Rattle.wl_draft.proofs.TableLemmas.{lookup-find}
use Rattle.wl_broker_reports.proofs.partial_report.kept_of.Goals as goal

pub returns : goal.returns
returns c = c.get.ensures.value ∙ lookup-find c.args.kept.now.entries c.args.tab
