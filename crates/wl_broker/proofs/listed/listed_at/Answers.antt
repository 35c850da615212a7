use Rattle.std.proofs.Common.{◌∙◌}
use Rattle.wl_draft.proofs.TableLemmas.{lookup-find}
use Rattle.wl_broker.proofs.Missing.{find-listed}
use Rattle.wl_broker.proofs.listed.listed_at.Goals as goal

pub returns : goal.returns
returns c =
    let es = c.args.listed.now.entries in
    c.copied.ensures ∙ c.get.ensures.value ∙ lookup-find es c.args.tab ∙ find-listed es c.args.tab
