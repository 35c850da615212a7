use Rattle.std.proofs.Common.{ap, ◌∙◌}
use Rattle.wl_draft.specs.Tables.{find}
use Rattle.wl_draft.proofs.TableLemmas.{lookup-find}
use Rattle.wl_agent.proofs.statuses.Statuses.get.Goals as goal

pub returns : goal.returns
returns c =
    c.get.ensures.value ∙ lookup-find c.self.inside.rows.entries c.args.number ∙ ap (λ rows. find rows c.args.number) c.self.view_is
