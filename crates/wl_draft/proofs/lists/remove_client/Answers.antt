use Rattle.std.proofs.Common.{rules, not, ◌==◌}
use Rattle.std.proofs.lemmas.Fn.{filter_same}
use Rattle.wl_draft.proofs.lists.remove_client.Goals as goal

pub returns-clause-items : goal.returns-clause-items
returns-clause-items c =
    filter_same _ (λ r. not (r.client == c.args.client)) _ (λ x b f' k. search rules) _ _ c.retain.ensures.filtered
