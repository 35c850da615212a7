use Rattle.std.proofs.Common.{rules, not}
use Rattle.std.proofs.lemmas.Fn.{filter_same}
use Rattle.wl_draft.specs.Locks.{is_pair}
use Rattle.wl_draft.proofs.lists.remove_pair.Goals as goal

pub returns-clause-items : goal.returns-clause-items
returns-clause-items c =
    filter_same _ (λ r. not (is_pair c.args.client c.args.number r)) _ (λ x b f' k. search rules) _ _ c.retain.ensures.filtered
