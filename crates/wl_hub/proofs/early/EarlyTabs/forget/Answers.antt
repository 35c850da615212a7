use Rattle.std.proofs.Common.{rules}
use Rattle.std.proofs.lemmas.Fn.{filter_same}
use Rattle.wl_hub.proofs.early.EarlyTabs.forget.Goals as goal

pub returns-clause-tabs : goal.returns-clause-tabs
returns-clause-tabs c = filter_same _ _ _ (λ x b f' k. search rules) _ _ c.retain.ensures.filtered
