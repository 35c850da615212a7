use Rattle.std.proofs.Common.{ap, ◌∙◌, rules}
use Rattle.wl_process_rules.specs.TabEnds.{running}
use Rattle.wl_process_rules.proofs.Telling.{retained}
use Rattle.wl_process_rules.proofs.tab_ends.Ends.tell.Goals as goal

pub returns-clause-rest : goal.returns-clause-rest
returns-clause-rest c =
    retained _ _ (λ k v b w f' t. search rules) c.self.inside.tabs.entries c.retain.new.self.entries c.retain.ensures.filtered ∙ ap running c.self.view_is
