use Rattle.std.proofs.Common.{List, [], ◌∷◌, ◌++◌, ap, ◌∙◌}
use Rattle.wl_grammar.specs.declared.frame.Operation.TheVariants.{Query}
use Rattle.wl_agent.specs.declared.token.Token.TheVariants as token
use Rattle.wl_tab.specs.declared.locks.live_command.LiveCommand.{LiveCommand}
use Rattle.wl_tab.specs.TabTokens.{kept_as}
use Rattle.wl_tab.proofs.KeptTokens.{kept-queried}
use Rattle.wl_tab.proofs.locks.TabLocks.query.Goals as goal

pub invariant_of-self-2 : goal.invariant_of-self-2
invariant_of-self-2 c =
    let x : LiveCommand = kept_as Query (token.Asking c.in_ok-asking.asking) in
    kept-queried c.self.inside.agent c.query.new.self c.self.inside.tab c.self.inside.entered c.self.inside.kept.items c.push_reserved.new.self.items c.in_ok-asking.asking c.self.invariant (c.push_reserved.ensures.items ∙ ap (λ (ks : List LiveCommand). ks ++ x ∷ []) c.in_ok-reserve.ensures.items) c.in_ok-asking.ensures.asking.0 c.in_ok-asking.ensures.asking.1 c.in_ok-asking.ensures.ok
