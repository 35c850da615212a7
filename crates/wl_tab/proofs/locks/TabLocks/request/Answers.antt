use Rattle.std.proofs.Common.{List, [], ◌∷◌, ◌++◌, ap, ◌∙◌}
use Rattle.wl_agent.specs.declared.token.Token.TheVariants as token
use Rattle.wl_tab.specs.declared.locks.live_command.LiveCommand.{LiveCommand}
use Rattle.wl_tab.specs.TabTokens.{kept_as}
use Rattle.wl_tab.proofs.KeptTokens.{kept-requested}
use Rattle.wl_tab.proofs.locks.TabLocks.request.Goals as goal

pub invariant_of-self-2 : goal.invariant_of-self-2
invariant_of-self-2 c =
    let x : LiveCommand = kept_as c.in_ok-operation.operation (token.Pending c.in_ok-pending.pending) in
    kept-requested c.self.inside.agent c.request.new.self c.self.inside.tab c.self.inside.entered c.self.inside.kept.items c.push_reserved.new.self.items c.in_ok-operation.operation c.in_ok-pending.pending c.args.mode c.args.name.now c.as_str.result.now c.self.invariant (c.push_reserved.ensures.items ∙ ap (λ (ks : List LiveCommand). ks ++ x ∷ []) c.in_ok-operation.ensures.kept) c.in_ok-operation.ensures.operation c.as_str.ensures.value c.in_ok-pending.ensures.pending.0 c.in_ok-pending.ensures.pending.1 c.in_ok-pending.ensures.ok
