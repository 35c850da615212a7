use Rattle.std.proofs.Common.{List, [], ◌∷◌, ◌++◌, ap, ◌∙◌}
use Rattle.wl_agent.specs.declared.token.Token.TheVariants as token
use Rattle.wl_tab.specs.declared.locks.live_command.LiveCommand.{LiveCommand}
use Rattle.wl_tab.specs.TabTokens.{kept_as}
use Rattle.wl_tab.proofs.KeptTokens.{kept-probed}
use Rattle.wl_tab.proofs.locks.TabLocks.probe.Goals as goal

pub invariant_of-self-2 : goal.invariant_of-self-2
invariant_of-self-2 c =
    let x : LiveCommand = kept_as c.in_ok-operation.operation (token.Probe c.in_ok-probe.probe) in
    kept-probed c.self.inside.agent c.probe.new.self c.self.inside.tab c.self.inside.entered c.self.inside.kept.items c.push_reserved.new.self.items c.in_ok-operation.operation c.in_ok-probe.probe c.args.mode c.args.name.now c.as_str.result.now c.self.invariant (c.push_reserved.ensures.items ∙ ap (λ (ks : List LiveCommand). ks ++ x ∷ []) c.in_ok-operation.ensures.kept) c.in_ok-operation.ensures.operation c.as_str.ensures.value c.in_ok-probe.ensures.probe.0 c.in_ok-probe.ensures.probe.1 c.in_ok-probe.ensures.ok
