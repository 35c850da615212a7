use Rattle.std.proofs.Common.{◌≡◌, true, ◌∙◌, arith}
use Rattle.std.proofs.lemmas.Grind.{common_steps}
use Rattle.std.proofs.lemmas.Result.{IfOk-weaker}
use Rattle.wl_draft.specs.Tables.{find}
use Rattle.wl_agent.specs.Tab.{asked}
use Rattle.wl_tab.specs.Tabs.{tab_in}
use Rattle.wl_world_model.specs.World.{lives}
use Rattle.wl_world.proofs.calls.CommandCalls.{asked-sends}
use Rattle.wl_world.proofs.calls.LivingRows.{tab-there, tabs-after}
use Rattle.wl_world.proofs.components.Components.ask.Goals as goal

pub ask_at-requires : goal.ask_at-requires
ask_at-requires c =
    let live : lives c.args.self.now c.args.tab ≡ true = grind (arith, common_steps) in
    record { there = tab-there c.self.inside.tabs.entries c.self.inside.channels.entries c.self.inside.supervisor c.self.inside.bag c.self.inside.corrupt.items c.args.self.now c.self.view_is c.args.tab live c.self.invariant }

pub invariant_of-self : goal.invariant_of-self
invariant_of-self c =
    tabs-after c.ask_at.result c.self.inside.supervisor.kernel c.args.tab (asked c.args.mode c.args.if_available c.args.name.now (tab_in c.args.tab (find c.self.inside.tabs.entries c.args.tab))) c.self.inside.tabs.entries _ c.self.inside.channels.entries c.ask_at.ensures.ok c.ask_at.ensures.err c.self.invariant

pub invariant_of-self-in-Err : goal.invariant_of-self-in-Err
invariant_of-self-in-Err c =
    tabs-after c.ask_at.result c.self.inside.supervisor.kernel c.args.tab (asked c.args.mode c.args.if_available c.args.name.now (tab_in c.args.tab (find c.self.inside.tabs.entries c.args.tab))) c.self.inside.tabs.entries _ c.self.inside.channels.entries c.ask_at.ensures.ok c.ask_at.ensures.err c.self.invariant

pub invariant_of-self-in_err-agent_refusal-in-Err : goal.invariant_of-self-in_err-agent_refusal-in-Err
invariant_of-self-in_err-agent_refusal-in-Err c =
    tabs-after c.ask_at.result c.self.inside.supervisor.kernel c.args.tab (asked c.args.mode c.args.if_available c.args.name.now (tab_in c.args.tab (find c.self.inside.tabs.entries c.args.tab))) c.self.inside.tabs.entries _ c.self.inside.channels.entries c.ask_at.ensures.ok c.ask_at.ensures.err c.self.invariant

pub returns-in-Ok-clause-sends : goal.returns-in-Ok-clause-sends
returns-in-Ok-clause-sends c =
    let live : lives c.args.self.now c.args.tab ≡ true = grind (arith, common_steps) in
    IfOk-weaker c.issued.result _ _ (λ d e. e ∙ asked-sends c.self.inside.tabs.entries c.self.inside.channels.entries c.self.inside.supervisor c.self.inside.bag c.self.inside.corrupt.items c.args.self.now c.self.view_is c.args.tab c.args.mode c.args.if_available c.args.name.now _ _ live c.in-Ok.ensures.ok c.in-Ok.ensures.refused.0 c.in-Ok.ensures.number) c.issued.ensures.sends
