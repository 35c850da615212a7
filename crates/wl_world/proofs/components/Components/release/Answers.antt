use Rattle.std.proofs.Common.{◌≡◌, true, sym, ◌∙◌, arith}
use Rattle.std.proofs.lemmas.Grind.{common_steps}
use Rattle.std.proofs.lemmas.Result.{IfOk-weaker}
use Rattle.wl_draft.specs.Tables.{find}
use Rattle.wl_agent.specs.Tab.{released}
use Rattle.wl_agent.specs.Tokens.{is_holding}
use Rattle.wl_tab.specs.Tabs.{tab_in}
use Rattle.wl_world_model.specs.World.{lives}
use Rattle.wl_world.proofs.calls.CommandCalls.{released-sends}
use Rattle.wl_world.proofs.calls.LivingRows.{tab-there, tabs-after_if}
use Rattle.wl_world.proofs.components.Components.release.Goals as goal

pub release_at-requires : goal.release_at-requires
release_at-requires c =
    let live : lives c.args.self.now c.args.tab ≡ true = grind (arith, common_steps) in
    record { there = tab-there c.self.inside.tabs.entries c.self.inside.channels.entries c.self.inside.supervisor c.self.inside.bag c.self.inside.corrupt.items c.args.self.now c.self.view_is c.args.tab live c.self.invariant }

pub invariant_of-self : goal.invariant_of-self
invariant_of-self c =
    let row = tab_in c.args.tab (find c.self.inside.tabs.entries c.args.tab) in
    tabs-after_if (is_holding row c.args.number) c.self.inside.supervisor.kernel c.args.tab (released c.args.number row) c.self.inside.tabs.entries _ c.self.inside.channels.entries c.release_at.ensures.tabs c.self.invariant

pub invariant_of-self-in-None : goal.invariant_of-self-in-None
invariant_of-self-in-None c =
    let row = tab_in c.args.tab (find c.self.inside.tabs.entries c.args.tab) in
    tabs-after_if (is_holding row c.args.number) c.self.inside.supervisor.kernel c.args.tab (released c.args.number row) c.self.inside.tabs.entries _ c.self.inside.channels.entries c.release_at.ensures.tabs c.self.invariant

pub returns-in-Some-clause-sends : goal.returns-in-Some-clause-sends
returns-in-Some-clause-sends c =
    let live : lives c.args.self.now c.args.tab ≡ true = grind (arith, common_steps) in
    IfOk-weaker c.issued.result _ _ (λ d e. e ∙ released-sends c.self.inside.tabs.entries c.self.inside.channels.entries c.self.inside.supervisor c.self.inside.bag c.self.inside.corrupt.items c.args.self.now c.self.view_is c.args.tab c.args.number _ _ live c.release_at.ensures.tabs (sym c.in-Some.is ∙ c.release_at.ensures.next)) c.issued.ensures.sends
