use Rattle.std.proofs.Common.{◌≡◌, true, sym, ◌∙◌, arith}
use Rattle.std.specs.Prelude.{◌&&◌}
use Rattle.std.proofs.lemmas.Grind.{common_steps}
use Rattle.std.proofs.lemmas.Result.{IfOk-weaker}
use Rattle.wl_draft.specs.Tables.{find}
use Rattle.wl_agent.specs.Tab.{aborted, is_asked, status_of}
use Rattle.wl_agent.specs.Tokens.{is_pending}
use Rattle.wl_tab.specs.Tabs.{tab_in}
use Rattle.wl_world_model.specs.World.{lives}
use Rattle.wl_world.proofs.calls.CommandCalls.{aborted-sends}
use Rattle.wl_world.proofs.calls.LivingRows.{tab-there, tabs-after_if}
use Rattle.wl_world.proofs.components.Components.abort.Goals as goal

pub abort_at-requires : goal.abort_at-requires
abort_at-requires c =
    let live : lives c.args.self.now c.args.tab ≡ true = grind (arith, common_steps) in
    record { there = tab-there c.self.inside.tabs.entries c.self.inside.channels.entries c.self.inside.supervisor c.self.inside.bag c.self.inside.corrupt.items c.args.self.now c.self.view_is c.args.tab live c.self.invariant }

pub invariant_of-self : goal.invariant_of-self
invariant_of-self c =
    let row = tab_in c.args.tab (find c.self.inside.tabs.entries c.args.tab) in
    tabs-after_if (is_pending row c.args.number && is_asked (status_of row c.args.number)) c.self.inside.supervisor.kernel c.args.tab (aborted c.args.number row) c.self.inside.tabs.entries _ c.self.inside.channels.entries c.abort_at.ensures.tabs c.self.invariant

pub invariant_of-self-in-Held : goal.invariant_of-self-in-Held
invariant_of-self-in-Held c =
    let row = tab_in c.args.tab (find c.self.inside.tabs.entries c.args.tab) in
    tabs-after_if (is_pending row c.args.number && is_asked (status_of row c.args.number)) c.self.inside.supervisor.kernel c.args.tab (aborted c.args.number row) c.self.inside.tabs.entries _ c.self.inside.channels.entries c.abort_at.ensures.tabs c.self.invariant

pub invariant_of-self-in-Nothing : goal.invariant_of-self-in-Nothing
invariant_of-self-in-Nothing c =
    let row = tab_in c.args.tab (find c.self.inside.tabs.entries c.args.tab) in
    tabs-after_if (is_pending row c.args.number && is_asked (status_of row c.args.number)) c.self.inside.supervisor.kernel c.args.tab (aborted c.args.number row) c.self.inside.tabs.entries _ c.self.inside.channels.entries c.abort_at.ensures.tabs c.self.invariant

pub returns-in-Issued-clause-sends : goal.returns-in-Issued-clause-sends
returns-in-Issued-clause-sends c =
    let live : lives c.args.self.now c.args.tab ≡ true = grind (arith, common_steps) in
    IfOk-weaker c.issued.result _ _ (λ d e. e ∙ aborted-sends c.self.inside.tabs.entries c.self.inside.channels.entries c.self.inside.supervisor c.self.inside.bag c.self.inside.corrupt.items c.args.self.now c.self.view_is c.args.tab c.args.number _ _ live c.abort_at.ensures.tabs (sym c.abort_at.ensures.said ∙ c.in-Issued.is)) c.issued.ensures.sends
