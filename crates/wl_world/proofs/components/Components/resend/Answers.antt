use Rattle.std.proofs.Common.{◌≡◌, true, sym, ap, ◌∙◌, arith}
use Rattle.std.proofs.lemmas.Grind.{common_steps}
use Rattle.wl_agent.specs.Tab.{TabState}
use Rattle.wl_kernel.specs.Kernel.{KernelState}
use Rattle.wl_world_model.specs.World.{WorldState, tab_of, lives}
use Rattle.wl_world_model.specs.Sends.{resent}
use Rattle.wl_world_model.specs.Replies.{some_resent}
use Rattle.wl_world.proofs.calls.CommandCalls.{resends-sends, resends-same, resending-done}
use Rattle.wl_world.proofs.components.Components.resend.Goals as goal

pub returns-clause-said : goal.returns-clause-said
returns-clause-said c =
    let live : lives c.args.self.now c.args.tab ≡ true = grind (arith, common_steps) in
    let tab = tab_of c.args.self.now c.args.tab in
    let sent =
    c.in_ok-sends.ensures
    ∙ ap (λ (k : KernelState). resent k c.args.tab c.locks.result.now) c.tabs.ensures
    ∙ ap (λ (x : TabState). resent c.self.inside.supervisor.kernel c.args.tab x) c.locks.ensures
    ∙ ap (λ (w : WorldState). resent w.kernel c.args.tab tab) c.self.view_is in
    c.resent_said-said.ensures ∙ ap some_resent (c.deref.ensures.value ∙ sent) ∙ sym (resending-done c.args.self.now c.args.tab live)

pub returns-clause-sends : goal.returns-clause-sends
returns-clause-sends c =
    let live : lives c.args.self.now c.args.tab ≡ true = grind (arith, common_steps) in
    let tab = tab_of c.args.self.now c.args.tab in
    c.in_ok-sends.ensures
    ∙ ap (λ (k : KernelState). resent k c.args.tab c.locks.result.now) c.tabs.ensures
    ∙ ap (λ (x : TabState). resent c.self.inside.supervisor.kernel c.args.tab x) c.locks.ensures
    ∙ ap (λ (w : WorldState). resent w.kernel c.args.tab tab) c.self.view_is
    ∙ sym (resends-sends c.args.self.now c.args.tab live)

pub returns-clause-world : goal.returns-clause-world
returns-clause-world c = resends-same c.args.self.now c.args.tab
