use Rattle.std.proofs.Common.{◌≡◌, sym, ◌∙◌}
use Rattle.std.proofs.lemmas.Result.{IfOk-weaker}
use Rattle.wl_kernel.specs.declared.routes.Routed.TheVariants.{Tabs}
use Rattle.wl_kernel.specs.Routes.{routed_up}
use Rattle.wl_world.proofs.calls.PassedPosts.{crossed-across}
use Rattle.wl_world.proofs.components.channels.to_others.Goals as goal

pub returns-in-Ok-Tabs : goal.returns-in-Ok-Tabs
returns-in-Ok-Tabs c =
    let routed : Tabs c.in-Ok-Tabs.posts ≡ routed_up c.args.tab c.args.frame c.args.kernel.now = sym c.in-Ok-Tabs.field-0-is ∙ c.in-Ok-Tabs.ensures.routed in
    IfOk-weaker c.all_across.result _ _ (λ ms e. e ∙ crossed-across c.args.kernel.now c.args.tab c.args.frame c.in-Ok-Tabs.posts routed) c.all_across.ensures
