use Rattle.std.proofs.Common.{sym, ◌∙◌}
use Rattle.std.proofs.lemmas.Result.{IfOk-weaker}
use Rattle.wl_world.proofs.calls.ReportCalls.{across-silent}
use Rattle.wl_world.proofs.components.Components.deliver.Goals as goal

pub returns-in-Across-clause-sends : goal.returns-in-Across-clause-sends
returns-in-Across-clause-sends c =
    IfOk-weaker c.hear_post.result _ _ (λ done e. e ∙ sym (across-silent c.args.self.now c.args.message.now c.in-Across.tab c.in-Across.heard c.in-Across.is)) c.hear_post.ensures.sends
