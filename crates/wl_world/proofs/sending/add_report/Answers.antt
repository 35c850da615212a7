use Rattle.std.proofs.Common.{List, ◌++◌, ap, ◌∙◌}
use Rattle.std.specs.List.{flat_map}
use Rattle.std.proofs.lemmas.Result.{IfOk-weaker}
use Rattle.wl_grammar.specs.declared.frame.Frame.{Frame}
use Rattle.wl_agent.specs.Tab.{report_bodies}
use Rattle.wl_world_messages.specs.declared.message.Message.{Message}
use Rattle.wl_world.specs.Components.{passed_up}
use Rattle.wl_world.proofs.calls.StampedMessages.{upwards-stamped}
use Rattle.wl_world.proofs.sending.add_report.Goals as goal

pub returns-in-Ok : goal.returns-in-Ok
returns-in-Ok c =
    let k = c.args.kernel.now in
    let a = c.args.locks.now in
    let stamped = ap (λ (fs : List Frame). flat_map (passed_up k c.args.tab) fs) c.in-Ok.ensures.report ∙ upwards-stamped k c.args.tab (report_bodies a.in_parts a.report) in
    IfOk-weaker c.add_all_stamped.result _ _ (λ x e. e ∙ ap (λ (ms : List Message). c.args.sends.now.items ++ ms) stamped) c.add_all_stamped.ensures
