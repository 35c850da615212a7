use Rattle.std.proofs.Common.{ap, ◌∙◌}
use Rattle.wl_world_model.specs.declared.event.Event.{Event}
use Rattle.wl_world_model.specs.declared.reply.Reply.{Reply}
use Rattle.wl_world_model.specs.Replies.{reply_of}
use Rattle.wl_script.specs.SimSteps.{is_opened}
use Rattle.wl_script.proofs.PlayLemmas.{opened_said}
use Rattle.wl_script.proofs.play.try_open.Goals as goal

pub returns-clause-opened : goal.returns-clause-opened
returns-clause-opened c =
    let w = c.args.world.world in
    let reply = c.in_ok-world.ensures.reply ∙ ap (λ (e : Event). reply_of w e) c.opening.ensures in
    c.is_opening-is_opened.ensures ∙ ap (λ (r : Reply). is_opened r.said) reply ∙ opened_said c.args.in_parts w c.args.tab c.args.partition
