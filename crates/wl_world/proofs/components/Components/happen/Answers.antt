use Rattle.std.proofs.Common.{List, ap, ◌∙◌}
use Rattle.wl_world_messages.specs.declared.sent.Sent.{Sent}
use Rattle.wl_world_model.proofs.replies.StepsAndSends.{happened, replied}
use Rattle.wl_world.proofs.components.Components.happen.Goals as goal

pub returns-clause-world : goal.returns-clause-world
returns-clause-world c =
    c.in_ok-sent.ensures.bag
    ∙ happened c.args.self c.in_ok-parts.parts c.args.event.now c.in_ok-parts.done.sends.items c.in_ok-parts.ensures.world c.in_ok-parts.ensures.sends

pub returns-clause-reply : goal.returns-clause-reply
returns-clause-reply c =
    ap (λ (sent : List Sent). record { said = c.in_ok-parts.done.said; sent = sent }) (c.new.ensures ∙ c.in_ok-sent.ensures.sent)
    ∙ replied c.args.self c.in_ok-parts.parts c.args.event.now c.in_ok-parts.done.sends.items c.in_ok-parts.done.said c.in_ok-parts.ensures.world c.in_ok-parts.ensures.sends c.in_ok-parts.ensures.said
