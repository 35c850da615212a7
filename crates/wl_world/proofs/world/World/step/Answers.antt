use Rattle.std.proofs.Common.{List, sym, ap, subst, ◌∙◌}
use Rattle.std.specs.Prelude.{is_ok}
use Rattle.wl_world_model.specs.declared.event.Event.{Event}
use Rattle.wl_world_model.specs.Machine.{Machine}
use Rattle.wl_world_model.specs.World.{WorldState, empty_world, after_event, run}
use Rattle.wl_world_model.specs.Hostile.{MovesOwnAloneBetween}
use Rattle.wl_world_model.proofs.order.OwnLocksMove.{event-moves_own_alone}
use Rattle.wl_world_model.proofs.replies.StepsAndSends.{run-push}
use Rattle.wl_world.proofs.world.World.step.Goals as goal

pub invariant_of-result : goal.invariant_of-result
invariant_of-result c =
    let pushed = c.in_ok-push_mut.field-0.now in
    c.in_ok-parts.ensures.world
    ∙ ap (λ (w : WorldState). after_event w pushed) c.self.invariant
    ∙ sym (run-push c.self.inside.events.items pushed empty_world)
    ∙ ap (λ (es : List Event). run es empty_world) (sym (c.push_mut.follows.holds pushed (ap is_ok c.in_ok-push_mut.was)).0)

pub returns-clause-moves : goal.returns-clause-moves
returns-clause-moves c =
    subst (MovesOwnAloneBetween c.args.self.world c.args.event)
    (sym (c.in_ok-parts.ensures.world
    ∙ ap (λ (e : Event). after_event c.self.inside.parts e) c.in_ok-push_mut.ensures.value
    ∙ ap (λ (m : Machine). after_event m.world c.args.event) c.self.view_is))
    (event-moves_own_alone c.args.self.world c.args.event)
