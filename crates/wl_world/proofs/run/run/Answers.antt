use Rattle.std.proofs.Common.{◌≡◌, List, sym, ap, ◌∙◌, subst}
use Rattle.std.proofs.lemmas.List.{take_all}
use Rattle.wl_world_model.specs.declared.event.Event.{Event}
use Rattle.wl_world_model.specs.World.{empty_world, run}
use Rattle.wl_world_model.specs.Holdings.{Exclusion, Own}
use Rattle.wl_world_model.specs.Hostile.{HonestIfUnnamed}
use Rattle.wl_world_model.specs.Orders.{CommandsInOrder, GrantedWereHeld, GrantsWereSent, ManagerIsFold}
use Rattle.wl_world_model.specs.Heard.{HeardIsRead}
use Rattle.wl_world_model.specs.Apart.{RunsApart}
use Rattle.wl_world_model.proofs.exclusion.CoverExcludes.{Sound-exclusion}
use Rattle.wl_world_model.proofs.honest.StaysHonest.{honest-unless_named}
use Rattle.wl_world_model.proofs.exclusion.SoundRuns.{run-sound}
use Rattle.wl_world_model.proofs.own.AskedByEvents.{run-own}
use Rattle.wl_world_model.proofs.order.EventsInOrder.{commands-in_order, granted-were_held, grants-were_sent, manager-is_fold}
use Rattle.wl_world_model.proofs.heard.PostsRise.{heard-rising, heard-posts}
use Rattle.wl_world_model.proofs.heard.ReadsAndRest.{heard-till_closed, heard-is_read}
use Rattle.wl_world_model.proofs.apart.RunsApart.{runs-apart}
use Rattle.wl_world.proofs.run.run.Goals as goal

-- The loop has applied all events.
made : (c : goal.After-loop-event) → run c.args.events.now empty_world ≡ c.loop-event.world.world
made c =
    sym (c.loop-event.invariant.world ∙ ap (λ (es : List Event). run es empty_world) (take_all c.loop-event.event-index c.args.events.now c.loop-event-test.false))

pub returns-clause-honest : goal.returns-clause-honest
returns-clause-honest c = subst (HonestIfUnnamed c.args.events.now) (made c) (honest-unless_named c.args.events.now)

pub returns-clause-exclusion : goal.returns-clause-exclusion
returns-clause-exclusion c = subst Exclusion (made c) (Sound-exclusion (run c.args.events.now empty_world) (run-sound c.args.events.now))

pub returns-clause-own : goal.returns-clause-own
returns-clause-own c = subst (Own c.args.events.now) (made c) (run-own c.args.events.now)

pub returns-clause-commands : goal.returns-clause-commands
returns-clause-commands c = subst (CommandsInOrder c.args.events.now) (made c) (commands-in_order c.args.events.now)

pub returns-clause-granted : goal.returns-clause-granted
returns-clause-granted c = subst (GrantedWereHeld c.args.events.now) (made c) (granted-were_held c.args.events.now)

pub returns-clause-grants : goal.returns-clause-grants
returns-clause-grants c = subst (GrantsWereSent c.args.events.now) (made c) (grants-were_sent c.args.events.now)

pub returns-clause-fold : goal.returns-clause-fold
returns-clause-fold c = subst (ManagerIsFold c.args.events.now) (made c) (manager-is_fold c.args.events.now)

pub returns-clause-heard_rising : goal.returns-clause-heard_rising
returns-clause-heard_rising c = heard-rising c.args.events.now

pub returns-clause-heard_posts : goal.returns-clause-heard_posts
returns-clause-heard_posts c = heard-posts c.args.events.now

pub returns-clause-heard_closed : goal.returns-clause-heard_closed
returns-clause-heard_closed c = heard-till_closed c.args.events.now

pub returns-clause-heard_told : goal.returns-clause-heard_told
returns-clause-heard_told c = subst (HeardIsRead c.args.events.now) (made c) (heard-is_read c.args.events.now)

pub returns-clause-apart : goal.returns-clause-apart
returns-clause-apart c = subst (RunsApart c.args.events.now) (made c) (runs-apart c.args.events.now)
