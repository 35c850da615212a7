use Rattle.wl_broker.proofs.shards.Orders.{in-one_order}
use Rattle.wl_broker.proofs.shards.Runs.{seen-at_each_shard, answered-by_its_shard, deaths-sent_by_shards, deaths-sent_by_one_shard, hellos-of_shards}
use Rattle.wl_world_model.specs.World.{empty_world, run}
use Rattle.wl_world_model.proofs.exclusion.CoverExcludes.{Sound-exclusion}
use Rattle.wl_world_model.proofs.heard.PostsRise.{heard-rising, heard-posts}
use Rattle.wl_world_model.proofs.honest.StaysHonest.{honest-unless_named, honest-sooner}
use Rattle.wl_world_model.proofs.apart.RunsApart.{dropped-leaves_alone, kept-does_alike, runs-apart}
use Rattle.wl_world_model.proofs.order.OwnLocksMove.{takes-own_alone}
use Rattle.wl_world_model.proofs.order.EventsInOrder.{commands-in_order, granted-were_held, grants-were_sent, manager-is_fold}
use Rattle.wl_world_model.proofs.heard.ReadsAndRest.{heard-till_closed, heard-is_read}
use Rattle.wl_world_model.proofs.replies.RefusedEvents.{refused-changes_nothing}
use Rattle.wl_world_model.proofs.exclusion.SoundRuns.{run-sound}
use Rattle.wl_world_model.proofs.own.AskedByEvents.{run-own}
use Rattle.wl_world_model.proofs.laws.law_safety.Goals as goal

pub returns-clause-refused : goal.returns-clause-refused
returns-clause-refused c = refused-changes_nothing

pub returns-clause-exclusion : goal.returns-clause-exclusion
returns-clause-exclusion c = λ events. Sound-exclusion (run events empty_world) (run-sound events)

pub returns-clause-own : goal.returns-clause-own
returns-clause-own c = run-own

pub returns-clause-commands : goal.returns-clause-commands
returns-clause-commands c = commands-in_order

pub returns-clause-held : goal.returns-clause-held
returns-clause-held c = granted-were_held

pub returns-clause-sent : goal.returns-clause-sent
returns-clause-sent c = grants-were_sent

pub returns-clause-fold : goal.returns-clause-fold
returns-clause-fold c = manager-is_fold

pub returns-clause-dropped : goal.returns-clause-dropped
returns-clause-dropped c = dropped-leaves_alone

pub returns-clause-kept : goal.returns-clause-kept
returns-clause-kept c = kept-does_alike

pub returns-clause-apart : goal.returns-clause-apart
returns-clause-apart c = runs-apart

pub returns-clause-rising : goal.returns-clause-rising
returns-clause-rising c = heard-rising

pub returns-clause-posts : goal.returns-clause-posts
returns-clause-posts c = heard-posts

pub returns-clause-closed : goal.returns-clause-closed
returns-clause-closed c = heard-till_closed

pub returns-clause-told : goal.returns-clause-told
returns-clause-told c = heard-is_read

pub returns-clause-moves : goal.returns-clause-moves
returns-clause-moves c = takes-own_alone

pub returns-clause-unnamed : goal.returns-clause-unnamed
returns-clause-unnamed c = honest-unless_named

pub returns-clause-before : goal.returns-clause-before
returns-clause-before c = honest-sooner

pub returns-clause-shards : goal.returns-clause-shards
returns-clause-shards c = seen-at_each_shard

pub returns-clause-answers : goal.returns-clause-answers
returns-clause-answers c = answered-by_its_shard

pub returns-clause-deaths : goal.returns-clause-deaths
returns-clause-deaths c = deaths-sent_by_shards

pub returns-clause-one_sends : goal.returns-clause-one_sends
returns-clause-one_sends c = deaths-sent_by_one_shard

pub returns-clause-hellos : goal.returns-clause-hellos
returns-clause-hellos c = hellos-of_shards

pub returns-clause-order : goal.returns-clause-order
returns-clause-order c = in-one_order
