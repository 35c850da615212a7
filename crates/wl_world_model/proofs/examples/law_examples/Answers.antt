-- Each example is proved by computation.
use Rattle.std.proofs.Common.{◌≡◌, ◌⊎◌, ⊎_elim, ℕ, true, false, ◌&&◌, Option, Some, None, refl}
use Rattle.std.proofs.lemmas.Bool.{cases_Bool, and_parts}
use Rattle.wl_agent.specs.declared.status.Status.{Status}
use Rattle.wl_agent.specs.declared.status.Status.TheVariants.{Asked, Held, Querying, Whole, Lost}
use Rattle.wl_agent.specs.Tab.{status_of, is_held}
use Rattle.wl_draft.specs.declared.mode.Mode.{Mode}
use Rattle.wl_draft.specs.declared.mode.Mode.TheVariants.{Exclusive, Shared}
use Rattle.wl_draft.specs.Locks.{is_grantable, newly_granted, settle, queued, probed, released, aborted, ended, restored}
use Rattle.wl_broker_reports.specs.ReportParts.{with_told}
use Rattle.wl_broker.specs.Broker.{is_active, place_of, is_misplaced, settled_at, newly_at, join, join_if, take_report_part, perform, take_command, taking, death_step}
use Rattle.wl_agent.specs.SnapshotParts.{with_part, snapshot_of}
use Rattle.wl_agent.specs.Tab.{issue, ended as ended_number, finish, report_of, enter_first, enter_later, report_bodies, due}
use Rattle.wl_agent.specs.Delivery.{noted, becomes as becomes_status, delivery}
use Rattle.wl_world_messages.specs.Messages.{is_sent}
use Rattle.wl_tab.specs.Tabs.{told}
use Rattle.wl_world_model.specs.World.{WorldState, tab_of, acts, becomes, step_result, after_event}
use Rattle.wl_world_model.specs.Apart.{is_in}
use Rattle.wl_world_model.specs.Holdings.{IsHolding, mode_at}
use Rattle.wl_world_model.specs.WorldExamples.{holds_in}
use Rattle.wl_world_model.specs.Orders.{takes_told, adds_report, takes_command, picks}
use Rattle.wl_world_model.proofs.examples.law_examples.Goals as goal

pub returns-clause-first_grant : goal.returns-clause-first_grant
unfolding is_grantable newly_granted settle queued probed released aborted ended restored is_active place_of is_misplaced settled_at newly_at join join_if with_told take_report_part perform take_command taking death_step with_part snapshot_of issue ended_number finish report_of enter_first enter_later report_bodies due noted becomes_status delivery is_sent acts becomes told step_result after_event
returns-clause-first_grant c = (refl, refl, refl)

pub returns-clause-release_hands_over : goal.returns-clause-release_hands_over
unfolding is_grantable newly_granted settle queued probed released aborted ended restored is_active place_of is_misplaced settled_at newly_at join join_if with_told take_report_part perform take_command taking death_step with_part snapshot_of issue ended_number finish report_of enter_first enter_later report_bodies due noted becomes_status delivery is_sent acts becomes told step_result after_event
returns-clause-release_hands_over c = (refl, refl, refl)

pub returns-clause-late_grant_after_abort : goal.returns-clause-late_grant_after_abort
unfolding is_grantable newly_granted settle queued probed released aborted ended restored is_active place_of is_misplaced settled_at newly_at join join_if with_told take_report_part perform take_command taking death_step with_part snapshot_of issue ended_number finish report_of enter_first enter_later report_bodies due noted becomes_status delivery is_sent acts becomes told step_result after_event
returns-clause-late_grant_after_abort c = (refl, refl, refl)

pub returns-clause-restart_while_asked : goal.returns-clause-restart_while_asked
unfolding is_grantable newly_granted settle queued probed released aborted ended restored is_active place_of is_misplaced settled_at newly_at join join_if with_told take_report_part perform take_command taking death_step with_part snapshot_of issue ended_number finish report_of enter_first enter_later report_bodies due noted becomes_status delivery is_sent acts becomes told step_result after_event
returns-clause-restart_while_asked c = (refl, refl, refl)

pub returns-clause-restart_while_held : goal.returns-clause-restart_while_held
unfolding is_grantable newly_granted settle queued probed released aborted ended restored is_active place_of is_misplaced settled_at newly_at join join_if with_told take_report_part perform take_command taking death_step with_part snapshot_of issue ended_number finish report_of enter_first enter_later report_bodies due noted becomes_status delivery is_sent acts becomes told step_result after_event
returns-clause-restart_while_held c = (refl, refl, refl, refl)

held-status : (s : Option Status) → is_held s ≡ true → s ≡ Some Held
held-status None e = cc
held-status (Some Asked) e = cc
held-status (Some Held) e = refl
held-status (Some (Querying parts)) e = cc
held-status (Some (Whole snapshot)) e = cc
held-status (Some Lost) e = cc

holds-holding : (w : WorldState) (t k : ℕ) → holds_in w t k ≡ true → IsHolding w t k
holds-holding w t k e = let parts = and_parts _ _ e in (parts.0, held-status (status_of (tab_of w t) k) parts.1)

not-both : (m : Mode) → m ≡ Exclusive → m ≡ Shared → ⊥
not-both m e s = cc

pub returns-clause-rivals : goal.returns-clause-rivals
returns-clause-rivals c w t k u j x r =
    ⊎_elim
    (λ e.
    let both = and_parts _ _ e in
    absurd (not-both (mode_at w t k) r.mode (x t k u j r.first r.second (holds-holding w t k both.0) (holds-holding w u j both.1) r.differ r.partition r.name).0))
    (λ e. e)
    (cases_Bool (holds_in w t k && holds_in w u j))

pub returns-clause-old_grant : goal.returns-clause-old_grant
unfolding is_grantable newly_granted settle queued probed released aborted ended restored is_active place_of is_misplaced settled_at newly_at join join_if with_told take_report_part perform take_command taking death_step with_part snapshot_of issue ended_number finish report_of enter_first enter_later report_bodies due noted becomes_status delivery is_sent acts becomes told step_result after_event
returns-clause-old_grant c = (record { first = refl; second = refl; differ = λ e. cc; partition = refl; name = refl; mode = refl }, refl)

pub returns-clause-early_grant : goal.returns-clause-early_grant
unfolding is_grantable newly_granted settle queued probed released aborted ended restored is_active place_of is_misplaced settled_at newly_at join join_if with_told take_report_part perform take_command taking death_step with_part snapshot_of issue ended_number finish report_of enter_first enter_later report_bodies due noted becomes_status delivery is_sent acts becomes told step_result after_event
returns-clause-early_grant c = (record { first = refl; second = refl; differ = λ e. cc; partition = refl; name = refl; mode = refl }, refl)

pub returns-clause-death_hands_over : goal.returns-clause-death_hands_over
unfolding is_grantable newly_granted settle queued probed released aborted ended restored is_active place_of is_misplaced settled_at newly_at join join_if with_told take_report_part perform take_command taking death_step with_part snapshot_of issue ended_number finish report_of enter_first enter_later report_bodies due noted becomes_status delivery is_sent acts becomes told step_result after_event
returns-clause-death_hands_over c = (refl, refl, refl)

pub returns-clause-posts_in_the_partition : goal.returns-clause-posts_in_the_partition
unfolding is_grantable newly_granted settle queued probed released aborted ended restored is_active place_of is_misplaced settled_at newly_at join join_if with_told take_report_part perform take_command taking death_step with_part snapshot_of issue ended_number finish report_of enter_first enter_later report_bodies due noted becomes_status delivery is_sent acts becomes told step_result after_event
returns-clause-posts_in_the_partition c = refl

pub returns-clause-taken_once : goal.returns-clause-taken_once
unfolding is_grantable newly_granted settle queued probed released aborted ended restored is_active place_of is_misplaced settled_at newly_at join join_if with_told take_report_part perform take_command taking death_step with_part snapshot_of issue ended_number finish report_of enter_first enter_later report_bodies due noted becomes_status delivery is_sent acts becomes told step_result after_event takes_told adds_report takes_command picks
returns-clause-taken_once c = refl

pub returns-clause-other_origin_unblocked : goal.returns-clause-other_origin_unblocked
unfolding is_grantable newly_granted settle queued probed released aborted ended restored is_active place_of is_misplaced settled_at newly_at join join_if with_told take_report_part perform take_command taking death_step with_part snapshot_of issue ended_number finish report_of enter_first enter_later report_bodies due noted becomes_status delivery is_sent acts becomes told step_result after_event is_in
returns-clause-other_origin_unblocked c = (refl, refl, refl)
