use Rattle.std.specs.Prelude.{refl}
use Rattle.wl_draft.specs.Locks.{is_grantable, newly_granted, settle, queued, probed, released, aborted, ended, restored}
use Rattle.wl_broker_reports.specs.ReportParts.{with_told}
use Rattle.wl_broker.specs.Broker.{is_active, place_of, is_misplaced, settled_at, newly_at, join, join_if, take_report_part, perform, take_command, taking, death_step}
use Rattle.wl_agent.specs.SnapshotParts.{with_part, snapshot_of}
use Rattle.wl_agent.specs.Tab.{issue, ended as ended_number, finish, report_of, enter_first, enter_later, report_bodies, due}
use Rattle.wl_agent.specs.Delivery.{noted, becomes as becomes_status, delivery}
use Rattle.wl_world_messages.specs.Messages.{is_sent}
use Rattle.wl_tab.specs.Tabs.{told}
use Rattle.wl_world_model.specs.World.{acts, becomes, step_result, after_event}
use Rattle.wl_world_model.proofs.examples.law_hostile_examples.Goals as goal

pub returns-clause-honest_holder_stays : goal.returns-clause-honest_holder_stays
unfolding is_grantable newly_granted settle queued probed released aborted ended restored is_active place_of is_misplaced settled_at newly_at join join_if with_told take_report_part perform take_command taking death_step with_part snapshot_of issue ended_number finish report_of enter_first enter_later report_bodies due noted becomes_status delivery is_sent acts becomes told step_result after_event
returns-clause-honest_holder_stays c = (refl, refl, refl, refl)

pub returns-clause-corrupt_holder_is_not_excluded : goal.returns-clause-corrupt_holder_is_not_excluded
unfolding is_grantable newly_granted settle queued probed released aborted ended restored is_active place_of is_misplaced settled_at newly_at join join_if with_told take_report_part perform take_command taking death_step with_part snapshot_of issue ended_number finish report_of enter_first enter_later report_bodies due noted becomes_status delivery is_sent acts becomes told step_result after_event
returns-clause-corrupt_holder_is_not_excluded c = (refl, refl, refl)

pub returns-clause-forged_post_is_its_tabs : goal.returns-clause-forged_post_is_its_tabs
unfolding is_grantable newly_granted settle queued probed released aborted ended restored is_active place_of is_misplaced settled_at newly_at join join_if with_told take_report_part perform take_command taking death_step with_part snapshot_of issue ended_number finish report_of enter_first enter_later report_bodies due noted becomes_status delivery is_sent acts becomes told step_result after_event
returns-clause-forged_post_is_its_tabs c = refl
