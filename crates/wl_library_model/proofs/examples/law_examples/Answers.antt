-- The conversation is proved by computation.
use Rattle.std.specs.Prelude.{refl}
use Rattle.wl_draft.specs.Locks.{is_grantable, newly_granted, settle, queued, probed, released, aborted, ended, restored}
use Rattle.wl_broker_reports.specs.ReportParts.{with_told}
use Rattle.wl_broker.specs.Broker.{is_active, place_of, is_misplaced, settled_at, newly_at, join, join_if, take_report_part, perform, take_command, taking, death_step}
use Rattle.wl_agent.specs.SnapshotParts.{with_part, snapshot_of}
use Rattle.wl_agent.specs.Tab.{issue, ended as ended_number, finish, report_of, enter_first, enter_later, report_bodies, due}
use Rattle.wl_agent.specs.Delivery.{noted, becomes as becomes_status, delivery}
use Rattle.wl_tab.specs.Arrivals.{arrival}
use Rattle.wl_tab.specs.Tabs.{told}
use Rattle.wl_library_model.specs.Library.{step}
use Rattle.wl_library_model.specs.Events.{events_of}
use Rattle.wl_library_model.proofs.examples.law_examples.Goals as goal

pub returns-clause-events : goal.returns-clause-events
unfolding is_grantable newly_granted settle queued probed released aborted ended restored is_active place_of is_misplaced settled_at newly_at join join_if with_told take_report_part perform take_command taking death_step with_part snapshot_of issue ended_number finish report_of enter_first enter_later report_bodies due noted becomes_status delivery arrival told step events_of
returns-clause-events c = refl

pub returns-clause-contended : goal.returns-clause-contended
unfolding is_grantable newly_granted settle queued probed released aborted ended restored is_active place_of is_misplaced settled_at newly_at join join_if with_told take_report_part perform take_command taking death_step with_part snapshot_of issue ended_number finish report_of enter_first enter_later report_bodies due noted becomes_status delivery arrival told step events_of
returns-clause-contended c = (refl, refl)

pub returns-clause-restarted : goal.returns-clause-restarted
unfolding is_grantable newly_granted settle queued probed released aborted ended restored is_active place_of is_misplaced settled_at newly_at join join_if with_told take_report_part perform take_command taking death_step with_part snapshot_of issue ended_number finish report_of enter_first enter_later report_bodies due noted becomes_status delivery arrival told step events_of
returns-clause-restarted c = (refl, refl)

pub returns-clause-bereaved : goal.returns-clause-bereaved
unfolding is_grantable newly_granted settle queued probed released aborted ended restored is_active place_of is_misplaced settled_at newly_at join join_if with_told take_report_part perform take_command taking death_step with_part snapshot_of issue ended_number finish report_of enter_first enter_later report_bodies due noted becomes_status delivery arrival told step events_of
returns-clause-bereaved c = (refl, refl)

pub returns-clause-talked : goal.returns-clause-talked
unfolding is_grantable newly_granted settle queued probed released aborted ended restored is_active place_of is_misplaced settled_at newly_at join join_if with_told take_report_part perform take_command taking death_step with_part snapshot_of issue ended_number finish report_of enter_first enter_later report_bodies due noted becomes_status delivery arrival told step events_of
returns-clause-talked c = (refl, refl, refl)

pub returns-clause-released : goal.returns-clause-released
unfolding is_grantable newly_granted settle queued probed released aborted ended restored is_active place_of is_misplaced settled_at newly_at join join_if with_told take_report_part perform take_command taking death_step with_part snapshot_of issue ended_number finish report_of enter_first enter_later report_bodies due noted becomes_status delivery arrival told step events_of
returns-clause-released c = refl

pub returns-clause-told : goal.returns-clause-told
unfolding is_grantable newly_granted settle queued probed released aborted ended restored is_active place_of is_misplaced settled_at newly_at join join_if with_told take_report_part perform take_command taking death_step with_part snapshot_of issue ended_number finish report_of enter_first enter_later report_bodies due noted becomes_status delivery arrival told step events_of
returns-clause-told c = (refl, refl)

pub returns-clause-recovering : goal.returns-clause-recovering
unfolding is_grantable newly_granted settle queued probed released aborted ended restored is_active place_of is_misplaced settled_at newly_at join join_if with_told take_report_part perform take_command taking death_step with_part snapshot_of issue ended_number finish report_of enter_first enter_later report_bodies due noted becomes_status delivery arrival told step events_of
returns-clause-recovering c = refl
