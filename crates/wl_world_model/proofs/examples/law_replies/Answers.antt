-- Each example is proved by computation.
use Rattle.std.specs.Prelude.{refl}
use Rattle.wl_draft.specs.Locks.{is_grantable, newly_granted, settle, queued, probed, released, aborted, ended, restored}
use Rattle.wl_broker_reports.specs.ReportParts.{with_told}
use Rattle.wl_broker.specs.Broker.{is_active, place_of, is_misplaced, settled_at, newly_at, join, join_if, take_report_part, perform, take_command, taking, death_step}
use Rattle.wl_agent.specs.SnapshotParts.{with_part, snapshot_of}
use Rattle.wl_agent.specs.Tab.{issue, ended as ended_number, finish, report_of, enter_first, enter_later, report_bodies, due}
use Rattle.wl_agent.specs.Delivery.{noted, becomes as becomes_status, delivery}
use Rattle.wl_world_messages.specs.Messages.{is_sent, sending}
use Rattle.wl_tab.specs.Tabs.{told}
use Rattle.wl_tab.specs.Arrivals.{arrival}
use Rattle.wl_world_model.specs.World.{acts, becomes, step_result, after_event}
use Rattle.wl_world_model.specs.Replies.{said_of, reply_of}
use Rattle.wl_world_model.proofs.examples.law_replies.Goals as goal

pub returns-clause-joining : goal.returns-clause-joining
unfolding is_grantable newly_granted settle queued probed released aborted ended restored is_active place_of is_misplaced settled_at newly_at join join_if with_told take_report_part perform take_command taking death_step with_part snapshot_of issue ended_number finish report_of enter_first enter_later report_bodies due noted becomes_status delivery is_sent acts becomes told step_result after_event sending arrival said_of reply_of
returns-clause-joining c = refl

pub returns-clause-late_grant : goal.returns-clause-late_grant
unfolding is_grantable newly_granted settle queued probed released aborted ended restored is_active place_of is_misplaced settled_at newly_at join join_if with_told take_report_part perform take_command taking death_step with_part snapshot_of issue ended_number finish report_of enter_first enter_later report_bodies due noted becomes_status delivery is_sent acts becomes told step_result after_event sending arrival said_of reply_of
returns-clause-late_grant c = refl

pub returns-clause-snapshots : goal.returns-clause-snapshots
unfolding is_grantable newly_granted settle queued probed released aborted ended restored is_active place_of is_misplaced settled_at newly_at join join_if with_told take_report_part perform take_command taking death_step with_part snapshot_of issue ended_number finish report_of enter_first enter_later report_bodies due noted becomes_status delivery is_sent acts becomes told step_result after_event sending arrival said_of reply_of
returns-clause-snapshots c = refl

pub returns-clause-recovery : goal.returns-clause-recovery
unfolding is_grantable newly_granted settle queued probed released aborted ended restored is_active place_of is_misplaced settled_at newly_at join join_if with_told take_report_part perform take_command taking death_step with_part snapshot_of issue ended_number finish report_of enter_first enter_later report_bodies due noted becomes_status delivery is_sent acts becomes told step_result after_event sending arrival said_of reply_of
returns-clause-recovery c = refl

pub returns-clause-ending : goal.returns-clause-ending
unfolding is_grantable newly_granted settle queued probed released aborted ended restored is_active place_of is_misplaced settled_at newly_at join join_if with_told take_report_part perform take_command taking death_step with_part snapshot_of issue ended_number finish report_of enter_first enter_later report_bodies due noted becomes_status delivery is_sent acts becomes told step_result after_event sending arrival said_of reply_of
returns-clause-ending c = refl

pub returns-clause-posts : goal.returns-clause-posts
unfolding is_grantable newly_granted settle queued probed released aborted ended restored is_active place_of is_misplaced settled_at newly_at join join_if with_told take_report_part perform take_command taking death_step with_part snapshot_of issue ended_number finish report_of enter_first enter_later report_bodies due noted becomes_status delivery is_sent acts becomes told step_result after_event sending arrival said_of reply_of
returns-clause-posts c = refl

pub returns-clause-full_inbox : goal.returns-clause-full_inbox
unfolding is_grantable newly_granted settle queued probed released aborted ended restored is_active place_of is_misplaced settled_at newly_at join join_if with_told take_report_part perform take_command taking death_step with_part snapshot_of issue ended_number finish report_of enter_first enter_later report_bodies due noted becomes_status delivery is_sent acts becomes told step_result after_event sending arrival said_of reply_of
returns-clause-full_inbox c = refl

pub returns-clause-refusals : goal.returns-clause-refusals
unfolding is_grantable newly_granted settle queued probed released aborted ended restored is_active place_of is_misplaced settled_at newly_at join join_if with_told take_report_part perform take_command taking death_step with_part snapshot_of issue ended_number finish report_of enter_first enter_later report_bodies due noted becomes_status delivery is_sent acts becomes told step_result after_event sending arrival said_of reply_of
returns-clause-refusals c = refl
