-- Each example is proved by computation.
use Rattle.std.specs.Prelude.{refl}
use Rattle.wl_draft.specs.Locks.{is_grantable, newly_granted, settle, queued, probed, released, aborted, ended, restored}
use Rattle.wl_grammar.specs.Grammar.{report_part, upward, stamped, body, spelling}
use Rattle.wl_broker_reports.specs.ReportParts.{with_told}
use Rattle.wl_broker.specs.Broker.{is_active, place_of, is_misplaced, settled_at, newly_at, join, join_if, take_report_part, perform, take_command, taking, death_step}
use Rattle.wl_agent.specs.SnapshotParts.{with_part, snapshot_of}
use Rattle.wl_agent.specs.Tab.{issue, ended as ended_number, finish, report_of, enter_first, enter_later, report_bodies, due}
use Rattle.wl_agent.specs.Delivery.{noted, becomes as becomes_status, delivery}
use Rattle.wl_world_messages.specs.Messages.{is_sent, sending}
use Rattle.wl_tab.specs.Tabs.{told}
use Rattle.wl_tab.specs.Arrivals.{arrival}
use Rattle.wl_world_model.specs.World.{acts, becomes, step_result, after_event}
use Rattle.wl_world_model.specs.Replies.{said_of, reply_of}
use Rattle.wl_world_model.proofs.examples.law_part_examples.Goals as goal

pub returns-clause-one_part : goal.returns-clause-one_part
unfolding report_part upward stamped body spelling is_grantable newly_granted settle queued probed released aborted ended restored is_active place_of is_misplaced settled_at newly_at join join_if with_told take_report_part perform take_command taking death_step with_part snapshot_of issue ended_number finish report_of enter_first enter_later report_bodies due noted becomes_status delivery is_sent acts becomes told step_result after_event sending arrival said_of reply_of
returns-clause-one_part c = (refl, refl, refl)

pub returns-clause-in_two_parts : goal.returns-clause-in_two_parts
unfolding is_grantable newly_granted settle queued probed released aborted ended restored is_active place_of is_misplaced settled_at newly_at join join_if with_told take_report_part perform take_command taking death_step with_part snapshot_of issue ended_number finish report_of enter_first enter_later report_bodies due noted becomes_status delivery is_sent acts becomes told step_result after_event sending arrival said_of reply_of
returns-clause-in_two_parts c = (refl, refl)

pub returns-clause-apart_by_top : goal.returns-clause-apart_by_top
unfolding is_grantable newly_granted settle queued probed released aborted ended restored is_active place_of is_misplaced settled_at newly_at join join_if with_told take_report_part perform take_command taking death_step with_part snapshot_of issue ended_number finish report_of enter_first enter_later report_bodies due noted becomes_status delivery is_sent acts becomes told step_result after_event sending arrival said_of reply_of
returns-clause-apart_by_top c = (refl, refl, refl)

pub returns-clause-parts_refused : goal.returns-clause-parts_refused
unfolding is_grantable newly_granted settle queued probed released aborted ended restored is_active place_of is_misplaced settled_at newly_at join join_if with_told take_report_part perform take_command taking death_step with_part snapshot_of issue ended_number finish report_of enter_first enter_later report_bodies due noted becomes_status delivery is_sent acts becomes told step_result after_event sending arrival said_of reply_of
returns-clause-parts_refused c = (refl, refl)

pub returns-clause-parts_given_up : goal.returns-clause-parts_given_up
unfolding is_grantable newly_granted settle queued probed released aborted ended restored is_active place_of is_misplaced settled_at newly_at join join_if with_told take_report_part perform take_command taking death_step with_part snapshot_of issue ended_number finish report_of enter_first enter_later report_bodies due noted becomes_status delivery is_sent acts becomes told step_result after_event sending arrival said_of reply_of
returns-clause-parts_given_up c = (refl, refl, refl, refl, refl, refl)

pub returns-clause-forged_parts : goal.returns-clause-forged_parts
unfolding is_grantable newly_granted settle queued probed released aborted ended restored is_active place_of is_misplaced settled_at newly_at join join_if with_told take_report_part perform take_command taking death_step with_part snapshot_of issue ended_number finish report_of enter_first enter_later report_bodies due noted becomes_status delivery is_sent acts becomes told step_result after_event sending arrival said_of reply_of
returns-clause-forged_parts c = (refl, refl, refl, refl)
