use Rattle.std.specs.Prelude.{refl}
use Rattle.wl_draft.specs.Locks.{is_grantable, newly_granted, settle, queued, probed, released, aborted, ended, restored}
use Rattle.wl_broker_reports.specs.ReportParts.{with_told}
use Rattle.wl_broker.specs.Broker.{is_active, place_of, is_misplaced, settled_at, newly_at, join, join_if, take_report_part, perform, take_command, taking, death_step}
use Rattle.wl_agent.specs.SnapshotParts.{with_part, snapshot_of}
use Rattle.wl_agent.specs.Tab.{issue, ended as ended_number, finish, report_of, enter_first, enter_later, report_bodies, due}
use Rattle.wl_agent.specs.Delivery.{noted, becomes as becomes_status, delivery}
use Rattle.wl_tab.specs.Arrivals.{arrival}
use Rattle.wl_tab.specs.Tabs.{told}
use Rattle.wl_library_model.specs.Library.{step}
use Rattle.wl_library_model.specs.Events.{events_of}
use Rattle.wl_library_model.proofs.ProgressRequests.{requests-are_granted}
use Rattle.wl_library_model.proofs.ProgressJoins.{new-tabs_join}
use Rattle.wl_library_model.proofs.ProgressServed.{new-tabs_are-served}
use Rattle.wl_library_model.proofs.progress.law_progress.Goals as goal

pub returns-clause-granted : goal.returns-clause-granted
returns-clause-granted c = requests-are_granted

pub returns-clause-joined : goal.returns-clause-joined
returns-clause-joined c = new-tabs_join

pub returns-clause-served : goal.returns-clause-served
returns-clause-served c = new-tabs_are-served

-- The example is computed.
pub returns-clause-met : goal.returns-clause-met
unfolding is_grantable newly_granted settle queued probed released aborted ended restored is_active place_of is_misplaced settled_at newly_at join join_if with_told take_report_part perform take_command taking death_step with_part snapshot_of issue ended_number finish report_of enter_first enter_later report_bodies due noted becomes_status delivery arrival told step events_of
returns-clause-met c = (refl, (_, refl), refl, refl, (_, refl, record { active = refl; grantable = refl }))
