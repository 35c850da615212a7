-- Proof of the examples by computation.
use Rattle.std.specs.Prelude.{refl}
use Rattle.wl_draft.specs.Locks.{is_grantable, newly_granted, settle, queued, probed, released, aborted, ended, restored}
use Rattle.wl_broker_reports.specs.ReportParts.{with_told}
use Rattle.wl_broker.specs.Broker.{is_active, place_of, is_misplaced, settled_at, newly_at, join, join_if, take_report_part, perform, take_command, taking, death_step}
use Rattle.wl_broker.proofs.examples.law_shard_examples.Goals as goal

pub returns-clause-two_shards : goal.returns-clause-two_shards
unfolding is_grantable newly_granted settle queued probed released aborted ended restored is_active place_of is_misplaced settled_at newly_at join join_if with_told take_report_part perform take_command taking death_step
returns-clause-two_shards c = (refl, refl, refl, refl, refl)

pub returns-clause-death_in_one_shard : goal.returns-clause-death_in_one_shard
unfolding is_grantable newly_granted settle queued probed released aborted ended restored is_active place_of is_misplaced settled_at newly_at join join_if with_told take_report_part perform take_command taking death_step
returns-clause-death_in_one_shard c = (refl, refl, refl, refl)

pub returns-clause-under_two_partitions : goal.returns-clause-under_two_partitions
unfolding is_grantable newly_granted settle queued probed released aborted ended restored is_active place_of is_misplaced settled_at newly_at join join_if with_told take_report_part perform take_command taking death_step
returns-clause-under_two_partitions c = (refl, refl, refl, refl)
