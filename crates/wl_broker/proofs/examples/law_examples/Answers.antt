-- Proof of the examples by computation.
use Rattle.std.specs.Prelude.{refl}
use Rattle.wl_draft.specs.Locks.{is_grantable, newly_granted, settle, queued, probed, released, aborted, ended, restored}
use Rattle.wl_broker_reports.specs.ReportParts.{with_told}
use Rattle.wl_broker.specs.Broker.{is_active, place_of, is_misplaced, settled_at, newly_at, join, join_if, take_report_part, perform, take_command, taking, death_step}
use Rattle.wl_broker.proofs.examples.law_examples.Goals as goal

pub returns-clause-shared_then_exclusive : goal.returns-clause-shared_then_exclusive
unfolding is_grantable newly_granted settle queued probed released aborted ended restored is_active place_of is_misplaced settled_at newly_at join join_if take_report_part with_told perform take_command taking death_step
returns-clause-shared_then_exclusive c = refl

pub returns-clause-release_hands_over : goal.returns-clause-release_hands_over
unfolding is_grantable newly_granted settle queued probed released aborted ended restored is_active place_of is_misplaced settled_at newly_at join join_if take_report_part with_told perform take_command taking death_step
returns-clause-release_hands_over c = refl

pub returns-clause-late_grant_after_abort : goal.returns-clause-late_grant_after_abort
unfolding is_grantable newly_granted settle queued probed released aborted ended restored is_active place_of is_misplaced settled_at newly_at join join_if take_report_part with_told perform take_command taking death_step
returns-clause-late_grant_after_abort c = refl

pub returns-clause-repeated_request : goal.returns-clause-repeated_request
unfolding is_grantable newly_granted settle queued probed released aborted ended restored is_active place_of is_misplaced settled_at newly_at join join_if take_report_part with_told perform take_command taking death_step
returns-clause-repeated_request c = refl

pub returns-clause-restart_while_asked : goal.returns-clause-restart_while_asked
unfolding is_grantable newly_granted settle queued probed released aborted ended restored is_active place_of is_misplaced settled_at newly_at join join_if take_report_part with_told perform take_command taking death_step
returns-clause-restart_while_asked c = refl

pub returns-clause-restart_while_held : goal.returns-clause-restart_while_held
unfolding is_grantable newly_granted settle queued probed released aborted ended restored is_active place_of is_misplaced settled_at newly_at join join_if take_report_part with_told perform take_command taking death_step
returns-clause-restart_while_held c = refl

pub returns-clause-death_hands_over : goal.returns-clause-death_hands_over
unfolding is_grantable newly_granted settle queued probed released aborted ended restored is_active place_of is_misplaced settled_at newly_at join join_if take_report_part with_told perform take_command taking death_step
returns-clause-death_hands_over c = refl

pub returns-clause-other_origin_unblocked : goal.returns-clause-other_origin_unblocked
unfolding is_grantable newly_granted settle queued probed released aborted ended restored is_active place_of is_misplaced settled_at newly_at join join_if take_report_part with_told perform take_command taking death_step
returns-clause-other_origin_unblocked c = refl

pub returns-clause-snapshot : goal.returns-clause-snapshot
unfolding is_grantable newly_granted settle queued probed released aborted ended restored is_active place_of is_misplaced settled_at newly_at join join_if take_report_part with_told perform take_command taking death_step
returns-clause-snapshot c = refl

pub returns-clause-out_of_turn : goal.returns-clause-out_of_turn
unfolding is_grantable newly_granted settle queued probed released aborted ended restored is_active place_of is_misplaced settled_at newly_at join join_if take_report_part with_told perform take_command taking death_step
returns-clause-out_of_turn c = refl

pub returns-clause-held_newcomer : goal.returns-clause-held_newcomer
unfolding is_grantable newly_granted settle queued probed released aborted ended restored is_active place_of is_misplaced settled_at newly_at join join_if take_report_part with_told perform take_command taking death_step
returns-clause-held_newcomer c = refl

pub returns-clause-dead_tab_unblocks : goal.returns-clause-dead_tab_unblocks
unfolding is_grantable newly_granted settle queued probed released aborted ended restored is_active place_of is_misplaced settled_at newly_at join join_if take_report_part with_told perform take_command taking death_step
returns-clause-dead_tab_unblocks c = refl

pub returns-clause-in_two_parts : goal.returns-clause-in_two_parts
unfolding is_grantable newly_granted settle queued probed released aborted ended restored is_active place_of is_misplaced settled_at newly_at join join_if take_report_part with_told perform take_command taking death_step
returns-clause-in_two_parts c = refl

pub returns-clause-parts_that_do_not_fit : goal.returns-clause-parts_that_do_not_fit
unfolding is_grantable newly_granted settle queued probed released aborted ended restored is_active place_of is_misplaced settled_at newly_at join join_if take_report_part with_told perform take_command taking death_step
returns-clause-parts_that_do_not_fit c = refl
