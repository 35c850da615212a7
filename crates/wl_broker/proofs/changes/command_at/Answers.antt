use Rattle.std.proofs.Common.{sym, ap, ◌∙◌}
use Rattle.std.proofs.lemmas.Bool.{false≢true}
use Rattle.wl_draft.specs.Tables.{put}
use Rattle.wl_draft.specs.Locks.{standing, settle}
use Rattle.wl_draft.proofs.RisingTables.{written_same}
use Rattle.wl_broker_reports.proofs.WrittenRows.{written}
use Rattle.wl_broker.specs.Broker.{drafted, outcome_at}
use Rattle.wl_broker.specs.BrokerInvariant.{PartitionState, state_of, no_partition}
use Rattle.wl_broker.proofs.Fields.{if_err_always}
use Rattle.wl_broker.proofs.PartitionRows.{at-lookup, at-lookup_none}
use Rattle.wl_broker.proofs.changes.command_at.Goals as goal

pub command-requires-clause-active : goal.command-requires-clause-active
command-requires-clause-active g c =
    ap (λ (s : PartitionState). s.is_active) (sym (at-lookup no_partition _ c.args.partition c.args.partitions.now.entries c.in-Some.ensures.value)) ∙ c.requires.active

pub command-requires-clause-new : goal.command-requires-clause-new
command-requires-clause-new g c =
    ap (λ (s : PartitionState). standing s.locks c.args.tab c.args.number) (sym (at-lookup no_partition _ c.args.partition c.args.partitions.now.entries c.in-Some.ensures.value)) ∙ c.requires.new

pub unreachable-requires : goal.unreachable-requires
unreachable-requires g c =
    let e = ap (λ (s : PartitionState). s.is_active) (at-lookup_none no_partition _ c.args.partitions.now.entries c.in-None.ensures.value) in
    false≢true (sym e ∙ c.requires.active)

pub returns-clause-grants : goal.returns-clause-grants
returns-clause-grants g c =
    let e = at-lookup no_partition _ c.args.partition c.args.partitions.now.entries c.in-Some.ensures.value in
    rw e c.in_ok-granted-in-Some.ensures.grants

pub returns-clause-outcome : goal.returns-clause-outcome
returns-clause-outcome g c =
    let e = at-lookup no_partition _ c.args.partition c.args.partitions.now.entries c.in-Some.ensures.value in
    rw e
    (c.outcome_in-outcome.ensures ∙ ap (λ (s : PartitionState). outcome_at s.locks c.args.tab c.args.number c.args.operation.now) c.in_ok-granted-in-Some.ensures.ok)

pub returns-clause-ok : goal.returns-clause-ok
returns-clause-ok g c =
    let es = c.args.partitions.now.entries in
    let row = at-lookup no_partition _ c.args.partition es c.in-Some.ensures.value in
    rw row
    (written _ _ _ es _ c.in-Some.ensures.ordered c.in-Some.ensures.value (c.get_mut.follows.holds _).0
    ∙ ap (λ (s : PartitionState). put c.args.partition s es) (c.in_ok-granted-in-Some.ensures.ok ∙ ap (λ b. state_of (settle (drafted c.args.tab c.args.number c.args.operation.now c.in-Some.row.now.locks)) b) (ap (λ (s : PartitionState). s.is_active) (sym row) ∙ c.requires.active)))

pub returns-in_err-granted-in-Some-clause-err : goal.returns-in_err-granted-in-Some-clause-err
returns-in_err-granted-in-Some-clause-err g c =
    if_err_always _ _ (λ _. written_same _ _ _ _ _ c.in-Some.ensures.value (c.get_mut.follows.holds _).0 c.in_err-granted-in-Some.ensures.err)
