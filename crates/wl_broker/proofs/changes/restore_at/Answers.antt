use Rattle.std.proofs.Common.{ℕ, sym, ap, ◌∙◌}
use Rattle.std.specs.BTreeMap.{BTreeMap}
use Rattle.std.proofs.lemmas.Result.{IfOk-weaker, on_err_weaker}
use Rattle.wl_draft.specs.Tables.{put}
use Rattle.wl_draft.specs.Locks.{grants, newly_granted_if, settle_if, restored}
use Rattle.wl_draft.proofs.RisingTables.{written_same}
use Rattle.wl_broker_reports.proofs.WrittenRows.{inserted, written}
use Rattle.wl_broker.specs.BrokerInvariant.{PartitionState, state_of, no_partition}
use Rattle.wl_broker.proofs.PartitionRows.{at-lookup, at-lookup_none}
use Rattle.wl_broker.proofs.changes.restore_at.Goals as goal

pub returns-in-Some-clause-grants : goal.returns-in-Some-clause-grants
returns-in-Some-clause-grants g c = rw (at-lookup _ _ _ _ c.in-Some.ensures.value) c.restore.ensures.grants

pub returns-in-Some-clause-ok : goal.returns-in-Some-clause-ok
returns-in-Some-clause-ok g c =
    let es = c.args.partitions.now.entries in
    rw (at-lookup _ _ _ _ c.in-Some.ensures.value)
    (IfOk-weaker c.restore.result _ _ (λ x e. written _ _ _ es _ c.in-Some.ensures.ordered c.in-Some.ensures.value (c.get_mut.follows.holds _).0 ∙ ap (λ (s : PartitionState). put c.args.partition s es) e) c.restore.ensures.ok)

pub returns-in-Some-clause-err : goal.returns-in-Some-clause-err
returns-in-Some-clause-err g c =
    on_err_weaker c.restore.result (λ e. written_same _ _ _ _ _ c.in-Some.ensures.value (c.get_mut.follows.holds _).0 e) c.restore.ensures.err

pub returns-in_ok-insert-in-None-clause-grants : goal.returns-in_ok-insert-in-None-clause-grants
returns-in_ok-insert-in-None-clause-grants g c =
    let e = c.new-row.ensures ∙ sym (at-lookup_none no_partition _ c.args.partitions.now.entries c.in-None.ensures.value) in
    c.in_ok-granted-in-None.ensures.grants ∙ ap (λ (s : PartitionState). grants (newly_granted_if c.args.is_active (restored c.args.tab c.args.entries.now s.locks))) e

pub returns-in_ok-insert-in-None-clause-ok : goal.returns-in_ok-insert-in-None-clause-ok
returns-in_ok-insert-in-None-clause-ok g c =
    let e = c.new-row.ensures ∙ sym (at-lookup_none no_partition _ c.args.partitions.now.entries c.in-None.ensures.value) in
    inserted _ _ _ c.args.partitions.now.entries _ _ c.in_ok-insert-in-None.ensures.entries (ap (λ (m : BTreeMap ℕ PartitionState). m.entries) c.get_mut.follows.holds-at-none)
    (c.in_ok-granted-in-None.ensures.ok ∙ ap (λ (s : PartitionState). state_of (settle_if c.args.is_active (restored c.args.tab c.args.entries.now s.locks)) c.args.is_active) e)
