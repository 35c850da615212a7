use Rattle.std.proofs.Common.{◌≡◌, ◌≤◌, List, Option, Some, eqb, length, refl, sym, ap, ◌∙◌, subst, arith}
use Rattle.wl_draft.specs.Tables.{Table, at}
use Rattle.wl_draft.specs.declared.row.Grant.{Grant}
use Rattle.wl_broker.specs.declared.seat.TabSeat.{TabSeat}
use Rattle.wl_broker.specs.declared.seat.TabSeat.TheVariants.{Dead}
use Rattle.wl_broker.specs.Broker.{BrokerState}
use Rattle.wl_broker.specs.BrokerInvariant.{PartitionState, no_partition, all_arrived, Had, awaited_at}
use Rattle.wl_broker.proofs.Consistency.{IsConsistent-dead}
use Rattle.wl_broker.proofs.BrokerSteps.{bury_does}
use Rattle.wl_broker.proofs.Fields.{consistent_as, same_fields, seat_put, seat_there, given_back}
use Rattle.wl_broker.proofs.KeptParts.{AwaitsParts-seat, awaits_as}
use Rattle.wl_broker.proofs.Missing.{active_once, counts_as, awaited_had, AreCounts-arrival}
use Rattle.wl_broker.proofs.Copies.{repeated_as}
use Rattle.wl_broker.proofs.GrantRoom.{room_to_bury}
use Rattle.wl_broker.proofs.broker.Broker.remove_tab.Goals as goal

pub tell-requires-clause-frames : goal.tell-requires-clause-frames
tell-requires-clause-frames g c =
    let m = (at no_partition c.self.inside.partitions.entries c.args.partition).locks in
    let few : length c.in-Ok.granted.items ≤ length m.waiting = room_to_bury c.args.tab m (eqb c.missing_without-is_active.result 0) c.in-Ok.granted.items c.in-Ok.ensures.grants in
    let same : length c.deref.result.now ≡ length c.in-Ok.granted.items = ap (λ (xs : List Grant). length xs) c.deref.ensures.value in
    omega (arith, few, same, c.in_ok-all.ensures.frames, c.waiting_in-waiting.ensures, ap (λ (s : PartitionState). length s.locks.waiting) c.row_at.ensures)

pub invariant_of-self-in-Ok : goal.invariant_of-self-in-Ok
invariant_of-self-in-Ok g c =
    let b = c.self.inside in
    let seats = seat_put c.args.tab Dead b.seats.entries _ c.in_ok-insert.ensures.entries in
    let had = subst (λ (x : BrokerState). Had x c.args.tab c.args.partition) (sym c.self.view_is) c.requires in
    let place = c.awaited_at-place.ensures ∙ ap (λ (o : Option TabSeat). awaited_at o (Some c.args.partition)) c.seat_of-before.ensures ∙ awaited_had _ _ c.args.partition had in
    let active = active_once b.listed.entries b.seats.entries b.missing.entries c.args.tab Dead c.awaited_at-place.result c.args.partition c.missing_without-is_active.result c.self.invariant.0.listed_once c.self.invariant.2 place c.missing_without-is_active.ensures in (
      consistent_as seats c.in-Ok.ensures.ok (IsConsistent-dead b.kept.entries b.generation c.args.tab c.args.partition (eqb c.missing_without-is_active.result 0) c.self.invariant.0 had active),
      awaits_as seats c.discard.ensures (AwaitsParts-seat c.args.tab Dead c.self.invariant.1),
      counts_as b.listed.entries _ _ _ seats (AreCounts-arrival b.listed.entries b.seats.entries b.missing.entries _ c.args.tab Dead c.awaited_at-place.result c.self.invariant.0.listed_once c.self.invariant.2 place c.count_arrival.ensures),
    )

pub put_back-requires : goal.put_back-requires
put_back-requires g c = seat_there c.args.tab Dead c.self.inside.seats.entries _ c.in_ok-insert.ensures.entries

pub invariant_of-self-in-Err-1 : goal.invariant_of-self-in-Err-1
invariant_of-self-in-Err-1 g c =
    let back = given_back c.args.tab Dead c.seat_of-before.result c.self.inside.seats.entries _ _ c.seat_of-before.ensures c.in_ok-insert.ensures.was_ordered c.in_ok-insert.ensures.entries c.put_back.ensures in
    (consistent_as back c.in-Err.ensures.err c.self.invariant.0, awaits_as back refl c.self.invariant.1, counts_as _ _ _ _ back c.self.invariant.2)

pub returns-in-Ok-clause-buried : goal.returns-in-Ok-clause-buried
returns-in-Ok-clause-buried g c =
    let b = c.self.inside in
    let had = subst (λ (x : BrokerState). Had x c.args.tab c.args.partition) (sym c.self.view_is) c.requires in
    let place = c.awaited_at-place.ensures ∙ ap (λ (o : Option TabSeat). awaited_at o (Some c.args.partition)) c.seat_of-before.ensures ∙ awaited_had _ _ c.args.partition had in
    let seats = seat_put c.args.tab Dead b.seats.entries _ c.in_ok-insert.ensures.entries in
    let active =
    active_once b.listed.entries b.seats.entries b.missing.entries c.args.tab Dead c.awaited_at-place.result c.args.partition c.missing_without-is_active.result c.self.invariant.0.listed_once c.self.invariant.2 place c.missing_without-is_active.ensures
    ∙ ap (λ (ss : Table TabSeat). all_arrived b.listed.entries ss c.args.partition) (sym seats) in
    rw (← c.self.view_is)
    (repeated_as _ _ _ _ _ (bury_does b.generation b.listed.entries b.seats.entries b.partitions.entries b.kept.entries c.args.tab c.args.partition (eqb c.missing_without-is_active.result 0) c.deref.result.now _ _ _ _ seats active (c.deref.ensures.value ∙ c.in-Ok.ensures.grants) c.in-Ok.ensures.ok c.discard.ensures refl) c.tell.ensures)

pub returns-in-Err-clause-err : goal.returns-in-Err-clause-err
returns-in-Err-clause-err g c =
    let b = c.self.inside in
    let back = given_back c.args.tab Dead c.seat_of-before.result b.seats.entries _ _ c.seat_of-before.ensures c.in_ok-insert.ensures.was_ordered c.in_ok-insert.ensures.entries c.put_back.ensures in
    same_fields b.generation b.listed.entries b.kept.entries back c.in-Err.ensures.err ∙ c.self.view_is
