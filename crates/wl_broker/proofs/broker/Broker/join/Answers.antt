use Rattle.std.proofs.Common.{◌≡◌, ◌+◌, ◌≤◌, List, Option, None, eqb, length, refl, sym, ap, ◌∙◌, arith}
use Rattle.wl_draft.specs.Tables.{Table, at}
use Rattle.wl_draft.specs.declared.row.Grant.{Grant}
use Rattle.wl_broker_reports.specs.PartialReports.{joining}
use Rattle.wl_broker.specs.declared.seat.TabSeat.{TabSeat}
use Rattle.wl_broker.specs.declared.seat.TabSeat.TheVariants.{Joined}
use Rattle.wl_broker.specs.Broker.{BrokerState, seat_of, listed_at, elsewhere}
use Rattle.wl_broker.specs.BrokerInvariant.{PartitionState, no_partition, all_arrived, awaited_at}
use Rattle.wl_broker.proofs.Consistency.{IsConsistent-join}
use Rattle.wl_broker.proofs.BrokerSteps.{join_does}
use Rattle.wl_broker.proofs.Fields.{consistent_as, same_fields, seat_put, seat_there, given_back}
use Rattle.wl_broker.proofs.KeptParts.{AwaitsParts-seat, awaits_as}
use Rattle.wl_broker.proofs.Missing.{active_once, counts_as, AreCounts-arrival}
use Rattle.wl_broker.proofs.Copies.{copied_as}
use Rattle.wl_broker.proofs.GrantRoom.{room_to_join}
use Rattle.wl_broker.proofs.broker.Broker.join.Goals as goal

pub tell-requires-clause-frames : goal.tell-requires-clause-frames
tell-requires-clause-frames g c =
    let es = c.args.entries.now in
    let m = (at no_partition c.self.inside.partitions.entries c.args.partition).locks in
    let few : length c.in-Ok.granted.items ≤ length es + length m.waiting = room_to_join c.args.tab es m (eqb c.missing_without-is_active.result 0) c.in-Ok.granted.items c.in-Ok.ensures.grants in
    let same : length c.deref.result.now ≡ length c.in-Ok.granted.items = ap (λ (xs : List Grant). length xs) c.deref.ensures.value in
    omega (arith, few, same, c.in_ok-all.ensures.frames, c.waiting_in-waiting.ensures, ap (λ (s : PartitionState). length s.locks.waiting) c.row_at.ensures)

pub invariant_of-self-in-Ok : goal.invariant_of-self-in-Ok
invariant_of-self-in-Ok g c =
    let b = c.self.inside in
    let h = c.args.heading in
    let seats = seat_put c.args.tab (Joined c.args.partition h.base h.limit) b.seats.entries _ c.in_ok-insert.ensures.entries in
    let new = ap (λ (x : BrokerState). seat_of x c.args.tab) c.self.view_is ∙ c.requires.new in
    let placed = ap (λ (x : BrokerState). elsewhere (listed_at c.args.tab x.listed) c.args.partition) c.self.view_is ∙ c.requires.placed in
    let place = c.requires.place ∙ ap (λ (x : BrokerState). listed_at c.args.tab x.listed) (sym c.self.view_is) ∙ ap (λ (o : Option TabSeat). awaited_at o (listed_at c.args.tab b.listed.entries)) (sym new) in
    let active = active_once b.listed.entries b.seats.entries b.missing.entries c.args.tab (Joined c.args.partition h.base h.limit) c.args.place c.args.partition c.missing_without-is_active.result c.self.invariant.0.listed_once c.self.invariant.2 place c.missing_without-is_active.ensures in (
      consistent_as seats c.in-Ok.ensures.ok (IsConsistent-join c.args.tab c.args.partition h.base h.limit c.args.entries.now (eqb c.missing_without-is_active.result 0) c.self.invariant.0 new placed c.requires.below active),
      awaits_as seats c.discard.ensures (AwaitsParts-seat c.args.tab (Joined c.args.partition h.base h.limit) c.self.invariant.1),
      counts_as b.listed.entries _ _ _ seats (AreCounts-arrival b.listed.entries b.seats.entries b.missing.entries _ c.args.tab (Joined c.args.partition h.base h.limit) c.args.place c.self.invariant.0.listed_once c.self.invariant.2 place c.count_arrival.ensures),
    )

pub put_back-requires : goal.put_back-requires
put_back-requires g c = seat_there c.args.tab (Joined c.args.partition c.args.heading.base c.args.heading.limit) c.self.inside.seats.entries _ c.in_ok-insert.ensures.entries

pub invariant_of-self-in-Err-1 : goal.invariant_of-self-in-Err-1
invariant_of-self-in-Err-1 g c =
    let new = ap (λ (x : BrokerState). seat_of x c.args.tab) c.self.view_is ∙ c.requires.new in
    let back = given_back c.args.tab (Joined c.args.partition c.args.heading.base c.args.heading.limit) None c.self.inside.seats.entries _ _ (sym new) c.in_ok-insert.ensures.was_ordered c.in_ok-insert.ensures.entries c.put_back.ensures in
    (consistent_as back c.in-Err.ensures.err c.self.invariant.0, awaits_as back refl c.self.invariant.1, counts_as _ _ _ _ back c.self.invariant.2)

pub returns-in-Ok-clause-joined : goal.returns-in-Ok-clause-joined
returns-in-Ok-clause-joined g c =
    let b = c.self.inside in
    let h = c.args.heading in
    let new = ap (λ (x : BrokerState). seat_of x c.args.tab) c.self.view_is ∙ c.requires.new in
    let place = c.requires.place ∙ ap (λ (x : BrokerState). listed_at c.args.tab x.listed) (sym c.self.view_is) ∙ ap (λ (o : Option TabSeat). awaited_at o (listed_at c.args.tab b.listed.entries)) (sym new) in
    let seats = seat_put c.args.tab (Joined c.args.partition h.base h.limit) b.seats.entries _ c.in_ok-insert.ensures.entries in
    let active =
    active_once b.listed.entries b.seats.entries b.missing.entries c.args.tab (Joined c.args.partition h.base h.limit) c.args.place c.args.partition c.missing_without-is_active.result c.self.invariant.0.listed_once c.self.invariant.2 place c.missing_without-is_active.ensures
    ∙ ap (λ (ss : Table TabSeat). all_arrived b.listed.entries ss c.args.partition) (sym seats) in
    let granted = c.deref.ensures.value ∙ c.in-Ok.ensures.grants in
    rw (← c.self.view_is)
    (copied_as _ _ _ _ _ (join_does b.generation b.listed.entries b.seats.entries b.partitions.entries b.kept.entries c.args.tab c.args.partition (joining h c.args.entries.now) (eqb c.missing_without-is_active.result 0) c.deref.result.now _ _ _ _ seats active granted c.in-Ok.ensures.ok c.discard.ensures refl) c.tell.ensures)

pub returns-in-Err-clause-err : goal.returns-in-Err-clause-err
returns-in-Err-clause-err g c =
    let b = c.self.inside in
    let new = ap (λ (x : BrokerState). seat_of x c.args.tab) c.self.view_is ∙ c.requires.new in
    let back = given_back c.args.tab (Joined c.args.partition c.args.heading.base c.args.heading.limit) None b.seats.entries _ _ (sym new) c.in_ok-insert.ensures.was_ordered c.in_ok-insert.ensures.entries c.put_back.ensures in
    same_fields b.generation b.listed.entries b.kept.entries back c.in-Err.ensures.err ∙ c.self.view_is
