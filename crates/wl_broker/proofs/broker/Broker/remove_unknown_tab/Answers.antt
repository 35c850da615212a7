use Rattle.std.proofs.Common.{Option, None, refl, sym, ap, ◌∙◌, arith}
use Rattle.wl_broker.specs.declared.seat.TabSeat.{TabSeat}
use Rattle.wl_broker.specs.declared.seat.TabSeat.TheVariants.{Dead}
use Rattle.wl_broker.specs.Broker.{BrokerState, seat_of, listed_at}
use Rattle.wl_broker.specs.BrokerInvariant.{awaited_at}
use Rattle.wl_broker.proofs.BrokerSteps.{stranger_buried}
use Rattle.wl_broker.proofs.Consistency.{IsConsistent-unknown}
use Rattle.wl_broker.proofs.Fields.{consistent_as, seat_put}
use Rattle.wl_broker.proofs.Copies.{repeated_as}
use Rattle.wl_broker.proofs.KeptParts.{AwaitsParts-seat, awaits_as}
use Rattle.wl_broker.proofs.Missing.{counts_as, AreCounts-arrival}
use Rattle.wl_broker.proofs.broker.Broker.remove_unknown_tab.Goals as goal

pub invariant_of-self-2 : goal.invariant_of-self-2
invariant_of-self-2 g c =
    let b = c.self.inside in
    let new = ap (λ (x : BrokerState). seat_of x c.args.tab) c.self.view_is ∙ c.requires.new in
    let unlisted = ap (λ (x : BrokerState). listed_at c.args.tab x.listed) c.self.view_is ∙ c.requires.unlisted in
    let seats = seat_put c.args.tab Dead b.seats.entries _ c.in_ok-insert.ensures.entries in (
      consistent_as seats refl (IsConsistent-unknown c.args.tab c.self.invariant.0 new unlisted),
      awaits_as seats c.discard.ensures (AwaitsParts-seat c.args.tab Dead c.self.invariant.1),
      counts_as _ _ _ _ seats (AreCounts-arrival b.listed.entries b.seats.entries b.missing.entries b.missing.entries c.args.tab Dead None c.self.invariant.0.listed_once c.self.invariant.2 (sym (ap (λ (o : Option TabSeat). awaited_at o (listed_at c.args.tab b.listed.entries)) new ∙ unlisted)) (λ p. omega arith)),
    )

pub returns-clause-buried : goal.returns-clause-buried
returns-clause-buried g c =
    let b = c.self.inside in
    let seats = seat_put c.args.tab Dead b.seats.entries _ c.in_ok-insert.ensures.entries in
    rw (← c.self.view_is)
    (repeated_as _ _ _ _ _ (stranger_buried b.generation b.listed.entries b.seats.entries b.partitions.entries b.kept.entries c.args.tab _ _ seats c.discard.ensures) c.tell.ensures)
