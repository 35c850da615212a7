use Rattle.std.proofs.Common.{◌+◌, refl, ap, ◌∙◌}
use Rattle.wl_draft.specs.Tables.{at}
use Rattle.wl_broker.specs.BrokerInvariant.{no_partition}
use Rattle.wl_broker.specs.Broker.{BrokerState, seat_of}
use Rattle.wl_broker.proofs.BrokerSteps.{query_does}
use Rattle.wl_broker.proofs.Consistency.{IsConsistent-active, IsConsistent-query}
use Rattle.wl_broker.specs.declared.seat.TabSeat.TheVariants.{Joined}
use Rattle.wl_broker.proofs.Missing.{counts_as, AreCounts-again}
use Rattle.wl_broker.proofs.Copies.{copied_as}
use Rattle.wl_broker.proofs.KeptParts.{AwaitsParts-again, awaits_as}
use Rattle.wl_broker.proofs.Fields.{consistent_as, active_seen}
use Rattle.wl_broker.proofs.broker.Broker.query.Goals as goal

pub snapshots_at-requires : goal.snapshots_at-requires
snapshots_at-requires g c =
    let joined = ap (λ (x : BrokerState). seat_of x c.args.tab) c.self.view_is ∙ c.requires.joined in
    let active = active_seen c.self.inside.generation c.self.inside.listed.entries c.self.inside.seats.entries c.self.inside.partitions.entries c.self.inside.kept.entries _ c.args.partition c.self.view_is c.requires.active in
    IsConsistent-active c.args.tab c.args.partition c.args.number c.args.limit c.self.invariant.0 joined ∙ active

pub invariant_of-self : goal.invariant_of-self
invariant_of-self g c =
    let joined = ap (λ (x : BrokerState). seat_of x c.args.tab) c.self.view_is ∙ c.requires.joined in
    let active = active_seen c.self.inside.generation c.self.inside.listed.entries c.self.inside.seats.entries c.self.inside.partitions.entries c.self.inside.kept.entries _ c.args.partition c.self.view_is c.requires.active in (
      consistent_as c.set_seat.ensures refl (IsConsistent-query c.args.tab c.args.partition c.args.number c.args.limit c.self.invariant.0 joined active c.in_ok-all.ensures.settled),
      awaits_as c.set_seat.ensures refl (AwaitsParts-again c.args.tab (Joined c.args.partition (c.args.number + 1) c.args.limit) _ c.self.invariant.1 joined),
      counts_as _ _ _ _ c.set_seat.ensures (AreCounts-again c.self.inside.listed.entries c.self.inside.seats.entries c.self.inside.missing.entries c.args.tab (Joined c.args.partition (c.args.number + 1) c.args.limit) _ c.self.invariant.0.listed_once c.self.invariant.2 joined),
    )

pub returns-clause-performed : goal.returns-clause-performed
returns-clause-performed g c =
    let b = c.self.inside in
    let joined = ap (λ (x : BrokerState). seat_of x c.args.tab) c.self.view_is ∙ c.requires.joined in
    let active = active_seen c.self.inside.generation c.self.inside.listed.entries c.self.inside.seats.entries c.self.inside.partitions.entries c.self.inside.kept.entries _ c.args.partition c.self.view_is c.requires.active in
    let m = (at no_partition b.partitions.entries c.args.partition).locks in
    rw (← c.self.view_is)
    (copied_as _ _ _ _ _ (query_does b.generation b.listed.entries b.seats.entries b.partitions.entries b.kept.entries c.args.tab c.args.partition c.args.number c.args.limit m.held m.waiting _ _ c.self.invariant.0.rise (c.self.invariant.0.seated c.args.tab c.args.partition c.args.number c.args.limit joined) joined (c.self.invariant.1.not_come c.args.tab _ joined) active c.in_ok-all.ensures.settled refl refl c.set_seat.ensures refl) c.in_ok-all.ensures.copies)
