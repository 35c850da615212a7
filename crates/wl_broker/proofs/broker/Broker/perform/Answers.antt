use Rattle.std.proofs.Common.{◌≡◌, ◌+◌, ◌≤◌, [], ◌∷◌, ◌++◌, map, length, replicate, List, refl, sym, ap, ◌∙◌, arith}
use Rattle.wl_draft.specs.Tables.{Table, at}
use Rattle.wl_draft.proofs.TableLemmas.{at-put_same}
use Rattle.wl_draft.specs.Locks.{Locks}
use Rattle.wl_draft.specs.declared.row.Grant.{Grant}
use Rattle.wl_grammar.specs.declared.frame.Addressed.{Addressed}
use Rattle.wl_grammar.specs.declared.frame.Outcome.{Outcome}
use Rattle.wl_broker.specs.Broker.{BrokerState, seat_of, manager_of, outcome_at, answer_of}
use Rattle.wl_broker.specs.BrokerInvariant.{PartitionState, no_partition, grant_of}
use Rattle.wl_broker.proofs.BrokerSteps.{change_does, manager_of-fields}
use Rattle.wl_broker.proofs.Consistency.{IsConsistent-active, IsConsistent-new, IsConsistent-command}
use Rattle.wl_broker.specs.declared.seat.TabSeat.TheVariants.{Joined}
use Rattle.wl_broker.proofs.Missing.{counts_as, AreCounts-again}
use Rattle.wl_broker.proofs.KeptParts.{AwaitsParts-again, awaits_as}
use Rattle.wl_broker.proofs.Fields.{consistent_as, active_seen}
use Rattle.wl_broker.proofs.Copies.{copied_as}
use Rattle.wl_broker.proofs.GrantRoom.{room_to_change}
use Rattle.wl_broker.proofs.broker.Broker.perform.Goals as goal

pub command_at-requires : goal.command_at-requires
command_at-requires g c =
    let joined = ap (λ (x : BrokerState). seat_of x c.args.tab) c.self.view_is ∙ c.requires.joined in
    let active = active_seen c.self.inside.generation c.self.inside.listed.entries c.self.inside.seats.entries c.self.inside.partitions.entries c.self.inside.kept.entries _ c.args.partition c.self.view_is c.requires.active in
    record {
      active = IsConsistent-active c.args.tab c.args.partition c.args.number c.args.limit c.self.invariant.0 joined ∙ active;
      new = IsConsistent-new c.args.tab c.args.partition c.args.number c.args.limit c.self.invariant.0 joined;
    }

pub tell-requires-clause-frames : goal.tell-requires-clause-frames
tell-requires-clause-frames g c =
    let m = (at no_partition c.self.inside.partitions.entries c.args.partition).locks in
    let waiting = c.requires.waiting ∙ ap (λ (x : BrokerState). length (manager_of x c.args.partition).waiting) (sym c.self.view_is) ∙ ap (λ (x : Locks). length x.waiting) (manager_of-fields c.self.inside.generation c.self.inside.listed.entries c.self.inside.seats.entries c.self.inside.partitions.entries c.self.inside.kept.entries c.args.partition) in
    let few : length c.in_ok-granted.granted.items ≤ length m.waiting + 1 = room_to_change c.args.tab c.args.number c.args.operation.now m c.in_ok-granted.granted.items c.in_ok-granted.ensures.grants in
    let same : length c.deref.result.now ≡ length c.in_ok-granted.granted.items = ap (λ (xs : List Grant). length xs) c.deref.ensures.value in
    omega (arith, few, same, c.in_ok-all.ensures.frames, waiting)

pub invariant_of-self-2 : goal.invariant_of-self-2
invariant_of-self-2 g c =
    let joined = ap (λ (x : BrokerState). seat_of x c.args.tab) c.self.view_is ∙ c.requires.joined in
    let active = active_seen c.self.inside.generation c.self.inside.listed.entries c.self.inside.seats.entries c.self.inside.partitions.entries c.self.inside.kept.entries _ c.args.partition c.self.view_is c.requires.active in (
      consistent_as c.set_seat.ensures c.in_ok-granted.ensures.ok (IsConsistent-command c.args.tab c.args.partition c.args.number c.args.limit c.args.operation.now c.self.invariant.0 joined active),
      awaits_as c.set_seat.ensures refl (AwaitsParts-again c.args.tab (Joined c.args.partition (c.args.number + 1) c.args.limit) _ c.self.invariant.1 joined),
      counts_as _ _ _ _ c.set_seat.ensures (AreCounts-again c.self.inside.listed.entries c.self.inside.seats.entries c.self.inside.missing.entries c.args.tab (Joined c.args.partition (c.args.number + 1) c.args.limit) _ c.self.invariant.0.listed_once c.self.invariant.2 joined),
    )

pub returns : goal.returns
returns g c =
    let b = c.self.inside in
    let joined = ap (λ (x : BrokerState). seat_of x c.args.tab) c.self.view_is ∙ c.requires.joined in
    let active = active_seen c.self.inside.generation c.self.inside.listed.entries c.self.inside.seats.entries c.self.inside.partitions.entries c.self.inside.kept.entries _ c.args.partition c.self.view_is c.requires.active in
    let row = ap (λ (ps : Table PartitionState). at no_partition ps c.args.partition) c.in_ok-granted.ensures.ok ∙ at-put_same no_partition c.args.partition _ b.partitions.entries in
    let outcome = c.in_ok-granted.ensures.outcome ∙ ap (λ (s : PartitionState). outcome_at s.locks c.args.tab c.args.number c.args.operation.now) (sym row) in
    let first = ap (λ (x : Outcome). answer_of b.generation (c.args.number + 1) c.args.tab c.args.number x ∷ [] ++ map (grant_of b.generation c.set_seat.new.seats.entries) c.deref.result.now) outcome in
    record {
      performed =
          rw (← c.self.view_is)
          (copied_as _ _ _ _ _ (change_does b.generation b.listed.entries b.seats.entries b.partitions.entries b.kept.entries c.args.tab c.args.partition c.args.number c.args.limit c.args.operation.now c.deref.result.now _ _ _ c.in_default.not-Query joined (c.self.invariant.1.not_come c.args.tab _ joined) active c.set_seat.ensures (c.deref.ensures.value ∙ c.in_ok-granted.ensures.grants) c.in_ok-granted.ensures.ok refl) (c.tell.ensures ∙ ap (λ (xs : List Addressed). replicate c.args.copies xs) first));
      err = tt;
    }
