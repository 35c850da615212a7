use Rattle.std.proofs.Common.{◌≡◌, ◌+◌, ◌<◌, ◌∷◌, ◌++◌, [], false, length, refl, ap, ◌∙◌, rules}
use Rattle.wl_broker.specs.Broker.{BrokerState}
use Rattle.wl_locked.specs.Stepping.{stepped}
use Rattle.wl_locked.specs.History.{replay, events}
use Rattle.wl_locked.specs.declared.receipt.Step.{Step}
use Rattle.wl_locked.proofs.Steps.{IsKept-push}
use Rattle.wl_locked.proofs.Replying.{step, same-step}
use Rattle.wl_locked.proofs.book.Book.store.Goals as goal

pub invariant_of-self-2 : goal.invariant_of-self-2
invariant_of-self-2 g c =
    let old = c.self.inside in
    let told = (stepped old.broker c.args.event).1 in
    let said : c.next-reply.result ≡ told = (c.next-reply.ensures 2 told c.in-Ok.ensures.replies).0 in
    let e : Step = record { event = c.args.event; reply = c.next-reply.result } in
    let longer : c.push_reserved.new.self.items ≡ old.steps.items ++ e ∷ [] = search rules in
    let more : c.push_reserved-2.new.self.items ≡ old.marks.items ++ false ∷ [] = search rules in
    let moved : c.answer.new.broker ≡ (stepped old.broker c.args.event).0 = search rules in
    let total : c.add.new.self.total ≡ old.calls.total + 1 = search rules in
    let room : length old.steps.items < old.limit = search rules in
    (IsKept-push g.J.Generation.opening old.broker c.answer.new.broker old.steps.items c.push_reserved.new.self.items e old.marks.items c.push_reserved-2.new.self.items old.limit old.calls.total c.add.new.self.total c.self.invariant.0 moved said longer more total room, c.self.invariant.1, c.self.invariant.2, c.self.invariant.3)

pub returns-clause-replies : goal.returns-clause-replies
returns-clause-replies g c =
    let told = (stepped c.self.inside.broker c.args.event).1 in
    rw (← c.self.view_is, ← c.self.invariant.0.replays) (c.next-reply.ensures 2 told c.in-Ok.ensures.replies).1

pub returns-clause-stored : goal.returns-clause-stored
returns-clause-stored g c =
    let old = c.self.inside in
    let told = (stepped old.broker c.args.event).1 in
    let said : c.next-reply.result ≡ told = (c.next-reply.ensures 2 told c.in-Ok.ensures.replies).0 in
    let same = ap (λ (s : BrokerState). (stepped s c.args.event).1) c.self.invariant.0.replays in
    let longer : c.push_reserved.new.self.items ≡ old.steps.items ++ step c.args.event c.next-reply.result ∷ [] = search rules in
    rw (← c.self.view_is) (longer ∙ same-step old.steps.items c.args.event c.args.event c.next-reply.result (stepped (replay g.J.Generation.opening (events old.steps.items)) c.args.event).1 refl (said ∙ same))
