use Rattle.std.proofs.Common.{refl, ap, ◌∙◌}
use Rattle.wl_broker.specs.Broker.{BrokerState, seat_of}
use Rattle.wl_broker.proofs.KeptParts.{AwaitsParts-kept, awaits_as}
use Rattle.wl_broker.proofs.broker.Broker.keep.Goals as goal

pub invariant_of-self-2 : goal.invariant_of-self-2
invariant_of-self-2 g c =
    let new = ap (λ (x : BrokerState). seat_of x c.args.tab) c.self.view_is ∙ c.requires.new in
    (c.self.invariant.0, awaits_as refl c.in_ok-keep.ensures.ok (AwaitsParts-kept c.args.tab _ c.self.invariant.1 new), c.self.invariant.2)
