use Rattle.std.proofs.Common.{◌≡◌, ◌+◌, ◌++◌, map, take}
use Rattle.std.specs.Vec.{vec_len, vec_capacity}
use Rattle.wl_broker.specs.BrokerInvariant.{grant_of}
use Rattle.wl_broker.proofs.answers.push_grants.Given as goal

abbrev pub invariant-loop-grant : goal.invariant-loop-grant
invariant-loop-grant l =
    (l.outs.items ≡ l.fn.outs.items ++ map (grant_of l.generation l.seats.entries) (take l.grant-index l.granted))
    × (vec_len l.outs ≡ vec_len l.fn.outs + l.grant-index) × (vec_capacity l.outs ≡ vec_capacity l.fn.outs)
