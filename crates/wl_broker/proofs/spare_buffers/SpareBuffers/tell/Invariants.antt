use Rattle.std.proofs.Common.{◌≡◌, ◌≤◌, ◌+◌, ◌++◌, map, replicate}
use Rattle.std.specs.Vec.{vec_len, vec_capacity}
use Rattle.wl_broker.specs.BrokerInvariant.{replied, grant_of}
use Rattle.wl_broker.proofs.spare_buffers.SpareBuffers.tell.Given as goal

abbrev pub invariant-loop : goal.invariant-loop
invariant-loop l =
    (l.all.items ≡ replicate l.counter (replied l.generation l.own ++ map (grant_of l.generation l.seats.entries) l.granted))
    × (vec_len l.all ≡ l.counter) × (vec_capacity l.all ≡ vec_capacity l.fn.all)
    × (l.copies ≤ l.self.lists + l.counter) × (l.self.frames ≡ l.fn.self.frames)
