use Rattle.std.proofs.Common.{◌≡◌, replicate}
use Rattle.std.specs.Vec.{vec_len, vec_capacity}
use Rattle.wl_broker.specs.Broker.{snapshot_of, snapshot_entries}
use Rattle.wl_broker.proofs.partition_locks.PartitionLocks.snapshots.Given as goal

abbrev pub invariant-loop : goal.invariant-loop
invariant-loop g l =
    (l.all.items ≡ replicate l.counter (snapshot_of l.generation l.upto l.tab l.number (snapshot_entries l.self.locks)))
    × (vec_len l.all ≡ l.counter) × (vec_capacity l.all ≡ l.copies)
