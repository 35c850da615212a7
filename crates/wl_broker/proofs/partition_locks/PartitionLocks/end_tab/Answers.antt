use Rattle.wl_broker.proofs.SettledLocks.{newly-settle_if}
use Rattle.wl_broker.proofs.partition_locks.PartitionLocks.end_tab.Goals as goal

pub invariant_of-self-2 : goal.invariant_of-self-2
invariant_of-self-2 g c = λ h. rw c.in_ok-granted.ensures.ok (newly-settle_if _ _ h)
