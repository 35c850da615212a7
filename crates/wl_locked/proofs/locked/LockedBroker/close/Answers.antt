use Rattle.std.proofs.Common.{rules}
use Rattle.wl_locked.proofs.locked.LockedBroker.close.Goals as goal

pub returns-clause-mismatch : goal.returns-clause-mismatch
returns-clause-mismatch g c p is =
    (c.into_inner.result, search rules, search rules, c.close.ensures.counted, c.close.ensures.mismatch p is)
