use Rattle.wl_broker.proofs.Copies.{one_length, one_taken}
use Rattle.wl_broker.proofs.broker.Broker.take.Goals as goal

pub only-requires : goal.only-requires
only-requires g c = one_length _ _ _ c.in-Ok.ensures.taken

pub returns-in-Ok-clause-taken : goal.returns-in-Ok-clause-taken
returns-in-Ok-clause-taken g c = one_taken _ _ _ c.only.result c.in-Ok.ensures.taken c.only.ensures
