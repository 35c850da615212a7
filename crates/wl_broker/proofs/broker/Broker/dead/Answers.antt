use Rattle.wl_broker.proofs.Copies.{one_length_dead, one_buried}
use Rattle.wl_broker.proofs.broker.Broker.dead.Goals as goal

pub only-requires : goal.only-requires
only-requires g c = one_length_dead _ _ _ c.in-Ok.ensures.dead

pub returns-in-Ok-clause-dead : goal.returns-in-Ok-clause-dead
returns-in-Ok-clause-dead g c = one_buried _ _ _ c.only.result c.in-Ok.ensures.dead c.only.ensures
