use Rattle.wl_outbox.proofs.KeptRule.{opens}
use Rattle.wl_outbox.proofs.outbox.open.Goals as goal

pub another-requires-clause-rule : goal.another-requires-clause-rule
another-requires-clause-rule g c = rw c.requires.taker.1 (opens _ _ _)
