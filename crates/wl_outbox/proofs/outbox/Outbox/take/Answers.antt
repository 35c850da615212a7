use Rattle.std.proofs.Common.{ap, ◌∙◌}
use Rattle.wl_outbox.specs.Passes.{takes}
use Rattle.wl_outbox.proofs.KeptRule.{taking_role, takes_kept, learns}
use Rattle.wl_outbox.proofs.outbox.Outbox.take.Goals as goal

pub pop_as-requires-clause-rule : goal.pop_as-requires-clause-rule
pop_as-requires-clause-rule g c = (takes_kept _ _ (taking_role _ (ap takes c.pass.view_is ∙ c.requires.takes)), learns _ _)
