use Rattle.std.proofs.Common.{◌∙◌, rules}
use Rattle.std.proofs.lemmas.Fn.{filter_same}
use Rattle.wl_broker.proofs.partition_locks.PartitionLocks.command.Goals as goal

pub returns-clause-grants : goal.returns-clause-grants
returns-clause-grants g c =
    filter_same _ _ _ (λ x b f' k. search rules) _ _ c.retain.ensures.filtered ∙ c.in_ok-granted.ensures.grants
