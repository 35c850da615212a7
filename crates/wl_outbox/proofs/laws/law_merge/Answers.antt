use Rattle.wl_outbox.proofs.FromMerge.{keeps_order, has_each_once, has_nothing_else}
use Rattle.wl_outbox.proofs.laws.law_merge.Goals as goal

pub returns : goal.returns
returns c = record { order = keeps_order; once = has_each_once; nothing_else = has_nothing_else }
