use Rattle.wl_process_rules.proofs.LeavingOrder.{leaves_in_order}
use Rattle.wl_process_rules.proofs.shard_output.law_shard_output.Goals as goal

pub returns : goal.returns
returns c = leaves_in_order
