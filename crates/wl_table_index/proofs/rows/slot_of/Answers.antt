use Rattle.std.proofs.Common.{arith}
use Rattle.wl_table_index.specs.OrderNumbers.{slot_of}
use Rattle.wl_table_index.proofs.rows.slot_of.Goals as goal

pub returns : goal.returns
unfolding slot_of
returns c = omega arith
