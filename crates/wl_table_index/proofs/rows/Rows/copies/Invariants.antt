use Rattle.std.proofs.Common.{◌≡◌, take}
use Rattle.wl_table_index.specs.OrderNumbers.{values_in}
use Rattle.wl_table_index.proofs.rows.Rows.copies.Given as goal

abbrev pub invariant-loop-order : goal.invariant-loop-order
invariant-loop-order l = l.copies.items ≡ values_in (take l.order-index l.self.items)
