use Rattle.std.proofs.Common.{◌≡◌, ◌++◌}
use Rattle.std.specs.Map.{keys_of}
use Rattle.wl_table_index.specs.Slots.{rows_in}
use Rattle.wl_table_index.proofs.rows.Rows.orders.Given as goal

abbrev pub invariant-loop-stored : goal.invariant-loop-stored
invariant-loop-stored l = l.orders.items ++ keys_of (rows_in l.stored-iterator) ≡ keys_of (rows_in l.initial.stored-iterator)
