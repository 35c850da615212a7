-- Rows in the slots of a slab.
use Rattle.std.specs.Prelude.{◌≡◌, ℕ, List, map, Some}
use Rattle.slab.specs.Slab.{Slab, get}
use Rattle.wl_draft.specs.declared.row.Row.{Row}
use Rattle.wl_table_index.specs.OrderNumbers.{slot_of}
use Rattle.wl_table_index.specs.declared.rows.StoredRow.{StoredRow}

-- The rows of these slots, each with its order number.
abbrev pub rows_in : List (ℕ × StoredRow) → List (ℕ × Row)
rows_in stored = map (λ p. (p.1.order, p.1.row)) stored

-- Each row stands in the slot that its order number tells.
abbrev pub AreInSlots : Slab StoredRow → Type 0
AreInSlots rows = (slot : ℕ) (stored : StoredRow) → get rows slot ≡ Some stored → slot_of stored.order ≡ slot
