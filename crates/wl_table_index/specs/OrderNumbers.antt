-- Rows with numbers, seen as a table sorted by number, regardless of the order in which they are
-- stored.
use Rattle.std.specs.Prelude.{ℕ, ◌+◌, ◌*◌, ◌%◌, ◌^◌, List, [], ◌∷◌, map, filter, Bool, true, not, ◌&&◌, ◌==◌, nat_lt}
use Rattle.wl_draft.specs.Tables.{Table, put}
use Rattle.wl_draft.specs.declared.row.Row.{Row}

module _ {X : Type 0} where
  -- The entries, sorted by number.
  abbrev pub ordered : List (ℕ × X) → Table X
  ordered [] = []
  ordered (p ∷ ps) = put p.0 p.1 (ordered ps)

  -- The values of a table, in its order.
  abbrev pub values_in : Table X → List X
  values_in ps = map (λ p. p.1) ps

  -- The numbers of a table, in its order.
  abbrev pub orders_in : Table X → List ℕ
  orders_in ps = map (λ p. p.0) ps

  -- The table without the row of a number.
  abbrev pub without_order : ℕ → Table X → Table X
  without_order k ps = filter (λ p. not (p.0 == k)) ps

  -- Each number of the table is below `k`.
  abbrev pub is_below : Table X → ℕ → Bool
  is_below [] k = true
  is_below (p ∷ ps) k = nat_lt p.0 k && is_below ps k

  -- Each number of the table is above `k`.
  abbrev pub is_above : ℕ → Table X → Bool
  is_above k [] = true
  is_above k (p ∷ ps) = nat_lt k p.0 && is_above k ps

  -- The numbers of the table strictly rise.
  abbrev pub is_rising : Table X → Bool
  is_rising [] = true
  is_rising (p ∷ ps) = is_above p.0 ps && is_rising ps

-- The numbers without `k`.
abbrev pub without_number : ℕ → List ℕ → List ℕ
without_number k ks = filter (λ j. not (j == k)) ks

-- Each of the numbers is above `k`.
abbrev pub are_above : ℕ → List ℕ → Bool
are_above k [] = true
are_above k (j ∷ js) = nat_lt k j && are_above k js

-- The numbers strictly rise.
abbrev pub do_rise : List ℕ → Bool
do_rise [] = true
do_rise (k ∷ ks) = are_above k ks && do_rise ks

-- The order number of a row that is put in a slot in a given turn.
abbrev pub order_at : ℕ → ℕ → ℕ
order_at turn slot = turn * 2 ^ 64 + slot

-- The slot of the row with an order number.
unfoldable pub slot_of : ℕ → ℕ
slot_of order = order % 2 ^ 64

-- The rows in order, the slot of the next row, and the number of rows that can be added without an
-- allocation.
pub record Ordered : Type 0 where
  pub items : List (ℕ × Row)
  pub slot : ℕ
  pub room : ℕ

-- The numbers, and how many can be added without an allocation.
pub record Numbers : Type 0 where
  pub items : List ℕ
  pub room : ℕ
