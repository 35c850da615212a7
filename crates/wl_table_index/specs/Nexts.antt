-- Next request of each name to grant, and rows that a command removes.
use Rattle.std.specs.Prelude.{◌≡◌, ℕ, List, [], ◌∷◌, Bool, true, false, not, filter, ◌&&◌, ◌==◌, Option, Some, None, bytes_eq, if◌then◌else◌}
use Rattle.std.specs.List.{list_any}
use Rattle.std.specs.Option.{option_map_or}
use Rattle.wl_draft.specs.declared.row.Row.{Row}
use Rattle.wl_draft.specs.Locks.{is_free, is_pair}
use Rattle.wl_draft.specs.Tables.{Table, find}
use Rattle.wl_table_index.specs.OrderNumbers.{values_in}
use Rattle.wl_table_index.specs.declared.holdings.Removal.{Removal}
use Rattle.wl_table_index.specs.Clients.{takes}

-- The first row with a given name.
abbrev pub first_named : List ℕ → Table Row → Option (ℕ × Row)
first_named name [] = None
first_named name (p ∷ ps) = if bytes_eq p.1.name name then Some p else first_named name ps

-- The order number of that row, if it conflicts with no held lock of the name.
abbrev pub if_free : List ℕ → Table Row → Option (ℕ × Row) → Option ℕ
if_free name held None = None
if_free name held (Some p) = if is_free name p.1.mode (values_in held) then Some p.0 else None

-- The order number of the name's grantable request.
abbrev pub next_in : List ℕ → Table Row → Table Row → Option ℕ
next_in name held waiting = if_free name held (first_named name waiting)

abbrev pub is_number : Option ℕ → ℕ → Bool
is_number None k = false
is_number (Some j) k = j == k

-- The request with this order number is grantable.
abbrev pub is_next : ℕ → Table Row → Table Row → Bool
is_next order held waiting =
    option_map_or (λ r. is_number (next_in r.name held waiting) order) (find waiting order) false

-- The number is in the list.
abbrev pub is_among : ℕ → List ℕ → Bool
is_among k orders = list_any (λ j. j == k) orders

-- Each grantable request has one of these order numbers.
abbrev pub AreCandidates : List ℕ → Table Row → Table Row → Type 0
AreCandidates orders held waiting = (name : List ℕ) (k : ℕ) → next_in name held waiting ≡ Some k → is_among k orders ≡ true

-- Each grantable request has one of these order numbers, except for one given request.
abbrev pub AreOthers : ℕ → List ℕ → Table Row → Table Row → Type 0
AreOthers order orders held waiting = (name : List ℕ) (k : ℕ) → next_in name held waiting ≡ Some k → (order == k) ≡ false → is_among k orders ≡ true

-- The row belongs to the client, and the command removes entries with its number that are held, or
-- else that wait.
abbrev pub is_taken : ℕ → Removal → Bool → Row → Bool
is_taken client removal held r = r.client == client && takes removal held r.number

-- The rows that the command does not remove.
abbrev pub left_by : ℕ → Removal → Bool → Table Row → Table Row
left_by client removal held rows = filter (λ p. not (is_taken client removal held p.1)) rows

-- The order number of the first row of a pair.
abbrev pub first_pair : ℕ → ℕ → Table Row → Option ℕ
first_pair client number [] = None
first_pair client number (p ∷ ps) = if is_pair client number p.1 then Some p.0 else first_pair client number ps
