-- Invariant of an index: each line and each client's places agree with the two lists.
use Rattle.std.specs.Prelude.{◌≡◌, ◌≤◌, ◌<◌, ◌+◌, ℕ, List, Bool, true, false, not, length, map, filter, count_by, ◌==◌, ◌&&◌, ◌||◌, Option, None, Some, IsSome, nat_eq, bytes_eq, if◌then◌else◌}
use Rattle.wl_draft.specs.declared.mode.Mode.{Mode}
use Rattle.wl_draft.specs.declared.mode.Mode.TheVariants.{Shared, Exclusive}
use Rattle.wl_draft.specs.declared.row.Row.{Row}
use Rattle.wl_draft.specs.Locks.{Locks, is_named, is_pair, live}
use Rattle.wl_draft.specs.Tables.{Table, find}
use Rattle.wl_table_index.specs.OrderNumbers.{values_in, orders_in, is_below, is_rising, order_at}
use Rattle.wl_table_index.specs.NameLines.{LineState, line_at, room_at, HasLine, count_named, is_idle_line}
use Rattle.wl_table_index.specs.Clients.{has_place_at, has_number_at, count_at, place_room_at, further_room_at, is_idle_client}
use Rattle.std.specs.List.{list_all}
use Rattle.std.specs.HashMap.{get}
use Rattle.wl_table_index.specs.declared.index.Index.{Index}

abbrev pub is_shared : Mode → Bool
is_shared Shared = true
is_shared Exclusive = false

abbrev pub is_exclusive : Mode → Bool
is_exclusive Shared = false
is_exclusive Exclusive = true

-- The line of a name, computed from the two lists.
abbrev pub line_of : List ℕ → Table Row → Table Row → LineState
line_of name held waiting = record {
  shared = count_by (λ p. bytes_eq p.1.name name && is_shared p.1.mode) held;
  exclusive = count_by (λ p. bytes_eq p.1.name name && is_exclusive p.1.mode) held;
  queue = orders_in (filter (λ p. bytes_eq p.1.name name) waiting);
}

-- The row belongs to the pair of a client and a command number.
abbrev pub is_entry : ℕ → ℕ → Option Row → Bool
is_entry client number None = false
is_entry client number (Some r) = is_pair client number r

-- The number of rows that belong to the client.
abbrev pub count_rows : ℕ → Table Row → ℕ
count_rows client rows = count_by (λ p. p.1.client == client) rows

-- The held locks and the waiting requests of the two lists.
abbrev pub locks_in : Table Row → Table Row → Locks
locks_in held waiting = record { held = values_in held; waiting = values_in waiting }

-- The index agrees with the two lists, and there is capacity to grant all waiting requests.
pub record IsIndexed (t : Index) : Type 0 where
  pub held_rise : is_rising t.held.items ≡ true
  pub waiting_rise : is_rising t.waiting.items ≡ true
  pub held_below : is_below t.held.items (order_at t.next 0) ≡ true
  pub waiting_below : is_below t.waiting.items (order_at t.next 0) ≡ true
  pub lines : (name : List ℕ) → line_at t.lines name ≡ line_of name t.held.items t.waiting.items
  pub held_places : (client number order : ℕ) → has_place_at t.clients client number order true ≡ is_entry client number (find t.held.items order)
  pub waiting_places : (client number order : ℕ) → has_place_at t.clients client number order false ≡ is_entry client number (find t.waiting.items order)
  pub counts : (client : ℕ) → count_at t.clients client ≡ count_rows client t.held.items + count_rows client t.waiting.items
  pub room : length t.waiting.items ≤ t.held.room

-- Each name stored without an entry satisfies `is_name`, and each client stored without an entry
-- satisfies `is_client`.
pub record IsLeanBut (t : Index) (is_name : List ℕ → Bool) (is_client : ℕ → Bool) : Type 0 where
  pub names : (name : List ℕ) → is_idle_line t.lines name ≡ true → is_name name ≡ true
  pub clients : (client : ℕ) → is_idle_client t.clients client ≡ true → is_client client ≡ true

-- An index is lean if no name and no client is stored without an entry.
abbrev pub IsLean : Index → Type 0
IsLean t = IsLeanBut t (λ name. false) (λ client. false)

-- Each name with a line is the name of an entry, and each stored client has an entry.
pub record KeepsNoOthers (t : Index) : Type 0 where
  pub names : (name : List ℕ) → HasLine t.lines name → (is_named name (values_in t.held.items) || is_named name (values_in t.waiting.items)) ≡ true
  pub clients : (client : ℕ) → IsSome (get nat_eq t.clients.clients client) → 1 ≤ live (locks_in t.held.items t.waiting.items) client

-- The row's name and its client have an entry in the new index, and no other name or client has
-- lost its entries.
pub record Fills (old new : Index) (row : Row) : Type 0 where
  pub names : (name : List ℕ) → is_idle_line new.lines name ≡ true → (is_idle_line old.lines name && not (bytes_eq row.name name)) ≡ true
  pub clients : (client : ℕ) → is_idle_client new.clients client ≡ true → (is_idle_client old.clients client && not (row.client == client)) ≡ true

-- Only the row's name and its client may have lost their entries.
pub record Empties (old new : Index) (row : Row) : Type 0 where
  pub names : (name : List ℕ) → is_idle_line new.lines name ≡ true → (is_idle_line old.lines name || bytes_eq row.name name) ≡ true
  pub clients : (client : ℕ) → is_idle_client new.clients client ≡ true → (is_idle_client old.clients client || row.client == client) ≡ true

-- There is capacity for one more lock of this pair with this name.
pub record IsHoldable (t : Index) (client number : ℕ) (name : List ℕ) : Type 0 where
  pub held : length t.waiting.items < t.held.room
  pub place : 0 < place_room_at t.clients client
  pub further : has_number_at t.clients client number ≡ true → 0 < further_room_at t.clients client
  pub line : HasLine t.lines name

-- There is capacity for one more entry of this pair with this name, held or waiting.
pub record IsReady (t : Index) (client number : ℕ) (name : List ℕ) : Type 0 where
  pub held : length t.waiting.items < t.held.room
  pub waiting : 0 < t.waiting.room
  pub place : 0 < place_room_at t.clients client
  pub further : has_number_at t.clients client number ≡ true → 0 < further_room_at t.clients client
  pub line : HasLine t.lines name
  pub name_room : 0 < room_at t.lines name

-- All rows belong to this client.
abbrev pub are_of : ℕ → List Row → Bool
are_of client rows = list_all (λ r. r.client == client) rows

-- There is capacity for these locks and requests of this client.
pub record HasRoom (t : Index) (client : ℕ) (locks requests : List Row) : Type 0 where
  pub held : length t.waiting.items + length locks + length requests ≤ t.held.room
  pub waiting : length requests ≤ t.waiting.room
  pub places : length locks + length requests ≤ place_room_at t.clients client
  pub further : length locks + length requests ≤ further_room_at t.clients client
  pub lines : (name : List ℕ) → is_named name locks ≡ true → HasLine t.lines name
  pub names : (name : List ℕ) → count_named name requests ≤ room_at t.lines name

-- The capacity that remains after a new lock, or after a new request with this name.
pub record TakesRoom (old new : Index) (locks requests : ℕ) (name : List ℕ) : Type 0 where
  pub held : old.held.room ≤ new.held.room + locks
  pub waiting : old.waiting.room ≤ new.waiting.room + requests
  pub places : (client : ℕ) → place_room_at old.clients client ≤ place_room_at new.clients client + locks + requests
  pub further : (client : ℕ) → further_room_at old.clients client ≤ further_room_at new.clients client + locks + requests
  pub lines : (n : List ℕ) → HasLine old.lines n → HasLine new.lines n
  pub names : (n : List ℕ) → room_at old.lines n ≤ room_at new.lines n + (if bytes_eq name n then requests else 0)
