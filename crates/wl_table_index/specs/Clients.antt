-- Places of each client's entries.
use Rattle.std.specs.Prelude.{◌≡◌, ℕ, ◌-◌, ◌≤◌, List, Bool, true, false, not, ◌&&◌, ◌||◌, ◌==◌, nat_lt, nat_eq, Option, Some, None, is_some, vec_len, vec_capacity, if◌then◌else◌}
use Rattle.std.specs.List.{list_any}
use Rattle.std.specs.Option.{option_map_or}
use Rattle.std.specs.HashMap.{get, spare}
use Rattle.wl_draft.specs.declared.row.Standing.{Standing}
use Rattle.wl_draft.specs.declared.row.Standing.TheVariants.{Held, Waiting, Absent}
use Rattle.wl_table_index.specs.declared.holdings.Place.{Place}
use Rattle.wl_table_index.specs.declared.holdings.FurtherPlace.{FurtherPlace}
use Rattle.wl_table_index.specs.declared.holdings.Removal.{Removal}
use Rattle.wl_table_index.specs.declared.holdings.Removal.TheVariants.{Release, Abort, End}
use Rattle.wl_table_index.specs.declared.holdings.Holdings.{Holdings}
use Rattle.wl_table_index.specs.declared.clients.Clients.{Clients}

abbrev pub is_same : Bool → Bool → Bool
is_same a b = if b then a else not a

-- The place has this order number in the held locks, or else in the waiting requests.
abbrev pub is_place : Place → ℕ → Bool → Bool
is_place p order held = is_same p.is_held held && p.order == order

abbrev pub is_latest : Option Place → ℕ → Bool → Bool
is_latest None order held = false
is_latest (Some p) order held = is_place p order held

abbrev pub is_further : List FurtherPlace → ℕ → ℕ → Bool → Bool
is_further fs number order held = list_any (λ f. f.number == number && is_place f.place order held) fs

-- An entry with this number has this order number in the held locks, or else in the waiting requests.
abbrev pub has_place : Holdings → ℕ → ℕ → Bool → Bool
has_place h number order held = is_latest (get nat_eq h.places number) order held || is_further h.further.items number order held

-- The number of further places that can be added without an allocation.
abbrev pub further_room : Holdings → ℕ
further_room h = vec_capacity h.further - vec_len h.further

-- The place of an entry after a request is granted.
abbrev pub granted_place : ℕ → ℕ → Place → Place
granted_place order granted p = if is_place p order false then record { order = granted; is_held = true } else p

abbrev pub granted_further : ℕ → ℕ → ℕ → FurtherPlace → FurtherPlace
granted_further number order granted f =
    if f.number == number then record { number = number; place = granted_place order granted f.place } else f

-- The smaller of two order numbers, or the first one if there is no second.
abbrev pub lesser_of : ℕ → Option ℕ → ℕ
lesser_of order None = order
lesser_of order (Some other) = if nat_lt other order then other else order

-- The least number that passes the test.
abbrev pub IsLeast : (ℕ → Bool) → Option ℕ → Type 0
IsLeast test None = (k : ℕ) → test k ≡ false
IsLeast test (Some o) = (test o ≡ true) × ((k : ℕ) → test k ≡ true → o ≤ k)

-- The standing of the client's lock, whose places are given.
abbrev pub IsStanding : (ℕ → Bool → Bool) → Standing → Type 0
IsStanding has Held = (o : ℕ) × (has o true ≡ true)
IsStanding has Waiting = ((o : ℕ) → has o true ≡ false) × ((o : ℕ) × (has o false ≡ true))
IsStanding has Absent = ((o : ℕ) → has o true ≡ false) × ((o : ℕ) → has o false ≡ false)

-- The command removes entries with this number that are held, or else that wait.
abbrev pub takes : Removal → Bool → ℕ → Bool
takes (Release k) held number = held && number == k
takes (Abort k) held number = number == k
takes End held number = true

-- One of the given places, whose entry the command removes.
pub record IsTaken (removal : Removal) (has : ℕ → ℕ → Bool → Bool) (p : Place) : Type 0 where
  pub number : ℕ
  pub there : has number p.order p.is_held ≡ true
  pub taken : takes removal p.is_held number ≡ true

-- An entry of the client with this number has this order number in the held locks, or else in the
-- waiting requests.
abbrev pub has_place_at : Clients → ℕ → ℕ → ℕ → Bool → Bool
has_place_at cs client number order held = option_map_or (λ h. has_place h number order held) (get nat_eq cs.clients client) false

-- The client has an entry with this number.
abbrev pub has_number_at : Clients → ℕ → ℕ → Bool
has_number_at cs client number = option_map_or (λ h. is_some (get nat_eq h.places number)) (get nat_eq cs.clients client) false

-- The number of the client's entries.
abbrev pub count_at : Clients → ℕ → ℕ
count_at cs client = option_map_or (λ h. h.count) (get nat_eq cs.clients client) 0

-- The client is stored, but has no entry.
abbrev pub is_idle_client : Clients → ℕ → Bool
is_idle_client cs client = option_map_or (λ h. h.count == 0) (get nat_eq cs.clients client) false

-- The number of entries that can be added without an allocation.
abbrev pub place_room_at : Clients → ℕ → ℕ
place_room_at cs client = option_map_or (λ h. spare h.places) (get nat_eq cs.clients client) 0

-- The number of entries with known numbers that can be added without an allocation.
abbrev pub further_room_at : Clients → ℕ → ℕ
further_room_at cs client = option_map_or (λ h. further_room h) (get nat_eq cs.clients client) 0
