-- Queue of a name, in which removed requests may stay as marked waiters for a while.
use Rattle.std.specs.Prelude.{ℕ, List, [], ◌∷◌, Bool, false, if◌then◌else◌, ◌≡◌, Some, slice_get}
use Rattle.wl_table_index.specs.declared.request_queue.Waiter.{Waiter}

-- The numbers of the waiting requests, in order.
abbrev pub numbers_in : List Waiter → List ℕ
numbers_in [] = []
numbers_in (w ∷ ws) = if w.is_marked then numbers_in ws else (w.order ∷ numbers_in ws)

-- The first waiter is marked as removed.
abbrev pub is_front_gone : List Waiter → Bool
is_front_gone [] = false
is_front_gone (w ∷ ws) = w.is_marked

-- The request with number `k` waits at index `i`.
abbrev pub WaitsAt : ℕ → List Waiter → ℕ → Type 0
WaitsAt k ws i = slice_get ws i ≡ Some (record { order = k; is_marked = false })
