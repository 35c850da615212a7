-- Output of one shard's steps, which leaves in the order of the steps' places.
use Rattle.std.specs.Prelude.{◌≡◌, ℕ, zero, suc, ◌+◌, ◌-◌, ◌<◌, ◌==◌, nat_lt, List, [], ◌∷◌, ◌++◌, length, slice_get, Option, None, Some, if◌then◌else◌}

-- The bytes of places in a row. `None` is a place that is not finished.
abbrev pub Places : Type 0
Places = List (Option (List ℕ))

-- Output that is held back: the lowest place that is not finished, and the places behind it.
pub record Output : Type 0 where
  pub next : ℕ
  pub later : Places

abbrev pub empty : Output
empty = record { next = 0; later = [] }

-- The bytes of the finished places in front.
abbrev pub ready : Places → List (List ℕ)
ready [] = []
ready (None ∷ places) = []
ready (Some bytes ∷ places) = bytes ∷ ready places

-- The places behind the first one that is not finished.
abbrev pub behind : Places → Places
behind [] = []
behind (None ∷ places) = places
behind (Some bytes ∷ places) = behind places

-- The places, with these bytes at an index. A place that is finished keeps its bytes.
abbrev pub filled : ℕ → List ℕ → Places → Places
filled zero bytes [] = Some bytes ∷ []
filled zero bytes (None ∷ places) = Some bytes ∷ places
filled zero bytes (Some first ∷ places) = Some first ∷ places
filled (suc index) bytes [] = None ∷ filled index bytes []
filled (suc index) bytes (place ∷ places) = place ∷ filled index bytes places

-- The outputs that leave when a place is finished: none before its turn, and then its own and those kept right behind it.
abbrev pub released : Output → ℕ → List ℕ → List (List ℕ)
released o place bytes = if place == o.next then bytes ∷ ready o.later else []

-- What is held back after a place is finished.
abbrev pub finished : Output → ℕ → List ℕ → Output
finished o place bytes =
    if place == o.next then record { next = o.next + 1 + length (ready o.later); later = behind o.later }
    else (if nat_lt o.next place then record { next = o.next; later = filled (place - o.next - 1) bytes o.later } else o)

-- A place that is finished, with its bytes.
abbrev pub Finish : Type 0
Finish = ℕ × List ℕ

-- The bytes with which a place is finished first.
abbrev pub first_of : ℕ → List Finish → Option (List ℕ)
first_of place [] = None
first_of place ((other, bytes) ∷ finishes) = if place == other then Some bytes else first_of place finishes

-- What is held back after a list of finishes.
abbrev pub after : List Finish → Output → Output
after [] o = o
after ((place, bytes) ∷ finishes) o = after finishes (finished o place bytes)

-- The outputs that leave during a list of finishes.
abbrev pub all_released : List Finish → Output → List (List ℕ)
all_released [] o = []
all_released ((place, bytes) ∷ finishes) o = released o place bytes ++ all_released finishes (finished o place bytes)

-- The bytes of a place, `None` if it is not finished.
abbrev pub bytes_at : Places → ℕ → Option (List ℕ)
bytes_at [] index = None
bytes_at (place ∷ places) zero = place
bytes_at (place ∷ places) (suc index) = bytes_at places index

-- The outputs that have left are those of all places below the next one, in order and each once. The next place is not finished.
-- All other outputs are kept.
pub record IsInOrder (finishes : List Finish) (left : List (List ℕ)) (o : Output) : Type 0 where
  pub below : length left ≡ o.next
  pub in_order : (place : ℕ) → place < o.next → slice_get left place ≡ first_of place finishes
  pub waits : first_of o.next finishes ≡ None
  pub kept : (index : ℕ) → bytes_at o.later index ≡ first_of (o.next + 1 + index) finishes

abbrev pub LeavesInOrder : Type 0
LeavesInOrder = (finishes : List Finish) → IsInOrder finishes (all_released finishes empty) (after finishes empty)
