-- The relation between a history and the receipts of its lanes.
use Rattle.std.specs.Prelude.{◌≡◌, ◌+◌, ◌<◌, ◌≤◌, ◌⊎◌, ◌==◌, ℕ, List, [], ◌∷◌, length, Some, slice_get, if◌then◌else◌}
use Rattle.wl_locked.specs.declared.receipt.Step.{Step}
use Rattle.wl_locked.specs.declared.receipt.Receipt.{Receipt}

-- The step that a receipt records.
abbrev pub step_of : Receipt → Step
step_of r = record { event = r.event; reply = r.reply }

-- The receipt equals the step at its place.
abbrev pub IsAt : List Step → Receipt → Type 0
IsAt steps r = slice_get steps r.place ≡ Some (step_of r)

-- All elements of a list have a property.
abbrev pub Each : {X : Type 0} → (X → Type 0) → List X → Type 0
Each P [] = Unit {0}
Each P (x ∷ xs) = P x × Each P xs

-- Some element of a list has a property.
abbrev pub Among : {X : Type 0} → (X → Type 0) → List X → Type 0
Among P [] = ⊥
Among P (x ∷ xs) = P x ⊎ Among P xs

-- The places of a lane's receipts strictly increase, from `least` on.
abbrev pub Rises : ℕ → List Receipt → Type 0
Rises least [] = Unit {0}
Rises least (r ∷ rs) = (least ≤ r.place) × Rises (r.place + 1) rs

-- A receipt of place p is not above the receipt before it.
abbrev pub Falls : ℕ → ℕ → List Receipt → Type 0
Falls p least [] = ⊥
Falls p least (r ∷ rs) = ((r.place ≡ p) × (p < least)) ⊎ Falls p (r.place + 1) rs

-- The number of receipts of place p.
abbrev pub times : ℕ → List Receipt → ℕ
times p [] = 0
times p (r ∷ rs) = (if r.place == p then 1 else 0) + times p rs

-- The number of receipts of place p in all lanes.
abbrev pub times_in : ℕ → List (List Receipt) → ℕ
times_in p [] = 0
times_in p (l ∷ ls) = times p l + times_in p ls

-- The number of receipts of all lanes.
abbrev pub total : List (List Receipt) → ℕ
total [] = 0
total (l ∷ ls) = length l + total ls

-- Each step has exactly one receipt, which equals it. The places increase within each lane.
pub record IsMadeOf (steps : List Step) (lanes : List (List Receipt)) : Type 0 where
  pub stands : Each (Each (IsAt steps)) lanes
  pub rises : Each (Rises 0) lanes
  pub once : (p : ℕ) → p < length steps → times_in p lanes ≡ 1

-- The receipt has place p and differs from the step there.
abbrev pub IsOther : List Step → ℕ → Receipt → Type 0
IsOther steps p r = (r.place ≡ p) × (IsAt steps r → ⊥)

-- The lane has a receipt of place p that differs from the step there or is out of order.
abbrev pub HasFault : List Step → ℕ → List Receipt → Type 0
HasFault steps p rs = Among (IsOther steps p) rs ⊎ Falls p 0 rs

-- A receipt of place p differs from the step there, is out of order in its lane, or occurs twice.
abbrev pub IsMismatch : List Step → List (List Receipt) → ℕ → Type 0
IsMismatch steps lanes p = Among (HasFault steps p) lanes ⊎ (1 < times_in p lanes)
