-- The effect on marks of a run over receipts.
use Rattle.std.specs.Prelude.{◌≡◌, ◌+◌, ◌<◌, ◌≤◌, ◌⊎◌, ℕ, List, [], ◌∷◌, length, Bool, false, slice_index_or, if◌then◌else◌}
use Rattle.wl_locked.specs.declared.receipt.Step.{Step}
use Rattle.wl_locked.specs.declared.receipt.Receipt.{Receipt}
use Rattle.wl_locked.specs.Receipts.{IsAt, IsOther, HasFault, Each, Among, Rises, Falls, times, times_in, total}

-- 1 if the place is marked, else 0.
abbrev pub bit : List Bool → ℕ → ℕ
bit marks p = if slice_index_or marks p false then 1 else 0

-- The number of marks that are set.
abbrev pub marked : List Bool → ℕ
marked [] = 0
marked (b ∷ bs) = (if b then 1 else 0) + marked bs

-- The receipt equals the step at its place, which is unmarked and not below `least`.
pub record IsFree (steps : List Step) (marks : List Bool) (least : ℕ) (r : Receipt) : Type 0 where
  pub above : least ≤ r.place
  pub at : IsAt steps r
  pub free : slice_index_or marks r.place false ≡ false

-- The places of exactly these receipts were marked.
pub record IsMarked (steps : List Step) (least : ℕ) (rs : List Receipt) (old new : List Bool) : Type 0 where
  pub stands : Each (IsAt steps) rs
  pub rises : Rises least rs
  pub bits : (p : ℕ) → bit new p ≡ bit old p + times p rs
  pub count : marked new ≡ marked old + length rs
  pub same : length new ≡ length old

-- A receipt of place p could not be marked.
abbrev pub IsRefused : List Step → ℕ → List Receipt → List Bool → ℕ → Type 0
IsRefused steps least rs marks p =
    Among (IsOther steps p) rs ⊎ (Falls p least rs ⊎ (1 < bit marks p + times p rs))

pub record AreMarked (steps : List Step) (lanes : List (List Receipt)) (old new : List Bool) : Type 0 where
  pub stands : Each (Each (IsAt steps)) lanes
  pub rises : Each (Rises 0) lanes
  pub bits : (p : ℕ) → bit new p ≡ bit old p + times_in p lanes
  pub count : marked new ≡ marked old + total lanes
  pub same : length new ≡ length old

abbrev pub AreRefused : List Step → List (List Receipt) → List Bool → ℕ → Type 0
AreRefused steps lanes marks p = Among (HasFault steps p) lanes ⊎ (1 < bit marks p + times_in p lanes)
