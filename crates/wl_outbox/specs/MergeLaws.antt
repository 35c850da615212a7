-- Properties of merges.
use Rattle.std.specs.Prelude.{◌≡◌, ℕ, zero, suc, ◌+◌, ◌≤◌, List, [], ◌∷◌, length, Contains}
use Rattle.wl_outbox.specs.Merge.{IsMerge}
use Rattle.wl_outbox.specs.Parcels.{Packed}

-- The first list is a subsequence of the second.
pub data IsPickedFrom {A : Type 0} : List A → List A → Type 0 where
  nothing : IsPickedFrom [] []
  picks : (x : A) (xs ys : List A) → IsPickedFrom xs ys → IsPickedFrom (x ∷ xs) (x ∷ ys)
  leaves : (y : A) (xs ys : List A) → IsPickedFrom xs ys → IsPickedFrom xs (y ∷ ys)

-- The number of items of the first n sources.
abbrev pub given_by : {A : Type 0} → ℕ → (ℕ → List A) → ℕ
given_by zero lists = 0
given_by (suc n) lists = given_by n lists + length (lists n)

-- The items of each source keep their order in the merge.
abbrev pub KeepsOrder : Type 0
KeepsOrder = (items : List Packed) (lists : ℕ → List Packed) (p : ℕ) → IsMerge items lists → IsPickedFrom (lists p) items

-- The merge is as long as all sources together, so each item occurs once.
abbrev pub HasEachOnce : Type 0
HasEachOnce = (items : List Packed) (lists : ℕ → List Packed) (n : ℕ) → IsMerge items lists → ((p : ℕ) → n ≤ p → lists p ≡ [])
    → length items ≡ given_by n lists

-- Each item of the merge comes from a source.
abbrev pub HasNothingElse : Type 0
HasNothingElse = (items : List Packed) (lists : ℕ → List Packed) (x : Packed) → IsMerge items lists → Contains items x
    → (p : ℕ) × Contains (lists p) x
