-- Lists with rising numbers: the position of a number, and the list without it.
use Rattle.std.proofs.Common.{◌≡◌, ℕ, zero, suc, ◌+◌, ◌<◌, ◌≤◌, Bool, true, false, not, ◌||◌, cond, eqb, List, [], ◌∷◌, length, filter, get_or, Some, None, refl, sym, ap, ◌∙◌, arith}
use Rattle.std.proofs.lemmas.Bool.{eqb-true, eqb-false}
use Rattle.std.proofs.lemmas.Iterator.Adapters.{position_from-zero}
use Rattle.std.specs.List.{position, position_from, remove, list_any}

-- The numbers of the list rise.
abbrev pub RisesBy : {X : Type 0} → (X → ℕ) → ℕ → List X → Type 0
RisesBy f least [] = Unit {0}
RisesBy f least (x ∷ xs) = (least ≤ f x) × RisesBy f (f x + 1) xs

-- No element passes

none_from_as : {X : Type 0} (p : X → Bool) (b : Bool) (i : ℕ) (xs : List X) → cond b (Some i) (position_from p (i + 1) xs) ≡ None → (position_from p (i + 1) xs ≡ None → list_any p xs ≡ false) → (b || list_any p xs) ≡ false
none_from_as p true i xs e below = cc
none_from_as p false i xs e below = below e

none_from : {X : Type 0} (p : X → Bool) (i : ℕ) (xs : List X) → position_from p i xs ≡ None → list_any p xs ≡ false
none_from p i [] e = refl
none_from p i (x ∷ xs) e = none_from_as p (p x) i xs e (none_from p (i + 1) xs)

pub position-none : {X : Type 0} (p : X → Bool) (xs : List X) → position p xs ≡ None → list_any p xs ≡ false
position-none p xs e = none_from p 0 xs (sym (position_from-zero p xs) ∙ e)

-- The element with a number

others_as : {X : Type 0} (f : X → ℕ) (k : ℕ) (x : X) (xs : List X) (b : Bool) → eqb (f x) k ≡ b → k < f x → filter (λ y. not (eqb (f y) k)) xs ≡ xs → cond (not b) (x ∷ filter (λ y. not (eqb (f y) k)) xs) (filter (λ y. not (eqb (f y) k)) xs) ≡ x ∷ xs
others_as f k x xs true e h below = absurd (omega (arith, eqb-true (f x) k e))
others_as f k x xs false e h below = ap (λ ys. x ∷ ys) below

-- Removing a number below all others changes nothing.
pub others : {X : Type 0} (f : X → ℕ) (k least : ℕ) (xs : List X) → RisesBy f least xs → k < least → filter (λ y. not (eqb (f y) k)) xs ≡ xs
others f k least [] r h = refl
others f k least (x ∷ xs) r h = others_as f k x xs (eqb (f x) k) refl (omega (arith, r.0)) (others f k (f x + 1) xs r.1 (omega (arith, r.0)))

first_as : {X : Type 0} (f : X → ℕ) (k : ℕ) (x : X) (xs ys : List X) (b : Bool) → eqb (f x) k ≡ b → f x ≡ k → ys ≡ xs → xs ≡ cond (not b) (x ∷ ys) ys
first_as f k x xs ys true e is same = sym same
first_as f k x xs ys false e is same = absurd (eqb-false (f x) k e is)

later_as : {X : Type 0} (f : X → ℕ) (k : ℕ) (x : X) (xs ys : List X) (b : Bool) → eqb (f x) k ≡ b → f x < k → xs ≡ ys → x ∷ xs ≡ cond (not b) (x ∷ ys) ys
later_as f k x xs ys true e low same = absurd (omega (arith, eqb-true (f x) k e))
later_as f k x xs ys false e low same = ap (λ zs. x ∷ zs) same

-- Each element's number is at least `least`.
pub at_least : {X : Type 0} (f : X → ℕ) (least : ℕ) (xs : List X) (i : ℕ) (d : X) → RisesBy f least xs → i < length xs → least ≤ f (get_or xs i d)
at_least f least [] i d r h = absurd (omega arith)
at_least f least (x ∷ xs) zero d r h = r.0
at_least f least (x ∷ xs) (suc i) d r h = omega (arith, r.0, at_least f (f x + 1) xs i d r.1 (omega arith))

-- Removing the element at a number's position removes exactly that number.
pub remove-place : {X : Type 0} (f : X → ℕ) (k least : ℕ) (xs : List X) (i : ℕ) (d : X) → RisesBy f least xs → i < length xs → f (get_or xs i d) ≡ k → remove xs i ≡ filter (λ y. not (eqb (f y) k)) xs
remove-place f k least [] i d r h is = absurd (omega arith)
remove-place f k least (x ∷ xs) zero d r h is = first_as f k x xs _ (eqb (f x) k) refl is (others f k (f x + 1) xs r.1 (omega (arith, is)))
remove-place f k least (x ∷ xs) (suc i) d r h is =
    let low : f x < k = omega (arith, is, at_least f (f x + 1) xs i d r.1 (omega arith)) in
    later_as f k x (remove xs i) _ (eqb (f x) k) refl low (remove-place f k (f x + 1) xs i d r.1 (omega arith) is)
