-- Lemmas on list membership, and on properties of all elements.
use Rattle.std.proofs.Common.{◌≡◌, ◌∙◌, ◌⊎◌, ◌++◌, ◌||◌, Bool, true, false, cond, List, [], ◌∷◌, Option, Some, find, filter, unwrap_or, refl, sym, ap, subst, inl, inr, true≢false}
use Rattle.std.specs.List.{list_all, list_any}
use Rattle.clap.proofs.WalkLemmas.{both}

abbrev pub IsIn : {X : Type 0} → X → List X → Type 0
IsIn x [] = ⊥
IsIn x (y ∷ ys) = (x ≡ y) ⊎ IsIn x ys

abbrev pub Each : {X : Type 0} → (X → Type 0) → List X → Type 0
Each P [] = Unit {0}
Each P (x ∷ xs) = P x × Each P xs

pub Each-snoc : {X : Type 0} (P : X → Type 0) (xs : List X) (x : X) → Each P xs → P x → Each P (xs ++ x ∷ [])
Each-snoc P [] x all px = (px, tt)
Each-snoc P (y ∷ ys) x all px = (all.0, Each-snoc P ys x all.1 px)

pub find-IsIn : {X : Type 0} (test : X → Bool) (xs : List X) (x : X) → find test xs ≡ Some x → IsIn x xs
find-IsIn test [] x e = cc
find-IsIn {X} test (y ∷ ys) x e = go (test y) (find-IsIn test ys x) e
  where
    go : (b : Bool) → (find test ys ≡ Some x → IsIn x ys) → cond b (Some y) (find test ys) ≡ Some x → (x ≡ y) ⊎ IsIn x ys
    go true rest e = inl (sym (ap (λ (o : Option X). unwrap_or o x) e))
    go false rest e = inr (rest e)

pub find-Each : {X : Type 0} (P : X → Type 0) (test : X → Bool) (xs : List X) (x : X) → find test xs ≡ Some x → Each P xs → P x × (test x ≡ true)
find-Each P test [] x e all = cc
find-Each {X} P test (y ∷ ys) x e all = go (test y) refl (λ later. find-Each P test ys x later all.1) e
  where
    go : (b : Bool) → test y ≡ b → (find test ys ≡ Some x → P x × (test x ≡ true)) → cond b (Some y) (find test ys) ≡ Some x → P x × (test x ≡ true)
    go true hit later e =
        let same : y ≡ x = ap (λ (o : Option X). unwrap_or o x) e in
        (subst P same all.0, ap test (sym same) ∙ hit)
    go false miss later e = later e

pub find-passes : {X : Type 0} (test : X → Bool) (xs : List X) (x : X) → find test xs ≡ Some x → test x ≡ true
find-passes test xs x e = (find-Each (λ _. Unit {0}) test xs x e (trivial xs)).1
  where
    trivial : {X : Type 0} (xs : List X) → Each (λ _. Unit {0}) xs
    trivial [] = tt
    trivial (x ∷ xs) = (tt, trivial xs)

pub IsIn-filter : {X : Type 0} (test : X → Bool) (xs : List X) (x : X) → IsIn x xs → test x ≡ true → IsIn x (filter test xs)
IsIn-filter test [] x is hit = absurd is
IsIn-filter {X} test (y ∷ ys) x is hit = go (test y) refl (λ later. IsIn-filter test ys x later hit) is
  where
    go : (b : Bool) → test y ≡ b → (IsIn x ys → IsIn x (filter test ys)) → (x ≡ y) ⊎ IsIn x ys → IsIn x (cond b (y ∷ filter test ys) (filter test ys))
    go true e rest (inl same) = inl same
    go true e rest (inr later) = inr (rest later)
    go false e rest (inl same) = absurd (true≢false (sym hit ∙ ap test same ∙ e))
    go false e rest (inr later) = rest later

pub filter-IsIn : {X : Type 0} (test : X → Bool) (xs : List X) (x : X) → IsIn x (filter test xs) → IsIn x xs
filter-IsIn test [] x is = absurd is
filter-IsIn {X} test (y ∷ ys) x is = go (test y) (filter-IsIn test ys x) is
  where
    go : (b : Bool) → (IsIn x (filter test ys) → IsIn x ys) → IsIn x (cond b (y ∷ filter test ys) (filter test ys)) → (x ≡ y) ⊎ IsIn x ys
    go true rest (inl same) = inl same
    go true rest (inr later) = inr (rest later)
    go false rest later = inr (rest later)

pub list_all-IsIn : {X : Type 0} (test : X → Bool) (xs : List X) (x : X) → list_all test xs ≡ true → IsIn x xs → test x ≡ true
list_all-IsIn test [] x all is = absurd is
list_all-IsIn test (y ∷ ys) x all (inl same) = ap test same ∙ (both _ _ all).0
list_all-IsIn test (y ∷ ys) x all (inr later) = list_all-IsIn test ys x (both _ _ all).1 later

neither : (a b : Bool) → (a || b) ≡ false → (a ≡ false) × (b ≡ false)
neither true b e = absurd (true≢false e)
neither false b e = (refl, e)

pub list_any-IsIn : {X : Type 0} (test : X → Bool) (xs : List X) (x : X) → list_any test xs ≡ false → IsIn x xs → test x ≡ false
list_any-IsIn test [] x none is = absurd is
list_any-IsIn test (y ∷ ys) x none (inl same) = ap test same ∙ (neither _ _ none).0
list_any-IsIn test (y ∷ ys) x none (inr later) = list_any-IsIn test ys x (neither _ _ none).1 later
