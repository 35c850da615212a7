-- Properties that a restricted list or table keeps.
use Rattle.std.proofs.Common.{◌≡◌, ℕ, ◌+◌, ◌<◌, Bool, true, false, cond, not, ◌||◌, List, [], ◌∷◌, map, filter, Some, unwrap_or, refl, sym, ap, ap₂, ◌∙◌, arith}
use Rattle.std.specs.Prelude.{◌==◌, nat_lt}
use Rattle.std.specs.List.{list_any}
use Rattle.std.proofs.lemmas.Bool.{cond-true, cond-false, eqb-true, ltb-true}
use Rattle.wl_draft.specs.Tables.{Table, at, find, put, Rises}
use Rattle.wl_draft.proofs.TableLemmas.{at-find}
use Rattle.wl_draft.specs.Membership.{In, Here, Later}
use Rattle.wl_draft.proofs.Membership.{apart, either, In-filter_cases, by_test}
use Rattle.wl_draft.proofs.RisingTables.{Rises-filter, put-below}
use Rattle.wl_world_model.specs.Apart.{only}

-- Lists

pub filter-same : {X : Type 0} (p q : X → Bool) (xs : List X) → ((x : X) → In x xs → p x ≡ q x) → filter p xs ≡ filter q xs
filter-same p q [] h = refl
filter-same p q (x ∷ xs) h = ap₂ (λ b zs. cond b (x ∷ zs) zs) (h x Here) (filter-same p q xs (λ y i. h y (Later i)))

pub filter-all : {X : Type 0} (p : X → Bool) (xs : List X) → ((x : X) → In x xs → p x ≡ true) → filter p xs ≡ xs
filter-all p [] h = refl
filter-all p (x ∷ xs) h = ap₂ (λ b zs. cond b (x ∷ zs) zs) (h x Here) (filter-all p xs (λ y i. h y (Later i)))

pub filter-unchanged : {X : Type 0} (p : X → Bool) (xs : List X) → ((x : X) → In x xs → p x ≡ false) → filter p xs ≡ []
filter-unchanged p [] h = refl
filter-unchanged p (x ∷ xs) h = ap₂ (λ b zs. cond b (x ∷ zs) zs) (h x Here) (filter-unchanged p xs (λ y i. h y (Later i)))

pub filter-twice : {X : Type 0} (p : X → Bool) (xs : List X) → filter p (filter p xs) ≡ filter p xs
filter-twice p xs = filter-all p (filter p xs) (λ x i. (In-filter_cases p xs i).1)

filter-map_step : {X Y : Type 0} (b : Bool) (h : X → Y) (x : X) (xs : List X) (ys : List Y) → ys ≡ map h xs → cond b (h x ∷ ys) ys ≡ map h (cond b (x ∷ xs) xs)
filter-map_step true h x xs ys e = ap (λ zs. h x ∷ zs) e
filter-map_step false h x xs ys e = e

pub filter-map : {X Y : Type 0} (p : Y → Bool) (h : X → Y) (xs : List X) → filter p (map h xs) ≡ map h (filter (λ x. p (h x)) xs)
filter-map p h [] = refl
filter-map p h (x ∷ xs) = filter-map_step (p (h x)) h x (filter (λ x. p (h x)) xs) (filter p (map h xs)) (filter-map p h xs)

pub map-own : {X : Type 0} (h : X → X) (xs : List X) → ((x : X) → In x xs → h x ≡ x) → map h xs ≡ xs
map-own h [] e = refl
map-own h (x ∷ xs) e = ap₂ ◌∷◌ (e x Here) (map-own h xs (λ y i. e y (Later i)))

-- A filter changes no `any` test that only kept items can pass.
pub any-filter : {X : Type 0} (p q : X → Bool) → ((x : X) → p x ≡ true → q x ≡ true) → (xs : List X) → list_any p (filter q xs) ≡ list_any p xs
any-filter p q h [] = refl
any-filter p q h (x ∷ xs) =
    either (λ zs. list_any p zs ≡ (p x || list_any p xs)) (q x) (x ∷ filter q xs) (filter q xs)
    (λ _. ap (λ z. p x || z) (any-filter p q h xs))
    (λ n. any-filter p q h xs ∙ by_test (λ v. list_any p xs ≡ (v || list_any p xs)) (p x) (λ s. apart (h x s) n) (λ _. refl))

-- Tables

-- Removing a row that the filter drops anyway changes nothing.
pub filter-spare : {X : Type 0} (f : ℕ → Bool) (t : ℕ) (ps : Table X) → f t ≡ false → only f (filter (λ row. not (row.0 == t)) ps) ≡ only f ps
filter-spare f t [] e = refl
filter-spare f t (p ∷ ps) e =
    by_test (λ v. (p.0 == t) ≡ v → only f (cond (not v) (p ∷ filter (λ row. not (row.0 == t)) ps) (filter (λ row. not (row.0 == t)) ps)) ≡ only f (p ∷ ps)) (p.0 == t)
    (λ s _. filter-spare f t ps e ∙ sym (cond-false _ _ _ (ap f (eqb-true p.0 t s) ∙ e)))
    (λ _ _. ap (λ zs. cond (f p.0) (p ∷ zs) zs) (filter-spare f t ps e))
    refl

pub find-only : {X : Type 0} (f : ℕ → Bool) (k : ℕ) (ps : Table X) → f k ≡ true → find (only f ps) k ≡ find ps k
find-only f k [] e = refl
find-only f k (p ∷ ps) e =
    either (λ zs. find zs k ≡ cond (p.0 == k) (Some p.1) (find ps k)) (f p.0) (p ∷ only f ps) (only f ps)
    (λ _. ap (λ z. cond (p.0 == k) (Some p.1) z) (find-only f k ps e))
    (λ n. find-only f k ps e ∙ by_test (λ v. find ps k ≡ cond v (Some p.1) (find ps k)) (p.0 == k) (λ s. apart (ap f (eqb-true p.0 k s) ∙ e) n) (λ _. refl))

pub at-only : {X : Type 0} (f : ℕ → Bool) (d : X) (k : ℕ) (ps : Table X) → f k ≡ true → at d (only f ps) k ≡ at d ps k
at-only f d k ps e = at-find d (only f ps) k ∙ ap (λ z. unwrap_or z d) (find-only f k ps e) ∙ sym (at-find d ps k)

pub only-put_out : {X : Type 0} (f : ℕ → Bool) (k : ℕ) (x : X) (ps : Table X) → f k ≡ false → only f (put k x ps) ≡ only f ps
only-put_out f k x [] e = cond-false _ _ _ e
only-put_out f k x (p ∷ ps) e =
    by_test (λ v. only f (cond v ((k, x) ∷ ps) (cond (nat_lt k p.0) ((k, x) ∷ p ∷ ps) (p ∷ put k x ps))) ≡ only f (p ∷ ps)) (p.0 == k)
    (λ s. cond-false _ _ _ e ∙ sym (cond-false _ _ _ (ap f (eqb-true p.0 k s) ∙ e)))
    (λ _. either (λ zs. only f zs ≡ only f (p ∷ ps)) (nat_lt k p.0) ((k, x) ∷ p ∷ ps) (p ∷ put k x ps)
    (λ _. cond-false _ _ _ e)
    (λ _. ap (λ zs. cond (f p.0) (p ∷ zs) zs) (only-put_out f k x ps e)))

pub only-insert_sorted : {X : Type 0} (f : ℕ → Bool) (k : ℕ) (x : X) (a : ℕ) (ps : Table X) → f k ≡ true → Rises a ps → only f (put k x ps) ≡ put k x (only f ps)
only-insert_sorted f k x a [] e r = cond-true _ _ _ e
only-insert_sorted f k x a (p ∷ ps) e r =
    by_test (λ v. (p.0 == k) ≡ v → only f (cond v ((k, x) ∷ ps) (cond (nat_lt k p.0) ((k, x) ∷ p ∷ ps) (p ∷ put k x ps))) ≡ put k x (only f (p ∷ ps))) (p.0 == k)
    (λ s _. cond-true _ _ _ e ∙ sym (ap (put k x) (cond-true (f p.0) (p ∷ only f ps) (only f ps) (ap f (eqb-true p.0 k s) ∙ e)) ∙ cond-true _ _ _ s))
    (λ n _. by_test (λ v. nat_lt k p.0 ≡ v → only f (cond v ((k, x) ∷ p ∷ ps) (p ∷ put k x ps)) ≡ put k x (only f (p ∷ ps))) (nat_lt k p.0)
    (λ l _. cond-true _ _ _ e
    ∙ sym (put-below k x (only f (p ∷ ps)) (Rises-filter (λ row. f row.0) (k + 1) (p ∷ ps) (let m : k < p.0 = ltb-true k p.0 l in (omega arith, r.1)))))
    (λ l _. either (λ zs. cond (f p.0) (p ∷ only f (put k x ps)) (only f (put k x ps)) ≡ put k x zs) (f p.0) (p ∷ only f ps) (only f ps)
    (λ y. cond-true _ _ _ y ∙ ap (λ zs. p ∷ zs) (only-insert_sorted f k x (p.0 + 1) ps e r.1) ∙ sym (cond-false _ _ _ n ∙ cond-false _ _ _ l))
    (λ y. cond-false _ _ _ y ∙ only-insert_sorted f k x (p.0 + 1) ps e r.1))
    refl)
    refl
