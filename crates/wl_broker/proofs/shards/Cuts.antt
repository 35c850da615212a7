-- Filtered lists and tables, for the proofs on shards.
use Rattle.std.proofs.Common.{◌≡◌, ℕ, ◌+◌, ◌<◌, Bool, true, false, cond, not, [], ◌∷◌, filter, Option, Some, None, unwrap_or, refl, sym, ap, ◌∙◌, subst, arith}
use Rattle.std.specs.Prelude.{◌==◌, nat_lt}
use Rattle.std.proofs.lemmas.Bool.{cond-true, cond-false, eqb-true, ltb-true}
use Rattle.wl_draft.specs.Tables.{Table, at, find, put, Rises}
use Rattle.wl_draft.proofs.TableLemmas.{at-find}
use Rattle.wl_draft.proofs.Membership.{either, In-head, by_test}
use Rattle.wl_draft.specs.Membership.{In, Later}
use Rattle.wl_draft.proofs.RisingTables.{Rises-filter, find_below, put-below}

-- Tables

-- The row that a look-up finds, if the filter keeps it.
abbrev pub sieved : {X : Type 0} → (ℕ × X → Bool) → ℕ → Option X → Option X
sieved keep k None = None
sieved keep k (Some x) = cond (keep (k, x)) (Some x) None

this_row : {X : Type 0} (p : ℕ × X) (k : ℕ) → p.0 ≡ k → p ≡ (k, p.1)
this_row p k e = ap (λ z. (z, p.1)) e

-- A look-up in a filtered table with rising numbers finds the row if the filter keeps it.
pub find-sieved : {X : Type 0} (keep : ℕ × X → Bool) (k a : ℕ) (ps : Table X) → Rises a ps → find (filter keep ps) k ≡ sieved keep k (find ps k)
find-sieved keep k a [] r = refl
find-sieved keep k a (p ∷ ps) r =
    by_test (λ v. (p.0 == k) ≡ v → find (cond (keep p) (p ∷ filter keep ps) (filter keep ps)) k ≡ sieved keep k (cond v (Some p.1) (find ps k))) (p.0 == k)
    (λ s _.
    let q = this_row p k (eqb-true p.0 k s) in
    by_test (λ v. keep p ≡ v → find (cond v (p ∷ filter keep ps) (filter keep ps)) k ≡ cond (keep (k, p.1)) (Some p.1) None) (keep p)
    (λ y _. cond-true _ _ _ s ∙ sym (cond-true _ _ _ (sym (ap keep q) ∙ y)))
    (λ n _. find_below k (p.0 + 1) (filter keep ps) (Rises-filter keep (p.0 + 1) ps r.1) (let e : p.0 ≡ k = eqb-true p.0 k s in omega (arith, e)) ∙ sym (cond-false _ _ _ (sym (ap keep q) ∙ n)))
    refl)
    (λ n _. either (λ zs. find zs k ≡ sieved keep k (find ps k)) (keep p) (p ∷ filter keep ps) (filter keep ps)
    (λ _. cond-false _ _ _ n ∙ find-sieved keep k (p.0 + 1) ps r.1)
    (λ _. find-sieved keep k (p.0 + 1) ps r.1))
    refl

-- If a filter by numbers keeps a number, its value in the filtered table is the same.
pub at-sieved : {X : Type 0} (f : ℕ → Bool) (d : X) (k a : ℕ) (ps : Table X) → Rises a ps → f k ≡ true → at d (filter (λ row. f row.0) ps) k ≡ at d ps k
at-sieved {X = X} f d k a ps r e =
    at-find d (filter (λ row. f row.0) ps) k ∙ ap (λ z. unwrap_or z d) (find-sieved (λ row. f row.0) k a ps r ∙ go (find ps k)) ∙ sym (at-find d ps k)
  where
    go : (o : Option X) → sieved (λ row. f row.0) k o ≡ o
    go None = refl
    go (Some x) = cond-true _ _ _ e

-- Putting a row that the filter keeps commutes with the filter.
pub put-kept : {X : Type 0} (keep : ℕ × X → Bool) (k : ℕ) (x : X) (a : ℕ) (ps : Table X) → keep (k, x) ≡ true → Rises a ps → filter keep (put k x ps) ≡ put k x (filter keep ps)
put-kept keep k x a [] e r = cond-true _ _ _ e
put-kept keep k x a (p ∷ ps) e r =
    by_test (λ v. (p.0 == k) ≡ v → filter keep (cond v ((k, x) ∷ ps) (cond (nat_lt k p.0) ((k, x) ∷ p ∷ ps) (p ∷ put k x ps))) ≡ put k x (filter keep (p ∷ ps))) (p.0 == k)
    (λ s _. cond-true _ _ _ e
    ∙ sym (either (λ zs. put k x zs ≡ (k, x) ∷ filter keep ps) (keep p) (p ∷ filter keep ps) (filter keep ps)
    (λ _. cond-true _ _ _ s)
    (λ _. put-below k x (filter keep ps) (subst (λ z. Rises (z + 1) (filter keep ps)) (eqb-true p.0 k s) (Rises-filter keep (p.0 + 1) ps r.1)))))
    (λ n _. by_test (λ v. nat_lt k p.0 ≡ v → filter keep (cond v ((k, x) ∷ p ∷ ps) (p ∷ put k x ps)) ≡ put k x (filter keep (p ∷ ps))) (nat_lt k p.0)
    (λ l _. cond-true _ _ _ e
    ∙ sym (put-below k x (filter keep (p ∷ ps)) (Rises-filter keep (k + 1) (p ∷ ps) (let m : k < p.0 = ltb-true k p.0 l in (omega arith, r.1)))))
    (λ l _. either (λ zs. cond (keep p) (p ∷ filter keep (put k x ps)) (filter keep (put k x ps)) ≡ put k x zs) (keep p) (p ∷ filter keep ps) (filter keep ps)
    (λ y. cond-true _ _ _ y ∙ ap (λ zs. p ∷ zs) (put-kept keep k x (p.0 + 1) ps e r.1) ∙ sym (cond-false _ _ _ n ∙ cond-false _ _ _ l))
    (λ y. cond-false _ _ _ y ∙ put-kept keep k x (p.0 + 1) ps e r.1))
    refl)
    refl

-- Putting a row that the filter drops changes nothing, if the filter also drops the old row.
pub put-lost : {X : Type 0} (keep : ℕ × X → Bool) (k : ℕ) (x : X) (ps : Table X) → keep (k, x) ≡ false → ((y : X) → find ps k ≡ Some y → keep (k, y) ≡ false) → filter keep (put k x ps) ≡ filter keep ps
put-lost keep k x [] e h = cond-false _ _ _ e
put-lost keep k x (p ∷ ps) e h =
    by_test (λ v. (p.0 == k) ≡ v → filter keep (cond v ((k, x) ∷ ps) (cond (nat_lt k p.0) ((k, x) ∷ p ∷ ps) (p ∷ put k x ps))) ≡ filter keep (p ∷ ps)) (p.0 == k)
    (λ s _. cond-false _ _ _ e ∙ sym (cond-false _ _ _ (ap keep (this_row p k (eqb-true p.0 k s)) ∙ h p.1 (cond-true _ _ _ s))))
    (λ n _. either (λ zs. filter keep zs ≡ filter keep (p ∷ ps)) (nat_lt k p.0) ((k, x) ∷ p ∷ ps) (p ∷ put k x ps)
    (λ _. cond-false _ _ _ e)
    (λ _. ap (λ zs. cond (keep p) (p ∷ zs) zs) (put-lost keep k x ps e (λ y i. h y (cond-false _ _ _ n ∙ i)))))
    refl

-- Removing a row that the filter drops changes nothing.
pub filter-spare : {X : Type 0} (keep : ℕ × X → Bool) (t : ℕ) (ps : Table X) → ((y : X) → In (t, y) ps → keep (t, y) ≡ false) → filter keep (filter (λ row. not (row.0 == t)) ps) ≡ filter keep ps
filter-spare keep t [] h = refl
filter-spare keep t (p ∷ ps) h =
    by_test (λ v. (p.0 == t) ≡ v → filter keep (cond (not v) (p ∷ filter (λ row. not (row.0 == t)) ps) (filter (λ row. not (row.0 == t)) ps)) ≡ filter keep (p ∷ ps)) (p.0 == t)
    (λ s _.
    let q = this_row p t (eqb-true p.0 t s) in
    filter-spare keep t ps (λ y i. h y (Later i)) ∙ sym (cond-false _ _ _ (ap keep q ∙ h p.1 (In-head (sym q)))))
    (λ _ _. ap (λ zs. cond (keep p) (p ∷ zs) zs) (filter-spare keep t ps (λ y i. h y (Later i))))
    refl
