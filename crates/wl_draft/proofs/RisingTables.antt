-- Tables with rising numbers: the effect of a put, a removal and a filter, and the rows that a
-- lookup finds.
use Rattle.std.proofs.Common.{◌≡◌, ◌≢◌, ◌⊎◌, inl, inr, ⊎_elim, ℕ, ◌+◌, ◌<◌, ◌≤◌, Bool, true, false, not, cond, eqb, ltb, [], ◌∷◌, map, filter, Some, None, refl, sym, ap, ◌∙◌, subst, arith}
use Rattle.std.specs.Prelude.{◌==◌, nat_lt}
use Rattle.std.proofs.lemmas.Bool.{ne_eqb, eq-eqb, eqb-true, eqb-false, ltb-true, ltb-false, lt-ltb, cond-true, cond-false}
use Rattle.std.proofs.lemmas.Bool.Decides.{nat_tests}
use Rattle.std.specs.Ordering.{nat_cmp}
use Rattle.std.specs.BTreeMap.{is_at}
use Rattle.std.specs.Map.{lookup, remove_entry, set_value}
use Rattle.std.proofs.lemmas.Map.Steps.{set_value_same}
use Rattle.wl_draft.specs.Tables.{Table, find, put, Rises, without_row}
use Rattle.wl_draft.specs.Membership.{In, Here, Later}
use Rattle.wl_draft.proofs.Membership.{either, In-nil, In-cons_cases, In-head}

-- Rising numbers

pub Rises-from : {X : Type 0} (least more : ℕ) (rows : Table X) → least ≤ more → Rises more rows → Rises least rows
Rises-from least more [] le r = tt
Rises-from least more (p ∷ ps) le r = (omega (arith, r.0), r.1)

Rises-put_as : {X : Type 0} (least k : ℕ) (x : X) (p : ℕ × X) (ps : Table X) (b c : Bool) → eqb p.0 k ≡ b → ltb k p.0 ≡ c → least ≤ k → Rises least (p ∷ ps) → (p.0 + 1 ≤ k → Rises (p.0 + 1) (put k x ps)) → Rises least (cond b ((k, x) ∷ ps) (cond c ((k, x) ∷ p ∷ ps) (p ∷ put k x ps)))
Rises-put_as least k x p ps true c e f le r below = (le, subst (λ i. Rises (i + 1) ps) (eqb-true p.0 k e) r.1)
Rises-put_as least k x p ps false true e f le r below = (le, (omega (arith, ltb-true k p.0 f), r.1))
Rises-put_as least k x p ps false false e f le r below =
    let other : p.0 ≡ k → ⊥ = eqb-false p.0 k e in
    (r.0, below (omega (arith, other, ltb-false k p.0 f)))

pub Rises-put : {X : Type 0} (least k : ℕ) (x : X) (ps : Table X) → least ≤ k → Rises least ps → Rises least (put k x ps)
Rises-put least k x [] le r = (le, tt)
Rises-put least k x (p ∷ ps) le r = Rises-put_as least k x p ps (eqb p.0 k) (ltb k p.0) refl refl le r (λ l. Rises-put (p.0 + 1) k x ps l r.1)

Rises-filter_as : {X : Type 0} (least : ℕ) (p : ℕ × X) (rest : Table X) (b : Bool) → least ≤ p.0 → Rises (p.0 + 1) rest → Rises least (cond b (p ∷ rest) rest)
Rises-filter_as least p rest true le r = (le, r)
Rises-filter_as least p rest false le r = Rises-from least (p.0 + 1) rest (omega arith) r

pub Rises-filter : {X : Type 0} (test : ℕ × X → Bool) (least : ℕ) (ps : Table X) → Rises least ps → Rises least (filter test ps)
Rises-filter test least [] r = tt
Rises-filter test least (p ∷ ps) r = Rises-filter_as least p (filter test ps) (test p) r.0 (Rises-filter test (p.0 + 1) ps r.1)

pub Rises-map : {X Y : Type 0} (f : ℕ × X → Y) (least : ℕ) (ps : Table X) → Rises least ps → Rises least (map (λ p. (p.0, f p)) ps)
Rises-map f least [] r = tt
Rises-map f least (p ∷ ps) r = (r.0, Rises-map f (p.0 + 1) ps r.1)

pub Rises-without : {X : Type 0} (k least : ℕ) (ps : Table X) → Rises least ps → Rises least (without_row k ps)
Rises-without k = Rises-filter (λ p. not (eqb p.0 k))

-- A number below the first row has no row.
pub find_below : {X : Type 0} (k least : ℕ) (ps : Table X) → Rises least ps → k < least → find ps k ≡ None
find_below k least [] r h = refl
find_below k least (p ∷ ps) r h =
    let other : eqb p.0 k ≡ false = ne_eqb p.0 k (λ e. omega (arith, r.0)) in
    rw other (find_below k (p.0 + 1) ps r.1 (omega (arith, r.0)))

pub put-below : {X : Type 0} (k : ℕ) (x : X) (ps : Table X) → Rises (k + 1) ps → put k x ps ≡ (k, x) ∷ ps
put-below k x [] r = refl
put-below k x (p ∷ ps) r =
    let l : k + 1 ≤ p.0 = r.0 in
    cond-false _ _ _ (ne_eqb p.0 k (λ e. omega arith)) ∙ cond-true _ _ _ (lt-ltb k p.0 (omega arith))

-- Rows that a lookup finds

pub put-cases : {X : Type 0} {q : ℕ × X} (k : ℕ) (x : X) (ps : Table X) → In q (put k x ps) → (q ≡ (k, x)) ⊎ In q ps
put-cases k x [] i = In-cons_cases i
put-cases {q = q} k x (p ∷ ps) i =
    either (λ zs. In q zs → (q ≡ (k, x)) ⊎ In q (p ∷ ps)) (p.0 == k) ((k, x) ∷ ps) (cond (nat_lt k p.0) ((k, x) ∷ p ∷ ps) (p ∷ put k x ps))
    (λ _ j. ⊎_elim (λ e. inl e) (λ l. inr (Later l)) (In-cons_cases j))
    (λ _. either (λ zs. In q zs → (q ≡ (k, x)) ⊎ In q (p ∷ ps)) (nat_lt k p.0) ((k, x) ∷ p ∷ ps) (p ∷ put k x ps)
    (λ _ j. In-cons_cases j)
    (λ _ j. ⊎_elim (λ e. inr (subst (λ z. In z (p ∷ ps)) (sym e) Here)) (λ l. ⊎_elim (λ e. inl e) (λ m. inr (Later m)) (put-cases k x ps l)) (In-cons_cases j)))
    i

pub find-In : {X : Type 0} (ps : Table X) (k : ℕ) (x : X) → find ps k ≡ Some x → In (k, x) ps
find-In [] k x = λ e. cc
find-In (p ∷ ps) k x =
    either (λ z. z ≡ Some x → In (k, x) (p ∷ ps)) (p.0 == k) (Some p.1) (find ps k)
    (λ t e. let same : p.1 ≡ x = cc in In-head (sym (ap (λ z. (z, p.1)) (eqb-true p.0 k t) ∙ ap (λ z. (k, z)) same)))
    (λ _ e. Later (find-In ps k x e))

pub In-below : {X : Type 0} (m k : ℕ) (x : X) (ps : Table X) → Rises m ps → In (k, x) ps → m ≤ k
In-below m k x [] r i = absurd (In-nil i)
In-below m k x (p ∷ ps) r i = ⊎_elim
    (λ e. let same : k ≡ p.0 = ap (λ z. z.0) e in let o : m ≤ p.0 = r.0 in omega arith)
    (λ j. let o : m ≤ p.0 = r.0 in let q : p.0 + 1 ≤ k = In-below (p.0 + 1) k x ps r.1 j in omega arith)
    (In-cons_cases i)

-- A lookup finds each row of the table.
pub In-find : {X : Type 0} (m k : ℕ) (x : X) (ps : Table X) → Rises m ps → In (k, x) ps → find ps k ≡ Some x
In-find m k x [] r i = absurd (In-nil i)
In-find m k x (p ∷ ps) r i = ⊎_elim
    (λ e. cond-true _ _ _ (eq-eqb p.0 k (sym (ap (λ z. z.0) e))) ∙ sym (ap (λ z. Some z.1) e))
    (λ j. let q : p.0 + 1 ≤ k = In-below (p.0 + 1) k x ps r.1 j in
    let n : p.0 ≢ k = λ e. omega arith in
    cond-false _ _ _ (ne_eqb p.0 k n) ∙ In-find (p.0 + 1) k x ps r.1 j)
    (In-cons_cases i)

-- Removing a row

without_none_as : {X : Type 0} (k : ℕ) (p : ℕ × X) (ps : Table X) → (find ps k ≡ None → without_row k ps ≡ ps) → find (p ∷ ps) k ≡ None → without_row k (p ∷ ps) ≡ p ∷ ps
without_none_as k p ps below none = grind (arith, nat_tests)

-- Removing a number without a row changes nothing.
pub without_none : {X : Type 0} (k : ℕ) (ps : Table X) → find ps k ≡ None → without_row k ps ≡ ps
without_none k [] none = refl
without_none k (p ∷ ps) none = without_none_as k p ps (without_none k ps) none

removed_as : {X : Type 0} (k : ℕ) (p : ℕ × X) (ps : Table X) → (p.0 ≡ k → without_row k ps ≡ ps) → remove_entry (is_at (nat_cmp k)) ps ≡ without_row k ps → remove_entry (is_at (nat_cmp k)) (p ∷ ps) ≡ without_row k (p ∷ ps)
removed_as k p ps here below = grind (arith, nat_tests)

-- A `remove` of the map leaves the rows of the other numbers.
pub remove_entry-without : {X : Type 0} (k least : ℕ) (ps : Table X) → Rises least ps → remove_entry (is_at (nat_cmp k)) ps ≡ without_row k ps
remove_entry-without k least [] r = refl
remove_entry-without k least (p ∷ ps) r =
    removed_as k p ps (λ e. without_none k ps (find_below k (p.0 + 1) ps r.1 (omega arith))) (remove_entry-without k (p.0 + 1) ps r.1)

either_same : {A : Type 0} (o : A) (b : Bool) → o ≡ cond b o o
either_same o true = refl
either_same o false = refl

find-without_as : {X : Type 0} (k j : ℕ) (p : ℕ × X) (ps : Table X) → find (without_row k ps) j ≡ cond (eqb k j) None (find ps j) → find (without_row k (p ∷ ps)) j ≡ cond (eqb k j) None (find (p ∷ ps) j)
find-without_as k j p ps below = grind (arith, nat_tests)

pub find-without : {X : Type 0} (k j : ℕ) (ps : Table X) → find (without_row k ps) j ≡ cond (eqb k j) None (find ps j)
find-without k j [] = either_same None (eqb k j)
find-without k j (p ∷ ps) = find-without_as k j p ps (find-without k j ps)

-- Overwriting a row

pub written_same : {X : Type 0} (k : ℕ) (w x : X) (ps qs : Table X) → Some x ≡ lookup (is_at (nat_cmp k)) ps → qs ≡ set_value (is_at (nat_cmp k)) ps w → w ≡ x → qs ≡ ps
written_same k w x ps qs e h same = h ∙ set_value_same (is_at (nat_cmp k)) ps w (sym e ∙ ap Some (sym same))
