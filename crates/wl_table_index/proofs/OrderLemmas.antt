-- Tables with rising numbers. Two tables with the same lookups are equal, so rows stored in any
-- order have one reading.
use Rattle.std.proofs.Common.{◌≡◌, ℕ, true, false, ◌&&◌, cond, eqb, List, [], ◌∷◌, ◌++◌, Some, None, refl, sym, ap, ◌∙◌, suc, length, Result, Ok, Err, arith}
use Rattle.std.specs.Prelude.{nat_lt, nat_eq}
use Rattle.std.proofs.lemmas.Bool.Decides.{nat_tests}
use Rattle.std.specs.Map.{lookup, keys_of}
use Rattle.std.specs.List.{IsDistinct, AllByRecursion}
use Rattle.std.specs.Result.{OnOk, IsOk}
use Rattle.wl_draft.specs.Tables.{Table, put, find}
use Rattle.wl_draft.proofs.TableLemmas.{find-put}
use Rattle.wl_table_index.specs.OrderNumbers.{ordered, without_order, is_below, is_above, is_rising}

-- Lookups

find-ordered_step : {X : Type 0} (p : ℕ × X) (ps : List (ℕ × X)) (k : ℕ) → find (put p.0 p.1 (ordered ps)) k ≡ cond (eqb p.0 k) (Some p.1) (find (ordered ps) k) → find (ordered ps) k ≡ lookup (nat_eq k) ps → find (ordered (p ∷ ps)) k ≡ lookup (nat_eq k) (p ∷ ps)
find-ordered_step p ps k e below = grind (arith, nat_tests)

pub find-ordered : {X : Type 0} (es : List (ℕ × X)) (k : ℕ) → find (ordered es) k ≡ lookup (nat_eq k) es
find-ordered [] k = refl
find-ordered (p ∷ ps) k = find-ordered_step p ps k (find-put p.0 p.1 (ordered ps) k) (find-ordered ps k)

-- Rising numbers

above-put_step : {X : Type 0} (j k : ℕ) (x : X) (p : ℕ × X) (ps : Table X) → is_above j (put k x ps) ≡ (nat_lt j k && is_above j ps) → is_above j (put k x (p ∷ ps)) ≡ (nat_lt j k && is_above j (p ∷ ps))
above-put_step j k x p ps below = grind (arith, nat_tests)

above-put : {X : Type 0} (j k : ℕ) (x : X) (ps : Table X) → is_above j (put k x ps) ≡ (nat_lt j k && is_above j ps)
above-put j k x [] = refl
above-put j k x (p ∷ ps) = above-put_step j k x p ps (above-put j k x ps)

above-less_step : {X : Type 0} (j k : ℕ) (p : ℕ × X) (ps : Table X) → nat_lt j k ≡ true → (is_above k ps ≡ true → is_above j ps ≡ true) → is_above k (p ∷ ps) ≡ true → is_above j (p ∷ ps) ≡ true
above-less_step j k p ps less below a = grind (arith, nat_tests)

pub above-less : {X : Type 0} (j k : ℕ) (ps : Table X) → nat_lt j k ≡ true → is_above k ps ≡ true → is_above j ps ≡ true
above-less j k [] less a = refl
above-less j k (p ∷ ps) less a = above-less_step j k p ps less (above-less j k ps less) a

rising-put_step : {X : Type 0} (k : ℕ) (x : X) (p : ℕ × X) (ps : Table X) → (is_rising ps ≡ true → is_rising (put k x ps) ≡ true) → is_above p.0 (put k x ps) ≡ (nat_lt p.0 k && is_above p.0 ps) → (nat_lt k p.0 ≡ true → is_above p.0 ps ≡ true → is_above k ps ≡ true) → is_rising (p ∷ ps) ≡ true → is_rising (put k x (p ∷ ps)) ≡ true
rising-put_step k x p ps below above less r = grind (arith, nat_tests)

rising-put : {X : Type 0} (k : ℕ) (x : X) (ps : Table X) → is_rising ps ≡ true → is_rising (put k x ps) ≡ true
rising-put k x [] r = refl
rising-put k x (p ∷ ps) r = rising-put_step k x p ps (rising-put k x ps) (above-put p.0 k x ps) (above-less k p.0 ps) r

pub rising-ordered : {X : Type 0} (es : List (ℕ × X)) → is_rising (ordered es) ≡ true
rising-ordered [] = refl
rising-ordered (p ∷ ps) = rising-put p.0 p.1 (ordered ps) (rising-ordered ps)

find-above_step : {X : Type 0} (k : ℕ) (p : ℕ × X) (ps : Table X) → (is_above k ps ≡ true → find ps k ≡ None) → is_above k (p ∷ ps) ≡ true → find (p ∷ ps) k ≡ None
find-above_step k p ps below a = grind (arith, nat_tests)

pub find-above : {X : Type 0} (k : ℕ) (ps : Table X) → is_above k ps ≡ true → find ps k ≡ None
find-above k [] a = refl
find-above k (p ∷ ps) a = find-above_step k p ps (find-above k ps) a

-- A table is determined by its lookups

head_order : {X : Type 0} (p q : ℕ × X) (ps qs : Table X) → is_rising (q ∷ qs) ≡ true → (nat_lt p.0 q.0 ≡ true → is_above q.0 qs ≡ true → is_above p.0 qs ≡ true) → (is_above p.0 qs ≡ true → find qs p.0 ≡ None) → find (p ∷ ps) p.0 ≡ find (q ∷ qs) p.0 → nat_lt p.0 q.0 ≡ false
head_order p q ps qs r less none e = grind (arith, nat_tests)

heads_equal : {X : Type 0} (p q : ℕ × X) (ps qs : Table X) → nat_lt p.0 q.0 ≡ false → nat_lt q.0 p.0 ≡ false → find (p ∷ ps) p.0 ≡ find (q ∷ qs) p.0 → (p.0 ≡ q.0) × (p.1 ≡ q.1)
heads_equal p q ps qs a b e = (grind (arith, nat_tests), grind (arith, nat_tests))

tails_find : {X : Type 0} (p q : ℕ × X) (ps qs : Table X) (k : ℕ) → p.0 ≡ q.0 → (is_above p.0 ps ≡ true → find ps p.0 ≡ None) → (is_above q.0 qs ≡ true → find qs q.0 ≡ None) → is_rising (p ∷ ps) ≡ true → is_rising (q ∷ qs) ≡ true → find (p ∷ ps) k ≡ find (q ∷ qs) k → find ps k ≡ find qs k
tails_find p q ps qs k same none none' r r' e = grind (arith, nat_tests)

rising_tail : {X : Type 0} (p : ℕ × X) (ps : Table X) → is_rising (p ∷ ps) ≡ true → is_rising ps ≡ true
rising_tail p ps r = grind (arith, nat_tests)

no_entry : {X : Type 0} (p : ℕ × X) (ps : Table X) → None ≡ find (p ∷ ps) p.0 → ⊥
no_entry p ps e = grind (arith, nat_tests)

pub table_ext : {X : Type 0} (ps qs : Table X) → is_rising ps ≡ true → is_rising qs ≡ true → ((k : ℕ) → find ps k ≡ find qs k) → ps ≡ qs
table_ext [] [] r r' f = refl
table_ext [] (q ∷ qs) r r' f = absurd (no_entry q qs (f q.0))
table_ext (p ∷ ps) [] r r' f = absurd (no_entry p ps (sym (f p.0)))
table_ext (p ∷ ps) (q ∷ qs) r r' f =
    let a : nat_lt p.0 q.0 ≡ false = head_order p q ps qs r' (above-less p.0 q.0 qs) (find-above p.0 qs) (f p.0) in
    let b : nat_lt q.0 p.0 ≡ false = head_order q p qs ps r (above-less q.0 p.0 ps) (find-above q.0 ps) (sym (f q.0)) in
    let h : (p.0 ≡ q.0) × (p.1 ≡ q.1) = heads_equal p q ps qs a b (f p.0) in
    let t : ps ≡ qs = table_ext ps qs (rising_tail p ps r) (rising_tail q qs r') (λ k. tails_find p q ps qs k h.0 (find-above p.0 ps) (find-above q.0 qs) r r' (f k)) in
    let e : p ≡ q = ap (λ (a : ℕ). (a, p.1)) h.0 ∙ ap (λ b. (q.0, b)) h.1 in
    cc

-- Appending a row

rising-last_step : {X : Type 0} (k : ℕ) (x : X) (p : ℕ × X) (ps : Table X) → (is_rising ps ≡ true → is_below ps k ≡ true → is_rising (ps ++ (k, x) ∷ []) ≡ true) → is_above p.0 (ps ++ (k, x) ∷ []) ≡ (is_above p.0 ps && nat_lt p.0 k) → is_rising (p ∷ ps) ≡ true → is_below (p ∷ ps) k ≡ true → is_rising ((p ∷ ps) ++ (k, x) ∷ []) ≡ true
rising-last_step k x p ps below above r b = grind (arith, nat_tests)

above-last_step : {X : Type 0} (j k : ℕ) (x : X) (p : ℕ × X) (ps : Table X) → is_above j (ps ++ (k, x) ∷ []) ≡ (is_above j ps && nat_lt j k) → is_above j ((p ∷ ps) ++ (k, x) ∷ []) ≡ (is_above j (p ∷ ps) && nat_lt j k)
above-last_step j k x p ps below = grind (arith, nat_tests)

above-last : {X : Type 0} (j k : ℕ) (x : X) (ps : Table X) → is_above j (ps ++ (k, x) ∷ []) ≡ (is_above j ps && nat_lt j k)
above-last j k x [] = grind (arith, nat_tests)
above-last j k x (p ∷ ps) = above-last_step j k x p ps (above-last j k x ps)

pub rising-last : {X : Type 0} (k : ℕ) (x : X) (ps : Table X) → is_rising ps ≡ true → is_below ps k ≡ true → is_rising (ps ++ (k, x) ∷ []) ≡ true
rising-last k x [] r b = refl
rising-last k x (p ∷ ps) r b = rising-last_step k x p ps (rising-last k x ps) (above-last p.0 k x ps) r b

find-last_step : {X : Type 0} (k : ℕ) (x : X) (p : ℕ × X) (ps : Table X) (j : ℕ) → (is_below ps k ≡ true → find (ps ++ (k, x) ∷ []) j ≡ cond (nat_eq k j) (Some x) (find ps j)) → is_below (p ∷ ps) k ≡ true → find ((p ∷ ps) ++ (k, x) ∷ []) j ≡ cond (nat_eq k j) (Some x) (find (p ∷ ps) j)
find-last_step k x p ps j below b = grind (arith, nat_tests)

pub find-last : {X : Type 0} (k : ℕ) (x : X) (ps : Table X) (j : ℕ) → is_below ps k ≡ true → find (ps ++ (k, x) ∷ []) j ≡ cond (nat_eq k j) (Some x) (find ps j)
find-last k x [] j b = grind (arith, nat_tests)
find-last k x (p ∷ ps) j b = find-last_step k x p ps j (find-last k x ps j) b

-- Inserting a number above all others appends its row.
pub ordered-push : {X : Type 0} (es fs : List (ℕ × X)) (k : ℕ) (x : X) → is_below (ordered es) k ≡ true → ((q : ℕ) → lookup (nat_eq q) fs ≡ cond (nat_eq k q) (Some x) (lookup (nat_eq q) es)) → ordered fs ≡ ordered es ++ (k, x) ∷ []
ordered-push es fs k x b f =
    table_ext (ordered fs) (ordered es ++ (k, x) ∷ []) (rising-ordered fs) (rising-last k x (ordered es) (rising-ordered es) b)
    (λ q. find-ordered fs q ∙ f q ∙ ap (λ o. cond (nat_eq k q) (Some x) o) (sym (find-ordered es q)) ∙ sym (find-last k x (ordered es) q b))

-- Removing a row

above-without_step : {X : Type 0} (j k : ℕ) (p : ℕ × X) (ps : Table X) → (is_above j ps ≡ true → is_above j (without_order k ps) ≡ true) → is_above j (p ∷ ps) ≡ true → is_above j (without_order k (p ∷ ps)) ≡ true
above-without_step j k p ps below a = grind (arith, nat_tests)

above-without : {X : Type 0} (j k : ℕ) (ps : Table X) → is_above j ps ≡ true → is_above j (without_order k ps) ≡ true
above-without j k [] a = refl
above-without j k (p ∷ ps) a = above-without_step j k p ps (above-without j k ps) a

rising-without_step : {X : Type 0} (k : ℕ) (p : ℕ × X) (ps : Table X) → (is_rising ps ≡ true → is_rising (without_order k ps) ≡ true) → (is_above p.0 ps ≡ true → is_above p.0 (without_order k ps) ≡ true) → is_rising (p ∷ ps) ≡ true → is_rising (without_order k (p ∷ ps)) ≡ true
rising-without_step k p ps below above r = grind (arith, nat_tests)

pub rising-without : {X : Type 0} (k : ℕ) (ps : Table X) → is_rising ps ≡ true → is_rising (without_order k ps) ≡ true
rising-without k [] r = refl
rising-without k (p ∷ ps) r = rising-without_step k p ps (rising-without k ps) (above-without p.0 k ps) r

find-without_step : {X : Type 0} (k : ℕ) (p : ℕ × X) (ps : Table X) (j : ℕ) → find (without_order k ps) j ≡ cond (nat_eq k j) None (find ps j) → find (without_order k (p ∷ ps)) j ≡ cond (nat_eq k j) None (find (p ∷ ps) j)
find-without_step k p ps j below = grind (arith, nat_tests)

pub find-without : {X : Type 0} (k : ℕ) (ps : Table X) (j : ℕ) → find (without_order k ps) j ≡ cond (nat_eq k j) None (find ps j)
find-without k [] j = grind (arith, nat_tests)
find-without k (p ∷ ps) j = find-without_step k p ps j (find-without k ps j)

-- Removing a stored number removes its row.
pub ordered-remove : {X : Type 0} (es fs : List (ℕ × X)) (k : ℕ) → ((q : ℕ) → lookup (nat_eq q) fs ≡ cond (nat_eq k q) None (lookup (nat_eq q) es)) → ordered fs ≡ without_order k (ordered es)
ordered-remove es fs k f =
    table_ext (ordered fs) (without_order k (ordered es)) (rising-ordered fs) (rising-without k (ordered es) (rising-ordered es))
    (λ q. find-ordered fs q ∙ f q ∙ ap (λ o. cond (nat_eq k q) None o) (sym (find-ordered es q)) ∙ sym (find-without k (ordered es) q))

-- Number of rows

length-put_step : {X : Type 0} (k : ℕ) (x : X) (p : ℕ × X) (ps : Table X) → (find ps k ≡ None → length (put k x ps) ≡ suc (length ps)) → find (p ∷ ps) k ≡ None → length (put k x (p ∷ ps)) ≡ suc (length (p ∷ ps))
length-put_step k x p ps below n = grind (arith, nat_tests)

length-put : {X : Type 0} (k : ℕ) (x : X) (ps : Table X) → find ps k ≡ None → length (put k x ps) ≡ suc (length ps)
length-put k x [] n = refl
length-put k x (p ∷ ps) n = length-put_step k x p ps (length-put k x ps) n

lookup-absent_step : {X : Type 0} (k : ℕ) (p : ℕ × X) (ps : List (ℕ × X)) → nat_eq k p.0 ≡ false → lookup (nat_eq k) ps ≡ None → lookup (nat_eq k) (p ∷ ps) ≡ None
lookup-absent_step k p ps e below = grind (arith, nat_tests)

pub lookup-absent : {X : Type 0} (k : ℕ) (ps : List (ℕ × X)) → AllByRecursion (λ y. nat_eq k y ≡ false) (keys_of ps) → lookup (nat_eq k) ps ≡ None
lookup-absent k [] a = refl
lookup-absent k (p ∷ ps) a = lookup-absent_step k p ps a.0 (lookup-absent k ps a.1)

-- If each number is stored once, the table has as many rows as are stored.
pub length-ordered : {X : Type 0} (es : List (ℕ × X)) → IsDistinct nat_eq (keys_of es) → length (ordered es) ≡ length es
unfolding IsDistinct
length-ordered [] d = refl
length-ordered (p ∷ ps) d =
    length-put p.0 p.1 (ordered ps) (find-ordered ps p.0 ∙ lookup-absent p.0 ps d.0) ∙ ap suc (length-ordered ps d.1)

-- Known results

pub on_ok : {T E : Type 0} {P : Type 0} (r : Result T E) → OnOk r P → IsOk r → P
on_ok (Ok x) p h = p
on_ok (Err e) p h = cc
