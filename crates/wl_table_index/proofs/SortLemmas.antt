-- Rows of a table, read in the order of its sorted numbers.
use Rattle.std.proofs.Common.{◌≡◌, ℕ, ◌+◌, ◌<◌, suc, zero, Bool, true, false, ◌&&◌, cond, List, [], ◌∷◌, ◌++◌, Some, None, length, take, get_or, refl, sym, ap, ◌∙◌, arith}
use Rattle.std.specs.Prelude.{◌==◌, nat_lt, nat_eq, is_some, IsPermutation}
use Rattle.std.specs.Ordering.{nat_cmp}
use Rattle.std.specs.declared.cmp.Ordering.TheVariants.{Less}
use Rattle.std.specs.Map.{lookup, keys_of}
use Rattle.std.specs.List.{IsDistinct, AllByRecursion}
use Rattle.std.specs.List.Sorted.{IsNonDecreasing, IsStrictlySortedBy}
use Rattle.std.proofs.lemmas.Bool.Decides.{nat_tests}
use Rattle.std.proofs.lemmas.Map.Keys.{IsDistinct-IsPermutation, IsStrictlyIncreasing-from_distinct, sorted_from_strictly_increasing}
use Rattle.wl_draft.specs.Tables.{Table, find}
use Rattle.wl_draft.specs.declared.row.Row.{Row}
use Rattle.wl_table_index.specs.OrderNumbers.{ordered, orders_in, values_in, is_above, is_rising}
use Rattle.wl_table_index.specs.Nexts.{is_among}
use Rattle.wl_table_index.proofs.OrderLemmas.{table_ext, find-ordered, find-above, rising-ordered}
use Rattle.wl_table_index.proofs.NextLemmas.{rising-rest}
use Rattle.wl_table_index.proofs.CandidateLemmas.{among-permutation}

find-later_step : (p : ℕ × Row) (ps : Table Row) (order : ℕ) (r : Row) (b : Bool) → (p.0 == order) ≡ b → is_above p.0 ps ≡ true → find ps order ≡ Some r → find (p ∷ ps) order ≡ Some r
find-later_step p ps order r true e a f =
    let same : p.0 ≡ order = grind (arith, nat_tests) in
    absurd (none-found r (sym (find-above p.0 ps a) ∙ ap (λ k. find ps k) same ∙ f))
  where
    none-found : (r : Row) → None ≡ Some r → ⊥
    none-found r e = cc
find-later_step p ps order r false e a f = rw e f

find-later : (p : ℕ × Row) (ps : Table Row) (order : ℕ) (r : Row) → is_rising (p ∷ ps) ≡ true → find ps order ≡ Some r → find (p ∷ ps) order ≡ Some r
find-later p ps order r rise f =
    let above : is_above p.0 ps ≡ true = grind (arith, nat_tests) in
    find-later_step p ps order r (p.0 == order) refl above f

-- Numbers as a table

abbrev numbered : List ℕ → Table ℕ
numbered [] = []
numbered (k ∷ ks) = (k, 0) ∷ numbered ks

numbers-back : (ks : List ℕ) → orders_in (numbered ks) ≡ ks
numbers-back [] = refl
numbers-back (k ∷ ks) = ap (λ js. k ∷ js) (numbers-back ks)

find-numbered_step : (j k : ℕ) (ks : List ℕ) → find (numbered ks) j ≡ cond (is_among j ks) (Some 0) None → find (numbered (k ∷ ks)) j ≡ cond (is_among j (k ∷ ks)) (Some 0) None
find-numbered_step j k ks below = grind (arith, nat_tests)

find-numbered : (j : ℕ) (ks : List ℕ) → find (numbered ks) j ≡ cond (is_among j ks) (Some 0) None
find-numbered j [] = refl
find-numbered j (k ∷ ks) = find-numbered_step j k ks (find-numbered j ks)

above-sorted_step : (k j : ℕ) (rest : Bool) → nat_cmp k j ≡ Less → rest ≡ true → (nat_lt k j && rest) ≡ true
above-sorted_step k j rest e r = grind (arith, nat_tests)

above-sorted : (k : ℕ) (ks : List ℕ) → AllByRecursion (λ j. nat_cmp k j ≡ Less) ks → is_above k (numbered ks) ≡ true
above-sorted k [] a = refl
above-sorted k (j ∷ js) a = above-sorted_step k j (is_above k (numbered js)) a.0 (above-sorted k js a.1)

both-true : (a b : Bool) → a ≡ true → b ≡ true → (a && b) ≡ true
both-true a b e f = rw (e, f) refl

rising-sorted : (ks : List ℕ) → IsStrictlySortedBy nat_cmp ks → is_rising (numbered ks) ≡ true
unfolding IsStrictlySortedBy
rising-sorted [] s = refl
rising-sorted (k ∷ ks) s =
    both-true (is_above k (numbered ks)) (is_rising (numbered ks)) (above-sorted k ks s.0) (rising-sorted ks s.1)

-- Numbers of a table

among-orders_step : {X : Type 0} (j : ℕ) (p : ℕ × X) (ps : Table X) → is_among j (orders_in ps) ≡ is_some (find ps j) → is_among j (orders_in (p ∷ ps)) ≡ is_some (find (p ∷ ps) j)
among-orders_step j p ps below = grind (arith, nat_tests)

among-orders : {X : Type 0} (j : ℕ) (ps : Table X) → is_among j (orders_in ps) ≡ is_some (find ps j)
among-orders j [] = refl
among-orders j (p ∷ ps) = among-orders_step j p ps (among-orders j ps)

among-keys_step : {X : Type 0} (j : ℕ) (p : ℕ × X) (ps : List (ℕ × X)) → is_among j (keys_of ps) ≡ is_some (lookup (nat_eq j) ps) → is_among j (keys_of (p ∷ ps)) ≡ is_some (lookup (nat_eq j) (p ∷ ps))
among-keys_step j p ps below = grind (arith, nat_tests)

among-keys : {X : Type 0} (j : ℕ) (es : List (ℕ × X)) → is_among j (keys_of es) ≡ is_some (lookup (nat_eq j) es)
among-keys j [] = refl
among-keys j (p ∷ ps) = among-keys_step j p ps (among-keys j ps)

above-orders : {X : Type 0} (k : ℕ) (ps : Table X) → is_above k (numbered (orders_in ps)) ≡ is_above k ps
above-orders k [] = refl
above-orders k (p ∷ ps) = ap (λ b. nat_lt k p.0 && b) (above-orders k ps)

rising-orders : {X : Type 0} (ps : Table X) → is_rising (numbered (orders_in ps)) ≡ is_rising ps
rising-orders [] = refl
rising-orders (p ∷ ps) =
    ap (λ b. b && is_rising (numbered (orders_in ps))) (above-orders p.0 ps) ∙ ap (λ b. is_above p.0 ps && b) (rising-orders ps)

eq-flips : (x y : ℕ) → nat_eq x y ≡ nat_eq y x
eq-flips x y = grind (arith, nat_tests)

-- The stored numbers, sorted, are those of the table in its order.
pub sorted-orders : {X : Type 0} (es : List (ℕ × X)) (ks : List ℕ) → IsDistinct nat_eq (keys_of es) → IsPermutation (keys_of es) ks → IsNonDecreasing ks → ks ≡ orders_in (ordered es)
sorted-orders es ks distinct perm up =
    let apart : IsDistinct nat_eq ks = IsDistinct-IsPermutation nat_eq eq-flips (keys_of es) ks perm distinct in
    let rise : is_rising (numbered ks) ≡ true = rising-sorted ks (sorted_from_strictly_increasing ks (IsStrictlyIncreasing-from_distinct ks up apart)) in
    let rise' : is_rising (numbered (orders_in (ordered es))) ≡ true = rising-orders (ordered es) ∙ rising-ordered es in
    let same : numbered ks ≡ numbered (orders_in (ordered es)) = table_ext (numbered ks) (numbered (orders_in (ordered es))) rise rise' (λ j.
    find-numbered j ks ∙ ap (λ (b : Bool). cond b (Some 0) None) (sym (among-permutation j (keys_of es) ks perm) ∙ among-keys j es ∙ ap (λ o. is_some o) (sym (find-ordered es j)) ∙ sym (among-orders j (ordered es))) ∙ sym (find-numbered j (orders_in (ordered es)))) in
    sym (numbers-back ks) ∙ ap (λ ps. orders_in ps) same ∙ numbers-back (orders_in (ordered es))

-- One row after another

-- The row whose number is at an index, and the rows up to it.
pub record IsAt (rows : Table Row) (i : ℕ) : Type 0 where
  pub row : Row
  pub found : find rows (get_or (orders_in rows) i 0) ≡ Some row
  pub more : values_in (take (i + 1) rows) ≡ values_in (take i rows) ++ row ∷ []

no_index : (i : ℕ) → i < 0 → ⊥
no_index i l = omega (arith, l)

found-here : (p : ℕ × Row) (ps : Table Row) → find (p ∷ ps) p.0 ≡ Some p.1
found-here p ps = grind (arith, nat_tests)

pub at-index : (rows : Table Row) (i : ℕ) → is_rising rows ≡ true → i < length (orders_in rows) → IsAt rows i
at-index [] i r l = absurd (no_index i l)
at-index (p ∷ ps) zero r l = record { row = p.1; found = found-here p ps; more = refl }
at-index (p ∷ ps) (suc i) r l =
    let below = at-index ps i (rising-rest p ps r) (omega (arith, l)) in
    let n : suc i + 1 ≡ suc (i + 1) = omega arith in
    record {
      row = below.row;
      found = find-later p ps (get_or (orders_in ps) i 0) below.row r below.found;
      more = ap (λ k. values_in (take k (p ∷ ps))) n ∙ ap (λ vs. p.1 ∷ vs) below.more;
    }
