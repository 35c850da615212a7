-- Effect of removing a row by its number on each view of a list.
use Rattle.std.proofs.Common.{◌≡◌, ℕ, ◌+◌, ◌<◌, suc, Bool, true, false, cond, List, [], ◌∷◌, Some, None, length, refl, ap, ◌∙◌, arith}
use Rattle.std.specs.Prelude.{filter, count_by}
use Rattle.std.proofs.lemmas.Bool.Decides.{nat_tests}
use Rattle.std.proofs.lemmas.List.Sums.{sum_by-cons}
use Rattle.wl_draft.specs.Tables.{Table, find}
use Rattle.wl_table_index.specs.OrderNumbers.{without_order, without_number, orders_in, is_below, is_above, is_rising, are_above, do_rise}

pub count-one : {X : Type 0} (t : X → Bool) (x : X) (xs : List X) → count_by t (x ∷ xs) ≡ cond (t x) 1 0 + count_by t xs
count-one t x xs = sum_by-cons (λ y. cond (t y) 1 0) x xs

-- Numbers

numbers-above_step : (k j : ℕ) (js : List ℕ) → (are_above k js ≡ true → without_number k js ≡ js) → are_above k (j ∷ js) ≡ true → without_number k (j ∷ js) ≡ j ∷ js
numbers-above_step k j js below a = grind (arith, nat_tests)

pub numbers-above : (k : ℕ) (js : List ℕ) → are_above k js ≡ true → without_number k js ≡ js
numbers-above k [] a = refl
numbers-above k (j ∷ js) a = numbers-above_step k j js (numbers-above k js) a

pub no_index : (i : ℕ) → i < 0 → ⊥
no_index i l = omega (arith, l)

-- A number without a row

without-above_step : {X : Type 0} (k : ℕ) (p : ℕ × X) (ps : Table X) → (is_above k ps ≡ true → without_order k ps ≡ ps) → is_above k (p ∷ ps) ≡ true → without_order k (p ∷ ps) ≡ p ∷ ps
without-above_step k p ps below a = grind (arith, nat_tests)

pub without-above : {X : Type 0} (k : ℕ) (ps : Table X) → is_above k ps ≡ true → without_order k ps ≡ ps
without-above k [] a = refl
without-above k (p ∷ ps) a = without-above_step k p ps (without-above k ps) a

without-absent_step : {X : Type 0} (k : ℕ) (p : ℕ × X) (ps : Table X) → (find ps k ≡ None → without_order k ps ≡ ps) → find (p ∷ ps) k ≡ None → without_order k (p ∷ ps) ≡ p ∷ ps
without-absent_step k p ps below n = grind (arith, nat_tests)

pub without-absent : {X : Type 0} (k : ℕ) (ps : Table X) → find ps k ≡ None → without_order k ps ≡ ps
without-absent k [] n = refl
without-absent k (p ∷ ps) n = without-absent_step k p ps (without-absent k ps) n

-- Tests of the remaining rows

filter-without_step : {X : Type 0} (t : ℕ × X → Bool) (k : ℕ) (x : X) (p : ℕ × X) (ps : Table X) → (is_rising ps ≡ true → find ps k ≡ Some x → filter t (without_order k ps) ≡ filter t ps) → (is_above p.0 ps ≡ true → without_order p.0 ps ≡ ps) → (p.0 ≡ k → p.1 ≡ x → t p ≡ false) → is_rising (p ∷ ps) ≡ true → find (p ∷ ps) k ≡ Some x → filter t (without_order k (p ∷ ps)) ≡ filter t (p ∷ ps)
filter-without_step t k x p ps below same fails r f = grind (arith, nat_tests)

at_pair : {X : Type 0} (t : ℕ × X → Bool) (k : ℕ) (x : X) (p : ℕ × X) → t (k, x) ≡ false → p.0 ≡ k → p.1 ≡ x → t p ≡ false
at_pair t k x p fails e e' = ap (λ (a : ℕ). t (a, p.1)) e ∙ ap (λ b. t (k, b)) e' ∙ fails

pub filter-without : {X : Type 0} (t : ℕ × X → Bool) (k : ℕ) (x : X) (ps : Table X) → t (k, x) ≡ false → is_rising ps ≡ true → find ps k ≡ Some x → filter t (without_order k ps) ≡ filter t ps
filter-without t k x [] fails r f = refl
filter-without t k x (p ∷ ps) fails r f =
    filter-without_step t k x p ps (filter-without t k x ps fails) (without-above p.0 ps) (at_pair t k x p fails) r f

none_here : {X : Type 0} (k : ℕ) (x : X) → None ≡ Some x → ⊥
none_here k x f = cc

count-without_step : {X : Type 0} (t : ℕ × X → Bool) (k : ℕ) (x : X) (p : ℕ × X) (ps : Table X) → (is_rising ps ≡ true → find ps k ≡ Some x → count_by t (without_order k ps) + cond (t (k, x)) 1 0 ≡ count_by t ps) → (is_above p.0 ps ≡ true → without_order p.0 ps ≡ ps) → (p.0 ≡ k → p.1 ≡ x → t p ≡ t (k, x)) → count_by t (p ∷ ps) ≡ cond (t p) 1 0 + count_by t ps → count_by t (p ∷ without_order k ps) ≡ cond (t p) 1 0 + count_by t (without_order k ps) → is_rising (p ∷ ps) ≡ true → find (p ∷ ps) k ≡ Some x → count_by t (without_order k (p ∷ ps)) + cond (t (k, x)) 1 0 ≡ count_by t (p ∷ ps)
count-without_step t k x p ps below same at one two r f = grind (arith, nat_tests)

at_same : {X : Type 0} (t : ℕ × X → Bool) (k : ℕ) (x : X) (p : ℕ × X) → p.0 ≡ k → p.1 ≡ x → t p ≡ t (k, x)
at_same t k x p e e' = ap (λ (a : ℕ). t (a, p.1)) e ∙ ap (λ b. t (k, b)) e'

pub count-without : {X : Type 0} (t : ℕ × X → Bool) (k : ℕ) (x : X) (ps : Table X) → is_rising ps ≡ true → find ps k ≡ Some x → count_by t (without_order k ps) + cond (t (k, x)) 1 0 ≡ count_by t ps
count-without t k x [] r f = absurd (none_here k x f)
count-without t k x (p ∷ ps) r f =
    count-without_step t k x p ps (count-without t k x ps) (without-above p.0 ps) (at_same t k x p) (count-one t p ps) (count-one t p (without_order k ps)) r f

length-without_step : {X : Type 0} (k : ℕ) (x : X) (p : ℕ × X) (ps : Table X) → (is_rising ps ≡ true → find ps k ≡ Some x → suc (length (without_order k ps)) ≡ length ps) → (is_above p.0 ps ≡ true → without_order p.0 ps ≡ ps) → is_rising (p ∷ ps) ≡ true → find (p ∷ ps) k ≡ Some x → suc (length (without_order k (p ∷ ps))) ≡ length (p ∷ ps)
length-without_step k x p ps below same r f = grind (arith, nat_tests)

pub length-without : {X : Type 0} (k : ℕ) (x : X) (ps : Table X) → is_rising ps ≡ true → find ps k ≡ Some x → suc (length (without_order k ps)) ≡ length ps
length-without k x [] r f = absurd (none_here k x f)
length-without k x (p ∷ ps) r f = length-without_step k x p ps (length-without k x ps) (without-above p.0 ps) r f

below-without_step : {X : Type 0} (j k : ℕ) (p : ℕ × X) (ps : Table X) → (is_below ps j ≡ true → is_below (without_order k ps) j ≡ true) → is_below (p ∷ ps) j ≡ true → is_below (without_order k (p ∷ ps)) j ≡ true
below-without_step j k p ps below b = grind (arith, nat_tests)

pub below-without : {X : Type 0} (j k : ℕ) (ps : Table X) → is_below ps j ≡ true → is_below (without_order k ps) j ≡ true
below-without j k [] b = refl
below-without j k (p ∷ ps) b = below-without_step j k p ps (below-without j k ps) b

orders-without_step : {X : Type 0} (t : ℕ × X → Bool) (k : ℕ) (p : ℕ × X) (ps : Table X) → orders_in (filter t (without_order k ps)) ≡ without_number k (orders_in (filter t ps)) → orders_in (filter t (without_order k (p ∷ ps))) ≡ without_number k (orders_in (filter t (p ∷ ps)))
orders-without_step t k p ps below = grind (arith, nat_tests)

pub orders-without : {X : Type 0} (t : ℕ × X → Bool) (k : ℕ) (ps : Table X) → orders_in (filter t (without_order k ps)) ≡ without_number k (orders_in (filter t ps))
orders-without t k [] = refl
orders-without t k (p ∷ ps) = orders-without_step t k p ps (orders-without t k ps)

-- The numbers of some rows rise

orders-above_step : {X : Type 0} (t : ℕ × X → Bool) (j : ℕ) (p : ℕ × X) (ps : Table X) → (is_above j ps ≡ true → are_above j (orders_in (filter t ps)) ≡ true) → is_above j (p ∷ ps) ≡ true → are_above j (orders_in (filter t (p ∷ ps))) ≡ true
orders-above_step t j p ps below a = grind (arith, nat_tests)

pub orders-above : {X : Type 0} (t : ℕ × X → Bool) (j : ℕ) (ps : Table X) → is_above j ps ≡ true → are_above j (orders_in (filter t ps)) ≡ true
orders-above t j [] a = refl
orders-above t j (p ∷ ps) a = orders-above_step t j p ps (orders-above t j ps) a

orders-rise_step : {X : Type 0} (t : ℕ × X → Bool) (p : ℕ × X) (ps : Table X) → (is_rising ps ≡ true → do_rise (orders_in (filter t ps)) ≡ true) → (is_above p.0 ps ≡ true → are_above p.0 (orders_in (filter t ps)) ≡ true) → is_rising (p ∷ ps) ≡ true → do_rise (orders_in (filter t (p ∷ ps))) ≡ true
orders-rise_step t p ps below above r = grind (arith, nat_tests)

pub orders-rise : {X : Type 0} (t : ℕ × X → Bool) (ps : Table X) → is_rising ps ≡ true → do_rise (orders_in (filter t ps)) ≡ true
orders-rise t [] r = refl
orders-rise t (p ∷ ps) r = orders-rise_step t p ps (orders-rise t ps) (orders-above t p.0 ps) r
