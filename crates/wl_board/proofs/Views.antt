-- Lemmas on sums over all views, and on changing one view.
use Rattle.std.proofs.Common.{◌≡◌, ◌≢◌, ℕ, zero, suc, ◌+◌, ◌*◌, ◌<◌, ◌≤◌, ◌==◌, List, [], ◌∷◌, ◌++◌, length, set, cond, sym, refl, ap, ◌∙◌, subst, ⊎_elim, arith, get_or-set_same, eq-eqb, ne_eqb}
use Rattle.std.specs.Prelude.{slice_index}
use Rattle.std.proofs.lemmas.List.{get_or-set_other}
use Rattle.std.proofs.lemmas.Bool.{cases_eq}
use mathlib.Core.Option.{some, some-injective, some-ne-none}
use lib.ListN.{get_elem?}
use Rattle.atomic_table.proofs.Lists.{at_set, at_snoc, set_else, at_longer}
use Rattle.wl_board.specs.declared.rule.View.{View}
use Rattle.wl_board.specs.BoardRule.{times, total, EachSeat, SomeSeat}

pub times-push : (n : ℕ) (xs : List ℕ) (x : ℕ) → times n (xs ++ x ∷ []) ≡ times n xs + cond (n == x) 1 0
times-push n [] x = omega arith
times-push n (y ∷ ys) x = let r = times-push n ys x in omega arith

pub times-push_same : (n : ℕ) (xs : List ℕ) → times n (xs ++ n ∷ []) ≡ times n xs + 1
times-push_same n xs = subst (λ b. times n (xs ++ n ∷ []) ≡ times n xs + cond b 1 0) (eq-eqb n n refl) (times-push n xs n)

pub times-push_other : (n : ℕ) (xs : List ℕ) (x : ℕ) → n ≢ x → times n (xs ++ x ∷ []) ≡ times n xs
times-push_other n xs x ne = let r = subst (λ b. times n (xs ++ x ∷ []) ≡ times n xs + cond b 1 0) (ne_eqb n x ne) (times-push n xs x) in omega (arith, r)

pub total_set : (f : View → ℕ) (views : List View) (seat : ℕ) (v w : View) → get_elem? views seat ≡ some v → total f (set views seat w) + f v ≡ total f views + f w
total_set f [] seat v w e = absurd (some-ne-none v (sym e))
total_set f (x ∷ xs) zero v w e = let is : f x ≡ f v = ap f (some-injective x v e) in omega arith
total_set f (x ∷ xs) (suc i) v w e = let r = total_set f xs i v w e in omega arith

pub total-push : (f : View → ℕ) (views : List View) (w : View) → total f (views ++ w ∷ []) ≡ total f views + f w
total-push f [] w = omega arith
total-push f (x ∷ xs) w = let r = total-push f xs w in omega arith

pub total_one : (f : View → ℕ) (views : List View) (i : ℕ) (v : View) → get_elem? views i ≡ some v → f v ≤ total f views
total_one f [] i v e = absurd (some-ne-none v (sym e))
total_one f (x ∷ xs) zero v e = let is : f x ≡ f v = ap f (some-injective x v e) in omega arith
total_one f (x ∷ xs) (suc i) v e = let r = total_one f xs i v e in omega arith

pub total_two : (f : View → ℕ) (views : List View) (i j : ℕ) (v u : View) → get_elem? views i ≡ some v → get_elem? views j ≡ some u → i ≢ j → f v + f u ≤ total f views
total_two f [] i j v u e d ne = absurd (some-ne-none v (sym e))
total_two f (x ∷ xs) zero zero v u e d ne = absurd (ne refl)
total_two f (x ∷ xs) zero (suc j) v u e d ne = let is : f x ≡ f v = ap f (some-injective x v e) in let r = total_one f xs j u d in omega arith
total_two f (x ∷ xs) (suc i) zero v u e d ne = let is : f x ≡ f u = ap f (some-injective x u d) in let r = total_one f xs i v e in omega arith
total_two f (x ∷ xs) (suc i) (suc j) v u e d ne = let r = total_two f xs i j v u e d (λ h. ne (ap suc h)) in omega arith

pub total_most : (f : View → ℕ) (views : List View) → EachSeat (λ v. f v ≤ 65535) views → total f views ≤ 65535 * length views
total_most f [] h = omega arith
total_most f (x ∷ xs) h = let a = h 0 x refl in let r = total_most f xs (λ i u e. h (suc i) u e) in omega arith

pub at_here : (views : List View) (i : ℕ) (v w : View) → get_elem? views i ≡ some v → get_elem? (set views i w) i ≡ some w
at_here [] i v w e = absurd (some-ne-none v (sym e))
at_here (x ∷ xs) zero v w e = refl
at_here (x ∷ xs) (suc i) v w e = at_here xs i v w e

-- If P implies Q, and the changed view has Q, then all views have Q.
pub each_set : (P Q : View → Type 0) (views : List View) (seat : ℕ) (w : View) → EachSeat P views → ((u : View) → P u → Q u) → Q w → EachSeat Q (set views seat w)
each_set P Q views seat w h up mine j u e = ⊎_elim (λ (t : (j ≡ seat) × (w ≡ u)). subst Q t.1 mine) (λ (t : (j ≢ seat) × (get_elem? views j ≡ some u)). up u (h j u t.1)) (at_set views seat j w u e)

pub each_push : (P : View → Type 0) (views : List View) (w : View) → EachSeat P views → P w → EachSeat P (views ++ w ∷ [])
each_push P views w h mine j u e = ⊎_elim (λ was. h j u was) (λ (same : w ≡ u). subst P same mine) (at_snoc views w u j e)

pub some_here : (P : View → Type 0) (views : List View) (seat : ℕ) (v w : View) → get_elem? views seat ≡ some v → P w → SomeSeat P (set views seat w)
some_here P views seat v w at p = (seat, w, at_here views seat v w at, p)

-- If some view has P, and the change keeps P, then some view still has P.
pub some_set : (P : View → Type 0) (views : List View) (seat : ℕ) (v w : View) → get_elem? views seat ≡ some v → (P v → P w) → SomeSeat P views → SomeSeat P (set views seat w)
some_set P views seat v w at kept h = ⊎_elim
    (λ (is : h.0 ≡ seat). some_here P views seat v w at (kept (subst P (some-injective h.1 v (sym h.2 ∙ ap (get_elem? views) is ∙ at)) h.3)))
    (λ (not : h.0 ≡ seat → ⊥). (h.0, h.1, set_else views seat h.0 w not ∙ h.2, h.3))
    (cases_eq h.0 seat)

pub some_push : (P : View → Type 0) (views more : List View) → SomeSeat P views → SomeSeat P (views ++ more)
some_push P views more h = (h.0, h.1, at_longer views more h.0 h.1 h.2, h.3)

-- A word has the value last written to it.
pub at_word : (ws : List ℕ) (k x : ℕ) → k < length ws → slice_index (set ws k x) k ≡ x
at_word ws k x h = get_or-set_same ws k x 0 h

pub at_other : (ws : List ℕ) (k j x : ℕ) → j ≢ k → slice_index (set ws k x) j ≡ slice_index ws j
at_other ws k j x ne = get_or-set_other ws k j x 0 ne

-- Raising one word lowers no word.
pub word_up : (ws : List ℕ) (k x : ℕ) → k < length ws → slice_index ws k ≤ x → (j : ℕ) → slice_index ws j ≤ slice_index (set ws k x) j
word_up ws k x h up j = ⊎_elim (λ (is : j ≡ k). subst (λ i. slice_index ws i ≤ slice_index (set ws k x) i) (sym is) (omega (arith, at_word ws k x h)))
    (λ (not : j ≡ k → ⊥). omega (arith, at_other ws k j x not)) (cases_eq j k)

-- A view that sees at most the value written sees no more than the words hold.
pub seen_below : (seen ws : List ℕ) (k x y : ℕ) → k < length ws → ((j : ℕ) → slice_index seen j ≤ slice_index ws j) → slice_index ws k ≤ y → x ≤ y → (j : ℕ) → slice_index (set seen k x) j ≤ slice_index (set ws k y) j
seen_below seen ws k x y h below up le j = ⊎_elim
    (λ (is : j ≡ k). subst (λ i. slice_index (set seen k x) i ≤ slice_index (set ws k y) i) (sym is) (let a = at_word ws k y h in let b = at_most seen k x in let c = below k in omega arith))
    (λ (not : j ≡ k → ⊥). let a = at_other ws k j y not in let b = at_other seen k j x not in let c = below j in omega arith)
    (cases_eq j k)
  where
    at_most : (l : List ℕ) (i a : ℕ) → (slice_index (set l i a) i ≤ a)
    at_most [] i a = omega arith
    at_most (z ∷ zs) zero a = omega arith
    at_most (z ∷ zs) (suc i) a = at_most zs i a
