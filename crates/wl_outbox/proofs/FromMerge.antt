-- Proofs of the laws of merges.
use Rattle.std.proofs.Common.{◌≡◌, ◌≢◌, ℕ, zero, suc, ◌+◌, ◌<◌, ◌≤◌, List, [], ◌∷◌, length, map, sym, refl, ap, ◌∙◌, subst, ⊎_elim, arith}
use Rattle.std.specs.Prelude.{Contains}
use Rattle.std.proofs.lemmas.Bool.{cases_eq, cases_lt}
use Rattle.std.proofs.lemmas.List.{length-map}
use Rattle.wl_outbox.specs.Merge.{from_source}
use Rattle.wl_outbox.specs.MergeLaws.{IsPickedFrom, nothing, picks, leaves, given_by, KeepsOrder, HasEachOnce, HasNothingElse}
use Rattle.wl_outbox.proofs.Merging.{from_source-hit, from_source-miss}

module _ {A : Type 0} where
  abbrev all_of : List (ℕ × A) → List A
  all_of ls = map (λ (l : ℕ × A). l.1) ls

  picked : (p : ℕ) (ls : List (ℕ × A)) → IsPickedFrom (from_source p ls) (all_of ls)
  picked p [] = nothing
  picked p (l ∷ ls) = ⊎_elim
      (λ (e : l.0 ≡ p). subst (λ (xs : List A). IsPickedFrom xs (all_of (l ∷ ls))) (sym (from_source-hit p l ls e)) (picks l.1 (from_source p ls) (all_of ls) (picked p ls)))
      (λ (ne : l.0 ≡ p → ⊥). subst (λ (xs : List A). IsPickedFrom xs (all_of (l ∷ ls))) (sym (from_source-miss p l ls ne)) (leaves l.1 (from_source p ls) (all_of ls) (picked p ls)))
      (cases_eq l.0 p)

  -- The number of labelled items from the first n sources.
  abbrev count : ℕ → List (ℕ × A) → ℕ
  count n ls = given_by n (λ p. from_source p ls)

  nothing_given : (n : ℕ) (lists : ℕ → List A) → ((p : ℕ) → lists p ≡ []) → given_by n lists ≡ 0
  nothing_given zero lists none = refl
  nothing_given (suc n) lists none = let r = nothing_given n lists none in let e = ap length (none n) in omega arith

  count_out : (n : ℕ) (l : ℕ × A) (ls : List (ℕ × A)) → n ≤ l.0 → count n (l ∷ ls) ≡ count n ls
  count_out zero l ls le = refl
  count_out (suc n) l ls le =
      let r = count_out n l ls (omega arith) in
      let e = ap length (from_source-miss n l ls (λ e. absurd (omega arith))) in omega arith

  count_in : (n : ℕ) (l : ℕ × A) (ls : List (ℕ × A)) → l.0 < n → count n (l ∷ ls) ≡ count n ls + 1
  count_in zero l ls lt = absurd (omega arith)
  count_in (suc n) l ls lt = ⊎_elim
      (λ (e : l.0 ≡ n). let r = count_out n l ls (omega arith) in let h = ap length (from_source-hit n l ls e) in omega arith)
      (λ (ne : l.0 ≡ n → ⊥). let r = count_in n l ls (omega (arith, ne)) in let h = ap length (from_source-miss n l ls ne) in omega arith)
      (cases_eq l.0 n)

  no_hit : (p : ℕ) (l : ℕ × A) (ls : List (ℕ × A)) → from_source p (l ∷ ls) ≡ [] → l.0 ≢ p
  no_hit p l ls e is = absurd (let h = ap length (sym (from_source-hit p l ls is) ∙ e) in omega arith)

  counted : (n : ℕ) (ls : List (ℕ × A)) → ((p : ℕ) → n ≤ p → from_source p ls ≡ []) → length ls ≡ count n ls
  counted n [] none = sym (nothing_given n (λ p. from_source p []) (λ p. refl))
  counted n (l ∷ ls) none = ⊎_elim
      (λ (lt : l.0 < n). let r = counted n ls (λ p le. sym (from_source-miss p l ls (no_hit p l ls (none p le))) ∙ none p le) in let h = count_in n l ls lt in omega arith)
      (λ (le : n ≤ l.0). absurd (no_hit l.0 l ls (none l.0 le) refl))
      (cases_lt l.0 n)

  given_same : (n : ℕ) (a b : ℕ → List A) → ((p : ℕ) → a p ≡ b p) → given_by n a ≡ given_by n b
  given_same zero a b e = refl
  given_same (suc n) a b e = let r = given_same n a b e in let h = ap length (e n) in omega arith

  found : (ls : List (ℕ × A)) (x : A) → Contains (all_of ls) x → (p : ℕ) × Contains (from_source p ls) x
  found [] x (k, lt, at) = absurd (omega arith)
  found (l ∷ ls) x (zero, lt, at) = (l.0, subst (λ (xs : List A). Contains xs x) (sym (from_source-hit l.0 l ls refl)) (0, omega arith, at))
  found (l ∷ ls) x (suc k, lt, at) =
      let r = found ls x (k, omega arith, at) in
      let p : ℕ = r.0 in
      let h = r.1 in (
        p,
        ⊎_elim
            (λ (e : l.0 ≡ p). subst (λ (xs : List A). Contains xs x) (sym (from_source-hit p l ls e)) (suc h.0, omega (arith, h.1), h.2))
            (λ (ne : l.0 ≡ p → ⊥). subst (λ (xs : List A). Contains xs x) (sym (from_source-miss p l ls ne)) h)
            (cases_eq l.0 p),
      )

pub keeps_order : KeepsOrder
keeps_order items lists p m = subst (λ xs. IsPickedFrom (lists p) xs) m.all (subst (λ xs. IsPickedFrom xs (all_of m.labelled)) (m.each p) (picked p m.labelled))

pub has_each_once : HasEachOnce
has_each_once items lists n m none =
    ap length (sym m.all) ∙ length-map m.labelled _ ∙ counted n m.labelled (λ p le. m.each p ∙ none p le) ∙ given_same n (λ p. from_source p m.labelled) lists m.each

pub has_nothing_else : HasNothingElse
has_nothing_else items lists x m has =
    let r = found m.labelled x (subst (λ xs. Contains xs x) (sym m.all) has) in
    (r.0, subst (λ xs. Contains xs x) (m.each r.0) r.1)
