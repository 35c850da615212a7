-- Numbers of a tab at the broker: what a step adds to them, and what settling leaves.
use Rattle.std.proofs.Common.{◌≡◌, ◌≢◌, ◌⊎◌, inl, inr, ⊎_elim, ℕ, zero, suc, ◌+◌, ◌<◌, ◌≤◌, Bool, true, false, not, ◌&&◌, ◌||◌, cond, List, [], ◌∷◌, ◌++◌, length, map, filter, refl, sym, ap, ap₂, ◌∙◌, subst, arith, le_refl, length-append}
use Rattle.std.specs.Prelude.{◌==◌, if◌then◌else◌}
use Rattle.std.proofs.lemmas.Bool.{eq-eqb, ne_eqb, eqb-true, or_cases, or_left, or_right, not-false}
use Rattle.std.proofs.lemmas.List.{map-append}
use Rattle.std.proofs.lemmas.List.Elements.{filter-append}
use Rattle.wl_draft.specs.declared.row.Row.{Row}
use Rattle.wl_draft.specs.Locks.{Locks, has_pair, without_client}
use Rattle.wl_draft.specs.Membership.{In, Here, Later}
use Rattle.wl_draft.specs.Settling.{Merges, none, left, right}
use Rattle.wl_draft.proofs.Membership.{either, In-nil, In-cons_cases, In-head, In-append_left, In-append_right, In-filter, In-filter_cases}
use Rattle.wl_grammar.specs.declared.frame.Operation.{Operation}
use Rattle.wl_grammar.specs.declared.frame.Operation.TheVariants.{Request, Release, Abort, Query}
use Rattle.wl_broker.specs.BrokerLaws.{SameOfOthers}
use Rattle.wl_broker.specs.Grants.{Grants}
use Rattle.wl_agent.specs.Tab.{TabState, operation_of}
use Rattle.wl_world_model.proofs.exclusion.HeldAfterSettling.{has_pair-true, without_client-keeps, without_client-fewer}
use Rattle.wl_world_model.proofs.order.Standings.{has_pair-from}
use Rattle.wl_quiescence.proofs.rest.Invariant.{numbered_after, numbered_from, numbers_at}

-- No more of any kind

-- Of each kind, the first list has no more than the second.
pub record Within (xs ys : List ℕ) : Type 0 where
  pub most : (test : ℕ → Bool) → length (filter test xs) ≤ length (filter test ys)

first-In : {X : Type 0} (xs : List X) → 0 < length xs → (x : X) × In x xs
first-In [] lt = absurd (omega (arith, lt))
first-In (x ∷ xs) lt = (x, Here)

In-some : {X : Type 0} {x : X} (xs : List X) → In x xs → 0 < length xs
In-some [] i = absurd (In-nil i)
In-some (x ∷ xs) i = omega arith

pub within-In : {k : ℕ} (xs ys : List ℕ) → Within xs ys → In k xs → In k ys
within-In {k = k} xs ys w i =
    let test = λ (z : ℕ). z == k in
    let a = In-some (filter test xs) (In-filter test xs i (eq-eqb k k refl)) in
    let le = w.most test in
    let o = first-In (filter test ys) (omega (arith, a, le)) in
    let c = In-filter_cases test ys o.1 in
    subst (λ z. In z ys) (eqb-true o.0 k c.1) c.0

filter-all : (xs : List ℕ) → filter (λ (z : ℕ). true) xs ≡ xs
filter-all [] = refl
filter-all (x ∷ xs) = ap (λ z. x ∷ z) (filter-all xs)

pub within-length : (xs ys : List ℕ) → Within xs ys → length xs ≤ length ys
within-length xs ys w =
    let le = w.most (λ z. true) in let e = ap length (filter-all xs) in let f = ap length (filter-all ys) in omega (arith, le, e, f)

filter-both : (p q : ℕ → Bool) (xs : List ℕ) → filter p (filter q xs) ≡ filter (λ z. q z && p z) xs
filter-both p q [] = refl
filter-both p q (x ∷ xs) =
    either (λ z. filter p z ≡ filter (λ z. q z && p z) (x ∷ xs)) (q x) (x ∷ filter q xs) (filter q xs)
    (λ y. ap (λ z. cond (p x) (x ∷ z) z) (filter-both p q xs) ∙ ap (λ b. cond (b && p x) (x ∷ filter (λ z. q z && p z) xs) (filter (λ z. q z && p z) xs)) (sym y))
    (λ n. filter-both p q xs ∙ ap (λ b. cond (b && p x) (x ∷ filter (λ z. q z && p z) xs) (filter (λ z. q z && p z) xs)) (sym n))

pub within-filter : (q : ℕ → Bool) (xs ys : List ℕ) → Within xs ys → Within (filter q xs) (filter q ys)
within-filter q xs ys w = record {
  most = λ p. let le = w.most (λ z. q z && p z) in let e = ap length (filter-both p q xs) in let f = ap length (filter-both p q ys) in omega (arith, le, e, f);
}

pub within-cons : (n : ℕ) (xs ys : List ℕ) → Within xs ys → Within (n ∷ xs) (n ∷ ys)
within-cons n xs ys w = record {
  most = λ p. let le = w.most p in
      either (λ zs. length zs ≤ length (filter p (n ∷ ys))) (p n) (n ∷ filter p xs) (filter p xs)
      (λ y. subst (λ b. suc (length (filter p xs)) ≤ length (cond b (n ∷ filter p ys) (filter p ys))) (sym y) (omega (arith, le)))
      (λ x. subst (λ b. length (filter p xs) ≤ length (cond b (n ∷ filter p ys) (filter p ys))) (sym x) le);
}

pub within-grow : (n : ℕ) (xs : List ℕ) → Within xs (n ∷ xs)
within-grow n xs = record {
  most = λ p. either (λ zs. length (filter p xs) ≤ length zs) (p n) (n ∷ filter p xs) (filter p xs) (λ _. omega arith) (λ _. le_refl (length (filter p xs)));
}

pub within-fewer : (q : ℕ → Bool) (xs : List ℕ) → Within (filter q xs) xs
within-fewer q [] = record { most = λ p. le_refl 0 }
within-fewer q (x ∷ xs) = record {
  most = λ p.
      either (λ zs. length (filter p zs) ≤ length (filter p (x ∷ xs))) (q x) (x ∷ filter q xs) (filter q xs)
      (λ _. (within-cons x (filter q xs) xs (within-fewer q xs)).most p)
      (λ _. let a = (within-fewer q xs).most p in let b = (within-grow x xs).most p in omega (arith, a, b));
}

pub within-same : (xs ys : List ℕ) → xs ≡ ys → Within xs ys
within-same xs ys e = record { most = λ p. let f = ap (λ z. length (filter p z)) e in omega (arith, f) }

pub within-trans : (xs ys zs : List ℕ) → Within xs ys → Within ys zs → Within xs zs
within-trans xs ys zs v w = record { most = λ p. let a = v.most p in let b = w.most p in omega (arith, a, b) }

pub within-after : (o : Operation) (n : ℕ) (xs ys : List ℕ) → Within xs ys → Within (numbered_after o n xs) (numbered_after o n ys)
within-after (Request mode if_available name) n xs ys w = within-cons n xs ys w
within-after (Release j) n xs ys w = within-filter (λ k. if k == j then false else true) xs ys w
within-after (Abort j) n xs ys w = within-filter (λ k. if k == j then false else true) xs ys w
within-after Query n xs ys w = w

pub within-from : (a : TabState) (n m : ℕ) (xs ys : List ℕ) → Within xs ys → Within (numbered_from a n m xs) (numbered_from a n m ys)
within-from a n zero xs ys w = w
within-from a n (suc m) xs ys w = within-from a (n + 1) m (numbered_after (operation_of a n) n xs) (numbered_after (operation_of a n) n ys) (within-after (operation_of a n) n xs ys w)

-- Rows

abbrev pub numbers_in : ℕ → List Row → List ℕ
numbers_in t rows = map (λ (r : Row). r.number) (filter (λ (r : Row). r.client == t) rows)

abbrev pub weight : (ℕ → Bool) → ℕ → List Row → ℕ
weight p t rows = length (filter p (numbers_in t rows))

pub numbers-append : (t : ℕ) (xs ys : List Row) → numbers_in t (xs ++ ys) ≡ numbers_in t xs ++ numbers_in t ys
numbers-append t xs ys =
    ap (map (λ (r : Row). r.number)) (filter-append (λ (r : Row). r.client == t) xs ys)
    ∙ map-append (λ (r : Row). r.number) (filter (λ (r : Row). r.client == t) xs) (filter (λ (r : Row). r.client == t) ys)

pub weight-append : (p : ℕ → Bool) (t : ℕ) (xs ys : List Row) → weight p t (xs ++ ys) ≡ weight p t xs + weight p t ys
weight-append p t xs ys =
    ap (λ z. length (filter p z)) (numbers-append t xs ys)
    ∙ (ap length (filter-append p (numbers_in t xs) (numbers_in t ys)) ∙ length-append (filter p (numbers_in t xs)) (filter p (numbers_in t ys)))

weight-merges : (p : ℕ → Bool) (t : ℕ) {xs ys zs : List Row} → Merges xs ys zs → weight p t zs ≡ weight p t xs + weight p t ys
weight-merges p t none = refl
weight-merges p t (left {x = x} {xs = xs} {ys = ys} {zs = zs} m) =
    let a = weight-merges p t m in let b = weight-append p t (x ∷ []) zs in let c = weight-append p t (x ∷ []) xs in omega (arith, a, b, c)
weight-merges p t (right {y = x} {xs = xs} {ys = ys} {zs = zs} m) =
    let a = weight-merges p t m in let b = weight-append p t (x ∷ []) zs in let c = weight-append p t (x ∷ []) ys in omega (arith, a, b, c)

-- Grants leave the numbers as they are.
pub grants-within : (t : ℕ) (m n : Locks) (rows : List Row) → Grants m n rows → Within (numbers_at n t) (numbers_at m t)
grants-within t m n rows g = record {
  most = λ p.
      let a = weight-merges p t g.parts in
      let b = weight-append p t n.held n.waiting in
      let c = weight-append p t m.held m.waiting in
      let d = ap (weight p t) g.behind ∙ weight-append p t m.held rows in
      omega (arith, a, b, c, d);
}

numbers-others : (s t : ℕ) (rows : List Row) → t ≢ s → numbers_in t (without_client s rows) ≡ numbers_in t rows
numbers-others s t [] d = refl
numbers-others s t (r ∷ rows) d =
    either (λ zs. numbers_in t zs ≡ numbers_in t (r ∷ rows)) (not (r.client == s)) (r ∷ without_client s rows) (without_client s rows)
    (λ _. numbers-append t (r ∷ []) (without_client s rows) ∙ (ap (λ z. numbers_in t (r ∷ []) ++ z) (numbers-others s t rows d) ∙ sym (numbers-append t (r ∷ []) rows)))
    (λ n.
    let F = filter (λ (r : Row). r.client == t) rows in
    let e : r.client ≡ s = eqb-true r.client s (not-false _ n) in
    numbers-others s t rows d ∙ ap (λ b. map (λ (r : Row). r.number) (cond b (r ∷ F) F)) (sym (ne_eqb r.client t (λ f. d (sym f ∙ e)))))

-- Other tabs' numbers stay the same.
pub others-within : (s t : ℕ) (m n : Locks) → t ≢ s → SameOfOthers s m n → Within (numbers_at n t) (numbers_at m t)
others-within s t m n d same =
    let part : (xs ys : List Row) → without_client s xs ≡ without_client s ys → numbers_in t xs ≡ numbers_in t ys = λ xs ys e.
    sym (numbers-others s t xs d) ∙ (ap (numbers_in t) e ∙ numbers-others s t ys d) in
    within-same (numbers_at n t) (numbers_at m t)
    (numbers-append t n.held n.waiting ∙ (ap₂ (λ xs ys. xs ++ ys) (part n.held m.held same.held) (part n.waiting m.waiting same.waiting) ∙ sym (numbers-append t m.held m.waiting)))

-- Pairs

pub merges-In : {r : Row} {xs ys zs : List Row} → Merges xs ys zs → In r zs → In r xs ⊎ In r ys
merges-In none i = inl i
merges-In (left m) i = ⊎_elim (λ e. inl (In-head e)) (λ j. ⊎_elim (λ a. inl (Later a)) (λ a. inr a) (merges-In m j)) (In-cons_cases i)
merges-In (right m) i = ⊎_elim (λ e. inr (In-head e)) (λ j. ⊎_elim (λ a. inl a) (λ a. inr (Later a)) (merges-In m j)) (In-cons_cases i)

-- The pair is held or waiting.
abbrev pub stands_at : Locks → ℕ → ℕ → Bool
stands_at m t k = has_pair t k m.held || has_pair t k m.waiting

-- A pair that is waiting keeps waiting, or its row is granted.
pub grants-waiting : (t k : ℕ) (m n : Locks) (rows : List Row) → Grants m n rows → has_pair t k m.waiting ≡ true
    → (has_pair t k n.waiting ≡ true) ⊎ ((r : Row) × In r rows × (r.client ≡ t) × (r.number ≡ k))
grants-waiting t k m n rows g e =
    let o = has_pair-true t k m.waiting e in
    ⊎_elim (λ i. inr (o.0, i, o.2, o.3)) (λ i. inl (has_pair-from t k n.waiting o.0 i o.2 o.3)) (merges-In g.parts o.1)

pub grants-held : (t k : ℕ) (m n : Locks) (rows : List Row) → Grants m n rows → has_pair t k m.held ≡ true → has_pair t k n.held ≡ true
grants-held t k m n rows g e =
    let o = has_pair-true t k m.held e in has_pair-from t k n.held o.0 (subst (In o.0) (sym g.behind) (In-append_left rows o.1)) o.2 o.3

pub grants-stands : (t k : ℕ) (m n : Locks) (rows : List Row) → Grants m n rows → stands_at m t k ≡ true → stands_at n t k ≡ true
grants-stands t k m n rows g e =
    ⊎_elim (λ h. or_left (has_pair t k n.held) (has_pair t k n.waiting) (grants-held t k m n rows g h))
    (λ x. ⊎_elim (λ y. or_right (has_pair t k n.held) (has_pair t k n.waiting) y)
    (λ o. or_left (has_pair t k n.held) (has_pair t k n.waiting) (has_pair-from t k n.held o.0 (subst (In o.0) (sym g.behind) (In-append_right m.held o.1)) o.2 o.3)) (grants-waiting t k m n rows g x))
    (or_cases (has_pair t k m.held) (has_pair t k m.waiting) e)

others-In : (s t k : ℕ) (xs ys : List Row) → t ≢ s → without_client s ys ≡ without_client s xs → has_pair t k xs ≡ true → has_pair t k ys ≡ true
others-In s t k xs ys d e h =
    let o = has_pair-true t k xs h in
    has_pair-from t k ys o.0 (without_client-fewer s ys (subst (In o.0) (sym e) (without_client-keeps s xs o.1 (λ f. d (sym o.2 ∙ f))))) o.2 o.3

pub others-waiting : (s t k : ℕ) (m n : Locks) → t ≢ s → SameOfOthers s m n → has_pair t k m.waiting ≡ true → has_pair t k n.waiting ≡ true
others-waiting s t k m n d same e = others-In s t k m.waiting n.waiting d same.waiting e

pub others-stands : (s t k : ℕ) (m n : Locks) → t ≢ s → SameOfOthers s m n → stands_at m t k ≡ true → stands_at n t k ≡ true
others-stands s t k m n d same e =
    ⊎_elim (λ h. or_left (has_pair t k n.held) (has_pair t k n.waiting) (others-In s t k m.held n.held d same.held h))
    (λ h. or_right (has_pair t k n.held) (has_pair t k n.waiting) (others-In s t k m.waiting n.waiting d same.waiting h))
    (or_cases (has_pair t k m.held) (has_pair t k m.waiting) e)
