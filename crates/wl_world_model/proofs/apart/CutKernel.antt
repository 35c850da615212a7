-- The kernel restricted to one partition: its tabs keep their number, hearers and life.
use Rattle.std.proofs.Common.{◌≡◌, ◌≢◌, ◌⊎◌, inl, inr, ⊎_elim, ℕ, Bool, true, false, cond, not, ◌&&◌, List, [], ◌∷◌, map, filter, Option, Some, None, option_map, refl, sym, ap, ap₂, ◌∙◌, subst}
use Rattle.std.specs.Prelude.{◌==◌, nat_lt}
use Rattle.std.proofs.Math.Bool.{and-false, and-true, and_self}
use Rattle.std.proofs.lemmas.Bool.{and_parts, cond-true, cond-false, eqb-true, eq-eqb, ne_eqb, cases_Bool}
use Rattle.wl_origin.specs.Order.{Pair, pair_eq}
use Rattle.wl_origin.proofs.OrderLemmas.{pair_eq-decides}
use Rattle.wl_kernel.specs.Kernel.{KernelState, OpenedTab, tab_in, tab_of, lives, is_living, any_tab, is_of, insert_sorted, living_in, living_tabs, living_of, number_or, number_beside, partition_number, ended, killed}
use Rattle.wl_kernel.specs.TableIndexes.{AreTabs}
use Rattle.wl_kernel.specs.Routes.{hearers, hearers_beside}
use Rattle.wl_kernel.proofs.OpenedTabs.{ended_of, tab_in-ended}
use Rattle.wl_draft.specs.Membership.{In, Here, Later}
use Rattle.wl_draft.proofs.Membership.{apart, either, In-cons_cases, In-filter_cases, by_test}
use Rattle.wl_world_model.specs.Apart.{was_opened_in, is_in, kernel_for}
use Rattle.wl_world_model.proofs.apart.Cuts.{map-own}

-- Tabs by number

-- A tab that is found was opened and has the number sought.
pub found : (os : List OpenedTab) (t : ℕ) (o : OpenedTab) → tab_in os t ≡ Some o → In o os × (o.tab ≡ t)
found [] t o = λ e. cc
found (x ∷ os) t o =
    either (λ z. z ≡ Some o → In o (x ∷ os) × (o.tab ≡ t)) (x.tab == t) (Some x) (tab_in os t)
    (λ s e. let same : x ≡ o = cc in (subst (λ z. In z (x ∷ os)) same Here, subst (λ z. z.tab ≡ t) same (eqb-true x.tab t s)))
    (λ _ e. let r = found os t o e in (Later r.0, r.1))

-- Each opened tab is found by its number.
pub finds : (os : List OpenedTab) (o : OpenedTab) → AreTabs os → In o os → tab_in os o.tab ≡ Some o
finds (x ∷ os) o a i = ⊎_elim
    (λ e. cond-true _ _ _ (eq-eqb x.tab o.tab (ap (λ z. z.tab) (sym e))) ∙ ap Some (sym e))
    (λ l. let r = finds os o a.2 l in cond-false _ _ _ (ne_eqb x.tab o.tab (λ e. none_is_none os o x.tab a.1 (sym e) r)) ∙ r)
    (In-cons_cases i)
  where
    none_is_none : (os : List OpenedTab) (o : OpenedTab) (t : ℕ) → tab_in os t ≡ None → o.tab ≡ t → tab_in os o.tab ≡ Some o → ⊥
    none_is_none os o t e s r = let f : tab_in os t ≡ Some o = subst (λ z. tab_in os z ≡ Some o) s r in cc
finds [] o a i = elim i [ ]

pub tab-part : (p : Pair) (os : List OpenedTab) (t : ℕ) → was_opened_in p (tab_in os t) ≡ true → tab_in (filter (is_of p) os) t ≡ tab_in os t
tab-part p [] t = λ e. refl
tab-part p (o ∷ os) t =
    by_test (λ v. (o.tab == t) ≡ v → was_opened_in p (cond v (Some o) (tab_in os t)) ≡ true → tab_in (filter (is_of p) (o ∷ os)) t ≡ cond v (Some o) (tab_in os t)) (o.tab == t)
    (λ s _ e. ap (λ zs. tab_in zs t) (cond-true (is_of p o) (o ∷ filter (is_of p) os) (filter (is_of p) os) e) ∙ cond-true _ _ _ s)
    (λ n _ e. either (λ zs. tab_in zs t ≡ tab_in os t) (is_of p o) (o ∷ filter (is_of p) os) (filter (is_of p) os)
    (λ _. cond-false _ _ _ n ∙ tab-part p os t e) (λ _. tab-part p os t e))
    refl

pub none-part : (test : OpenedTab → Bool) (os : List OpenedTab) (t : ℕ) → tab_in os t ≡ None → tab_in (filter test os) t ≡ None
none-part test [] t = λ e. refl
none-part test (o ∷ os) t =
    by_test (λ v. (o.tab == t) ≡ v → cond v (Some o) (tab_in os t) ≡ None → tab_in (filter test (o ∷ os)) t ≡ None) (o.tab == t)
    (λ _ _ e. cc)
    (λ n _ e. either (λ zs. tab_in zs t ≡ None) (test o) (o ∷ filter test os) (filter test os)
    (λ _. cond-false _ _ _ n ∙ none-part test os t e) (λ _. none-part test os t e))
    refl

-- Numbers of partitions

pub number-part : (n : ℕ) (p : Pair) (os : List OpenedTab) → number_or n (filter (is_of p) os) p ≡ number_or n os p
number-part n p [] = refl
number-part n p (o ∷ os) =
    by_test (λ v. is_of p o ≡ v → number_or n (cond v (o ∷ filter (is_of p) os) (filter (is_of p) os)) p ≡ cond v o.tab (number_or n os p)) (is_of p o)
    (λ s _. cond-true _ _ _ s)
    (λ _ _. number-part n p os)
    refl

-- Living tabs

living-filter : (g test kept : OpenedTab → Bool) → ((o : OpenedTab) → (g o && test o) ≡ kept o) → (os : List OpenedTab) → living_in test (filter g os) ≡ living_in kept os
living-filter g test kept e [] = refl
living-filter g test kept e (o ∷ os) =
    by_test (λ v. (v && test o) ≡ kept o → living_in test (cond v (o ∷ filter g os) (filter g os)) ≡ living_in kept (o ∷ os)) (g o)
    (λ _ s. ap₂ (λ b zs. cond (o.living && b) (insert_sorted o.tab zs) zs) s (living-filter g test kept e os))
    (λ _ s. living-filter g test kept e os ∙ sym (cond-false _ _ _ (ap (λ b. o.living && b) (sym s) ∙ and-false o.living)))
    (e o)

-- The living tabs of the restricted kernel are the living tabs of the partition.
pub living-part : (p : Pair) (k : KernelState) → living_tabs (kernel_for p k) ≡ living_of k p
living-part p k = living-filter (is_of p) any_tab (is_of p) (λ o. and-true (is_of p o)) k.opened

pub living_of-part : (p : Pair) (k : KernelState) → living_of (kernel_for p k) p ≡ living_of k p
living_of-part p k = living-filter (is_of p) (is_of p) (is_of p) (λ o. and_self (is_of p o)) k.opened

-- Inserting a number adds no other number.
pub In-insert_sorted : (n t : ℕ) (ns : List ℕ) → In t (insert_sorted n ns) → (t ≡ n) ⊎ In t ns
In-insert_sorted n t [] i = In-cons_cases i
In-insert_sorted n t (m ∷ ms) i =
    either (λ zs. In t zs → (t ≡ n) ⊎ In t (m ∷ ms)) (nat_lt m n) (m ∷ insert_sorted n ms) (n ∷ m ∷ ms)
    (λ _ j. ⊎_elim (λ e. inr (subst (λ z. In z (m ∷ ms)) (sym e) Here)) (λ l. ⊎_elim (λ e. inl e) (λ l. inr (Later l)) (In-insert_sorted n t ms l)) (In-cons_cases j))
    (λ _ j. In-cons_cases j)
    i

pub In-living : (test : OpenedTab → Bool) (os : List OpenedTab) (t : ℕ) → In t (living_in test os) → (o : OpenedTab) × In o os × (test o ≡ true) × (o.tab ≡ t)
In-living test [] t i = elim i [ ]
In-living test (o ∷ os) t i =
    either (λ zs. In t zs → (x : OpenedTab) × In x (o ∷ os) × (test x ≡ true) × (x.tab ≡ t)) (o.living && test o) (insert_sorted o.tab (living_in test os)) (living_in test os)
    (λ e j. ⊎_elim
    (λ s. (o, Here, (and_parts _ _ e).1, sym s))
    (λ l. let r = In-living test os t l in (r.0, Later r.1, r.2, r.3))
    (In-insert_sorted o.tab t (living_in test os) j))
    (λ _ j. let r = In-living test os t j in (r.0, Later r.1, r.2, r.3))
    i

-- The partition's tabs

pub in-found : (p : Pair) (k : KernelState) (t : ℕ) → is_in p k t ≡ true → (o : OpenedTab) × (tab_of k t ≡ Some o) × (o.partition ≡ p)
unfolding is_in
in-found p k t = go (tab_of k t) refl
  where
    go : (x : Option OpenedTab) → tab_of k t ≡ x → was_opened_in p x ≡ true → (o : OpenedTab) × (tab_of k t ≡ Some o) × (o.partition ≡ p)
    go None s e = apart e refl
    go (Some o) s e = (o, s, (pair_eq-decides o.partition p).0 e)

-- An opened tab is in the partition exactly if its own partition is that one.
pub side : (p : Pair) (k : KernelState) (o : OpenedTab) → AreTabs k.opened → In o k.opened → is_in p k o.tab ≡ is_of p o
unfolding is_in
side p k o a i = ap (was_opened_in p) (finds k.opened o a i)

pub own-tab : (p : Pair) (k : KernelState) (t : ℕ) → is_in p k t ≡ true → tab_of (kernel_for p k) t ≡ tab_of k t
unfolding is_in
own-tab p k t e = tab-part p k.opened t e

pub out-tab : (p : Pair) (k : KernelState) (t : ℕ) → AreTabs k.opened → is_in p k t ≡ false → tab_of (kernel_for p k) t ≡ None
unfolding is_in
out-tab p k t a n = go (tab_of (kernel_for p k) t) refl
  where
    go : (x : Option OpenedTab) → tab_of (kernel_for p k) t ≡ x → x ≡ None
    go None s = refl
    go (Some o) s =
        let f = found (filter (is_of p) k.opened) t o s in
        let c = In-filter_cases (is_of p) k.opened f.0 in
        apart (side p k o a c.0 ∙ c.1) (ap (is_in p k) f.1 ∙ n)

pub in-part : (p : Pair) (k : KernelState) (t : ℕ) → AreTabs k.opened → is_in p (kernel_for p k) t ≡ is_in p k t
unfolding is_in
in-part p k t a = ⊎_elim
    (λ y. ap (was_opened_in p) (own-tab p k t y))
    (λ n. ap (was_opened_in p) (out-tab p k t a n) ∙ sym n)
    (cases_Bool (is_in p k t))

pub own-number : (p : Pair) (k : KernelState) (t : ℕ) → is_in p k t ≡ true → partition_number (kernel_for p k) t ≡ partition_number k t
own-number p k t e =
    let f = in-found p k t e in
    ap (number_beside (filter (is_of p) k.opened)) (own-tab p k t e ∙ f.1)
    ∙ subst (λ q. number_or 0 (filter (is_of p) k.opened) q ≡ number_or 0 k.opened q) (sym f.2) (number-part 0 p k.opened)
    ∙ sym (ap (number_beside k.opened) f.1)

pub own-living : (p : Pair) (k : KernelState) (t : ℕ) → is_in p k t ≡ true → is_living (kernel_for p k) t ≡ is_living k t
own-living p k t e = ap lives (own-tab p k t e)

pub own-hearers : (p : Pair) (k : KernelState) (t : ℕ) → is_in p k t ≡ true → hearers t (kernel_for p k) ≡ hearers t k
own-hearers p k t e =
    let f = in-found p k t e in
    ap (hearers_beside (kernel_for p k) t) (own-tab p k t e ∙ f.1)
    ∙ ap (filter (λ n. not (n == t))) (subst (λ q. living_of (kernel_for p k) q ≡ living_of k q) (sym f.2) (living_of-part p k))
    ∙ sym (ap (hearers_beside k t) f.1)

-- Hearers, and the first tab of a partition

-- The hearers of a tab are in its partition.
pub hearers-side : (p : Pair) (k : KernelState) (t u : ℕ) → AreTabs k.opened → In u (hearers t k) → is_in p k u ≡ is_in p k t
unfolding is_in
hearers-side p k t u a = go (tab_of k t) refl
  where
    go : (x : Option OpenedTab) → tab_of k t ≡ x → In u (hearers_beside k t x) → is_in p k u ≡ was_opened_in p x
    go None s i = elim i [ ]
    go (Some o) s i =
        let c = In-filter_cases (λ n. not (n == t)) (living_of k o.partition) i in
        let r = In-living (is_of o.partition) k.opened u c.0 in
        let e : r.0.partition ≡ o.partition = (pair_eq-decides r.0.partition o.partition).0 r.2 in
        ap (is_in p k) (sym r.3) ∙ side p k r.0 a r.1 ∙ ap (λ q. pair_eq q p) e

-- A tab does not hear its own posts.
pub hearers-others : (k : KernelState) (t u : ℕ) → In u (hearers t k) → u ≢ t
hearers-others k t u = go (tab_of k t)
  where
    go : (x : Option OpenedTab) → In u (hearers_beside k t x) → u ≢ t
    go None i e = elim i [ ]
    go (Some o) i e = apart (In-filter_cases (λ n. not (n == t)) (living_of k o.partition) i).1 (ap not (eq-eqb u t e))

-- Each hearer was opened.
pub hearers-opened : (k : KernelState) (t u : ℕ) → In u (hearers t k) → (o : OpenedTab) × In o k.opened × (o.tab ≡ u)
hearers-opened k t u = go (tab_of k t)
  where
    go : (x : Option OpenedTab) → In u (hearers_beside k t x) → (o : OpenedTab) × In o k.opened × (o.tab ≡ u)
    go None i = elim i [ ]
    go (Some o) i =
        let r = In-living (is_of o.partition) k.opened u (In-filter_cases (λ n. not (n == t)) (living_of k o.partition) i).0 in (r.0, r.1, r.3)

-- The tab whose number a partition has belongs to that partition.
pub first-of : (n : ℕ) (p : Pair) (os : List OpenedTab) (o : OpenedTab) → In o os → is_of p o ≡ true → (x : OpenedTab) × In x os × (is_of p x ≡ true) × (number_or n os p ≡ x.tab)
first-of n p [] o i e = elim i [ ]
first-of n p (y ∷ os) o i e =
    by_test (λ v. is_of p y ≡ v → (x : OpenedTab) × In x (y ∷ os) × (is_of p x ≡ true) × (cond v y.tab (number_or n os p) ≡ x.tab)) (is_of p y)
    (λ s _. (y, Here, s, refl))
    (λ m _. let r = first-of n p os o (⊎_elim (λ z. apart (ap (is_of p) (sym z) ∙ e) m) (λ l. l) (In-cons_cases i)) e in (r.0, Later r.1, r.2, r.3))
    refl

-- A death

pub killed-part : (p : Pair) (t : ℕ) (os : List OpenedTab) → filter (is_of p) (map (ended t) os) ≡ map (ended t) (filter (is_of p) os)
killed-part p t [] = refl
killed-part p t (o ∷ os) =
    ap (λ b. cond b (ended t o ∷ filter (is_of p) (map (ended t) os)) (filter (is_of p) (map (ended t) os))) (ended_of p t o)
    ∙ by_test (λ v. cond v (ended t o ∷ filter (is_of p) (map (ended t) os)) (filter (is_of p) (map (ended t) os)) ≡ map (ended t) (cond v (o ∷ filter (is_of p) os) (filter (is_of p) os))) (is_of p o)
    (λ _. ap (λ zs. ended t o ∷ zs) (killed-part p t os))
    (λ _. killed-part p t os)

pub killed-in : (p : Pair) (t : ℕ) (k : KernelState) (u : ℕ) → is_in p (killed t k) u ≡ is_in p k u
unfolding is_in
killed-in p t k u = ap (was_opened_in p) (tab_in-ended t k.opened u) ∙ go (tab_of k u)
  where
    go : (x : Option OpenedTab) → was_opened_in p (option_map (ended t) x) ≡ was_opened_in p x
    go None = refl
    go (Some o) = ended_of p t o

-- The death of another partition's tab changes none of this partition's tabs.
pub killed-others : (p : Pair) (t : ℕ) (k : KernelState) → AreTabs k.opened → is_in p k t ≡ false → map (ended t) (filter (is_of p) k.opened) ≡ filter (is_of p) k.opened
killed-others p t k a n = map-own (ended t) (filter (is_of p) k.opened) (λ o i.
    let c = In-filter_cases (is_of p) k.opened i in
    cond-false _ _ _ (ne_eqb o.tab t (λ e. apart (side p k o a c.0 ∙ c.1) (ap (is_in p k) e ∙ n))))
