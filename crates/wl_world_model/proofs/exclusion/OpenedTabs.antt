-- The kernel's tabs after an opening and after a death.
use Rattle.std.proofs.Common.{◌≡◌, ◌≢◌, ⊎_elim, ℕ, true, false, cond, List, [], ◌∷◌, ◌++◌, map, Option, Some, None, option_map, is_some, refl, sym, ap, ◌∙◌, subst}
use Rattle.std.specs.Prelude.{◌==◌}
use Rattle.std.proofs.lemmas.Bool.{cases_eq, eq-eqb, ne_eqb, cond-true, cond-false}
use Rattle.wl_origin.specs.Order.{Pair}
use Rattle.wl_origin.proofs.OrderLemmas.{pair_eq-decides}
use Rattle.wl_kernel.specs.Kernel.{KernelState, OpenedTab, tab_in, tab_of, is_opened, lives, is_of, number_or, number_beside, partition_number, new_tab, opened, ended}
use Rattle.wl_kernel.proofs.OpenedTabs.{ended_tab, ended_partition, ended_generation, tab_in-ended}
use Rattle.wl_draft.proofs.Membership.{apart, either}
use Rattle.wl_world_model.proofs.exclusion.Invariant.{opening_in}

-- An opening

tab_in-other : (os : List OpenedTab) (n : OpenedTab) (u : ℕ) → n.tab ≢ u → tab_in (os ++ n ∷ []) u ≡ tab_in os u
tab_in-other [] n u d = cond-false _ _ _ (ne_eqb n.tab u d)
tab_in-other (o ∷ os) n u d = ap (λ z. cond (o.tab == u) (Some o) z) (tab_in-other os n u d)

tab_in-new : (os : List OpenedTab) (n : OpenedTab) → is_some (tab_in os n.tab) ≡ false → tab_in (os ++ n ∷ []) n.tab ≡ Some n
tab_in-new [] n = λ e. cond-true _ _ _ (eq-eqb n.tab n.tab refl)
tab_in-new (o ∷ os) n =
    either (λ x. is_some x ≡ false → cond (o.tab == n.tab) (Some o) (tab_in (os ++ n ∷ []) n.tab) ≡ Some n) (o.tab == n.tab) (Some o) (tab_in os n.tab)
    (λ _ e. apart refl e)
    (λ d e. cond-false _ _ _ d ∙ tab_in-new os n e)

is_of-own : (o : OpenedTab) → is_of o.partition o ≡ true
is_of-own o = (pair_eq-decides o.partition o.partition).1 refl

number_or-more : (m u : ℕ) (os ns : List OpenedTab) (o : OpenedTab) → tab_in os u ≡ Some o → number_or m (os ++ ns) o.partition ≡ number_or m os o.partition
number_or-more m u [] ns o = λ e. cc
number_or-more m u (x ∷ os) ns o =
    either (λ z. z ≡ Some o → number_or m (x ∷ (os ++ ns)) o.partition ≡ number_or m (x ∷ os) o.partition) (x.tab == u) (Some x) (tab_in os u)
    (λ _ e. let same : x ≡ o = cc in let own : is_of o.partition x ≡ true = subst (λ z. is_of z.partition x ≡ true) same (is_of-own x) in
    cond-true _ _ _ own ∙ sym (cond-true _ _ _ own))
    (λ _ e. ap (λ z. cond (is_of o.partition x) x.tab z) (number_or-more m u os ns o e))

number_beside-more : (u : ℕ) (os ns : List OpenedTab) (x : Option OpenedTab) → tab_in os u ≡ x → number_beside (os ++ ns) x ≡ number_beside os x
number_beside-more u os ns None e = refl
number_beside-more u os ns (Some o) e = number_or-more 0 u os ns o e

-- A property holds of every tab if it holds of the new tab and, for the others, held before.
pub each_opened : (P : ℕ → Option OpenedTab → ℕ → Type 0) (k : KernelState) (t : ℕ) (p : Pair) → is_opened k t ≡ false
    → ((q : ℕ) → P t (Some (new_tab t p k.generation)) q) → ((u : ℕ) → t ≢ u → P u (tab_of k u) (partition_number k u))
    → (u : ℕ) → P u (tab_of (opened t p k) u) (partition_number (opened t p k) u)
each_opened P k t p unopened now elsewhere u =
    let n = new_tab t p k.generation in
    let os = k.opened ++ n ∷ [] in
    ⊎_elim
    (λ e. subst (λ z. P z (tab_in os z) (number_beside os (tab_in os z))) e
    (subst (λ x. P t x (number_beside os x)) (sym (tab_in-new k.opened n unopened)) (now (number_beside os (Some n)))))
    (λ d. let same = tab_in-other k.opened n u d in
    subst (λ x. P u x (number_beside os x)) (sym same)
    (subst (P u (tab_of k u)) (sym (number_beside-more u k.opened (n ∷ []) (tab_of k u) refl)) (elsewhere u d)))
    (cases_eq t u)

-- A death

ended-lived : (t : ℕ) (o : OpenedTab) → (ended t o).living ≡ true → o.living ≡ true
ended-lived t o = either (λ x. x.living ≡ true → o.living ≡ true) (o.tab == t) (record o { living = false }) o (λ _ e. apart e refl) (λ _ e. e)

number_or-ended : (m t : ℕ) (os : List OpenedTab) (p : Pair) → number_or m (map (ended t) os) p ≡ number_or m os p
number_or-ended m t [] p = refl
number_or-ended m t (o ∷ os) p =
    ap (λ z. cond (is_of p (record o { partition = z })) (ended t o).tab (number_or m (map (ended t) os) p)) (ended_partition t o)
    ∙ ap (λ z. cond (is_of p o) z (number_or m (map (ended t) os) p)) (ended_tab t o)
    ∙ ap (λ z. cond (is_of p o) o.tab z) (number_or-ended m t os p)

pub ended-opening : (t : ℕ) (os : List OpenedTab) (u : ℕ) → opening_in (tab_in (map (ended t) os) u) ≡ opening_in (tab_in os u)
ended-opening t os u = ap opening_in (tab_in-ended t os u) ∙ go (tab_in os u)
  where
    go : (x : Option OpenedTab) → opening_in (option_map (ended t) x) ≡ opening_in x
    go None = refl
    go (Some o) = ended_generation t o

pub ended-opened : (t : ℕ) (os : List OpenedTab) (u : ℕ) → is_some (tab_in (map (ended t) os) u) ≡ is_some (tab_in os u)
ended-opened t os u = ap is_some (tab_in-ended t os u) ∙ go (tab_in os u)
  where
    go : (x : Option OpenedTab) → is_some (option_map (ended t) x) ≡ is_some x
    go None = refl
    go (Some o) = refl

pub ended-lives : (t : ℕ) (os : List OpenedTab) (u : ℕ) → lives (tab_in (map (ended t) os) u) ≡ true → lives (tab_in os u) ≡ true
ended-lives t os u l = go (tab_in os u) (sym (ap lives (tab_in-ended t os u)) ∙ l)
  where
    go : (x : Option OpenedTab) → lives (option_map (ended t) x) ≡ true → lives x ≡ true
    go None e = e
    go (Some o) e = ended-lived t o e

pub ended-number : (t : ℕ) (os : List OpenedTab) (u : ℕ) → number_beside (map (ended t) os) (tab_in (map (ended t) os) u) ≡ number_beside os (tab_in os u)
ended-number t os u = ap (number_beside (map (ended t) os)) (tab_in-ended t os u) ∙ go (tab_in os u)
  where
    go : (x : Option OpenedTab) → number_beside (map (ended t) os) (option_map (ended t) x) ≡ number_beside os x
    go None = refl
    go (Some o) = ap (number_or 0 (map (ended t) os)) (ended_partition t o) ∙ number_or-ended 0 t os o.partition
