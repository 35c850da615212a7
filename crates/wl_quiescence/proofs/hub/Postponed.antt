-- The hub postpones a greeting.
use Rattle.std.proofs.Common.{◌≡◌, ◌⊎◌, inl, inr, ⊎_elim, ℕ, suc, ◌-◌, true, false, ◌&&◌, cond, List, [], ◌∷◌, ◌++◌, Some, refl, sym, ap, ap₂, ◌∙◌, subst, arith, append-nil}
use Rattle.std.proofs.lemmas.Bool.{ne_eqb}
use Rattle.wl_draft.specs.Membership.{In}
use Rattle.wl_draft.proofs.Membership.{In-nil, In-cons_cases, In-head, In-append_left, In-append_right}
use Rattle.wl_broker.specs.Broker.{BrokerState, is_active}
use Rattle.wl_kernel.specs.Kernel.{is_living, is_opened, partition_number}
use Rattle.wl_kernel.specs.Kernel.{tab_of as opened_tab}
use Rattle.wl_supervised_broker.specs.SupervisedStates.{is_active_for, is_active_at}
use Rattle.wl_hub.specs.Early.{postponed}
use Rattle.wl_hub.specs.Hub.{postponing}
use Rattle.wl_world_model.proofs.exclusion.CoverExcludes.{living_opened}
use Rattle.wl_library_model.specs.Library.{Library, with_hub}
use Rattle.wl_quiescence.proofs.rest.Invariant.{view, IsResting}
use Rattle.wl_quiescence.proofs.hub.Moves.{spared-serves}
use Rattle.wl_quiescence.proofs.hub.Steps.{hub-rests, spares-same}

-- Where an element of a list with one more stands.
pub last-cases : (us front back : List ℕ) (t u : ℕ) → us ++ u ∷ [] ≡ front ++ t ∷ back → ((xs : List ℕ) × (us ≡ front ++ t ∷ xs)) ⊎ ((t ≡ u) × (front ≡ us))
last-cases [] [] back t u e = inr (first e, refl)
  where
    first : u ∷ [] ≡ t ∷ back → t ≡ u
    first e = cc
last-cases [] (f ∷ fs) back t u e = absurd (none fs (tail e))
  where
    tail : u ∷ [] ≡ f ∷ (fs ++ t ∷ back) → [] ≡ fs ++ t ∷ back
    tail e = cc

    none : (fs : List ℕ) → [] ≡ fs ++ t ∷ back → ⊥
    none [] e = cc
    none (x ∷ xs) e = cc
last-cases (x ∷ us) [] back t u e = inl (us, ap (λ z. z ∷ us) (head e))
  where
    head : x ∷ (us ++ u ∷ []) ≡ t ∷ back → x ≡ t
    head e = cc
last-cases (x ∷ us) (f ∷ fs) back t u e =
    ⊎_elim (λ o. inl (o.0, ap₂ (λ a b. a ∷ b) (head e) o.1)) (λ o. inr (o.0, ap₂ (λ a b. a ∷ b) (sym (head e)) o.1)) (last-cases us fs back t u (tail e))
  where
    head : x ∷ (us ++ u ∷ []) ≡ f ∷ (fs ++ t ∷ back) → x ≡ f
    head e = cc

    tail : x ∷ (us ++ u ∷ []) ≡ f ∷ (fs ++ t ∷ back) → us ++ u ∷ [] ≡ fs ++ t ∷ back
    tail e = cc

-- The first early tab's partition recovers.
pub postponed-rests : (l : Library) (b : BrokerState) (u : ℕ) (us : List ℕ) (n : ℕ) → l.hub.supervised.broker ≡ Some b → l.hub.early ≡ u ∷ us → l.hub.greetings ≡ suc n → is_active_for u l.hub.supervised ≡ false
    → IsResting l → IsResting (with_hub (postponing l.hub) l)
postponed-rests l b u us n up early due waits x =
    let k = l.hub.supervised.kernel in
    let h = postponing l.hub in
    let rest : (h.early ≡ us ++ u ∷ []) × (h.greetings ≡ n) =
    (ap₂ (λ a c. (postponed a c).0) due early ∙ ap (λ z. z.0) (rest-suc n u us), ap₂ (λ a c. (postponed a c).1) due early ∙ ap (λ z. z.1) (rest-suc n u us)) in
    let keeping = x.keeping b up in
    let recovers : is_living k u ≡ true → is_active b (partition_number k u) ≡ false = λ lv.
    sym (ap (λ o. o && is_active b (partition_number k u)) (living_opened (opened_tab k u) lv)) ∙ (sym (ap (λ o. is_opened k u && is_active_at (partition_number k u) o) up) ∙ waits) in
    hub-rests l h b b [] (record { kernel = refl; before = up; after = up; outputs = sym (append-nil l.hub.outputs) })
    (λ t g f i y. absurd (In-nil i))
    (record {
      early = λ front back t e lv.
          ⊎_elim
          (λ o. ⊎_elim (λ lt. let g = rest.1 in inl (omega (arith, lt, g, due))) (λ y. inr y) (keeping.early (u ∷ front) o.0 t (early ∙ ap (λ z. u ∷ z) o.1) lv))
          (λ o. inr (subst (λ z. is_active b (partition_number k z) ≡ false) (sym o.0) (recovers (subst (λ z. is_living k z ≡ true) o.0 lv))))
          (last-cases us front back t u (sym rest.0 ∙ e));
      listed = keeping.listed;
      joined = keeping.joined;
      settled = keeping.settled;
      rows = keeping.rows;
    })
    (λ t r s. spared-serves (view l t) [] h.early t b b
    (λ i. subst (In t) (sym rest.0) (⊎_elim (λ e. In-append_right us (In-head e)) (λ j. In-append_left (u ∷ []) j) (In-cons_cases (subst (In t) early i))))
    (spares-same (view l t) [] t b (λ f g i. absurd (In-nil i))) s) x
  where
    rest-suc : (n u : ℕ) (us : List ℕ) → postponed (suc n) (u ∷ us) ≡ (us ++ u ∷ [], n)
    rest-suc n u us = ap (λ b. cond b (u ∷ us, suc n) (us ++ u ∷ [], suc n - 1)) (ne_eqb (suc n) 0 (λ e. omega (arith, e))) ∙ ap (λ z. (us ++ u ∷ [], z)) (omega arith)
