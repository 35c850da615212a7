-- A step of the hub, from what is said of each tab and of the hub; and the greetings.
use Rattle.std.proofs.Common.{◌≡◌, inl, inr, ⊎_elim, ℕ, suc, ◌-◌, ◌<◌, true, false, not, ◌&&◌, cond, List, [], ◌∷◌, ◌++◌, map, Some, refl, sym, ap, ap₂, ◌∙◌, subst, arith}
use Rattle.std.specs.Prelude.{◌==◌}
use Rattle.std.proofs.lemmas.Bool.{cases_Bool, eq-eqb, ne_eqb}
use Rattle.wl_draft.specs.Membership.{In, Here}
use Rattle.wl_draft.proofs.Membership.{apart, In-one, In-cons_cases, In-map_cases, In-filter_cases, In-append_right}
use Rattle.wl_grammar.specs.declared.frame.Frame.{Frame}
use Rattle.wl_grammar.specs.declared.frame.Frame.TheVariants as frame
use Rattle.wl_broker.specs.Broker.{BrokerState}
use Rattle.wl_kernel.specs.Kernel.{is_living}
use Rattle.wl_hub.specs.Early.{rest_after}
use Rattle.wl_hub.specs.Hub.{HubState, greeted}
use Rattle.wl_world_model.proofs.exclusion.Invariant.{limit_in}
use Rattle.wl_library_model.specs.Library.{Library, runs, is_taken, with_hub}
use Rattle.wl_quiescence.proofs.rest.Invariant.{View, hello, outputs_to, arrived_of, view, hub_view, is_answer_in, Greets, Fresh, Serves, Keeping, IsResting}
use Rattle.wl_quiescence.proofs.hub.Rows.{within-same}
use Rattle.wl_quiescence.proofs.hub.Moves.{grown, Spares, spared-serves, fresh-grown, view-grown}

-- Any step of the hub

-- The hub after a step under a broker: the same kernel, and more frames for tabs.
pub record IsNext (l : Library) (h : HubState) (b c : BrokerState) (sent : List (ℕ × Frame)) : Type 0 where
  pub kernel : h.supervised.kernel ≡ l.hub.supervised.kernel
  pub before : l.hub.supervised.broker ≡ Some b
  pub after : h.supervised.broker ≡ Some c
  pub outputs : h.outputs ≡ l.hub.outputs ++ sent

pub same-broker : (b c : BrokerState) → Some b ≡ Some c → b ≡ c
same-broker b c e = cc

pub hub-rests : (l : Library) (h : HubState) (b c : BrokerState) (sent : List (ℕ × Frame)) → IsNext l h b c sent
    → ((t g : ℕ) (f : Frame) → In f (outputs_to t sent) → is_answer_in g f ≡ true → g < suc l.hub.supervised.kernel.generation)
    → Keeping (hub_view h) c
    → ((t : ℕ) → runs l t ≡ true → Serves (view l t) t b → Serves (grown (view l t) (arrived_of h t ++ (l.lines t).up) (outputs_to t sent) h.early) t c)
    → IsResting l → IsResting (with_hub h l)
hub-rests l h b c sent n low keeps serves x =
    let m = with_hub h l in
    let k = l.hub.supervised.kernel in
    let runs-before : (t : ℕ) → runs m t ≡ true → runs l t ≡ true = λ t y. sym (ap (λ z. is_living z t && not (is_taken l t)) n.kernel) ∙ y in
    let look : (t : ℕ) → view m t ≡ grown (view l t) (arrived_of h t ++ (l.lines t).up) (outputs_to t sent) h.early = λ t. view-grown l h sent t n.kernel n.outputs in
    let limit : limit_in h.supervised.kernel.generation h.supervised.broker ≡ suc k.generation = ap₂ (λ z o. limit_in z.generation o) n.kernel n.after in
    record {
      fresh = λ t y.
          subst (Fresh (view m t)) (sym limit)
          (subst (λ z. Fresh z (suc k.generation)) (sym (look t))
          (fresh-grown (view l t) (arrived_of h t ++ (l.lines t).up) (outputs_to t sent) h.early (suc k.generation) (λ f g i a. low t g f i a)
          (subst (λ o. Fresh (view l t) (limit_in k.generation o)) n.before (x.fresh t (runs-before t y)))));
      keeping = λ d up. subst (Keeping (hub_view h)) (same-broker c d (sym n.after ∙ up)) keeps;
      serving = λ d t up y.
          subst (Serves (view m t) t) (same-broker c d (sym n.after ∙ up))
          (subst (λ z. Serves z t c) (sym (look t)) (serves t (runs-before t y) (x.serving b t n.before (runs-before t y))));
    }

-- The broker stays, and sends no answer

-- Frames that are no answers.
pub spares-same : (v : View) (more : List Frame) (t : ℕ) (b : BrokerState) → ((f : Frame) (g : ℕ) → In f more → is_answer_in g f ≡ false) → Spares v more t b b
spares-same v more t b plain = record {
  generation = refl;
  seat = refl;
  partial = refl;
  quiet = λ x i. apart (eq-eqb x.generation x.generation refl) (plain (frame.Snapshot x) x.generation i);
  answers = λ f i y. apart y (plain f b.generation i);
  within = within-same _ _ refl;
  stands = λ k y. y;
  waiting = λ k y. inl y;
}

-- Greetings

pub hello-only : (t u g : ℕ) (f : Frame) → In f (outputs_to t ((u, hello g) ∷ [])) → f ≡ hello g
hello-only t u g f i =
    let o = In-map_cases (λ (o : ℕ × Frame). o.1) _ i in
    o.2 ∙ ap (λ (z : ℕ × Frame). z.1) (In-one (In-filter_cases (λ (o : ℕ × Frame). o.0 == t) ((u, hello g) ∷ []) o.1).0)

-- A tab that is greeted is served.
greets-serves : (v : View) (more : List Frame) (es : List ℕ) (t : ℕ) (b : BrokerState) → In (hello b.generation) more → ((f : Frame) (g : ℕ) → In f more → is_answer_in g f ≡ false) → Serves v t b → Serves (grown v v.up more es) t b
greets-serves v more es t b i plain x =
    let w = grown v v.up more es in
    let greets : Greets b.generation w = In-append_right v.down i in
    let all = spared-serves v more v.early t b b (λ j. j) (spares-same v more t b plain) x in
    record {
      welcomed = λ _. greets;
      enters = λ _. greets;
      answers = all.answers;
      reaches = λ _. inl greets;
      reported = all.reported;
      kept = λ j.
          let h = all.kept j in
          record {
            acknowledged = h.acknowledged;
            issued = h.issued;
            queried = h.queried;
            awaited = λ k lt e. ⊎_elim (λ o. inl o)
                (λ p. ⊎_elim (λ o. inr (inl o))
                (λ q. ⊎_elim (λ o. inr (inr (inl o)))
                (λ r. ⊎_elim (λ o. inr (inr (inr (inl (inl greets))))) (λ o. inr (inr (inr (inr o)))) r) q) p)
                (h.awaited k lt e);
            stands = h.stands;
            own = h.own;
            room = h.room;
          };
    }

In-rest : (t u : ℕ) (us : List ℕ) → (t == u) ≡ false → In t (u ∷ us) → In t us
In-rest t u us e i = ⊎_elim (λ f. apart (eq-eqb t u f) e) (λ j. j) (In-cons_cases i)

-- The first early tab is greeted.
pub greeted-rests : (l : Library) (b : BrokerState) (u : ℕ) (us : List ℕ) (n : ℕ) → l.hub.supervised.broker ≡ Some b → b.generation ≡ l.hub.supervised.kernel.generation → l.hub.early ≡ u ∷ us → l.hub.greetings ≡ suc n
    → IsResting l → IsResting (with_hub (greeted u l.hub) l)
greeted-rests l b u us n up current early due x =
    let k = l.hub.supervised.kernel in
    let h = greeted u l.hub in
    let sent : List (ℕ × Frame) = (u, hello k.generation) ∷ [] in
    let rest : (h.early ≡ us) × (h.greetings ≡ n) =
    (ap₂ (λ a c. (rest_after a c).0) due early ∙ ap (λ z. z.0) (rest-suc n u us), ap₂ (λ a c. (rest_after a c).1) due early ∙ ap (λ z. z.1) (rest-suc n u us)) in
    let plain : (t : ℕ) (f : Frame) (g : ℕ) → In f (outputs_to t sent) → is_answer_in g f ≡ false = λ t f g i. ap (is_answer_in g) (hello-only t u k.generation f i) in
    let keeping = x.keeping b up in
    hub-rests l h b b sent (record { kernel = refl; before = up; after = up; outputs = refl })
    (λ t g f i y. apart y (plain t f g i))
    (record {
      early = λ front back t e lv. ⊎_elim (λ lt. let g = rest.1 in inl (omega (arith, lt, g, due))) (λ y. inr y)
          (keeping.early (u ∷ front) back t (early ∙ ap (λ z. u ∷ z) (sym rest.0 ∙ e)) lv);
      listed = keeping.listed;
      joined = keeping.joined;
      settled = keeping.settled;
      rows = keeping.rows;
    })
    (λ t r s. ⊎_elim
    (λ y.
    greets-serves (view l t) (outputs_to t sent) h.early t b
    (subst (λ z. In (hello z) (outputs_to t sent)) (sym current) (subst (λ z. In (hello k.generation) (map (λ (o : ℕ × Frame). o.1) (cond z ((u, hello k.generation) ∷ []) []))) (sym y) Here)) (λ f g i. plain t f g i) s)
    (λ y. spared-serves (view l t) (outputs_to t sent) h.early t b b
    (λ i. subst (In t) (sym rest.0) (In-rest t u us (flip t u y) (subst (In t) early i))) (spares-same (view l t) (outputs_to t sent) t b (λ f g i. plain t f g i)) s)
    (cases_Bool (u == t))) x
  where
    rest-suc : (n u : ℕ) (us : List ℕ) → rest_after (suc n) (u ∷ us) ≡ (us, n)
    rest-suc n u us = ap (λ b. cond b (u ∷ us, suc n) (us, suc n - 1)) (ne_eqb (suc n) 0 (λ e. omega (arith, e))) ∙ ap (λ z. (us, z)) (omega arith)

    flip : (t u : ℕ) → (u == t) ≡ false → (t == u) ≡ false
    flip t u e = ne_eqb t u (λ f. apart (eq-eqb u t (sym f)) e)
