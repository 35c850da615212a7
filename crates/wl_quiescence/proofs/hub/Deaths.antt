-- The hub tells the broker of a death.
use Rattle.std.proofs.Common.{◌≡◌, ◌≢◌, inl, inr, ⊎_elim, ℕ, true, false, not, cond, List, [], ◌∷◌, ◌++◌, length, Option, Some, None, refl, sym, ap, ◌∙◌, subst, arith, length-append}
use Rattle.std.proofs.lemmas.Bool.{cases_eq, ne_eqb, and_parts, not-true}
use Rattle.wl_draft.specs.declared.row.Row.{Row}
use Rattle.wl_draft.specs.Locks.{ended}
use Rattle.wl_draft.specs.Membership.{In}
use Rattle.wl_draft.proofs.Membership.{apart, In-nil, In-cons_cases, In-append_cases}
use Rattle.wl_draft.proofs.TableLemmas.{find-put_same, find-put_other}
use Rattle.wl_draft.proofs.RisingTables.{find-without}
use Rattle.wl_draft.specs.Tables.{find}
use Rattle.wl_grammar.specs.declared.frame.Addressed.{Addressed}
use Rattle.wl_broker.specs.declared.seat.TabSeat.{TabSeat}
use Rattle.wl_broker.specs.declared.seat.TabSeat.TheVariants.{Joined, Dead}
use Rattle.wl_broker.specs.Broker.{BrokerState, seat_of, manager_of, is_joined, is_dead, place_of, with_seat, settled_at, newly_at, death_step}
use Rattle.wl_broker.specs.Grants.{Grants}
use Rattle.wl_broker.specs.BrokerLaws.{IsListedOnce}
use Rattle.wl_broker.proofs.Activity.{manager_of-settled_at_other}
use Rattle.wl_broker.proofs.Counting.{seat_of-settled_at}
use Rattle.wl_broker.proofs.Granting.{Buries-AreSettled}
use Rattle.wl_broker.proofs.Takings.{Buries, again, stranger, ends, burial-Buries, after_death, told_by_death}
use Rattle.wl_kernel.specs.Kernel.{is_living, is_opened}
use Rattle.wl_supervised_broker.specs.Changes.{is_dead as is_dead_tab, death_change}
use Rattle.wl_supervised_broker.specs.SupervisedStates.{changed, frames_of}
use Rattle.wl_hub.specs.Hub.{from_broker, after_told}
use Rattle.wl_world_model.proofs.exclusion.HeldAfterSettling.{Stands}
use Rattle.wl_world_model.proofs.order.Standings.{ended-stands}
use Rattle.wl_library_model.specs.Library.{Library, lives, is_taken, with_hub}
use Rattle.wl_quiescence.proofs.rest.Invariant.{View, outputs_to, view, Keeping, IsResting}
use Rattle.wl_quiescence.proofs.hub.Rows.{within-same}
use Rattle.wl_quiescence.proofs.hub.Moves.{Spares, spared-serves}
use Rattle.wl_quiescence.proofs.hub.Others.{HasRowsOf, death-moved, moved-spares, merged-In, merged-right, settled-Grants, settled-generation, AreOf, grants-of, sent-of}
use Rattle.wl_quiescence.proofs.hub.Steps.{hub-rests, spares-same}

-- Other tabs

stranger-spares : (v : View) (t : ℕ) (b : BrokerState) (u : ℕ) → t ≢ u → Spares v [] t b (with_seat u Dead b)
stranger-spares v t b u d = record {
  generation = refl;
  seat = find-put_other u Dead b.seats t d;
  partial = find-without u t b.partial ∙ ap (λ z. cond z None (find b.partial t)) (ne_eqb u t (λ e. d (sym e)));
  quiet = λ x i. In-nil i;
  answers = λ f i y. absurd (In-nil i);
  within = within-same _ _ refl;
  stands = λ k y. y;
  waiting = λ k y. inl y;
}

pub buried-spares : (v : View) (t : ℕ) (b : BrokerState) (u : ℕ) {c : BrokerState} {outs : List Addressed} → t ≢ u → HasRowsOf b → Buries b u c outs → Spares v (outputs_to t (from_broker outs)) t b c
buried-spares v t b u d rows (again dead) = spares-same v [] t b (λ f g i. absurd (In-nil i))
buried-spares v t b u d rows (stranger alive place) = stranger-spares v t b u d
buried-spares v t b u d rows (ends {p = p} alive place) = moved-spares v t b u p (after_death b u p) (told_by_death b u p) d rows (death-moved b u p)

-- Seats

dead-seat : (b : BrokerState) (u : ℕ) {c : BrokerState} {outs : List Addressed} → Buries b u c outs → is_dead (seat_of c u) ≡ true
dead-seat b u (again dead) = dead
dead-seat b u (stranger alive place) = ap is_dead (find-put_same u Dead b.seats)
dead-seat b u (ends {p = p} alive place) = ap is_dead (seat_of-settled_at b u Dead p (ended u (manager_of b p)))

dead-joined : (s : Option TabSeat) → is_dead s ≡ true → is_joined s ≡ false
dead-joined None e = refl
dead-joined (Some (Joined p n m)) e = apart e refl
dead-joined (Some Dead) e = refl

pub listed-same : (b : BrokerState) (u : ℕ) {c : BrokerState} {outs : List Addressed} → Buries b u c outs → c.listed ≡ b.listed
unfolding settled_at
listed-same b u (again dead) = refl
listed-same b u (stranger alive place) = refl
listed-same b u (ends alive place) = refl

grants-death : (b : BrokerState) (u p : ℕ) → Grants (ended u (manager_of b p)) (manager_of (after_death b u p) p) (newly_at (with_seat u Dead b) p (ended u (manager_of b p)))
grants-death b u p = settled-Grants (with_seat u Dead b) p (ended u (manager_of b p))

-- A row after the death is a row from before it, and of another tab.
row-before : (b : BrokerState) (u : ℕ) {c : BrokerState} {outs : List Addressed} → Buries b u c outs → ((q : ℕ) (r : Row) → Stands r (manager_of b q) → r.client ≡ u → place_of b u ≡ Some q)
    → (is_dead (seat_of b u) ≡ true → (q : ℕ) (r : Row) → Stands r (manager_of b q) → r.client ≢ u) → (q : ℕ) (r : Row) → Stands r (manager_of c q) → Stands r (manager_of b q) × (r.client ≢ u)
row-before b u (again dead) homes gone q r i = (i, gone dead q r i)
row-before b u (stranger alive place) homes gone q r i = (i, λ e. none-some q (sym place ∙ homes q r i e))
  where
    none-some : (q : ℕ) → None ≡ Some q → ⊥
    none-some q e = cc
row-before b u (ends {p = p} alive place) homes gone q r i =
    ⊎_elim
    (λ e.
    let j : Stands r (manager_of (after_death b u p) p) = subst (λ z. Stands r (manager_of (after_death b u p) z)) e i in
    let k : Stands r (ended u (manager_of b p)) = ⊎_elim (λ a. ⊎_elim (λ y. inl y) (λ y. inr (merged-In (grants-death b u p).parts y)) (In-append_cases (ended u (manager_of b p)).held _ (subst (In r) (grants-death b u p).behind a))) (λ a. inr (merged-right (grants-death b u p).parts a)) j in
    let o = ended-stands (manager_of b p) u r k in
    (subst (λ z. Stands r (manager_of b z)) (sym e) o.0, o.1))
    (λ d.
    let j : Stands r (manager_of b q) = subst (Stands r) (manager_of-settled_at_other (with_seat u Dead b) p (ended u (manager_of b p)) q d) i in
    (j, λ e. d (some-same q p (sym (homes q r j e) ∙ place))))
    (cases_eq q p)
  where
    some-same : (q p : ℕ) → Some q ≡ Some p → q ≡ p
    some-same q p e = cc

buried-of : (b : BrokerState) (u : ℕ) {c : BrokerState} {outs : List Addressed} → Buries b u c outs → AreOf b.generation outs
buried-of b u (again dead) o n i y = absurd (In-nil i)
buried-of b u (stranger alive place) o n i y = absurd (In-nil i)
buried-of b u (ends {p = p} alive place) o n i y = grants-of (after_death b u p) _ o n i y ∙ settled-generation _ p _

-- The step

-- What is known of the dead tab beside the invariant: it is dead, its rows are in its own partition, and none is left once
-- the broker knows of the death.
pub record IsUntold (l : Library) (b : BrokerState) (u : ℕ) : Type 0 where
  pub dead : is_dead_tab l.hub.supervised.kernel u ≡ true
  pub current : b.generation ≡ l.hub.supervised.kernel.generation
  pub once : IsListedOnce b
  pub homes : (q : ℕ) (r : Row) → Stands r (manager_of b q) → r.client ≡ u → place_of b u ≡ Some q

-- The hub tells the broker of a death.
pub told-rests : (l : Library) (b : BrokerState) (u : ℕ) (us : List ℕ) → l.hub.supervised.broker ≡ Some b → l.hub.untold ≡ u ∷ us → IsUntold l b u
    → IsResting l → IsResting (with_hub (after_told l.hub (u ∷ us)) l)
told-rests l b u us up untold known x =
    let k = l.hub.supervised.kernel in
    let c = (death_step b u).0 in
    let outs = (death_step b u).1 in
    let h = after_told l.hub (u ∷ us) in
    let bury : Buries b u c outs = burial-Buries b u in
    let keeping = x.keeping b up in
    let step-is : (death_change u k l.hub.supervised.broker) ≡ record { happens = true; kernel = k; broker = Some c; frames = outs } =
    ap (death_change u k) up ∙ ap (λ z. record { happens = z; kernel = k; broker = Some c; frames = outs }) known.dead in
    let is : h.supervised ≡ record { kernel = k; broker = Some c } = ap (λ z. changed z l.hub.supervised) step-is in
    let parts = and_parts (is_opened k u) (not (is_living k u)) known.dead in
    let gone : (t : ℕ) → is_living k t ≡ true → t ≢ u = λ t lv e. apart (subst (λ z. is_living k z ≡ true) e lv) (not-true _ parts.1) in
    let rows-gone : is_dead (seat_of b u) ≡ true → (q : ℕ) (r : Row) → Stands r (manager_of b q) → r.client ≢ u = λ dead q r i e.
    apart (subst (λ z. is_joined (seat_of b z) ≡ true) e (keeping.rows q r i)) (dead-joined (seat_of b u) dead) in
    let spares : (v : View) (t : ℕ) → t ≢ u → Spares v (outputs_to t (from_broker outs)) t b c = λ v t d. buried-spares v t b u d keeping.rows bury in
    let seat : (t : ℕ) → t ≢ u → seat_of c t ≡ seat_of b t = λ t d. (spares (view l t) t d).seat in
    hub-rests l h b c (from_broker outs)
    (record { kernel = ap (λ z. z.kernel) is; before = up; after = ap (λ z. z.broker) is; outputs = ap (λ z. l.hub.outputs ++ from_broker (frames_of z)) step-is })
    (λ t g f i y. let e = sent-of b.generation outs (buried-of b u bury) t g f i y in let z = known.current in omega (arith, e, z))
    (subst (λ z. Keeping (record { supervised = z; untold = us; early = l.hub.early; greetings = length l.hub.early }) c) (sym is) (record {
      early = λ front back t e lv. let n = ap length e ∙ length-append front (t ∷ back) in inl (omega (arith, n));
      listed = λ t q i.
          let o = keeping.listed t q (subst (In (t, q)) (listed-same b u bury) i) in (
            o.0,
            o.1,
            ⊎_elim (λ y. inl y)
                (λ z. ⊎_elim (λ e. inr (inr (subst (λ z. is_dead (seat_of c z) ≡ true) (sym e) (dead-seat b u bury))))
                (λ d. inr (⊎_elim (λ j. ⊎_elim (λ e. absurd (d e)) (λ j. inl j) (In-cons_cases (subst (In t) untold j))) (λ y. inr (ap is_dead (seat t d) ∙ y)) z))
                (cases_eq t u)) o.2,
          );
      joined = λ t j. ⊎_elim
          (λ e. apart (subst (λ z. is_joined (seat_of c z) ≡ true) e j) (dead-joined (seat_of c u) (dead-seat b u bury)))
          (λ d. ⊎_elim (λ y. inl y) (λ y. inr (⊎_elim (λ e. absurd (d e)) (λ i. i) (In-cons_cases (subst (In t) untold y)))) (keeping.joined t (sym (ap is_joined (seat t d)) ∙ j)))
          (cases_eq t u);
      settled = Buries-AreSettled b u known.once bury keeping.settled;
      rows = λ q r i. let o = row-before b u bury known.homes rows-gone q r i in ap is_joined (seat r.client o.1) ∙ keeping.rows q r o.0;
    }))
    (λ t r s. spared-serves (view l t) (outputs_to t (from_broker outs)) l.hub.early t b c (λ i. i) (spares (view l t) t (gone t (and_parts (lives l t) (not (is_taken l t)) r).0)) s)
    x
