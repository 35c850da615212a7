-- What the hub sends to a tab agrees with the broker.
use Rattle.std.proofs.Common.{◌≡◌, ◌≢◌, ⊎_elim, ℕ, ◌<◌, ◌≤◌, true, false, not, ◌&&◌, List, [], ◌∷◌, ◌++◌, Some, refl, sym, ap, ◌∙◌, subst, arith}
use Rattle.std.specs.Prelude.{◌==◌, if◌then◌else◌}
use Rattle.std.proofs.lemmas.Bool.{and_parts, eqb-true, eq-eqb, false_from_ne_true}
use Rattle.wl_draft.specs.declared.row.Row.{Row}
use Rattle.wl_draft.specs.Membership.{In, Here, Later as Behind}
use Rattle.wl_draft.proofs.Membership.{apart, In-append_cases, In-map_cases}
use Rattle.wl_grammar.specs.declared.frame.Addressed.{Addressed}
use Rattle.wl_grammar.specs.declared.frame.Answer.{Answer}
use Rattle.wl_grammar.specs.declared.frame.Outcome.TheVariants.{Granted, Gone}
use Rattle.wl_grammar.specs.declared.frame.Snapshot.{Snapshot as Part}
use Rattle.wl_grammar.specs.declared.frame.Frame.{Frame}
use Rattle.wl_grammar.specs.declared.frame.Frame.TheVariants as frame
use Rattle.wl_broker.specs.Broker.{BrokerState, next_in, next_of, manager_of, answer_to, grants_to}
use Rattle.wl_agent.specs.declared.status.Status.TheVariants.{Querying}
use Rattle.wl_agent.specs.SnapshotParts.{PartsState, with_part}
use Rattle.wl_agent.specs.Tab.{status_of, is_asked}
use Rattle.wl_hub.specs.Hub.{HubState, from_broker}
use Rattle.wl_kernel.specs.Kernel.{is_living}
use Rattle.wl_kernel.specs.Routes.{frame_of}
use Rattle.wl_library_model.specs.Library.{Library, runs, is_taken, with_hub}
use Rattle.wl_quiescence.proofs.rest.Invariant.{View, view, arrived_of, outputs_to, is_answer_in, parts_in, numbers_at}
use Rattle.wl_quiescence.proofs.client.Kept.{AllFit, Heeds, IsHeeding}
use Rattle.wl_quiescence.proofs.client.Heeds.{fit-none}
use Rattle.wl_quiescence.proofs.hub.Rows.{within-In}
use Rattle.wl_quiescence.proofs.hub.Moves.{grown, Lacks, view-grown}
use Rattle.wl_quiescence.proofs.hub.Others.{HasRowsOf, Moved, other-grant, moved-spares}
use Rattle.wl_quiescence.proofs.hub.Performed.{snapshot-grant}
use Rattle.wl_quiescence.proofs.hub.Steps.{IsNext, same-broker}

-- Parts of snapshots

fit-append : (g k : ℕ) (fs gs : List Frame) (ps : PartsState) → AllFit g k fs ps → AllFit g k gs (parts_in g k fs ps) → AllFit g k (fs ++ gs) ps
fit-append g k [] gs ps a b = b
fit-append g k (frame.Snapshot x ∷ fs) gs ps a b = (a.0, fit-append g k fs gs (if (x.generation == g) && (x.number == k) then with_part x ps else ps) a.1 b)
fit-append g k (f ∷ fs) gs ps a b = fit-append g k fs gs ps a b

-- No part of the generation is of the number.
abbrev pub IsAway : ℕ → ℕ → List Frame → Type 0
IsAway g k fs = (x : Part) → In (frame.Snapshot x) fs → x.generation ≡ g → x.number ≢ k

pub fit-away : (g k : ℕ) (fs : List Frame) (ps : PartsState) → IsAway g k fs → AllFit g k fs ps
fit-away g k [] ps away = tt
fit-away g k (frame.Snapshot x ∷ fs) ps away = (
  (λ y. let h = and_parts (x.generation == g) (x.number == k) y in absurd (away x Here (eqb-true x.generation g h.0) (eqb-true x.number k h.1))),
  fit-away g k fs (if (x.generation == g) && (x.number == k) then with_part x ps else ps) (λ y i. away y (Behind i)),
)
fit-away g k (f ∷ fs) ps away = fit-away g k fs ps (λ y i. away y (Behind i))

pub fit-lacks : (g k : ℕ) (fs : List Frame) (ps : PartsState) → Lacks k fs → AllFit g k fs ps
fit-lacks g k fs ps lack = fit-away g k fs ps (λ x i _. lack x i)

pub fit-both : (g k : ℕ) (fs gs : List Frame) (ps : PartsState) → AllFit g k fs ps → Lacks k gs → AllFit g k (fs ++ gs) ps
fit-both g k fs gs ps a lack = fit-append g k fs gs ps a (fit-lacks g k gs (parts_in g k fs ps) lack)

pub parts-away : (g k : ℕ) (fs : List Frame) (ps : PartsState) → IsAway g k fs → parts_in g k fs ps ≡ ps
parts-away g k [] ps away = refl
parts-away g k (frame.Snapshot x ∷ fs) ps away =
    ap (λ b. parts_in g k fs (if b then with_part x ps else ps))
    (false_from_ne_true _ (λ y. let h = and_parts (x.generation == g) (x.number == k) y in away x Here (eqb-true x.generation g h.0) (eqb-true x.number k h.1)))
    ∙ parts-away g k fs ps (λ y i. away y (Behind i))
parts-away g k (f ∷ fs) ps away = parts-away g k fs ps (λ y i. away y (Behind i))

-- Frames that agree

-- What an answer says of its tab holds at the broker.
abbrev pub Tells : View → ℕ → BrokerState → Answer → Type 0
Tells v t c x =
    (x.upto ≤ next_of c t) × (x.number < next_of c t)
    × (x.outcome ≡ Gone → is_asked (status_of v.client.locks x.number) ≡ true → In x.number (numbers_at (manager_of c v.place) t) → ⊥)

pub record Agrees (v : View) (more : List Frame) (t : ℕ) (b c : BrokerState) : Type 0 where
  pub generation : c.generation ≡ b.generation
  pub next : next_of b t ≤ next_of c t
  pub numbers : (k : ℕ) → k < next_of b t → In k (numbers_at (manager_of c v.place) t) → In k (numbers_at (manager_of b v.place) t)
  pub answers : (x : Answer) → In (frame.Answer x) more → Tells v t c x
  pub snapshots : (x : Part) → In (frame.Snapshot x) more → x.number < next_of c t
  pub fit : (k : ℕ) (ps : PartsState) → status_of v.client.locks k ≡ Some (Querying ps) → AllFit b.generation k more (parts_in b.generation k v.down ps)

-- More frames on their way to the tab
grown-heeds : (v : View) (us more : List Frame) (es : List ℕ) (t : ℕ) (b c : BrokerState) → Agrees v more t b c → Heeds v t b → Heeds (grown v us more es) t c
grown-heeds v us more es t b c a h =
    let next = a.next in
    record {
      answers = λ x i g. ⊎_elim
          (λ j. let o = h.answers x j (g ∙ a.generation) in let up = o.0 in let lt = o.1 in
          (omega (arith, up, next), omega (arith, lt, next), λ gone asked k. o.2 gone asked (a.numbers x.number lt k)))
          (λ j. a.answers x j) (In-append_cases v.down more i);
      snapshots = λ x i g. ⊎_elim (λ j. let lt = h.snapshots x j (g ∙ a.generation) in omega (arith, lt, next)) (λ j. a.snapshots x j) (In-append_cases v.down more i);
      fit = λ k ps e. subst (λ g. AllFit g k (v.down ++ more) ps) (sym a.generation) (fit-append b.generation k v.down more ps (h.fit k ps e) (a.fit k ps e));
      queries = h.queries;
      unheard = λ e k le q. h.unheard (e ∙ a.generation) k (omega (arith, le, next)) q;
    }

-- A step of the hub, from what it sends to each tab.
pub hub-heeds : (l : Library) (h : HubState) (b c : BrokerState) (sent : List (ℕ × Frame)) → IsNext l h b c sent
    → ((t : ℕ) → runs l t ≡ true → runs (with_hub h l) t ≡ true → Agrees (view l t) (outputs_to t sent) t b c) → IsHeeding l → IsHeeding (with_hub h l)
hub-heeds l h b c sent n agrees x d t up y =
    let before : runs l t ≡ true = sym (ap (λ z. is_living z t && not (is_taken l t)) n.kernel) ∙ y in
    subst (Heeds (view (with_hub h l) t) t) (same-broker c d (sym n.after ∙ up))
    (subst (λ z. Heeds z t c) (sym (view-grown l h sent t n.kernel n.outputs))
    (grown-heeds (view l t) (arrived_of h t ++ (l.lines t).up) (outputs_to t sent) h.early t b c (agrees t before y) (x b t n.before before)))

-- The broker stays, and sends no answer
pub plain-agrees : (v : View) (more : List Frame) (t : ℕ) (b : BrokerState) → ((f : Frame) (g : ℕ) → In f more → is_answer_in g f ≡ false) → Agrees v more t b b
plain-agrees v more t b plain = record {
  generation = refl;
  next = omega arith;
  numbers = λ k lt i. i;
  answers = λ x i. apart (eq-eqb x.generation x.generation refl) (plain (frame.Answer x) x.generation i);
  snapshots = λ x i. apart (eq-eqb x.generation x.generation refl) (plain (frame.Snapshot x) x.generation i);
  fit = λ k ps e. fit-none b.generation k more (parts_in b.generation k v.down ps) (λ f i. plain f b.generation i);
}

-- Grants

pub answer-same : (x y : Answer) → frame.Answer x ≡ frame.Answer y → x ≡ y
answer-same x y e = cc

-- The tab's rows among these have numbers that the broker has taken.
abbrev pub AreTaken : BrokerState → ℕ → List Row → Type 0
AreTaken c t rows = (r : Row) → In r rows → r.client ≡ t → r.number < next_of c t

pub granted-tells : (v : View) (t : ℕ) (c : BrokerState) (x : Answer) (r : Row) → r.client ≡ t → r.number < next_of c t → frame.Answer x ≡ frame_of (answer_to c r.client r.number Granted).inner → Tells v t c x
granted-tells v t c x r client lt e =
    let same = answer-same x _ e in
    let upto : x.upto ≡ next_of c t = ap (λ (z : Answer). z.upto) same ∙ ap (next_of c) client in
    let number : x.number ≡ r.number = ap (λ (z : Answer). z.number) same in
    (omega (arith, upto), omega (arith, number, lt), λ gone. absurd (not-gone (sym (ap (λ (z : Answer). z.outcome) same) ∙ gone)))
  where
    not-gone : Granted ≡ Gone → ⊥
    not-gone e = cc

pub grants-tell : (v : View) (t : ℕ) (c : BrokerState) (rows : List Row) → AreTaken c t rows → (o : Addressed) → In o (grants_to c rows) → o.tab ≡ t → (x : Answer) → frame.Answer x ≡ frame_of o.inner → Tells v t c x
grants-tell v t c rows low o i e x is =
    let r = In-map_cases (λ (r : Row). answer_to c r.client r.number Granted) rows i in
    let client : r.0.client ≡ t = sym (ap (λ (z : Addressed). z.tab) r.2) ∙ e in
    granted-tells v t c x r.0 client (low r.0 r.1 client) (is ∙ ap (λ (z : Addressed). frame_of z.inner) r.2)

pub grants-quiet : (c : BrokerState) (rows : List Row) (o : Addressed) → In o (grants_to c rows) → (x : Part) → frame.Snapshot x ≡ frame_of o.inner → ⊥
grants-quiet c rows o i x is =
    let r = In-map_cases (λ (r : Row). answer_to c r.client r.number Granted) rows i in snapshot-grant x _ (is ∙ ap (λ (z : Addressed). frame_of z.inner) r.2)

-- Tabs other than the one whose message was taken, or that died
pub moved-agrees : (v : View) (t : ℕ) (b : BrokerState) (s p : ℕ) (c : BrokerState) (outs : List Addressed) → t ≢ s → HasRowsOf b → (x : Moved b s p c outs) → AreTaken c t x.told → Agrees v (outputs_to t (from_broker outs)) t b c
moved-agrees v t b s p c outs d rows x low =
    let spares = moved-spares v t b s p c outs d rows x in
    let next : next_of c t ≡ next_of b t = ap next_in spares.seat in
    record {
      generation = spares.generation;
      next = omega (arith, next);
      numbers = λ k lt i. within-In _ _ spares.within i;
      answers = λ y i. let g = other-grant b s p c outs x t (frame.Answer y) d i in granted-tells v t c y g.row g.client (low g.row g.told g.client) g.is;
      snapshots = λ y i. absurd (spares.quiet y i);
      fit = λ k ps e. fit-lacks b.generation k (outputs_to t (from_broker outs)) (parts_in b.generation k v.down ps) (λ y i _. spares.quiet y i);
    }
