-- A step of the hub that handles no frame of a tab: frames more are on their way to the tab, and its rows stay.
use Rattle.std.proofs.Common.{◌≡◌, ◌⊎◌, inl, inr, ⊎_elim, ℕ, ◌+◌, ◌<◌, ◌≤◌, Bool, true, false, ◌&&◌, List, [], ◌∷◌, ◌++◌, length, refl, sym, ap, ap₂, ◌∙◌, subst, arith, append_assoc}
use Rattle.std.specs.Prelude.{◌==◌, if◌then◌else◌}
use Rattle.std.proofs.lemmas.Bool.{ne_eqb}
use Rattle.wl_draft.specs.Locks.{has_pair}
use Rattle.wl_client.specs.declared.client.Unsent.TheVariants as unsent
use Rattle.wl_draft.specs.Membership.{In}
use Rattle.wl_draft.proofs.Membership.{apart, In-head, In-append_left, In-append_right, In-append_cases}
use Rattle.wl_draft.specs.Membership.{Later as Behind}
use Rattle.wl_grammar.specs.declared.frame.Answer.{Answer}
use Rattle.wl_grammar.specs.declared.frame.Snapshot.{Snapshot as Part}
use Rattle.wl_grammar.specs.declared.frame.Operation.{Operation}
use Rattle.wl_grammar.specs.declared.frame.Operation.TheVariants.{Request, Release, Abort, Query}
use Rattle.wl_grammar.specs.declared.frame.Outcome.TheVariants.{Granted}
use Rattle.wl_grammar.specs.declared.frame.Frame.{Frame}
use Rattle.wl_grammar.specs.declared.frame.Frame.TheVariants as frame
use Rattle.wl_broker.specs.Broker.{BrokerState, seat_of, partial_of, manager_of, next_in, next_of, limit_in, limit_of, is_joined, is_lock}
use Rattle.wl_agent.specs.SnapshotParts.{PartsState, with_part, is_whole as is_whole_snapshot}
use Rattle.wl_agent.specs.Tab.{operation_of, is_request, is_report_due}
use Rattle.wl_kernel.specs.Kernel.{partition_number}
use Rattle.wl_hub.specs.Hub.{HubState}
use Rattle.wl_library_model.specs.Library.{Library, client_of, with_hub}
use Rattle.wl_quiescence.proofs.rest.Invariant.{Says, At, View, view, arrived_of, outputs_to, items_of, after_items, seen, seen_if, Greets, is_answer_in, ends_wait, AnswerComes, parts_in, SnapshotComes, IsNoted, SendsAgain, numbered_from, numbers_at, HasKept, Fresh, Serves}
use Rattle.wl_quiescence.proofs.rest.Restarts.{outputs-append}
use Rattle.wl_quiescence.proofs.hub.Rows.{Within, within-In, within-length, within-from, stands_at}

-- The view after a step of the hub: the frames up, more frames down, and the early tabs.
abbrev pub grown : View → List Frame → List Frame → List ℕ → View
grown v us more es = record v { up = us; down = v.down ++ more; early = es }

-- A number waits for an answer, and one comes.
abbrev pub Waits : View → ℕ → BrokerState → ℕ → Type 0
Waits v t b k =
    ((is_request (operation_of v.client.locks k) ≡ true) × (has_pair t k (manager_of b v.place).waiting ≡ true))
    ⊎ AnswerComes b.generation v k ⊎ SnapshotComes b.generation v k ⊎ SendsAgain v t b ⊎ In (Says k) (items_of b.generation v)

-- Snapshots

pub parts-append : (g k : ℕ) (fs gs : List Frame) (ps : PartsState) → parts_in g k (fs ++ gs) ps ≡ parts_in g k gs (parts_in g k fs ps)
parts-append g k [] gs ps = refl
parts-append g k (frame.Snapshot x ∷ fs) gs ps = parts-append g k fs gs (if (x.generation == g) && (x.number == k) then with_part x ps else ps)
parts-append g k (f ∷ fs) gs ps = parts-append g k fs gs ps

-- The frames have no part of a snapshot for the number.
abbrev pub Lacks : ℕ → List Frame → Type 0
Lacks k more = (x : Part) → In (frame.Snapshot x) more → x.number ≡ k → ⊥

pub parts-none : (g k : ℕ) (gs : List Frame) (ps : PartsState) → Lacks k gs → parts_in g k gs ps ≡ ps
parts-none g k [] ps lack = refl
parts-none g k (frame.Snapshot x ∷ fs) ps lack =
    ap (λ b. parts_in g k fs (if b then with_part x ps else ps)) (other _ _ (ne_eqb x.number k (lack x (In-head refl)))) ∙ parts-none g k fs ps (λ y i. lack y (Behind i))
  where
    other : (a b : Bool) → b ≡ false → (a && b) ≡ false
    other true b e = e
    other false b e = refl
parts-none g k (f ∷ fs) ps lack = parts-none g k fs ps (λ y i. lack y (Behind i))

-- What stays of the waits

-- The tab is still in its seat, and stays early.
pub record Goes (v : View) (es : List ℕ) (t : ℕ) (b c : BrokerState) : Type 0 where
  pub generation : c.generation ≡ b.generation
  pub noted : In t v.early → In t es
  pub joined : is_joined (seat_of b t) ≡ true → is_joined (seat_of c t) ≡ true

pub noted-grown : (v : View) (us more : List Frame) (es : List ℕ) (t : ℕ) (b c : BrokerState) → Goes v es t b c → IsNoted v t b → IsNoted (grown v us more es) t c
noted-grown v us more es t b c g n = (g.joined n.0, g.noted n.1)

pub greets-grown : (v : View) (us more : List Frame) (es : List ℕ) (b c : BrokerState) → c.generation ≡ b.generation → Greets b.generation v → Greets c.generation (grown v us more es)
greets-grown v us more es b c e i = subst (λ g. Greets g (grown v us more es)) (sym e) (In-append_left more i)

pub waits-grown : (v : View) (us more : List Frame) (es : List ℕ) (t : ℕ) (b c : BrokerState) (k : ℕ) → Goes v es t b c → Lacks k more
    → (is_request (operation_of v.client.locks k) ≡ true → has_pair t k (manager_of b v.place).waiting ≡ true → Waits (grown v us more es) t c k)
    → (In (Says k) (items_of b.generation v) → Waits (grown v us more es) t c k)
    → Waits v t b k → Waits (grown v us more es) t c k
waits-grown v us more es t b c k g lack pair said w =
    let n = grown v us more es in
    let back = sym g.generation in
    let again : Greets b.generation v ⊎ IsNoted v t b ⊎ In unsent.Resend v.client.unsent → SendsAgain n t c = λ o.
    ⊎_elim (λ i. inl (greets-grown v us more es b c g.generation i)) (λ p. inr (⊎_elim (λ i. inl (noted-grown v us more es t b c g i)) (λ i. inr i) p)) o in
    ⊎_elim (λ o. pair o.0 o.1)
    (λ x. ⊎_elim (λ o. inr (inl (subst (λ z. AnswerComes z n k) back (o.0, In-append_left more o.1, o.2, o.3, o.4))))
    (λ y. ⊎_elim
    (λ o. inr (inr (inl (subst (λ z. SnapshotComes z n k) back (
      o.0,
      o.1,
      (o.2.0, In-append_left more o.2.1, o.2.2, o.2.3),
      ap is_whole_snapshot (parts-append b.generation k v.down more o.0 ∙ parts-none b.generation k more (parts_in b.generation k v.down o.0) lack) ∙ o.3,
    )))))
    (λ z. ⊎_elim (λ o. inr (inr (inr (inl (again o))))) (λ i. said i) z) y) x) w

-- Frames more, and the same rows

-- The frames grant the number.
abbrev pub GrantIn : ℕ → ℕ → List Frame → Type 0
GrantIn g k more = (x : Answer) × In (frame.Answer x) more × (x.generation ≡ g) × (x.number ≡ k) × (x.outcome ≡ Granted)

request-granted : (o : Operation) → is_request o ≡ true → ends_wait o Granted ≡ true
request-granted (Request mode if_available name) e = refl
request-granted (Release j) e = apart e refl
request-granted (Abort j) e = apart e refl
request-granted Query e = apart e refl

pub grant-comes : (v : View) (us more : List Frame) (es : List ℕ) (g k : ℕ) → is_request (operation_of v.client.locks k) ≡ true → GrantIn g k more → AnswerComes g (grown v us more es) k
grant-comes v us more es g k r o =
    (o.0, In-append_right v.down o.1, o.2, o.3, ap (ends_wait (operation_of v.client.locks k)) o.4 ∙ request-granted (operation_of v.client.locks k) r)

-- The broker has of the tab what it had, but for what it grants it and sends to it.
pub record Spares (v : View) (more : List Frame) (t : ℕ) (b c : BrokerState) : Type 0 where
  pub generation : c.generation ≡ b.generation
  pub seat : seat_of c t ≡ seat_of b t
  pub partial : partial_of c t ≡ partial_of b t
  pub quiet : (x : Part) → In (frame.Snapshot x) more → ⊥
  pub answers : (f : Frame) → In f more → is_answer_in b.generation f ≡ true → is_joined (seat_of b t) ≡ true
  pub within : Within (numbers_at (manager_of c v.place) t) (numbers_at (manager_of b v.place) t)
  pub stands : (k : ℕ) → stands_at (manager_of b v.place) t k ≡ true → stands_at (manager_of c v.place) t k ≡ true
  pub waiting :
      (k : ℕ) → has_pair t k (manager_of b v.place).waiting ≡ true → (has_pair t k (manager_of c v.place).waiting ≡ true) ⊎ GrantIn b.generation k more

spared-goes : (v : View) (more : List Frame) (es : List ℕ) (t : ℕ) (b c : BrokerState) → (In t v.early → In t es) → Spares v more t b c → Goes v es t b c
spared-goes v more es t b c early s = record { generation = s.generation; noted = early; joined = λ j. ap is_joined s.seat ∙ j }

spared-kept : (v : View) (more : List Frame) (es : List ℕ) (t : ℕ) (b c : BrokerState) → (In t v.early → In t es) → Spares v more t b c
    → HasKept v t b v.client.locks → HasKept (grown v v.up more es) t c v.client.locks
spared-kept v more es t b c early s h =
    let a = v.client.locks in
    let n = grown v v.up more es in
    let next : next_of c t ≡ next_of b t = ap next_in s.seat in
    let limit : limit_of c t ≡ limit_of b t = ap limit_in s.seat in
    let within : (m : ℕ) → Within (numbered_from a (next_of b t) m (numbers_at (manager_of c v.place) t)) (numbered_from a (next_of b t) m (numbers_at (manager_of b v.place) t)) = λ m.
    within-from a (next_of b t) m (numbers_at (manager_of c v.place) t) (numbers_at (manager_of b v.place) t) s.within in
    record {
      acknowledged = subst (λ z. a.acknowledged ≤ z) (sym next) h.acknowledged;
      issued = subst (λ z. z ≤ length a.issued) (sym next) h.issued;
      queried = h.queried;
      awaited = λ k lt e. waits-grown v v.up more es t b c k (spared-goes v more es t b c early s) (λ x i _. s.quiet x i)
          (λ r w. ⊎_elim (λ y. inl (r, y)) (λ o. inr (inl (subst (λ z. AnswerComes z n k) (sym s.generation) (grant-comes v v.up more es b.generation k r o)))) (s.waiting k w))
          (λ i. inr (inr (inr (inr (subst (λ z. In (Says k) (items_of z n)) (sym s.generation) i)))))
          (h.awaited k (subst (λ z. k < z) next lt) e);
      stands = λ k lt e r. s.stands k (h.stands k (subst (λ z. k < z) next lt) e r);
      own = λ k m e i. h.own k m (subst (λ z. z + m ≡ length a.issued) next e)
          (within-In _ _ (within m) (subst (λ z. In k (numbered_from a z m (numbers_at (manager_of c v.place) t))) next i));
      room = λ m lt l.
          let x = h.room m (subst (λ z. z + m < length a.issued) next lt) (subst (λ z. is_lock (operation_of a (z + m)) ≡ true) next l) in
          let le = within-length _ _ (within m) in
          subst (λ z. length (numbered_from a z m (numbers_at (manager_of c v.place) t)) < limit_of c t) (sym next)
          (subst (λ z. length (numbered_from a (next_of b t) m (numbers_at (manager_of c v.place) t)) < z) (sym limit) (omega (arith, x, le)));
    }

-- A tab that the broker spares is served as before.
pub spared-serves : (v : View) (more : List Frame) (es : List ℕ) (t : ℕ) (b c : BrokerState) → (In t v.early → In t es) → Spares v more t b c
    → Serves v t b → Serves (grown v v.up more es) t c
spared-serves v more es t b c early s x =
    let n = grown v v.up more es in
    let goes = spared-goes v more es t b c early s in
    let greets : Greets b.generation v → Greets c.generation n = greets-grown v v.up more es b c s.generation in
    let same : seen c t ≡ seen b t = ap₂ (λ o p. seen_if (is_joined o) (next_in o) p) s.seat s.partial in
    let total = length v.client.locks.issued in
    let joined = λ (y : is_joined (seat_of b t) ≡ true). ap is_joined s.seat ∙ y in
    record {
      welcomed = λ w. greets (x.welcomed w);
      enters = λ d. greets (x.enters (λ e. d (e ∙ sym s.generation)));
      answers = λ f i y.
          let z = subst (λ g. is_answer_in g f ≡ true) s.generation y in
          joined (⊎_elim (λ j. x.answers f j z) (λ j. s.answers f j z) (In-append_cases v.down more i));
      reaches = λ e. ⊎_elim (λ i. inl (greets i))
          (λ o. inr (⊎_elim (λ i. inl (noted-grown v v.up more es t b c goes i))
          (λ r. inr (subst (λ g. after_items v.place (is_report_due v.client.locks) total (items_of g n) (seen c t) ≡ At total) (sym s.generation)
          (ap (after_items v.place (is_report_due v.client.locks) total (items_of b.generation v)) same ∙ r))) o))
          (x.reaches (e ∙ s.generation));
      reported = λ e j. x.reported (e ∙ s.generation) (sym (ap is_joined s.seat) ∙ j);
      kept = λ j. spared-kept v more es t b c early s (x.kept (sym (ap is_joined s.seat) ∙ j));
    }

-- A client still receives its welcome first.
pub fresh-grown : (v : View) (us more : List Frame) (es : List ℕ) (bound : ℕ) → ((f : Frame) (g : ℕ) → In f more → is_answer_in g f ≡ true → g < bound) → Fresh v bound → Fresh (grown v us more es) bound
fresh-grown v us more es bound low f = record {
  welcome = λ n. let o = f.welcome n in (o.0, o.1 ++ more, o.2, ap (λ z. z ++ more) o.3, o.4);
  past = λ x g i y. ⊎_elim (λ j. f.past x g j y) (λ j. low x g j y) (In-append_cases v.down more i);
  entered = f.entered;
}

-- The view after a step of the hub.
pub view-grown : (l : Library) (h : HubState) (sent : List (ℕ × Frame)) (t : ℕ) → h.supervised.kernel ≡ l.hub.supervised.kernel → h.outputs ≡ l.hub.outputs ++ sent
    → view (with_hub h l) t ≡ grown (view l t) (arrived_of h t ++ (l.lines t).up) (outputs_to t sent) h.early
view-grown l h sent t k e =
    let front = (client_of l t).arrived ++ (l.lines t).down in
    ap₂ (λ x d. record (view (with_hub h l) t) { place = partition_number x t; down = d }) k
    (ap (λ z. front ++ outputs_to t z) e ∙ (ap (λ z. front ++ z) (outputs-append t l.hub.outputs sent) ∙ sym (append_assoc front (outputs_to t l.hub.outputs) (outputs_to t sent))))
