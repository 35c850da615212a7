-- A message and a death at the broker, for the tabs that did not send it.
use Rattle.std.proofs.Common.{◌≡◌, ◌≢◌, ◌⊎◌, inl, inr, ⊎_elim, ℕ, ◌+◌, Bool, true, false, not, cond, List, [], ◌∷◌, ◌++◌, filter, None, refl, sym, ap, ◌∙◌, subst, append-nil}
use Rattle.std.specs.Prelude.{◌==◌}
use Rattle.std.specs.List.{AllByRecursion}
use Rattle.std.proofs.lemmas.Bool.{cases_eq, eqb-true, eq-eqb, ne_eqb}
use Rattle.wl_draft.specs.declared.row.Row.{Row}
use Rattle.wl_draft.specs.Locks.{Locks, has_pair, settle_if, newly_granted_if, without, without_client, ended, restored}
use Rattle.wl_draft.specs.Membership.{In, Later}
use Rattle.wl_draft.specs.Settling.{Merges, none, left, right}
use Rattle.wl_draft.proofs.Settled.{settle-MovesGrants}
use Rattle.wl_draft.proofs.Membership.{either, In-nil, In-cons_cases, In-head, In-map, In-map_cases, In-filter, In-filter_cases, In-append_right, In-append_cases}
use Rattle.wl_draft.specs.Tables.{find}
use Rattle.wl_draft.proofs.RisingTables.{find-without}
use Rattle.wl_grammar.specs.declared.frame.Addressed.{Addressed}
use Rattle.wl_grammar.specs.declared.frame.Answer.{Answer}
use Rattle.wl_grammar.specs.declared.frame.Snapshot.{Snapshot as Part}
use Rattle.wl_grammar.specs.declared.frame.Upward.{Upward}
use Rattle.wl_grammar.specs.declared.frame.Upward.TheVariants as up
use Rattle.wl_grammar.specs.declared.frame.Outcome.TheVariants.{Granted}
use Rattle.wl_grammar.specs.declared.frame.Frame.{Frame}
use Rattle.wl_grammar.specs.declared.frame.Frame.TheVariants as frame
use Rattle.wl_broker_reports.specs.ReportParts.{with_told, whole_of}
use Rattle.wl_broker.specs.declared.seat.TabSeat.TheVariants.{Joined, Dead}
use Rattle.wl_broker.specs.Broker.{BrokerState, seat_of, partial_of, manager_of, is_joined, is_active, limit_of, with_seat, keeping, settled_at, newly_at, drafted, answer_to, grants_to, later_answer}
use Rattle.wl_broker.specs.BrokerLaws.{SameOfOthers}
use Rattle.wl_broker.specs.Grants.{Grants, IsTo, TellsGrants}
use Rattle.wl_broker.proofs.Activity.{manager_of-settled_at, manager_of-settled_at_other, Takes-is_active}
use Rattle.wl_broker.proofs.Granting.{Takes-tells}
use Rattle.wl_broker.proofs.Counting.{Takes-seat_of_other, Takes-partial_of_other, seat_of-settled_at_other}
use Rattle.wl_broker.proofs.Others.{restored-SameOfOthers}
use Rattle.wl_broker.proofs.Takings.{Takes, joins, keeps, repeats, performs, after_command, told_by_command, after_death, told_by_death}
use Rattle.wl_kernel.specs.Routes.{frame_of}
use Rattle.wl_hub.specs.Hub.{from_broker}
use Rattle.wl_world_model.proofs.exclusion.HeldAfterSettling.{without-keeps, without-fewer, without_client-keeps, without_client-fewer}
use Rattle.wl_quiescence.proofs.rest.Invariant.{View, outputs_to, is_answer_in, numbers_at}
use Rattle.wl_quiescence.proofs.hub.Rows.{Within, within-same, within-trans, grants-within, others-within, stands_at, grants-waiting, grants-stands, others-waiting, others-stands}
use Rattle.wl_quiescence.proofs.hub.Moves.{GrantIn, Spares}

-- Frames for a tab

pub sent-cases : (t : ℕ) (outs : List Addressed) (f : Frame) → In f (outputs_to t (from_broker outs)) → (o : Addressed) × In o outs × (o.tab ≡ t) × (f ≡ frame_of o.inner)
sent-cases t outs f i =
    let os = from_broker outs in
    let x = In-map_cases (λ (o : ℕ × Frame). o.1) (filter (λ (o : ℕ × Frame). o.0 == t) os) i in
    let y = In-filter_cases (λ (o : ℕ × Frame). o.0 == t) os x.1 in
    let z = In-map_cases (λ (a : Addressed). (a.tab, frame_of a.inner)) outs y.0 in
    (z.0, z.1, sym (ap (λ (p : ℕ × Frame). p.0) z.2) ∙ eqb-true x.0.0 t y.1, x.2 ∙ ap (λ (p : ℕ × Frame). p.1) z.2)

pub sent-In : (t : ℕ) (outs : List Addressed) (o : Addressed) → In o outs → o.tab ≡ t → In (frame_of o.inner) (outputs_to t (from_broker outs))
sent-In t outs o i e =
    In-map (λ (o : ℕ × Frame). o.1) (In-filter (λ (o : ℕ × Frame). o.0 == t) (from_broker outs) (In-map (λ (a : Addressed). (a.tab, frame_of a.inner)) i) (eq-eqb o.tab t e))

-- The answers among the frames are of one generation.
abbrev pub AreOf : ℕ → List Addressed → Type 0
AreOf g outs = (o : Addressed) (n : ℕ) → In o outs → is_answer_in n (frame_of o.inner) ≡ true → n ≡ g

pub grants-of : (c : BrokerState) (rows : List Row) → AreOf c.generation (grants_to c rows)
grants-of c rows o n i y =
    let r = In-map_cases (λ (r : Row). answer_to c r.client r.number Granted) rows i in
    sym (eqb-true c.generation n (sym (ap (λ (z : Addressed). is_answer_in n (frame_of z.inner)) r.2) ∙ y))

pub sent-of : (g : ℕ) (outs : List Addressed) → AreOf g outs → (t n : ℕ) (f : Frame) → In f (outputs_to t (from_broker outs)) → is_answer_in n f ≡ true → n ≡ g
sent-of g outs a t n f i y = let o = sent-cases t outs f i in a o.0 n o.1 (sym (ap (is_answer_in n) o.3) ∙ y)

-- What the broker does of its own accord to a partition

-- The locks of the tab `s` change, and then some requests are granted. The broker answers the tab, and sends the others their grants.
pub record Moved (b : BrokerState) (s p : ℕ) (c : BrokerState) (outs : List Addressed) : Type 0 where
  pub generation : c.generation ≡ b.generation
  pub seats : (t : ℕ) → t ≢ s → seat_of c t ≡ seat_of b t
  pub partials : (t : ℕ) → t ≢ s → partial_of c t ≡ partial_of b t
  pub elsewhere : (q : ℕ) → q ≢ p → manager_of c q ≡ manager_of b q
  pub locks : Locks
  pub others : SameOfOthers s (manager_of b p) locks
  pub granted : List Row
  pub grants : Grants locks (manager_of c p) granted
  pub own : List Addressed
  pub mine : (o : Addressed) → In o own → o.tab ≡ s
  pub told : List Row
  pub tells : (r : Row) → In r granted → r.client ≢ s → In r told
  pub among : (r : Row) → In r told → In r granted
  pub sent : outs ≡ own ++ grants_to c told

all_wait : (rows : List Row) → Merges [] rows rows
all_wait [] = none
all_wait (r ∷ rows) = right (all_wait rows)

pub no-Grants : (m : Locks) → Grants m m []
no-Grants m = record { parts = all_wait m.waiting; behind = sym (append-nil m.held) }

pub settle_if-Grants : (x : Bool) (m : Locks) → Grants m (settle_if x m) (newly_granted_if x m)
settle_if-Grants true m = record { parts = (settle-MovesGrants m).parts; behind = (settle-MovesGrants m).behind }
settle_if-Grants false m = no-Grants m

pub settled-Grants : (b : BrokerState) (p : ℕ) (m : Locks) → Grants m (manager_of (settled_at b p m) p) (newly_at b p m)
unfolding newly_at
settled-Grants b p m = subst (λ z. Grants m z (newly_granted_if (is_active b p) m)) (sym (manager_of-settled_at b p m)) (settle_if-Grants (is_active b p) m)

pub settled-generation : (b : BrokerState) (p : ℕ) (m : Locks) → (settled_at b p m).generation ≡ b.generation
unfolding settled_at
settled-generation b p m = refl

all-In : {X : Type 0} (P : X → Type 0) {x : X} (xs : List X) → AllByRecursion P xs → In x xs → P x
all-In P [] a i = absurd (In-nil i)
all-In P (y ∷ ys) a i = ⊎_elim (λ e. subst P (sym e) a.0) (λ j. all-In P ys a.1 j) (In-cons_cases i)

same-others : (s : ℕ) (m : Locks) → SameOfOthers s m m
same-others s m = record { held = refl; waiting = refl }

-- A message

pub takes-moved : (b : BrokerState) (s p : ℕ) {u : Upward} {c : BrokerState} {outs : List Addressed} → Takes b s p u c outs → Moved b s p c outs
takes-moved b s p (joins {u = u} {x = x} told passes may whole) =
    let r = whole_of (with_told p x (partial_of b s)) in
    let seated = with_seat s (Joined p r.base r.limit) b in
    let m = restored s r.entries (manager_of b p) in
    let h : Takes b s p u (settled_at seated p m) (grants_to (settled_at seated p m) (newly_at seated p m)) = joins told passes may whole in
    record {
      generation = settled-generation seated p m;
      seats = λ t d. Takes-seat_of_other b s p h t d;
      partials = λ t d. Takes-partial_of_other b s p h t d;
      elsewhere = λ q d. manager_of-settled_at_other seated p m q d;
      locks = m;
      others = restored-SameOfOthers s r.entries (manager_of b p);
      granted = newly_at seated p m;
      grants = settled-Grants seated p m;
      own = [];
      mine = λ o i. absurd (In-nil i);
      told = newly_at seated p m;
      tells = λ r i d. i;
      among = λ r i. i;
      sent = refl;
    }
takes-moved b s p (keeps {u = u} {x = x} told passes may part) =
    let h : Takes b s p u (keeping s (with_told p x (partial_of b s)) b) [] = keeps told passes may part in
    record {
      generation = refl;
      seats = λ t d. refl;
      partials = λ t d. Takes-partial_of_other b s p h t d;
      elsewhere = λ q d. refl;
      locks = manager_of b p;
      others = same-others s (manager_of b p);
      granted = [];
      grants = no-Grants (manager_of b p);
      own = [];
      mine = λ o i. absurd (In-nil i);
      told = [];
      tells = λ r i d. i;
      among = λ r i. i;
      sent = refl;
    }
takes-moved b s p (repeats {c = c} passes served old) =
    let h : Takes b s p (up.Command c) b (later_answer b s p c.number c.operation ∷ []) = repeats passes served old in
    let x : TellsGrants b (record { tab = s; partition = p; inner = up.Command c }) b (later_answer b s p c.number c.operation ∷ []) = Takes-tells b s p h served.active in
    record {
      generation = refl;
      seats = λ t d. refl;
      partials = λ t d. refl;
      elsewhere = λ q d. refl;
      locks = x.locks;
      others = x.moved;
      granted = x.granted;
      grants = x.newly_granted;
      own = x.own;
      mine = λ o i. (all-In (IsTo s c.number) x.own x.answer.1 i).0;
      told = without s c.number x.granted;
      tells = λ r i d. without-keeps s c.number x.granted i (λ e. d e.0);
      among = λ r i. without-fewer s c.number x.granted i;
      sent = x.sent;
    }
takes-moved b s p (performs {c = c} passes served next) =
    let seated = with_seat s (Joined p (c.number + 1) (limit_of b s)) b in
    let m = drafted s c.number c.operation (manager_of b p) in
    let h : Takes b s p (up.Command c) (after_command b s p c.number c.operation) (told_by_command b s p c.number c.operation) = performs passes served next in
    let x = Takes-tells b s p h (Takes-is_active b s p p h served.active) in
    record {
      generation = settled-generation seated p m;
      seats = λ t d. Takes-seat_of_other b s p h t d;
      partials = λ t d. Takes-partial_of_other b s p h t d;
      elsewhere = λ q d. manager_of-settled_at_other seated p m q d;
      locks = x.locks;
      others = x.moved;
      granted = x.granted;
      grants = x.newly_granted;
      own = x.own;
      mine = λ o i. (all-In (IsTo s c.number) x.own x.answer.1 i).0;
      told = without s c.number x.granted;
      tells = λ r i d. without-keeps s c.number x.granted i (λ e. d e.0);
      among = λ r i. without-fewer s c.number x.granted i;
      sent = x.sent;
    }

-- A death

twice : (s : ℕ) (rows : List Row) → without_client s (without_client s rows) ≡ without_client s rows
twice s [] = refl
twice s (r ∷ rows) =
    either (λ zs. without_client s zs ≡ zs) (not (r.client == s)) (r ∷ without_client s rows) (without_client s rows)
    (λ y. ap (λ b. cond b (r ∷ without_client s (without_client s rows)) (without_client s (without_client s rows))) y ∙ ap (λ z. r ∷ z) (twice s rows))
    (λ n. twice s rows)

ended-others : (s : ℕ) (m : Locks) → SameOfOthers s m (ended s m)
unfolding ended
ended-others s m = record { held = twice s m.held; waiting = twice s m.waiting }

partial-other : (b : BrokerState) (s p : ℕ) (m : Locks) (t : ℕ) → t ≢ s → partial_of (settled_at (with_seat s Dead b) p m) t ≡ partial_of b t
unfolding settled_at
partial-other b s p m t d = find-without s t b.partial ∙ ap (λ z. cond z None (find b.partial t)) (ne_eqb s t (λ e. d (sym e)))

pub death-moved : (b : BrokerState) (s p : ℕ) → Moved b s p (after_death b s p) (told_by_death b s p)
death-moved b s p =
    let seated = with_seat s Dead b in
    let m = ended s (manager_of b p) in
    record {
      generation = settled-generation seated p m;
      seats = λ t d. seat_of-settled_at_other b s Dead p m t d;
      partials = λ t d. partial-other b s p m t d;
      elsewhere = λ q d. manager_of-settled_at_other seated p m q d;
      locks = m;
      others = ended-others s (manager_of b p);
      granted = newly_at seated p m;
      grants = settled-Grants seated p m;
      own = [];
      mine = λ o i. absurd (In-nil i);
      told = newly_at seated p m;
      tells = λ r i d. i;
      among = λ r i. i;
      sent = refl;
    }

-- Other tabs

-- Each row of the broker is of a tab that has joined.
abbrev pub HasRowsOf : BrokerState → Type 0
HasRowsOf b = (q : ℕ) (r : Row) → In r (manager_of b q).held ⊎ In r (manager_of b q).waiting → is_joined (seat_of b r.client) ≡ true

pub merged-In : {r : Row} {xs ys zs : List Row} → Merges xs ys zs → In r xs → In r zs
merged-In none i = i
merged-In (left m) i = ⊎_elim (λ e. In-head e) (λ j. Later (merged-In m j)) (In-cons_cases i)
merged-In (right m) i = Later (merged-In m i)

-- A frame for another tab is its grant.
pub record IsGrant (b : BrokerState) (s p : ℕ) (c : BrokerState) (outs : List Addressed) (x : Moved b s p c outs) (t : ℕ) (f : Frame) : Type 0 where
  pub row : Row
  pub told : In row x.told
  pub client : row.client ≡ t
  pub is : f ≡ frame_of (answer_to c row.client row.number Granted).inner

pub other-grant : (b : BrokerState) (s p : ℕ) (c : BrokerState) (outs : List Addressed) (x : Moved b s p c outs) (t : ℕ) (f : Frame) → t ≢ s
    → In f (outputs_to t (from_broker outs)) → IsGrant b s p c outs x t f
other-grant b s p c outs x t f d i =
    let o = sent-cases t outs f i in
    ⊎_elim (λ j. absurd (d (sym o.2 ∙ x.mine o.0 j)))
    (λ j.
    let r = In-map_cases (λ (r : Row). answer_to c r.client r.number Granted) x.told j in
    record { row = r.0; told = r.1; client = sym (ap (λ (a : Addressed). a.tab) r.2) ∙ o.2; is = o.3 ∙ ap (λ (a : Addressed). frame_of a.inner) r.2 })
    (In-append_cases x.own (grants_to c x.told) (subst (In o.0) x.sent o.1))

pub merged-right : {r : Row} {xs ys zs : List Row} → Merges xs ys zs → In r ys → In r zs
merged-right none i = i
merged-right (left m) i = Later (merged-right m i)
merged-right (right m) i = ⊎_elim (λ e. In-head e) (λ j. Later (merged-right m j)) (In-cons_cases i)

pub moved-spares : (v : View) (t : ℕ) (b : BrokerState) (s p : ℕ) (c : BrokerState) (outs : List Addressed) → t ≢ s → HasRowsOf b → Moved b s p c outs → Spares v (outputs_to t (from_broker outs)) t b c
moved-spares v t b s p c outs d rows x =
    let more = outputs_to t (from_broker outs) in
    let split : (P : Locks → Type 0) → (v.place ≡ p → P (manager_of c p)) → P (manager_of b v.place) → P (manager_of c v.place) = λ P here there.
    ⊎_elim (λ e. subst (λ z. P (manager_of c z)) (sym e) (here e)) (λ n. subst P (sym (x.elsewhere v.place n)) there) (cases_eq v.place p) in
    record {
      generation = x.generation;
      seat = x.seats t d;
      partial = x.partials t d;
      quiet = λ y i. let g = other-grant b s p c outs x t (frame.Snapshot y) d i in snapshot-answer y _ g.is;
      answers = λ f i y.
          let g = other-grant b s p c outs x t f d i in
          subst (λ z. is_joined (seat_of b z) ≡ true) g.client
          (rows p g.row (inr (without_client-fewer s (manager_of b p).waiting (subst (In g.row) x.others.waiting
          (without_client-keeps s x.locks.waiting (merged-In x.grants.parts (x.among g.row g.told)) (λ e. d (sym g.client ∙ e)))))));
      within = split (λ m. Within (numbers_at m t) (numbers_at (manager_of b v.place) t))
          (λ e. subst (λ z. Within (numbers_at (manager_of c p) t) (numbers_at (manager_of b z) t)) (sym e)
          (within-trans (numbers_at (manager_of c p) t) (numbers_at x.locks t) (numbers_at (manager_of b p) t) (grants-within t x.locks (manager_of c p) x.granted x.grants) (others-within s t (manager_of b p) x.locks d x.others)))
          (within-same (numbers_at (manager_of b v.place) t) (numbers_at (manager_of b v.place) t) refl);
      stands = λ k y. split (λ m. stands_at m t k ≡ true)
          (λ e. grants-stands t k x.locks (manager_of c p) x.granted x.grants (others-stands s t k (manager_of b p) x.locks d x.others (subst (λ z. stands_at (manager_of b z) t k ≡ true) e y)))
          y;
      waiting = λ k y. split (λ m. (has_pair t k m.waiting ≡ true) ⊎ GrantIn b.generation k more)
          (λ e. ⊎_elim inl
          (λ o. inr (
            _,
            sent-In t outs (answer_to c o.0.client o.0.number Granted)
                (subst (In (answer_to c o.0.client o.0.number Granted)) (sym x.sent) (In-append_right x.own (In-map (λ (r : Row). answer_to c r.client r.number Granted) (x.tells o.0 o.1 (λ f. d (sym o.2 ∙ f)))))) o.2,
            x.generation,
            o.3,
            refl,
          ))
          (grants-waiting t k x.locks (manager_of c p) x.granted x.grants (others-waiting s t k (manager_of b p) x.locks d x.others (subst (λ z. has_pair t k (manager_of b z).waiting ≡ true) e y))))
          (inl y);
    }
  where
    snapshot-answer : (x : Part) (a : Answer) → frame.Snapshot x ≡ frame.Answer a → ⊥
    snapshot-answer x a e = cc
