-- In all worlds each row of an honest tab at the broker is of a lock that the tab requested, and only requests wait.
use Rattle.std.proofs.Common.{◌≡◌, ◌⊎◌, inl, inr, ⊎_elim, ℕ, ◌+◌, ◌<◌, Bool, true, false, not, List, [], ◌∷◌, ◌++◌, filter, length, Some, refl, sym, ap, ◌∙◌, subst, arith}
use Rattle.std.specs.Prelude.{◌==◌}
use Rattle.std.proofs.lemmas.Bool.{cases_eq, not-true}
use Rattle.wl_draft.specs.declared.row.Row.{Row}
use Rattle.wl_draft.specs.declared.row.Entry.{Entry}
use Rattle.wl_draft.specs.Membership.{In}
use Rattle.wl_draft.proofs.Membership.{either, In-nil, In-one, In-append_cases, In-filter_cases, In-map_cases}
use Rattle.wl_draft.specs.Locks.{Locks, settle, settle_if, queued, probed, released, aborted, ended, restored, held_of, waiting_of, rows_of, row_of, is_grantable}
use Rattle.wl_grammar.specs.declared.frame.Operation.{Operation}
use Rattle.wl_grammar.specs.declared.frame.Operation.TheVariants.{Request, Release, Abort, Query}
use Rattle.wl_grammar.specs.declared.frame.Addressed.{Addressed}
use Rattle.wl_grammar.specs.declared.frame.Upward.{Upward}
use Rattle.wl_grammar.specs.declared.frame.Upward.TheVariants as up
use Rattle.wl_grammar.specs.declared.frame.Command.{Command}
use Rattle.wl_broker_reports.specs.ReportParts.{with_told, whole_of}
use Rattle.wl_broker.specs.declared.seat.TabSeat.TheVariants.{Joined, Dead}
use Rattle.wl_broker.specs.Broker.{BrokerState, drafted, manager_of, settled_at, with_seat, is_active, is_lock, limit_of, partial_of}
use Rattle.wl_broker.proofs.Activity.{manager_of-settled_at, manager_of-settled_at_other}
use Rattle.wl_broker.proofs.Takings.{Takes, joins, keeps, repeats, performs, Buries, again, stranger, ends, taking-Takes, burial-Buries}
use Rattle.wl_agent.specs.Tab.{TabState, operation_of, is_request}
use Rattle.wl_world_model.specs.World.{WorldState, empty_world, tab_of, run}
use Rattle.wl_world_model.specs.Holdings.{IsHonest}
use Rattle.std.specs.List.{list_any}
use Rattle.wl_draft.specs.Tables.{Table, find}
use Rattle.wl_tab.specs.Tabs.{tab_in}
use Rattle.wl_world_model.specs.declared.event.Event.{Event}
use Rattle.wl_world_model.proofs.exclusion.Invariant.{broker_of, was_opened, up_message}
use Rattle.wl_world_model.proofs.exclusion.ToldParts.{with_told-HasParts, whole-entries}
use Rattle.wl_library_model.proofs.Later.{Later}
use Rattle.wl_library_model.proofs.Happens.{Good}
use Rattle.wl_library_model.proofs.ProgressPlaces.{at_broker}
use Rattle.wl_quiescence.proofs.calls.Once.{said-part}
use Rattle.wl_quiescence.proofs.facts.Tabs.{ActsOnce}
use Rattle.wl_quiescence.proofs.facts.Induction.{Kept, run-kept}
use Rattle.wl_quiescence.proofs.facts.Reported.{Grows, one-grows, TellsLocks, run-tells}
use Rattle.wl_world_model.proofs.exclusion.HeldAfterSettling.{Stands, settle-stands, left_waiting-waited, without-fewer}
use Rattle.wl_world_model.proofs.order.Standings.{restored-stands, ended-stands, drafted-stands}

-- Rows that wait

settle-waits : (m : Locks) (r : Row) → In r (settle m).waiting → In r m.waiting
unfolding settle
settle-waits m r i = ⊎_elim (λ a. absurd (In-nil a)) (λ j. j) (left_waiting-waited m.held [] m.waiting i)

pub drafted-waits : (m : Locks) (t n : ℕ) (o : Operation) (r : Row) → In r (drafted t n o m).waiting → In r m.waiting ⊎ ((is_request o ≡ true) × (r.client ≡ t) × (r.number ≡ n))
unfolding queued probed released aborted
drafted-waits m t n (Request mode true name) r i = inl (either (λ z. In r z.waiting → In r m.waiting) (is_grantable m.held m.waiting (row_of t n name mode)) (record { held = m.held ++ row_of t n name mode ∷ []; waiting = m.waiting }) m (λ _ j. j) (λ _ j. j) i)
drafted-waits m t n (Request mode false name) r i = ⊎_elim inl (λ a. let e = In-one a in inr (refl, ap (λ (z : Row). z.client) e, ap (λ (z : Row). z.number) e)) (In-append_cases m.waiting (row_of t n name mode ∷ []) (settle-or i))
  where
    settle-or : In r (queued (row_of t n name mode) m).waiting → In r (m.waiting ++ row_of t n name mode ∷ [])
    settle-or j = j
drafted-waits m t n (Release k) r i = inl i
drafted-waits m t n (Abort k) r i = inl (without-fewer t k m.waiting i)
drafted-waits m t n Query r i = inl i

pub restored-waits : (m : Locks) (t : ℕ) (es : List Entry) (r : Row) → In r (restored t es m).waiting → In r m.waiting ⊎ In r (waiting_of t es)
unfolding restored
restored-waits m t es r i = In-append_cases m.waiting (waiting_of t es) i

pub ended-waits : (m : Locks) (t : ℕ) (r : Row) → In r (ended t m).waiting → In r m.waiting
unfolding ended
ended-waits m t r i = (In-filter_cases (λ x. not (x.client == t)) m.waiting i).0

settle_if-stands : (x : Bool) (m : Locks) (r : Row) → Stands r (settle_if x m) → Stands r m
settle_if-stands true m r i = settle-stands m i
settle_if-stands false m r i = i

pub settle_if-waits : (x : Bool) (m : Locks) (r : Row) → In r (settle_if x m).waiting → In r m.waiting
settle_if-waits true m r i = settle-waits m r i
settle_if-waits false m r i = i

-- The rows of a report are of its entries, and the rows that wait are of entries that wait.
pub entries-row : (t : ℕ) (q : Entry → Bool) (es : List Entry) (r : Row) → In r (rows_of t (filter q es)) → (e : Entry) × In e es × (q e ≡ true) × (r.client ≡ t) × (r.number ≡ e.number)
entries-row t q es r i =
    let o = In-map_cases (λ (e : Entry). row_of t e.number e.name e.mode) (filter q es) i in
    let c = In-filter_cases q es o.1 in (o.0, c.0, c.1, ap (λ (z : Row). z.client) o.2, ap (λ (z : Row). z.number) o.2)

entry-row : (t : ℕ) (es : List Entry) (r : Row) → In r (held_of t es) ⊎ In r (waiting_of t es) → (e : Entry) × In e es × (r.client ≡ t) × (r.number ≡ e.number)
entry-row t es r i = ⊎_elim
    (λ j. let o = entries-row t (λ e. e.held) es r j in (o.0, o.1, o.3, o.4))
    (λ j. let o = entries-row t (λ e. not e.held) es r j in (o.0, o.1, o.3, o.4)) i

-- What is true of rows

-- The row's tab, if it is honest, has requested the lock.
abbrev IsLockRow : Table TabState → List ℕ → Row → Type 0
IsLockRow tabs corrupt r =
    list_any (λ u. u == r.client) corrupt ≡ false →
    (r.number < length (tab_in r.client (find tabs r.client)).issued) × (is_lock (operation_of (tab_in r.client (find tabs r.client)) r.number) ≡ true)

abbrev IsRequestRow : Table TabState → List ℕ → Row → Type 0
IsRequestRow tabs corrupt r = list_any (λ u. u == r.client) corrupt ≡ false → is_request (operation_of (tab_in r.client (find tabs r.client)) r.number) ≡ true

abbrev AreFine : Table TabState → List ℕ → Locks → Type 0
AreFine tabs corrupt m = (r : Row) → (Stands r m → IsLockRow tabs corrupt r) × (In r m.waiting → IsRequestRow tabs corrupt r)

abbrev AllFine : Table TabState → List ℕ → BrokerState → Type 0
AllFine tabs corrupt b = (q : ℕ) → AreFine tabs corrupt (manager_of b q)

abbrev FineAt : WorldState → BrokerState → Type 0
FineAt w b = AllFine w.tabs w.corrupt b

settled-fine : (tabs : Table TabState) (corrupt : List ℕ) (b : BrokerState) (p : ℕ) (m : Locks) → AllFine tabs corrupt b → AreFine tabs corrupt m → AllFine tabs corrupt (settled_at b p m)
settled-fine tabs corrupt b p m x y q = ⊎_elim
    (λ e r.
    let same : manager_of (settled_at b p m) q ≡ settle_if (is_active b p) m = ap (manager_of (settled_at b p m)) e ∙ manager_of-settled_at b p m in (
      λ i. (y r).0 (settle_if-stands (is_active b p) m r (subst (Stands r) same i)),
      λ i. (y r).1 (settle_if-waits (is_active b p) m r (subst (λ (z : Locks). In r z.waiting) same i)),
    ))
    (λ d. subst (AreFine tabs corrupt) (sym (manager_of-settled_at_other b p m q d)) (x q))
    (cases_eq q p)

-- Messages

module _ (w : WorldState) (b : BrokerState) (g : Good (at_broker w (Some b))) (tells : (t : ℕ) → TellsLocks (tab_of w t)) (x : FineAt w b) where
  performs-fine : (t p : ℕ) (c : Command) → In (up_message t p (up.Command c)) w.bag → AreFine w.tabs w.corrupt (drafted t c.number c.operation (manager_of b p))
  performs-fine t p c i r =
      let m = manager_of b p in
      let own : IsHonest w t → (c.number < length (tab_of w t).issued) × (operation_of (tab_of w t) c.number ≡ c.operation) = ((g.sound.messages t).commands p c i).2 in (
        λ j. ⊎_elim (λ o. (x p r).0 o)
            (λ o h. let s = own (subst (λ z. IsHonest w z) o.1 h) in
            subst (λ u. (r.number < length (tab_of w u).issued) × (is_lock (operation_of (tab_of w u) r.number) ≡ true)) (sym o.1)
            (subst (λ n. (n < length (tab_of w t).issued) × (is_lock (operation_of (tab_of w t) n) ≡ true)) (sym o.2) (s.0, ap is_lock s.1 ∙ o.0)))
            (drafted-stands m t c.number c.operation r j),
        λ j. ⊎_elim (λ o. (x p r).1 o)
            (λ o h. let s = own (subst (λ z. IsHonest w z) o.1 h) in
            subst (λ u. is_request (operation_of (tab_of w u) r.number) ≡ true) (sym o.1)
            (subst (λ n. is_request (operation_of (tab_of w t) n) ≡ true) (sym o.2) (ap is_request s.1 ∙ o.0)))
            (drafted-waits m t c.number c.operation r j),
      )

  joins-fine : (t p : ℕ) (es : List Entry) → (IsHonest w t → es ≡ (tab_of w t).report.entries) → AreFine w.tabs w.corrupt (restored t es (manager_of b p))
  joins-fine t p es same r =
      let m = manager_of b p in (
        λ j. ⊎_elim (λ o. (x p r).0 o)
            (λ o h.
            let e = entry-row t es r o in
            let s = tells t e.0 (subst (In e.0) (same (subst (λ z. IsHonest w z) e.2 h)) e.1) in
            subst (λ u. (r.number < length (tab_of w u).issued) × (is_lock (operation_of (tab_of w u) r.number) ≡ true)) (sym e.2)
            (subst (λ n. (n < length (tab_of w t).issued) × (is_lock (operation_of (tab_of w t) n) ≡ true)) (sym e.3) (s.0, s.1)))
            (restored-stands m t es r j),
        λ j. ⊎_elim (λ o. (x p r).1 o)
            (λ o h.
            let e = entries-row t (λ e. not e.held) es r o in
            let s = tells t e.0 (subst (In e.0) (same (subst (λ z. IsHonest w z) e.3 h)) e.1) in
            subst (λ u. is_request (operation_of (tab_of w u) r.number) ≡ true) (sym e.3)
            (subst (λ n. is_request (operation_of (tab_of w t) n) ≡ true) (sym e.4) (s.2 (not-true _ e.2))))
            (restored-waits m t es r j),
      )

  takes-fine : (t p : ℕ) {u : Upward} {c : BrokerState} {outs : List Addressed} → In (up_message t p u) w.bag → Takes b t p u c outs → FineAt w c
  takes-fine t p i (joins {u = u} {x = y} told passes may whole) =
      let k = with_told p y (partial_of b t) in
      settled-fine w.tabs w.corrupt (with_seat t (Joined p (whole_of k).base (whole_of k).limit) b) p (restored t (whole_of k).entries (manager_of b p)) x
      (joins-fine t p (whole_of k).entries (λ h.
      let a = tab_of w t in
      let part = said-part w b g.sound t p u y told i passes.now h in
      whole-entries a.in_parts a.report k (with_told-HasParts a.in_parts a.report p y (partial_of b t) part (λ z e. (((g.sound.seats t).partial z e).1 h).1)) whole))
  takes-fine t p i (keeps told passes may part) = x
  takes-fine t p i (repeats passes served old) = x
  takes-fine t p i (performs {c = c} passes served next) =
      settled-fine w.tabs w.corrupt (with_seat t (Joined p (c.number + 1) (limit_of b t)) b) p (drafted t c.number c.operation (manager_of b p)) x (performs-fine t p c i)

buries-fine : (w : WorldState) (b : BrokerState) (t : ℕ) {c : BrokerState} {outs : List Addressed} → FineAt w b → Buries b t c outs → FineAt w c
buries-fine w b t x (again dead) = x
buries-fine w b t x (stranger alive place) = x
buries-fine w b t x (ends {p = p} alive place) =
    settled-fine w.tabs w.corrupt (with_seat t Dead b) p (ended t (manager_of b p)) x
    (λ r. (λ j. (x p r).0 (ended-stands (manager_of b p) t r j).0, λ j. (x p r).1 (ended-waits (manager_of b p) t r j)))

fine-later : (w v : WorldState) (b : BrokerState) → ((q : ℕ) (r : Row) → Stands r (manager_of b q) → was_opened w r.client ≡ true) → Later w v
    → ActsOnce w v → FineAt w b → FineAt v b
fine-later w v b opened later acts x q r =
    let on : Stands r (manager_of b q) → Grows (tab_of w r.client) (tab_of v r.client) = λ i. one-grows _ _ _ (acts.one r.client (opened q r i)) in (
      λ i h. let o = (x q r).0 i (later.honest r.client h) in let s = on i in let le = s.more in let lt = o.0 in (omega (arith, le, lt), ap is_lock (s.same r.number o.0) ∙ o.1),
      λ i h. let n = later.honest r.client h in ap is_request ((on (inr i)).same r.number ((x q r).0 (inr i) n).0) ∙ (x q r).1 i n,
    )

fine-kept : Kept (λ w. (t : ℕ) → TellsLocks (tab_of w t)) FineAt
fine-kept = record {
  same = λ w v b t k c x. subst (λ z. AllFine z v.corrupt b) (sym t) (subst (λ z. AllFine w.tabs z b) (sym c) x);
  later = λ w v g f later one e x. subst (FineAt v) (sym e) (fine-later w v (broker_of w) (λ q r i. (g.sound.locks.known q r i).0) later one x);
  takes = λ w b g f x s i c outs e. takes-fine w b g f x s.tab s.partition i (taking-Takes b s c outs e);
  dies = λ w b t x. buries-fine w b t x (burial-Buries b t);
  first = λ q r. (λ i. absurd (⊎_elim In-nil In-nil i), λ i. absurd (In-nil i));
  fresh = λ w v b g listed t c up low x q r. (λ i. absurd (⊎_elim In-nil In-nil i), λ i. absurd (In-nil i));
}

pub run-fine : (es : List Event) → FineAt (run es empty_world) (broker_of (run es empty_world))
run-fine es = run-kept (λ w. (t : ℕ) → TellsLocks (tab_of w t)) FineAt fine-kept run-tells es
