-- The broker has each number of an honest tab once, if each report has its numbers once.
use Rattle.std.proofs.Common.{◌≡◌, ℕ, ◌+◌, Bool, true, false, not, ◌&&◌, ◌||◌, List, [], ◌∷◌, length, Option, Some, None, is_some, refl, sym, ap, ◌∙◌, subst}
use Rattle.std.specs.Prelude.{⊤}
use Rattle.std.specs.Prelude.{◌==◌, nat_lt, nat_le}
use Rattle.std.proofs.lemmas.Bool.{not-true, not-false, eqb-true, eq-eqb}
use Rattle.wl_draft.specs.Locks.{Locks, live}
use Rattle.wl_draft.specs.Membership.{In, Here, Later as Behind}
use Rattle.wl_draft.proofs.Membership.{either}
use Rattle.wl_grammar.specs.declared.frame.Operation.{Operation}
use Rattle.wl_grammar.specs.declared.frame.Operation.TheVariants.{Request, Release, Abort, Query}
use Rattle.wl_grammar.specs.declared.frame.Stamped.{Stamped}
use Rattle.wl_grammar.specs.declared.frame.Addressed.{Addressed}
use Rattle.wl_grammar.specs.declared.frame.Upward.{Upward}
use Rattle.wl_grammar.specs.declared.frame.Upward.TheVariants as up
use Rattle.wl_grammar.specs.Generation.{generation_of}
use Rattle.wl_broker_reports.specs.ReportParts.{content_of, Told, at_once, in_part, has_held, all_below, fits, has_part, with_told, is_whole, whole_of}
use Rattle.wl_broker.specs.declared.seat.TabSeat.{TabSeat}
use Rattle.wl_broker.specs.declared.seat.TabSeat.TheVariants.{Joined, Dead}
use Rattle.wl_broker.specs.declared.dropped.Dropped.TheVariants.{OldGeneration, LaterGeneration, NotJoined, Recovering, OutOfTurn, DeadTab, AlreadyJoined, HeldByNewcomer, BadReport, Misplaced, TooMany, PartTwice}
use Rattle.wl_broker.specs.Broker.{BrokerState, Taking, Drops, Does, seat_of, partial_of, manager_of, is_joined, is_dead, next_of, limit_of, is_active, is_listed, listed_at, is_misplaced, place_of, with_seat, settled_at, later_answer, is_lock, keeping, join, join_if, take_report_part, perform, take_command, take_inner, taking, buried_at, death_step}
use Rattle.wl_limits.specs.declared.tabs.TheConstants.{LAST_NUMBER}
use Rattle.wl_kernel.specs.Kernel.{is_opened, may_stop, start_refusal, partition_number}
use Rattle.wl_kernel.specs.Routes.{frame_of}
use Rattle.wl_world_messages.specs.declared.message.Message.{Message}
use Rattle.wl_world_messages.specs.declared.message.Message.TheVariants.{Up, Down, Across}
use Rattle.wl_world_messages.specs.Messages.{is_sent}
use Rattle.wl_world_messages.proofs.Same.{is_sent-In}
use Rattle.wl_world_model.specs.declared.event.Event.{Event}
use Rattle.wl_world_model.specs.declared.event.Event.TheVariants as event
use Rattle.wl_world_model.specs.World.{WorldState, empty_world, tab_of, lives, partition_of, unchanged, if_allowed, arrives_at_broker, arrives, tells, stops, starts, step_result, after_event, run}
use Rattle.wl_world_model.proofs.AtBroker.{with_broker, follows, buries, begins}
use Rattle.wl_world_model.proofs.exclusion.Invariant.{Sound, broker_of, was_opened, up_message}
use Rattle.wl_world_model.proofs.exclusion.ActsWithinAGeneration.{after}
use Rattle.wl_world_model.proofs.exclusion.TakenSeats.{each_seat}
use Rattle.wl_world_model.proofs.exclusion.SoundRuns.{run-sound}
use Rattle.std.proofs.Common.{◌⊎◌, ⊎_elim, ◌<◌, ◌≤◌, map, cond, arith}
use Rattle.std.proofs.lemmas.Bool.{cases_Bool, ltb-false}
use Rattle.wl_draft.proofs.Membership.{apart, In-nil}
use Rattle.wl_world_model.specs.Holdings.{IsHonest}
use Rattle.wl_library_model.proofs.Later.{Later}
use Rattle.wl_library_model.proofs.Happens.{Good, happens-on, happens-good, empty-fit}
use Rattle.std.specs.List.{list_any}
use Rattle.std.proofs.lemmas.Bool.{and_parts}
use Rattle.wl_world_model.proofs.exclusion.Invariant.{broker_in}
use Rattle.wl_library_model.specs.Library.{Library, is_taken}
use Rattle.wl_library_model.specs.Library.{lives as lives_in}
use Rattle.wl_library_model.proofs.Carried.{Sim}
use Rattle.std.proofs.Common.{◌++◌, ◌≢◌, inl, inr, length, map, filter, length-append}
use Rattle.std.proofs.lemmas.Bool.{cases_eq, or_parts}
use Rattle.wl_draft.specs.declared.row.Row.{Row}
use Rattle.wl_draft.specs.declared.row.Entry.{Entry}
use Rattle.wl_draft.specs.Locks.{settle_if, is_pair, released as released_locks, aborted as aborted_locks, ended as ended_locks, restored, held_of, waiting_of, rows_of, row_of}
use Rattle.std.proofs.lemmas.List.Elements.{filter-append}
use Rattle.wl_draft.proofs.Membership.{by_test}
use Rattle.wl_broker.specs.Broker.{has_arrived}
use Rattle.wl_world_model.proofs.exclusion.ToldParts.{IsPartOf, body-told, with_told-HasParts, whole-entries}
use Rattle.wl_draft.proofs.TableLemmas.{at-put_same, at-put_other}
use Rattle.wl_draft.proofs.Membership.{In-filter, In-filter_cases}
use Rattle.wl_draft.proofs.Settled.{settle-MovesGrants}
use Rattle.wl_broker.specs.Broker.{next_in, drafted}
use Rattle.wl_broker.proofs.Others.{drafted-SameOfOthers, restored-SameOfOthers}
use Rattle.wl_library_model.proofs.ProgressPlaces.{calm, calm-allowed, calm-becomes, calm-takes_frame, at_broker, Steady, Numbered, steady-after, empty-steady}
use Rattle.wl_quiescence.proofs.rest.Invariant.{numbers_at}
use Rattle.wl_quiescence.proofs.hub.Rows.{Within, within-In, within-same, grants-within, others-within, numbers_in, weight, weight-append}
use Rattle.wl_quiescence.proofs.hub.Drafted.{drafted-within}
use Rattle.wl_quiescence.proofs.calls.Room.{Once, OnceBelow, OneOfEach, after-below}

-- Fewer of each kind

few-of : (k : ℕ) (ys : List ℕ) → Once ys → length (filter (λ z. z == k) ys) ≤ 1
few-of k [] o = omega arith
few-of k (y ∷ ys) o =
    let h = few-of k ys o.1 in
    either (λ zs. length zs ≤ 1) (y == k) (y ∷ filter (λ z. z == k) ys) (filter (λ z. z == k) ys)
    (λ e. let n : length (filter (λ z. z == k) ys) ≡ 0 = none (filter (λ z. z == k) ys) (λ j i. let c = In-filter_cases (λ z. z == k) ys i in
    o.0 (subst (λ z. In z ys) (eqb-true j k c.1 ∙ sym (eqb-true y k e)) c.0)) in omega (arith, n))
    (λ _. h)
  where
    none : (zs : List ℕ) → ((j : ℕ) → In j zs → ⊥) → length zs ≡ 0
    none [] f = refl
    none (z ∷ zs) f = absurd (f z Here)

once-of : (xs : List ℕ) → ((k : ℕ) → length (filter (λ z. z == k) xs) ≤ 1) → Once xs
once-of [] f = tt
once-of (x ∷ xs) f = (
  (λ i.
      let le : length (x ∷ filter (λ z. z == x) xs) ≤ 1 = subst (λ b. length (cond b (x ∷ filter (λ z. z == x) xs) (filter (λ z. z == x) xs)) ≤ 1) (eq-eqb x x refl) (f x) in
      let lt = some (filter (λ z. z == x) xs) (In-filter (λ z. z == x) xs i (eq-eqb x x refl)) in omega (arith, le, lt)),
  once-of xs (λ k. less k (f k)),
)
  where
    some : {k : ℕ} (zs : List ℕ) → In k zs → 0 < length zs
    some [] i = absurd (In-nil i)
    some (z ∷ zs) i = omega arith

    less : (k : ℕ) → length (filter (λ z. z == k) (x ∷ xs)) ≤ 1 → length (filter (λ z. z == k) xs) ≤ 1
    less k = either (λ zs. length zs ≤ 1 → length (filter (λ z. z == k) xs) ≤ 1) (x == k) (x ∷ filter (λ z. z == k) xs) (filter (λ z. z == k) xs) (λ _ le. omega (arith, le)) (λ _ le. le)

pub within-once : (n : ℕ) (xs ys : List ℕ) → Within xs ys → OnceBelow n ys → OnceBelow n xs
within-once n xs ys w o = (once-of xs (λ k. let a = w.most (λ z. z == k) in let b = few-of k ys o.0 in omega (arith, a, b)), λ k i. o.1 k (within-In xs ys w i))

pub fewer-weight : (p : ℕ → Bool) (t : ℕ) (q : Row → Bool) (rows : List Row) → weight p t (filter q rows) ≤ weight p t rows
fewer-weight p t q [] = omega arith
fewer-weight p t q (r ∷ rows) =
    let h = fewer-weight p t q rows in
    let a = weight-append p t (r ∷ []) rows in
    either (λ zs. weight p t zs ≤ weight p t (r ∷ rows)) (q r) (r ∷ filter q rows) (filter q rows)
    (λ _. let b = weight-append p t (r ∷ []) (filter q rows) in omega (arith, a, b, h)) (λ _. omega (arith, a, h))

pub both-fewer : (t : ℕ) (m n : Locks) → ((p : ℕ → Bool) → weight p t n.held ≤ weight p t m.held) → ((p : ℕ → Bool) → weight p t n.waiting ≤ weight p t m.waiting) → Within (numbers_at n t) (numbers_at m t)
both-fewer t m n f g = record {
  most = λ p. let a = f p in let b = g p in let c = weight-append p t n.held n.waiting in let d = weight-append p t m.held m.waiting in omega (arith, a, b, c, d);
}

ended-within : (s t : ℕ) (m : Locks) → Within (numbers_at (ended_locks s m) t) (numbers_at m t)
unfolding ended_locks
ended-within s t m = both-fewer t m (ended_locks s m) (λ p. fewer-weight p t (λ (r : Row). not (r.client == s)) m.held) (λ p. fewer-weight p t (λ (r : Row). not (r.client == s)) m.waiting)

settled-within : (x : Bool) (m : Locks) (t : ℕ) → Within (numbers_at (settle_if x m) t) (numbers_at m t)
settled-within true m t = grants-within t m _ _ (record { parts = (settle-MovesGrants m).parts; behind = (settle-MovesGrants m).behind })
settled-within false m t = within-same (numbers_at m t) (numbers_at m t) refl

-- The command of the tab's turn.
drafted-once : (t n : ℕ) (o : Operation) (m : Locks) → OnceBelow n (numbers_at m t) → OnceBelow (n + 1) (numbers_at (drafted t n o m) t)
unfolding released_locks aborted_locks
drafted-once t n (Request mode b name) m o = within-once (n + 1) _ _ (drafted-within t n (Request mode b name) m (λ j e. absurd (other j e))) (after-below (Request mode b name) n (numbers_at m t) o)
  where
    other : (j : ℕ) → Request mode b name ≡ Release j → ⊥
    other j e = cc
drafted-once t n (Release j) m o =
    after-below Query n (numbers_at (drafted t n (Release j) m) t) (within-once n _ _ (both-fewer t m (drafted t n (Release j) m) (λ p. fewer-weight p t (λ (r : Row). not (is_pair t j r)) m.held) (λ p. omega arith)) o)
drafted-once t n (Abort j) m o =
    after-below Query n (numbers_at (drafted t n (Abort j) m) t) (within-once n _ _ (both-fewer t m (drafted t n (Abort j) m) (λ p. fewer-weight p t (λ (r : Row). not (is_pair t j r)) m.held) (λ p. fewer-weight p t (λ (r : Row). not (is_pair t j r)) m.waiting)) o)
drafted-once t n Query m o = after-below Query n (numbers_at m t) o

-- The broker

abbrev OnceIn : WorldState → BrokerState → ℕ → ℕ → Type 0
OnceIn w b t n = OnceBelow n (numbers_at (manager_of b (partition_of w t)) t)

abbrev OnceAt : WorldState → BrokerState → Type 0
OnceAt w b = (t : ℕ) → IsHonest w t → is_joined (seat_of b t) ≡ true → OnceIn w b t (next_of b t)

abbrev TakesOnce : WorldState → Taking → Type 0
TakesOnce w (Drops reason) = ⊤
TakesOnce w (Does b outs) = OnceAt w b

settled-in : (w : WorldState) (b : BrokerState) (p t n : ℕ) (m : Locks) → (partition_of w t ≡ p → OnceBelow n (numbers_at m t)) → ((partition_of w t ≡ p → ⊥) → OnceIn w b t n) → OnceIn w (settled_at b p m) t n
unfolding settled_at
settled-in w b p t n m f g = ⊎_elim
    (λ e. subst (λ (z : Locks). OnceBelow n (numbers_at z t)) (sym (ap (λ q. manager_of (settled_at b p m) q) e ∙ at-put_same _ p (settle_if (is_active b p) m) b.managers))
    (within-once n _ _ (settled-within (is_active b p) m t) (f e)))
    (λ d. subst (λ (z : Locks). OnceBelow n (numbers_at z t)) (sym (at-put_other _ p (settle_if (is_active b p) m) b.managers (partition_of w t) d)) (g d))
    (cases_eq (partition_of w t) p)

-- A tab takes a seat, and of other tabs there is no more than before.
seat-once : (w : WorldState) (b : BrokerState) (t p : ℕ) (seat : TabSeat) (m : Locks) → OnceAt w b → ((u : ℕ) → u ≢ t → Within (numbers_at m u) (numbers_at (manager_of b p) u))
    → (IsHonest w t → is_joined (Some seat) ≡ true → (partition_of w t ≡ p) × OnceBelow (next_in (Some seat)) (numbers_at m t)) → OnceAt w (settled_at (with_seat t seat b) p m)
unfolding settled_at
seat-once w b t p seat m x others own u =
    each_seat b t seat (λ v o. IsHonest w v → is_joined o ≡ true → OnceIn w (settled_at (with_seat t seat b) p m) v (next_in o))
    (λ h j. let f = own h j in settled-in w (with_seat t seat b) p t (next_in (Some seat)) m (λ _. f.1) (λ d. absurd (d f.0)))
    (λ v d h j. settled-in w (with_seat t seat b) p v (next_of b v) m
    (λ e. within-once (next_of b v) _ _ (others v (λ z. d (sym z))) (subst (λ q. OnceBelow (next_of b v) (numbers_at (manager_of b q) v)) e (x v h j))) (λ _. x v h j))
    u

-- A report

row-number : (t : ℕ) (e : Entry) → numbers_in t (row_of t e.number e.name e.mode ∷ []) ≡ e.number ∷ []
row-number t e = ap (λ b. map (λ (r : Row). r.number) (cond b (row_of t e.number e.name e.mode ∷ []) [])) (eq-eqb t t refl)

rows-weight : (p : ℕ → Bool) (t : ℕ) (es : List Entry) → weight p t (held_of t es) + weight p t (waiting_of t es) ≡ length (filter p (map (λ (e : Entry). e.number) es))
rows-weight p t [] = omega arith
rows-weight p t (e ∷ es) =
    let h = rows-weight p t es in
    let r = row_of t e.number e.name e.mode in
    let a = weight-append p t (r ∷ []) (held_of t es) in
    let b = weight-append p t (r ∷ []) (waiting_of t es) in
    let c = ap (λ z. length (filter p z)) (row-number t e) in
    let d = ap length (filter-append p (e.number ∷ []) (map (λ (e : Entry). e.number) es)) ∙ length-append (filter p (e.number ∷ [])) (filter p (map (λ (e : Entry). e.number) es)) in
    by_test (λ z. weight p t (rows_of t (cond z (e ∷ filter (λ (e : Entry). e.held) es) (filter (λ (e : Entry). e.held) es))) + weight p t (rows_of t (cond (not z) (e ∷ filter (λ (e : Entry). not e.held) es) (filter (λ (e : Entry). not e.held) es))) ≡ length (filter p (e.number ∷ map (λ (e : Entry). e.number) es))) e.held
    (λ _. omega (arith, h, a, c, d)) (λ _. omega (arith, h, b, c, d))

none-of : (t : ℕ) (rows : List Row) → ((r : Row) → In r rows → r.client ≡ t → ⊥) → numbers_in t rows ≡ []
none-of t [] f = refl
none-of t (r ∷ rows) f = either (λ zs. map (λ (r : Row). r.number) zs ≡ []) (r.client == t) (r ∷ filter (λ (r : Row). r.client == t) rows) (filter (λ (r : Row). r.client == t) rows)
    (λ y. absurd (f r Here (eqb-true r.client t y))) (λ _. none-of t rows (λ s i. f s (Behind i)))

pub restored-within : (t : ℕ) (es : List Entry) (m : Locks) → ((r : Row) → In r m.held ⊎ In r m.waiting → r.client ≡ t → ⊥) → Within (numbers_at (restored t es m) t) (map (λ (e : Entry). e.number) es)
unfolding restored
restored-within t es m f = record {
  most = λ p.
      let a = weight-append p t (m.held ++ held_of t es) (m.waiting ++ waiting_of t es) in
      let b = weight-append p t m.held (held_of t es) in
      let c = weight-append p t m.waiting (waiting_of t es) in
      let d = ap (λ z. length (filter p z)) (none-of t m.held (λ r i. f r (inl i))) in
      let e = ap (λ z. length (filter p z)) (none-of t m.waiting (λ r i. f r (inr i))) in
      let g = rows-weight p t es in
      omega (arith, a, b, c, d, e, g);
}

-- Each report has its numbers once, below its base.
abbrev pub Reports : WorldState → Type 0
Reports w = (t : ℕ) → OnceBelow (tab_of w t).report.base (map (λ (e : Entry). e.number) (tab_of w t).report.entries)

module _ (w : WorldState) (b : BrokerState) (s : Sound (with_broker b w)) (x : OnceAt w b) (reports : Reports w) (t p : ℕ) (home : p ≡ partition_of w t) where
  perform-once : (n : ℕ) (o : Operation) → is_joined (seat_of b t) ≡ true → n ≡ next_of b t → TakesOnce w (perform b t p n o)
  unfolding perform
  perform-once n o j e =
      seat-once w b t p (Joined p (n + 1) (limit_of b t)) (drafted t n o (manager_of b p)) x
      (λ u d. others-within t u (manager_of b p) (drafted t n o (manager_of b p)) d (drafted-SameOfOthers t n o (manager_of b p)))
      (λ h _. (sym home, drafted-once t n o (manager_of b p) (subst (λ q. OnceBelow n (numbers_at (manager_of b q) t)) (sym home) (subst (λ z. OnceIn w b t z) (sym e) (x t h j)))))

  command-once : (n : ℕ) (o : Operation) → TakesOnce w (take_command b t p n o)
  unfolding take_command
  command-once n o =
      either (TakesOnce w) (not (is_joined (seat_of b t))) (Drops NotJoined) _ (λ _. tt)
      (λ j. either (TakesOnce w) (not (is_active b p)) (Drops Recovering) _ (λ _. tt)
      (λ _. either (TakesOnce w) (nat_lt (next_of b t) n || n == LAST_NUMBER) (Drops OutOfTurn) _ (λ _. tt)
      (λ y. either (TakesOnce w) (nat_lt n (next_of b t)) (Does b (later_answer b t p n o ∷ [])) _ (λ _. x)
      (λ z. either (TakesOnce w) (is_lock o && nat_le (limit_of b t) (live (manager_of b p) t)) (Drops TooMany) _ (λ _. tt)
      (λ _. let up = ltb-false (next_of b t) n (or_parts (nat_lt (next_of b t) n) (n == LAST_NUMBER) y).0 in let lo = ltb-false n (next_of b t) z in
      perform-once n o (not-false _ j) (omega (arith, up, lo)))))))

  -- The last part of the report of a tab that has not come.
  join-once : (y : Told) → is_joined (seat_of b t) ≡ false → is_dead (seat_of b t) ≡ false → is_whole (with_told p y (partial_of b t)) ≡ true
      → (IsHonest w t → IsPartOf (tab_of w t).in_parts (tab_of w t).report y) → TakesOnce w (join b t p (whole_of (with_told p y (partial_of b t))))
  unfolding join with_told
  join-once y nj nd whole part =
      let k = with_told p y (partial_of b t) in
      let r = whole_of k in
      let a = tab_of w t in
      seat-once w b t p (Joined p r.base r.limit) (restored t r.entries (manager_of b p)) x
      (λ u d. others-within t u (manager_of b p) (restored t r.entries (manager_of b p)) d (restored-SameOfOthers t r.entries (manager_of b p)))
      (λ h _.
      let parts = with_told-HasParts a.in_parts a.report p y (partial_of b t) (part h) (λ z e. (((s.seats t).partial z e).1 h).1) in
      let same : r.entries ≡ a.report.entries = whole-entries a.in_parts a.report k parts whole in
      let base : y.base ≡ a.report.base = (part h).base in (
        sym home,
        within-once r.base _ _
            (restored-within t r.entries (manager_of b p) (λ q i e. apart (subst (λ z. has_arrived (seat_of b z) ≡ true) e (s.locks.known p q i).2) (neither (is_joined (seat_of b t)) (is_dead (seat_of b t)) nj nd)))
            (subst (λ z. OnceBelow y.base (map (λ (e : Entry). e.number) z)) (sym same) (subst (λ z. OnceBelow z (map (λ (e : Entry). e.number) a.report.entries)) (sym base) (reports t))),
      ))
    where
      neither : (a c : Bool) → a ≡ false → c ≡ false → (a || c) ≡ false
      neither a c e f = rw (e, f) refl

  told-once : (y : Told) → is_dead (seat_of b t) ≡ false → (IsHonest w t → IsPartOf (tab_of w t).in_parts (tab_of w t).report y) → TakesOnce w (take_report_part b t p y)
  unfolding take_report_part join_if
  told-once y nd part =
      let k = with_told p y (partial_of b t) in
      either (TakesOnce w) (is_joined (seat_of b t)) (Drops AlreadyJoined) _ (λ _. tt)
      (λ nj. either (TakesOnce w) (not (is_listed (listed_at t b.listed)) && has_held y.entries) (Drops HeldByNewcomer) _ (λ _. tt)
      (λ _. either (TakesOnce w) (not (all_below y.base y.entries && fits y (partial_of b t))) (Drops BadReport) _ (λ _. tt)
      (λ _. either (TakesOnce w) (has_part y (partial_of b t)) (Drops PartTwice) _ (λ _. tt)
      (λ _. either (TakesOnce w) (is_whole k) (join b t p (whole_of k)) (Does (keeping t k b) []) (λ v. join-once y nj nd v part) (λ _. x)))))

pub said-part : (w : WorldState) (b : BrokerState) → Sound (at_broker w (Some b)) → (t p : ℕ) (u : Upward) (y : Told) → content_of u ≡ Some y → In (up_message t p u) w.bag → generation_of u ≡ b.generation
    → IsHonest w t → IsPartOf (tab_of w t).in_parts (tab_of w t).report y
said-part w b s t p u y c i e h =
    let o = ((s.messages t).reports p u y c i).2 h in
    let lt = (s.tabs t).entered in let g : b.generation ≡ w.kernel.generation = s.current in let le = o.1 in
    (body-told (tab_of w t).in_parts (tab_of w t).report u y (o.2 (omega (arith, lt, g, le, e))) c).1

inner-once : (w : WorldState) (b : BrokerState) → Sound (at_broker w (Some b)) → OnceAt w b → Reports w → (t p : ℕ) (u : Upward) → In (up_message t p u) w.bag → generation_of u ≡ b.generation → is_dead (seat_of b t) ≡ false → TakesOnce w (take_inner b t p u)
inner-once w b s x rs t p (up.Command c) i e nd = command-once w b s x rs t p ((s.messages t).commands p c i).1 c.number c.operation
inner-once w b s x rs t p (up.Report r) i e nd = told-once w b s x rs t p ((s.messages t).reports p (up.Report r) (at_once r) refl i).1 (at_once r) nd (said-part w b s t p (up.Report r) (at_once r) refl i e)
inner-once w b s x rs t p (up.ReportPart r) i e nd = told-once w b s x rs t p ((s.messages t).reports p (up.ReportPart r) (in_part r) refl i).1 (in_part r) nd (said-part w b s t p (up.ReportPart r) (in_part r) refl i e)

taking-once : (w : WorldState) (b : BrokerState) → Sound (at_broker w (Some b)) → OnceAt w b → Reports w → (s : Stamped) → In (Up s) w.bag → TakesOnce w (taking b s)
unfolding taking
taking-once w b sound x rs s i =
    either (TakesOnce w) (nat_lt (generation_of s.inner) b.generation) (Drops OldGeneration) _ (λ _. tt)
    (λ lo. either (TakesOnce w) (nat_lt b.generation (generation_of s.inner)) (Drops LaterGeneration) _ (λ _. tt)
    (λ hi. either (TakesOnce w) (is_dead (seat_of b s.tab)) (Drops DeadTab) _ (λ _. tt)
    (λ nd. either (TakesOnce w) (is_misplaced b s.tab s.partition) (Drops Misplaced) _ (λ _. tt)
    (λ _. let p = ltb-false (generation_of s.inner) b.generation lo in let q = ltb-false b.generation (generation_of s.inner) hi in
    inner-once w b sound x rs s.tab s.partition s.inner i (omega (arith, p, q)) nd))))

buried-once : (w : WorldState) (b : BrokerState) (t : ℕ) (o : Option ℕ) → OnceAt w b → OnceAt w (buried_at (with_seat t Dead b) t o).0
buried-once w b t None x u = each_seat b t Dead (λ v o. IsHonest w v → is_joined o ≡ true → OnceIn w b v (next_in o)) (λ h j. apart j refl) (λ v d. x v) u
buried-once w b t (Some p) x u = seat-once w b t p Dead (ended_locks t (manager_of b p)) x (λ v d. ended-within t v (manager_of b p)) (λ h j. apart j refl) u

death-once : (w : WorldState) (b : BrokerState) (t : ℕ) → OnceAt w b → OnceAt w (death_step b t).0
unfolding death_step
death-once w b t x =
    either {A = BrokerState × List Addressed} (λ z. OnceAt w z.0) (is_dead (seat_of b t)) (b, []) (buried_at (with_seat t Dead b) t (place_of b t))
    (λ _. x) (λ _. buried-once w b t (place_of b t) x)

-- Events

abbrev pub AllOnce : WorldState → Type 0
AllOnce w = OnceAt w (broker_of w)

once-later : (w v : WorldState) → Sound w → Later w v → broker_of v ≡ broker_of w → AllOnce w → AllOnce v
once-later w v s later e x t h j =
    let honest = later.honest t h in
    let joined : is_joined (seat_of (broker_of w) t) ≡ true = subst (λ (z : BrokerState). is_joined (seat_of z t) ≡ true) e j in
    let opened : was_opened w t ≡ true = ⊎_elim (λ y. y) (λ n. absurd (
    let born = (s.tabs t).unopened n in let z : (tab_of w t).entered ≡ 0 = ap (λ y. y.entered) born.1 in
    let c = (s.seats t).joined honest joined in let pos = s.positive in omega (arith, z, c, pos))) (cases_Bool (was_opened w t)) in
    subst (λ (z : BrokerState). OnceIn v z t (next_of z t)) (sym e) (subst (λ q. OnceBelow (next_of (broker_of w) t) (numbers_at (manager_of (broker_of w) q) t)) (sym (later.opened t opened).1) (x t honest joined))

follows-once : (w : WorldState) (b : BrokerState) (o : Taking) → OnceAt w b → TakesOnce w o → AllOnce (after (with_broker b w) (follows (with_broker b w) o))
follows-once w b (Drops reason) s t = s
follows-once w b (Does c outs) s t = t

up-once : (w : WorldState) (v : Option BrokerState) → Sound (at_broker w v) → Reports w → AllOnce (at_broker w v) → (x : Stamped) → In (Up x) w.bag → AllOnce (after (at_broker w v) (arrives_at_broker (at_broker w v) x v))
up-once w None s rs y x i = y
up-once w (Some b) s rs y x i = follows-once w b (taking b x) y (taking-once w b s y rs x i)

tells-once : (w : WorldState) (v : Option BrokerState) (t : ℕ) → AllOnce (at_broker w v) → AllOnce (after (at_broker w v) (tells (at_broker w v) t v))
tells-once w None t y = y
tells-once w (Some b) t y =
    either (λ d. AllOnce (after (at_broker w (Some b)) d)) (is_opened w.kernel t && not (lives w t)) (buries (at_broker w (Some b)) t b) (unchanged (at_broker w (Some b)))
    (λ _. death-once w b t y)
    (λ _. y)

stops-once : (w : WorldState) (v : Option BrokerState) → AllOnce (at_broker w v) → AllOnce (after (at_broker w v) (stops (at_broker w v) v))
stops-once w None y = y
stops-once w (Some b) y =
    either (λ d. AllOnce (after (at_broker w (Some b)) d)) (may_stop w.kernel) _ (unchanged (at_broker w (Some b))) (λ _ t h j. apart j refl) (λ _. y)

starts-once : (w : WorldState) (ts : List ℕ) (v : Option BrokerState) → AllOnce (at_broker w v) → AllOnce (after (at_broker w v) (starts (at_broker w v) ts v))
starts-once w ts (Some b) y = y
starts-once w ts None y =
    either (λ d. AllOnce (after (at_broker w None) d)) (not (is_some (start_refusal ts w.kernel))) (begins (at_broker w None) ts) (unchanged (at_broker w None)) (λ _ t h j. apart j refl) (λ _. y)

arrives-once : (w : WorldState) → Good w → Numbered w → Reports w → AllOnce w → (m : Message) → In m w.bag → Later w (after w (arrives w m)) → AllOnce (after w (arrives w m))
arrives-once w g n rs y (Up x) i later = up-once w w.broker g.sound rs y x i
arrives-once w g n rs y (Down v x) i later = once-later w _ g.sound later (calm-allowed w (lives w x.tab) _ n (λ _. calm-takes_frame w x.tab (frame_of x.inner) n)).broker y
arrives-once w g n rs y (Across t x) i later = once-later w _ g.sound later (calm-allowed w (lives w t) _ n (λ _. calm-becomes w t _ [] n)).broker y

delivered-once : (w : WorldState) (m : Message) (b : Bool) → Good w → Numbered w → Reports w → AllOnce w → (b ≡ true → In m w.bag) → Later w (after w (if_allowed b w (arrives w m))) → AllOnce (after w (if_allowed b w (arrives w m)))
delivered-once w m true g n rs y i later = arrives-once w g n rs y m (i refl) later
delivered-once w m false g n rs y i later = y

once-after : (w : WorldState) (e : Event) → Good w → Numbered w → Reports w → AllOnce w → Later w (after_event w e) → AllOnce (after_event w e)
unfolding after_event step_result
once-after w (event.Deliver m) g n rs y later = delivered-once w m (is_sent m w.bag) g n rs y (λ h. is_sent-In m w.bag h) later
once-after w (event.Tell t) g n rs y later = tells-once w w.broker t y
once-after w event.Stop g n rs y later = stops-once w w.broker y
once-after w (event.Start ts) g n rs y later = starts-once w ts w.broker y
once-after w e g n rs y later = once-later w _ g.sound later (calm w e tt n).broker y

keeps-once : (es : List Event) (w : WorldState) → ((fs : List Event) → Reports (run fs w)) → Good w → Steady w → AllOnce w → AllOnce (run es w)
keeps-once [] w rs g y x = x
keeps-once (e ∷ es) w rs g y x =
    let later = (happens-on w e g.sound g.fit).later in
    keeps-once es (after_event w e) (λ fs. rs (e ∷ fs)) (happens-good w e g) (steady-after w e g y later) (once-after w e g y.numbers (rs []) x later)

-- If in all worlds each report has its numbers once, the broker has each number of a tab once.
pub run-once : ((es : List Event) → Reports (run es empty_world)) → (es : List Event) → AllOnce (run es empty_world)
run-once rs es = keeps-once es empty_world rs (record { sound = run-sound []; fit = empty-fit }) empty-steady (λ t h j. apart j refl)

pub sim-once : (l : Library) (w : WorldState) (t : ℕ) → Sim l w → AllOnce w → OneOfEach l t
sim-once l w t s x b up r j =
    let broker : broker_of w ≡ b = ap (broker_in w.kernel.generation) (sym s.hub.broker ∙ up) in
    let honest : IsHonest w t = subst (λ zs. list_any (λ u. u == t) zs ≡ false) s.taken (not-true _ (and_parts (lives_in l t) (not (is_taken l t)) r).1) in
    subst (λ k. OnceBelow (next_of b t) (numbers_at (manager_of b (partition_number k t)) t)) (sym s.hub.kernel)
    (subst (λ (z : BrokerState). OnceIn w z t (next_of z t)) broker (x t honest (subst (λ (z : BrokerState). is_joined (seat_of z t) ≡ true) (sym broker) j)))
