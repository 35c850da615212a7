-- Consistency of the broker: numbers that it stores together belong to one partition.
use Rattle.std.proofs.Common.{◌≡◌, ⊎_elim, ℕ, ◌+◌, Bool, true, not, ◌&&◌, ◌||◌, List, [], ◌∷◌, map, Option, Some, None, refl, sym, ap, ◌∙◌, subst, arith}
use Rattle.std.specs.Prelude.{◌==◌, nat_lt, nat_le}
use Rattle.std.specs.List.{range_with_len}
use Rattle.std.proofs.lemmas.Bool.{eqb-true}
use Rattle.wl_draft.specs.declared.row.Row.{Row}
use Rattle.wl_draft.specs.Tables.{Table, at, Rises}
use Rattle.wl_draft.specs.Locks.{Locks, no_locks, newly_granted, settle, settle_if, live, without, ended, restored}
use Rattle.wl_draft.proofs.RisingTables.{Rises-put, Rises-filter, put-cases, find-In}
use Rattle.wl_broker.proofs.Clients.{Own, Stands, Own-filter, newly-Own, settle-Stands, restored-Stands, drafted-Stands, ended-Stands}
use Rattle.wl_grammar.specs.declared.frame.Operation.{Operation}
use Rattle.wl_grammar.specs.declared.frame.Operation.TheVariants.{Request, Release, Abort, Query}
use Rattle.wl_grammar.specs.declared.frame.Outcome.TheVariants.{Granted, Gone}
use Rattle.wl_grammar.specs.declared.frame.SnapshotEntry.{SnapshotEntry}
use Rattle.wl_grammar.specs.declared.frame.Addressed.{Addressed}
use Rattle.wl_grammar.specs.declared.frame.Stamped.{Stamped}
use Rattle.wl_grammar.specs.declared.frame.Upward.{Upward}
use Rattle.wl_grammar.specs.declared.frame.Upward.TheVariants as up
use Rattle.wl_broker_reports.specs.ReportParts.{has_held, all_below, Partial, Told as ToldBy, Whole, at_once, in_part, fits, has_part, with_told, is_whole, whole_of}
use Rattle.wl_broker.specs.declared.seat.TabSeat.{TabSeat}
use Rattle.wl_broker.specs.declared.seat.TabSeat.TheVariants.{Joined, Dead}
use Rattle.wl_broker.specs.declared.dropped.Dropped.TheVariants.{OldGeneration, LaterGeneration, NotJoined, Recovering, OutOfTurn, DeadTab, AlreadyJoined, HeldByNewcomer, BadReport, Misplaced, TooMany, PartTwice}
use Rattle.wl_grammar.specs.Generation.{generation_of}
use Rattle.wl_broker.specs.Broker.{BrokerState, seat_of, manager_of, is_joined, is_dead, next_of, is_active, with_seat, settled_at, newly_at, answer_to, grants_to, snapshot_entries, snapshot_part, snapshot_to, first_answer, later_answer, listed_at, is_listed, seated_at, or_else, is_lock, limit_of, is_misplaced, place_of, drafted, Taking, Drops, Does, join, perform, partial_of, keeping, join_if, take_report_part, take_command, take_inner, taking, buried_at, death_step}
use Rattle.wl_draft.specs.Membership.{In, Here, Later}
use Rattle.wl_draft.proofs.Membership.{either, In-nil, In-one, In-append_cases, In-map_cases, In-filter_cases}
use Rattle.wl_limits.specs.declared.tabs.TheConstants.{LAST_NUMBER}
use Rattle.wl_grammar.specs.PartCount.{part_count}

-- The broker

-- Both numbers were opened, and both or neither are in the partition.
pub record Mates (g f : ℕ → Bool) (k q : ℕ) : Type 0 where
  pub left : g k ≡ true
  pub right : g q ≡ true
  pub alike : f k ≡ f q

pub mates-right : {g f : ℕ → Bool} {k q : ℕ} → Mates g f k q → Mates g f q q
mates-right m = record { left = m.right; right = m.right; alike = refl }

abbrev pub Seated : (g f : ℕ → Bool) → ℕ → TabSeat → Type 0
Seated g f t (Joined p n l) = Mates g f t p
Seated g f t Dead = g t ≡ true

abbrev pub Managed : (g f : ℕ → Bool) → ℕ → Locks → Type 0
Managed g f p m = Mates g f p p × Stands (λ t. Mates g f t p) m

pub record Fits (g f : ℕ → Bool) (b : BrokerState) : Type 0 where
  pub listed : (x : ℕ × ℕ) → In x b.listed → Mates g f x.0 x.1
  pub seats : (x : ℕ × TabSeat) → In x b.seats → Seated g f x.0 x.1
  pub managers : (x : ℕ × Locks) → In x b.managers → Managed g f x.0 x.1
  pub seats_rise : Rises 0 b.seats
  pub managers_rise : Rises 0 b.managers
  pub partial : (x : ℕ × Partial) → In x b.partial → g x.0 ≡ true
  pub partial_rise : Rises 0 b.partial

-- All frames go to opened tabs.
abbrev pub Told : (ℕ → Bool) → List Addressed → Type 0
Told g outs = (x : Addressed) → In x outs → g x.tab ≡ true

abbrev pub FitsTaking : (g f : ℕ → Bool) → Taking → Type 0
FitsTaking g f (Drops r) = Unit {0}
FitsTaking g f (Does b outs) = Fits g f b × Told g outs

-- All frames go to one tab.
abbrev pub IsTold : ℕ → List Addressed → Type 0
IsTold t outs = (x : Addressed) → In x outs → x.tab ≡ t

one-told : (x : Addressed) → IsTold x.tab (x ∷ [])
one-told x y i = ap (λ z. z.tab) (In-one i)

snapshot-told : (b : BrokerState) (t n : ℕ) (entries : List SnapshotEntry) → IsTold t (snapshot_to b t n entries)
snapshot-told b t n entries =
    either (IsTold t) (nat_lt 65535 (part_count entries)) (answer_to b t n Gone ∷ []) (map (snapshot_part b t n entries) (range_with_len 0 (part_count entries)))
    (λ _. one-told (answer_to b t n Gone))
    (λ _ x i. ap (λ z. z.tab) (In-map_cases (snapshot_part b t n entries) (range_with_len 0 (part_count entries)) i).2)

pub first-told : (b : BrokerState) (t p n : ℕ) (o : Operation) → IsTold t (first_answer b t p n o)
first-told b t p n (Request mode if_available name) x i = ap (λ z. z.tab) (In-one i)
first-told b t p n (Release k) x i = ap (λ z. z.tab) (In-one i)
first-told b t p n (Abort k) x i = ap (λ z. z.tab) (In-one i)
first-told b t p n Query x i = snapshot-told b t n (snapshot_entries (manager_of b p)) x i

pub later-told : (b : BrokerState) (t p n : ℕ) (o : Operation) → (later_answer b t p n o).tab ≡ t
later-told b t p n (Request mode if_available name) = refl
later-told b t p n (Release k) = refl
later-told b t p n (Abort k) = refl
later-told b t p n Query = refl

-- Grants go to the clients of the granted rows.
pub grants-told : (Q : ℕ → Type 0) (b : BrokerState) (rows : List Row) → Own Q rows → (x : Addressed) → In x (grants_to b rows) → Q x.tab
grants-told Q b rows h x i =
    let o = In-map_cases (λ (r : Row). answer_to b r.client r.number Granted) rows i in subst (λ (z : Addressed). Q z.tab) (sym o.2) (h o.0 o.1)

module _ (g f : ℕ → Bool) where
  pub manager_of-Stands : (b : BrokerState) (p : ℕ) → Fits g f b → Stands (λ t. Mates g f t p) (manager_of b p)
  manager_of-Stands b p h = go b.managers h.managers
    where
      go : (ms : Table Locks) → ((x : ℕ × Locks) → In x ms → Managed g f x.0 x.1) → Stands (λ t. Mates g f t p) (at no_locks ms p)
      go [] i = ((λ r j. absurd (In-nil j)), (λ r j. absurd (In-nil j)))
      go (x ∷ xs) i =
          either (Stands (λ t. Mates g f t p)) (x.0 == p) x.1 (at no_locks xs p)
          (λ e. subst (λ q. Stands (λ t. Mates g f t q) x.1) (eqb-true x.0 p e) (i x Here).1)
          (λ _. go xs (λ y j. i y (Later j)))

  pub with_seat-Fits : (t : ℕ) (s : TabSeat) (b : BrokerState) → Seated g f t s → Fits g f b → Fits g f (with_seat t s b)
  with_seat-Fits t s b m h = record {
    listed = h.listed;
    seats = λ x i. ⊎_elim (λ e. subst (λ (z : ℕ × TabSeat). Seated g f z.0 z.1) (sym e) m) (λ j. h.seats x j) (put-cases t s b.seats i);
    managers = h.managers;
    seats_rise = Rises-put 0 t s b.seats (omega arith) h.seats_rise;
    managers_rise = h.managers_rise;
    partial = λ x i. h.partial x (In-filter_cases (λ (row : ℕ × Partial). not (row.0 == t)) b.partial i).0;
    partial_rise = Rises-filter (λ (row : ℕ × Partial). not (row.0 == t)) 0 b.partial h.partial_rise;
  }

  -- The broker stays consistent when it stores a part of an opened tab's report.
  pub keeping-Fits : (t : ℕ) (k : Partial) (b : BrokerState) → g t ≡ true → Fits g f b → Fits g f (keeping t k b)
  keeping-Fits t k b e h = record {
    listed = h.listed;
    seats = h.seats;
    managers = h.managers;
    seats_rise = h.seats_rise;
    managers_rise = h.managers_rise;
    partial = λ x i. ⊎_elim (λ c. ap (λ (z : ℕ × Partial). g z.0) c ∙ e) (λ j. h.partial x j) (put-cases t k b.partial i);
    partial_rise = Rises-put 0 t k b.partial (omega arith) h.partial_rise;
  }

  settle_if-Stands : (Q : ℕ → Type 0) (now : Bool) (m : Locks) → Stands Q m → Stands Q (settle_if now m)
  settle_if-Stands Q now m s = either (Stands Q) now (settle m) m (λ _. settle-Stands Q m s) (λ _. s)

  pub settled_at-Fits : (b : BrokerState) (p : ℕ) (m : Locks) → Mates g f p p → Stands (λ t. Mates g f t p) m → Fits g f b → Fits g f (settled_at b p m)
  unfolding settled_at
  settled_at-Fits b p m e s h = record {
    listed = h.listed;
    seats = h.seats;
    managers = λ x i. ⊎_elim
        (λ c. subst (λ (z : ℕ × Locks). Managed g f z.0 z.1) (sym c) (e, settle_if-Stands (λ t. Mates g f t p) (is_active b p) m s))
        (λ j. h.managers x j) (put-cases p (settle_if (is_active b p) m) b.managers i);
    seats_rise = h.seats_rise;
    managers_rise = Rises-put 0 p (settle_if (is_active b p) m) b.managers (omega arith) h.managers_rise;
    partial = h.partial;
    partial_rise = h.partial_rise;
  }

  pub newly_at-Own : (b : BrokerState) (p : ℕ) (m : Locks) → Stands (λ t. Mates g f t p) m → Own (λ t. Mates g f t p) (newly_at b p m)
  unfolding newly_at
  newly_at-Own b p m s = either (Own (λ t. Mates g f t p)) (is_active b p) (newly_granted m) [] (λ _. newly-Own (λ t. Mates g f t p) m s) (λ _ r i. absurd (In-nil i))

  pub without-Own : (p t n : ℕ) (rows : List Row) → Own (λ t. Mates g f t p) rows → Own (λ t. Mates g f t p) (without t n rows)
  without-Own p t n rows h = Own-filter (λ t. Mates g f t p) _ rows h

  grants-Told : (b : BrokerState) (p : ℕ) (rows : List Row) → Own (λ t. Mates g f t p) rows → Told g (grants_to b rows)
  grants-Told b p rows h x i = (grants-told (λ t. Mates g f t p) b rows h x i).left

  -- The broker settles a partition and tells each granted tab.
  abbrev pub settles : BrokerState → ℕ → Locks → Taking
  settles b p m = Does (settled_at b p m) (grants_to (settled_at b p m) (newly_at b p m))

  settles-Fits : (b : BrokerState) (p : ℕ) (m : Locks) → Mates g f p p → Stands (λ t. Mates g f t p) m → Fits g f b → FitsTaking g f (settles b p m)
  settles-Fits b p m e s h = (settled_at-Fits b p m e s h, grants-Told (settled_at b p m) p (newly_at b p m) (newly_at-Own b p m s))

  join-Fits : (b : BrokerState) (t p : ℕ) (r : Whole) → Mates g f t p → Fits g f b → FitsTaking g f (join b t p r)
  unfolding join
  join-Fits b t p r m h =
      settles-Fits (with_seat t (Joined p r.base r.limit) b) p (restored t r.entries (manager_of b p)) (mates-right m)
      (restored-Stands (λ t. Mates g f t p) t r.entries (manager_of b p) m (manager_of-Stands b p h)) (with_seat-Fits t (Joined p r.base r.limit) b m h)

  perform-Fits : (b : BrokerState) (t p n : ℕ) (o : Operation) → Mates g f t p → Fits g f b → FitsTaking g f (perform b t p n o)
  unfolding perform
  perform-Fits b t p n o m h =
      let z = with_seat t (Joined p (n + 1) (limit_of b t)) b in
      let x = drafted t n o (manager_of b p) in
      let s = drafted-Stands (λ t. Mates g f t p) t n o (manager_of b p) m (manager_of-Stands b p h) in (
        settled_at-Fits z p x (mates-right m) s (with_seat-Fits t (Joined p (n + 1) (limit_of b t)) b m h),
        λ y i. ⊎_elim
            (λ j. ap g (first-told (settled_at z p x) t p n o y j) ∙ m.left)
            (λ j. grants-Told (settled_at z p x) p (without t n (newly_at z p x)) (without-Own p t n (newly_at z p x) (newly_at-Own z p x s)) y j)
            (In-append_cases (first_answer (settled_at z p x) t p n o) (grants_to (settled_at z p x) (without t n (newly_at z p x))) i),
      )

  told-Fits : (b : BrokerState) (t p : ℕ) (x : ToldBy) → Mates g f t p → Fits g f b → FitsTaking g f (take_report_part b t p x)
  unfolding take_report_part join_if
  told-Fits b t p x m h =
      either (FitsTaking g f) (is_joined (seat_of b t)) (Drops AlreadyJoined) _ (λ _. tt)
      (λ _. either (FitsTaking g f) (not (is_listed (listed_at t b.listed)) && has_held x.entries) (Drops HeldByNewcomer) _ (λ _. tt)
      (λ _. either (FitsTaking g f) (not (all_below x.base x.entries && fits x (partial_of b t))) (Drops BadReport) _ (λ _. tt)
      (λ _. either (FitsTaking g f) (has_part x (partial_of b t)) (Drops PartTwice) _ (λ _. tt)
      (λ _. either (FitsTaking g f) (is_whole (with_told p x (partial_of b t))) (join b t p (whole_of (with_told p x (partial_of b t)))) (Does (keeping t (with_told p x (partial_of b t)) b) [])
      (λ _. join-Fits b t p (whole_of (with_told p x (partial_of b t))) m h)
      (λ _. (keeping-Fits t (with_told p x (partial_of b t)) b m.left h, λ y i. absurd (In-nil i)))))))

  inner-Fits : (b : BrokerState) (t p : ℕ) (u : Upward) → Mates g f t p → Fits g f b → FitsTaking g f (take_inner b t p u)
  unfolding take_command
  inner-Fits b t p (up.Report r) m h = told-Fits b t p (at_once r) m h
  inner-Fits b t p (up.ReportPart r) m h = told-Fits b t p (in_part r) m h
  inner-Fits b t p (up.Command c) m h =
      let n = c.number in
      let o = c.operation in
      either (FitsTaking g f) (not (is_joined (seat_of b t))) (Drops NotJoined) _ (λ _. tt)
      (λ _. either (FitsTaking g f) (not (is_active b p)) (Drops Recovering) _ (λ _. tt)
      (λ _. either (FitsTaking g f) (nat_lt (next_of b t) n || n == LAST_NUMBER) (Drops OutOfTurn) _ (λ _. tt)
      (λ _. either (FitsTaking g f) (nat_lt n (next_of b t)) (Does b (later_answer b t p n o ∷ [])) _
      (λ _. (h, λ y i. ap (λ z. g z.tab) (In-one i) ∙ ap g (later-told b t p n o) ∙ m.left))
      (λ _. either (FitsTaking g f) (is_lock o && nat_le (limit_of b t) (live (manager_of b p) t)) (Drops TooMany) (perform b t p n o) (λ _. tt)
      (λ _. perform-Fits b t p n o m h)))))

  pub taking-Fits : (b : BrokerState) (x : Stamped) → Mates g f x.tab x.partition → Fits g f b → FitsTaking g f (taking b x)
  unfolding taking
  taking-Fits b x m h =
      either (FitsTaking g f) (nat_lt (generation_of x.inner) b.generation) (Drops OldGeneration) _ (λ _. tt)
      (λ _. either (FitsTaking g f) (nat_lt b.generation (generation_of x.inner)) (Drops LaterGeneration) _ (λ _. tt)
      (λ _. either (FitsTaking g f) (is_dead (seat_of b x.tab)) (Drops DeadTab) _ (λ _. tt)
      (λ _. either (FitsTaking g f) (is_misplaced b x.tab x.partition) (Drops Misplaced) (take_inner b x.tab x.partition x.inner) (λ _. tt)
      (λ _. inner-Fits b x.tab x.partition x.inner m h))))

  -- A tab's partition at the broker, if it has one, is its own.
  abbrev pub Placed : ℕ → Option ℕ → Type 0
  Placed t None = Unit {0}
  Placed t (Some p) = Mates g f t p

  listed_at-Placed : (t : ℕ) (ls : List (ℕ × ℕ)) → ((x : ℕ × ℕ) → In x ls → Mates g f x.0 x.1) → Placed t (listed_at t ls)
  listed_at-Placed t [] h = tt
  listed_at-Placed t (x ∷ xs) h =
      either (Placed t) (x.0 == t) (Some x.1) (listed_at t xs)
      (λ e. subst (λ z. Mates g f z x.1) (eqb-true x.0 t e) (h x Here)) (λ _. listed_at-Placed t xs (λ y i. h y (Later i)))

  pub place_of-Placed : (b : BrokerState) (t : ℕ) → Fits g f b → Placed t (place_of b t)
  unfolding place_of
  place_of-Placed b t h = go (seat_of b t) refl
    where
      go : (s : Option TabSeat) → seat_of b t ≡ s → Placed t (or_else (seated_at s) (listed_at t b.listed))
      go None e = listed_at-Placed t b.listed h.listed
      go (Some (Joined p n l)) e = h.seats (t, Joined p n l) (find-In b.seats t (Joined p n l) e)
      go (Some Dead) e = listed_at-Placed t b.listed h.listed

  abbrev pub buries : BrokerState × List Addressed → Taking
  buries x = Does x.0 x.1

  buried_at-Fits : (b : BrokerState) (t : ℕ) (q : Option ℕ) → Placed t q → Fits g f b → FitsTaking g f (buries (buried_at b t q))
  buried_at-Fits b t None m h = (h, λ x i. absurd (In-nil i))
  buried_at-Fits b t (Some p) m h =
      settles-Fits b p (ended t (manager_of b p)) (mates-right m) (ended-Stands (λ t. Mates g f t p) t (manager_of b p) (manager_of-Stands b p h)) h

  pub burial-Fits : (b : BrokerState) (t : ℕ) → g t ≡ true → Fits g f b → FitsTaking g f (buries (death_step b t))
  unfolding death_step
  burial-Fits b t e h =
      either (λ x. FitsTaking g f (buries x)) (is_dead (seat_of b t)) (b, []) (buried_at (with_seat t Dead b) t (place_of b t))
      (λ _. (h, λ x i. absurd (In-nil i)))
      (λ _. buried_at-Fits (with_seat t Dead b) t (place_of b t) (place_of-Placed b t h) (with_seat-Fits t Dead b e h))
