-- Home of a tab: its only partition, in which all of the broker's state about the tab belongs.
use Rattle.std.proofs.Common.{◌≡◌, ⊎_elim, ℕ, ◌+◌, Bool, not, List, [], ◌∷◌, Option, Some, None, refl, sym, subst, arith}
use Rattle.std.specs.Prelude.{◌==◌}
use Rattle.std.proofs.lemmas.Bool.{eqb-true}
use Rattle.wl_draft.specs.Tables.{Table, at, Rises}
use Rattle.wl_draft.specs.Locks.{Locks, no_locks, newly_granted, settle, settle_if}
use Rattle.wl_draft.proofs.Membership.{either, In-nil, In-filter_cases}
use Rattle.wl_draft.specs.Membership.{In, Here, Later}
use Rattle.wl_draft.proofs.RisingTables.{Rises-put, Rises-filter, find-In, put-cases}
use Rattle.wl_broker.proofs.Clients.{Own, Stands, newly-Own, settle-Stands, restored-Stands, drafted-Stands, ended-Stands}
use Rattle.wl_grammar.specs.declared.frame.Addressed.{Addressed}
use Rattle.wl_grammar.specs.declared.frame.Upward.{Upward}
use Rattle.wl_broker_reports.specs.ReportParts.{Partial, Told, with_told, whole_of}
use Rattle.wl_broker.specs.declared.seat.TabSeat.{TabSeat}
use Rattle.wl_broker.specs.declared.seat.TabSeat.TheVariants.{Joined, Dead}
use Rattle.wl_broker.specs.Broker.{BrokerState, started, seat_of, manager_of, is_active, with_seat, settled_at, newly_at, listed_at, seated_at, or_else, limit_of, place_of, partial_of, keeping, death_step}
use Rattle.wl_broker.proofs.Takings.{Takes, joins, keeps, repeats, performs, Buries, again, stranger, ends, burial-Buries}

-- Locks of a partition

settle_if-Stands : (Q : ℕ → Type 0) (now : Bool) (m : Locks) → Stands Q m → Stands Q (settle_if now m)
settle_if-Stands Q now m s = either (Stands Q) now (settle m) m (λ _. settle-Stands Q m s) (λ _. s)

pub newly_at-Own : (Q : ℕ → Type 0) (b : BrokerState) (p : ℕ) (m : Locks) → Stands Q m → Own Q (newly_at b p m)
unfolding newly_at
newly_at-Own Q b p m s = either (Own Q) (is_active b p) (newly_granted m) [] (λ _. newly-Own Q m s) (λ _ r i. absurd (In-nil i))

-- The broker

abbrev pub Seated : (ℕ → ℕ) → ℕ → TabSeat → Type 0
Seated home t (Joined p n l) = home t ≡ p
Seated home t Dead = Unit {0}

-- The clients of these locks have this partition as their home.
abbrev pub AtHome : (ℕ → ℕ) → ℕ → Locks → Type 0
AtHome home p m = Stands (λ t. home t ≡ p) m

pub record Homes (home : ℕ → ℕ) (b : BrokerState) : Type 0 where
  pub listed : (x : ℕ × ℕ) → In x b.listed → home x.0 ≡ x.1
  pub seats : (x : ℕ × TabSeat) → In x b.seats → Seated home x.0 x.1
  pub managers : (x : ℕ × Locks) → In x b.managers → AtHome home x.0 x.1
  pub partial : (x : ℕ × Partial) → In x b.partial → home x.0 ≡ x.1.partition
  pub seats_rise : Rises 0 b.seats
  pub managers_rise : Rises 0 b.managers
  pub partial_rise : Rises 0 b.partial

abbrev pub Placed : (ℕ → ℕ) → ℕ → Option ℕ → Type 0
Placed home t None = Unit {0}
Placed home t (Some p) = home t ≡ p

module _ (home : ℕ → ℕ) where
  pub started-Homes : (g : ℕ) (listed : List (ℕ × ℕ)) → ((x : ℕ × ℕ) → In x listed → home x.0 ≡ x.1) → Homes home (started g listed)
  started-Homes g listed h = record {
    listed = h;
    seats = λ x i. absurd (In-nil i);
    managers = λ x i. absurd (In-nil i);
    partial = λ x i. absurd (In-nil i);
    seats_rise = tt;
    managers_rise = tt;
    partial_rise = tt;
  }

  pub manager_of-AtHome : (b : BrokerState) (p : ℕ) → Homes home b → AtHome home p (manager_of b p)
  manager_of-AtHome b p h = go b.managers h.managers
    where
      go : (ms : Table Locks) → ((x : ℕ × Locks) → In x ms → AtHome home x.0 x.1) → AtHome home p (at no_locks ms p)
      go [] i = ((λ r j. absurd (In-nil j)), (λ r j. absurd (In-nil j)))
      go (x ∷ xs) i =
          either (AtHome home p) (x.0 == p) x.1 (at no_locks xs p)
          (λ e. subst (λ q. AtHome home q x.1) (eqb-true x.0 p e) (i x Here))
          (λ _. go xs (λ y j. i y (Later j)))

  pub with_seat-Homes : (t : ℕ) (s : TabSeat) (b : BrokerState) → Seated home t s → Homes home b → Homes home (with_seat t s b)
  with_seat-Homes t s b m h = record {
    listed = h.listed;
    seats = λ x i. ⊎_elim (λ e. subst (λ (z : ℕ × TabSeat). Seated home z.0 z.1) (sym e) m) (λ j. h.seats x j) (put-cases t s b.seats i);
    managers = h.managers;
    partial = λ x i. h.partial x (In-filter_cases (λ (row : ℕ × Partial). not (row.0 == t)) b.partial i).0;
    seats_rise = Rises-put 0 t s b.seats (omega arith) h.seats_rise;
    managers_rise = h.managers_rise;
    partial_rise = Rises-filter (λ (row : ℕ × Partial). not (row.0 == t)) 0 b.partial h.partial_rise;
  }

  pub keeping-Homes : (t : ℕ) (k : Partial) (b : BrokerState) → home t ≡ k.partition → Homes home b → Homes home (keeping t k b)
  keeping-Homes t k b e h = record {
    listed = h.listed;
    seats = h.seats;
    managers = h.managers;
    partial = λ x i. ⊎_elim (λ c. subst (λ (z : ℕ × Partial). home z.0 ≡ z.1.partition) (sym c) e) (λ j. h.partial x j) (put-cases t k b.partial i);
    seats_rise = h.seats_rise;
    managers_rise = h.managers_rise;
    partial_rise = Rises-put 0 t k b.partial (omega arith) h.partial_rise;
  }

  pub settled_at-Homes : (b : BrokerState) (p : ℕ) (m : Locks) → AtHome home p m → Homes home b → Homes home (settled_at b p m)
  unfolding settled_at
  settled_at-Homes b p m s h = record {
    listed = h.listed;
    seats = h.seats;
    managers = λ x i. ⊎_elim
        (λ c. subst (λ (z : ℕ × Locks). AtHome home z.0 z.1) (sym c) (settle_if-Stands (λ t. home t ≡ p) (is_active b p) m s))
        (λ j. h.managers x j) (put-cases p (settle_if (is_active b p) m) b.managers i);
    partial = h.partial;
    seats_rise = h.seats_rise;
    managers_rise = Rises-put 0 p (settle_if (is_active b p) m) b.managers (omega arith) h.managers_rise;
    partial_rise = h.partial_rise;
  }

  -- The partition of the parts kept.
  pub with_told-home : (b : BrokerState) (t p : ℕ) (x : Told) → home t ≡ p → Homes home b → home t ≡ (with_told p x (partial_of b t)).partition
  unfolding with_told
  with_told-home b t p x e h = go (partial_of b t) refl
    where
      go : (o : Option Partial) → partial_of b t ≡ o → home t ≡ (with_told p x o).partition
      go None is = e
      go (Some k) is = h.partial (t, k) (find-In b.partial t k is)

  listed_at-Placed : (t : ℕ) (ls : List (ℕ × ℕ)) → ((x : ℕ × ℕ) → In x ls → home x.0 ≡ x.1) → Placed home t (listed_at t ls)
  listed_at-Placed t [] h = tt
  listed_at-Placed t (x ∷ xs) h =
      either (Placed home t) (x.0 == t) (Some x.1) (listed_at t xs)
      (λ e. subst (λ z. home z ≡ x.1) (eqb-true x.0 t e) (h x Here)) (λ _. listed_at-Placed t xs (λ y i. h y (Later i)))

  pub place_of-Placed : (b : BrokerState) (t : ℕ) → Homes home b → Placed home t (place_of b t)
  unfolding place_of
  place_of-Placed b t h = go (seat_of b t) refl
    where
      go : (s : Option TabSeat) → seat_of b t ≡ s → Placed home t (or_else (seated_at s) (listed_at t b.listed))
      go None e = listed_at-Placed t b.listed h.listed
      go (Some (Joined p n l)) e = h.seats (t, Joined p n l) (find-In b.seats t (Joined p n l) e)
      go (Some Dead) e = listed_at-Placed t b.listed h.listed

  -- A message and a death keep all state at home

  pub Takes-Homes : {b : BrokerState} {t p : ℕ} {u : Upward} {after : BrokerState} {outs : List Addressed} → Takes b t p u after outs → home t ≡ p → Homes home b → Homes home after
  Takes-Homes {b = b} {t = t} {p = p} (joins {x = x} is pass may full) e h =
      let r = whole_of (with_told p x (partial_of b t)) in
      settled_at-Homes (with_seat t (Joined p r.base r.limit) b) p _ (restored-Stands (λ z. home z ≡ p) t r.entries (manager_of b p) e (manager_of-AtHome b p h))
      (with_seat-Homes t (Joined p r.base r.limit) b e h)
  Takes-Homes {b = b} {t = t} {p = p} (keeps {x = x} is pass may part) e h = keeping-Homes t (with_told p x (partial_of b t)) b (with_told-home b t p x e h) h
  Takes-Homes (repeats pass served old) e h = h
  Takes-Homes {b = b} {t = t} {p = p} (performs {c = c} pass served next) e h =
      settled_at-Homes (with_seat t (Joined p (c.number + 1) (limit_of b t)) b) p _ (drafted-Stands (λ z. home z ≡ p) t c.number c.operation (manager_of b p) e (manager_of-AtHome b p h))
      (with_seat-Homes t (Joined p (c.number + 1) (limit_of b t)) b e h)

  Buries-Homes : {b : BrokerState} {t : ℕ} {after : BrokerState} {outs : List Addressed} → Buries b t after outs → Homes home b → Homes home after
  Buries-Homes (again dead) h = h
  Buries-Homes {b = b} {t = t} (stranger alive place) h = with_seat-Homes t Dead b tt h
  Buries-Homes {b = b} {t = t} (ends {p = p} alive place) h =
      settled_at-Homes (with_seat t Dead b) p _ (ended-Stands (λ z. home z ≡ p) t (manager_of b p) (manager_of-AtHome b p h)) (with_seat-Homes t Dead b tt h)

  pub burial-Homes : (b : BrokerState) (t : ℕ) → Homes home b → Homes home (death_step b t).0
  burial-Homes b t h = Buries-Homes (burial-Buries b t) h
