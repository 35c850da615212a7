-- In all worlds a release that the broker has still to take names a lock that does not wait there.
use Rattle.std.proofs.Common.{◌≡◌, ◌≢◌, ◌⊎◌, inl, inr, ⊎_elim, ℕ, ◌<◌, ◌≤◌, true, false, List, length, Option, Some, sym, ap, ◌∙◌, subst}
use Rattle.std.specs.Prelude.{◌==◌}
use Rattle.std.specs.List.{list_any}
use Rattle.std.proofs.lemmas.Bool.{cases_eq}
use Rattle.wl_draft.specs.declared.row.Row.{Row}
use Rattle.wl_draft.specs.declared.row.Entry.{Entry}
use Rattle.wl_draft.specs.Locks.{Locks}
use Rattle.wl_draft.specs.Membership.{In}
use Rattle.wl_draft.specs.Tables.{Table, find}
use Rattle.wl_grammar.specs.declared.frame.Operation.TheVariants.{Release}
use Rattle.wl_broker.specs.declared.seat.TabSeat.{TabSeat}
use Rattle.wl_broker.specs.Broker.{BrokerState, seat_of, manager_of, next_in, settled_at, with_seat, is_active, is_joined, is_dead}
use Rattle.wl_broker.proofs.Activity.{manager_of-settled_at, manager_of-settled_at_other}
use Rattle.wl_kernel.specs.Kernel.{KernelState, partition_number}
use Rattle.wl_agent.specs.Tab.{TabState, operation_of}
use Rattle.wl_tab.specs.Tabs.{tab_in}
use Rattle.wl_world_model.proofs.exclusion.TakenSeats.{each_seat}
use Rattle.wl_quiescence.proofs.facts.Rows.{settle_if-waits}

-- No row of the pair waits.
abbrev pub NoneWaits : ℕ → ℕ → Locks → Type 0
NoneWaits t j m = (r : Row) → In r m.waiting → r.client ≡ t → r.number ≡ j → ⊥

-- The report tells of the number as held.
abbrev pub ToldHeld : List Entry → ℕ → Type 0
ToldHeld es j = (e : Entry) × In e es × (e.number ≡ j) × (e.held ≡ true)

-- A tab's releases, by its seat at the broker of generation `g`.
pub record Releases (a : TabState) (m : Locks) (t : ℕ) (seat : Option TabSeat) (g : ℕ) : Type 0 where
  -- It has joined: a release still to be taken names an earlier number, which does not wait.
  pub joined :
      is_joined seat ≡ true → (n j : ℕ) → next_in seat ≤ n → n < length a.issued → operation_of a n ≡ Release j →
      (j < next_in seat) × NoneWaits t j m
  -- It has not joined: a release issued after its report names a lock that the report tells of as held.
  pub away :
      is_joined seat ≡ false → is_dead seat ≡ false → a.entered ≡ g → (n j : ℕ) → a.report.base ≤ n → n < length a.issued → operation_of a n ≡ Release j →
      ToldHeld a.report.entries j
  -- A tab that has entered no generation holds nothing.
  pub none : a.entered ≡ 0 → (n j : ℕ) → n < length a.issued → operation_of a n ≡ Release j → ⊥

pub fewer-waits : (a : TabState) (m n : Locks) (t : ℕ) (seat : Option TabSeat) (g : ℕ) → ((r : Row) → In r n.waiting → r.client ≡ t → In r m.waiting) → Releases a m t seat g → Releases a n t seat g
fewer-waits a m n t seat g f x = record {
  joined = λ j k i le lt e. let o = x.joined j k i le lt e in (o.0, λ r w c d. o.1 r (f r w c) c d);
  away = x.away;
  none = x.none;
}

abbrev tab : Table TabState → ℕ → TabState
tab tabs t = tab_in t (find tabs t)

abbrev pub AllReleases : Table TabState → KernelState → List ℕ → BrokerState → Type 0
AllReleases tabs k corrupt b =
    (t : ℕ) → list_any (λ u. u == t) corrupt ≡ false → Releases (tab tabs t) (manager_of b (partition_number k t)) t (seat_of b t) b.generation

pub settled-waits : (b : BrokerState) (p : ℕ) (m : Locks) (q : ℕ) (r : Row) → In r (manager_of (settled_at b p m) q).waiting → ((q ≡ p) × In r m.waiting) ⊎ In r (manager_of b q).waiting
settled-waits b p m q r i = ⊎_elim
    (λ e. inl (e, settle_if-waits (is_active b p) m r (subst (λ (z : Locks). In r z.waiting) (ap (manager_of (settled_at b p m)) e ∙ manager_of-settled_at b p m) i)))
    (λ d. inr (subst (λ (z : Locks). In r z.waiting) (manager_of-settled_at_other b p m q d) i))
    (cases_eq q p)

-- A tab takes a seat, and no more of other tabs waits.
pub seat-releases : (tabs : Table TabState) (k : KernelState) (corrupt : List ℕ) (b : BrokerState) (t p : ℕ) (seat : TabSeat) (m : Locks) → AllReleases tabs k corrupt b
    → ((r : Row) → In r m.waiting → r.client ≢ t → In r (manager_of b p).waiting)
    → (list_any (λ u. u == t) corrupt ≡ false → Releases (tab tabs t) (manager_of (settled_at (with_seat t seat b) p m) (partition_number k t)) t (Some seat) b.generation)
    → AllReleases tabs k corrupt (settled_at (with_seat t seat b) p m)
unfolding settled_at
seat-releases tabs k corrupt b t p seat m x others own u =
    let c = settled_at (with_seat t seat b) p m in
    each_seat b t seat (λ v o. list_any (λ u. u == v) corrupt ≡ false → Releases (tab tabs v) (manager_of c (partition_number k v)) v o b.generation)
    own
    (λ v d h. fewer-waits (tab tabs v) (manager_of b (partition_number k v)) (manager_of c (partition_number k v)) v (seat_of b v) b.generation
    (λ r i e. ⊎_elim (λ y. subst (λ q. In r (manager_of b q).waiting) (sym y.0) (others r y.1 (λ z. d (sym z ∙ e)))) (λ j. j) (settled-waits (with_seat t seat b) p m (partition_number k v) r i)) (x v h))
    u
