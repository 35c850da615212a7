-- Every event keeps what is said of releases that the broker has still to take.
use Rattle.std.proofs.Common.{◌≡◌, inr, ⊎_elim, ℕ, suc, ◌+◌, ◌<◌, ◌≤◌, true, false, not, List, [], ◌∷◌, map, length, Some, refl, sym, ap, ◌∙◌, subst, arith}
use Rattle.std.specs.Prelude.{◌==◌}
use Rattle.std.specs.List.{list_any}
use Rattle.std.proofs.lemmas.Bool.{or_cases, not-true}
use Rattle.wl_draft.specs.declared.row.Row.{Row}
use Rattle.wl_draft.specs.declared.row.Entry.{Entry}
use Rattle.wl_draft.specs.Locks.{Locks, restored, ended}
use Rattle.wl_draft.specs.Membership.{In}
use Rattle.wl_draft.proofs.Membership.{apart, In-nil, In-cons_cases, In-map}
use Rattle.wl_grammar.specs.declared.frame.Operation.TheVariants.{Release}
use Rattle.wl_grammar.specs.declared.frame.Upward.{Upward}
use Rattle.wl_grammar.specs.declared.frame.Upward.TheVariants as up
use Rattle.wl_grammar.specs.declared.frame.Command.{Command}
use Rattle.wl_grammar.specs.declared.frame.Addressed.{Addressed}
use Rattle.wl_grammar.specs.Generation.{generation_of}
use Rattle.wl_broker_reports.specs.ReportParts.{with_told, whole_of}
use Rattle.wl_broker.specs.declared.seat.TabSeat.TheVariants.{Joined, Dead}
use Rattle.wl_broker.specs.Broker.{BrokerState, seat_of, partial_of, manager_of, next_of, limit_of, with_seat, settled_at, drafted, is_joined, is_dead, has_arrived}
use Rattle.wl_broker.proofs.Takings.{Takes, joins, keeps, repeats, performs, Buries, again, stranger, ends, taking-Takes, burial-Buries}
use Rattle.wl_agent.specs.Tab.{TabState, operation_of}
use Rattle.wl_world_model.specs.World.{WorldState, empty_world, tab_of, partition_of, run}
use Rattle.wl_world_model.specs.Holdings.{IsHonest}
use Rattle.wl_world_model.proofs.exclusion.Invariant.{broker_of, up_message}
use Rattle.wl_world_model.proofs.exclusion.TakenSeats.{each_seat}
use Rattle.wl_world_model.proofs.exclusion.ToldParts.{with_told-HasParts, whole-entries}
use Rattle.wl_library_model.proofs.Happens.{Good}
use Rattle.wl_library_model.proofs.ProgressPlaces.{at_broker}
use Rattle.wl_quiescence.proofs.calls.Room.{Once, OnceBelow}
use Rattle.wl_quiescence.proofs.calls.Once.{said-part, Reports, AllOnce, run-once}
use Rattle.wl_quiescence.proofs.calls.Reports.{run-reports}
use Rattle.wl_world_model.specs.declared.event.Event.{Event}
use Rattle.wl_draft.specs.Tables.{Table, find}
use Rattle.wl_tab.specs.Tabs.{tab_in}
use Rattle.wl_quiescence.proofs.facts.Induction.{Kept, run-kept}
use Rattle.wl_quiescence.proofs.facts.ReleasedLater.{later-releases}
use Rattle.wl_quiescence.proofs.facts.Rows.{drafted-waits, restored-waits, ended-waits, entries-row}
use Rattle.wl_quiescence.proofs.facts.Released.{Releases, AllReleases, seat-releases, settled-waits}

abbrev ReleasesAt : WorldState → BrokerState → Type 0
ReleasesAt w b = AllReleases w.tabs w.kernel w.corrupt b

-- Each number of a report stands once.
one-entry : (es : List Entry) → Once (map (λ (e : Entry). e.number) es) → (e f : Entry) → In e es → In f es → e.number ≡ f.number → e ≡ f
one-entry [] o e f i j s = absurd (In-nil i)
one-entry (x ∷ xs) o e f i j s = ⊎_elim
    (λ a. ⊎_elim (λ c. a ∙ sym c) (λ c. absurd (o.0 (subst (λ n. In n (map (λ (e : Entry). e.number) xs)) (sym s ∙ ap (λ (e : Entry). e.number) a) (In-map (λ (e : Entry). e.number) c)))) (In-cons_cases j))
    (λ a. ⊎_elim (λ c. absurd (o.0 (subst (λ n. In n (map (λ (e : Entry). e.number) xs)) (s ∙ ap (λ (e : Entry). e.number) c) (In-map (λ (e : Entry). e.number) a)))) (λ c. one-entry xs o.1 e f a c s) (In-cons_cases j))
    (In-cons_cases i)

module _ (w : WorldState) (b : BrokerState) (g : Good (at_broker w (Some b))) (once : (t : ℕ) → OnceBelow (tab_of w t).report.base (map (λ (e : Entry). e.number) (tab_of w t).report.entries)) (x : ReleasesAt w b) where
  -- The tab's next command is taken.
  performed : (t p : ℕ) (c : Command) → In (up_message t p (up.Command c)) w.bag → is_joined (seat_of b t) ≡ true → c.number ≡ next_of b t
      → ReleasesAt w (settled_at (with_seat t (Joined p (c.number + 1) (limit_of b t)) b) p (drafted t c.number c.operation (manager_of b p)))
  performed t p c i j e =
      let m = drafted t c.number c.operation (manager_of b p) in
      let home : p ≡ partition_of w t = ((g.sound.messages t).commands p c i).1 in
      seat-releases w.tabs w.kernel w.corrupt b t p (Joined p (c.number + 1) (limit_of b t)) m x
      (λ r k d. ⊎_elim (λ y. y) (λ o. absurd (d o.1)) (drafted-waits (manager_of b p) t c.number c.operation r k))
      (λ h. let old = x t h in record {
        joined = λ _ n k le lt o.
            let y = old.joined j n k (omega (arith, le, e)) lt o in let low = y.0 in (
              omega (arith, low, e),
              λ r z s q. ⊎_elim
                  (λ a. ⊎_elim
                  (λ v. y.1 r (subst (λ q. In r (manager_of b q).waiting) home v) s q)
                  (λ v. let n = v.2 in omega (arith, low, e, n, q))
                  (drafted-waits (manager_of b p) t c.number c.operation r a.1))
                  (λ a. y.1 r a s q)
                  (settled-waits (with_seat t (Joined p (c.number + 1) (limit_of b t)) b) p m (partition_of w t) r z),
            );
        away = λ n. apart refl n;
        none = old.none;
      })

  -- The tab joins by its report.
  joined-by : (t p : ℕ) (base limit : ℕ) (es : List Entry) → is_joined (seat_of b t) ≡ false → is_dead (seat_of b t) ≡ false → p ≡ partition_of w t
      → (IsHonest w t → ((tab_of w t).entered ≡ b.generation) × (base ≡ (tab_of w t).report.base) × (es ≡ (tab_of w t).report.entries))
      → ReleasesAt w (settled_at (with_seat t (Joined p base limit) b) p (restored t es (manager_of b p)))
  joined-by t p base limit es nj nd home same =
      let m = restored t es (manager_of b p) in
      seat-releases w.tabs w.kernel w.corrupt b t p (Joined p base limit) m x
      (λ r k d. ⊎_elim (λ y. y) (λ o. absurd (d (entries-row t (λ e. not e.held) es r o).3)) (restored-waits (manager_of b p) t es r k))
      (λ h. let old = x t h in let s = same h in let a = tab_of w t in let base-is = s.1 in record {
        joined = λ _ n k le lt o.
            let e = old.away nj nd s.0 n k (omega (arith, le, base-is)) lt o in
            let low : k < a.report.base = (once t).1 k (subst (λ z. In z (map (λ (e : Entry). e.number) a.report.entries)) e.2 (In-map (λ (e : Entry). e.number) e.1)) in (
              omega (arith, low, base-is),
              λ r z c q. ⊎_elim
                  (λ v. ⊎_elim
                  (λ u. never t nj nd p r u c)
                  (λ u. let f = entries-row t (λ e. not e.held) es r u in
                  let one = one-entry a.report.entries (once t).0 e.0 f.0 e.1 (subst (In f.0) s.2 f.1) (e.2 ∙ sym q ∙ f.4) in
                  apart e.3 (ap (λ (e : Entry). e.held) one ∙ not-true _ f.2))
                  (restored-waits (manager_of b p) t es r v.1))
                  (λ v. never t nj nd (partition_of w t) r v c)
                  (settled-waits (with_seat t (Joined p base limit) b) p m (partition_of w t) r z),
            );
        away = λ n. apart refl n;
        none = old.none;
      })
    where
      never : (t : ℕ) → is_joined (seat_of b t) ≡ false → is_dead (seat_of b t) ≡ false → (q : ℕ) (r : Row) → In r (manager_of b q).waiting → r.client ≡ t → ⊥
      never t nj nd q r i c = ⊎_elim (λ j. apart j nj) (λ j. apart j nd) (or_cases _ _ (subst (λ z. has_arrived (seat_of b z) ≡ true) c (g.sound.locks.known q r (inr i)).2))

  takes-releases : (t p : ℕ) {u : Upward} {c : BrokerState} {outs : List Addressed} → In (up_message t p u) w.bag → Takes b t p u c outs → ReleasesAt w c
  unfolding with_told
  takes-releases t p i (joins {u = u} {x = y} told passes may whole) =
      let k = with_told p y (partial_of b t) in
      let a = tab_of w t in
      let o = (g.sound.messages t).reports p u y told i in
      joined-by t p (whole_of k).base (whole_of k).limit (whole_of k).entries may.new passes.alive o.1 (λ h.
      let part = said-part w b g.sound t p u y told i passes.now h in
      let lt : a.entered < suc w.kernel.generation = (g.sound.tabs t).entered in
      let now : b.generation ≡ w.kernel.generation = g.sound.current in
      let gen : generation_of u ≡ b.generation = passes.now in
      let le : generation_of u ≤ a.entered = (o.2 h).1 in (
        omega (arith, lt, now, gen, le),
        part.base,
        whole-entries a.in_parts a.report k (with_told-HasParts a.in_parts a.report p y (partial_of b t) part (λ z e. (((g.sound.seats t).partial z e).1 h).1)) whole,
      ))
  takes-releases t p i (keeps told passes may part) = x
  takes-releases t p i (repeats passes served old) = x
  takes-releases t p i (performs {c = c} passes served next) = performed t p c i served.joined next.number

-- A death

dead-releases : (a : TabState) (m : Locks) (t g : ℕ) → (a.entered ≡ 0 → (n j : ℕ) → n < length a.issued → operation_of a n ≡ Release j → ⊥) → Releases a m t (Some Dead) g
dead-releases a m t g f = record { joined = λ y. apart y refl; away = λ _ y. apart refl y; none = f }

buries-releases : (w : WorldState) (b : BrokerState) (t : ℕ) {c : BrokerState} {outs : List Addressed} → ReleasesAt w b → Buries b t c outs → ReleasesAt w c
buries-releases w b t x (again dead) = x
buries-releases w b t x (stranger alive place) = λ u.
    each_seat b t Dead (λ v o. IsHonest w v → Releases (tab_of w v) (manager_of b (partition_of w v)) v o b.generation)
    (λ h. dead-releases (tab_of w t) (manager_of b (partition_of w t)) t b.generation (x t h).none) (λ v d h. x v h) u
buries-releases w b t x (ends {p = p} alive place) =
    seat-releases w.tabs w.kernel w.corrupt b t p Dead (ended t (manager_of b p)) x
    (λ r k d. ended-waits (manager_of b p) t r k)
    (λ h. dead-releases (tab_of w t) _ t b.generation (x t h).none)

-- All runs

-- What is known of all worlds: each number of a report and of the broker stands once.
abbrev AreOnce : WorldState → Type 0
AreOnce w = Reports w × AllOnce w

releases-kept : Kept AreOnce ReleasesAt
releases-kept = record {
  same = λ w v b t k c x. subst (λ z. AllReleases z v.kernel v.corrupt b) (sym t) (subst (λ z. AllReleases w.tabs z v.corrupt b) (sym k) (subst (λ z. AllReleases w.tabs w.kernel z b) (sym c) x));
  later = λ w v g f later acts e x. subst (λ b. ReleasesAt v b) (sym e) (later-releases w v g f.1 later acts x);
  takes = λ w b g f x s i c outs e. takes-releases w b g f.0 x s.tab s.partition i (taking-Takes b s c outs e);
  dies = λ w b t x. buries-releases w b t x (burial-Buries b t);
  first = λ t h. record { joined = λ y. apart y refl; away = λ _ _ _ n j _ lt. absurd (omega (arith, lt)); none = λ e n j lt. omega (arith, lt) };
  fresh = λ w v b g listed e c up low x t h. record {
    joined = λ y. apart y refl;
    away = λ nj nd s. let lt = low t in absurd (omega (arith, lt, s));
    none = subst (λ (z : Table TabState). (tab_in t (find z t)).entered ≡ 0 → (n j : ℕ) → n < length (tab_in t (find z t)).issued → operation_of (tab_in t (find z t)) n ≡ Release j → ⊥) (sym e)
        (x t (subst (λ zs. list_any (λ u. u == t) zs ≡ false) c h)).none;
  };
}

pub run-releases : (es : List Event) → ReleasesAt (run es empty_world) (broker_of (run es empty_world))
run-releases es = run-kept AreOnce ReleasesAt releases-kept (λ fs. (run-reports fs, run-once run-reports fs)) es
