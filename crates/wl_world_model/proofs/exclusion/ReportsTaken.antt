-- Arrival of a tab's report at the broker.
use Rattle.std.proofs.Common.{◌≡◌, ◌≢◌, ◌⊎◌, inl, inr, ⊎_elim, ℕ, suc, ◌<◌, ◌≤◌, true, false, not, ◌&&◌, Some, List, [], filter, refl, sym, ap, ◌∙◌, subst, arith}
use Rattle.std.proofs.lemmas.Bool.{or_from}
use Rattle.wl_draft.specs.declared.row.Row.{Row}
use Rattle.wl_draft.specs.declared.row.Entry.{Entry}
use Rattle.wl_draft.specs.Locks.{Locks, row_of, rows_of, held_of, waiting_of, restored}
use Rattle.wl_draft.specs.Tables.{Table, find, put}
use Rattle.wl_grammar.specs.declared.frame.Upward.{Upward}
use Rattle.wl_broker_reports.specs.ReportParts.{has_held, all_below, Partial, Told, Whole, content_of, fits, has_part, with_told, is_whole, whole_of}
use Rattle.wl_broker.specs.declared.seat.TabSeat.{TabSeat}
use Rattle.wl_broker.specs.declared.seat.TabSeat.TheVariants.{Joined}
use Rattle.wl_broker.specs.declared.dropped.Dropped.TheVariants.{AlreadyJoined, HeldByNewcomer, BadReport, PartTwice}
use Rattle.wl_grammar.specs.Generation.{generation_of}
use Rattle.wl_broker.specs.Broker.{BrokerState, seat_of, manager_of, is_joined, has_arrived, listed_at, is_listed, with_seat, newly_at, Drops, Does, partial_of, join, keeping, join_if, take_report_part}
use Rattle.wl_draft.specs.Membership.{In}
use Rattle.wl_draft.proofs.Membership.{apart, either, In-nil, In-append_left, In-append_right, In-append_cases, In-map_cases}
use Rattle.wl_world_model.specs.World.{WorldState, tab_of, partition_of}
use Rattle.wl_world_model.proofs.AtBroker.{with_broker}
use Rattle.wl_world_model.specs.Holdings.{IsHonest}
use Rattle.wl_world_model.proofs.Tables.{each_found}
use Rattle.wl_world_model.proofs.exclusion.ToldParts.{IsPartOf, HasParts, body-told, with_told-HasParts, whole-entries}
use Rattle.wl_world_model.proofs.exclusion.HeldAfterSettling.{Compatible-fewer, Stands}
use Rattle.wl_world_model.proofs.exclusion.Invariant.{Sound, Covered, Claim, Counts, stands, reported, carried, generation, came, is_named_dead, row_at, was_opened, IsSaid, KeepsOf, IsKnown, Fits, up_message}
use Rattle.wl_world_model.proofs.exclusion.UnchangedParts.{broker-step}
use Rattle.wl_world_model.proofs.exclusion.TakenSeats.{each_seat, still, not-before, still-fits, seated-seats}
use Rattle.wl_world_model.proofs.exclusion.ManagedLocks.{managed, each_manager}
use Rattle.wl_world_model.proofs.exclusion.BrokerAnswers.{Follows, settled-told}

-- The broker stores a part

-- A world stays sound when the broker stores other parts.
kept-sound : (w : WorldState) (b : BrokerState) → Sound (with_broker b w) → (ks : Table Partial) → ((u : ℕ) (k : Partial) → find ks u ≡ Some k → (was_opened w u ≡ true) × (IsHonest w u → KeepsOf (generation w) (tab_of w u) k))
    → Sound (with_broker (record b { partial = ks }) w)
kept-sound w b s ks kept = broker-step w b (record b { partial = ks }) refl s (λ u. let m = s.seats u in record { partial = kept u; joined = m.joined; named = m.named; lists = m.lists }) s.locks

-- A tab joins, by its report or by all parts together

module _ (w : WorldState) (b : BrokerState) (s : Sound (with_broker b w)) (t p : ℕ) (r : Whole)
    (old : was_opened w t ≡ true) (home : p ≡ partition_of w t) (new : came b t ≡ false)
    (facts : IsHonest w t → ((tab_of w t).entered ≡ generation w) × (r.entries ≡ (tab_of w t).report.entries)) where
  abbrev restored_locks : Locks
  restored_locks = restored t r.entries (manager_of b p)

  abbrev seat : TabSeat
  seat = Joined p r.base r.limit

  abbrev joined_broker : BrokerState
  joined_broker = managed (with_seat t seat b) p restored_locks

  told : IsHonest w t → (x : Row) → In x (held_of t r.entries) ⊎ In x (waiting_of t r.entries) → IsKnown t (tab_of w t) x
  told h x i = (s.tabs t).state.told x (subst (λ z. In x (held_of t z) ⊎ In x (waiting_of t z)) (facts h).1 i)

  rows-tab : (x : Row) (es : List Entry) → In x (rows_of t es) → t ≡ x.client
  rows-tab x es i = let o = In-map_cases (λ (e : Entry). row_of t e.number e.name e.mode) es i in sym (ap (λ (z : Row). z.client) o.2)

  -- All rows of a report belong to its tab, for any contents.
  told-tab : (x : Row) → In x (held_of t r.entries) ⊎ In x (waiting_of t r.entries) → t ≡ x.client
  told-tab x (inl i) = rows-tab x (filter (λ e. e.held) r.entries) i
  told-tab x (inr i) = rows-tab x (filter (λ e. not e.held) r.entries) i

  told-fits : (x : Row) → In x (held_of t r.entries) ⊎ In x (waiting_of t r.entries) → Fits (with_broker joined_broker w) p x
  told-fits x i = subst (λ u. (was_opened w u ≡ true) × (partition_of w u ≡ p) × (came joined_broker u ≡ true) × (IsHonest w u → IsKnown u (tab_of w u) x × ((tab_of w u).entered ≡ generation w))) (told-tab x i)
      (old, sym home, each_seat b t seat (λ u o. t ≡ u → has_arrived o ≡ true) (λ _. refl) (λ u n e. absurd (n e)) t refl, λ h. (told h x i, (facts h).0))

  restored-cases : (x : Row) → Stands x restored_locks → Stands x (manager_of b p) ⊎ (In x (held_of t r.entries) ⊎ In x (waiting_of t r.entries))
  unfolding restored
  restored-cases x (inl i) = ⊎_elim (λ a. inl (inl a)) (λ a. inr (inl a)) (In-append_cases (manager_of b p).held (held_of t r.entries) i)
  restored-cases x (inr i) = ⊎_elim (λ a. inl (inr a)) (λ a. inr (inr a)) (In-append_cases (manager_of b p).waiting (waiting_of t r.entries) i)

  restored-held : (x : Row) → In x restored_locks.held → In x (manager_of b p).held ⊎ In x (held_of t r.entries)
  unfolding restored
  restored-held x i = In-append_cases (manager_of b p).held (held_of t r.entries) i

  restored-keeps : (x : Row) → In x (manager_of b p).held ⊎ In x (held_of t r.entries) → In x restored_locks.held
  unfolding restored
  restored-keeps x (inl i) = In-append_left (held_of t r.entries) i
  restored-keeps x (inr i) = In-append_right (manager_of b p).held i

  locks : (P : ℕ → Locks → Type 0) → P p restored_locks → ((q : ℕ) → p ≢ q → P q (manager_of b q)) → (q : ℕ) → P q (manager_of joined_broker q)
  locks P h f q = each_manager P p restored_locks b.managers h f q

  -- Each lock that the report has as held was claimed as reported.
  was-reported : (x : Row) → IsHonest w x.client → In x (held_of t r.entries) → Claim (with_broker b w) p x
  was-reported x y i =
      let h = subst (IsHonest w) (sym (told-tab x (inl i))) y in
      reported (subst (λ u. (partition_of w u ≡ p) × (came b u ≡ false) × ((tab_of w u).entered ≡ generation w) × In x (held_of u (tab_of w u).report.entries)) (told-tab x (inl i))
      (sym home, new, (facts h).0, subst (λ z. In x (held_of t z)) (facts h).1 i))

  joined-claim : (q : ℕ) (x : Row) → IsHonest w x.client → Claim (with_broker joined_broker w) q x → Claim (with_broker b w) q x
  joined-claim q x y (stands h) = locks (λ z m. In x m.held → Claim (with_broker b w) z x) (λ i. ⊎_elim (λ a. stands a) (λ a. was-reported x y a) (restored-held x i)) (λ z n i. stands i) q h
  joined-claim q x y (reported c) = reported (c.0, not-before b t seat x.client c.1, c.2, c.3)
  joined-claim q x y (carried c) = carried c

  -- The manager of the tab's partition has each covered lock of a tab that has come: it held it, or the report has it.
  covers-here : (u k : ℕ) → IsHonest w u → Covered w u k → (tab_of w u).entered ≡ generation w → came joined_broker u ≡ true → p ≡ partition_of w u
      → In (row_at u (tab_of w u) k) (manager_of b p).held ⊎ In (row_at u (tab_of w u) k) (held_of t r.entries)
  covers-here u k y c e j same = each_seat b t seat
      (λ x z. IsHonest w x → Covered w x k → (tab_of w x).entered ≡ generation w → has_arrived z ≡ true → p ≡ partition_of w x → In (row_at x (tab_of w x) k) (manager_of b p).held ⊎ In (row_at x (tab_of w x) k) (held_of t r.entries))
      (λ y c e _ _. ⊎_elim (λ i. inr (subst (λ z. In (row_at t (tab_of w t) k) (held_of t z)) (sym (facts y).1) i)) (λ h. apart (s.locks.granted t _ k h e) new) c.cause)
      (λ x n y c e j same. inl (subst (λ z. In (row_at x (tab_of w x) k) (manager_of b z).held) (sym same) (s.locks.covers x k y c e j)))
      u y c e j same

  joined-sound : Sound (with_broker joined_broker w)
  joined-sound = broker-step w b joined_broker refl s (seated-seats w b s t seat (λ h _. (facts h).0) (λ d. apart d refl)) (record {
    granted = λ u g k h e. still b t seat u (s.locks.granted u g k h e);
    known = λ q x. locks (λ z m. Stands x m → Fits (with_broker joined_broker w) z x)
        (λ i. ⊎_elim (λ a. still-fits b t seat w p x (s.locks.known p x a)) (told-fits x) (restored-cases x i))
        (λ z n i. still-fits b t seat w z x (s.locks.known z x i)) q;
    covers = λ u k y c e j. locks (λ z m. z ≡ partition_of w u → In (row_at u (tab_of w u) k) m.held)
        (λ same. restored-keeps _ (covers-here u k y c e j same))
        (λ z n same. subst (λ y. In (row_at u (tab_of w u) k) (manager_of b y).held) (sym same) (s.locks.covers u k y c e
        (each_seat b t seat (λ x y. has_arrived y ≡ true → z ≡ partition_of w x → came b x ≡ true) (λ _ same'. absurd (n (home ∙ sym same'))) (λ x d h _. h) u j same)))
        (partition_of w u) refl;
    agree = λ q. Compatible-fewer (Counts (with_broker joined_broker w) q) (Counts (with_broker b w) q) (λ x c. (c.0, joined-claim q x c.0 c.1)) (s.locks.agree q);
  })

  join-sound : Follows w b (join b t p r)
  unfolding join
  join-sound = settled-told w (with_seat t seat b) p restored_locks (newly_at (with_seat t seat b) p restored_locks) []
      (λ x i. i) (λ _ a i. absurd (In-nil i)) joined-sound

-- A report or a part of a report arrives

pub told-sound : (w : WorldState) (b : BrokerState) → Sound (with_broker b w) → (t p : ℕ) (u : Upward) (x : Told) → content_of u ≡ Some x → In (up_message t p u) w.bag → generation_of u ≡ b.generation → is_named_dead b t ≡ false
    → Follows w b (take_report_part b t p x)
unfolding take_report_part join_if
told-sound w b s t p u x is i now alive =
    either (Follows w b) (is_joined (seat_of b t)) (Drops AlreadyJoined) _ (λ _. s)
    (λ new. either (Follows w b) (not (is_listed (listed_at t b.listed)) && has_held x.entries) (Drops HeldByNewcomer) _ (λ _. s)
    (λ _. either (Follows w b) (not (all_below x.base x.entries && fits x (partial_of b t))) (Drops BadReport) _ (λ _. s)
    (λ _. either (Follows w b) (has_part x (partial_of b t)) (Drops PartTwice) _ (λ _. s)
    (λ _. either (Follows w b) (is_whole (with_told p x (partial_of b t))) (join b t p (whole_of (with_told p x (partial_of b t)))) (Does (keeping t (with_told p x (partial_of b t)) b) [])
    (λ whole. join-sound w b s t p (whole_of (with_told p x (partial_of b t))) from.0 from.1 (or_from _ _ new alive)
    (λ h. ((said h).0, whole-entries (tab_of w t).in_parts (tab_of w t).report (with_told p x (partial_of b t)) (parts h) whole)))
    (λ _. kept-sound w b s (put t (with_told p x (partial_of b t)) b.partial)
    (each_found (λ v o. (k : Partial) → o ≡ Some k → (was_opened w v ≡ true) × (IsHonest w v → KeepsOf (generation w) (tab_of w v) k)) t (with_told p x (partial_of b t)) b.partial
    (λ k e. (from.0, λ h. subst (KeepsOf (generation w) (tab_of w t)) (some-same _ k e) ((said h).0, parts h)))
    (λ v n. (s.seats v).partial)))))))
  where
    from : (was_opened w t ≡ true) × (p ≡ partition_of w t) × (IsHonest w t → (0 < generation_of u) × (generation_of u ≤ (tab_of w t).entered) × (generation_of u ≡ (tab_of w t).entered → IsSaid (tab_of w t) u))
    from = (s.messages t).reports p u x is i

    -- An honest tab sends only the report that it made on entering, or parts of it.
    said : IsHonest w t → ((tab_of w t).entered ≡ generation w) × IsPartOf (tab_of w t).in_parts (tab_of w t).report x
    said h =
        let o = from.2 h in
        let g : generation_of u ≡ generation w = now ∙ s.current in
        let e : (tab_of w t).entered ≡ generation w = (let le : generation_of u ≤ (tab_of w t).entered = o.1 in let lt : (tab_of w t).entered < suc (generation w) = (s.tabs t).entered in omega arith) in
        (e, (body-told (tab_of w t).in_parts (tab_of w t).report u x (o.2 (g ∙ sym e)) is).1)

    parts : IsHonest w t → HasParts (tab_of w t).in_parts (tab_of w t).report (with_told p x (partial_of b t))
    parts h = with_told-HasParts (tab_of w t).in_parts (tab_of w t).report p x (partial_of b t) (said h).1 (λ k e. (((s.seats t).partial k e).1 h).1)

    some-same : (k m : Partial) → Some k ≡ Some m → k ≡ m
    some-same k m e = cc
