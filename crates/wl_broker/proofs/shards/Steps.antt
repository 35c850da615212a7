-- Single event, restricted to some partitions. An event of theirs changes the visible state in the
-- same way, and any other event does not change it.
use Rattle.std.proofs.Common.{◌≡◌, ℕ, ◌+◌, Bool, true, false, cond, not, ◌&&◌, ◌||◌, List, [], ◌∷◌, ◌++◌, map, filter, Option, Some, None, refl, sym, ap, ap₂, ◌∙◌, subst}
use Rattle.std.specs.Prelude.{◌==◌, nat_lt, nat_le}
use Rattle.std.specs.List.{list_all, range_with_len}
use Rattle.std.proofs.lemmas.Bool.{eqb-true, cond-true, cond-false}
use Rattle.wl_draft.specs.declared.row.Row.{Row}
use Rattle.wl_draft.specs.Tables.{put, find}
use Rattle.wl_draft.specs.Locks.{Locks, no_locks, settle_if, newly_granted_if, live, standing as standing_of, without, restored, ended}
use Rattle.wl_draft.proofs.Membership.{apart, either, by_test, along, map-same, filter-swap}
use Rattle.wl_draft.specs.Membership.{In, Here, Later}
use Rattle.wl_draft.proofs.RisingTables.{find-In}
use Rattle.wl_broker.proofs.Clients.{Own, Own-filter, restored-Stands, drafted-Stands, ended-Stands}
use Rattle.wl_grammar.specs.declared.frame.Operation.{Operation}
use Rattle.wl_grammar.specs.declared.frame.Operation.TheVariants.{Request, Release, Abort, Query}
use Rattle.wl_grammar.specs.declared.frame.Outcome.{Outcome}
use Rattle.wl_grammar.specs.declared.frame.Outcome.TheVariants.{Granted, Gone, Taken}
use Rattle.wl_grammar.specs.declared.frame.SnapshotEntry.{SnapshotEntry}
use Rattle.wl_grammar.specs.declared.frame.Addressed.{Addressed}
use Rattle.wl_grammar.specs.declared.frame.Stamped.{Stamped}
use Rattle.wl_grammar.specs.declared.frame.Upward.{Upward}
use Rattle.wl_grammar.specs.declared.frame.Upward.TheVariants as up
use Rattle.wl_grammar.specs.declared.frame.Downward.TheVariants as down
use Rattle.wl_broker_reports.specs.ReportParts.{has_held, all_below, Partial, Told, Whole, kept_at, at_once, in_part, fits, has_part, with_told, is_whole, whole_of}
use Rattle.wl_broker.specs.declared.seat.TabSeat.{TabSeat}
use Rattle.wl_broker.specs.declared.seat.TabSeat.TheVariants.{Joined, Dead}
use Rattle.wl_broker.specs.declared.dropped.Dropped.TheVariants.{OldGeneration, LaterGeneration, NotJoined, Recovering, OutOfTurn, DeadTab, AlreadyJoined, HeldByNewcomer, BadReport, Misplaced, TooMany, PartTwice}
use Rattle.wl_grammar.specs.Generation.{generation_of}
use Rattle.wl_broker.specs.Broker.{BrokerState, seat_of, manager_of, is_joined, is_dead, has_arrived, next_in, next_of, is_active, with_seat, settled_at, newly_at, answer_to, grants_to, outcome_of, snapshot_entries, snapshot_part, snapshot_to, first_answer, later_answer, listed_at, is_listed, elsewhere, seated_at, or_else, is_lock, limit_in, limit_of, is_misplaced, place_of, drafted, Taking, Drops, Does, join, perform, partial_of, keeping, join_if, take_report_part, take_command, take_inner, taking, buried_at, death_step}
use Rattle.wl_broker.specs.Events.{broker_after}
use Rattle.wl_broker.specs.Shards.{listed_of, is_seen, seen_at, taking_at, stands_in}
use Rattle.wl_broker.proofs.Takings.{Takes, joins, keeps, repeats, performs, taking-Takes}
use Rattle.wl_broker.proofs.shards.Cuts.{sieved, find-sieved, at-sieved, put-kept, put-lost, filter-spare}
use Rattle.wl_broker.proofs.shards.Homes.{newly_at-Own, AtHome, Homes, Placed, manager_of-AtHome, with_seat-Homes, settled_at-Homes, with_told-home, place_of-Placed, Takes-Homes}
use Rattle.wl_limits.specs.declared.tabs.TheConstants.{LAST_NUMBER}
use Rattle.wl_grammar.specs.PartCount.{part_count}

-- The seats that are visible in these partitions.
abbrev seat_test : (ℕ → Bool) → ℕ × TabSeat → Bool
seat_test f row = is_seen f row.1

abbrev part_test : (ℕ → Bool) → ℕ × Partial → Bool
part_test f row = f row.1.partition

module _ (home : ℕ → ℕ) (f : ℕ → Bool) where
  -- Look-ups

  seen-seat : (b : BrokerState) (t : ℕ) → Homes home b → seat_of (seen_at f b) t ≡ sieved (seat_test f) t (seat_of b t)
  seen-seat b t h = find-sieved (seat_test f) t 0 b.seats h.seats_rise

  for-seat : (b : BrokerState) (t : ℕ) → f (home t) ≡ true → Homes home b → seat_of (seen_at f b) t ≡ seat_of b t
  for-seat b t e h = seen-seat b t h ∙ go (seat_of b t) refl
    where
      go : (s : Option TabSeat) → seat_of b t ≡ s → sieved (seat_test f) t s ≡ s
      go None is = refl
      go (Some Dead) is = refl
      go (Some (Joined p n l)) is = cond-true _ _ _ (sym (ap f (h.seats (t, Joined p n l) (find-In b.seats t (Joined p n l) is))) ∙ e)

  -- A dead tab is visible in all shards.
  for-dead : (b : BrokerState) (t : ℕ) → Homes home b → is_dead (seat_of (seen_at f b) t) ≡ is_dead (seat_of b t)
  for-dead b t h = ap is_dead (seen-seat b t h) ∙ go (seat_of b t)
    where
      go : (s : Option TabSeat) → is_dead (sieved (seat_test f) t s) ≡ is_dead s
      go None = refl
      go (Some Dead) = refl
      go (Some (Joined p n l)) = either (λ z. is_dead z ≡ false) (f p) (Some (Joined p n l)) None (λ _. refl) (λ _. refl)

  -- A tab of other partitions has not joined in these.
  lost-seat : (b : BrokerState) (t : ℕ) → f (home t) ≡ false → Homes home b → seated_at (seat_of (seen_at f b) t) ≡ None
  lost-seat b t e h = ap seated_at (seen-seat b t h) ∙ go (seat_of b t) refl
    where
      go : (s : Option TabSeat) → seat_of b t ≡ s → seated_at (sieved (seat_test f) t s) ≡ None
      go None is = refl
      go (Some Dead) is = refl
      go (Some (Joined p n l)) is = ap seated_at (cond-false _ _ _ (sym (ap f (h.seats (t, Joined p n l) (find-In b.seats t (Joined p n l) is))) ∙ e))

  for-manager : (b : BrokerState) (p : ℕ) → f p ≡ true → Homes home b → manager_of (seen_at f b) p ≡ manager_of b p
  for-manager b p e h = at-sieved f no_locks p 0 b.managers h.managers_rise e

  for-partial : (b : BrokerState) (t : ℕ) → f (home t) ≡ true → Homes home b → partial_of (seen_at f b) t ≡ partial_of b t
  for-partial b t e h = find-sieved (part_test f) t 0 b.partial h.partial_rise ∙ go (partial_of b t) refl
    where
      go : (o : Option Partial) → partial_of b t ≡ o → sieved (part_test f) t o ≡ o
      go None is = refl
      go (Some k) is = cond-true _ _ _ (sym (ap f (h.partial (t, k) (find-In b.partial t k is))) ∙ e)

  listed-in : (t : ℕ) (ls : List (ℕ × ℕ)) → f (home t) ≡ true → ((x : ℕ × ℕ) → In x ls → home x.0 ≡ x.1) → listed_at t (listed_of f ls) ≡ listed_at t ls
  listed-in t [] e h = refl
  listed-in t (x ∷ xs) e h =
      let rest = listed-in t xs e (λ y i. h y (Later i)) in
      either (λ zs. listed_at t zs ≡ cond (x.0 == t) (Some x.1) (listed_at t xs)) (f x.1) (x ∷ listed_of f xs) (listed_of f xs)
      (λ _. ap (λ z. cond (x.0 == t) (Some x.1) z) rest)
      (λ n. rest ∙ by_test (λ v. listed_at t xs ≡ cond v (Some x.1) (listed_at t xs)) (x.0 == t)
      (λ s. apart (sym (ap f (h x Here)) ∙ ap (λ z. f (home z)) (eqb-true x.0 t s) ∙ e) n) (λ _. refl))

  listed-out : (t : ℕ) (ls : List (ℕ × ℕ)) → f (home t) ≡ false → ((x : ℕ × ℕ) → In x ls → home x.0 ≡ x.1) → listed_at t (listed_of f ls) ≡ None
  listed-out t [] e h = refl
  listed-out t (x ∷ xs) e h =
      let rest = listed-out t xs e (λ y i. h y (Later i)) in
      either (λ zs. listed_at t zs ≡ None) (f x.1) (x ∷ listed_of f xs) (listed_of f xs)
      (λ y. either (λ z. z ≡ None) (x.0 == t) (Some x.1) (listed_at t (listed_of f xs))
      (λ s. apart y (sym (ap f (h x Here)) ∙ ap (λ z. f (home z)) (eqb-true x.0 t s) ∙ e)) (λ _. rest))
      (λ _. rest)

  for-listed : (b : BrokerState) (t : ℕ) → f (home t) ≡ true → Homes home b → listed_at t (listed_of f b.listed) ≡ listed_at t b.listed
  for-listed b t e h = listed-in t b.listed e h.listed

  for-all_arrived : (b : BrokerState) (p : ℕ) (ls : List (ℕ × ℕ)) → f p ≡ true → Homes home b → ((x : ℕ × ℕ) → In x ls → home x.0 ≡ x.1)
      → list_all (λ x. not (x.1 == p) || has_arrived (seat_of (seen_at f b) x.0)) (listed_of f ls) ≡ list_all (λ x. not (x.1 == p) || has_arrived (seat_of b x.0)) ls
  for-all_arrived b p [] e h l = refl
  for-all_arrived b p (x ∷ xs) e h l =
      let rest = for-all_arrived b p xs e h (λ y i. l y (Later i)) in
      either (λ zs. list_all (λ x. not (x.1 == p) || has_arrived (seat_of (seen_at f b) x.0)) zs ≡ ((not (x.1 == p) || has_arrived (seat_of b x.0)) && list_all (λ x. not (x.1 == p) || has_arrived (seat_of b x.0)) xs))
      (f x.1) (x ∷ listed_of f xs) (listed_of f xs)
      (λ y. ap₂ (λ s v. (not (x.1 == p) || has_arrived s) && v) (for-seat b x.0 (ap f (l x Here) ∙ y) h) rest)
      (λ n. rest
      ∙ by_test (λ v. list_all (λ x. not (x.1 == p) || has_arrived (seat_of b x.0)) xs ≡ ((not v || has_arrived (seat_of b x.0)) && list_all (λ x. not (x.1 == p) || has_arrived (seat_of b x.0)) xs)) (x.1 == p)
      (λ s. apart (ap f (eqb-true x.1 p s) ∙ e) n)
      (λ _. refl))

  for-active : (b : BrokerState) (p : ℕ) → f p ≡ true → Homes home b → is_active (seen_at f b) p ≡ is_active b p
  unfolding is_active
  for-active b p e h = for-all_arrived b p b.listed e h h.listed

  -- A message of these partitions

  own-with_seat : (t : ℕ) (s : TabSeat) (b : BrokerState) → is_seen f s ≡ true → Homes home b → with_seat t s (seen_at f b) ≡ seen_at f (with_seat t s b)
  own-with_seat t s b e h =
      ap₂ (λ z ks. record (seen_at f b) { seats = z; partial = ks })
      (sym (put-kept (seat_test f) t s 0 b.seats e h.seats_rise)) (filter-swap (λ (row : ℕ × Partial). not (row.0 == t)) (part_test f) b.partial)

  own-keeping : (t : ℕ) (k : Partial) (b : BrokerState) → f k.partition ≡ true → Homes home b → keeping t k (seen_at f b) ≡ seen_at f (keeping t k b)
  own-keeping t k b e h = ap (λ z. record (seen_at f b) { partial = z }) (sym (put-kept (part_test f) t k 0 b.partial e h.partial_rise))

  own-settled_at : (b : BrokerState) (p : ℕ) (m : Locks) → f p ≡ true → Homes home b → settled_at (seen_at f b) p m ≡ seen_at f (settled_at b p m)
  unfolding settled_at
  own-settled_at b p m e h =
      ap (λ z. record (seen_at f b) { managers = z })
      (ap (λ z. put p (settle_if z m) (filter (λ (row : ℕ × Locks). f row.0) b.managers)) (for-active b p e h)
      ∙ sym (put-kept (λ (row : ℕ × Locks). f row.0) p (settle_if (is_active b p) m) 0 b.managers e h.managers_rise))

  own-newly_at : (b : BrokerState) (p : ℕ) (m : Locks) → f p ≡ true → Homes home b → newly_at (seen_at f b) p m ≡ newly_at b p m
  unfolding newly_at
  own-newly_at b p m e h = ap (λ z. newly_granted_if z m) (for-active b p e h)

  own-answer : (b : BrokerState) (t n : ℕ) (o : Outcome) → f (home t) ≡ true → Homes home b → answer_to (seen_at f b) t n o ≡ answer_to b t n o
  own-answer b t n o e h =
      ap (λ s. record { tab = t; inner = down.Answer (record { generation = b.generation; upto = next_in s; number = n; outcome = o }) }) (for-seat b t e h)

  own-grants : (b : BrokerState) (p : ℕ) (rows : List Row) → f p ≡ true → Own (λ t. home t ≡ p) rows → Homes home b → grants_to (seen_at f b) rows ≡ grants_to b rows
  own-grants b p rows e own h =
      map-same (λ r. answer_to (seen_at f b) r.client r.number Granted) (λ r. answer_to b r.client r.number Granted) rows
      (λ r i. own-answer b r.client r.number Granted (ap f (own r i) ∙ e) h)

  -- The locks are settled, and the broker sends the grants.
  abbrev settles : BrokerState → ℕ → Locks → Taking
  settles b p m = Does (settled_at b p m) (grants_to (settled_at b p m) (newly_at b p m))

  own-settles : (b : BrokerState) (p : ℕ) (m : Locks) → f p ≡ true → AtHome home p m → Homes home b → settles (seen_at f b) p m ≡ taking_at f (settles b p m)
  own-settles b p m e s h =
      ap₂ Does (own-settled_at b p m e h)
      (ap₂ grants_to (own-settled_at b p m e h) (own-newly_at b p m e h)
      ∙ own-grants (settled_at b p m) p (newly_at b p m) e (newly_at-Own (λ t. home t ≡ p) b p m s) (settled_at-Homes home b p m s h))

  own-join : (b : BrokerState) (t p : ℕ) (r : Whole) → f p ≡ true → home t ≡ p → Homes home b → join (seen_at f b) t p r ≡ taking_at f (join b t p r)
  unfolding join
  own-join b t p r e m h =
      ap₂ (λ c x. settles c p (restored t r.entries x)) (own-with_seat t (Joined p r.base r.limit) b e h) (for-manager b p e h)
      ∙ own-settles (with_seat t (Joined p r.base r.limit) b) p (restored t r.entries (manager_of b p)) e
      (restored-Stands (λ t. home t ≡ p) t r.entries (manager_of b p) m (manager_of-AtHome home b p h)) (with_seat-Homes home t (Joined p r.base r.limit) b m h)

  own-standing : (b : BrokerState) (t p n : ℕ) → f (home t) ≡ true → f p ≡ true → Homes home b
      → answer_to (seen_at f b) t n (outcome_of (standing_of (manager_of (seen_at f b) p) t n)) ≡ answer_to b t n (outcome_of (standing_of (manager_of b p) t n))
  own-standing b t p n e i h = own-answer b t n _ e h ∙ ap (λ m. answer_to b t n (outcome_of (standing_of m t n))) (for-manager b p i h)

  own-snapshot : (b : BrokerState) (t n : ℕ) (entries : List SnapshotEntry) → f (home t) ≡ true → Homes home b → snapshot_to (seen_at f b) t n entries ≡ snapshot_to b t n entries
  own-snapshot b t n entries e h =
      ap (λ z. cond (nat_lt 65535 (part_count entries)) (z ∷ []) (map (snapshot_part b t n entries) (range_with_len 0 (part_count entries)))) (own-answer b t n Gone e h)

  own-first_answer : (b : BrokerState) (t p n : ℕ) (o : Operation) → f (home t) ≡ true → f p ≡ true → Homes home b → first_answer (seen_at f b) t p n o ≡ first_answer b t p n o
  own-first_answer b t p n (Request mode if_available name) e i h = ap (λ z. z ∷ []) (own-standing b t p n e i h)
  own-first_answer b t p n (Release k) e i h = ap (λ z. z ∷ []) (own-answer b t n Taken e h)
  own-first_answer b t p n (Abort k) e i h = ap (λ z. z ∷ []) (own-answer b t n Taken e h)
  own-first_answer b t p n Query e i h = own-snapshot b t n (snapshot_entries (manager_of (seen_at f b) p)) e h ∙ ap (λ m. snapshot_to b t n (snapshot_entries m)) (for-manager b p i h)

  own-later_answer : (b : BrokerState) (t p n : ℕ) (o : Operation) → f (home t) ≡ true → f p ≡ true → Homes home b → later_answer (seen_at f b) t p n o ≡ later_answer b t p n o
  own-later_answer b t p n (Request mode if_available name) e i h = own-standing b t p n e i h
  own-later_answer b t p n (Release k) e i h = own-answer b t n Taken e h
  own-later_answer b t p n (Abort k) e i h = own-answer b t n Taken e h
  own-later_answer b t p n Query e i h = own-answer b t n Gone e h

  -- The broker answers the sender, and sends the grants to others.
  abbrev done : BrokerState → ℕ → Locks → ℕ → ℕ → Operation → Taking
  done b p m t n o = Does (settled_at b p m) (first_answer (settled_at b p m) t p n o ++ grants_to (settled_at b p m) (without t n (newly_at b p m)))

  own-done : (b : BrokerState) (p : ℕ) (m : Locks) (t n : ℕ) (o : Operation) → f (home t) ≡ true → f p ≡ true → AtHome home p m → Homes home b
      → done (seen_at f b) p m t n o ≡ taking_at f (done b p m t n o)
  own-done b p m t n o i e s h =
      let z = settled_at b p m in
      let zh = settled_at-Homes home b p m s h in
      let own = Own-filter (λ t. home t ≡ p) _ (newly_at b p m) (newly_at-Own (λ t. home t ≡ p) b p m s) in
      ap₂ Does (own-settled_at b p m e h)
      (ap₂ ◌++◌
      (ap (λ c. first_answer c t p n o) (own-settled_at b p m e h) ∙ own-first_answer z t p n o i e zh)
      (ap₂ (λ c rows. grants_to c (without t n rows)) (own-settled_at b p m e h) (own-newly_at b p m e h) ∙ own-grants z p (without t n (newly_at b p m)) e own zh))

  own-perform : (b : BrokerState) (t p n : ℕ) (o : Operation) → f (home t) ≡ true → f p ≡ true → home t ≡ p → Homes home b → perform (seen_at f b) t p n o ≡ taking_at f (perform b t p n o)
  unfolding perform
  own-perform b t p n o i e m h =
      ap (λ s. done (with_seat t (Joined p (n + 1) (limit_in s)) (seen_at f b)) p (drafted t n o (manager_of (seen_at f b) p)) t n o) (for-seat b t i h)
      ∙ ap₂ (λ c x. done c p (drafted t n o x) t n o) (own-with_seat t (Joined p (n + 1) (limit_of b t)) b e h) (for-manager b p e h)
      ∙ own-done (with_seat t (Joined p (n + 1) (limit_of b t)) b) p (drafted t n o (manager_of b p)) t n o i e
      (drafted-Stands (λ t. home t ≡ p) t n o (manager_of b p) m (manager_of-AtHome home b p h)) (with_seat-Homes home t (Joined p (n + 1) (limit_of b t)) b m h)

  own-told : (b : BrokerState) (t p : ℕ) (x : Told) → f (home t) ≡ true → f p ≡ true → home t ≡ p → Homes home b → take_report_part (seen_at f b) t p x ≡ taking_at f (take_report_part b t p x)
  unfolding take_report_part join_if
  own-told b t p x i e m h =
      let k = with_told p x (partial_of b t) in
      along (taking_at f) (is_joined (seat_of (seen_at f b) t)) (is_joined (seat_of b t)) _ _ (Drops AlreadyJoined) _ (ap is_joined (for-seat b t i h)) (λ _. refl)
      (λ _. along (taking_at f) (not (is_listed (listed_at t (listed_of f b.listed))) && has_held x.entries) (not (is_listed (listed_at t b.listed)) && has_held x.entries) _ _ (Drops HeldByNewcomer) _
      (ap (λ z. not (is_listed z) && has_held x.entries) (for-listed b t i h)) (λ _. refl)
      (λ _. along (taking_at f) (not (all_below x.base x.entries && fits x (partial_of (seen_at f b) t))) (not (all_below x.base x.entries && fits x (partial_of b t))) _ _ (Drops BadReport) _
      (ap (λ z. not (all_below x.base x.entries && fits x z)) (for-partial b t i h)) (λ _. refl)
      (λ _. along (taking_at f) (has_part x (partial_of (seen_at f b) t)) (has_part x (partial_of b t)) _ _ (Drops PartTwice) _
      (ap (has_part x) (for-partial b t i h)) (λ _. refl)
      (λ _. ap (λ z. cond (is_whole (with_told p x z)) (join (seen_at f b) t p (whole_of (with_told p x z))) (Does (keeping t (with_told p x z) (seen_at f b)) [])) (for-partial b t i h)
      ∙ along (taking_at f) (is_whole k) (is_whole k) (join (seen_at f b) t p (whole_of k)) (Does (keeping t k (seen_at f b)) []) (join b t p (whole_of k)) (Does (keeping t k b) []) refl
      (λ _. own-join b t p (whole_of k) e m h) (λ _. ap (λ c. Does c []) (own-keeping t k b (sym (ap f (with_told-home home b t p x m h)) ∙ i) h))))))

  own-inner : (b : BrokerState) (t p : ℕ) (u : Upward) → f (home t) ≡ true → f p ≡ true → home t ≡ p → Homes home b → take_inner (seen_at f b) t p u ≡ taking_at f (take_inner b t p u)
  unfolding take_command
  own-inner b t p (up.Report r) i e m h = own-told b t p (at_once r) i e m h
  own-inner b t p (up.ReportPart r) i e m h = own-told b t p (in_part r) i e m h
  own-inner b t p (up.Command c) i e m h =
      let n = c.number in
      let o = c.operation in
      along (taking_at f) (not (is_joined (seat_of (seen_at f b) t))) (not (is_joined (seat_of b t))) _ _ (Drops NotJoined) _ (ap (λ s. not (is_joined s)) (for-seat b t i h)) (λ _. refl)
      (λ _. along (taking_at f) (not (is_active (seen_at f b) p)) (not (is_active b p)) _ _ (Drops Recovering) _ (ap not (for-active b p e h)) (λ _. refl)
      (λ _. along (taking_at f) (nat_lt (next_of (seen_at f b) t) n || n == LAST_NUMBER) (nat_lt (next_of b t) n || n == LAST_NUMBER) _ _ (Drops OutOfTurn) _
      (ap (λ s. nat_lt (next_in s) n || n == LAST_NUMBER) (for-seat b t i h)) (λ _. refl)
      (λ _. along (taking_at f) (nat_lt n (next_of (seen_at f b) t)) (nat_lt n (next_of b t)) _ _ (Does b (later_answer b t p n o ∷ [])) _ (ap (λ s. nat_lt n (next_in s)) (for-seat b t i h))
      (λ _. ap (λ z. Does (seen_at f b) (z ∷ [])) (own-later_answer b t p n o i e h))
      (λ _. along (taking_at f) (is_lock o && nat_le (limit_of (seen_at f b) t) (live (manager_of (seen_at f b) p) t)) (is_lock o && nat_le (limit_of b t) (live (manager_of b p) t)) _ _ (Drops TooMany) (perform b t p n o)
      (ap₂ (λ s z. is_lock o && nat_le (limit_in s) (live z t)) (for-seat b t i h) (for-manager b p e h)) (λ _. refl)
      (λ _. own-perform b t p n o i e m h)))))

  for-misplaced : (b : BrokerState) (t p : ℕ) → f (home t) ≡ true → Homes home b → is_misplaced (seen_at f b) t p ≡ is_misplaced b t p
  unfolding is_misplaced
  for-misplaced b t p i h = ap₂ (λ q s. elsewhere q p || s) (for-listed b t i h) (ap₂ (λ s k. elsewhere (seated_at s) p || elsewhere (kept_at k) p) (for-seat b t i h) (for-partial b t i h))

  -- The visible state takes a message of these partitions as the whole state does.
  pub own-taking : (b : BrokerState) (x : Stamped) → f x.partition ≡ true → home x.tab ≡ x.partition → Homes home b → taking (seen_at f b) x ≡ taking_at f (taking b x)
  unfolding taking
  own-taking b x e m h =
      let i : f (home x.tab) ≡ true = ap f m ∙ e in
      along (taking_at f) (nat_lt (generation_of x.inner) b.generation) (nat_lt (generation_of x.inner) b.generation) _ _ (Drops OldGeneration) _ refl (λ _. refl)
      (λ _. along (taking_at f) (nat_lt b.generation (generation_of x.inner)) (nat_lt b.generation (generation_of x.inner)) _ _ (Drops LaterGeneration) _ refl (λ _. refl)
      (λ _. along (taking_at f) (is_dead (seat_of (seen_at f b) x.tab)) (is_dead (seat_of b x.tab)) _ _ (Drops DeadTab) _ (for-dead b x.tab h) (λ _. refl)
      (λ _. along (taking_at f) (is_misplaced (seen_at f b) x.tab x.partition) (is_misplaced b x.tab x.partition) _ _ (Drops Misplaced) (take_inner b x.tab x.partition x.inner)
      (for-misplaced b x.tab x.partition i h) (λ _. refl)
      (λ _. own-inner b x.tab x.partition x.inner i e m h))))

  -- A message of another partition

  -- A living tab of another partition has no visible seat.
  none-seen : (b : BrokerState) (t : ℕ) → f (home t) ≡ false → is_dead (seat_of b t) ≡ false → Homes home b → (s : TabSeat) → find b.seats t ≡ Some s → is_seen f s ≡ false
  none-seen b t e alive h (Joined p n l) is = sym (ap f (h.seats (t, Joined p n l) (find-In b.seats t (Joined p n l) is))) ∙ e
  none-seen b t e alive h Dead is = apart (ap is_dead is) alive

  out-with_seat : (t : ℕ) (s : TabSeat) (b : BrokerState) → f (home t) ≡ false → is_seen f s ≡ false → is_dead (seat_of b t) ≡ false → Homes home b → seen_at f (with_seat t s b) ≡ seen_at f b
  out-with_seat t s b e n alive h =
      ap₂ (λ z ks. record (seen_at f b) { seats = z; partial = ks })
      (put-lost (seat_test f) t s b.seats n (none-seen b t e alive h))
      (filter-spare (part_test f) t b.partial (λ k i. sym (ap f (h.partial (t, k) i)) ∙ e))

  out-keeping : (t : ℕ) (k : Partial) (b : BrokerState) → f (home t) ≡ false → f k.partition ≡ false → Homes home b → seen_at f (keeping t k b) ≡ seen_at f b
  out-keeping t k b e n h =
      ap (λ z. record (seen_at f b) { partial = z }) (put-lost (part_test f) t k b.partial n (λ y i. sym (ap f (h.partial (t, y) (find-In b.partial t y i))) ∙ e))

  out-settled_at : (b : BrokerState) (p : ℕ) (m : Locks) → f p ≡ false → seen_at f (settled_at b p m) ≡ seen_at f b
  unfolding settled_at
  out-settled_at b p m e =
      ap (λ z. record (seen_at f b) { managers = z }) (put-lost (λ (row : ℕ × Locks). f row.0) p (settle_if (is_active b p) m) b.managers e (λ y i. e))

  out-Takes : {b : BrokerState} {t p : ℕ} {u : Upward} {after : BrokerState} {outs : List Addressed} → Takes b t p u after outs → f p ≡ false → home t ≡ p → Homes home b → seen_at f after ≡ seen_at f b
  out-Takes {b = b} {t = t} {p = p} (joins {x = x} is pass may full) e m h =
      let r = whole_of (with_told p x (partial_of b t)) in
      out-settled_at (with_seat t (Joined p r.base r.limit) b) p _ e ∙ out-with_seat t (Joined p r.base r.limit) b (ap f m ∙ e) e pass.alive h
  out-Takes {b = b} {t = t} {p = p} (keeps {x = x} is pass may part) e m h =
      out-keeping t (with_told p x (partial_of b t)) b (ap f m ∙ e) (sym (ap f (with_told-home home b t p x m h)) ∙ ap f m ∙ e) h
  out-Takes (repeats pass served old) e m h = refl
  out-Takes {b = b} {t = t} {p = p} (performs {c = c} pass served next) e m h =
      out-settled_at (with_seat t (Joined p (c.number + 1) (limit_of b t)) b) p _ e ∙ out-with_seat t (Joined p (c.number + 1) (limit_of b t)) b (ap f m ∙ e) e pass.alive h

  -- The message does not change the visible state.
  pub out-taking : (b : BrokerState) (x : Stamped) → f x.partition ≡ false → home x.tab ≡ x.partition → Homes home b → seen_at f (broker_after b (taking b x)) ≡ seen_at f b
  out-taking b x e m h = go (taking b x) refl
    where
      go : (y : Taking) → taking b x ≡ y → seen_at f (broker_after b y) ≡ seen_at f b
      go (Drops r) is = refl
      go (Does after outs) is = out-Takes (taking-Takes b x after outs is) e m h

  -- A message keeps all state at home.
  pub taking-Homes : (b : BrokerState) (x : Stamped) → home x.tab ≡ x.partition → Homes home b → Homes home (broker_after b (taking b x))
  taking-Homes b x m h = go (taking b x) refl
    where
      go : (y : Taking) → taking b x ≡ y → Homes home (broker_after b y)
      go (Drops r) is = h
      go (Does after outs) is = Takes-Homes home (taking-Takes b x after outs is) m h

  -- Deaths

  -- A death changes the visible state in the same way, and only the shard of the tab's partition
  -- sends frames.
  pub record BuriesAlike (b : BrokerState) (t : ℕ) (all own : BrokerState × List Addressed) : Type 0 where
    pub state : seen_at f all.0 ≡ own.0
    pub sent : own.1 ≡ cond (stands_in f (place_of b t)) all.1 []

  for-place : (b : BrokerState) (t : ℕ) → f (home t) ≡ true → Homes home b → place_of (seen_at f b) t ≡ place_of b t
  unfolding place_of
  for-place b t e h = ap₂ (λ q s. or_else (seated_at s) q) (for-listed b t e h) (for-seat b t e h)

  no-place : (b : BrokerState) (t : ℕ) → f (home t) ≡ false → Homes home b → place_of (seen_at f b) t ≡ None
  unfolding place_of
  no-place b t e h = ap₂ (λ q s. or_else s q) (listed-out t b.listed e h.listed) (lost-seat b t e h)

  settles-buried : (b : BrokerState) (t p : ℕ) → f p ≡ true → Homes home b → buried_at (seen_at f b) t (Some p) ≡ (seen_at f (buried_at b t (Some p)).0, (buried_at b t (Some p)).1)
  settles-buried b t p e h =
      let m = ended t (manager_of b p) in
      let s = ended-Stands (λ t. home t ≡ p) t (manager_of b p) (manager_of-AtHome home b p h) in
      ap (λ x. (settled_at (seen_at f b) p (ended t x), grants_to (settled_at (seen_at f b) p (ended t x)) (newly_at (seen_at f b) p (ended t x)))) (for-manager b p e h)
      ∙ ap₂ (λ (c : BrokerState) (outs : List Addressed). (c, outs)) (own-settled_at b p m e h)
      (ap₂ grants_to (own-settled_at b p m e h) (own-newly_at b p m e h)
      ∙ own-grants (settled_at b p m) p (newly_at b p m) e (newly_at-Own (λ t. home t ≡ p) b p m s) (settled_at-Homes home b p m s h))

  -- A death in the shard of the tab, by the tab's partition.
  in-buried : (b : BrokerState) (t : ℕ) (q : Option ℕ) → f (home t) ≡ true → Placed home t q → Homes home b
      → (seen_at f (buried_at b t q).0 ≡ (buried_at (seen_at f b) t q).0) × ((buried_at (seen_at f b) t q).1 ≡ cond (stands_in f q) (buried_at b t q).1 [])
  in-buried b t None e m h = (refl, refl)
  in-buried b t (Some p) e m h =
      let i : f p ≡ true = sym (ap f m) ∙ e in
      (sym (ap (λ z. z.0) (settles-buried b t p i h)), ap (λ z. z.1) (settles-buried b t p i h) ∙ sym (cond-true _ _ _ i))

  out-buried : (b : BrokerState) (t : ℕ) (q : Option ℕ) → f (home t) ≡ false → Placed home t q
      → (seen_at f (buried_at b t q).0 ≡ seen_at f b) × ([] ≡ cond (stands_in f q) (buried_at b t q).1 [])
  out-buried b t None e m = (refl, refl)
  out-buried b t (Some p) e m =
      let i : f p ≡ false = sym (ap f m) ∙ e in
      (out-settled_at b p (ended t (manager_of b p)) i, sym (cond-false _ _ _ i))

  living-buries : (b : BrokerState) (t : ℕ) → Homes home b
      → BuriesAlike b t (buried_at (with_seat t Dead b) t (place_of b t)) (buried_at (with_seat t Dead (seen_at f b)) t (place_of (seen_at f b) t))
  living-buries b t h =
      let z = with_seat t Dead b in
      let zh : Homes home z = with_seat-Homes home t Dead b tt h in
      let same : with_seat t Dead (seen_at f b) ≡ seen_at f z = own-with_seat t Dead b refl h in
      let placed = place_of-Placed home b t h in
      by_test (λ v. f (home t) ≡ v → BuriesAlike b t (buried_at z t (place_of b t)) (buried_at (with_seat t Dead (seen_at f b)) t (place_of (seen_at f b) t))) (f (home t))
      (λ e _.
      let o = in-buried z t (place_of b t) e placed zh in
      subst (λ x. BuriesAlike b t (buried_at z t (place_of b t)) x) (sym (ap₂ (λ c q. buried_at c t q) same (for-place b t e h))) (record { state = o.0; sent = o.1 }))
      (λ e _.
      let o = out-buried z t (place_of b t) e placed in
      subst (λ x. BuriesAlike b t (buried_at z t (place_of b t)) x) (sym (ap₂ (λ c q. buried_at c t q) same (no-place b t e h))) (record { state = o.0; sent = o.1 }))
      refl

  pub buries-alike : (b : BrokerState) (t : ℕ) → Homes home b → BuriesAlike b t (death_step b t) (death_step (seen_at f b) t)
  unfolding death_step
  buries-alike b t h =
      subst (λ v. BuriesAlike b t (death_step b t) (cond v (seen_at f b, []) (buried_at (with_seat t Dead (seen_at f b)) t (place_of (seen_at f b) t)))) (sym (for-dead b t h))
      (by_test (λ v. BuriesAlike b t (cond v (b, []) (buried_at (with_seat t Dead b) t (place_of b t))) (cond v (seen_at f b, []) (buried_at (with_seat t Dead (seen_at f b)) t (place_of (seen_at f b) t)))) (is_dead (seat_of b t))
      (λ _. record { state = refl; sent = either (λ z. [] ≡ z) (stands_in f (place_of b t)) [] [] (λ _. refl) (λ _. refl) })
      (λ _. living-buries b t h))
