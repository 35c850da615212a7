-- The broker restricted to a partition's tabs: it acts alike on their messages, and other messages leave it unchanged.
use Rattle.std.proofs.Common.{◌≡◌, ℕ, ◌+◌, Bool, true, false, cond, not, ◌&&◌, ◌||◌, List, [], ◌∷◌, ◌++◌, map, Option, Some, None, refl, sym, ap, ap₂, ◌∙◌, subst}
use Rattle.std.specs.Prelude.{◌==◌, nat_lt, nat_le}
use Rattle.std.specs.List.{list_all, range_with_len}
use Rattle.std.proofs.lemmas.Bool.{eqb-true, cond-true, cond-false}
use Rattle.std.proofs.lemmas.List.Elements.{filter-append}
use Rattle.wl_draft.specs.declared.row.Row.{Row}
use Rattle.wl_draft.specs.Tables.{put}
use Rattle.wl_draft.specs.Locks.{Locks, no_locks, settle_if, newly_granted_if, live, standing as standing_of, without, restored, ended}
use Rattle.wl_broker.proofs.Clients.{Own, Stands, restored-Stands, drafted-Stands, ended-Stands}
use Rattle.wl_grammar.specs.declared.frame.Operation.{Operation}
use Rattle.wl_grammar.specs.declared.frame.Operation.TheVariants.{Request, Release, Abort, Query}
use Rattle.wl_grammar.specs.declared.frame.Outcome.{Outcome}
use Rattle.wl_grammar.specs.declared.frame.Outcome.TheVariants.{Granted, Gone, Taken}
use Rattle.wl_grammar.specs.declared.frame.SnapshotEntry.{SnapshotEntry}
use Rattle.wl_grammar.specs.declared.frame.Addressed.{Addressed}
use Rattle.wl_grammar.specs.declared.frame.Stamped.{Stamped}
use Rattle.wl_grammar.specs.declared.frame.Upward.{Upward}
use Rattle.wl_grammar.specs.declared.frame.Upward.TheVariants as up
use Rattle.wl_grammar.specs.declared.frame.Downward.TheVariants as down
use Rattle.wl_broker_reports.specs.ReportParts.{has_held, all_below, Partial, Told, Whole, kept_at, at_once, in_part, fits, has_part, with_told, is_whole, whole_of}
use Rattle.wl_broker.specs.declared.seat.TabSeat.{TabSeat}
use Rattle.wl_broker.specs.declared.seat.TabSeat.TheVariants.{Joined, Dead}
use Rattle.wl_broker.specs.declared.dropped.Dropped.TheVariants.{OldGeneration, LaterGeneration, NotJoined, Recovering, OutOfTurn, DeadTab, AlreadyJoined, HeldByNewcomer, BadReport, Misplaced, TooMany, PartTwice}
use Rattle.wl_grammar.specs.Generation.{generation_of}
use Rattle.wl_broker.specs.Broker.{BrokerState, seat_of, manager_of, is_joined, is_dead, has_arrived, next_in, next_of, is_active, with_seat, settled_at, newly_at, answer_to, grants_to, outcome_of, snapshot_entries, snapshot_part, snapshot_to, first_answer, later_answer, listed_at, is_listed, elsewhere, seated_at, or_else, is_lock, limit_in, limit_of, is_misplaced, place_of, drafted, Taking, Drops, Does, join, perform, partial_of, keeping, join_if, take_report_part, take_command, take_inner, taking, buried_at, death_step}
use Rattle.wl_draft.specs.Membership.{In, Here, Later}
use Rattle.wl_draft.proofs.Membership.{apart, either, by_test, along, filter-swap, map-same}
use Rattle.wl_world_model.specs.Apart.{only, broker_for}
use Rattle.wl_world_model.proofs.apart.Cuts.{filter-all, filter-unchanged, filter-spare, find-only, at-only, only-insert_sorted, only-put_out}
use Rattle.wl_world_model.proofs.apart.CutMail.{outs_for}
use Rattle.wl_world_model.proofs.apart.OnePartition.{Mates, Fits, first-told, later-told, grants-told, manager_of-Stands, with_seat-Fits, newly_at-Own, without-Own, Placed, place_of-Placed, settles, buries}
use Rattle.wl_limits.specs.declared.tabs.TheConstants.{LAST_NUMBER}
use Rattle.wl_grammar.specs.PartCount.{part_count}

-- The broker's result as the partition sees it.
abbrev pub taking_for : (ℕ → Bool) → Taking → Taking
taking_for f (Drops r) = Drops r
taking_for f (Does b outs) = Does (broker_for f b) (outs_for f outs)

-- The partition's part of the broker is `v`, and its tabs are sent nothing.
abbrev pub UnseenFrom : (ℕ → Bool) → BrokerState → Taking → Type 0
UnseenFrom f v (Drops r) = Unit {0}
UnseenFrom f v (Does c outs) = (broker_for f c ≡ v) × (outs_for f outs ≡ [])

abbrev pub Unseen : (ℕ → Bool) → BrokerState → Taking → Type 0
Unseen f b x = UnseenFrom f (broker_for f b) x

module _ (g f : ℕ → Bool) where
  -- Lookups

  pub for-seat : (b : BrokerState) (t : ℕ) → f t ≡ true → seat_of (broker_for f b) t ≡ seat_of b t
  for-seat b t e = find-only f t b.seats e

  pub for-manager : (b : BrokerState) (p : ℕ) → f p ≡ true → manager_of (broker_for f b) p ≡ manager_of b p
  for-manager b p e = at-only f no_locks p b.managers e

  pub for-listed : (t : ℕ) (ls : List (ℕ × ℕ)) → f t ≡ true → listed_at t (only f ls) ≡ listed_at t ls
  for-listed t [] e = refl
  for-listed t (x ∷ xs) e =
      either (λ zs. listed_at t zs ≡ cond (x.0 == t) (Some x.1) (listed_at t xs)) (f x.0) (x ∷ only f xs) (only f xs)
      (λ _. ap (λ z. cond (x.0 == t) (Some x.1) z) (for-listed t xs e))
      (λ n. for-listed t xs e ∙ by_test (λ v. listed_at t xs ≡ cond v (Some x.1) (listed_at t xs)) (x.0 == t) (λ s. apart (ap f (eqb-true x.0 t s) ∙ e) n) (λ _. refl))

  for-all_arrived : (b : BrokerState) (p : ℕ) (ls : List (ℕ × ℕ)) → f p ≡ true → ((x : ℕ × ℕ) → In x ls → Mates g f x.0 x.1)
      → list_all (λ x. not (x.1 == p) || has_arrived (seat_of (broker_for f b) x.0)) (only f ls) ≡ list_all (λ x. not (x.1 == p) || has_arrived (seat_of b x.0)) ls
  for-all_arrived b p [] e h = refl
  for-all_arrived b p (x ∷ xs) e h =
      let rest = for-all_arrived b p xs e (λ y i. h y (Later i)) in
      either (λ zs. list_all (λ x. not (x.1 == p) || has_arrived (seat_of (broker_for f b) x.0)) zs ≡ ((not (x.1 == p) || has_arrived (seat_of b x.0)) && list_all (λ x. not (x.1 == p) || has_arrived (seat_of b x.0)) xs))
      (f x.0) (x ∷ only f xs) (only f xs)
      (λ y. ap₂ (λ s v. (not (x.1 == p) || has_arrived s) && v) (for-seat b x.0 y) rest)
      (λ n. rest
      ∙ by_test (λ v. list_all (λ x. not (x.1 == p) || has_arrived (seat_of b x.0)) xs ≡ ((not v || has_arrived (seat_of b x.0)) && list_all (λ x. not (x.1 == p) || has_arrived (seat_of b x.0)) xs)) (x.1 == p)
      (λ s. apart ((h x Here).alike ∙ ap f (eqb-true x.1 p s) ∙ e) n)
      (λ _. refl))

  pub for-active : (b : BrokerState) (p : ℕ) → f p ≡ true → Fits g f b → is_active (broker_for f b) p ≡ is_active b p
  unfolding is_active
  for-active b p e h = for-all_arrived b p b.listed e h.listed

  -- The partition's own messages

  own-with_seat : (t : ℕ) (s : TabSeat) (b : BrokerState) → f t ≡ true → Fits g f b → with_seat t s (broker_for f b) ≡ broker_for f (with_seat t s b)
  own-with_seat t s b e h = ap₂ (λ z ks. record (broker_for f b) { seats = z; partial = ks }) (sym (only-insert_sorted f t s 0 b.seats e h.seats_rise)) (filter-swap (λ (row : ℕ × Partial). not (row.0 == t)) (λ (row : ℕ × Partial). f row.0) b.partial)

  for-partial : (b : BrokerState) (t : ℕ) → f t ≡ true → partial_of (broker_for f b) t ≡ partial_of b t
  for-partial b t e = find-only f t b.partial e

  own-keeping : (t : ℕ) (k : Partial) (b : BrokerState) → f t ≡ true → Fits g f b → keeping t k (broker_for f b) ≡ broker_for f (keeping t k b)
  own-keeping t k b e h = ap (λ z. record (broker_for f b) { partial = z }) (sym (only-insert_sorted f t k 0 b.partial e h.partial_rise))

  own-settled_at : (b : BrokerState) (p : ℕ) (m : Locks) → f p ≡ true → Fits g f b → settled_at (broker_for f b) p m ≡ broker_for f (settled_at b p m)
  unfolding settled_at
  own-settled_at b p m e h =
      ap (λ z. record (broker_for f b) { managers = z })
      (ap (λ z. put p (settle_if z m) (only f b.managers)) (for-active b p e h) ∙ sym (only-insert_sorted f p (settle_if (is_active b p) m) 0 b.managers e h.managers_rise))

  own-newly_at : (b : BrokerState) (p : ℕ) (m : Locks) → f p ≡ true → Fits g f b → newly_at (broker_for f b) p m ≡ newly_at b p m
  unfolding newly_at
  own-newly_at b p m e h = ap (λ z. newly_granted_if z m) (for-active b p e h)

  own-answer : (b : BrokerState) (t n : ℕ) (o : Outcome) → f t ≡ true → answer_to (broker_for f b) t n o ≡ answer_to b t n o
  own-answer b t n o e =
      ap (λ s. record { tab = t; inner = down.Answer (record { generation = b.generation; upto = next_in s; number = n; outcome = o }) }) (for-seat b t e)

  -- All frames go to the partition's tabs.
  outs-in : (outs : List Addressed) → ((x : Addressed) → In x outs → f x.tab ≡ true) → outs_for f outs ≡ outs
  outs-in outs h = filter-all (λ x. f x.tab) outs h

  outs-out : (outs : List Addressed) → ((x : Addressed) → In x outs → f x.tab ≡ false) → outs_for f outs ≡ []
  outs-out outs h = filter-unchanged (λ x. f x.tab) outs h

  grants-for : (b : BrokerState) (p : ℕ) (rows : List Row) → f p ≡ true → Own (λ t. Mates g f t p) rows → grants_to (broker_for f b) rows ≡ outs_for f (grants_to b rows)
  grants-for b p rows e h =
      map-same (λ r. answer_to (broker_for f b) r.client r.number Granted) (λ r. answer_to b r.client r.number Granted) rows (λ r i. own-answer b r.client r.number Granted ((h r i).alike ∙ e))
      ∙ sym (outs-in (grants_to b rows) (λ x i. (grants-told (λ t. Mates g f t p) b rows h x i).alike ∙ e))

  own-settles : (b : BrokerState) (p : ℕ) (m : Locks) → f p ≡ true → Stands (λ t. Mates g f t p) m → Fits g f b → settles g f (broker_for f b) p m ≡ taking_for f (settles g f b p m)
  own-settles b p m e s h =
      ap₂ Does (own-settled_at b p m e h)
      (ap₂ grants_to (own-settled_at b p m e h) (own-newly_at b p m e h) ∙ grants-for (settled_at b p m) p (newly_at b p m) e (newly_at-Own g f b p m s))

  own-join : (b : BrokerState) (t p : ℕ) (r : Whole) → f t ≡ true → Mates g f t p → Fits g f b → join (broker_for f b) t p r ≡ taking_for f (join b t p r)
  unfolding join
  own-join b t p r e m h =
      ap₂ (λ c x. settles g f c p (restored t r.entries x)) (own-with_seat t (Joined p r.base r.limit) b e h) (for-manager b p (sym m.alike ∙ e))
      ∙ own-settles (with_seat t (Joined p r.base r.limit) b) p (restored t r.entries (manager_of b p)) (sym m.alike ∙ e)
      (restored-Stands (λ t. Mates g f t p) t r.entries (manager_of b p) m (manager_of-Stands g f b p h)) (with_seat-Fits g f t (Joined p r.base r.limit) b m h)

  own-standing : (b : BrokerState) (t p n : ℕ) → f t ≡ true → f p ≡ true
      → answer_to (broker_for f b) t n (outcome_of (standing_of (manager_of (broker_for f b) p) t n)) ≡ answer_to b t n (outcome_of (standing_of (manager_of b p) t n))
  own-standing b t p n e i = own-answer b t n _ e ∙ ap (λ m. answer_to b t n (outcome_of (standing_of m t n))) (for-manager b p i)

  own-snapshot : (b : BrokerState) (t n : ℕ) (entries : List SnapshotEntry) → f t ≡ true → snapshot_to (broker_for f b) t n entries ≡ snapshot_to b t n entries
  own-snapshot b t n entries e =
      ap (λ z. cond (nat_lt 65535 (part_count entries)) (z ∷ []) (map (snapshot_part b t n entries) (range_with_len 0 (part_count entries)))) (own-answer b t n Gone e)

  own-first_answer : (b : BrokerState) (t p n : ℕ) (o : Operation) → f t ≡ true → f p ≡ true → first_answer (broker_for f b) t p n o ≡ first_answer b t p n o
  own-first_answer b t p n (Request mode if_available name) e i = ap (λ z. z ∷ []) (own-standing b t p n e i)
  own-first_answer b t p n (Release k) e i = ap (λ z. z ∷ []) (own-answer b t n Taken e)
  own-first_answer b t p n (Abort k) e i = ap (λ z. z ∷ []) (own-answer b t n Taken e)
  own-first_answer b t p n Query e i = own-snapshot b t n (snapshot_entries (manager_of (broker_for f b) p)) e ∙ ap (λ m. snapshot_to b t n (snapshot_entries m)) (for-manager b p i)

  own-later_answer : (b : BrokerState) (t p n : ℕ) (o : Operation) → f t ≡ true → f p ≡ true → later_answer (broker_for f b) t p n o ≡ later_answer b t p n o
  own-later_answer b t p n (Request mode if_available name) e i = own-standing b t p n e i
  own-later_answer b t p n (Release k) e i = own-answer b t n Taken e
  own-later_answer b t p n (Abort k) e i = own-answer b t n Taken e
  own-later_answer b t p n Query e i = own-answer b t n Gone e

  -- The broker answers the sender and tells each other tab that is granted a lock.
  abbrev performs : BrokerState → ℕ → Locks → ℕ → ℕ → Operation → Taking
  performs b p m t n o = Does (settled_at b p m) (first_answer (settled_at b p m) t p n o ++ grants_to (settled_at b p m) (without t n (newly_at b p m)))

  own-performs : (b : BrokerState) (p : ℕ) (m : Locks) (t n : ℕ) (o : Operation) → f t ≡ true → f p ≡ true → Stands (λ t. Mates g f t p) m → Fits g f b
      → performs (broker_for f b) p m t n o ≡ taking_for f (performs b p m t n o)
  own-performs b p m t n o i e s h =
      let z = settled_at b p m in
      let own = without-Own g f p t n (newly_at b p m) (newly_at-Own g f b p m s) in
      ap₂ Does (own-settled_at b p m e h)
      (ap₂ ◌++◌
      (ap (λ c. first_answer c t p n o) (own-settled_at b p m e h) ∙ own-first_answer z t p n o i e ∙ sym (outs-in (first_answer z t p n o) (λ x j. ap f (first-told z t p n o x j) ∙ i)))
      (ap₂ (λ c rows. grants_to c (without t n rows)) (own-settled_at b p m e h) (own-newly_at b p m e h) ∙ grants-for z p (without t n (newly_at b p m)) e own)
      ∙ sym (filter-append (λ x. f x.tab) (first_answer z t p n o) (grants_to z (without t n (newly_at b p m)))))

  own-perform : (b : BrokerState) (t p n : ℕ) (o : Operation) → f t ≡ true → Mates g f t p → Fits g f b → perform (broker_for f b) t p n o ≡ taking_for f (perform b t p n o)
  unfolding perform
  own-perform b t p n o e m h =
      ap (λ s. performs (with_seat t (Joined p (n + 1) (limit_in s)) (broker_for f b)) p (drafted t n o (manager_of (broker_for f b) p)) t n o) (for-seat b t e)
      ∙ ap₂ (λ c x. performs c p (drafted t n o x) t n o) (own-with_seat t (Joined p (n + 1) (limit_of b t)) b e h) (for-manager b p (sym m.alike ∙ e))
      ∙ own-performs (with_seat t (Joined p (n + 1) (limit_of b t)) b) p (drafted t n o (manager_of b p)) t n o e (sym m.alike ∙ e)
      (drafted-Stands (λ t. Mates g f t p) t n o (manager_of b p) m (manager_of-Stands g f b p h)) (with_seat-Fits g f t (Joined p (n + 1) (limit_of b t)) b m h)

  own-told : (b : BrokerState) (t p : ℕ) (x : Told) → f t ≡ true → Mates g f t p → Fits g f b → take_report_part (broker_for f b) t p x ≡ taking_for f (take_report_part b t p x)
  unfolding take_report_part join_if
  own-told b t p x e m h =
      let k = with_told p x (partial_of b t) in
      along (taking_for f) (is_joined (seat_of (broker_for f b) t)) (is_joined (seat_of b t)) _ _ (Drops AlreadyJoined) _ (ap is_joined (for-seat b t e)) (λ _. refl)
      (λ _. along (taking_for f) (not (is_listed (listed_at t (only f b.listed))) && has_held x.entries) (not (is_listed (listed_at t b.listed)) && has_held x.entries) _ _ (Drops HeldByNewcomer) _
      (ap (λ z. not (is_listed z) && has_held x.entries) (for-listed t b.listed e)) (λ _. refl)
      (λ _. along (taking_for f) (not (all_below x.base x.entries && fits x (partial_of (broker_for f b) t))) (not (all_below x.base x.entries && fits x (partial_of b t))) _ _ (Drops BadReport) _
      (ap (λ z. not (all_below x.base x.entries && fits x z)) (for-partial b t e)) (λ _. refl)
      (λ _. along (taking_for f) (has_part x (partial_of (broker_for f b) t)) (has_part x (partial_of b t)) _ _ (Drops PartTwice) _
      (ap (has_part x) (for-partial b t e)) (λ _. refl)
      (λ _. ap (λ z. cond (is_whole (with_told p x z)) (join (broker_for f b) t p (whole_of (with_told p x z))) (Does (keeping t (with_told p x z) (broker_for f b)) [])) (for-partial b t e)
      ∙ along (taking_for f) (is_whole k) (is_whole k) (join (broker_for f b) t p (whole_of k)) (Does (keeping t k (broker_for f b)) []) (join b t p (whole_of k)) (Does (keeping t k b) []) refl
      (λ _. own-join b t p (whole_of k) e m h) (λ _. ap (λ c. Does c []) (own-keeping t k b e h))))))

  own-inner : (b : BrokerState) (t p : ℕ) (u : Upward) → f t ≡ true → Mates g f t p → Fits g f b → take_inner (broker_for f b) t p u ≡ taking_for f (take_inner b t p u)
  unfolding take_command
  own-inner b t p (up.Report r) e m h = own-told b t p (at_once r) e m h
  own-inner b t p (up.ReportPart r) e m h = own-told b t p (in_part r) e m h
  own-inner b t p (up.Command c) e m h =
      let n = c.number in
      let o = c.operation in
      let i : f p ≡ true = sym m.alike ∙ e in
      along (taking_for f) (not (is_joined (seat_of (broker_for f b) t))) (not (is_joined (seat_of b t))) _ _ (Drops NotJoined) _ (ap (λ s. not (is_joined s)) (for-seat b t e)) (λ _. refl)
      (λ _. along (taking_for f) (not (is_active (broker_for f b) p)) (not (is_active b p)) _ _ (Drops Recovering) _ (ap not (for-active b p i h)) (λ _. refl)
      (λ _. along (taking_for f) (nat_lt (next_of (broker_for f b) t) n || n == LAST_NUMBER) (nat_lt (next_of b t) n || n == LAST_NUMBER) _ _ (Drops OutOfTurn) _
      (ap (λ s. nat_lt (next_in s) n || n == LAST_NUMBER) (for-seat b t e)) (λ _. refl)
      (λ _. along (taking_for f) (nat_lt n (next_of (broker_for f b) t)) (nat_lt n (next_of b t)) _ _ (Does b (later_answer b t p n o ∷ [])) _ (ap (λ s. nat_lt n (next_in s)) (for-seat b t e))
      (λ _. ap (Does (broker_for f b)) (ap (λ z. z ∷ []) (own-later_answer b t p n o e i) ∙ sym (cond-true _ _ _ (ap f (later-told b t p n o) ∙ e))))
      (λ _. along (taking_for f) (is_lock o && nat_le (limit_of (broker_for f b) t) (live (manager_of (broker_for f b) p) t)) (is_lock o && nat_le (limit_of b t) (live (manager_of b p) t)) _ _ (Drops TooMany) (perform b t p n o)
      (ap₂ (λ s z. is_lock o && nat_le (limit_in s) (live z t)) (for-seat b t e) (for-manager b p i)) (λ _. refl)
      (λ _. own-perform b t p n o e m h)))))

  for-misplaced : (b : BrokerState) (t p : ℕ) → f t ≡ true → is_misplaced (broker_for f b) t p ≡ is_misplaced b t p
  unfolding is_misplaced
  for-misplaced b t p e = ap₂ (λ q s. elsewhere q p || s) (for-listed t b.listed e) (ap₂ (λ s k. elsewhere (seated_at s) p || elsewhere (kept_at k) p) (for-seat b t e) (for-partial b t e))

  pub own-taking : (b : BrokerState) (x : Stamped) → f x.tab ≡ true → Mates g f x.tab x.partition → Fits g f b → taking (broker_for f b) x ≡ taking_for f (taking b x)
  unfolding taking
  own-taking b x e m h =
      along (taking_for f) (nat_lt (generation_of x.inner) b.generation) (nat_lt (generation_of x.inner) b.generation) _ _ (Drops OldGeneration) _ refl (λ _. refl)
      (λ _. along (taking_for f) (nat_lt b.generation (generation_of x.inner)) (nat_lt b.generation (generation_of x.inner)) _ _ (Drops LaterGeneration) _ refl (λ _. refl)
      (λ _. along (taking_for f) (is_dead (seat_of (broker_for f b) x.tab)) (is_dead (seat_of b x.tab)) _ _ (Drops DeadTab) _ (ap is_dead (for-seat b x.tab e)) (λ _. refl)
      (λ _. along (taking_for f) (is_misplaced (broker_for f b) x.tab x.partition) (is_misplaced b x.tab x.partition) _ _ (Drops Misplaced) (take_inner b x.tab x.partition x.inner)
      (for-misplaced b x.tab x.partition e) (λ _. refl)
      (λ _. own-inner b x.tab x.partition x.inner e m h))))

  for-place : (b : BrokerState) (t : ℕ) → f t ≡ true → place_of (broker_for f b) t ≡ place_of b t
  unfolding place_of
  for-place b t e = ap₂ (λ q s. or_else (seated_at s) q) (for-listed t b.listed e) (for-seat b t e)

  own-buried_at : (b : BrokerState) (t : ℕ) (q : Option ℕ) → f t ≡ true → Placed g f t q → Fits g f b → buries g f (buried_at (broker_for f b) t q) ≡ taking_for f (buries g f (buried_at b t q))
  own-buried_at b t None e m h = refl
  own-buried_at b t (Some p) e m h =
      ap (λ x. settles g f (broker_for f b) p (ended t x)) (for-manager b p (sym m.alike ∙ e))
      ∙ own-settles b p (ended t (manager_of b p)) (sym m.alike ∙ e) (ended-Stands (λ t. Mates g f t p) t (manager_of b p) (manager_of-Stands g f b p h)) h

  pub own-death_step : (b : BrokerState) (t : ℕ) → f t ≡ true → g t ≡ true → Fits g f b → buries g f (death_step (broker_for f b) t) ≡ taking_for f (buries g f (death_step b t))
  unfolding death_step
  own-death_step b t e i h =
      ap (λ v. buries g f (cond v (broker_for f b, []) (buried_at (with_seat t Dead (broker_for f b)) t (place_of (broker_for f b) t)))) (ap is_dead (for-seat b t e))
      ∙ by_test
      (λ v. buries g f (cond v (broker_for f b, []) (buried_at (with_seat t Dead (broker_for f b)) t (place_of (broker_for f b) t))) ≡ taking_for f (buries g f (cond v (b, []) (buried_at (with_seat t Dead b) t (place_of b t)))))
      (is_dead (seat_of b t)) (λ _. refl)
      (λ _. ap₂ (λ c q. buries g f (buried_at c t q)) (own-with_seat t Dead b e h) (for-place b t e)
      ∙ own-buried_at (with_seat t Dead b) t (place_of b t) e (place_of-Placed g f b t h) (with_seat-Fits g f t Dead b i h))

  -- Messages of other partitions

  out-with_seat : (t : ℕ) (s : TabSeat) (b : BrokerState) → f t ≡ false → broker_for f (with_seat t s b) ≡ broker_for f b
  out-with_seat t s b e = ap₂ (λ z ks. record (broker_for f b) { seats = z; partial = ks }) (only-put_out f t s b.seats e) (filter-spare f t b.partial e)

  out-keeping : (t : ℕ) (k : Partial) (b : BrokerState) → f t ≡ false → broker_for f (keeping t k b) ≡ broker_for f b
  out-keeping t k b e = ap (λ z. record (broker_for f b) { partial = z }) (only-put_out f t k b.partial e)

  out-settled_at : (b : BrokerState) (p : ℕ) (m : Locks) → f p ≡ false → broker_for f (settled_at b p m) ≡ broker_for f b
  unfolding settled_at
  out-settled_at b p m e = ap (λ z. record (broker_for f b) { managers = z }) (only-put_out f p (settle_if (is_active b p) m) b.managers e)

  grants-out : (b : BrokerState) (p : ℕ) (rows : List Row) → f p ≡ false → Own (λ t. Mates g f t p) rows → outs_for f (grants_to b rows) ≡ []
  grants-out b p rows e h = outs-out (grants_to b rows) (λ x i. (grants-told (λ t. Mates g f t p) b rows h x i).alike ∙ e)

  out-settles : (b : BrokerState) (p : ℕ) (m : Locks) → f p ≡ false → Stands (λ t. Mates g f t p) m → Unseen f b (settles g f b p m)
  out-settles b p m e s = (out-settled_at b p m e, grants-out (settled_at b p m) p (newly_at b p m) e (newly_at-Own g f b p m s))

  out-join : (b : BrokerState) (t p : ℕ) (r : Whole) → f t ≡ false → Mates g f t p → Fits g f b → Unseen f b (join b t p r)
  unfolding join
  out-join b t p r e m h =
      let o = out-settles (with_seat t (Joined p r.base r.limit) b) p (restored t r.entries (manager_of b p)) (sym m.alike ∙ e)
      (restored-Stands (λ t. Mates g f t p) t r.entries (manager_of b p) m (manager_of-Stands g f b p h)) in
      (o.0 ∙ out-with_seat t (Joined p r.base r.limit) b e, o.1)

  out-perform : (b : BrokerState) (t p n : ℕ) (o : Operation) → f t ≡ false → Mates g f t p → Fits g f b → Unseen f b (perform b t p n o)
  unfolding perform
  out-perform b t p n o e m h =
      let y = with_seat t (Joined p (n + 1) (limit_of b t)) b in
      let x = drafted t n o (manager_of b p) in
      let z = settled_at y p x in
      let i : f p ≡ false = sym m.alike ∙ e in
      let own = without-Own g f p t n (newly_at y p x) (newly_at-Own g f y p x (drafted-Stands (λ t. Mates g f t p) t n o (manager_of b p) m (manager_of-Stands g f b p h))) in (
        out-settled_at y p x i ∙ out-with_seat t (Joined p (n + 1) (limit_of b t)) b e,
        filter-append (λ x. f x.tab) (first_answer z t p n o) (grants_to z (without t n (newly_at y p x)))
            ∙ ap₂ ◌++◌ (outs-out (first_answer z t p n o) (λ x j. ap f (first-told z t p n o x j) ∙ e)) (grants-out z p (without t n (newly_at y p x)) i own),
      )

  out-told : (b : BrokerState) (t p : ℕ) (x : Told) → f t ≡ false → Mates g f t p → Fits g f b → Unseen f b (take_report_part b t p x)
  unfolding take_report_part join_if
  out-told b t p x e m h =
      either (Unseen f b) (is_joined (seat_of b t)) (Drops AlreadyJoined) _ (λ _. tt)
      (λ _. either (Unseen f b) (not (is_listed (listed_at t b.listed)) && has_held x.entries) (Drops HeldByNewcomer) _ (λ _. tt)
      (λ _. either (Unseen f b) (not (all_below x.base x.entries && fits x (partial_of b t))) (Drops BadReport) _ (λ _. tt)
      (λ _. either (Unseen f b) (has_part x (partial_of b t)) (Drops PartTwice) _ (λ _. tt)
      (λ _. either (Unseen f b) (is_whole (with_told p x (partial_of b t))) (join b t p (whole_of (with_told p x (partial_of b t)))) (Does (keeping t (with_told p x (partial_of b t)) b) [])
      (λ _. out-join b t p (whole_of (with_told p x (partial_of b t))) e m h)
      (λ _. (out-keeping t (with_told p x (partial_of b t)) b e, refl))))))

  out-inner : (b : BrokerState) (t p : ℕ) (u : Upward) → f t ≡ false → Mates g f t p → Fits g f b → Unseen f b (take_inner b t p u)
  unfolding take_command
  out-inner b t p (up.Report r) e m h = out-told b t p (at_once r) e m h
  out-inner b t p (up.ReportPart r) e m h = out-told b t p (in_part r) e m h
  out-inner b t p (up.Command c) e m h =
      let n = c.number in
      let o = c.operation in
      either (Unseen f b) (not (is_joined (seat_of b t))) (Drops NotJoined) _ (λ _. tt)
      (λ _. either (Unseen f b) (not (is_active b p)) (Drops Recovering) _ (λ _. tt)
      (λ _. either (Unseen f b) (nat_lt (next_of b t) n || n == LAST_NUMBER) (Drops OutOfTurn) _ (λ _. tt)
      (λ _. either (Unseen f b) (nat_lt n (next_of b t)) (Does b (later_answer b t p n o ∷ [])) _
      (λ _. (refl, cond-false _ _ _ (ap f (later-told b t p n o) ∙ e)))
      (λ _. either (Unseen f b) (is_lock o && nat_le (limit_of b t) (live (manager_of b p) t)) (Drops TooMany) (perform b t p n o) (λ _. tt)
      (λ _. out-perform b t p n o e m h)))))

  pub out-taking : (b : BrokerState) (x : Stamped) → f x.tab ≡ false → Mates g f x.tab x.partition → Fits g f b → Unseen f b (taking b x)
  unfolding taking
  out-taking b x e m h =
      either (Unseen f b) (nat_lt (generation_of x.inner) b.generation) (Drops OldGeneration) _ (λ _. tt)
      (λ _. either (Unseen f b) (nat_lt b.generation (generation_of x.inner)) (Drops LaterGeneration) _ (λ _. tt)
      (λ _. either (Unseen f b) (is_dead (seat_of b x.tab)) (Drops DeadTab) _ (λ _. tt)
      (λ _. either (Unseen f b) (is_misplaced b x.tab x.partition) (Drops Misplaced) (take_inner b x.tab x.partition x.inner) (λ _. tt)
      (λ _. out-inner b x.tab x.partition x.inner e m h))))

  out-buried_at : (b : BrokerState) (t : ℕ) (q : Option ℕ) → f t ≡ false → Placed g f t q → Fits g f b → Unseen f b (buries g f (buried_at b t q))
  out-buried_at b t None e m h = (refl, refl)
  out-buried_at b t (Some p) e m h =
      out-settles b p (ended t (manager_of b p)) (sym m.alike ∙ e) (ended-Stands (λ t. Mates g f t p) t (manager_of b p) (manager_of-Stands g f b p h))

  pub out-death_step : (b : BrokerState) (t : ℕ) → f t ≡ false → g t ≡ true → Fits g f b → Unseen f b (buries g f (death_step b t))
  unfolding death_step
  out-death_step b t e i h =
      either (λ x. Unseen f b (buries g f x)) (is_dead (seat_of b t)) (b, []) (buried_at (with_seat t Dead b) t (place_of b t))
      (λ _. (refl, refl))
      (λ _. subst (λ z. UnseenFrom f z (buries g f (buried_at (with_seat t Dead b) t (place_of b t)))) (out-with_seat t Dead b e)
      (out-buried_at (with_seat t Dead b) t (place_of b t) e (place_of-Placed g f b t h) (with_seat-Fits g f t Dead b i h)))
