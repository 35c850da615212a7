-- The broker grants a free request at once, and a newcomer joins with its first report.
use Rattle.std.proofs.Common.{◌≡◌, ◌≢◌, ⊎_elim, ℕ, ◌+◌, ◌<◌, ◌≤◌, Bool, true, false, cond, not, ◌&&◌, List, [], ◌∷◌, ◌++◌, Option, Some, None, refl, sym, ap, ◌∙◌, subst, le_refl, arith}
use Rattle.std.specs.Prelude.{◌==◌, bytes_eq, nat_le}
use Rattle.std.proofs.lemmas.Bool.{or_parts, or_cases, or_left, or_right, and_right, ne_eqb}
use Rattle.std.proofs.lemmas.List.Elements.{filter-append}
use Rattle.std.proofs.lemmas.Slice.Eq.{bytes_eq-Decides}
use Rattle.wl_limits.specs.declared.tabs.TheConstants.{LAST_NUMBER, LIVE_LIMIT, LIVE_LIMIT_IN_PARTS}
use Rattle.wl_draft.specs.declared.mode.Mode.{Mode}
use Rattle.wl_draft.specs.declared.row.Row.{Row}
use Rattle.wl_draft.specs.Locks.{Locks, no_locks, is_named, is_free, is_grantable, granted, newly_granted, settle, settle_if, has_pair, count_of, live, queued, row_of, without, restored}
use Rattle.wl_draft.specs.Settling.{named}
use Rattle.wl_draft.specs.Membership.{In, Here, Later as Behind}
use Rattle.wl_draft.proofs.Membership.{apart, either, In-nil, In-append_right, In-filter_cases, list_all-In, all-In}
use Rattle.wl_draft.proofs.Settled.{grantable_parts, settle-SettlesByName}
use Rattle.wl_draft.proofs.TableLemmas.{at-put_same, find-put_same}
use Rattle.wl_grammar.specs.declared.frame.Operation.TheVariants.{Request}
use Rattle.wl_grammar.specs.declared.frame.Outcome.TheVariants.{Granted}
use Rattle.wl_grammar.specs.declared.frame.Addressed.{Addressed}
use Rattle.wl_grammar.specs.declared.frame.Stamped.{Stamped}
use Rattle.wl_grammar.specs.declared.frame.Upward.{Upward}
use Rattle.wl_grammar.specs.declared.frame.Upward.TheVariants as up
use Rattle.wl_grammar.specs.Generation.{generation_of}
use Rattle.wl_broker_reports.specs.ReportParts.{Told, fits, has_part, with_told}
use Rattle.wl_broker.specs.declared.seat.TabSeat.{TabSeat}
use Rattle.wl_broker.specs.declared.seat.TabSeat.TheVariants.{Joined, Dead}
use Rattle.wl_broker.specs.Broker.{BrokerState, Taking, Does, seat_of, partial_of, listed_at, is_listed, manager_of, is_joined, is_dead, next_of, limit_of, is_active, is_misplaced, answer_of, with_seat, settled_at, newly_at, grants_to, join, join_if, take_report_part, perform, take_inner, taking}
use Rattle.wl_broker.proofs.Clients.{Own, Stands, Own-append, settle-Stands}
use Rattle.wl_broker.proofs.Drops.{inner_taken, told_taken, command_taken}
use Rattle.wl_world_model.proofs.exclusion.TakenSeats.{still}
use Rattle.wl_world_model.proofs.order.Standings.{has_pair-from, first-lock}

-- The draft

none_named : (name : List ℕ) (rows : List Row) → is_named name rows ≡ false → named name rows ≡ []
none_named name [] e = refl
none_named name (r ∷ rs) e = let h = or_parts (bytes_eq r.name name) (is_named name rs) e in rw h.0 (none_named name rs h.1)

-- The test of a lock looks at the locks of its name alone.
still_free : (name : List ℕ) (mode : Mode) (rows : List Row) → is_free name mode rows ≡ true → is_free name mode (named name rows) ≡ true
still_free name mode rows e = all-In _ (named name rows) (λ r i. list_all-In _ rows e (In-filter_cases (λ x. bytes_eq x.name name) rows i).0)

alone_waiting : (r : Row) (rows : List Row) → is_named r.name rows ≡ false → named r.name (rows ++ r ∷ []) ≡ r ∷ []
alone_waiting r rows e =
    filter-append (λ x. bytes_eq x.name r.name) rows (r ∷ [])
    ∙ (ap (λ zs. zs ++ named r.name (r ∷ [])) (none_named r.name rows e)
    ∙ ap (λ b. cond b (r ∷ []) []) ((bytes_eq-Decides r.name r.name).1 refl))

alone_granted : (held : List Row) (r : Row) → is_free r.name r.mode held ≡ true → In r (granted held [] (r ∷ []))
unfolding is_grantable
alone_granted held r e = subst (λ b. In r (cond b (r ∷ []) [])) (sym e) Here

-- A grantable request that queues is granted when the locks are settled.
pub grantable-held : (m : Locks) (r : Row) → is_grantable m.held m.waiting r ≡ true → In r (settle (queued r m)).held
unfolding settle newly_granted queued
grantable-held m r e =
    let g = grantable_parts m.held m.waiting r e in
    let held = named r.name m.held in
    let by : named r.name (settle (queued r m)).held ≡ held ++ granted held [] (named r.name (m.waiting ++ r ∷ [])) = ap (λ z. z.held) (settle-SettlesByName (queued r m) r.name) in
    (In-filter_cases (λ x. bytes_eq x.name r.name) (settle (queued r m)).held
    (subst (In r) (sym by) (In-append_right held (subst (λ zs. In r (granted held [] zs)) (sym (alone_waiting r m.waiting g.0)) (alone_granted held r (still_free r.name r.mode m.held g.1)))))).0

-- The broker

-- A partition stays active when one of its tabs gets another seat.
active-still : (b : BrokerState) (t p : ℕ) (seat : TabSeat) → is_active b p ≡ true → is_active (with_seat t seat b) p ≡ true
unfolding is_active
active-still b t p seat a =
    all-In _ b.listed (λ x i. ⊎_elim
    (λ n. or_left _ _ n)
    (λ c. or_right (not (x.1 == p)) _ (still b t seat x.0 c))
    (or_cases _ _ (list_all-In _ b.listed a i)))

-- The broker that takes the tab's request, and its first frame, which grants the lock.
pub record Grants (b : BrokerState) (t n : ℕ) (o : Taking) : Type 0 where
  pub broker : BrokerState
  pub upto : ℕ
  pub others : List Addressed
  pub does : o ≡ Does broker (answer_of b.generation upto t n Granted ∷ others)
  pub generation : broker.generation ≡ b.generation

settled-manager : (b : BrokerState) (p : ℕ) (m : Locks) → is_active b p ≡ true → manager_of (settled_at b p m) p ≡ settle m
unfolding settled_at
settled-manager b p m a = at-put_same no_locks p (settle_if (is_active b p) m) b.managers ∙ ap (λ c. settle_if c m) a

settled-generation : (b : BrokerState) (p : ℕ) (m : Locks) → (settled_at b p m).generation ≡ b.generation
unfolding settled_at
settled-generation b p m = refl

perform-grants : (b : BrokerState) (t p n : ℕ) (mode : Mode) (name : List ℕ) → is_active b p ≡ true
    → is_grantable (manager_of b p).held (manager_of b p).waiting (row_of t n name mode) ≡ true → Grants b t n (perform b t p n (Request mode false name))
unfolding perform
perform-grants b t p n mode name a e =
    let r = row_of t n name mode in
    let seated = with_seat t (Joined p (n + 1) (limit_of b t)) b in
    let after = settled_at seated p (queued r (manager_of b p)) in
    let held : has_pair t n (manager_of after p).held ≡ true =
    subst (λ z. has_pair t n z.held ≡ true) (sym (settled-manager seated p (queued r (manager_of b p)) (active-still b t p (Joined p (n + 1) (limit_of b t)) a)))
    (has_pair-from t n (settle (queued r (manager_of b p))).held r (grantable-held (manager_of b p) r e) refl refl) in
    let others = grants_to after (without t n (newly_at seated p (queued r (manager_of b p)))) in
    record {
      broker = after;
      upto = next_of after t;
      others = others;
      does = ap (λ zs. Does after (zs ++ others)) (first-lock after t p n (Request mode false name) refl held)
          ∙ ap (λ g. Does after (answer_of g (next_of after t) t n Granted ∷ others)) (settled-generation seated p (queued r (manager_of b p)));
      generation = settled-generation seated p (queued r (manager_of b p));
    }

alive : (s : Option TabSeat) → is_joined s ≡ true → is_dead s ≡ false
alive None e = refl
alive (Some (Joined p n l)) e = refl
alive (Some Dead) e = apart e refl

-- The tab has joined, its partition is active, the request is its next command, and it has room.
pub taking-grants : (b : BrokerState) (t p n : ℕ) (mode : Mode) (name : List ℕ) → is_joined (seat_of b t) ≡ true → is_misplaced b t p ≡ false → is_active b p ≡ true
    → n ≡ next_of b t → n ≢ LAST_NUMBER → nat_le (limit_of b t) (live (manager_of b p) t) ≡ false → is_grantable (manager_of b p).held (manager_of b p).waiting (row_of t n name mode) ≡ true
    → Grants b t n (taking b (record { tab = t; partition = p; inner = up.Command (record { generation = b.generation; number = n; operation = Request mode false name }) }))
taking-grants b t p n mode name j placed a next last room e =
    let x : Stamped = record { tab = t; partition = p; inner = up.Command (record { generation = b.generation; number = n; operation = Request mode false name }) } in
    subst (Grants b t n) (sym (inner_taken b x (le_refl b.generation) (le_refl b.generation) (alive (seat_of b t) j) placed ∙ command_taken b t p n (Request mode false name) j a next last room))
    (perform-grants b t p n mode name a e)

-- Newcomers

-- No lock and no request is the tab's.
abbrev pub HasNone : ℕ → Locks → Type 0
HasNone t m = Stands (λ u. u ≢ t) m

-- The broker knows nothing of the tab.
pub record IsStranger (b : BrokerState) (t : ℕ) : Type 0 where
  pub listed : listed_at t b.listed ≡ None
  pub seat : seat_of b t ≡ None
  pub partial : partial_of b t ≡ None
  pub locks : (p : ℕ) → HasNone t (manager_of b p)

-- The tab gets a seat with no command taken, and has fewer locks than its limit.
pub record Joins (b : BrokerState) (t p : ℕ) (o : Taking) : Type 0 where
  pub broker : BrokerState
  pub outs : List Addressed
  pub does : o ≡ Does broker outs
  pub limit : ℕ
  pub seat : seat_of broker t ≡ Some (Joined p 0 limit)
  pub few : live (manager_of broker p) t < limit

count-none : (t : ℕ) (rows : List Row) → Own (λ u. u ≢ t) rows → count_of t rows ≡ 0
count-none t [] h = refl
count-none t (r ∷ rs) h = rw (ne_eqb r.client t (h r Here), count-none t rs (λ x i. h x (Behind i))) refl

live-none : (t : ℕ) (m : Locks) → HasNone t m → live m t ≡ 0
live-none t m h = rw (count-none t m.held h.0, count-none t m.waiting h.1) refl

settled-none : (t : ℕ) (now : Bool) (m : Locks) → HasNone t m → HasNone t (settle_if now m)
settled-none t now m h = either (HasNone t) now (settle m) m (λ _. settle-Stands (λ u. u ≢ t) m h) (λ _. h)

restored-none : (t : ℕ) (m : Locks) → HasNone t m → HasNone t (restored t [] m)
unfolding restored
restored-none t m h = (Own-append (λ u. u ≢ t) m.held [] h.0 (λ r i. absurd (In-nil i)), Own-append (λ u. u ≢ t) m.waiting [] h.1 (λ r i. absurd (In-nil i)))

-- An empty report is its only part.
abbrev only_part : ℕ → Told
only_part limit = record { base = 0; part = 0; parts = 1; entries = []; limit = limit }

stranger-placed : (b : BrokerState) (t p : ℕ) → IsStranger b t → is_misplaced b t p ≡ false
unfolding is_misplaced
stranger-placed b t p s = rw (s.listed, s.seat, s.partial) refl

settled-seat : (b : BrokerState) (t p : ℕ) (seat : TabSeat) (m : Locks) → seat_of (settled_at (with_seat t seat b) p m) t ≡ Some seat
unfolding settled_at
settled-seat b t p seat m = find-put_same t seat b.seats

settled-locks : (b : BrokerState) (p : ℕ) (m : Locks) → manager_of (settled_at b p m) p ≡ settle_if (is_active b p) m
unfolding settled_at
settled-locks b p m = at-put_same no_locks p (settle_if (is_active b p) m) b.managers

join-joins : (b : BrokerState) (t p limit : ℕ) → IsStranger b t → 0 < limit → Joins b t p (join b t p (record { base = 0; entries = []; limit = limit }))
unfolding join
join-joins b t p limit s positive =
    let seated = with_seat t (Joined p 0 limit) b in
    let m = restored t [] (manager_of b p) in
    record {
      broker = _;
      outs = _;
      does = refl;
      limit = limit;
      seat = settled-seat b t p (Joined p 0 limit) m;
      few = subst (λ n. n < limit)
          (sym (ap (λ z. live z t) (settled-locks seated p m) ∙ live-none t (settle_if (is_active seated p) m) (settled-none t (is_active seated p) m (restored-none t (manager_of b p) (s.locks p)))))
          positive;
    }

whole_part : (b : BrokerState) (t p limit : ℕ) → IsStranger b t → 0 < limit → Joins b t p (join_if b t p (with_told p (only_part limit) None))
unfolding join_if with_told
whole_part b t p limit s positive = join-joins b t p limit s positive

part-joins : (b : BrokerState) (t p limit : ℕ) → IsStranger b t → 0 < limit → Joins b t p (take_report_part b t p (only_part limit))
part-joins b t p limit s positive =
    let x = only_part limit in
    subst (Joins b t p)
    (sym (told_taken b t p x (ap is_joined s.seat) (and_right (not (is_listed (listed_at t b.listed))) false refl) (ap (λ o. not (true && fits x o)) s.partial) (ap (has_part x) s.partial)
    ∙ ap (λ o. join_if b t p (with_told p x o)) s.partial))
    (whole_part b t p limit s positive)

-- The empty report of a tab, in one frame or as its only part.
abbrev pub empty_report : Bool → ℕ → Upward
empty_report true g = up.ReportPart (record { generation = g; base = 0; part = 0; parts = 1; entries = [] })
empty_report false g = up.Report (record { generation = g; base = 0; entries = [] })

inner-joins : (b : BrokerState) (t p : ℕ) (i : Bool) (g : ℕ) → IsStranger b t → Joins b t p (take_inner b t p (empty_report i g))
inner-joins b t p true g s = part-joins b t p LIVE_LIMIT_IN_PARTS s (omega arith)
inner-joins b t p false g s = part-joins b t p LIVE_LIMIT s (omega arith)

report-generation : (i : Bool) (g : ℕ) → generation_of (empty_report i g) ≡ g
report-generation true g = refl
report-generation false g = refl

pub newcomer-joins : (b : BrokerState) (t p : ℕ) (i : Bool) → IsStranger b t → Joins b t p (taking b (record { tab = t; partition = p; inner = empty_report i b.generation }))
newcomer-joins b t p i s =
    let g = report-generation i b.generation in
    subst (Joins b t p)
    (sym (inner_taken b (record { tab = t; partition = p; inner = empty_report i b.generation })
    (subst (λ n. b.generation ≤ n) (sym g) (le_refl b.generation)) (subst (λ n. n ≤ b.generation) (sym g) (le_refl b.generation)) (ap is_dead s.seat) (stranger-placed b t p s)))
    (inner-joins b t p i b.generation s)
