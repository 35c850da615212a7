-- The broker takes an item as `after_item` says.
use Rattle.std.proofs.Common.{◌≡◌, ◌≢◌, ⊎_elim, ℕ, ◌+◌, ◌<◌, ◌≤◌, Bool, true, false, not, ◌&&◌, ◌||◌, cond, [], ◌∷◌, Option, Some, refl, sym, ap, ◌∙◌, arith}
use Rattle.std.specs.Prelude.{◌==◌, nat_lt, nat_le, if◌then◌else◌}
use Rattle.std.proofs.lemmas.Bool.{not-false, not-true, ltb-true, ltb-false, leb-true, and_parts, or_cases, or_parts, eqb-true, eq-eqb, ne_eqb}
use Rattle.wl_limits.specs.declared.tabs.TheConstants.{LAST_NUMBER}
use Rattle.wl_draft.specs.Locks.{Locks, live}
use Rattle.wl_draft.proofs.Membership.{apart, either}
use Rattle.wl_draft.proofs.TableLemmas.{find-put_same}
use Rattle.wl_grammar.specs.declared.frame.Operation.{Operation}
use Rattle.wl_broker_reports.specs.ReportParts.{Partial, Told, has_held, all_below, fits, has_part, with_told, is_whole, whole_of}
use Rattle.wl_broker_reports.proofs.KeptParts.{with_told-base}
use Rattle.wl_broker.specs.declared.seat.TabSeat.TheVariants.{Joined}
use Rattle.wl_broker.specs.declared.dropped.Dropped.TheVariants.{NotJoined, Recovering, OutOfTurn, AlreadyJoined, HeldByNewcomer, BadReport, TooMany, PartTwice}
use Rattle.wl_broker.specs.Broker.{BrokerState, Taking, Drops, Does, seat_of, partial_of, is_joined, next_in, next_of, limit_of, is_active, is_listed, listed_at, is_lock, with_seat, settled_at, manager_of, later_answer, perform, take_command, keeping, join, join_if, take_report_part}
use Rattle.wl_quiescence.proofs.rest.Invariant.{Seen, Away, At, Item, Tells, Says, after_item, told_away, seen_if, seen}

abbrev pub after_taking : BrokerState → Taking → BrokerState
after_taking b (Drops reason) = b
after_taking b (Does c outs) = c

-- The broker that took the message has of the tab what the item says.
abbrev pub Takes : ℕ → Bool → ℕ → BrokerState → ℕ → Item → Taking → Type 0
Takes p due total b t x o = seen (after_taking b o) t ≡ after_item p due total x (seen b t)

-- Commands

says-away : (p : ℕ) (due : Bool) (total k n : ℕ) (o : Option Partial) (j : Bool) → j ≡ false → seen_if j n o ≡ after_item p due total (Says k) (seen_if j n o)
says-away p due total k n o true e = apart refl e
says-away p due total k n o false e = refl

says-at : (p : ℕ) (due : Bool) (total k n m : ℕ) (o : Option Partial) (j : Bool) → j ≡ true → (if k == n then n + 1 else n) ≡ m → At m ≡ after_item p due total (Says k) (seen_if j n o)
says-at p due total k n m o true e f = ap (λ z. At z) (sym f)
says-at p due total k n m o false e f = apart e refl

pub seen-at : (b : BrokerState) (t : ℕ) → is_joined (seat_of b t) ≡ true → seen b t ≡ At (next_of b t)
seen-at b t j = ap (λ z. seen_if z (next_of b t) (partial_of b t)) j

-- A tab that takes a seat.
seat-seen : (b : BrokerState) (t p n limit q : ℕ) (m : Locks) → seen (settled_at (with_seat t (Joined p n limit) b) q m) t ≡ At n
unfolding settled_at
seat-seen b t p n limit q m = ap (λ o. seen_if (is_joined o) (next_in o) (partial_of (with_seat t (Joined p n limit) b) t)) (find-put_same t (Joined p n limit) b.seats)

-- The command of a tab whose partition is active, and whose locks are not too many.
pub command-seen : (due : Bool) (total : ℕ) (b : BrokerState) (t p n : ℕ) (o : Operation) → is_active b p ≡ true → n ≢ LAST_NUMBER
    → (n ≡ next_of b t → is_lock o ≡ true → live (manager_of b p) t < limit_of b t) → Takes p due total b t (Says n) (take_command b t p n o)
unfolding take_command perform
command-seen due total b t p n o active last room =
    either (Takes p due total b t (Says n)) (not (is_joined (seat_of b t))) (Drops NotJoined) _
    (λ j. says-away p due total n (next_of b t) (partial_of b t) (is_joined (seat_of b t)) (not-true _ j))
    (λ j. let joined = not-false _ j in
    let same : n ≢ next_of b t → seen b t ≡ after_item p due total (Says n) (seen b t) = λ d.
    seen-at b t joined ∙ says-at p due total n (next_of b t) (next_of b t) (partial_of b t) (is_joined (seat_of b t)) joined (ap (λ z. if z then next_of b t + 1 else next_of b t) (ne_eqb n (next_of b t) d)) in
    either (Takes p due total b t (Says n)) (not (is_active b p)) (Drops Recovering) _ (λ a. apart active (not-true _ a))
    (λ _. either (Takes p due total b t (Says n)) (nat_lt (next_of b t) n || n == LAST_NUMBER) (Drops OutOfTurn) _
    (λ x. ⊎_elim (λ y. same (λ e. let lt : next_of b t < n = ltb-true (next_of b t) n y in omega (arith, lt, e))) (λ y. absurd (last (eqb-true n LAST_NUMBER y))) (or_cases (nat_lt (next_of b t) n) (n == LAST_NUMBER) x))
    (λ x. either (Takes p due total b t (Says n)) (nat_lt n (next_of b t)) (Does b (later_answer b t p n o ∷ [])) _
    (λ y. same (λ e. let lt : n < next_of b t = ltb-true n (next_of b t) y in omega (arith, lt, e)))
    (λ y.
    let up : n ≤ next_of b t = ltb-false (next_of b t) n (or_parts (nat_lt (next_of b t) n) (n == LAST_NUMBER) x).0 in
    let down : next_of b t ≤ n = ltb-false n (next_of b t) y in
    let e : n ≡ next_of b t = omega (arith, up, down) in
    either (Takes p due total b t (Says n)) (is_lock o && nat_le (limit_of b t) (live (manager_of b p) t)) (Drops TooMany) _
    (λ z. let h = and_parts (is_lock o) (nat_le (limit_of b t) (live (manager_of b p) t)) z in let lt = room e h.0 in let le = leb-true (limit_of b t) (live (manager_of b p) t) h.1 in absurd (omega (arith, lt, le)))
    (λ z. seat-seen b t p (n + 1) (limit_of b t) p _
    ∙ says-at p due total n (next_of b t) (n + 1) (partial_of b t) (is_joined (seat_of b t)) joined
    (ap (λ q. if q then next_of b t + 1 else next_of b t) (eq-eqb n (next_of b t) e) ∙ ap (λ q. q + 1) (sym e)))))))

-- While the partition recovers, the command of a tab that has joined is dropped, and so the hub notes the tab.
pub command-early : (b : BrokerState) (t p n : ℕ) (o : Operation) → is_joined (seat_of b t) ≡ true → is_active b p ≡ false → take_command b t p n o ≡ Drops Recovering
unfolding take_command
command-early b t p n o joined active =
    either (λ z. z ≡ Drops Recovering) (not (is_joined (seat_of b t))) (Drops NotJoined) _ (λ y. apart joined (not-true _ y))
    (λ _. either (λ z. z ≡ Drops Recovering) (not (is_active b p)) (Drops Recovering) _ (λ _. refl) (λ y. apart (not-false _ y) active))

-- Reports

tells-joined : (p : ℕ) (due : Bool) (total n : ℕ) (x : Told) (o : Option Partial) (j : Bool) → j ≡ true → seen_if j n o ≡ after_item p due total (Tells x) (seen_if j n o)
tells-joined p due total n x o true e = refl
tells-joined p due total n x o false e = apart e refl

tells-away : (p : ℕ) (due : Bool) (total n : ℕ) (x : Told) (o : Option Partial) (j : Bool) (s : Seen) → j ≡ false → s ≡ told_away p x o → s ≡ after_item p due total (Tells x) (seen_if j n o)
tells-away p due total n x o true s e f = apart refl e
tells-away p due total n x o false s e f = f

pub away-seen : (b : BrokerState) (t : ℕ) → is_joined (seat_of b t) ≡ false → seen b t ≡ Away (partial_of b t)
away-seen b t e = ap (λ z. seen_if z (next_of b t) (partial_of b t)) e

kept-seen : (b : BrokerState) (t : ℕ) (k : Partial) → is_joined (seat_of b t) ≡ false → seen (keeping t k b) t ≡ Away (Some k)
kept-seen b t k e = away-seen (keeping t k b) t e ∙ ap (λ z. Away z) (find-put_same t k b.partial)

-- A report, or a part of one, that is sound and fits the parts that are kept.
pub report-seen : (due : Bool) (total : ℕ) (b : BrokerState) (t p : ℕ) (x : Told) → (not (is_listed (listed_at t b.listed)) && has_held x.entries) ≡ false
    → (is_joined (seat_of b t) ≡ false → (all_below x.base x.entries && fits x (partial_of b t)) ≡ true) → Takes p due total b t (Tells x) (take_report_part b t p x)
unfolding take_report_part join_if join
report-seen due total b t p x listed fit =
    let o = partial_of b t in let k = with_told p x o in
    either (Takes p due total b t (Tells x)) (is_joined (seat_of b t)) (Drops AlreadyJoined) _
    (λ j. tells-joined p due total (next_of b t) x o (is_joined (seat_of b t)) j)
    (λ j. either (Takes p due total b t (Tells x)) (not (is_listed (listed_at t b.listed)) && has_held x.entries) (Drops HeldByNewcomer) _ (λ y. apart y listed)
    (λ _. either (Takes p due total b t (Tells x)) (not (all_below x.base x.entries && fits x o)) (Drops BadReport) _ (λ y. apart (fit j) (not-true _ y))
    (λ _. either (Takes p due total b t (Tells x)) (has_part x o) (Drops PartTwice) _
    (λ y. tells-away p due total (next_of b t) x o (is_joined (seat_of b t)) (seen b t) j (away-seen b t j ∙ ap (λ z. cond z (Away o) (cond (is_whole k) (At x.base) (Away (Some k)))) (sym y)))
    (λ y. either (Takes p due total b t (Tells x)) (is_whole k) (join b t p (whole_of k)) (Does (keeping t k b) [])
    (λ w.
    tells-away p due total (next_of b t) x o (is_joined (seat_of b t)) _ j
    (seat-seen b t p k.base k.limit p _ ∙ (ap (λ z. At z) (with_told-base p x o) ∙ (ap (λ z. cond z (At x.base) (Away (Some k))) (sym w) ∙ ap (λ z. cond z (Away o) (cond (is_whole k) (At x.base) (Away (Some k)))) (sym y)))))
    (λ w.
    tells-away p due total (next_of b t) x o (is_joined (seat_of b t)) _ j
    (kept-seen b t k j ∙ (ap (λ z. cond z (At x.base) (Away (Some k))) (sym w) ∙ ap (λ z. cond z (Away o) (cond (is_whole k) (At x.base) (Away (Some k)))) (sym y))))))))
