-- The broker has room for one lock more, if it has each number of a tab once and knows the tab's limit.
use Rattle.std.proofs.Common.{◌≡◌, ⊎_elim, ℕ, zero, suc, ◌+◌, ◌<◌, ◌≤◌, Bool, true, false, not, cond, List, [], ◌∷◌, ◌++◌, length, map, filter, Some, refl, sym, ap, ◌∙◌, subst, arith}
use Rattle.std.specs.Prelude.{⊤, ◌==◌, if◌then◌else◌}
use Rattle.std.proofs.lemmas.List.Sums.{sum_by-cons}
use Rattle.std.proofs.lemmas.Bool.{cases_eq, eq-eqb, ne_eqb, not-true, or_left}
use Rattle.wl_draft.specs.declared.row.Row.{Row}
use Rattle.wl_draft.specs.Locks.{Locks, has_pair}
use Rattle.wl_draft.specs.Membership.{In, Here, Later}
use Rattle.wl_draft.specs.Tables.{Table, find}
use Rattle.wl_draft.proofs.Membership.{apart, either, In-nil, In-cons_cases, In-filter_cases, In-map, In-filter, In-append_right}
use Rattle.wl_grammar.specs.declared.frame.Operation.{Operation}
use Rattle.wl_grammar.specs.declared.frame.Operation.TheVariants.{Request, Release, Abort, Query}
use Rattle.wl_broker.specs.Broker.{BrokerState, seat_of, manager_of, next_of, is_joined}
use Rattle.wl_agent.specs.declared.status.Status.{Status}
use Rattle.wl_agent.specs.Tab.{TabState, operation_of, reserves_number, is_live, count_of, live_numbers}
use Rattle.wl_library_model.specs.Library.{Library, client_of, runs}
use Rattle.wl_quiescence.proofs.rest.Invariant.{view, IsResting, numbered_after, numbered_from, numbers_at}
use Rattle.wl_world_model.specs.World.{WorldState}
use Rattle.wl_library_model.proofs.Carried.{Sim}
use Rattle.wl_world_model.proofs.exclusion.HeldAfterSettling.{has_pair-true}
use Rattle.wl_quiescence.proofs.hub.Rows.{numbers_in, numbers-append}
use Rattle.wl_quiescence.proofs.calls.Steps.{RoomForOne}
use Rattle.wl_quiescence.proofs.calls.Limits.{Limits, sim-limit}

-- Each number stands once.
abbrev pub Once : List ℕ → Type 0
Once [] = ⊤
Once (k ∷ ks) = (In k ks → ⊥) × Once ks

once-filter : (q : ℕ → Bool) (ks : List ℕ) → Once ks → Once (filter q ks)
once-filter q [] o = tt
once-filter q (k ∷ ks) o = either Once (q k) (k ∷ filter q ks) (filter q ks) (λ _. (λ i. o.0 (In-filter_cases q ks i).0, once-filter q ks o.1)) (λ _. once-filter q ks o.1)

-- All below a number, and each once.
abbrev pub OnceBelow : ℕ → List ℕ → Type 0
OnceBelow n ks = Once ks × ((k : ℕ) → In k ks → k < n)

-- The number of a pair.
pub number-In : (t k : ℕ) (rows all : List Row) → ((r : Row) → In r rows → In r all) → has_pair t k rows ≡ true → In k (map (λ (r : Row). r.number) (filter (λ (r : Row). r.client == t) all))
number-In t k rows all inside e =
    let o = has_pair-true t k rows e in
    subst (λ z. In z (map (λ (r : Row). r.number) (filter (λ (r : Row). r.client == t) all))) o.3
    (In-map (λ (r : Row). r.number) (In-filter (λ (r : Row). r.client == t) all (inside o.0 o.1) (eq-eqb o.0.client t o.2)))

once-parts : (k : ℕ) (xs ys : List ℕ) → Once (xs ++ ys) → In k xs → In k ys → ⊥
once-parts k [] ys o i j = In-nil i
once-parts k (x ∷ xs) ys o i j = ⊎_elim (λ e. o.0 (In-append_right xs (subst (λ z. In z ys) e j))) (λ h. once-parts k xs ys o.1 h j) (In-cons_cases i)

-- A number that stands once is not held and waiting.
pub once-apart : (t k : ℕ) (m : Locks) → Once (numbers_at m t) → has_pair t k m.held ≡ true → has_pair t k m.waiting ≡ true → ⊥
once-apart t k m o e f = once-parts k (numbers_in t m.held) (numbers_in t m.waiting) (subst Once (numbers-append t m.held m.waiting) o) (number-In t k m.held m.held (λ r i. i) e) (number-In t k m.waiting m.waiting (λ r i. i) f)

fewer-below : (n : ℕ) (q : ℕ → Bool) (ks : List ℕ) → OnceBelow n ks → OnceBelow (n + 1) (filter q ks)
fewer-below n q ks o = (once-filter q ks o.0, λ k i. let lt = o.1 k (In-filter_cases q ks i).0 in omega (arith, lt))

pub after-below : (o : Operation) (n : ℕ) (ks : List ℕ) → OnceBelow n ks → OnceBelow (n + 1) (numbered_after o n ks)
after-below (Request mode if_available name) n ks o =
    ((λ i. let lt = o.1 n i in omega (arith, lt), o.0), λ k i. ⊎_elim (λ e. omega (arith, e)) (λ j. let lt = o.1 k j in omega (arith, lt)) (In-cons_cases i))
after-below (Release j) n ks o = fewer-below n (λ k. if k == j then false else true) ks o
after-below (Abort j) n ks o = fewer-below n (λ k. if k == j then false else true) ks o
after-below Query n ks o = (o.0, λ k i. let lt = o.1 k i in omega (arith, lt))

pub from-below : (a : TabState) (m n : ℕ) (ks : List ℕ) → OnceBelow n ks → Once (numbered_from a n m ks)
from-below a zero n ks o = o.0
from-below a (suc m) n ks o = from-below a m (n + 1) (numbered_after (operation_of a n) n ks) (after-below (operation_of a n) n ks o)

-- Without one number, a list in which each stands once has at most one less.
without-one : (j : ℕ) (ks : List ℕ) → Once ks → (length ks ≤ length (filter (λ k. not (k == j)) ks) + 1) × ((In j ks → ⊥) → length ks ≡ length (filter (λ k. not (k == j)) ks))
without-one j [] o = (omega arith, λ _. refl)
without-one j (k ∷ ks) o =
    let h = without-one j ks o.1 in
    either (λ zs. (length (k ∷ ks) ≤ length zs + 1) × ((In j (k ∷ ks) → ⊥) → length (k ∷ ks) ≡ length zs)) (not (k == j)) (k ∷ filter (λ k. not (k == j)) ks) (filter (λ k. not (k == j)) ks)
    (λ _. let le = h.0 in (omega (arith, le), λ n. let e = h.1 (λ i. n (Later i)) in omega (arith, e)))
    (λ n. let s : k ≡ j = same n in let e = h.1 (λ i. o.0 (subst (λ z. In z ks) (sym s) i)) in (omega (arith, e), λ m. absurd (m (subst (λ z. In z (k ∷ ks)) s Here))))
  where
    same : not (k == j) ≡ false → k ≡ j
    same n = ⊎_elim (λ e. e) (λ d. apart (ap not (ne_eqb k j d)) n) (cases_eq k j)

-- The numbers that are alive are no more than the live rows.
pub live-rows : (rows : Table Status) (ks : List ℕ) → Once ks → ((k : ℕ) → In k ks → reserves_number (find rows k) ≡ true) → length ks ≤ count_of is_live rows
live-rows [] [] o f = omega arith
live-rows [] (k ∷ ks) o f = apart (f k Here) refl
live-rows (r ∷ rows) ks o f =
    let js = filter (λ k. not (k == r.0)) ks in
    let rest : length js ≤ count_of is_live rows = live-rows rows js (once-filter (λ k. not (k == r.0)) ks o) (λ k i.
    let c = In-filter_cases (λ k. not (k == r.0)) ks i in
    let d : (r.0 == k) ≡ false = ne_eqb r.0 k (λ e. apart (eq-eqb k r.0 (sym e)) (not-true _ c.1)) in
    ap (λ b. reserves_number (cond b (Some r.1) (find rows k))) (sym d) ∙ f k c.0) in
    let h = without-one r.0 ks o in
    by (is_live (Some r.1)) refl rest h
  where
    by : (b : Bool) → is_live (Some r.1) ≡ b → length (filter (λ k. not (k == r.0)) ks) ≤ count_of is_live rows
        → (length ks ≤ length (filter (λ k. not (k == r.0)) ks) + 1) × ((In r.0 ks → ⊥) → length ks ≡ length (filter (λ k. not (k == r.0)) ks)) → length ks ≤ count_of is_live (r ∷ rows)
    by true e rest h =
        let le = h.0 in
        let c : count_of is_live (r ∷ rows) ≡ 1 + count_of is_live rows = sum_by-cons (λ (row : ℕ × Status). cond (is_live (Some row.1)) 1 0) r rows ∙ ap (λ (b : Bool). cond b 1 0 + count_of is_live rows) e in
        omega (arith, le, rest, c)
    by false e rest h =
        let same = h.1 (λ i. apart (or_left (reserves_number (Some r.1)) _ (sym (ap (λ b. reserves_number (cond b (Some r.1) (find rows r.0))) (eq-eqb r.0 r.0 refl)) ∙ f r.0 i)) e) in
        let c : count_of is_live (r ∷ rows) ≡ cond (is_live (Some r.1)) 1 0 + count_of is_live rows = sum_by-cons (λ (row : ℕ × Status). cond (is_live (Some row.1)) 1 0) r rows in
        omega (arith, same, rest, c)

-- The broker has each number of a living honest tab once, below the number of the tab's next command.
abbrev pub OneOfEach : Library → ℕ → Type 0
OneOfEach l t = (b : BrokerState) → l.hub.supervised.broker ≡ Some b → runs l t ≡ true → is_joined (seat_of b t) ≡ true → OnceBelow (next_of b t) (numbers_at (manager_of b (view l t).place) t)

pub room-for_one : (l : Library) (w : WorldState) (t : ℕ) → Sim l w → Limits w → IsResting l → OneOfEach l t → RoomForOne l t
room-for_one l w t s z x o b up r j few m e =
    let a = (client_of l t).locks in
    let ks = numbers_at (manager_of b (view l t).place) t in
    let k = (x.serving b t up r).kept j in
    let le : length (numbered_from a (next_of b t) m ks) ≤ live_numbers a =
    live-rows a.statuses (numbered_from a (next_of b t) m ks) (from-below a m (next_of b t) ks (o b up r j)) (λ n i. k.own n m e i) in
    let top = sim-limit l w t b s z up r j in
    omega (arith, le, top, few)
