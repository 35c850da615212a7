-- Locks that were requested by commands already taken, before and after a tab's seat changes.
use Rattle.std.proofs.Common.{◌≡◌, ⊎_elim, ℕ, ◌<◌, ◌≤◌, Bool, true, false, not, ◌&&◌, ◌||◌, cond, eqb, ltb, List, [], ◌∷◌, ◌++◌, Some, refl, sym, ◌∙◌, subst, arith}
use Rattle.std.specs.List.{list_all, filter}
use Rattle.std.proofs.lemmas.Bool.{and_parts, and_from, cases_eq, both_ways, not-true, eqb-true, eq-eqb, ltb-true, lt-ltb, cond_both}
use Rattle.std.proofs.lemmas.List.Folds.{list_all-append}
use Rattle.wl_draft.specs.declared.mode.Mode.{Mode}
use Rattle.wl_draft.specs.declared.row.Row.{Row}
use Rattle.wl_draft.specs.declared.row.Entry.{Entry}
use Rattle.wl_draft.specs.declared.row.Standing.TheVariants.{Absent}
use Rattle.wl_draft.specs.Tables.{Table, find, put}
use Rattle.wl_draft.specs.Locks.{Locks, newly_granted, settle, settle_if, is_grantable, is_pair, has_pair, standing, without_client, row_of, rows_of, queued, probed, released, aborted, ended, restored}
use Rattle.wl_draft.specs.Settling.{Merges, none, left, right}
use Rattle.wl_draft.proofs.Settled.{settle-MovesGrants}
use Rattle.wl_draft.proofs.TableLemmas.{find-put_same, find-put_other}
use Rattle.wl_grammar.specs.declared.frame.Operation.{Operation}
use Rattle.wl_grammar.specs.declared.frame.Operation.TheVariants.{Request, Release, Abort, Query}
use Rattle.wl_broker_reports.specs.ReportParts.{all_below}
use Rattle.wl_broker.specs.declared.seat.TabSeat.{TabSeat}
use Rattle.wl_broker.specs.Broker.{drafted}
use Rattle.wl_broker.specs.BrokerInvariant.{taken_in, was_taken, AllRows}

-- Locks requested by commands already taken

pub was_taken-put : (seats : Table TabSeat) (t : ℕ) (s : TabSeat) (p k n : ℕ) → taken_in (find seats t) p ≤ taken_in (Some s) p → ltb n (taken_in (find seats k) p) ≡ true → ltb n (taken_in (find (put t s seats) k) p) ≡ true
was_taken-put seats t s p k n more h =
    ⊎_elim (λ (e : t ≡ k). subst (λ j. ltb n (taken_in (find (put t s seats) j) p) ≡ true) e
    (let same = find-put_same t s seats in
    let old : ltb n (taken_in (find seats t) p) ≡ true = subst (λ j. ltb n (taken_in (find seats j) p) ≡ true) (sym e) h in
    rw same (lt-ltb n (taken_in (Some s) p) (omega (arith, more, ltb-true n (taken_in (find seats t) p) old)))))
    (λ (ne : t ≡ k → ⊥). rw (find-put_other t s seats k (λ e. ne (sym e))) h)
    (cases_eq t k)

pub rows_taken-put : (seats : Table TabSeat) (t : ℕ) (s : TabSeat) (p : ℕ) (rows : List Row) → taken_in (find seats t) p ≤ taken_in (Some s) p → list_all (was_taken seats p) rows ≡ true → list_all (was_taken (put t s seats) p) rows ≡ true
rows_taken-put seats t s p [] more h = refl
rows_taken-put seats t s p (r ∷ rs) more h =
    let k = and_parts _ _ h in
    and_from _ _ (was_taken-put seats t s p r.client r.number more k.0) (rows_taken-put seats t s p rs more k.1)

pub AllRows-put : (seats : Table TabSeat) (t : ℕ) (s : TabSeat) (p : ℕ) (m : Locks) → taken_in (find seats t) p ≤ taken_in (Some s) p → AllRows (was_taken seats p) m → AllRows (was_taken (put t s seats) p) m
AllRows-put seats t s p m more h = (rows_taken-put seats t s p m.held more h.0, rows_taken-put seats t s p m.waiting more h.1)

or_none : (x y : Bool) → x ≡ false → y ≡ false → (x || y) ≡ false
or_none x y h k = rw (h, k) refl

-- A pair whose number is not an earlier one is new.
no_pair_as : (c n k : ℕ) (r : Row) (b : Bool) → (eqb r.client c && eqb r.number n) ≡ b → (r.client ≡ c → r.number < k) → k ≤ n → b ≡ false
no_pair_as c n k r true e h le =
    let both = and_parts (eqb r.client c) (eqb r.number n) e in
    absurd (omega (arith, h (eqb-true _ _ both.0), eqb-true _ _ both.1))
no_pair_as c n k r false e h le = refl

no_pair : (seats : Table TabSeat) (p t n : ℕ) (rows : List Row) → list_all (was_taken seats p) rows ≡ true → taken_in (find seats t) p ≤ n → has_pair t n rows ≡ false
no_pair seats p t n [] h le = refl
no_pair seats p t n (r ∷ rs) h le =
    let k = and_parts _ _ h in
    or_none _ _ (no_pair_as t n (taken_in (find seats t) p) r (is_pair t n r) refl (λ e. subst (λ j. r.number < taken_in (find seats j) p) e (ltb-true _ _ k.0)) le) (no_pair seats p t n rs k.1 le)

pub new_pair : (seats : Table TabSeat) (p t n : ℕ) (m : Locks) → AllRows (was_taken seats p) m → taken_in (find seats t) p ≤ n → standing m t n ≡ Absent
new_pair seats p t n m h le = rw (no_pair seats p t n m.held h.0 le, no_pair seats p t n m.waiting h.1 le) refl

-- Properties of all rows

list_all-filter : {X : Type 0} (p q : X → Bool) (xs : List X) → list_all p xs ≡ true → list_all p (filter q xs) ≡ true
list_all-filter p q [] h = refl
list_all-filter p q (x ∷ xs) h =
    let k = and_parts _ _ h in
    cond_both (q x) _ _ (λ ys. list_all p ys ≡ true) (λ _. and_from _ _ k.0 (list_all-filter p q xs k.1)) (λ _. list_all-filter p q xs k.1)

list_all_both : {X : Type 0} (p : X → Bool) (xs ys : List X) → list_all p xs ≡ true → list_all p ys ≡ true → list_all p (xs ++ ys) ≡ true
list_all_both p xs ys h k = list_all-append p xs ys ∙ and_from _ _ h k

list_all-Merges : {xs ys zs : List Row} (p : Row → Bool) → Merges xs ys zs → list_all p zs ≡ true → (list_all p xs ≡ true) × (list_all p ys ≡ true)
list_all-Merges p none h = (refl, refl)
list_all-Merges p (left t) h =
    let k = and_parts _ _ h in let below = list_all-Merges p t k.1 in (and_from _ _ k.0 below.0, below.1)
list_all-Merges p (right t) h =
    let k = and_parts _ _ h in let below = list_all-Merges p t k.1 in (below.0, and_from _ _ k.0 below.1)

AllRows-settle : (test : Row → Bool) (m : Locks) → AllRows test m → AllRows test (settle m)
AllRows-settle test m h =
    let moves = settle-MovesGrants m in
    let parts = list_all-Merges test moves.parts h.1 in
    (rw moves.behind (list_all_both test m.held (newly_granted m) h.0 parts.0), parts.1)

pub AllRows-settle_if : (test : Row → Bool) (b : Bool) (m : Locks) → AllRows test m → AllRows test (settle_if b m)
AllRows-settle_if test true m h = AllRows-settle test m h
AllRows-settle_if test false m h = h

AllRows-probed_as : (test : Row → Bool) (r : Row) (m : Locks) (b : Bool) → test r ≡ true → AllRows test m → AllRows test (cond b (record { held = m.held ++ r ∷ []; waiting = m.waiting }) m)
AllRows-probed_as test r m true new h = (list_all_both test m.held (r ∷ []) h.0 (rw new refl), h.1)
AllRows-probed_as test r m false new h = h

AllRows-probed : (test : Row → Bool) (r : Row) (m : Locks) → test r ≡ true → AllRows test m → AllRows test (probed r m)
unfolding probed
AllRows-probed test r m new h = AllRows-probed_as test r m (is_grantable m.held m.waiting r) new h

AllRows-queued : (test : Row → Bool) (r : Row) (m : Locks) → test r ≡ true → AllRows test m → AllRows test (queued r m)
unfolding queued
AllRows-queued test r m new h = (h.0, list_all_both test m.waiting (r ∷ []) h.1 (rw new refl))

AllRows-requested : (test : Row → Bool) (r : Row) (m : Locks) (b : Bool) → test r ≡ true → AllRows test m → AllRows test (cond b (probed r m) (queued r m))
AllRows-requested test r m true new h = AllRows-probed test r m new h
AllRows-requested test r m false new h = AllRows-queued test r m new h

pub AllRows-drafted : (test : Row → Bool) (t n : ℕ) (o : Operation) (m : Locks) → ((name : List ℕ) (mode : Mode) → test (row_of t n name mode) ≡ true) → AllRows test m → AllRows test (drafted t n o m)
unfolding released aborted
AllRows-drafted test t n (Request mode if_available name) m new h = AllRows-requested test (row_of t n name mode) m if_available (new name mode) h
AllRows-drafted test t n (Release number) m new h = (list_all-filter test _ m.held h.0, h.1)
AllRows-drafted test t n (Abort number) m new h = (list_all-filter test _ m.held h.0, list_all-filter test _ m.waiting h.1)
AllRows-drafted test t n Query m new h = h

-- The rows of a report's entries have numbers below the base.
rows_below : (test : Row → Bool) (t base : ℕ) (entries : List Entry) → ((n : ℕ) (name : List ℕ) (mode : Mode) → n < base → test (row_of t n name mode) ≡ true) → all_below base entries ≡ true → list_all test (rows_of t entries) ≡ true
rows_below test t base [] new h = refl
rows_below test t base (e ∷ es) new h =
    let k = and_parts _ _ h in
    and_from _ _ (new e.number e.name e.mode (ltb-true e.number base k.0)) (rows_below test t base es new k.1)

pub AllRows-restored : (test : Row → Bool) (t base : ℕ) (entries : List Entry) (m : Locks) → ((n : ℕ) (name : List ℕ) (mode : Mode) → n < base → test (row_of t n name mode) ≡ true) → all_below base entries ≡ true → AllRows test m → AllRows test (restored t entries m)
unfolding restored
AllRows-restored test t base entries m new below h = (
  list_all_both test m.held _ h.0 (rows_below test t base _ new (list_all-filter _ _ entries below)),
  list_all_both test m.waiting _ h.1 (rows_below test t base _ new (list_all-filter _ _ entries below)),
)

-- When a tab dies, its rows are removed.
rows_without : (seats : Table TabSeat) (t p : ℕ) (s : TabSeat) (rows : List Row) → list_all (was_taken seats p) rows ≡ true → list_all (was_taken (put t s seats) p) (without_client t rows) ≡ true
rows_without seats t p s [] h = refl
rows_without seats t p s (r ∷ rs) h =
    let k = and_parts _ _ h in
    cond_both (not (eqb r.client t)) _ _ (λ ys. list_all (was_taken (put t s seats) p) ys ≡ true)
    (λ other. and_from _ _
    (rw (find-put_other t s seats r.client (λ same. both_ways _ (not-true _ other) (eq-eqb r.client t same))) k.0)
    (rows_without seats t p s rs k.1))
    (λ _. rows_without seats t p s rs k.1)

pub AllRows-ended : (seats : Table TabSeat) (t p : ℕ) (s : TabSeat) (m : Locks) → AllRows (was_taken seats p) m → AllRows (was_taken (put t s seats) p) (ended t m)
unfolding ended
AllRows-ended seats t p s m h = (rows_without seats t p s m.held h.0, rows_without seats t p s m.waiting h.1)
