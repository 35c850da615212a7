-- Invariant of the clients of locks and requests, through the draft's operations.
use Rattle.std.proofs.Common.{⊎_elim, ℕ, Bool, true, false, List, [], ◌∷◌, ◌++◌, filter, sym, subst}
use Rattle.wl_draft.specs.declared.row.Row.{Row}
use Rattle.wl_draft.specs.declared.row.Entry.{Entry}
use Rattle.wl_draft.specs.Locks.{Locks, is_grantable, granted, left_waiting, newly_granted, settle, row_of, rows_of, held_of, waiting_of, queued, probed, released, aborted, ended, restored}
use Rattle.wl_draft.proofs.Membership.{either, In-nil, In-one, In-cons_cases, In-append_cases, In-map_cases, In-filter_cases}
use Rattle.wl_draft.specs.Membership.{In, Here, Later}
use Rattle.wl_grammar.specs.declared.frame.Operation.{Operation}
use Rattle.wl_grammar.specs.declared.frame.Operation.TheVariants.{Request, Release, Abort, Query}
use Rattle.wl_broker.specs.Broker.{drafted}

-- The client of each row has the property `Q`.
abbrev pub Own : (ℕ → Type 0) → List Row → Type 0
Own Q rows = (r : Row) → In r rows → Q r.client

abbrev pub Stands : (ℕ → Type 0) → Locks → Type 0
Stands Q m = Own Q m.held × Own Q m.waiting

pub Own-push : (Q : ℕ → Type 0) (rows : List Row) (x : Row) → Own Q rows → Q x.client → Own Q (rows ++ x ∷ [])
Own-push Q rows x h q r i = ⊎_elim (λ j. h r j) (λ j. subst (λ z. Q z.client) (sym (In-one j)) q) (In-append_cases rows (x ∷ []) i)

pub Own-append : (Q : ℕ → Type 0) (rows more : List Row) → Own Q rows → Own Q more → Own Q (rows ++ more)
Own-append Q rows more h q r i = ⊎_elim (λ j. h r j) (λ j. q r j) (In-append_cases rows more i)

pub Own-filter : (Q : ℕ → Type 0) (test : Row → Bool) (rows : List Row) → Own Q rows → Own Q (filter test rows)
Own-filter Q test rows h r i = h r (In-filter_cases test rows i).0

pub granted-Own : (Q : ℕ → Type 0) (held ahead rows : List Row) → Own Q rows → Own Q (granted held ahead rows)
granted-Own Q held ahead [] h = h
granted-Own Q held ahead (x ∷ rows) h =
    either (λ zs. Own Q zs) (is_grantable held ahead x) (x ∷ granted (held ++ x ∷ []) ahead rows) (granted held (ahead ++ x ∷ []) rows)
    (λ _ r i. ⊎_elim (λ e. subst (λ z. Q z.client) (sym e) (h x Here)) (λ l. granted-Own Q (held ++ x ∷ []) ahead rows (λ y j. h y (Later j)) r l) (In-cons_cases i))
    (λ _. granted-Own Q held (ahead ++ x ∷ []) rows (λ y j. h y (Later j)))

pub left-Own : (Q : ℕ → Type 0) (held ahead rows : List Row) → Own Q ahead → Own Q rows → Own Q (left_waiting held ahead rows)
left-Own Q held ahead [] a h = a
left-Own Q held ahead (x ∷ rows) a h =
    either (λ zs. Own Q zs) (is_grantable held ahead x) (left_waiting (held ++ x ∷ []) ahead rows) (left_waiting held (ahead ++ x ∷ []) rows)
    (λ _. left-Own Q (held ++ x ∷ []) ahead rows a (λ y j. h y (Later j)))
    (λ _. left-Own Q held (ahead ++ x ∷ []) rows (Own-push Q ahead x a (h x Here)) (λ y j. h y (Later j)))

pub newly-Own : (Q : ℕ → Type 0) (m : Locks) → Stands Q m → Own Q (newly_granted m)
unfolding newly_granted
newly-Own Q m s = granted-Own Q m.held [] m.waiting s.1

pub settle-Stands : (Q : ℕ → Type 0) (m : Locks) → Stands Q m → Stands Q (settle m)
unfolding settle
settle-Stands Q m s = (Own-append Q m.held (newly_granted m) s.0 (newly-Own Q m s), left-Own Q m.held [] m.waiting (λ r i. absurd (In-nil i)) s.1)

pub rows_of-Own : (Q : ℕ → Type 0) (t : ℕ) (entries : List Entry) → Q t → Own Q (rows_of t entries)
rows_of-Own Q t entries q r i =
    let o = In-map_cases (λ (e : Entry). row_of t e.number e.name e.mode) entries i in subst (λ (z : Row). Q z.client) (sym o.2) q

pub restored-Stands : (Q : ℕ → Type 0) (t : ℕ) (entries : List Entry) (m : Locks) → Q t → Stands Q m → Stands Q (restored t entries m)
unfolding restored
restored-Stands Q t entries m q s =
    (Own-append Q m.held (held_of t entries) s.0 (rows_of-Own Q t _ q), Own-append Q m.waiting (waiting_of t entries) s.1 (rows_of-Own Q t _ q))

pub drafted-Stands : (Q : ℕ → Type 0) (t n : ℕ) (o : Operation) (m : Locks) → Q t → Stands Q m → Stands Q (drafted t n o m)
unfolding queued probed released aborted
drafted-Stands Q t n (Request mode true name) m q s =
    either (Stands Q) (is_grantable m.held m.waiting (row_of t n name mode)) (record { held = m.held ++ row_of t n name mode ∷ []; waiting = m.waiting }) m
    (λ _. (Own-push Q m.held (row_of t n name mode) s.0 q, s.1))
    (λ _. s)
drafted-Stands Q t n (Request mode false name) m q s = (s.0, Own-push Q m.waiting (row_of t n name mode) s.1 q)
drafted-Stands Q t n (Release k) m q s = (Own-filter Q _ m.held s.0, s.1)
drafted-Stands Q t n (Abort k) m q s = (Own-filter Q _ m.held s.0, Own-filter Q _ m.waiting s.1)
drafted-Stands Q t n Query m q s = s

pub ended-Stands : (Q : ℕ → Type 0) (t : ℕ) (m : Locks) → Stands Q m → Stands Q (ended t m)
unfolding ended
ended-Stands Q t m s = (Own-filter Q _ m.held s.0, Own-filter Q _ m.waiting s.1)
