-- Capacity for the grants of a change.
use Rattle.std.proofs.Common.{◌≡◌, ℕ, ◌+◌, ◌≤◌, Bool, true, false, not, cond, eqb, List, [], ◌∷◌, ◌++◌, length, length-append, arith}
use Rattle.std.specs.List.{filter}
use Rattle.std.proofs.lemmas.Bool.{cond_both}
use Rattle.std.proofs.lemmas.List.{length-map}
use Rattle.wl_draft.specs.declared.row.Row.{Row}
use Rattle.wl_draft.specs.declared.row.Entry.{Entry}
use Rattle.wl_draft.specs.declared.row.Grant.{Grant}
use Rattle.wl_draft.specs.Locks.{Locks, newly_granted, newly_granted_if, grants, without, queued, probed, released, aborted, ended, restored, is_grantable, is_pair, row_of, rows_of, waiting_of}
use Rattle.wl_grammar.specs.declared.frame.Operation.{Operation}
use Rattle.wl_grammar.specs.declared.frame.Operation.TheVariants.{Request, Release, Abort, Query}
use Rattle.wl_broker.specs.Broker.{drafted}
use Rattle.wl_broker.proofs.SettledLocks.{length-newly_granted}

length-grants : (rows : List Row) → length (grants rows) ≡ length rows
length-grants rows = simp length-map

length-filter : {X : Type 0} (p : X → Bool) (xs : List X) → length (filter p xs) ≤ length xs
length-filter p [] = omega arith
length-filter p (x ∷ xs) = cond_both (p x) (x ∷ filter p xs) (filter p xs) (λ ys. length ys ≤ length (x ∷ xs)) (λ _. omega (arith, length-filter p xs)) (λ _. omega (arith, length-filter p xs))

length-rows : (t : ℕ) (p : Entry → Bool) (es : List Entry) → length (rows_of t (filter p es)) ≤ length es
length-rows t p es = simp length-map (length-filter p es)

granted_if : (b : Bool) (m : Locks) (granted : List Grant) → granted ≡ grants (newly_granted_if b m) → length granted ≤ length m.waiting
granted_if true m granted e = rw e (omega (arith, length-grants (newly_granted m), length-newly_granted m))
granted_if false m granted e = rw e (omega arith)

pub room_to_join : (t : ℕ) (es : List Entry) (m : Locks) (b : Bool) (granted : List Grant) → granted ≡ grants (newly_granted_if b (restored t es m)) → length granted ≤ length es + length m.waiting
unfolding restored
room_to_join t es m b granted e =
    omega (arith, granted_if b (restored t es m) granted e, length-append m.waiting (waiting_of t es), length-rows t (λ e. not e.held) es)

pub room_to_bury : (t : ℕ) (m : Locks) (b : Bool) (granted : List Grant) → granted ≡ grants (newly_granted_if b (ended t m)) → length granted ≤ length m.waiting
unfolding ended
room_to_bury t m b granted e =
    omega (arith, granted_if b (ended t m) granted e, length-filter (λ (r : Row). not (eqb r.client t)) m.waiting)

waiting_probed : (r : Row) (m : Locks) (b : Bool) → length (cond b (record { held = m.held ++ r ∷ []; waiting = m.waiting }) m).waiting ≤ length m.waiting + 1
waiting_probed r m true = omega arith
waiting_probed r m false = omega arith

waiting_requested : (r : Row) (m : Locks) (b : Bool) → length (cond b (probed r m) (queued r m)).waiting ≤ length m.waiting + 1
unfolding probed queued
waiting_requested r m true = waiting_probed r m (is_grantable m.held m.waiting r)
waiting_requested r m false = omega (arith, length-append m.waiting (r ∷ []))

waiting_drafted : (t n : ℕ) (o : Operation) (m : Locks) → length (drafted t n o m).waiting ≤ length m.waiting + 1
unfolding released aborted
waiting_drafted t n (Request mode if_available name) m = waiting_requested (row_of t n name mode) m if_available
waiting_drafted t n (Release number) m = omega arith
waiting_drafted t n (Abort number) m = omega (arith, length-filter (λ r. not (is_pair t number r)) m.waiting)
waiting_drafted t n Query m = omega arith

pub room_to_change : (t n : ℕ) (o : Operation) (m : Locks) (granted : List Grant) → granted ≡ grants (without t n (newly_granted (drafted t n o m))) → length granted ≤ length m.waiting + 1
room_to_change t n o m granted e =
    rw e
    (omega (arith, length-grants (without t n (newly_granted (drafted t n o m))), length-filter (λ r. not (is_pair t n r)) (newly_granted (drafted t n o m)), length-newly_granted (drafted t n o m), waiting_drafted t n o m))
