-- Settled locks: nothing more is granted, and a request that is not grantable stays so when more
-- locks are held.
use Rattle.std.proofs.Common.{◌≡◌, ℕ, ◌≤◌, Bool, true, false, not, cond, List, [], ◌∷◌, ◌++◌, length, refl, sym, ap, ◌∙◌, subst, append_assoc, append-nil, eq-eqb, arith, IsTrue, Result, Ok, Err, OnOk, OnErr}
use Rattle.std.specs.List.{filter}
use Rattle.wl_draft.specs.declared.mode.Mode.{Mode}
use Rattle.wl_draft.specs.declared.row.Row.{Row}
use Rattle.wl_draft.specs.declared.row.Grant.{Grant}
use Rattle.wl_draft.specs.Locks.{Locks, is_grantable, newly_granted, settle, settle_if, probed, without, grants, row_of}
use Rattle.wl_draft.specs.Settling.{IsSettled, Merges, none, left, right}
use Rattle.wl_broker.specs.BrokerInvariant.{PartitionState, state_of, is_grant_of}
use Rattle.wl_draft.proofs.Settled.{Settles, done, grant, pass, Settles-all, settle-IsSettled, settle-MovesGrants, grantable_later}

-- If no request is grantable, settling grants none.
Settles-none : {held ahead rs gs ws : List Row} → Settles held ahead rs gs ws → IsSettled (record { held = held; waiting = ahead ++ rs }) → gs ≡ []
Settles-none done s = refl
Settles-none (grant {held = held} {ahead = ahead} {rs = rs} {r = r} e t) s =
    let no : is_grantable held ahead r ≡ false = s ahead rs r refl in cc
Settles-none (pass {held = held} {ahead = ahead} {rs = rs} {r = r} e t) s =
    Settles-none t (subst (λ rows. IsSettled (record { held = held; waiting = rows })) (sym (append_assoc ahead (r ∷ []) rs)) s)

-- If no request is granted, each keeps waiting.
Settles-waiting : {held ahead rs gs ws : List Row} → Settles held ahead rs gs ws → gs ≡ [] → ws ≡ ahead ++ rs
Settles-waiting (done {ahead = ahead}) e = sym (append-nil ahead)
Settles-waiting (grant f t) e = cc
Settles-waiting (pass {ahead = ahead} {rs = rs} {r = r} f t) e = Settles-waiting t e ∙ append_assoc ahead (r ∷ []) rs

newly-IsSettled : (m : Locks) → IsSettled m → newly_granted m ≡ []
unfolding newly_granted
newly-IsSettled m s = Settles-none (Settles-all m.held [] m.waiting) s

-- Settling settled locks changes nothing.
pub settle_same : (m : Locks) → newly_granted m ≡ [] → settle m ≡ m
unfolding settle newly_granted
settle_same m e =
    let w = Settles-waiting (Settles-all m.held [] m.waiting) e in
    rw (e, append-nil, w) refl

-- After settling, nothing more is granted.
pub newly-settle : (m : Locks) → newly_granted (settle m) ≡ []
newly-settle m = newly-IsSettled (settle m) (settle-IsSettled m)

pub newly-settle_if : (b : Bool) (m : Locks) → IsTrue b → newly_granted (settle_if b m) ≡ []
newly-settle_if true m h = newly-settle m
newly-settle_if false m h = cc

-- More held locks do not make any request grantable.
newly-held_more : (m : Locks) (more : List Row) → newly_granted m ≡ [] → newly_granted (record { held = m.held ++ more; waiting = m.waiting }) ≡ []
newly-held_more m more e =
    let s : IsSettled m = subst IsSettled (settle_same m e) (settle-IsSettled m) in
    newly-IsSettled _ (λ front back r h. grantable_later m.held more front r (s front back r h))

newly-probed_as : (m : Locks) (r : Row) (b : Bool) → newly_granted m ≡ [] → newly_granted (cond b (record { held = m.held ++ r ∷ []; waiting = m.waiting }) m) ≡ []
newly-probed_as m r true e = newly-held_more m (r ∷ []) e
newly-probed_as m r false e = e

pub newly-probed : (r : Row) (m : Locks) → newly_granted m ≡ [] → newly_granted (probed r m) ≡ []
unfolding probed
newly-probed r m e = newly-probed_as m r (is_grantable m.held m.waiting r) e

-- At most as many requests are granted as are waiting.
length-Merges : {xs ys zs : List Row} → Merges xs ys zs → length xs ≤ length zs
length-Merges none = omega arith
length-Merges (left t) = omega (arith, length-Merges t)
length-Merges (right t) = omega (arith, length-Merges t)

pub length-newly_granted : (m : Locks) → length (newly_granted m) ≤ length m.waiting
length-newly_granted m = length-Merges (settle-MovesGrants m).parts

-- Grants to other pairs

pub filter-grants : (client number : ℕ) (rows : List Row) → filter (λ g. not (is_grant_of client number g)) (grants rows) ≡ grants (without client number rows)
filter-grants client number [] = refl
filter-grants client number (r ∷ rs) = grind (arith, filter-grants client number rs)

-- A probe grants only its own lock.
own_only : (client number : ℕ) (name : List ℕ) (mode : Mode) (b : Bool) → filter (λ g. not (is_grant_of client number g)) (cond b (grants (row_of client number name mode ∷ [])) []) ≡ []
own_only client number name mode true = rw (eq-eqb client client refl, eq-eqb number number refl) refl
own_only client number name mode false = refl

pub filter-probe : (client number : ℕ) (name : List ℕ) (mode : Mode) (m : Locks) (b : Bool) (items : List Grant) → newly_granted m ≡ [] → items ≡ cond b (grants (row_of client number name mode ∷ [])) [] → filter (λ g. not (is_grant_of client number g)) items ≡ grants (without client number (newly_granted (probed (row_of client number name mode) m)))
filter-probe client number name mode m b items n e =
    rw (e, own_only client number name mode b, newly-probed (row_of client number name mode) m n) refl

pub filter-granted : (client number : ℕ) (rows : List Row) (items : List Grant) → items ≡ grants rows → filter (λ g. not (is_grant_of client number g)) items ≡ grants (without client number rows)
filter-granted client number rows items e = ap (filter (λ g. not (is_grant_of client number g))) e ∙ filter-grants client number rows

-- State after a call that may fail

pub either_way : {T E A B P : Type 0} (r : Result T E) → OnOk r A → OnErr r B → (A → P) → (B → P) → P
either_way (Ok x) a b f h = f a
either_way (Err e) a b f h = h b

-- Locks stay settled after a probe.
pub settled_probe : (r : Row) (old new : Locks) (b : Bool) (s : PartitionState) → newly_granted old ≡ [] → state_of old b ≡ s → new ≡ probed r old → state_of new b ≡ state_of (settle (probed r s.locks)) s.is_active
settled_probe r old new b s n v e =
    let same : settle (probed r old) ≡ probed r old = settle_same _ (newly-probed r old n) in
    rw (← v, same, e) refl

-- Unchanged locks stay settled.
pub settled_still : (m : Locks) (b : Bool) (s : PartitionState) → newly_granted m ≡ [] → state_of m b ≡ s → s ≡ state_of (settle s.locks) s.is_active
settled_still m b s n v = rw (← v, settle_same m n) refl
