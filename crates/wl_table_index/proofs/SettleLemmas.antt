-- Settling by one grant at a time. Requests that are not grantable are passed over, and the first
-- grantable request is granted first.
use Rattle.std.proofs.Common.{◌≡◌, true, List, [], ◌∷◌, ◌++◌, refl, sym, ap, ◌∙◌, append_assoc, append-nil}
use Rattle.wl_draft.specs.declared.row.Row.{Row}
use Rattle.wl_draft.specs.Locks.{Locks, is_grantable, granted, left_waiting, newly_granted, settle, queued, probed}
use Rattle.wl_draft.proofs.Settled.{grantable_later}
use Rattle.wl_table_index.proofs.Stuck.{AreStuck}

-- More held locks make no request grantable.
pub stuck-later : (held more ahead rs : List Row) → AreStuck held ahead rs → AreStuck (held ++ more) ahead rs
stuck-later held more ahead [] s = s
stuck-later held more ahead (r ∷ rs) s =
    (grantable_later held more ahead r s.0, stuck-later held more (ahead ++ r ∷ []) rs s.1)

-- Requests that are not grantable are passed over.
pub granted-stuck : (held ahead fs rs : List Row) → AreStuck held ahead fs → granted held ahead (fs ++ rs) ≡ granted held (ahead ++ fs) rs
granted-stuck held ahead [] rs s = rw append-nil refl
granted-stuck held ahead (f ∷ fs) rs s =
    rw s.0 (granted-stuck held (ahead ++ f ∷ []) fs rs s.1 ∙ ap (λ a. granted held a rs) (append_assoc ahead (f ∷ []) fs))

pub left-stuck : (held ahead fs rs : List Row) → AreStuck held ahead fs → left_waiting held ahead (fs ++ rs) ≡ left_waiting held (ahead ++ fs) rs
left-stuck held ahead [] rs s = rw append-nil refl
left-stuck held ahead (f ∷ fs) rs s =
    rw s.0 (left-stuck held (ahead ++ f ∷ []) fs rs s.1 ∙ ap (λ a. left_waiting held a rs) (append_assoc ahead (f ∷ []) fs))

-- If no waiting request is grantable, nothing is granted and nothing changes.
pub newly-stuck : (m : Locks) → AreStuck m.held [] m.waiting → newly_granted m ≡ []
unfolding newly_granted
newly-stuck m s = ap (λ ws. granted m.held [] ws) (sym (append-nil m.waiting)) ∙ granted-stuck m.held [] m.waiting [] s

left-all_stuck : (held ws : List Row) → AreStuck held [] ws → left_waiting held [] ws ≡ ws
left-all_stuck held ws s = ap (λ us. left_waiting held [] us) (sym (append-nil ws)) ∙ left-stuck held [] ws [] s

pub settle-stuck : (m : Locks) → AreStuck m.held [] m.waiting → settle m ≡ m
unfolding settle newly_granted
settle-stuck m s =
    let g : newly_granted m ≡ [] = newly-stuck m s in
    let w : left_waiting m.held [] m.waiting ≡ m.waiting = left-all_stuck m.held m.waiting s in
    rw (g, w, append-nil) refl

-- The first grantable request is granted first.
pub granted-first : (held front back : List Row) (r : Row) → AreStuck held [] front → is_grantable held front r ≡ true → granted held [] (front ++ r ∷ back) ≡ r ∷ granted (held ++ r ∷ []) [] (front ++ back)
granted-first held front back r s e =
    granted-stuck held [] front (r ∷ back) s ∙ (rw e (ap (λ gs. r ∷ gs) (sym (granted-stuck (held ++ r ∷ []) [] front back (stuck-later held (r ∷ []) [] front s)))))

pub left-first : (held front back : List Row) (r : Row) → AreStuck held [] front → is_grantable held front r ≡ true → left_waiting held [] (front ++ r ∷ back) ≡ left_waiting (held ++ r ∷ []) [] (front ++ back)
left-first held front back r s e =
    left-stuck held [] front (r ∷ back) s ∙ (rw e (sym (left-stuck (held ++ r ∷ []) [] front back (stuck-later held (r ∷ []) [] front s))))

-- The locks after the grant of the first grantable request.
abbrev after_grant : List Row → List Row → List Row → Row → Locks
after_grant held front back r = record { held = held ++ r ∷ []; waiting = front ++ back }

pub newly-first : (held front back : List Row) (r : Row) → AreStuck held [] front → is_grantable held front r ≡ true → newly_granted (record { held = held; waiting = front ++ r ∷ back }) ≡ r ∷ newly_granted (after_grant held front back r)
unfolding newly_granted
newly-first held front back r s e = granted-first held front back r s e

pub settle-first : (held front back : List Row) (r : Row) → AreStuck held [] front → is_grantable held front r ≡ true → settle (record { held = held; waiting = front ++ r ∷ back }) ≡ settle (after_grant held front back r)
unfolding settle newly_granted
settle-first held front back r s e =
    rw (granted-first held front back r s e, left-first held front back r s e, append_assoc held (r ∷ [])) refl

-- If nothing else is grantable, a new grantable request is granted alone.
pub newly-alone : (m : Locks) (r : Row) → AreStuck m.held [] m.waiting → is_grantable m.held m.waiting r ≡ true → newly_granted (queued r m) ≡ r ∷ []
unfolding queued
newly-alone m r s e =
    let more : AreStuck (m.held ++ r ∷ []) [] (m.waiting ++ []) = rw append-nil (stuck-later m.held (r ∷ []) [] m.waiting s) in
    newly-first m.held m.waiting [] r s e ∙ ap (λ rs. r ∷ rs) (newly-stuck (after_grant m.held m.waiting [] r) more)

pub settle-alone : (m : Locks) (r : Row) → AreStuck m.held [] m.waiting → is_grantable m.held m.waiting r ≡ true → settle (queued r m) ≡ probed r m
unfolding queued probed
settle-alone m r s e =
    let more : AreStuck (m.held ++ r ∷ []) [] (m.waiting ++ []) = rw append-nil (stuck-later m.held (r ∷ []) [] m.waiting s) in
    rw e (settle-first m.held m.waiting [] r s e ∙ settle-stuck (after_grant m.held m.waiting [] r) more ∙ ap (λ ws. record { held = m.held ++ r ∷ []; waiting = ws }) (append-nil m.waiting))
