-- Effects of settling and of the draft's commands on held locks.
use Rattle.std.proofs.Common.{◌≡◌, ◌≢◌, ◌⊎◌, inl, inr, ⊎_elim, ℕ, true, false, not, ◌&&◌, List, [], ◌∷◌, ◌++◌, refl, sym, ap, ◌∙◌, subst, append_assoc, append-nil}
use Rattle.std.specs.Prelude.{◌==◌, bytes_eq}
use Rattle.std.proofs.lemmas.Bool.{and_parts, eqb-true, not-true, not_from_false, and_cases, false_from_ne_true}
use Rattle.std.proofs.lemmas.Slice.Eq.{bytes_eq-Decides}
use Rattle.wl_draft.specs.declared.mode.Mode.{Mode}
use Rattle.wl_draft.specs.declared.mode.Mode.TheVariants.{Shared, Exclusive}
use Rattle.wl_draft.specs.declared.row.Row.{Row}
use Rattle.wl_draft.specs.Locks.{Locks, conflict, is_free, is_grantable, granted, left_waiting, newly_granted, settle, is_pair, has_pair, without, without_client}
use Rattle.wl_draft.specs.Membership.{In, Later}
use Rattle.wl_draft.proofs.Settled.{grantable_parts}
use Rattle.wl_draft.proofs.Membership.{apart, either, In-nil, In-cons_cases, In-head, In-append_left, In-append_right, In-append_cases, In-one, In-filter, In-filter_cases, list_any-In, list_all-In}

-- The rows have different clients or different numbers.
abbrev pub Unlike : Row → Row → Type 0
Unlike r q = (r.client ≡ q.client) × (r.number ≡ q.number) → ⊥

-- Any two different rows of one name are shared.
abbrev pub Compatible : (Row → Type 0) → Type 0
Compatible S = (r q : Row) → S r → S q → Unlike r q → r.name ≡ q.name → r.mode ≡ Shared

pub Compatible-fewer : (R S : Row → Type 0) → ((r : Row) → R r → S r) → Compatible S → Compatible R
Compatible-fewer R S f c r q x y u n = c r q (f r x) (f q y) u n

-- Settling

conflict-false : (m k : Mode) → conflict m k ≡ false → (m ≡ Shared) × (k ≡ Shared)
conflict-false Shared Shared e = (refl, refl)
conflict-false Shared Exclusive e = apart refl e
conflict-false Exclusive k e = apart refl e

pub is_free-at : (name : List ℕ) (mode : Mode) {q : Row} (rows : List Row) → is_free name mode rows ≡ true → In q rows → q.name ≡ name → (q.mode ≡ Shared) × (mode ≡ Shared)
is_free-at name mode {q = q} rows free i same =
    let clear = not-true (bytes_eq q.name name && conflict q.mode mode) (list_all-In (λ r. not (bytes_eq r.name name && conflict r.mode mode)) rows free i) in
    conflict-false q.mode mode (⊎_elim (λ n. apart ((bytes_eq-Decides q.name name).1 same) n) (λ c. c) (and_cases _ _ clear))

-- The held rows with property `H`.
abbrev pub HeldOf : (Row → Type 0) → List Row → Row → Type 0
HeldOf H held x = H x × In x held

pub Compatible-push : (H : Row → Type 0) (held : List Row) (r : Row) → is_free r.name r.mode held ≡ true → Compatible (HeldOf H held) → Compatible (HeldOf H (held ++ r ∷ []))
Compatible-push H held r free c x y hx hy d n = go (In-append_cases held (r ∷ []) hx.1) (In-append_cases held (r ∷ []) hy.1)
  where
    go : In x held ⊎ In x (r ∷ []) → In y held ⊎ In y (r ∷ []) → x.mode ≡ Shared
    go (inl a) (inl b) = c x y (hx.0, a) (hy.0, b) d n
    go (inl a) (inr b) = (is_free-at r.name r.mode held free a (n ∙ ap (λ z. z.name) (In-one b))).0
    go (inr a) (inl b) = ap (λ z. z.mode) (In-one a) ∙ (is_free-at r.name r.mode held free b (sym n ∙ ap (λ z. z.name) (In-one a))).1
    go (inr a) (inr b) = absurd (d (ap (λ z. z.client) (In-one a ∙ sym (In-one b)), ap (λ z. z.number) (In-one a ∙ sym (In-one b))))

granted-Compatible : (H : Row → Type 0) (held ahead rows : List Row) → Compatible (HeldOf H held) → Compatible (HeldOf H (held ++ granted held ahead rows))
granted-Compatible H held ahead [] c = subst (λ zs. Compatible (HeldOf H zs)) (sym (append-nil held)) c
granted-Compatible H held ahead (r ∷ rs) c =
    either (λ zs. Compatible (HeldOf H (held ++ zs))) (is_grantable held ahead r) (r ∷ granted (held ++ r ∷ []) ahead rs) (granted held (ahead ++ r ∷ []) rs)
    (λ g. subst (λ zs. Compatible (HeldOf H zs)) (append_assoc held (r ∷ []) (granted (held ++ r ∷ []) ahead rs)) (granted-Compatible H (held ++ r ∷ []) ahead rs (Compatible-push H held r (grantable_parts held ahead r g).1 c)))
    (λ g. granted-Compatible H held (ahead ++ r ∷ []) rs c)

granted-waited : {x : Row} (held ahead rows : List Row) → In x (granted held ahead rows) → In x rows
granted-waited held ahead [] h = h
granted-waited {x = x} held ahead (r ∷ rs) h =
    either (λ zs. In x zs → In x (r ∷ rs)) (is_grantable held ahead r) (r ∷ granted (held ++ r ∷ []) ahead rs) (granted held (ahead ++ r ∷ []) rs)
    (λ g i. ⊎_elim (λ s. In-head s) (λ k. Later (granted-waited (held ++ r ∷ []) ahead rs k)) (In-cons_cases i))
    (λ g i. Later (granted-waited held (ahead ++ r ∷ []) rs i))
    h

pub left_waiting-waited : {x : Row} (held ahead rows : List Row) → In x (left_waiting held ahead rows) → In x ahead ⊎ In x rows
left_waiting-waited held ahead [] h = inl h
left_waiting-waited {x = x} held ahead (r ∷ rs) h =
    either (λ zs. In x zs → In x ahead ⊎ In x (r ∷ rs)) (is_grantable held ahead r) (left_waiting (held ++ r ∷ []) ahead rs) (left_waiting held (ahead ++ r ∷ []) rs)
    (λ g i. ⊎_elim (λ a. inl a) (λ b. inr (Later b)) (left_waiting-waited (held ++ r ∷ []) ahead rs i))
    (λ g i. ⊎_elim (λ a. ⊎_elim (λ u. inl u) (λ v. inr (In-head (In-one v))) (In-append_cases ahead (r ∷ []) a)) (λ b. inr (Later b)) (left_waiting-waited held (ahead ++ r ∷ []) rs i))
    h

pub settle-Compatible : (H : Row → Type 0) (m : Locks) → Compatible (HeldOf H m.held) → Compatible (HeldOf H (settle m).held)
unfolding settle newly_granted
settle-Compatible H m c = granted-Compatible H m.held [] m.waiting c

pub settle-keeps : {x : Row} (m : Locks) → In x m.held → In x (settle m).held
unfolding settle
settle-keeps m h = In-append_left (newly_granted m) h

pub settle-newly_granted : {x : Row} (m : Locks) → In x (newly_granted m) → In x (settle m).held
unfolding settle
settle-newly_granted m h = In-append_right m.held h

pub newly-waited : {x : Row} (m : Locks) → In x (newly_granted m) → In x m.waiting
unfolding newly_granted
newly-waited m h = granted-waited m.held [] m.waiting h

-- The row is held or waiting.
abbrev pub Stands : Row → Locks → Type 0
Stands r m = In r m.held ⊎ In r m.waiting

pub settle-stands : {x : Row} (m : Locks) → Stands x (settle m) → Stands x m
unfolding settle
settle-stands m (inl h) = ⊎_elim (λ a. inl a) (λ b. inr (newly-waited m b)) (In-append_cases m.held (newly_granted m) h)
settle-stands m (inr h) = ⊎_elim (λ a. absurd (In-nil a)) (λ b. inr b) (left_waiting-waited m.held [] m.waiting h)

-- Removing rows

pub without-fewer : {x : Row} (t k : ℕ) (rows : List Row) → In x (without t k rows) → In x rows
without-fewer t k rows h = (In-filter_cases (λ r. not (is_pair t k r)) rows h).0

is_pair-true : (t k : ℕ) (r : Row) → is_pair t k r ≡ true → (r.client ≡ t) × (r.number ≡ k)
is_pair-true t k r h = (eqb-true r.client t (and_parts _ _ h).0, eqb-true r.number k (and_parts _ _ h).1)

pub without-keeps : {x : Row} (t k : ℕ) (rows : List Row) → In x rows → ((x.client ≡ t) × (x.number ≡ k) → ⊥) → In x (without t k rows)
without-keeps {x = x} t k rows h n =
    In-filter (λ r. not (is_pair t k r)) rows h (not_from_false _ (false_from_ne_true _ (λ e. n (is_pair-true t k x e))))

pub without_client-fewer : {x : Row} (t : ℕ) (rows : List Row) → In x (without_client t rows) → In x rows
without_client-fewer t rows h = (In-filter_cases (λ r. not (r.client == t)) rows h).0

pub without_client-keeps : {x : Row} (t : ℕ) (rows : List Row) → In x rows → x.client ≢ t → In x (without_client t rows)
without_client-keeps {x = x} t rows h n =
    In-filter (λ r. not (r.client == t)) rows h (not_from_false _ (false_from_ne_true _ (λ e. n (eqb-true x.client t e))))

-- If a pair of client and number is in a list, some row of the list has it.
pub has_pair-true : (t k : ℕ) (rows : List Row) → has_pair t k rows ≡ true → (r : Row) × In r rows × (r.client ≡ t) × (r.number ≡ k)
has_pair-true t k rows h =
    let o = list_any-In (is_pair t k) rows h in
    let p = is_pair-true t k o.0 o.2 in
    (o.0, o.1, p.0, p.1)
