-- Exclusion from soundness: every lock held is covered, so it is claimed, and claims are compatible.
use Rattle.std.proofs.Common.{◌≡◌, ◌⊎◌, inl, inr, ⊎_elim, ℕ, List, true, false, ◌||◌, Option, Some, None, is_some, refl, sym, ap, subst}
use Rattle.std.proofs.Math.Bool.{or-true}
use Rattle.std.proofs.lemmas.Bool.{cases_eq, cases_Bool, or_cases, or_left}
use Rattle.wl_origin.specs.Order.{Pair}
use Rattle.wl_agent.specs.Tab.{status_of, is_held, is_asked}
use Rattle.wl_agent.specs.declared.status.Status.{Status}
use Rattle.wl_kernel.specs.Kernel.{OpenedTab, number_or, number_beside, lives as lives_in}
use Rattle.wl_kernel.specs.Kernel.{tab_of as opened_tab}
use Rattle.wl_draft.proofs.Membership.{apart}
use Rattle.wl_world_model.specs.World.{WorldState, tab_of, lives, partition_of}
use Rattle.wl_world_model.specs.Holdings.{IsHonest, IsHolding, Exclusion, partition_in}
use Rattle.wl_world_model.proofs.exclusion.Invariant.{Sound, Covered, Claim, stands, reported, carried, generation, broker_of, came, row_at, Alive}

-- A living tab was opened.
pub living_opened : (o : Option OpenedTab) → lives_in o ≡ true → is_some o ≡ true
living_opened None e = apart e refl
living_opened (Some o) e = refl

-- An honest living tab that has come has entered the broker's generation.
pub came-entered : (w : WorldState) → Sound w → (t : ℕ) → IsHonest w t → came (broker_of w) t ≡ true → ((tab_of w t).entered ≡ generation w) ⊎ (lives w t ≡ false)
came-entered w s t h c = ⊎_elim (λ j. inl ((s.seats t).joined h j)) (λ d. inr ((s.seats t).named d).0) (or_cases _ _ c)

pub held_alive : (s : Option Status) → is_held s ≡ true → Alive s
held_alive s e = subst (λ b. (is_asked s || b) ≡ true) (sym e) (or-true (is_asked s))

pub asked_alive : (s : Option Status) → is_asked s ≡ true → Alive s
asked_alive s e = or_left (is_asked s) (is_held s) e

pub claim_of : (w : WorldState) → Sound w → (t k : ℕ) → IsHonest w t → Covered w t k → Claim w (partition_of w t) (row_at t (tab_of w t) k)
claim_of w s t k h c = ⊎_elim here_now (λ n. carried (refl, n, refl, c)) (cases_eq (tab_of w t).entered (generation w))
  where
    here_now : (tab_of w t).entered ≡ generation w → Claim w (partition_of w t) (row_at t (tab_of w t) k)
    here_now e = ⊎_elim
        (λ j. stands (s.locks.covers t k h c e j))
        (λ j. ⊎_elim (λ r. reported (refl, j, e, r)) (λ g. apart (s.locks.granted t (tab_of w t).entered k g e) j) c.cause)
        (cases_Bool (came (broker_of w) t))

holding-covered : (w : WorldState) → Sound w → (t k : ℕ) → IsHolding w t k → Covered w t k
holding-covered w s t k h =
    let held : is_held (status_of (tab_of w t) k) ≡ true = ap is_held h.1 in
    record { living = h.0; alive = held_alive _ held; cause = (s.messages t).held k held }

-- Tabs of one partition have the same partition number.
number-same : (os : List OpenedTab) (x y : Option OpenedTab) → partition_in x ≡ partition_in y → number_beside os x ≡ number_beside os y
number-same os None None e = refl
number-same os (Some o) None e = cc
number-same os None (Some o) e = cc
number-same os (Some o) (Some q) e = ap (λ p. number_or 0 os p) (some_same o.partition q.partition e)
  where
    some_same : (p q : Pair) → Some p ≡ Some q → p ≡ q
    some_same p q e = cc

pub Sound-exclusion : (w : WorldState) → Sound w → Exclusion w
Sound-exclusion w s t k u j nt nu ht hu d o n =
    let p = number-same w.kernel.opened (opened_tab w.kernel t) (opened_tab w.kernel u) o in
    let a = claim_of w s t k nt (holding-covered w s t k ht) in
    let b = subst (λ q. Claim w q (row_at u (tab_of w u) j)) (sym p) (claim_of w s u j nu (holding-covered w s u j hu)) in (
      s.locks.agree (partition_of w t) (row_at t (tab_of w t) k) (row_at u (tab_of w u) j) (nt, a) (nu, b) d n,
      s.locks.agree (partition_of w t) (row_at u (tab_of w u) j) (row_at t (tab_of w t) k) (nu, b) (nt, a) (λ e. d (sym e.0, sym e.1)) (sym n),
    )
