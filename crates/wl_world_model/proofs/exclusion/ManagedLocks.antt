-- Changes that the broker makes to the locks of one partition.
use Rattle.std.proofs.Common.{◌≡◌, ◌≢◌, ◌⊎◌, inl, inr, ⊎_elim, ℕ, ◌<◌, ◌≤◌, Bool, true, false, not, ◌||◌, refl, sym, ◌∙◌, subst, arith}
use Rattle.std.specs.Prelude.{◌==◌}
use Rattle.std.proofs.lemmas.Bool.{cases_eq, or_cases, eq-eqb, not-true}
use Rattle.wl_draft.specs.declared.row.Row.{Row}
use Rattle.wl_draft.specs.Tables.{Table, at, put}
use Rattle.wl_draft.specs.Locks.{Locks, no_locks, settle, settle_if, newly_granted_if, held_of}
use Rattle.wl_draft.proofs.TableLemmas.{at-put_same, at-put_other}
use Rattle.wl_broker.specs.Broker.{BrokerState, seat_of, has_arrived, manager_of, is_active, settled_at, newly_at}
use Rattle.wl_draft.specs.Membership.{In}
use Rattle.wl_draft.proofs.Membership.{apart, either, In-nil, list_all-In}
use Rattle.wl_world_model.specs.World.{WorldState, tab_of, lives, partition_of}
use Rattle.wl_world_model.proofs.AtBroker.{with_broker}
use Rattle.wl_world_model.specs.Holdings.{IsHonest}
use Rattle.wl_world_model.proofs.exclusion.HeldAfterSettling.{Compatible, Compatible-fewer, HeldOf, Stands, settle-Compatible, settle-keeps, settle-newly_granted, settle-stands}
use Rattle.wl_world_model.proofs.exclusion.Invariant.{Sound, Covered, Claim, Counts, stands, reported, carried, generation, came, opening, row_at, Fits}
use Rattle.wl_world_model.proofs.exclusion.UnchangedParts.{broker-step}
use Rattle.wl_world_model.proofs.exclusion.CoverExcludes.{came-entered}

-- The broker with the locks `m` in partition `p`.
abbrev pub managed : BrokerState → ℕ → Locks → BrokerState
managed b p m = record b { managers = put p m b.managers }

-- A property holds of every lock manager if it holds of the one replaced and of all others.
pub each_manager : (P : ℕ → Locks → Type 0) (p : ℕ) (m : Locks) (ms : Table Locks) → P p m → ((q : ℕ) → p ≢ q → P q (at no_locks ms q)) → (q : ℕ) → P q (at no_locks (put p m ms) q)
each_manager P p m ms now elsewhere q = ⊎_elim
    (λ e. subst (λ z. P z (at no_locks (put p m ms) z)) e (subst (P p) (sym (at-put_same no_locks p m ms)) now))
    (λ n. subst (P q) (sym (at-put_other no_locks p m ms q (λ e. n (sym e)))) (elsewhere q n))
    (cases_eq p q)

-- Changes that grant no lock: nothing is held that was not held before

module _ (w : WorldState) (b : BrokerState) (s : Sound (with_broker b w)) (p : ℕ) (m : Locks)
    (fewer : (r : Row) → In r m.held → In r (manager_of b p).held)
    (fits : (r : Row) → Stands r m → Fits (with_broker b w) p r)
    (kept : (t k : ℕ) → IsHonest w t → Covered (with_broker b w) t k → p ≡ partition_of w t → In (row_at t (tab_of w t) k) (manager_of b p).held → In (row_at t (tab_of w t) k) m.held) where
  lower-claim : (q : ℕ) (r : Row) → Claim (with_broker (managed b p m) w) q r → Claim (with_broker b w) q r
  lower-claim q r (stands h) = each_manager (λ x z. In r z.held → Claim (with_broker b w) x r) p m b.managers (λ i. stands (fewer r i)) (λ x n i. stands i) q h
  lower-claim q r (reported c) = reported c
  lower-claim q r (carried c) = carried c

  pub lower-sound : Sound (with_broker (managed b p m) w)
  lower-sound = broker-step w b (managed b p m) refl s s.seats (record {
    granted = s.locks.granted;
    known = λ q r. each_manager (λ x z. Stands r z → Fits (with_broker b w) x r) p m b.managers (fits r) (λ x n. s.locks.known x r) q;
    covers = λ t k h c e j.
        each_manager (λ x z. x ≡ partition_of w t → In (row_at t (tab_of w t) k) (manager_of b x).held → In (row_at t (tab_of w t) k) z.held) p m b.managers (kept t k h c) (λ x n _ i. i) (partition_of w t) refl (s.locks.covers t k h c e j);
    agree = λ q. Compatible-fewer (Counts (with_broker (managed b p m) w) q) (Counts (with_broker b w) q) (λ r c. (c.0, lower-claim q r c.1)) (s.locks.agree q);
  })

-- An active partition

-- Each listed tab of the partition has come.
abbrev pub AllCame : BrokerState → ℕ → Type 0
AllCame b p = (t : ℕ) → In (t, p) b.listed → came b t ≡ true

pub active-came : (b : BrokerState) (p : ℕ) → is_active b p ≡ true → AllCame b p
unfolding is_active
active-came b p a t i = ⊎_elim
    (λ n. apart (eq-eqb p p refl) (not-true _ n))
    (λ c. c)
    (or_cases _ _ (list_all-In (λ x. not (x.1 == p) || has_arrived (seat_of b x.0)) b.listed a i))

module _ (w : WorldState) (b : BrokerState) (s : Sound (with_broker b w)) (p : ℕ) (all : AllCame b p) where
  -- A tab of the partition that lives or has entered the generation has come, or is new.
  where-is : (t : ℕ) → partition_of w t ≡ p → (lives w t ≡ true) ⊎ ((tab_of w t).entered ≡ generation w) → (came b t ≡ true) ⊎ (opening w t ≡ generation w)
  where-is t q o = ⊎_elim
      (λ e. inr e)
      (λ n. inl (all t (subst (λ z. In (t, z) b.listed) q ((s.seats t).lists refl (let le : opening w t ≤ generation w = (s.tabs t).since in let d : opening w t ≢ generation w = n in omega arith) o))))
      (cases_eq (opening w t) (generation w))

  -- In an active partition, a claim of an honest tab is a lock that the broker holds.
  active-claim : (r : Row) → IsHonest w r.client → Claim (with_broker b w) p r → In r (manager_of b p).held
  active-claim r y (stands h) = h
  active-claim r y (reported c) = absurd (⊎_elim
      (λ d. apart d c.1)
      (λ o. ⊎_elim
      (λ z. let f : (tab_of w r.client).entered ≡ generation w = c.2 in let g : (tab_of w r.client).entered ≡ 0 = z in let h : 0 < generation w = s.positive in omega arith)
      (λ z. In-nil (subst (λ es. In r (held_of r.client es)) z.1 c.3))
      ((s.tabs r.client).newcomer o))
      (where-is r.client c.0 (inr c.2)))
  active-claim r y (carried c) = absurd (⊎_elim
      (λ a. ⊎_elim (λ e. c.1 e) (λ d. apart c.3.living d) (came-entered (with_broker b w) s r.client y a))
      (λ o. ⊎_elim
      (λ z. ⊎_elim
      (λ i. In-nil (subst (λ es. In (row_at r.client (tab_of w r.client) r.number) (held_of r.client es)) ((s.tabs r.client).state.first z) i))
      (λ i. let x = (s.messages r.client).grants _ r.number i in let lt : 0 < (tab_of w r.client).entered = x.0 in let g : (tab_of w r.client).entered ≡ 0 = z in omega arith)
      c.3.cause)
      (λ z. c.1 z.0)
      ((s.tabs r.client).newcomer o))
      (where-is r.client c.0 (inl c.3.living)))

-- Grants in an active partition

module _ (w : WorldState) (b : BrokerState) (p : ℕ) (m n : Locks) (s : Sound (with_broker (managed b p m) w)) (all : AllCame b p)
    (more : (r : Row) → In r m.held → In r n.held)
    (fits : (r : Row) → Stands r n → Fits (with_broker b w) p r)
    (well : Compatible (HeldOf (λ r. IsHonest w r.client) m.held) → Compatible (HeldOf (λ r. IsHonest w r.client) n.held)) where
  old-held : (r : Row) → In r (at no_locks (put p m b.managers) p).held → In r m.held
  old-held r i = subst (λ z. In r z.held) (at-put_same no_locks p m b.managers) i

  held-old : (r : Row) → In r m.held → In r (at no_locks (put p m b.managers) p).held
  held-old r i = subst (λ z. In r z.held) (sym (at-put_same no_locks p m b.managers)) i

  -- Other partitions have the same locks in both brokers.
  same-elsewhere : (q : ℕ) → p ≢ q → at no_locks (put p n b.managers) q ≡ at no_locks (put p m b.managers) q
  same-elsewhere q d = at-put_other no_locks p n b.managers q (λ e. d (sym e)) ∙ sym (at-put_other no_locks p m b.managers q (λ e. d (sym e)))

  other-claim : (q : ℕ) → p ≢ q → (r : Row) → Claim (with_broker (managed b p n) w) q r → Claim (with_broker (managed b p m) w) q r
  other-claim q d r (stands h) = stands (subst (λ z. In r z.held) (same-elsewhere q d) h)
  other-claim q d r (reported c) = reported c
  other-claim q d r (carried c) = carried c

  this-claim : (r : Row) → IsHonest w r.client → Claim (with_broker (managed b p n) w) p r → In r n.held
  this-claim r y (stands h) = subst (λ z. In r z.held) (at-put_same no_locks p n b.managers) h
  this-claim r y (reported c) = more r (old-held r (active-claim w (managed b p m) s p all r y (reported c)))
  this-claim r y (carried c) = more r (old-held r (active-claim w (managed b p m) s p all r y (carried c)))

  pub higher-sound : Sound (with_broker (managed b p n) w)
  higher-sound = broker-step w (managed b p m) (managed b p n) refl s s.seats (record {
    granted = s.locks.granted;
    known = λ q r. each_manager (λ x z. Stands r z → Fits (with_broker b w) x r) p n b.managers (fits r)
        (λ x d i. s.locks.known x r (subst (λ z. Stands r z) (sym (at-put_other no_locks p m b.managers x (λ e. d (sym e)))) i)) q;
    covers = λ t k h c e j.
        each_manager (λ x z. x ≡ partition_of w t → In (row_at t (tab_of w t) k) (at no_locks (put p m b.managers) x).held → In (row_at t (tab_of w t) k) z.held) p n b.managers
        (λ _ i. more _ (old-held _ i))
        (λ x d _ i. subst (λ z. In (row_at t (tab_of w t) k) z.held) (at-put_other no_locks p m b.managers x (λ f. d (sym f))) i)
        (partition_of w t) refl (s.locks.covers t k h c e j);
    agree = λ q. ⊎_elim
        (λ e. subst (λ z. Compatible (Counts (with_broker (managed b p n) w) z)) e
        (Compatible-fewer (Counts (with_broker (managed b p n) w) p) (HeldOf (λ r. IsHonest w r.client) n.held) (λ r c. (c.0, this-claim r c.0 c.1))
        (well (Compatible-fewer (HeldOf (λ r. IsHonest w r.client) m.held) (Counts (with_broker (managed b p m) w) p) (λ x i. (i.0, stands (held-old x i.1))) (s.locks.agree p)))))
        (λ d. Compatible-fewer (Counts (with_broker (managed b p n) w) q) (Counts (with_broker (managed b p m) w) q) (λ r c. (c.0, other-claim q d r c.1)) (s.locks.agree q))
        (cases_eq p q);
  })

-- A world stays sound when a partition settles if it is active.
pub settled-sound : (w : WorldState) (b : BrokerState) (p : ℕ) (m : Locks) → Sound (with_broker (managed b p m) w) → Sound (with_broker (settled_at b p m) w)
unfolding settled_at
settled-sound w b p m s =
    either (λ z. Sound (with_broker (managed b p z) w)) (is_active b p) (settle m) m
    (λ a. higher-sound w b p m (settle m) s (active-came b p a) (λ r i. settle-keeps m i) (λ r i. s.locks.known p r (subst (λ z. Stands r z) (sym (at-put_same no_locks p m b.managers)) (settle-stands m i))) (settle-Compatible (λ r. IsHonest w r.client) m))
    (λ _. s)

-- Each lock that settling newly grants is among the held locks.
chosen-held : (c : Bool) (p : ℕ) (m : Locks) (ms : Table Locks) (r : Row) → In r (newly_granted_if c m) → In r (at no_locks (put p (settle_if c m) ms) p).held
chosen-held true p m ms r i = subst (λ z. In r z.held) (sym (at-put_same no_locks p (settle m) ms)) (settle-newly_granted m i)
chosen-held false p m ms r i = absurd (In-nil i)

pub newly-held : (b : BrokerState) (p : ℕ) (m : Locks) (r : Row) → In r (newly_at b p m) → In r (manager_of (settled_at b p m) p).held
unfolding settled_at newly_at
newly-held b p m r i = chosen-held (is_active b p) p m b.managers r i
