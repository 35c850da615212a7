-- Frames of the broker and posts of tabs enter the bag.
use Rattle.std.proofs.Common.{◌≡◌, ◌⊎◌, inl, inr, ⊎_elim, ℕ, ◌<◌, true, List, length, Option, Some, None, sym, ◌∙◌, subst, arith, suc, le_refl}
use Rattle.wl_draft.specs.declared.row.Row.{Row}
use Rattle.wl_grammar.specs.declared.frame.Outcome.TheVariants.{Granted}
use Rattle.wl_grammar.specs.declared.frame.Answer.{Answer}
use Rattle.wl_grammar.specs.declared.frame.Upward.{Upward}
use Rattle.wl_grammar.specs.declared.frame.Downward.{Downward}
use Rattle.wl_grammar.specs.declared.frame.Downward.TheVariants as down
use Rattle.wl_broker.specs.Broker.{BrokerState, manager_of}
use Rattle.wl_world_messages.specs.declared.message.Message.{Message}
use Rattle.wl_world_messages.specs.declared.message.Message.TheVariants.{Up, Down, Across}
use Rattle.wl_world_messages.specs.Messages.{sent_all}
use Rattle.wl_draft.specs.Membership.{In}
use Rattle.wl_draft.proofs.Membership.{In-nil}
use Rattle.wl_world_messages.proofs.Same.{sent_all-keeps, sent_all-cases}
use Rattle.wl_world_model.specs.World.{WorldState, tab_of, partition_of}
use Rattle.wl_world_model.specs.Holdings.{IsHonest}
use Rattle.wl_world_model.proofs.exclusion.HeldAfterSettling.{Compatible-fewer}
use Rattle.wl_world_model.proofs.exclusion.Invariant.{Sound, Claim, Counts, stands, reported, carried, generation, broker_in, broker_of, limit_in, limit, came, was_opened, HasGrant, row_at, up_message, down_message}
use Rattle.wl_world_model.proofs.exclusion.UnchangedParts.{cause-kept}

-- A hello is of the current generation, of a broker that is up, and goes to an opened tab. A granted answer is of the
-- current generation and names a lock that the broker holds.
abbrev pub SaysDown : WorldState → ℕ → Downward → Type 0
SaysDown w t (down.Hello h) = (h.generation ≡ generation w) × (generation w < limit w) × (was_opened w t ≡ true)
SaysDown w t (down.Answer x) = x.outcome ≡ Granted → (x.generation ≡ generation w) × (p : ℕ) × (r : Row) × In r (manager_of (broker_of w) p).held × (r.client ≡ t) × (r.number ≡ x.number)
SaysDown w t (down.Snapshot x) = Unit {0}

abbrev pub Says : WorldState → Message → Type 0
Says w (Up s) = ⊥
Says w (Down v a) = SaysDown w a.tab a.inner
Says w (Across t x) = Unit {0}

-- If the broker holds a lock, a broker is up.
held-now : (g : ℕ) (v : Option BrokerState) (p : ℕ) (r : Row) → In r (manager_of (broker_in g v) p).held → g < limit_in g v
held-now g None p r i = absurd (In-nil i)
held-now g (Some b) p r i = le_refl (suc g)

module _ (w : WorldState) (s : Sound w) (ms : List Message) (says : (m : Message) → In m ms → Says w m) where
  abbrev said : WorldState
  said = record w { bag = sent_all ms w.bag }

  old-up : (u p : ℕ) (x : Upward) → In (up_message u p x) (sent_all ms w.bag) → In (up_message u p x) w.bag
  old-up u p x i = ⊎_elim (λ a. a) (λ b. absurd (says _ b)) (sent_all-cases ms w.bag i)

  -- The broker holds a lock that the tab has issued.
  abbrev IsTrueLock : ℕ → ℕ → Type 0
  IsTrueLock t k = (k < length (tab_of w t).issued) × ((tab_of w t).entered ≡ generation w) × In (row_at t (tab_of w t) k) (manager_of (broker_of w) (partition_of w t)).held

  -- The broker holds a lock of the tab, in the current generation.
  abbrev Standing : ℕ → ℕ → ℕ → Type 0
  Standing t g k = (g ≡ generation w) × (came (broker_of w) t ≡ true) × (IsHonest w t → IsTrueLock t k) × (generation w < limit w)

  standing-of : (t g k : ℕ) (x : Answer) → x.generation ≡ g → x.number ≡ k
      → (x.generation ≡ generation w) × (p : ℕ) × (r : Row) × In r (manager_of (broker_of w) p).held × (r.client ≡ t) × (r.number ≡ x.number) → Standing t g k
  standing-of t g k x eg ek o =
      let r = o.2 in
      let f = s.locks.known o.1 r (inl o.3) in
      let number : r.number ≡ k = o.5 ∙ ek in (
        sym eg ∙ o.0,
        subst (λ z. came (broker_of w) z ≡ true) o.4 f.2,
        subst (λ z. IsHonest w z → IsTrueLock z k) o.4 (λ h.
            let x = f.3 h in
            let i = subst (λ z. In z (manager_of (broker_of w) o.1).held) x.0.0 o.3 in
            let j = subst (λ z. In (row_at r.client (tab_of w r.client) r.number) (manager_of (broker_of w) z).held) (sym f.1) i in (
              subst (λ z. z < length (tab_of w r.client).issued) number x.0.1,
              x.1,
              subst (λ z. In (row_at r.client (tab_of w r.client) z) (manager_of (broker_of w) (partition_of w r.client)).held) number j,
            )),
        held-now w.kernel.generation w.broker o.1 r o.3,
      )

  -- A granted answer was in the bag before, or names such a lock.
  grant-cases : (t g k : ℕ) → HasGrant (sent_all ms w.bag) t g k → HasGrant w.bag t g k ⊎ Standing t g k
  grant-cases t g k h = ⊎_elim (λ a. inl (h.0, h.1, a, h.3, h.4, h.5)) (λ b. inr (standing-of t g k h.1 h.3 h.4 (says (down_message h.0 t (down.Answer h.1)) b h.5))) (sent_all-cases ms w.bag h.2)

  said-claim : (p : ℕ) (r : Row) → Claim said p r → Claim w p r
  said-claim p r (stands h) = stands h
  said-claim p r (reported c) = reported c
  said-claim p r (carried c) = carried (c.0, c.1, c.2, record { living = c.3.living; alive = c.3.alive; cause = ⊎_elim (λ a. inl a) (λ a. ⊎_elim (λ b. inr b) (λ b. absurd (c.1 b.0)) (grant-cases r.client _ r.number a)) c.3.cause })

  pub said-sound : Sound (record w { bag = sent_all ms w.bag })
  said-sound = record {
    positive = s.positive;
    current = s.current;
    tabs = s.tabs;
    messages = λ t. let f = s.messages t in record {
      held = λ k h. cause-kept w.bag (sent_all ms w.bag) (λ m i. sent_all-keeps ms w.bag i) t (tab_of w t) k (f.held k h);
      commands = λ p c i. f.commands p c (old-up t p _ i);
      reports = λ p u x e i. f.reports p u x e (old-up t p _ i);
      grants = λ g k h. ⊎_elim (λ a. f.grants g k a)
          (λ a. (
            subst (λ z. 0 < z) (sym a.0) s.positive,
            subst (λ z. z < limit w) (sym a.0) a.3,
            λ y. let x = a.2 y in ((let e : (tab_of w t).entered ≡ generation w = x.1 in let f : g ≡ generation w = a.0 in omega arith), x.0),
          ))
          (grant-cases t g k h);
      hellos = λ v h i. ⊎_elim (λ a. f.hellos v h a)
          (λ a. let o = says _ a in (subst (λ z. 0 < z) (sym o.0) s.positive, subst (λ z. z < limit w) (sym o.0) o.1, o.2, λ _. o.0))
          (sent_all-cases ms w.bag i);
    };
    seats = s.seats;
    locks = record {
      granted = λ t g k h e. ⊎_elim (λ a. s.locks.granted t g k a e) (λ a. a.1) (grant-cases t g k h);
      known = s.locks.known;
      covers = λ t k y c e j. ⊎_elim
          (λ a. s.locks.covers t k y (record { living = c.living; alive = c.alive; cause = inl a }) e j)
          (λ a. ⊎_elim (λ b. s.locks.covers t k y (record { living = c.living; alive = c.alive; cause = inr b }) e j) (λ b. (b.2 y).2) (grant-cases t _ k a))
          c.cause;
      agree = λ p. Compatible-fewer (Counts said p) (Counts w p) (λ r c. (c.0, said-claim p r c.1)) (s.locks.agree p);
    };
  }
