-- Openings and deaths of tabs.
use Rattle.std.proofs.Common.{◌≡◌, ◌⊎◌, inl, inr, ⊎_elim, ℕ, ◌<◌, ◌≤◌, Bool, true, false, cond, not, List, length, map, Some, None, is_some, refl, sym, ap, ◌∙◌, subst, arith, le_refl}
use Rattle.std.specs.Prelude.{◌==◌, nat_le, ◌||◌}
use Rattle.std.proofs.lemmas.Bool.{cases_Bool, or_parts, not-true}
use Rattle.wl_origin.specs.Order.{Pair}
use Rattle.wl_draft.specs.declared.row.Row.{Row}
use Rattle.wl_broker.specs.Broker.{seat_of, manager_of, partial_of}
use Rattle.wl_broadcast.specs.Channels.{no_channels}
use Rattle.wl_draft.specs.Tables.{put}
use Rattle.wl_agent.specs.Tab.{TabState, born, status_of, reserves_number}
use Rattle.wl_kernel.specs.declared.fault.OpenFault.TheVariants.{NumberTaken, TooManyLiving, PartitionFull}
use Rattle.wl_kernel.specs.Kernel.{KernelState, OpenedTab, tab_in, is_opened, number_beside, open_refusal, opened, ended, killed, lives as lives_in, living_tabs, living_of, living_limit, partition_limit}
use Rattle.wl_draft.specs.Membership.{In}
use Rattle.wl_draft.proofs.Membership.{apart, either, In-nil}
use Rattle.wl_limits.specs.declared.tabs.TheConstants.{COMMAND_LIMIT}
use Rattle.wl_world_model.specs.World.{WorldState, tab_of, lives, partition_of, with_rows, opens_as, kills, with_kernel}
use Rattle.wl_world_model.specs.Holdings.{IsHonest}
use Rattle.wl_world_model.proofs.exclusion.HeldAfterSettling.{Compatible-fewer}
use Rattle.wl_world_model.proofs.exclusion.Invariant.{Sound, TabPart, MessagePart, SeatPart, Covered, Claim, Counts, stands, reported, carried, generation, broker_of, came, was_opened, IsBorn, SoundTab, opening_in, opening, Alive, Cause, row_at}
use Rattle.wl_world_model.proofs.exclusion.GrownTabs.{GrownTab, same-tab, grown-sound}
use Rattle.wl_world_model.proofs.exclusion.ActsWithinAGeneration.{after, allowed-sound, each_tab, Grows-same}
use Rattle.wl_world_model.proofs.exclusion.MessagesHeard.{channel-sound}
use Rattle.wl_world_model.proofs.exclusion.OpenedTabs.{each_opened, ended-opening, ended-opened, ended-lives, ended-number}

-- A tab dies

module _ (w : WorldState) (s : Sound w) (os : List OpenedTab)
    (opening-same : (u : ℕ) → opening_in (tab_in os u) ≡ opening w u)
    (opened-same : (u : ℕ) → is_some (tab_in os u) ≡ was_opened w u)
    (number-same : (u : ℕ) → number_beside os (tab_in os u) ≡ partition_of w u)
    (lived : (u : ℕ) → lives_in (tab_in os u) ≡ true → lives w u ≡ true) where
  abbrev fewer_world : WorldState
  fewer_world = record w { kernel = record w.kernel { opened = os } }

  fewer-covered : (t k : ℕ) → Covered fewer_world t k → Covered w t k
  fewer-covered t k c = record { living = lived t c.living; alive = c.alive; cause = c.cause }

  -- A claim after the death was a claim before.
  fewer-claim : (p : ℕ) (r : Row) → Claim fewer_world p r → Claim w p r
  fewer-claim p r (stands h) = stands h
  fewer-claim p r (reported c) = reported (sym (number-same r.client) ∙ c.0, c.1, c.2, c.3)
  fewer-claim p r (carried c) = carried (sym (number-same r.client) ∙ c.0, c.1, c.2, fewer-covered r.client r.number c.3)

  fewer-sound : Sound (record w { kernel = record w.kernel { opened = os } })
  fewer-sound = record {
    positive = s.positive;
    current = s.current;
    tabs = λ t. let m = s.tabs t in record {
      state = m.state;
      entered = m.entered;
      unopened = λ e. m.unopened (sym (opened-same t) ∙ e);
      since = subst (λ z. z ≤ generation w) (sym (opening-same t)) m.since;
      newcomer = λ e. m.newcomer (sym (opening-same t) ∙ e);
    };
    messages = λ t. let m = s.messages t in record {
      held = m.held;
      commands = λ p c i. let o = m.commands p c i in (opened-same t ∙ o.0, o.1 ∙ sym (number-same t), o.2);
      reports = λ p u x e i. let o = m.reports p u x e i in (opened-same t ∙ o.0, o.1 ∙ sym (number-same t), o.2);
      grants = m.grants;
      hellos = λ v h i. let o = m.hellos v h i in (o.0, o.1, opened-same t ∙ o.2, λ e. o.3 (sym (opening-same t) ∙ e));
    };
    seats = λ t. let m = s.seats t in record {
      partial = λ k e. let o = m.partial k e in (opened-same t ∙ o.0, o.1);
      joined = m.joined;
      named = λ d. let o = m.named d in (⊎_elim (λ a. apart (lived t a) o.0) (λ a. a) (cases_Bool (lives_in (tab_in os t))), opened-same t ∙ o.1);
      lists = λ up lt o. subst (λ q. In (t, q) (broker_of w).listed) (sym (number-same t)) (m.lists up (subst (λ z. z < generation w) (opening-same t) lt) (⊎_elim (λ a. inl (lived t a)) (λ a. inr a) o));
    };
    locks = record {
      granted = s.locks.granted;
      known = λ p r i. let o = s.locks.known p r i in (opened-same r.client ∙ o.0, number-same r.client ∙ o.1, o.2, o.3);
      covers = λ t k y c e j. subst (λ q. In (row_at t (tab_of w t) k) (manager_of (broker_of w) q).held) (sym (number-same t)) (s.locks.covers t k y (fewer-covered t k c) e j);
      agree = λ p. Compatible-fewer (Counts fewer_world p) (Counts w p) (λ r c. (c.0, fewer-claim p r c.1)) (s.locks.agree p);
    };
  }

pub kills-sound : (w : WorldState) (t : ℕ) → Sound w → Sound (after w (kills w t))
kills-sound w t s =
    allowed-sound w (lives w t) (with_kernel (killed t w.kernel) w) s
    (λ _. fewer-sound w s (map (ended t) w.kernel.opened) (ended-opening t w.kernel.opened) (ended-opened t w.kernel.opened) (ended-number t w.kernel.opened) (ended-lives t w.kernel.opened))

-- A tab is opened

newborn-dead : (w : WorldState) (t k : ℕ) → IsBorn t (tab_of w t) → Alive (status_of (tab_of w t) k) → ⊥
newborn-dead w t k e a = apart (ap (λ z. reserves_number (status_of z k)) (sym e.1) ∙ a) refl

module _ (w : WorldState) (s : Sound w) (t : ℕ) (p : Pair) (unopened : was_opened w t ≡ false) where
  abbrev opened_world : WorldState
  opened_world = record w { kernel = opened t p w.kernel }

  nothing_yet : IsBorn t (tab_of w t)
  nothing_yet = (s.tabs t).unopened unopened

  not_entered : (tab_of w t).entered ≡ 0
  not_entered = ap (λ z. z.entered) nothing_yet.1

  none_issued : length (tab_of w t).issued ≡ 0
  none_issued = ap (λ z. length z.issued) nothing_yet.1

  -- The tab to be opened has not entered the broker's generation.
  not_current : (tab_of w t).entered ≡ generation w → ⊥
  not_current n = let a : 0 < generation w = s.positive in let z : (tab_of w t).entered ≡ 0 = not_entered in let m : (tab_of w t).entered ≡ generation w = n in omega arith

  none-issued_at : (k : ℕ) → k < length (tab_of w t).issued → ⊥
  none-issued_at k lt = let z : length (tab_of w t).issued ≡ 0 = none_issued in omega arith

  opened-claim : (q : ℕ) (r : Row) → Claim opened_world q r → Claim w q r
  opened-claim q r (stands h) = stands h
  opened-claim q r (reported c) =
      each_opened (λ u o m. r.client ≡ u → m ≡ q → (tab_of w u).entered ≡ generation w → Claim w q r) w.kernel t p unopened
      (λ m _ _ n'. absurd (not_current n'))
      (λ u _ b e' _. reported (ap (partition_of w) b ∙ e', c.1, c.2, c.3))
      r.client refl c.0 c.2
  opened-claim q r (carried c) =
      each_opened (λ u o m. r.client ≡ u → m ≡ q → lives_in o ≡ true → Alive (status_of (tab_of w u) r.number) → Claim w q r) w.kernel t p unopened
      (λ m _ _ _ a. absurd (newborn-dead w t r.number nothing_yet a))
      (λ u _ b e' l _. carried (ap (partition_of w) b ∙ e', c.1, c.2, record { living = ap (lives w) b ∙ l; alive = c.3.alive; cause = c.3.cause }))
      r.client refl c.0 c.3.living c.3.alive

  opened-sound : Sound (record w { kernel = opened t p w.kernel })
  opened-sound = record {
    positive = s.positive;
    current = s.current;
    tabs = each_opened (λ u o q. TabPart w u (tab_of w u) o) w.kernel t p unopened
        (λ _. let m = s.tabs t in record { state = m.state; entered = m.entered; unopened = λ _. nothing_yet; since = le_refl (generation w); newcomer = λ _. inl not_entered })
        (λ u n. s.tabs u);
    messages = each_opened (λ u o q. MessagePart w u (tab_of w u) o q) w.kernel t p unopened
        (λ _. let m = s.messages t in record {
          held = m.held;
          commands = λ n c i. apart (m.commands n c i).0 unopened;
          reports = λ n y x e i. apart (m.reports n y x e i).0 unopened;
          grants = m.grants;
          hellos = λ v h i. apart (m.hellos v h i).2 unopened;
        })
        (λ u n. s.messages u);
    seats = each_opened (λ u o q. SeatPart w u (tab_of w u) o q (seat_of (broker_of w) u) (partial_of (broker_of w) u)) w.kernel t p unopened
        (λ _. let m = s.seats t in record {
          partial = λ k e. apart (m.partial k e).0 unopened;
          joined = m.joined;
          named = λ d. apart (m.named d).1 unopened;
          lists = λ up lt _. absurd (omega arith);
        })
        (λ u n. s.seats u);
    locks = record {
      granted = s.locks.granted;
      known = λ q r i.
          let o = s.locks.known q r i in
          let h = each_opened (λ u x m. was_opened w u ≡ true → partition_of w u ≡ q → (is_some x ≡ true) × (m ≡ q)) w.kernel t p unopened
          (λ _ e _. apart e unopened)
          (λ u n e f. (e, f)) r.client o.0 o.1 in
          (h.0, h.1, o.2, o.3);
      covers = λ u k y c. each_opened (λ x o m. IsHonest w x → lives_in o ≡ true → Alive (status_of (tab_of w x) k) → Cause w x k → (tab_of w x).entered ≡ generation w → came (broker_of w) x ≡ true → In (row_at x (tab_of w x) k) (manager_of (broker_of w) m).held) w.kernel t p unopened
          (λ _ _ _ a. absurd (newborn-dead w t k nothing_yet a))
          (λ x n h l a z. s.locks.covers x k h (record { living = l; alive = a; cause = z })) u y c.living c.alive c.cause;
      agree = λ q. Compatible-fewer (Counts opened_world q) (Counts w q) (λ r c. (c.0, opened-claim q r c.1)) (s.locks.agree q);
    };
  }

-- The kernel refuses a number that was opened before.
pub not_opened : (k : KernelState) (t : ℕ) (p : Pair) → is_some (open_refusal t p k) ≡ false → is_opened k t ≡ false
not_opened k t p =
    either (λ z. is_some z ≡ false → is_opened k t ≡ false) (t == 0 || is_opened k t) (Some NumberTaken)
    (cond (nat_le living_limit (length (living_tabs k))) (Some TooManyLiving) (cond (nat_le partition_limit (length (living_of k p))) (Some PartitionFull) None))
    (λ _ e. apart refl e)
    (λ n _. (or_parts _ _ n).1)

-- Rows of the new tab

pub born-sound : (t : ℕ) (x : TabState) → IsBorn t x → SoundTab t x
born-sound t x e = subst (SoundTab t) (sym e.1) (record {
  issued = λ k a. apart a refl;
  lock = λ k a. apart a refl;
  unended = λ k a i. ⊎_elim (λ b. In-nil b) (λ b. In-nil b) i;
  ends = λ k i. absurd (⊎_elim (λ b. In-nil b) (λ b. In-nil b) i);
  told = λ r i. absurd (⊎_elim (λ b. In-nil b) (λ b. In-nil b) i);
  first = λ _. refl;
  own = refl;
  rises = tt;
})

-- A world stays sound with the row of a new tab of either kind, since no fact depends on the kind of an unopened tab.
rows-sound : (i : Bool) (w : WorldState) (t : ℕ) → Sound w → was_opened w t ≡ false → Sound (with_rows i t w)
rows-sound i w t s un =
    let y = born i t COMMAND_LIMIT in
    let ts = put t y w.tabs in
    let o = ((s.tabs t).unopened un).1 in
    let grown : GrownTab w t y = record {
      entered = sym (ap (λ z. z.entered) o);
      report = sym (ap (λ z. z.report) o);
      in_parts = λ e. apart e un;
      more = Grows-same _ _ (sym (ap (λ z. z.issued) o));
      sound = born-sound t y (i, refl);
      unopened = λ _. (i, refl);
      alive = λ k a. apart a refl;
      held = λ k a. apart a refl;
    } in
    channel-sound (record w { tabs = ts }) (grown-sound w s ts w.bag (each_tab (GrownTab w) t y w.tabs grown (λ u n. same-tab w s u)) (λ m i. i) (λ m i. inl i)) (put t (no_channels t) w.channels)

pub opens-sound : (i : Bool) (w : WorldState) (t : ℕ) (p : Pair) → Sound w → Sound (after w (opens_as i w t p))
opens-sound i w t p s =
    allowed-sound w (not (is_some (open_refusal t p w.kernel))) (with_kernel (opened t p w.kernel) (with_rows i t w)) s
    (λ n. let un = not_opened w.kernel t p (not-true _ n) in opened-sound (with_rows i t w) (rows-sound i w t s un) t p un)
