-- A tab that stays in its generation. It may issue commands, take answers and send again.
use Rattle.std.proofs.Common.{ap₂, ◌≡◌, ◌⊎◌, inl, inr, ⊎_elim, ℕ, ◌<◌, ◌≤◌, true, false, List, length, get_or, Some, None, refl, sym, ap, ◌∙◌, subst, arith, lt_of_lt_of_le, le_refl}
use Rattle.wl_draft.specs.declared.row.Row.{Row}
use Rattle.wl_draft.specs.Tables.{Table, find}
use Rattle.wl_draft.specs.Locks.{held_of}
use Rattle.wl_grammar.specs.declared.frame.Operation.{Operation}
use Rattle.wl_grammar.specs.declared.frame.Operation.TheVariants.{Query}
use Rattle.wl_grammar.specs.declared.frame.Command.{Command}
use Rattle.wl_grammar.specs.declared.frame.Upward.{Upward}
use Rattle.wl_grammar.specs.declared.frame.Upward.TheVariants as up
use Rattle.wl_broker_reports.specs.ReportParts.{Partial, Told, content_of}
use Rattle.wl_grammar.specs.Generation.{generation_of}
use Rattle.wl_broker.specs.Broker.{manager_of}
use Rattle.wl_agent.specs.Tab.{TabState, report_bodies, status_of, operation_of, is_held}
use Rattle.wl_world_messages.specs.declared.message.Message.{Message}
use Rattle.wl_world_messages.specs.declared.message.Message.TheVariants.{Up, Down, Across}
use Rattle.wl_draft.specs.Membership.{In}
use Rattle.wl_tab.specs.Tabs.{tab_in}
use Rattle.wl_world_model.specs.World.{WorldState, tab_of, partition_of}
use Rattle.wl_world_model.specs.Holdings.{IsHonest}
use Rattle.wl_world_model.proofs.exclusion.HeldAfterSettling.{Compatible-fewer}
use Rattle.wl_world_model.proofs.exclusion.ToldParts.{HasParts, body-told, no-command}
use Rattle.wl_world_model.proofs.exclusion.Invariant.{Sound, SoundTab, Covered, Claim, Counts, stands, reported, carried, generation, broker_of, limit, was_opened, IsBorn, IsSaid, KeepsOf, Alive, HasGrant, Cause, IsKnown, lock, row_at, up_message}

-- The tab with this number in a table.
abbrev pub tab_at : Table TabState → ℕ → TabState
tab_at ts t = tab_in t (find ts t)

-- The first list is a prefix of the second.
abbrev pub Grows : List Operation → List Operation → Type 0
Grows xs ys = (length xs ≤ length ys) × ((k : ℕ) → k < length xs → get_or ys k Query ≡ get_or xs k Query)

pub row-grows : (t k : ℕ) (x y : TabState) → Grows x.issued y.issued → k < length x.issued → row_at t y k ≡ row_at t x k
row-grows t k x y g lt = ap (lock t k) (g.1 k lt)

-- The body is one of the tab's commands, its report, or a part of its report.
abbrev pub SaidBy : TabState → Upward → Type 0
SaidBy y (up.Command c) = (c.number < length y.issued) × (operation_of y c.number ≡ c.operation)
SaidBy y (up.Report r) = (0 < y.entered) × IsSaid y (up.Report r)
SaidBy y (up.ReportPart r) = (0 < y.entered) × IsSaid y (up.ReportPart r)

pub said-body : (y : TabState) (u : Upward) → 0 < y.entered → IsSaid y u → SaidBy y u
said-body y (up.Command c) pos i = absurd (no-command y.in_parts y.report c i)
said-body y (up.Report r) pos i = (pos, i)
said-body y (up.ReportPart r) pos i = (pos, i)

pub body-said : (y : TabState) (u : Upward) (x : Told) → content_of u ≡ Some x → SaidBy y u → (0 < y.entered) × IsSaid y u
body-said y (up.Command c) x e f = absurd (none-some x e)
  where
    none-some : (x : Told) → None ≡ Some x → ⊥
    none-some x e = cc
body-said y (up.Report r) x e f = f
body-said y (up.ReportPart r) x e f = f

abbrev pub FromTab : Type 0 → ℕ → ℕ → TabState → Message → Type 0
FromTab H t p y (Up s) = (s.tab ≡ t) × (s.partition ≡ p) × (H → SaidBy y s.inner)
FromTab H t p y (Down s x) = ⊥
FromTab H t p y (Across u x) = Unit {0}

-- A tab goes on to state `y` within its generation.
pub record GrownTab (w : WorldState) (t : ℕ) (y : TabState) : Type 0 where
  pub entered : y.entered ≡ (tab_of w t).entered
  pub report : y.report ≡ (tab_of w t).report
  pub in_parts : was_opened w t ≡ true → y.in_parts ≡ (tab_of w t).in_parts
  pub more : Grows (tab_of w t).issued y.issued
  pub sound : SoundTab t y
  pub unopened : was_opened w t ≡ false → IsBorn t y
  -- Only a new command's number may be alive that was not alive before.
  pub alive : (k : ℕ) → Alive (status_of y k) → Alive (status_of (tab_of w t) k) ⊎ (length (tab_of w t).issued ≤ k)
  -- A lock that is held was held before, or a grant names it.
  pub held : (k : ℕ) → is_held (status_of y k) ≡ true → (is_held (status_of (tab_of w t) k) ≡ true) ⊎ HasGrant w.bag t (tab_of w t).entered k

pub same-tab : (w : WorldState) → Sound w → (t : ℕ) → GrownTab w t (tab_of w t)
same-tab w s t = record {
  entered = refl;
  report = refl;
  in_parts = λ _. refl;
  more = (le_refl (length (tab_of w t).issued), λ k lt. refl);
  sound = (s.tabs t).state;
  unopened = (s.tabs t).unopened;
  alive = λ k a. inl a;
  held = λ k h. inl h;
}

-- Each message that is new in the bag is from an opened tab.
module _ (w : WorldState) (s : Sound w) (ts : Table TabState) (bag : List Message) (grown : (t : ℕ) → GrownTab w t (tab_at ts t)) (keeps : (m : Message) → In m w.bag → In m bag)
    (arrives : (m : Message) → In m bag → In m w.bag ⊎ ((t : ℕ) × (was_opened w t ≡ true) × FromTab (IsHonest w t) t (partition_of w t) (tab_at ts t) m)) where
  known-grows : (t : ℕ) (r : Row) → IsKnown t (tab_of w t) r → IsKnown t (tab_at ts t) r
  known-grows t r k = (k.0 ∙ sym (row-grows t r.number (tab_of w t) (tab_at ts t) (grown t).more k.1), lt_of_lt_of_le k.1 (grown t).more.0)

  grant-before : (t q k : ℕ) → HasGrant bag t q k → HasGrant w.bag t q k
  grant-before t q k h = ⊎_elim (λ i. (h.0, h.1, i, h.3, h.4, h.5)) (λ f. absurd f.2) (arrives _ h.2)

  cause-after : (t k : ℕ) → Cause w t k → Cause (record w { tabs = ts; bag = bag }) t k
  cause-after t k (inl i) =
      let lt = ((s.tabs t).state.told _ (inl i)).1 in
      inl (subst (λ r. In (row_at t (tab_at ts t) k) (held_of t r.entries)) (sym (grown t).report)
      (subst (λ e. In e (held_of t (tab_of w t).report.entries)) (sym (row-grows t k (tab_of w t) (tab_at ts t) (grown t).more lt)) i))
  cause-after t k (inr h) = inr (h.0, h.1, keeps _ h.2, h.3 ∙ sym (grown t).entered, h.4, h.5)

  -- A lock that is covered afterwards was covered before.
  covered-before : (t k : ℕ) → IsHonest w t → Covered (record w { tabs = ts; bag = bag }) t k → Covered w t k × (k < length (tab_of w t).issued)
  covered-before t k n c = (record { living = c.living; alive = ⊎_elim (λ a. a) (λ le. absurd (past le)) ((grown t).alive k c.alive); cause = because.0 }, because.1)
    where
      because : Cause w t k × (k < length (tab_of w t).issued)
      because = ⊎_elim
          (λ i. let j = subst (λ r. In (row_at t (tab_at ts t) k) (held_of t r.entries)) (grown t).report i in
          let kn = (s.tabs t).state.told _ (inl j) in
          (inl (subst (λ e. In e (held_of t (tab_of w t).report.entries)) kn.0 j), kn.1))
          (λ h. let o = subst (λ q. HasGrant w.bag t q k) (grown t).entered (grant-before t _ k h) in (inr o, (((s.messages t).grants _ k o).2 n).1))
          c.cause

      past : length (tab_of w t).issued ≤ k → ⊥
      past le = let lt : k < length (tab_of w t).issued = because.1 in omega arith

  claim-before : (p : ℕ) (r : Row) → IsHonest w r.client → Claim (record w { tabs = ts; bag = bag }) p r → Claim w p r
  claim-before p r y (stands h) = stands h
  claim-before p r y (reported c) = reported (c.0, c.1, sym (grown r.client).entered ∙ c.2, subst (λ x. In r (held_of r.client x.entries)) (grown r.client).report c.3)
  claim-before p r y (carried c) =
      let b = covered-before r.client r.number y c.3 in
      carried (c.0, (λ x. c.1 ((grown r.client).entered ∙ x)), c.2 ∙ row-grows r.client r.number (tab_of w r.client) (tab_at ts r.client) (grown r.client).more b.1, b.0)

  -- A tab's message was in the bag before, or the tab said it.
  up-cases : (t p : ℕ) (u : Upward) → In (up_message t p u) bag → In (up_message t p u) w.bag ⊎ ((was_opened w t ≡ true) × (p ≡ partition_of w t) × (IsHonest w t → SaidBy (tab_at ts t) u))
  up-cases t p u i = ⊎_elim (λ a. inl a) (λ f. inr (subst (λ v. (was_opened w v ≡ true) × (p ≡ partition_of w v) × (IsHonest w v → SaidBy (tab_at ts v) u)) (sym f.2.0) (f.1, f.2.1, f.2.2))) (arrives _ i)

  said-same : (t : ℕ) (u : Upward) → was_opened w t ≡ true → IsSaid (tab_of w t) u → IsSaid (tab_at ts t) u
  said-same t u o i = subst (In u) (sym (ap₂ report_bodies ((grown t).in_parts o) (grown t).report)) i

  -- The body is of no later generation than the entered one. If it is of that generation, it is in the tab's report.
  abbrev TrueBody : ℕ → Upward → Type 0
  TrueBody t u = (0 < generation_of u) × (generation_of u ≤ (tab_at ts t).entered) × (generation_of u ≡ (tab_at ts t).entered → IsSaid (tab_at ts t) u)

  true-body : (u : Upward) (x : Told) (t : ℕ) → content_of u ≡ Some x → SaidBy (tab_at ts t) u → TrueBody t u
  true-body u x t e f =
      let o = body-said (tab_at ts t) u x e f in
      let own : generation_of u ≡ (tab_at ts t).entered = (body-told (tab_at ts t).in_parts (tab_at ts t).report u x o.1 e).0 ∙ (grown t).sound.own in
      let pos : 0 < (tab_at ts t).entered = o.0 in
      (omega arith, omega arith, λ _. o.1)

  keeps-after : (t : ℕ) (k : Partial) → was_opened w t ≡ true → KeepsOf (generation w) (tab_of w t) k → KeepsOf (generation w) (tab_at ts t) k
  keeps-after t k o h = ((grown t).entered ∙ h.0, subst (λ i. HasParts i (tab_at ts t).report k) (sym ((grown t).in_parts o)) (subst (λ r. HasParts (tab_of w t).in_parts r k) (sym (grown t).report) h.1))

  pub grown-sound : Sound (record w { tabs = ts; bag = bag })
  grown-sound = record {
    positive = s.positive;
    current = s.current;
    tabs = λ t. record {
      state = (grown t).sound;
      entered = subst (λ q. q < limit w) (sym (grown t).entered) (s.tabs t).entered;
      unopened = (grown t).unopened;
      since = (s.tabs t).since;
      newcomer = λ e. ⊎_elim (λ a. inl ((grown t).entered ∙ a)) (λ b. inr ((grown t).entered ∙ b.0, ap (λ r. r.entries) (grown t).report ∙ b.1)) ((s.tabs t).newcomer e);
    };
    messages = λ t. record {
      held = λ k h. ⊎_elim (λ a. cause-after t k ((s.messages t).held k a)) (λ b. cause-after t k (inr b)) ((grown t).held k h);
      commands = λ p c i. ⊎_elim (λ a. let r = (s.messages t).commands p c a in (r.0, r.1, λ h. let x = r.2 h in (lt_of_lt_of_le x.0 (grown t).more.0, (grown t).more.1 c.number x.0 ∙ x.1))) (λ f. f) (up-cases t p (up.Command c) i);
      reports = λ p u x e i. ⊎_elim (λ a. let o = (s.messages t).reports p u x e a in (o.0, o.1, λ h. let y = o.2 h in (y.0, subst (λ q. generation_of u ≤ q) (sym (grown t).entered) y.1, λ f. said-same t u o.0 (y.2 (f ∙ (grown t).entered))))) (λ f. (f.0, f.1, λ h. true-body u x t e (f.2 h))) (up-cases t p u i);
      grants = λ q k h. let o = (s.messages t).grants q k (grant-before t q k h) in (o.0, o.1, λ n. let x = o.2 n in (subst (λ z. q ≤ z) (sym (grown t).entered) x.0, lt_of_lt_of_le x.1 (grown t).more.0));
      hellos = λ v h i. ⊎_elim (λ a. (s.messages t).hellos v h a) (λ f. absurd f.2) (arrives _ i);
    };
    seats = λ t. record {
      partial = λ k e. let o = (s.seats t).partial k e in (o.0, λ h. keeps-after t k o.0 (o.1 h));
      joined = λ n j. (grown t).entered ∙ (s.seats t).joined n j;
      named = (s.seats t).named;
      lists = λ up lt o. (s.seats t).lists up lt (⊎_elim (λ a. inl a) (λ n. inr (sym (grown t).entered ∙ n)) o);
    };
    locks = record {
      granted = λ t q k h. s.locks.granted t q k (grant-before t q k h);
      known = λ p r i. let o = s.locks.known p r i in (o.0, o.1, o.2, λ n. let x = o.3 n in (known-grows r.client r x.0, (grown r.client).entered ∙ x.1));
      covers = λ t k n c e j. let b = covered-before t k n c in subst (λ z. In z (manager_of (broker_of w) (partition_of w t)).held) (sym (row-grows t k (tab_of w t) (tab_at ts t) (grown t).more b.1)) (s.locks.covers t k n b.0 (sym (grown t).entered ∙ e) j);
      agree = λ p. Compatible-fewer (Counts (record w { tabs = ts; bag = bag }) p) (Counts w p) (λ r c. (c.0, claim-before p r c.0 c.1)) (s.locks.agree p);
    };
  }
