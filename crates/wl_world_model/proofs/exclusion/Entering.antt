-- Arrival of a hello that makes a tab enter a later generation.
use Rattle.std.proofs.Common.{◌≡◌, ◌≢◌, ◌⊎◌, inl, inr, ⊎_elim, ℕ, suc, ◌<◌, ◌≤◌, Bool, true, false, not, List, [], length, map, filter, Option, Some, None, refl, sym, subst, arith, le_refl}
use Rattle.std.specs.Prelude.{◌==◌, nat_lt}
use Rattle.std.proofs.lemmas.Bool.{eqb-true, eqb-false, ltb-true}
use Rattle.wl_draft.specs.declared.row.Row.{Row}
use Rattle.wl_draft.specs.declared.row.Entry.{Entry}
use Rattle.wl_draft.specs.Tables.{Table, find, put, Rises}
use Rattle.wl_draft.specs.Locks.{held_of, waiting_of}
use Rattle.wl_draft.proofs.RisingTables.{Rises-filter}
use Rattle.wl_grammar.specs.declared.frame.Upward.{Upward}
use Rattle.wl_grammar.specs.declared.frame.Hello.{Hello}
use Rattle.wl_grammar.specs.declared.frame.Frame.TheVariants as frame
use Rattle.wl_grammar.specs.declared.frame.Upward.TheVariants as up
use Rattle.wl_grammar.specs.declared.frame.Downward.{Downward}
use Rattle.wl_grammar.specs.declared.frame.Downward.TheVariants as down
use Rattle.wl_grammar.specs.Generation.{generation_of}
use Rattle.wl_broker.specs.Broker.{BrokerState, seat_of, manager_of, partial_of}
use Rattle.wl_agent.specs.declared.drop_reason.DropReason.TheVariants as unheard
use Rattle.wl_agent.specs.declared.delivered.Delivered.{Delivered}
use Rattle.wl_agent.specs.declared.delivered.Delivered.TheVariants as heard
use Rattle.wl_agent.specs.declared.status.Status.{Status}
use Rattle.wl_agent.specs.Tab.{TabState, report_bodies, report_frames, status_of, is_held, carried as carried_rows, enter_first, enter_later, enter, report_of}
use Rattle.wl_agent.specs.Delivery.{delivery}
use Rattle.wl_kernel.specs.Kernel.{tab_of as opened_tab}
use Rattle.wl_world_messages.specs.declared.message.Sender.{Sender}
use Rattle.wl_world_messages.specs.declared.message.Message.{Message}
use Rattle.wl_world_messages.specs.Messages.{sent_all}
use Rattle.wl_draft.specs.Membership.{In}
use Rattle.wl_draft.proofs.Membership.{apart, either, In-nil, In-map_cases}
use Rattle.wl_world_messages.proofs.Same.{sent_all-keeps, sent_all-cases, up-same}
use Rattle.wl_tab.specs.Tabs.{is_told, told}
use Rattle.wl_world_model.specs.World.{WorldState, tab_of, lives, partition_of, acts, takes_frame}
use Rattle.wl_world_model.specs.Sends.{report_if_entered}
use Rattle.wl_world_model.specs.Holdings.{IsHonest}
use Rattle.wl_world_model.proofs.exclusion.ToldParts.{body-told, no-command}
use Rattle.wl_world_model.proofs.exclusion.HeldAfterSettling.{Compatible-fewer}
use Rattle.wl_world_model.proofs.exclusion.Invariant.{Sound, SoundTab, TabPart, MessagePart, SeatPart, Covered, Claim, Counts, stands, reported, carried, generation, broker_of, limit, limit_in, came, IsSaid, Alive, HasGrant, CauseIn, IsKnown, row_at, up_message, down_message}
use Rattle.wl_world_model.proofs.exclusion.CoverExcludes.{living_opened, held_alive, came-entered}
use Rattle.wl_world_model.proofs.exclusion.UnchangedParts.{messages-kept}
use Rattle.wl_world_model.proofs.exclusion.HeardNumbers.{Fewer-alive, Fewer-held, Fewer-trans, carried-fewer, carried-rises, told-fewer, same-kept, told-kept}
use Rattle.wl_world_model.proofs.exclusion.ActsWithinAGeneration.{after, each_tab, heard-sound}
use Rattle.wl_world_model.proofs.exclusion.EnteringReports.{reported_entries, report-held, report-waits, report-has}

pub limit-le : (g : ℕ) (v : Option BrokerState) → limit_in g v ≤ suc g
limit-le g None = omega arith
limit-le g (Some b) = le_refl (suc g)

abbrev entered_tab : TabState → ℕ → Table Status → ℕ → ℕ → List Entry → TabState
entered_tab x g rows a base entries =
    record x { entered = g; statuses = rows; acknowledged = a; answered = false; report = record { generation = g; base = base; entries = entries } }

abbrev reports_up : ℕ → ℕ → Bool → ℕ → ℕ → List Entry → List Message
reports_up t p in_parts g base entries = map (up_message t p) (report_bodies in_parts (record { generation = g; base = base; entries = entries }))

module _ (w : WorldState) (s : Sound w) (t : ℕ) (h : Hello) (rows : Table Status) (a base : ℕ) (entries : List Entry)
    (v : Sender) (hello : In (down_message v t (down.Hello h)) w.bag) (l : lives w t ≡ true) (later : (tab_of w t).entered < h.generation)
    (f-rises : Rises 0 rows)
    (f-alive : (k : ℕ) → Alive (find rows k) → Alive (status_of (tab_of w t) k))
    (f-held : (k : ℕ) → is_held (find rows k) ≡ true → is_held (status_of (tab_of w t) k) ≡ true)
    (f-told : (r : Row) → In r (held_of t entries) → IsKnown t (tab_of w t) r × (is_held (status_of (tab_of w t) r.number) ≡ true))
    (f-waits : (r : Row) → In r (waiting_of t entries) → IsKnown t (tab_of w t) r)
    (f-has : (k : ℕ) → is_held (status_of (tab_of w t) k) ≡ true → In (row_at t (tab_of w t) k) (held_of t entries))
    (f-new : (tab_of w t).entered ≡ 0 → entries ≡ []) where
  abbrev bag' : List Message
  bag' = sent_all (reports_up t (partition_of w t) (tab_of w t).in_parts h.generation base entries) w.bag

  abbrev new : TabState
  new = entered_tab (tab_of w t) h.generation rows a base entries

  new_bag-cases : (m : Message) → In m bag' → In m w.bag ⊎ ((u : Upward) × IsSaid new u × (m ≡ up_message t (partition_of w t) u))
  new_bag-cases m i = ⊎_elim (λ b. inl b) (λ b. inr (In-map_cases (up_message t (partition_of w t)) (report_bodies (tab_of w t).in_parts (record { generation = h.generation; base = base; entries = entries })) b)) (sent_all-cases (reports_up t (partition_of w t) (tab_of w t).in_parts h.generation base entries) w.bag i)

  keeps : (m : Message) → In m w.bag → In m bag'
  keeps m i = sent_all-keeps (reports_up t (partition_of w t) (tab_of w t).in_parts h.generation base entries) w.bag i

  old-down : (u : ℕ) (x : Downward) (r : Sender) → In (down_message r u x) bag' → In (down_message r u x) w.bag
  old-down u x r i = ⊎_elim (λ b. b) (λ b. let e : down_message r u x ≡ up_message t (partition_of w t) b.0 = b.2 in cc) (new_bag-cases _ i)

  old-grant : (u q k : ℕ) → HasGrant bag' u q k → HasGrant w.bag u q k
  old-grant u q k g = (g.0, g.1, old-down u (down.Answer g.1) g.0 g.2, g.3, g.4, g.5)

  -- The world after the tab has entered.
  abbrev later_world : WorldState
  later_world = record w { tabs = put t (entered_tab (tab_of w t) h.generation rows a base entries) w.tabs; bag = sent_all (reports_up t (partition_of w t) (tab_of w t).in_parts h.generation base entries) w.bag }

  not_yet : (tab_of w t).entered ≢ generation w
  not_yet e =
      let o = (s.messages t).hellos v h hello in
      let lim : limit w ≤ suc (generation w) = limit-le (generation w) w.broker in
      let lt : h.generation < limit w = o.1 in omega arith

  -- An honest tab has not come to the broker: if it had, it would already have entered the latest generation.
  not_come : IsHonest w t → came (broker_of w) t ≡ true → ⊥
  not_come y c = ⊎_elim (λ e. not_yet e) (λ d. apart l d) (came-entered w s t y c)

  new-sound : SoundTab t (entered_tab (tab_of w t) h.generation rows a base entries)
  new-sound = record {
    issued = λ k x. (s.tabs t).state.issued k (f-alive k x);
    lock = λ k x. (s.tabs t).state.lock k (f-alive k x);
    unended = λ k x i. (s.tabs t).state.unended k (f-alive k x) i;
    ends = (s.tabs t).state.ends;
    told = λ r i. ⊎_elim (λ b. (f-told r b).0) (λ b. f-waits r b) i;
    first = λ e. absurd (let lt : (tab_of w t).entered < h.generation = later in let z : h.generation ≡ 0 = e in omega arith);
    own = refl;
    rises = f-rises;
  }

  -- Each lock that is alive and has a cause afterwards was covered before.
  was : (k : ℕ) → IsHonest w t → Alive (find rows k) → In (row_at t (tab_of w t) k) (held_of t entries) ⊎ HasGrant bag' t h.generation k → Covered w t k
  was k y x (inl i) = let hd = (f-told _ i).1 in record { living = l; alive = held_alive _ hd; cause = (s.messages t).held k hd }
  was k y x (inr i) = absurd (let le : h.generation ≤ (tab_of w t).entered = (((s.messages t).grants h.generation k (old-grant t h.generation k i)).2 y).0 in let lt : (tab_of w t).entered < h.generation = later in omega arith)

  -- `Old` states the facts about tab `u` that make a claim on the earlier world.
  abbrev Old : ℕ → Row → ℕ → Type 0
  Old p r u = (partition_of w u ≡ p) × ((tab_of w u).entered ≢ generation w) × (r ≡ row_at u (tab_of w u) r.number) × Covered w u r.number

  claim-before : (p : ℕ) (r : Row) → IsHonest w r.client → Claim later_world p r → Claim w p r
  claim-before p r g (stands x) = stands x
  claim-before p r g (reported c) =
      each_tab (λ u z. r.client ≡ u → partition_of w u ≡ p → came (broker_of w) u ≡ false → z.entered ≡ generation w → In r (held_of u z.report.entries) → Claim w p r) t new w.tabs
      (λ b q' _ _ i'. let o = f-told r i' in carried (subst (Old p r) (sym b) (q', not_yet, o.0.0, record { living = l; alive = held_alive _ o.1; cause = (s.messages t).held r.number o.1 })))
      (λ u _ b q' j' n' i'. reported (subst (λ z. (partition_of w z ≡ p) × (came (broker_of w) z ≡ false) × ((tab_of w z).entered ≡ generation w) × In r (held_of z (tab_of w z).report.entries)) (sym b) (q', j', n', i')))
      r.client refl c.0 c.1 c.2 c.3
  claim-before p r g (carried c) =
      each_tab (λ u z. IsHonest w u → r.client ≡ u → partition_of w u ≡ p → z.entered ≢ generation w → r ≡ row_at u z r.number → lives w u ≡ true → Alive (status_of z r.number) → CauseIn bag' u z r.number → Claim w p r) t new w.tabs
      (λ y b q' _ k' _ x i'. carried (subst (Old p r) (sym b) (q', not_yet, k', was r.number y x i')))
      (λ u _ _ b q' n' k' l' x i'. carried (subst (Old p r) (sym b) (q', n', k', record { living = l'; alive = x; cause = ⊎_elim (λ y. inl y) (λ y. inr (old-grant u _ r.number y)) i' })))
      r.client g refl c.0 c.1 c.2 c.3.living c.3.alive c.3.cause

  pub entered-sound : Sound (record w { tabs = put t (entered_tab (tab_of w t) h.generation rows a base entries) w.tabs; bag = sent_all (reports_up t (partition_of w t) (tab_of w t).in_parts h.generation base entries) w.bag })
  entered-sound = record {
    positive = s.positive;
    current = s.current;
    tabs = each_tab (λ u z. TabPart w u z (opened_tab w.kernel u)) t new w.tabs
        (record {
          state = new-sound;
          entered = ((s.messages t).hellos v h hello).1;
          unopened = λ e. apart (living_opened _ l) e;
          since = (s.tabs t).since;
          newcomer = λ e. ⊎_elim (λ b. inr (((s.messages t).hellos v h hello).3 e, f-new b)) (λ b. absurd (not_yet b.0)) ((s.tabs t).newcomer e);
        })
        (λ u n. s.tabs u);
    messages = each_tab (λ u z. MessagePart later_world u z (opened_tab w.kernel u) (partition_of w u)) t new w.tabs
        (record {
          held = λ k x. inl (f-has k (f-held k x));
          commands = λ p c i. ⊎_elim (λ b. (s.messages t).commands p c b) (λ b. absurd (no-command new.in_parts new.report c (subst (IsSaid new) (sym (up-same _ _ _ _ _ _ b.2).2) b.1))) (new_bag-cases _ i);
          reports = λ p y x is i. ⊎_elim
              (λ b. let o = (s.messages t).reports p y x is b in (o.0, o.1, λ n. let q = o.2 n in let le : generation_of y ≤ (tab_of w t).entered = q.1 in let lt : (tab_of w t).entered < h.generation = later in (q.0, omega arith, λ e. absurd (let f : generation_of y ≡ h.generation = e in omega arith))))
              (λ b. let f = up-same _ _ _ _ _ _ b.2 in
              let j : IsSaid new y = subst (IsSaid new) (sym f.2) b.1 in
              let n : generation_of y ≡ h.generation = (body-told new.in_parts new.report y x j is).0 in
              let lt : (tab_of w t).entered < h.generation = later in
              (living_opened _ l, f.1, λ _. (omega arith, omega arith, λ _. j)))
              (new_bag-cases _ i);
          grants = λ q k x. let o = (s.messages t).grants q k (old-grant t q k x) in (o.0, o.1, λ y. let g = o.2 y in let le : q ≤ (tab_of w t).entered = g.0 in let lt : (tab_of w t).entered < h.generation = later in (omega arith, g.1));
          hellos = λ r x i. (s.messages t).hellos r x (old-down t (down.Hello x) r i);
        })
        (λ u n. messages-kept w bag' u (tab_of w u) (opened_tab w.kernel u) (partition_of w u) keeps
        (λ p x i. ⊎_elim (λ b. b) (λ b. absurd (n (sym (up-same _ _ _ _ _ _ b.2).0))) (new_bag-cases _ i)) (λ r x i. old-down u x r i) (s.messages u));
    seats = each_tab (λ u z. SeatPart w u z (opened_tab w.kernel u) (partition_of w u) (seat_of (broker_of w) u) (partial_of (broker_of w) u)) t new w.tabs
        (record {
          partial = λ k e. let o = (s.seats t).partial k e in (o.0, λ y. absurd (not_yet (o.1 y).0));
          joined = λ y j. absurd (not_yet ((s.seats t).joined y j));
          named = (s.seats t).named;
          lists = λ up lt _. (s.seats t).lists up lt (inl l);
        })
        (λ u n. s.seats u);
    locks = record {
      granted = λ u q k x. s.locks.granted u q k (old-grant u q k x);
      known = λ p r i. let o = s.locks.known p r i in (
        o.0,
        o.1,
        o.2,
        each_tab (λ u z. (IsHonest w u → IsKnown u (tab_of w u) r × ((tab_of w u).entered ≡ generation w)) → IsHonest w u → IsKnown u z r × (z.entered ≡ generation w)) t new w.tabs
            (λ f y. absurd (not_yet (f y).1)) (λ u n f y. f y) r.client o.3,
      );
      covers = λ u k y c. each_tab (λ u z. IsHonest w u → lives w u ≡ true → Alive (status_of z k) → CauseIn bag' u z k
          → z.entered ≡ generation w → came (broker_of w) u ≡ true → In (row_at u z k) (manager_of (broker_of w) (partition_of w u)).held) t new w.tabs
          (λ y _ _ _ _ j. absurd (not_come y j))
          (λ u n y l' x i e j. s.locks.covers u k y (record { living = l'; alive = x; cause = ⊎_elim (λ y. inl y) (λ y. inr (old-grant u _ k y)) i }) e j)
          u y c.living c.alive c.cause;
      agree = λ p. Compatible-fewer (Counts later_world p) (Counts w p) (λ r c. (c.0, claim-before p r c.0 c.1)) (s.locks.agree p);
    };
  }

-- A tab that has entered no generation holds nothing.
none-held : (w : WorldState) → Sound w → (t k : ℕ) → (tab_of w t).entered ≡ 0 → is_held (status_of (tab_of w t) k) ≡ true → ⊥
none-held w s t k e h = ⊎_elim
    (λ i. In-nil (subst (λ es. In (row_at t (tab_of w t) k) (held_of t es)) ((s.tabs t).state.first e) i))
    (λ i. let o = (s.messages t).grants _ k i in let lt : 0 < (tab_of w t).entered = o.0 in omega arith)
    ((s.messages t).held k h)

abbrev untold : Table Status → Table Status
untold rows = filter (λ row. not (is_told row.1)) rows

first-sound : (w : WorldState) → Sound w → (t : ℕ) (h : Hello) (v : Sender) → In (down_message v t (down.Hello h)) w.bag → lives w t ≡ true → (tab_of w t).entered < h.generation → (tab_of w t).entered ≡ 0
    → Sound (after w (acts w t (told (enter_first h.generation (tab_of w t))) (map (up_message t (partition_of w t)) (report_bodies (enter_first h.generation (tab_of w t)).in_parts (enter_first h.generation (tab_of w t)).report))))
unfolding acts told enter_first
first-sound w s t h v i l lt z =
    let rows = (tab_of w t).statuses in
    let r = (s.tabs t).state.rises in
    entered-sound w s t h (untold rows) 0 0 [] v i l lt (Rises-filter (λ row. not (is_told row.1)) 0 rows r)
    (λ k a. Fewer-alive (untold rows) rows (told-fewer rows r) k a) (λ k a. Fewer-held (untold rows) rows (told-fewer rows r) k a)
    (λ e j. absurd (In-nil j)) (λ e j. absurd (In-nil j)) (λ k a. absurd (none-held w s t k z a)) (λ _. refl)

later-sound : (w : WorldState) → Sound w → (t : ℕ) (h : Hello) (v : Sender) → In (down_message v t (down.Hello h)) w.bag → lives w t ≡ true → (tab_of w t).entered < h.generation → (tab_of w t).entered ≢ 0
    → Sound (after w (acts w t (told (enter_later h.generation (tab_of w t))) (map (up_message t (partition_of w t)) (report_bodies (enter_later h.generation (tab_of w t)).in_parts (enter_later h.generation (tab_of w t)).report))))
unfolding acts told enter_later report_of
later-sound w s t h v i l lt n =
    let x = tab_of w t in
    let rows = carried_rows x.issued x.statuses in
    let r = carried-rises x.issued x.statuses (s.tabs t).state.rises in
    let f = Fewer-trans (untold rows) rows x.statuses (told-fewer rows r) (carried-fewer x.issued x.statuses (s.tabs t).state.rises) in
    entered-sound w s t h (untold rows) (length x.issued) (length x.issued) (reported_entries x) v i l lt (Rises-filter (λ row. not (is_told row.1)) 0 rows r)
    (λ k a. Fewer-alive (untold rows) x.statuses f k a) (λ k a. Fewer-held (untold rows) x.statuses f k a)
    (λ e j. report-held t x e j)
    (λ e j. report-waits t x e j)
    (λ k a. report-has t x k ((s.tabs t).state.issued k (held_alive _ a)) a)
    (λ e. absurd (n e))

-- A world stays sound when a hello arrives.
pub hello-sound : (w : WorldState) → Sound w → (t : ℕ) (h : Hello) (v : Sender) → In (down_message v t (down.Hello h)) w.bag → lives w t ≡ true → Sound (after w (takes_frame w t (frame.Hello h)))
unfolding delivery
hello-sound w s t h v i l =
    let x = tab_of w t in
    either {A = TabState × Delivered} (λ a. Sound (after w (acts w t (told a.0) (report_if_entered w.kernel t a.0 a.1)))) (nat_lt x.entered h.generation)
    (enter h.generation x, heard.Entered (report_frames (enter h.generation x))) (x, heard.Dropped unheard.OldGeneration)
    (λ lt. either (λ y. Sound (after w (acts w t (told y) (map (up_message t (partition_of w t)) (report_bodies y.in_parts y.report))))) (x.entered == 0) (enter_first h.generation x) (enter_later h.generation x)
    (λ z. first-sound w s t h v i l (ltb-true _ _ lt) (eqb-true _ _ z))
    (λ z. later-sound w s t h v i l (ltb-true _ _ lt) (eqb-false _ _ z)))
    (λ _. heard-sound w t (told x) (λ k. ⊥) s l (told-kept x x (λ k. ⊥) (same-kept x (λ k. ⊥) (s.tabs t).state.rises)) (λ k e. absurd e))
