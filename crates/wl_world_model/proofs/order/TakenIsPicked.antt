-- One more item at the broker: the item is taken, the partition settles, and the tabs are answered.
use Rattle.std.proofs.Common.{◌≡◌, ◌≢◌, ⊎_elim, ℕ, ◌+◌, ◌<◌, ◌≤◌, Bool, true, false, Some, List, [], ◌∷◌, ◌++◌, map, length, get_or, refl, sym, ap, ap₂, ◌∙◌, subst, arith}
use Rattle.std.specs.Prelude.{◌==◌, nat_lt}
use Rattle.std.proofs.lemmas.Bool.{cases_eq, cases_Bool, eqb-true, and_parts, and_from, eq-eqb}
use Rattle.wl_draft.specs.declared.row.Row.{Row}
use Rattle.wl_draft.specs.Tables.{find, put}
use Rattle.wl_draft.specs.Locks.{Locks, no_locks, newly_granted_if, settle_if, is_pair, has_pair, without, restored}
use Rattle.wl_draft.proofs.TableLemmas.{find-put_same, find-put_other, at-put_same, at-put_other}
use Rattle.wl_grammar.specs.declared.frame.Operation.{Operation}
use Rattle.wl_grammar.specs.declared.frame.Operation.TheVariants.{Request, Release, Abort, Query}
use Rattle.wl_grammar.specs.declared.frame.Outcome.TheVariants.{Granted, Gone}
use Rattle.wl_grammar.specs.declared.frame.SnapshotEntry.{SnapshotEntry}
use Rattle.wl_grammar.specs.declared.frame.Addressed.{Addressed}
use Rattle.wl_grammar.specs.declared.frame.Downward.{Downward}
use Rattle.wl_grammar.specs.declared.frame.Downward.TheVariants as down
use Rattle.wl_broker_reports.specs.ReportParts.{without_partial, Whole, all_below}
use Rattle.wl_broker.specs.declared.seat.TabSeat.{TabSeat}
use Rattle.wl_broker.specs.declared.seat.TabSeat.TheVariants.{Joined}
use Rattle.wl_broker.specs.Broker.{BrokerState, seat_of, manager_of, is_joined, is_dead, next_in, next_of as broker_next, limit_in, limit_of as broker_limit, is_active, with_seat, settled_at, newly_at, answer_to, grants_to, snapshot_entries, snapshot_part, snapshot_to, first_answer, is_lock, drafted, Taking, Drops, Does, join, perform}
use Rattle.wl_world_messages.specs.declared.message.Sender.TheVariants.{Broker}
use Rattle.wl_world_messages.specs.declared.message.Message.{Message}
use Rattle.wl_world_messages.specs.declared.message.Message.TheVariants.{Down}
use Rattle.wl_world_messages.specs.Messages.{sent_all}
use Rattle.wl_draft.specs.Membership.{In, Here}
use Rattle.wl_draft.proofs.Membership.{apart, either, In-nil, In-append_cases, In-append_right, In-one, In-map, In-map_cases, In-filter_cases, list_any-In}
use Rattle.wl_world_messages.proofs.Same.{sent_all-adds, down-same}
use Rattle.wl_world_model.specs.World.{from_broker}
use Rattle.wl_world_model.specs.Orders.{Act, Reports, Commands, Item, Picked, of_tab, is_report, next_of, limit_of, done, probe_grants, adds, HasAnswer}
use Rattle.wl_world_model.proofs.exclusion.HeldAfterSettling.{Stands, without-fewer, without-keeps}
use Rattle.wl_world_model.proofs.exclusion.Invariant.{HasGrant}
use Rattle.wl_world_model.proofs.order.OneMoreItem.{item}
use Rattle.wl_world_model.proofs.order.RunsOfCommands.{Ordered, ordered-reports, ordered-commands}
use Rattle.wl_world_model.proofs.order.BrokerIsPicked.{seat_by, Placed, Tied, LiveCommand, seats-more, tied-more, kept-more}
use Rattle.wl_world_model.proofs.order.Standings.{newly-held, newly-stood, stays-held, rows-below, restored-stands, drafted-stands, probe-held, has_pair-from, standing-granted, first-lock, joined-facts, fresh-facts, seat_by-reports, seat_by-commands, joined-same}
use Rattle.std.specs.List.{range_with_len}
use Rattle.wl_grammar.specs.PartCount.{part_count}

-- After the broker's result, the broker and the bag agree with the picked list.
abbrev pub Tells : (ℕ → ℕ) → (ℕ → Bool) → ℕ → BrokerState → (ℕ → List Operation) → (ℕ → Type 0) → List Message → Picked → Taking → Type 0
Tells part opened g b issued honest bag k (Drops r) = LiveCommand part opened g issued honest bag k × Tied part opened b k
Tells part opened g b issued honest bag k (Does z outs) = LiveCommand part opened g issued honest (sent_all (map from_broker outs) bag) k × Tied part opened z k

-- A partition's locks are replaced

pub set-here : (b : BrokerState) (p : ℕ) (m : Locks) → manager_of (settled_at b p m) p ≡ settle_if (is_active (settled_at b p m) p) m
unfolding settled_at is_active
set-here b p m = at-put_same no_locks p _ b.managers

pub set-else : (b : BrokerState) (p : ℕ) (m : Locks) (q : ℕ) → p ≢ q → manager_of (settled_at b p m) q ≡ manager_of b q
unfolding settled_at
set-else b p m q n = at-put_other no_locks p _ b.managers q (λ e. n (sym e))

pub newly-here : (b : BrokerState) (p : ℕ) (m : Locks) → newly_at b p m ≡ newly_granted_if (is_active (settled_at b p m) p) m
unfolding settled_at newly_at is_active
newly-here b p m = refl

pub settled-fields : (b : BrokerState) (p : ℕ) (m : Locks) → ((settled_at b p m).listed ≡ b.listed) × ((settled_at b p m).generation ≡ b.generation) × ((u : ℕ) → seat_of (settled_at b p m) u ≡ seat_of b u) × ((settled_at b p m).partial ≡ b.partial)
unfolding settled_at
settled-fields b p m = (refl, refl, (λ u. refl), refl)

-- Grants

-- A granted answer names a lock that is held in the partition.
abbrev pub SpokenDown : (ℕ → ℕ) → (ℕ → Bool) → BrokerState → ℕ → ℕ → Downward → Type 0
SpokenDown part opened z p u (down.Hello h) = ⊥
SpokenDown part opened z p u (down.Answer x) = x.outcome ≡ Granted → (opened u ≡ true) × (part u ≡ p) × (has_pair u x.number (manager_of z p).held ≡ true)
SpokenDown part opened z p u (down.Snapshot x) = Unit {0}

abbrev pub Spoken : (ℕ → ℕ) → (ℕ → Bool) → BrokerState → ℕ → Addressed → Type 0
Spoken part opened z p a = SpokenDown part opened z p a.tab a.inner

pub spoken-from : (part : ℕ → ℕ) (opened : ℕ → Bool) (z : BrokerState) (p g : ℕ) (outs : List Addressed) → ((a : Addressed) → In a outs → Spoken part opened z p a) → (u n : ℕ) → HasGrant (map from_broker outs) u g n
    → (opened u ≡ true) × (part u ≡ p) × (has_pair u n (manager_of z p).held ≡ true)
spoken-from part opened z p g outs f u n h =
    let o = In-map_cases from_broker outs h.2 in
    let e = down-same h.0 Broker u o.0.tab (down.Answer h.1) o.0.inner o.2 in
    let s = subst (λ x. SpokenDown part opened z p u x) (sym e.1) (subst (λ v. SpokenDown part opened z p v o.0.inner) (sym e.0) (f o.0 o.1)) in
    subst (λ v. (opened u ≡ true) × (part u ≡ p) × (has_pair u v (manager_of z p).held ≡ true)) h.4 (s h.5)

-- A joined tab was opened in the partition of its seat.
pub seated-facts : (part : ℕ → ℕ) (opened : ℕ → Bool) (k : Picked) (t p n l : ℕ) → Placed part opened k.items → seat_by (part t) (of_tab t k.items) ≡ Some (Joined p n l) → (opened t ≡ true) × (part t ≡ p) × (next_of (of_tab t k.items) ≡ n)
seated-facts part opened k t p n l placed e =
    let f = joined-facts (part t) (of_tab t k.items) (ap is_joined e) in
    let j = joined-same (part t) p (next_of (of_tab t k.items)) n (limit_of (of_tab t k.items)) l (sym f.2 ∙ e) in
    let o = list_any-In (λ x. is_report x.act) (of_tab t k.items) f.1 in
    let i = In-filter_cases (λ x. x.tab == t) k.items o.1 in
    (subst (λ v. opened v ≡ true) (eqb-true o.0.tab t i.1) (placed o.0 i.0).0, j.0, j.1)

-- A granted answer that is among the broker's frames is in the bag afterwards.
answered : (z : BrokerState) (g : ℕ) (outs : List Addressed) (bag : List Message) (r : Row) → z.generation ≡ g → In (answer_to z r.client r.number Granted) outs → HasAnswer (sent_all (map from_broker outs) bag) g r
answered z g outs bag r gen i =
    (broker_next z r.client, subst (λ h. In (Down Broker (record { tab = r.client; inner = down.Answer (record { generation = h; upto = broker_next z r.client; number = r.number; outcome = Granted }) })) (sent_all (map from_broker outs) bag)) gen (sent_all-adds (map from_broker outs) bag (In-map from_broker i)))

module _ (part : ℕ → ℕ) (opened : ℕ → Bool) (g : ℕ) (b : BrokerState) (issued : ℕ → List Operation) (honest : ℕ → Type 0) (bag : List Message) (k : Picked) (t p : ℕ)
    (kept : LiveCommand part opened g issued honest bag k) (tie : Tied part opened b k) (open_now : opened t ≡ true) (home : p ≡ part t) (gen : b.generation ≡ g) where
  abbrev mine : List Item
  mine = of_tab t k.items

  -- One more item of any kind

  module _ (a : Act) (seat : TabSeat) (first : List Addressed) (rows : List Row)
      (now : seat_by (part t) (of_tab t k.items ++ item t p a ∷ []) ≡ Some seat)
      (ordered : Ordered (honest t) (issued t) (of_tab t k.items ++ item t p a ∷ []))
      (new : (r : Row) → Stands r (done t a (manager_of b p)) → (n l : ℕ) × (seat_of (settled_at (with_seat t seat b) p (done t a (manager_of b p))) r.client ≡ Some (Joined p n l)) × (r.number < n))
      (some : (r : Row) → In r rows → In r (newly_at (with_seat t seat b) p (done t a (manager_of b p))))
      (speaks : (x : Addressed) → In x first → Spoken part opened (settled_at (with_seat t seat b) p (done t a (manager_of b p))) p x)
      (said : (r : Row) → In r (probe_grants (manager_of b p) t a ++ newly_granted_if (is_active (settled_at (with_seat t seat b) p (done t a (manager_of b p))) p) (done t a (manager_of b p)))
      → In (answer_to (settled_at (with_seat t seat b) p (done t a (manager_of b p))) r.client r.number Granted) (first ++ grants_to (settled_at (with_seat t seat b) p (done t a (manager_of b p))) rows)) where
    abbrev z : BrokerState
    z = with_seat t seat b

    abbrev m : Locks
    m = done t a (manager_of b p)

    abbrev later : BrokerState
    later = settled_at (with_seat t seat b) p (done t a (manager_of b p))

    fields : (later.listed ≡ b.listed) × (later.generation ≡ b.generation) × ((u : ℕ) → seat_of later u ≡ find (put t seat b.seats) u) × (later.partial ≡ without_partial t b.partial)
    fields = settled-fields (with_seat t seat b) p (done t a (manager_of b p))

    others : (u : ℕ) → t ≢ u → seat_of later u ≡ seat_of b u
    others u n = fields.2 u ∙ find-put_other t seat b.seats u (λ e. n (sym e))

    seats : (u : ℕ) → seat_of later u ≡ seat_by (part u) (of_tab u (adds t p a k).items)
    seats = seats-more part opened b later k t p a tie.seats others (fields.2 t ∙ (find-put_same t seat b.seats ∙ sym now))

    -- Locks of another partition belong to other tabs.
    stay : (q : ℕ) (r : Row) → p ≢ q → Stands r (manager_of b q) → (n l : ℕ) × (seat_of later r.client ≡ Some (Joined q n l)) × (r.number < n)
    stay q r d s =
        let o = tie.entries q r s in
        let f = seated-facts part opened k r.client q o.0 o.1 kept.placed (sym (tie.seats r.client) ∙ o.2) in
        (o.0, o.1, others r.client (λ e. d (home ∙ (ap part e ∙ f.1))) ∙ o.2, o.3)

    here_now : manager_of later p ≡ settle_if (is_active later p) m
    here_now = set-here (with_seat t seat b) p (done t a (manager_of b p))

    grants-spoken : (x : Addressed) → In x (grants_to later rows) → Spoken part opened later p x
    grants-spoken x i =
        let o = In-map_cases (λ (r : Row). answer_to later r.client r.number Granted) rows i in
        let r = o.0 in
        let j = subst (In r) (newly-here z p m) (some r o.1) in
        let e = new r (newly-stood m (is_active later p) r j) in
        let placed = placed-after in
        let f = seated-facts part opened (adds t p a k) r.client p e.0 e.1 placed (sym (seats r.client) ∙ e.2) in
        subst (Spoken part opened later p) (sym o.2)
        (λ _. (f.0, f.1, has_pair-from r.client r.number (manager_of later p).held r (subst (λ (y : Locks). In r y.held) (sym here_now) (newly-held m (is_active later p) r j)) refl refl))
      where
        placed-after : Placed part opened (adds t p a k).items
        placed-after x i = ⊎_elim (λ j. kept.placed x j) (λ j. subst (λ y. (opened y.tab ≡ true) × (y.partition ≡ part y.tab)) (sym (In-one j)) (open_now, home)) (In-append_cases k.items (item t p a ∷ []) i)

    pub item-follows : LiveCommand part opened g issued honest (sent_all (map from_broker (first ++ grants_to later rows)) bag) (adds t p a k) × Tied part opened later (adds t p a k)
    item-follows = (
      kept-more part opened b later k t p a tie kept.placed open_now home fields.0 seats here_now (set-else z p m) g issued honest bag (map from_broker (first ++ grants_to later rows)) kept ordered
          (spoken-from part opened later p g (first ++ grants_to later rows) (λ x i. ⊎_elim (λ j. speaks x j) (λ j. grants-spoken x j) (In-append_cases first (grants_to later rows) i)))
          (λ r i. answered later g (first ++ grants_to later rows) bag r (fields.1 ∙ gen) (said r i)),
      tied-more part opened b later k t p a tie kept.placed open_now home fields.0 seats here_now (set-else z p m) fields.3 stay new,
    )

  -- A tab joins

  pub join-follows : (r : Whole) → is_joined (seat_of b t) ≡ false → is_dead (seat_of b t) ≡ false → all_below r.base r.entries ≡ true → (honest t → r.base ≤ length (issued t))
      → Tells part opened g b issued honest bag (adds t p (Reports r) k) (join b t p r)
  unfolding join
  join-follows r nj nd below le =
      let f = fresh-facts (part t) (of_tab t k.items) (ap is_joined (sym (tie.seats t)) ∙ nj) (ap is_dead (sym (tie.seats t)) ∙ nd) in
      let seat : TabSeat = Joined p r.base r.limit in
      let m = restored t r.entries (manager_of b p) in
      let s = (settled-fields (with_seat t seat b) p m).2 in
      item-follows (Reports r) seat [] (newly_at (with_seat t seat b) p m)
      (seat_by-reports (part t) t p (of_tab t k.items) r f.0 f.1 ((kept.ordered t).unjoined f.1) ∙ ap (λ q. Some (Joined q r.base r.limit)) (sym home))
      (ordered-reports (honest t) (issued t) (of_tab t k.items) t p r (kept.ordered t) f.1 le)
      (λ x h. ⊎_elim
      (λ i. let o = tie.entries p x i in
      (o.0, o.1, s x.client ∙ (find-put_other t seat b.seats x.client (λ e. apart (ap (λ v. is_joined (seat_of b v)) (sym e) ∙ ap is_joined o.2) nj) ∙ o.2), o.3))
      (λ i. let o = rows-below t r.base r.entries x below i in
      (r.base, r.limit, s x.client ∙ (ap (find (put t seat b.seats)) o.0 ∙ find-put_same t seat b.seats), o.1))
      (restored-stands (manager_of b p) t r.entries x h))
      (λ x i. i)
      (λ x i. absurd (In-nil i))
      (λ x i. In-map (λ (y : Row). answer_to (settled_at (with_seat t seat b) p m) y.client y.number Granted) (subst (In x) (sym (newly-here (with_seat t seat b) p m)) i))

  -- The next command is done

  first-spoken : (z : BrokerState) (n : ℕ) (c : Operation) (x : Addressed) → In x (first_answer z t p n c) → Spoken part opened z p x
  first-spoken z n (Request mode if_available name) x i = subst (Spoken part opened z p) (sym (In-one i)) (λ h. (open_now, sym home, standing-granted (manager_of z p) t n h))
  first-spoken z n (Release j) x i = subst (Spoken part opened z p) (sym (In-one i)) (λ h. cc)
  first-spoken z n (Abort j) x i = subst (Spoken part opened z p) (sym (In-one i)) (λ h. cc)
  first-spoken z n Query x i = snapshot-spoken (snapshot_entries (manager_of z p)) i
    where
      snapshot-spoken : (entries : List SnapshotEntry) → In x (snapshot_to z t n entries) → Spoken part opened z p x
      snapshot-spoken entries i =
          either (λ zs. In x zs → Spoken part opened z p x) (nat_lt 65535 (part_count entries)) (answer_to z t n Gone ∷ []) (map (snapshot_part z t n entries) (range_with_len 0 (part_count entries)))
          (λ _ j. subst (Spoken part opened z p) (sym (In-one j)) (λ h. cc))
          (λ _ j. let o = In-map_cases (snapshot_part z t n entries) (range_with_len 0 (part_count entries)) j in subst (Spoken part opened z p) (sym o.2) tt)
          i

  pub perform-follows : (n : ℕ) (c : Operation) → is_joined (seat_of b t) ≡ true → n ≡ broker_next b t → (honest t → (n < length (issued t)) × (get_or (issued t) n Query ≡ c))
      → Tells part opened g b issued honest bag (adds t p (Commands n c) k) (perform b t p n c)
  unfolding perform
  perform-follows n c j turn is =
      let f = joined-facts (part t) (of_tab t k.items) (ap is_joined (sym (tie.seats t)) ∙ j) in
      let seat : TabSeat = Joined p (n + 1) (broker_limit b t) in
      let m = drafted t n c (manager_of b p) in
      let later = settled_at (with_seat t seat b) p m in
      let s = (settled-fields (with_seat t seat b) p m).2 in
      let next : n ≡ next_of (of_tab t k.items) = turn ∙ ap next_in (tie.seats t ∙ f.2) in
      let room : broker_limit b t ≡ limit_of (of_tab t k.items) = ap limit_in (tie.seats t ∙ f.2) in
      let rows = without t n (newly_at (with_seat t seat b) p m) in
      let own : (r : Row) → is_lock c ≡ true → r.client ≡ t → r.number ≡ n → In r (manager_of later p).held → In (answer_to later r.client r.number Granted) (first_answer later t p n c ++ grants_to later rows) =
      λ r l x y i. subst (λ v. In (answer_to later r.client r.number Granted) (v ++ grants_to later rows)) (sym (first-lock later t p n c l (has_pair-from t n (manager_of later p).held r i x y)))
      (subst (λ v. In (answer_to later v r.number Granted) (answer_to later t n Granted ∷ grants_to later rows)) (sym x) (subst (λ v. In (answer_to later t v Granted) (answer_to later t n Granted ∷ grants_to later rows)) (sym y) Here)) in
      item-follows (Commands n c) seat (first_answer later t p n c) rows
      (seat_by-commands (part t) t p n c (of_tab t k.items) f.0 f.1 ∙ (ap₂ (λ q h. Some (Joined q (h + 1) (limit_of (of_tab t k.items)))) (sym home) (sym next) ∙ ap (λ h. Some (Joined p (n + 1) h)) (sym room)))
      (ordered-commands (honest t) (issued t) (of_tab t k.items) t p n c (kept.ordered t) f.1 next is)
      (λ x h. ⊎_elim
      (λ i. let o = tie.entries p x i in ⊎_elim
      (λ e. let q = joined-same (part t) p (next_of (of_tab t k.items)) o.0 (limit_of (of_tab t k.items)) o.1 (sym f.2 ∙ (sym (tie.seats t) ∙ (ap (seat_of b) e ∙ o.2))) in
      (n + 1, broker_limit b t, s x.client ∙ (ap (find (put t seat b.seats)) (sym e) ∙ find-put_same t seat b.seats), (let lt' : x.number < o.0 = o.3 in let e' : next_of (of_tab t k.items) ≡ o.0 = q.1 in let e'' : n ≡ next_of (of_tab t k.items) = next in omega arith)))
      (λ d. (o.0, o.1, s x.client ∙ (find-put_other t seat b.seats x.client (λ e. d (sym e)) ∙ o.2), o.3))
      (cases_eq t x.client))
      (λ o. (n + 1, broker_limit b t, s x.client ∙ (ap (find (put t seat b.seats)) o.1 ∙ find-put_same t seat b.seats), (let e : x.number ≡ n = o.2 in omega arith)))
      (drafted-stands (manager_of b p) t n c x h))
      (λ x i. without-fewer t n (newly_at (with_seat t seat b) p m) i)
      (λ x i. first-spoken later n c x i)
      (λ x i. ⊎_elim
      (λ y. let o = probe-held (manager_of b p) t n c x y in
      own x o.0 o.1 o.2 (subst (λ (v : Locks). In x v.held) (sym (set-here (with_seat t seat b) p m)) (stays-held m (is_active later p) x o.3)))
      (λ y. ⊎_elim
      (λ same. let at : (x.client ≡ t) × (x.number ≡ n) = (eqb-true x.client t (and_parts _ _ same).0, eqb-true x.number n (and_parts _ _ same).1) in
      ⊎_elim
      (λ old. let o = tie.entries p x old in
      let q = joined-same (part t) p (next_of (of_tab t k.items)) o.0 (limit_of (of_tab t k.items)) o.1 (sym f.2 ∙ (sym (tie.seats t) ∙ (ap (seat_of b) (sym at.0) ∙ o.2))) in
      absurd (let lt' : x.number < o.0 = o.3 in let e' : next_of (of_tab t k.items) ≡ o.0 = q.1 in let e'' : n ≡ next_of (of_tab t k.items) = next in let e : x.number ≡ n = at.1 in omega arith))
      (λ o. own x o.0 o.1 o.2 (subst (λ (v : Locks). In x v.held) (sym (set-here (with_seat t seat b) p m)) (newly-held m (is_active later p) x y)))
      (drafted-stands (manager_of b p) t n c x (newly-stood m (is_active later p) x y)))
      (λ other. In-append_right (first_answer later t p n c) (In-map (λ (v : Row). answer_to later v.client v.number Granted)
      (without-keeps t n (newly_at (with_seat t seat b) p m) (subst (In x) (sym (newly-here (with_seat t seat b) p m)) y) (λ e. apart (and_from _ _ (eq-eqb x.client t e.0) (eq-eqb x.number n e.1)) other))))
      (cases_Bool (is_pair t n x)))
      (In-append_cases (probe_grants (manager_of b p) t (Commands n c)) (newly_granted_if (is_active later p) m) i))
