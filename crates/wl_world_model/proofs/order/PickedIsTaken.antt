-- Proof that the broker takes exactly the picked items.
use Rattle.std.proofs.Common.{◌≡◌, ◌⊎◌, inl, inr, ⊎_elim, ℕ, ◌<◌, ◌≤◌, Bool, true, false, cond, not, ◌&&◌, ◌||◌, Option, Some, None, List, [], ◌∷◌, ◌++◌, map, length, get_or, refl, sym, ap, ap₂, ◌∙◌, subst, arith, append-nil}
use Rattle.std.specs.Prelude.{◌==◌, nat_lt}
use Rattle.std.specs.List.{list_all}
use Rattle.std.proofs.lemmas.Bool.{cases_eq, and_parts, eqb-true, eqb-false, eq-eqb, ne_eqb, ltb-true, ltb-false}
use Rattle.wl_draft.specs.declared.row.Row.{Row}
use Rattle.wl_draft.specs.Tables.{find, put}
use Rattle.wl_draft.specs.Locks.{Locks, newly_granted, newly_granted_if, settle, settle_if, has_pair, ended}
use Rattle.wl_draft.proofs.TableLemmas.{find-put_same, find-put_other}
use Rattle.wl_grammar.specs.declared.frame.Operation.{Operation}
use Rattle.wl_grammar.specs.declared.frame.Operation.TheVariants.{Request, Release, Abort, Query}
use Rattle.wl_grammar.specs.declared.frame.Outcome.TheVariants.{Granted}
use Rattle.wl_grammar.specs.declared.frame.Addressed.{Addressed}
use Rattle.wl_grammar.specs.declared.frame.Upward.{Upward}
use Rattle.wl_grammar.specs.declared.frame.Upward.TheVariants as up
use Rattle.wl_broker_reports.specs.ReportParts.{Partial, kept_at, Told, at_once, in_part, fits, has_part, with_told, is_whole, whole_of, has_held, all_below}
use Rattle.wl_broker.specs.declared.seat.TabSeat.{TabSeat}
use Rattle.wl_broker.specs.declared.seat.TabSeat.TheVariants.{Joined, Dead}
use Rattle.wl_broker.specs.declared.dropped.Dropped.{Dropped}
use Rattle.wl_broker.specs.declared.dropped.Dropped.TheVariants.{OldGeneration, LaterGeneration, NotJoined, Recovering, OutOfTurn, DeadTab, AlreadyJoined, HeldByNewcomer, BadReport, Misplaced, TooMany, PartTwice}
use Rattle.wl_grammar.specs.Generation.{generation_of}
use Rattle.wl_broker.specs.Broker.{BrokerState, seat_of, manager_of, is_joined, is_dead, has_arrived, next_in, next_of as broker_next, limit_in, limit_of as broker_limit, partial_of, keeping, join_if, is_active, with_seat, settled_at, newly_at, answer_to, listed_at, is_listed, elsewhere, seated_at, or_else, place_of, is_misplaced, later_answer, Taking, Drops, Does, join, perform, take_report_part, take_command, take_inner, taking, buried_at, death_step}
use Rattle.wl_world_messages.specs.declared.message.Message.{Message}
use Rattle.wl_world_messages.specs.declared.message.Message.TheVariants.{Up}
use Rattle.wl_world_messages.specs.Messages.{sent_all}
use Rattle.wl_draft.specs.Membership.{In, Later}
use Rattle.wl_draft.proofs.Membership.{apart, either, In-nil, In-cons_cases, In-head, In-map, In-one}
use Rattle.wl_world_messages.proofs.Same.{sent_all-keeps, sent_all-cases}
use Rattle.wl_world_model.specs.World.{from_broker}
use Rattle.wl_world_model.specs.Orders.{Dies, Reports, Commands, Item, Picked, of_partition, of_tab, has_death, has_report, next_of, limit_of, is_complete, adds, adds_report, is_placed_elsewhere, takes_told, has_too_many, takes_command, picks_upward, picks_message, WasHeld, HasAnswer}
use Rattle.wl_broker_reports.proofs.KeptParts.{with_told-base}
use Rattle.wl_world_model.proofs.Tables.{each_found}
use Rattle.wl_world_model.proofs.exclusion.ToldParts.{AllBelow, with_told-below, below-all}
use Rattle.wl_world_model.proofs.exclusion.Invariant.{HasGrant}
use Rattle.wl_world_model.proofs.order.OneMoreItem.{no_report_elsewhere}
use Rattle.wl_world_model.proofs.order.SettledStays.{Rested, managed-rested}
use Rattle.wl_world_model.proofs.order.RunsOfCommands.{ordered-dies}
use Rattle.wl_world_model.proofs.order.BrokerIsPicked.{seat_by, Tied, LiveCommand, own-tab, active-complete, seats-more, tied-more, kept-more}
use Rattle.wl_world_model.proofs.order.Standings.{ended-stands, ended-none, standing-granted, joined-facts, dead-facts, seat_by-dies}
use Rattle.wl_world_model.proofs.order.TakenIsPicked.{Tells, newly-here, settled-fields, Spoken, spoken-from, seated-facts, item-follows, join-follows, perform-follows}
use Rattle.wl_limits.specs.declared.tabs.TheConstants.{LAST_NUMBER}

active-is : (b : BrokerState) (p : ℕ) → is_active b p ≡ list_all (λ x. not (x.1 == p) || has_arrived (seat_of b x.0)) b.listed
unfolding is_active
active-is b p = refl

-- The start list

listed_at-some : (t x : ℕ) (xs : List (ℕ × ℕ)) → listed_at t xs ≡ Some x → In (t, x) xs
listed_at-some t x [] = λ h. cc
listed_at-some t x (y ∷ xs) =
    either (λ o. o ≡ Some x → In (t, x) (y ∷ xs)) (y.0 == t) (Some y.1) (listed_at t xs)
    (λ e s. let o : y.1 ≡ x = cc in In-head (λ i. (sym (eqb-true y.0 t e) i, sym o i)))
    (λ e s. Later (listed_at-some t x xs s))

listed_at-none : (t x : ℕ) (xs : List (ℕ × ℕ)) → listed_at t xs ≡ None → In (t, x) xs → ⊥
listed_at-none t x [] = λ h i. In-nil i
listed_at-none t x (y ∷ xs) =
    either (λ o. o ≡ None → In (t, x) (y ∷ xs) → ⊥) (y.0 == t) (Some y.1) (listed_at t xs)
    (λ e s. cc)
    (λ e s i. ⊎_elim (λ j. eqb-false y.0 t e (ap (λ (z : ℕ × ℕ). z.0) (sym j))) (λ j. listed_at-none t x xs s j) (In-cons_cases i))

seated-cases : (s : Option TabSeat) (l : Option ℕ) → ((n : ℕ) × (q : ℕ) × (h : ℕ) × (s ≡ Some (Joined q n h)) × (or_else (seated_at s) l ≡ Some q)) ⊎ ((is_joined s ≡ false) × (or_else (seated_at s) l ≡ l))
seated-cases None l = inr (refl, refl)
seated-cases (Some (Joined q n h)) l = inl (n, q, h, refl, refl)
seated-cases (Some Dead) l = inr (refl, refl)

module _ (part : ℕ → ℕ) (opened : ℕ → Bool) (g : ℕ) (b : BrokerState) (issued : ℕ → List Operation) (honest : ℕ → Type 0) (bag : List Message) (k : Picked) (t p : ℕ)
    (kept : LiveCommand part opened g issued honest bag k) (tie : Tied part opened b k) (open_now : opened t ≡ true) (home : p ≡ part t) (gen : b.generation ≡ g) where
  -- A command that was taken before is answered again

  later-spoken : (n : ℕ) (c : Operation) → Spoken part opened b p (later_answer b t p n c)
  later-spoken n (Request mode if_available name) = λ h. (open_now, sym home, standing-granted (manager_of b p) t n h)
  later-spoken n (Release j) = λ h. cc
  later-spoken n (Abort j) = λ h. cc
  later-spoken n Query = λ h. cc

  later-follows : (n : ℕ) (c : Operation) → Tells part opened g b issued honest bag k (Does b (later_answer b t p n c ∷ []))
  later-follows n c = (record { placed = kept.placed; ordered = kept.ordered; held = held; told = λ q before later x r s i. let o = kept.told q before later x r s i in (o.0, sent_all-keeps (map from_broker (later_answer b t p n c ∷ [])) bag o.1) }, tie)
    where
      held : (u h : ℕ) → HasGrant (sent_all (map from_broker (later_answer b t p n c ∷ [])) bag) u g h → (opened u ≡ true) × WasHeld k (part u) u h
      held u h i = ⊎_elim
          (λ a. kept.held u h (i.0, i.1, a, i.3, i.4, i.5))
          (λ a. let o = spoken-from part opened b p g (later_answer b t p n c ∷ []) (λ x j. subst (Spoken part opened b p) (sym (In-one j)) (later-spoken n c)) u h (i.0, i.1, a, i.3, i.4, i.5) in
          (o.0, subst (λ v. WasHeld k v u h) (sym o.1) (of_partition p k.items, [], append-nil _, subst (λ (m : Locks). has_pair u h m.held ≡ true) (tie.managers p) o.2)))
          (sent_all-cases (map from_broker (later_answer b t p n c ∷ [])) bag i.2)

  -- A death

  bury-some : Tells part opened g b issued honest bag (adds t p Dies k) (Does (buried_at (with_seat t Dead b) t (Some p)).0 (buried_at (with_seat t Dead b) t (Some p)).1)
  bury-some =
      let m = ended t (manager_of b p) in
      item-follows part opened g b issued honest bag k t p kept tie open_now home gen Dies Dead [] (newly_at (with_seat t Dead b) p m)
      (seat_by-dies (part t) t p (of_tab t k.items))
      (ordered-dies (honest t) (issued t) (of_tab t k.items) t p (kept.ordered t))
      (λ x h. let o = ended-stands (manager_of b p) t x h in let e = tie.entries p x o.0 in
      (e.0, e.1, (settled-fields (with_seat t Dead b) p m).2 x.client ∙ (find-put_other t Dead b.seats x.client o.1 ∙ e.2), e.3))
      (λ x i. i)
      (λ x i. absurd (In-nil i))
      (λ x i. In-map (λ (y : Row). answer_to (settled_at (with_seat t Dead b) p m) y.client y.number Granted) (subst (In x) (sym (newly-here (with_seat t Dead b) p m)) i))

  -- The death of a tab that is neither listed nor joined changes no lock.
  bury-none : is_joined (seat_of b t) ≡ false → ((q : ℕ) → In (t, q) b.listed → ⊥) → Tells part opened g b issued honest bag (adds t p Dies k) (Does (with_seat t Dead b) [])
  bury-none nj nl = (
    kept-more part opened b z k t p Dies tie kept.placed open_now home refl seats here_now (λ q n. refl) g issued honest bag [] kept (ordered-dies (honest t) (issued t) (of_tab t k.items) t p (kept.ordered t)) (λ u n h. absurd (In-nil h.2)) said,
    tied-more part opened b z k t p Dies tie kept.placed open_now home refl seats here_now (λ q n. refl) refl
        (λ q r n s. let o = tie.entries q r s in (o.0, o.1, find-put_other t Dead b.seats r.client (λ e. apart (ap (λ v. is_joined (seat_of b v)) (sym e) ∙ ap is_joined o.2) nj) ∙ o.2, o.3))
        (λ r h. let o = ended-stands (manager_of b p) t r h in let e = tie.entries p r o.0 in (e.0, e.1, find-put_other t Dead b.seats r.client o.1 ∙ e.2, e.3)),
  )
    where
      z : BrokerState
      z = with_seat t Dead b

      m : Locks
      m = ended t (manager_of b p)

      seats : (u : ℕ) → seat_of (with_seat t Dead b) u ≡ seat_by (part u) (of_tab u (adds t p Dies k).items)
      seats = seats-more part opened b (with_seat t Dead b) k t p Dies tie.seats (λ u n. find-put_other t Dead b.seats u (λ e. n (sym e))) (find-put_same t Dead b.seats ∙ sym (seat_by-dies (part t) t p (of_tab t k.items)))

      same : ended t (manager_of b p) ≡ manager_of b p
      same = ended-none (manager_of b p) t (λ r i s. apart (ap (λ v. is_joined (seat_of b v)) (sym s) ∙ ap is_joined (tie.entries p r i).2) nj)

      came-same : (xs : List (ℕ × ℕ)) → ((q : ℕ) → In (t, q) xs → ⊥) → list_all (λ x. not (x.1 == p) || has_arrived (find (put t Dead b.seats) x.0)) xs ≡ list_all (λ x. not (x.1 == p) || has_arrived (seat_of b x.0)) xs
      came-same [] f = refl
      came-same (x ∷ xs) f = ap₂ (λ o c. (not (x.1 == p) || has_arrived o) && c) (find-put_other t Dead b.seats x.0 (λ e. f x.1 (In-head (λ i. (sym e i, x.1))))) (came-same xs (λ q i. f q (Later i)))

      active : is_active (with_seat t Dead b) p ≡ is_complete p k.listed (of_partition p k.items)
      active = active-is (with_seat t Dead b) p ∙ came-same b.listed nl ∙ sym (active-is b p) ∙ active-complete part opened b k p kept.placed tie.same tie.places tie.seats

      rested : is_active (with_seat t Dead b) p ≡ true → Rested (ended t (manager_of b p))
      rested a = subst Rested (sym (same ∙ tie.managers p)) (managed-rested p k.listed (of_partition p k.items) (sym active ∙ a))

      here_now : manager_of b p ≡ settle_if (is_active (with_seat t Dead b) p) (ended t (manager_of b p))
      here_now = either (λ y. manager_of b p ≡ y) (is_active (with_seat t Dead b) p) (settle (ended t (manager_of b p))) (ended t (manager_of b p)) (λ a. sym ((rested a).same ∙ same)) (λ _. sym same)

      said : (r : Row) → In r ([] ++ newly_granted_if (is_active (with_seat t Dead b) p) (ended t (manager_of b p))) → HasAnswer (sent_all [] bag) g r
      said r = either (λ es. In r es → HasAnswer bag g r) (is_active (with_seat t Dead b) p) (newly_granted (ended t (manager_of b p))) [] (λ a i. absurd (In-nil (subst (λ es. In r es) (rested a).nobody i))) (λ _ i. absurd (In-nil i))

  buried-follows : (q : Option ℕ) → ((x : ℕ) → q ≡ Some x → x ≡ p) → (q ≡ None → (is_joined (seat_of b t) ≡ false) × ((x : ℕ) → In (t, x) b.listed → ⊥))
      → Tells part opened g b issued honest bag (adds t p Dies k) (Does (buried_at (with_seat t Dead b) t q).0 (buried_at (with_seat t Dead b) t q).1)
  buried-follows None some none = bury-none (none refl).0 (none refl).1
  buried-follows (Some x) some none = subst (λ v. Tells part opened g b issued honest bag (adds t p Dies k) (Does (buried_at (with_seat t Dead b) t (Some v)).0 (buried_at (with_seat t Dead b) t (Some v)).1)) (sym (some x refl)) bury-some

  some-same : (x y : ℕ) → Some x ≡ Some y → x ≡ y
  some-same x y s = cc

  some-none : (x : ℕ) → Some x ≡ None → ⊥
  some-none x s = cc

  place-some : (x : ℕ) → place_of b t ≡ Some x → x ≡ p
  unfolding place_of
  place-some x e = ⊎_elim
      (λ o. let f = seated-facts part opened k t o.1 o.0 o.2 kept.placed (sym (tie.seats t) ∙ o.3) in sym (some-same o.1 x (sym o.4 ∙ e)) ∙ (sym f.1 ∙ sym home))
      (λ o. sym (tie.places t x (listed_at-some t x b.listed (sym o.1 ∙ e))).1 ∙ sym home)
      (seated-cases (seat_of b t) (listed_at t b.listed))

  place-none : place_of b t ≡ None → (is_joined (seat_of b t) ≡ false) × ((x : ℕ) → In (t, x) b.listed → ⊥)
  unfolding place_of
  place-none e = ⊎_elim
      (λ o. absurd (some-none o.1 (sym o.4 ∙ e)))
      (λ o. (o.0, λ x. listed_at-none t x b.listed (sym o.1 ∙ e)))
      (seated-cases (seat_of b t) (listed_at t b.listed))

  pub burial-follows : Tells part opened g b issued honest bag (cond (not (is_dead (seat_of b t))) (adds t p Dies k) k) (Does (death_step b t).0 (death_step b t).1)
  unfolding death_step
  burial-follows = go (is_dead (seat_of b t))
    where
      go : (c : Bool) → Tells part opened g b issued honest bag (cond (not c) (adds t p Dies k) k) (Does (cond {A = BrokerState × List Addressed} c (b, []) (buried_at (with_seat t Dead b) t (place_of b t))).0 (cond {A = BrokerState × List Addressed} c (b, []) (buried_at (with_seat t Dead b) t (place_of b t))).1)
      go true = (kept, tie)
      go false = buried-follows (place_of b t) place-some place-none

  -- The broker takes exactly the picked items

  abbrev list : List Item
  list = of_partition p k.items

  own : of_tab t (of_partition p k.items) ≡ of_tab t k.items
  own = own-tab part opened k.items t p kept.placed (sym home)

  pub death-same : has_death (of_tab t (of_partition p k.items)) ≡ is_dead (seat_of b t)
  death-same = ap has_death own ∙ (sym (dead-facts (part t) (of_tab t k.items)) ∙ ap is_dead (sym (tie.seats t)))

  -- A tab that is not dead has joined exactly if it has a report in the list.
  report-same : is_dead (seat_of b t) ≡ false → has_report (of_tab t (of_partition p k.items)) ≡ is_joined (seat_of b t)
  report-same nd = ap has_report own ∙ (sym (joined-same_report (has_death (of_tab t k.items)) (has_report (of_tab t k.items)) (part t) (next_of (of_tab t k.items)) (limit_of (of_tab t k.items)) (sym (ap has_death own) ∙ (death-same ∙ nd))) ∙ ap is_joined (sym (tie.seats t)))
    where
      joined-same_report : (d r : Bool) (q n l : ℕ) → d ≡ false → is_joined (cond d (Some Dead) (cond r (Some (Joined q n l)) None)) ≡ r
      joined-same_report true r q n l e = apart refl e
      joined-same_report false true q n l e = refl
      joined-same_report false false q n l e = refl

  off-same : is_placed_elsewhere k t p ≡ is_misplaced b t p
  unfolding is_misplaced
  off-same = ap₂ (λ xs c. elsewhere (listed_at t xs) p || c) (sym tie.same) (ap₂ (λ c ps. c || elsewhere (kept_at (find ps t)) p)
      (no_report_elsewhere t p k.items (λ x i s. (kept.placed x i).1 ∙ (ap part s ∙ sym home)) ∙ sym (⊎_elim
      (λ o. let f = seated-facts part opened k t o.1 o.0 o.2 kept.placed (sym (tie.seats t) ∙ o.3) in
      ap (λ s. elsewhere (seated_at s) p) o.3 ∙ ap not (eq-eqb o.1 p (sym f.1 ∙ sym home)))
      (λ o. nowhere (seat_of b t) o.0)
      (seated-cases (seat_of b t) None))) (sym tie.partial))
    where
      nowhere : (s : Option TabSeat) → is_joined s ≡ false → elsewhere (seated_at s) p ≡ false
      nowhere None e = refl
      nowhere (Some (Joined q n l)) e = apart refl e
      nowhere (Some Dead) e = refl

  told-cases : (Q : Taking → Bool → Type 0) (d m r a h l y : Bool) (o : Taking) → (d ≡ false → r ≡ a) → ((x : Dropped) → Q (Drops x) false) → (d ≡ false → a ≡ false → l ≡ true → Q o true)
      → Q (cond d (Drops DeadTab) (cond m (Drops Misplaced) (cond a (Drops AlreadyJoined) (cond h (Drops HeldByNewcomer) (cond (not l) (Drops BadReport) (cond y (Drops PartTwice) o))))))
      (not d && (not m && (not r && (not h && (l && not y)))))
  told-cases Q true m r a h l y o same drop good = drop DeadTab
  told-cases Q false true r a h l y o same drop good = drop Misplaced
  told-cases Q false false r true h l y o same drop good = subst (λ v. Q (Drops AlreadyJoined) (not v && (not h && (l && not y)))) (sym (same refl)) (drop AlreadyJoined)
  told-cases Q false false r false true l y o same drop good = subst (λ v. Q (Drops HeldByNewcomer) (not v && (false && (l && not y)))) (sym (same refl)) (drop HeldByNewcomer)
  told-cases Q false false r false false false y o same drop good = subst (λ v. Q (Drops BadReport) (not v && false)) (sym (same refl)) (drop BadReport)
  told-cases Q false false r false false true true o same drop good = subst (λ v. Q (Drops PartTwice) (not v && false)) (sym (same refl)) (drop PartTwice)
  told-cases Q false false r false false true false o same drop good = subst (λ v. Q o (not v && true)) (sym (same refl)) (good refl refl refl)

  -- Storing a part adds no item to the list.
  keeps-follows : (r : Partial) → AllBelow r.base r.came → Tells part opened g b issued honest bag (record k { partial = put t r k.partial }) (Does (keeping t r b) [])
  keeps-follows r low = (
    record { placed = kept.placed; ordered = kept.ordered; held = kept.held; told = kept.told },
    record {
      same = tie.same;
      places = tie.places;
      seats = tie.seats;
      managers = tie.managers;
      entries = tie.entries;
      partial = ap (put t r) tie.partial;
      below = each_found (λ v o. (x : Partial) → o ≡ Some x → AllBelow x.base x.came) t r k.partial (λ x e. subst (λ (z : Partial). AllBelow z.base z.came) (same-partial r x e) low) (λ v n. tie.below v);
    },
  )
    where
      same-partial : (x y : Partial) → Some x ≡ Some y → x ≡ y
      same-partial x y e = cc

  -- A report becomes an item when its last missing part is taken.
  whole-follows : (r : Partial) → AllBelow r.base r.came → is_joined (seat_of b t) ≡ false → is_dead (seat_of b t) ≡ false → (honest t → r.base ≤ length (issued t))
      → Tells part opened g b issued honest bag (adds_report t p r k) (join_if b t p r)
  unfolding adds_report join_if
  whole-follows r low nj nd le = go (is_whole r)
    where
      go : (c : Bool) → Tells part opened g b issued honest bag (cond c (adds t p (Reports (whole_of r)) k) (record k { partial = put t r k.partial })) (cond c (join b t p (whole_of r)) (Does (keeping t r b) []))
      go true = join-follows part opened g b issued honest bag k t p kept tie open_now home gen (whole_of r) nj nd (below-all r.base r.came low) le
      go false = keeps-follows r low

  told-follows : (x : Told) → (honest t → x.base ≤ length (issued t))
      → Tells part opened g b issued honest bag (cond (takes_told k t p x) (adds_report t p (with_told p x (find k.partial t)) k) k) (cond (is_dead (seat_of b t)) (Drops DeadTab) (cond (is_misplaced b t p) (Drops Misplaced) (take_report_part b t p x)))
  unfolding takes_told take_report_part
  told-follows x le =
      subst (λ c. Tells part opened g b issued honest bag (cond c (adds_report t p (with_told p x (find k.partial t)) k) k) taken) (sym same)
      (subst (λ ps. Tells part opened g b issued honest bag (cond after (adds_report t p (with_told p x (find ps t)) k) k) taken) tie.partial
      (told-cases (λ o c. Tells part opened g b issued honest bag (cond c (adds_report t p (with_told p x (partial_of b t)) k) k) o) (is_dead (seat_of b t)) (is_misplaced b t p) (has_report (of_tab t (of_partition p k.items))) (is_joined (seat_of b t)) (not (is_listed (listed_at t b.listed)) && has_held x.entries) (all_below x.base x.entries && fits x (partial_of b t)) (has_part x (partial_of b t)) (join_if b t p (with_told p x (partial_of b t)))
      report-same (λ y. (kept, tie)) (λ nd nj good. let o = and_parts (all_below x.base x.entries) (fits x (partial_of b t)) good in
      whole-follows (with_told p x (partial_of b t)) (with_told-below p x (partial_of b t) o.0 o.1 (λ y e. tie.below t y (ap (λ ps. find ps t) (sym tie.partial) ∙ e))) nj nd (λ h. subst (λ z. z ≤ length (issued t)) (sym (with_told-base p x (partial_of b t))) (le h)))))
    where
      taken : Taking
      taken = cond (is_dead (seat_of b t)) (Drops DeadTab) (cond (is_misplaced b t p) (Drops Misplaced) (take_report_part b t p x))

      after : Bool
      after =
          not (is_dead (seat_of b t)) && (not (is_misplaced b t p) && (not (has_report (of_tab t (of_partition p k.items)))
          && (not (not (is_listed (listed_at t b.listed)) && has_held x.entries) && ((all_below x.base x.entries && fits x (partial_of b t)) && not (has_part x (partial_of b t))))))

      same : takes_told k t p x ≡ after
      same = ap₂ (λ y z. not y && z) death-same (ap₂ (λ y z. not y && z) off-same
          (ap₂ (λ xs ps. not (has_report (of_tab t (of_partition p k.items))) && (not (not (is_listed (listed_at t xs)) && has_held x.entries) && ((all_below x.base x.entries && fits x (find ps t)) && not (has_part x (find ps t))))) (sym tie.same) (sym tie.partial)))

  -- A number that is neither below nor above the next number is the next number.
  command-cases : (Q : Taking → Bool → Type 0) (d m r a c x l y f e : Bool) (later o : Taking) → (d ≡ false → r ≡ a) → (d ≡ false → a ≡ true → x ≡ true → e ≡ false) → (d ≡ false → a ≡ true → y ≡ true → e ≡ false) → (d ≡ false → a ≡ true → x ≡ false → y ≡ false → e ≡ true)
      → ((z : Dropped) → Q (Drops z) false) → Q later false → (a ≡ true → x ≡ false → y ≡ false → Q o true)
      → Q (cond d (Drops DeadTab) (cond m (Drops Misplaced) (cond (not a) (Drops NotJoined) (cond (not c) (Drops Recovering) (cond (x || l) (Drops OutOfTurn) (cond y later (cond f (Drops TooMany) o)))))))
      (not d && (not m && (r && (c && (not l && (e && not f))))))
  command-cases Q true m r a c x l y f e later o same above below turn drop again good = drop DeadTab
  command-cases Q false true r a c x l y f e later o same above below turn drop again good = drop Misplaced
  command-cases Q false false r false c x l y f e later o same above below turn drop again good = subst (λ v. Q (Drops NotJoined) (v && (c && (not l && (e && not f))))) (sym (same refl)) (drop NotJoined)
  command-cases Q false false r true false x l y f e later o same above below turn drop again good = subst (λ v. Q (Drops Recovering) (v && false)) (sym (same refl)) (drop Recovering)
  command-cases Q false false r true true true true y f e later o same above below turn drop again good = subst (λ v. Q (Drops OutOfTurn) (v && false)) (sym (same refl)) (drop OutOfTurn)
  command-cases Q false false r true true false true y f e later o same above below turn drop again good = subst (λ v. Q (Drops OutOfTurn) (v && false)) (sym (same refl)) (drop OutOfTurn)
  command-cases Q false false r true true true false y f e later o same above below turn drop again good = subst (λ v. Q (Drops OutOfTurn) (v && (e && not f))) (sym (same refl)) (subst (λ v. Q (Drops OutOfTurn) (v && not f)) (sym (above refl refl refl)) (drop OutOfTurn))
  command-cases Q false false r true true false false true f e later o same above below turn drop again good = subst (λ v. Q later (v && (e && not f))) (sym (same refl)) (subst (λ v. Q later (v && not f)) (sym (below refl refl refl)) again)
  command-cases Q false false r true true false false false true e later o same above below turn drop again good = subst (λ v. Q (Drops TooMany) (v && (e && false))) (sym (same refl)) (subst (λ v. Q (Drops TooMany) (v && false)) (sym (turn refl refl refl refl)) (drop TooMany))
  command-cases Q false false r true true false false false false e later o same above below turn drop again good = subst (λ v. Q o (v && (e && true))) (sym (same refl)) (subst (λ v. Q o (v && true)) (sym (turn refl refl refl refl)) (good refl refl refl))

  command-follows : (n : ℕ) (c : Operation) → (honest t → (n < length (issued t)) × (get_or (issued t) n Query ≡ c))
      → Tells part opened g b issued honest bag (cond (takes_command k t p n c) (adds t p (Commands n c) k) k) (cond (is_dead (seat_of b t)) (Drops DeadTab) (cond (is_misplaced b t p) (Drops Misplaced) (take_command b t p n c)))
  unfolding takes_command take_command
  command-follows n c is =
      subst (λ v. Tells part opened g b issued honest bag (cond v (adds t p (Commands n c) k) k) taken) (sym same)
      (command-cases (λ o v. Tells part opened g b issued honest bag (cond v (adds t p (Commands n c) k) k) o) (is_dead (seat_of b t)) (is_misplaced b t p) (has_report (of_tab t (of_partition p k.items))) (is_joined (seat_of b t)) (is_active b p) (nat_lt (broker_next b t) n) (n == LAST_NUMBER) (nat_lt n (broker_next b t))
      (has_too_many (broker_limit b t) (manager_of b p) t c) (n == next_of (of_tab t (of_partition p k.items))) (Does b (later_answer b t p n c ∷ [])) (perform b t p n c)
      report-same
      (λ _ j e. let h : broker_next b t < n = ltb-true _ _ e in ne_eqb n _ (λ s. let q : broker_next b t ≡ next_of (of_tab t (of_partition p k.items)) = next j in let s' : n ≡ next_of (of_tab t (of_partition p k.items)) = s in omega arith))
      (λ _ j e. let h : n < broker_next b t = ltb-true _ _ e in ne_eqb n _ (λ s. let q : broker_next b t ≡ next_of (of_tab t (of_partition p k.items)) = next j in let s' : n ≡ next_of (of_tab t (of_partition p k.items)) = s in omega arith))
      (λ _ j e f. let h : n ≤ broker_next b t = ltb-false _ _ e in let i : broker_next b t ≤ n = ltb-false _ _ f in eq-eqb n _ (let q : broker_next b t ≡ next_of (of_tab t (of_partition p k.items)) = next j in omega arith))
      (λ y. (kept, tie)) (later-follows n c)
      (λ j e f. perform-follows part opened g b issued honest bag k t p kept tie open_now home gen n c j (let h : n ≤ broker_next b t = ltb-false _ _ e in let i : broker_next b t ≤ n = ltb-false _ _ f in omega arith) is))
    where
      taken : Taking
      taken = cond (is_dead (seat_of b t)) (Drops DeadTab) (cond (is_misplaced b t p) (Drops Misplaced) (take_command b t p n c))

      next : is_joined (seat_of b t) ≡ true → broker_next b t ≡ next_of (of_tab t (of_partition p k.items))
      next j = ap next_in (tie.seats t ∙ (joined-facts (part t) (of_tab t k.items) (ap is_joined (sym (tie.seats t)) ∙ j)).2) ∙ ap next_of (sym own)

      -- The limit of a tab with a report is the same in the list and at the broker.
      room : has_report (of_tab t (of_partition p k.items)) ≡ true → is_dead (seat_of b t) ≡ false → limit_of (of_tab t (of_partition p k.items)) ≡ broker_limit b t
      room e nd = ap limit_of own ∙ sym (ap limit_in (tie.seats t ∙ (joined-facts (part t) (of_tab t k.items) (ap is_joined (sym (tie.seats t)) ∙ (sym (report-same nd) ∙ e))).2))

      where_alive : (d m r : Bool) (f : ℕ → Bool) (x y : ℕ) → (r ≡ true → d ≡ false → x ≡ y) → (not d && (not m && (r && f x))) ≡ (not d && (not m && (r && f y)))
      where_alive true m r f x y e = refl
      where_alive false true r f x y e = refl
      where_alive false false false f x y e = refl
      where_alive false false true f x y e = ap f (e refl refl)

      same : takes_command k t p n c ≡ (not (is_dead (seat_of b t)) && (not (is_misplaced b t p) && (has_report (of_tab t (of_partition p k.items)) && (is_active b p && (not (n == LAST_NUMBER) && ((n == next_of (of_tab t (of_partition p k.items))) && not (has_too_many (broker_limit b t) (manager_of b p) t c)))))))
      same = ap₂ (λ x y. not x && y) death-same (ap₂ (λ x y. not x && y) off-same
          (ap₂ (λ x m. has_report (of_tab t (of_partition p k.items)) && (x && (not (n == LAST_NUMBER) && ((n == next_of (of_tab t (of_partition p k.items))) && not (has_too_many (limit_of (of_tab t (of_partition p k.items))) m t c)))))
          (sym (active-complete part opened b k p kept.placed tie.same tie.places tie.seats)) (sym (tie.managers p))))
          ∙ where_alive (is_dead (seat_of b t)) (is_misplaced b t p) (has_report (of_tab t (of_partition p k.items))) (λ l. is_active b p && (not (n == LAST_NUMBER) && ((n == next_of (of_tab t (of_partition p k.items))) && not (has_too_many l (manager_of b p) t c))))
          (limit_of (of_tab t (of_partition p k.items))) (broker_limit b t) room

  -- If the tab is honest, it may have sent this message.
  abbrev pub SaidBefore : Upward → Type 0
  SaidBefore (up.Report r) = honest t → r.base ≤ length (issued t)
  SaidBefore (up.ReportPart r) = honest t → r.base ≤ length (issued t)
  SaidBefore (up.Command c) = honest t → (c.number < length (issued t)) × (get_or (issued t) c.number Query ≡ c.operation)

  inner-follows : (u : Upward) → SaidBefore u
      → Tells part opened g b issued honest bag (picks_upward k t p u) (cond (is_dead (seat_of b t)) (Drops DeadTab) (cond (is_misplaced b t p) (Drops Misplaced) (take_inner b t p u)))
  inner-follows (up.Report r) said = told-follows (at_once r) said
  inner-follows (up.ReportPart r) said = told-follows (in_part r) said
  inner-follows (up.Command c) said = command-follows c.number c.operation said

  -- A message of another generation is dropped and not picked.
  pub taking-follows : (u : Upward) → SaidBefore u → Tells part opened g b issued honest bag (picks_message g k (Up (record { tab = t; partition = p; inner = u }))) (taking b (record { tab = t; partition = p; inner = u }))
  unfolding taking
  taking-follows u said = ⊎_elim
      (λ e. subst (λ v. Tells part opened g b issued honest bag (cond v (picks_upward k t p u) k) (taking b (record { tab = t; partition = p; inner = u }))) (sym (eq-eqb (generation_of u) g (e ∙ gen)))
      (either (Tells part opened g b issued honest bag (picks_upward k t p u)) (nat_lt (generation_of u) b.generation) (Drops OldGeneration) _
      (λ f. let h : generation_of u < b.generation = ltb-true _ _ f in absurd (let e' : generation_of u ≡ b.generation = e in omega arith))
      (λ _. either (Tells part opened g b issued honest bag (picks_upward k t p u)) (nat_lt b.generation (generation_of u)) (Drops LaterGeneration) _
      (λ f. let h : b.generation < generation_of u = ltb-true _ _ f in absurd (let e' : generation_of u ≡ b.generation = e in omega arith))
      (λ _. inner-follows u said))))
      (λ n. subst (λ v. Tells part opened g b issued honest bag (cond v (picks_upward k t p u) k) (taking b (record { tab = t; partition = p; inner = u }))) (sym (ne_eqb (generation_of u) g (λ e. n (e ∙ sym gen))))
      (either (Tells part opened g b issued honest bag k) (nat_lt (generation_of u) b.generation) (Drops OldGeneration) _
      (λ _. (kept, tie))
      (λ e. either (Tells part opened g b issued honest bag k) (nat_lt b.generation (generation_of u)) (Drops LaterGeneration) _
      (λ _. (kept, tie))
      (λ f. let h : b.generation ≤ generation_of u = ltb-false _ _ e in let i : generation_of u ≤ b.generation = ltb-false _ _ f in absurd (n (omega arith))))))
      (cases_eq (generation_of u) b.generation)
