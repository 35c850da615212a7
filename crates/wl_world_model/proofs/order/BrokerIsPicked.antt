-- Relation between picked lists and the broker: the state of a broker that is up, and the answers in the bag
-- for each generation.
use Rattle.std.proofs.Common.{◌≡◌, ◌≢◌, ⊎_elim, ℕ, ◌<◌, Bool, true, false, cond, not, ◌&&◌, ◌||◌, Option, Some, None, List, [], ◌∷◌, ◌++◌, refl, sym, ap, ap₂, ◌∙◌, subst, append_assoc, append-nil}
use Rattle.std.specs.Prelude.{◌==◌}
use Rattle.std.specs.List.{list_all}
use Rattle.std.proofs.lemmas.Bool.{cases_eq, eqb-true}
use Rattle.wl_draft.specs.declared.row.Row.{Row}
use Rattle.wl_draft.specs.Locks.{newly_granted_if, settle, settle_if, has_pair}
use Rattle.wl_grammar.specs.declared.frame.Operation.{Operation}
use Rattle.wl_broker.specs.declared.seat.TabSeat.{TabSeat}
use Rattle.wl_broker.specs.declared.seat.TabSeat.TheVariants.{Joined, Dead}
use Rattle.wl_draft.specs.Tables.{find}
use Rattle.wl_broker_reports.specs.ReportParts.{Partial, without_partial}
use Rattle.wl_broker.specs.Broker.{BrokerState, seat_of, manager_of, has_arrived as seat_has_come, is_active}
use Rattle.wl_world_messages.specs.declared.message.Message.{Message}
use Rattle.wl_world_messages.specs.Messages.{sent_all}
use Rattle.wl_draft.specs.Membership.{In, Here, Later}
use Rattle.wl_draft.proofs.Membership.{either, In-append_cases, In-one}
use Rattle.wl_world_messages.proofs.Same.{sent_all-keeps, sent_all-cases}
use Rattle.wl_world_model.specs.Orders.{Act, Item, Picked, of_partition, of_tab, has_death, has_report, next_of, limit_of, is_complete, done, managed, probe_grants, grants_of, adds, WasHeld, HasAnswer}
use Rattle.wl_world_model.proofs.exclusion.HeldAfterSettling.{Stands, settle-stands}
use Rattle.wl_world_model.proofs.exclusion.ToldParts.{AllBelow, find-without}
use Rattle.wl_world_model.proofs.exclusion.Invariant.{HasGrant}
use Rattle.wl_world_model.proofs.order.OneMoreItem.{item, of_partition-push_same, of_partition-push_other, of_tab-push_same, of_tab-push_other, of_tab-own, managed-push, split-push}
use Rattle.wl_world_model.proofs.order.RunsOfCommands.{Ordered}

-- The seat that a tab's items determine.
abbrev pub seat_by : ℕ → List Item → Option TabSeat
seat_by p mine = cond (has_death mine) (Some Dead) (cond (has_report mine) (Some (Joined p (next_of mine) (limit_of mine))) None)

seat_by-come : (d r : Bool) (p n l : ℕ) → seat_has_come (cond d (Some Dead) (cond r (Some (Joined p n l)) None)) ≡ (r || d)
seat_by-come true true p n l = refl
seat_by-come true false p n l = refl
seat_by-come false true p n l = refl
seat_by-come false false p n l = refl

-- Each item's tab was opened and belongs to the item's partition.
module _ (part : ℕ → ℕ) (opened : ℕ → Bool) where
  abbrev pub Placed : List Item → Type 0
  Placed items = (x : Item) → In x items → (opened x.tab ≡ true) × (x.partition ≡ part x.tab)

  pub record Tied (b : BrokerState) (k : Picked) : Type 0 where
    pub same : b.listed ≡ k.listed
    pub places : (t q : ℕ) → In (t, q) b.listed → (opened t ≡ true) × (part t ≡ q)
    pub seats : (t : ℕ) → seat_of b t ≡ seat_by (part t) (of_tab t k.items)
    pub managers : (p : ℕ) → manager_of b p ≡ managed p k.listed (of_partition p k.items)
    pub entries : (p : ℕ) (r : Row) → Stands r (manager_of b p) → (n l : ℕ) × (seat_of b r.client ≡ Some (Joined p n l)) × (r.number < n)
    pub partial : b.partial ≡ k.partial
    pub below : (t : ℕ) (x : Partial) → find k.partial t ≡ Some x → AllBelow x.base x.came

  abbrev pub Told : List Message → ℕ → ℕ → List (ℕ × ℕ) → List Item → Type 0
  Told bag g p listed items = (before later : List Item) (x : Item) (r : Row) → before ++ x ∷ later ≡ items → In r (grants_of p listed before x) → HasAnswer bag g r

  -- Facts about a generation's list, which hold while it is up and afterwards.
  pub record LiveCommand (g : ℕ) (issued : ℕ → List Operation) (honest : ℕ → Type 0) (bag : List Message) (k : Picked) : Type 0 where
    pub placed : Placed k.items
    pub ordered : (t : ℕ) → Ordered (honest t) (issued t) (of_tab t k.items)
    pub held : (t n : ℕ) → HasGrant bag t g n → (opened t ≡ true) × WasHeld k (part t) t n
    pub told : (p : ℕ) → Told bag g p k.listed (of_partition p k.items)

  -- A partition is active if its list is complete

  pub own-tab : (items : List Item) (t p : ℕ) → Placed items → part t ≡ p → of_tab t (of_partition p items) ≡ of_tab t items
  own-tab items t p placed e = of_tab-own t p items (λ x i s. (placed x i).1 ∙ (ap part s ∙ e))

  or_when : (c a b : Bool) → (c ≡ true → a ≡ b) → (not c || a) ≡ (not c || b)
  or_when true a b f = f refl
  or_when false a b f = refl

  came-complete : (b : BrokerState) (k : Picked) (p : ℕ) → Placed k.items → ((t : ℕ) → seat_of b t ≡ seat_by (part t) (of_tab t k.items))
      → (xs : List (ℕ × ℕ)) → ((t q : ℕ) → In (t, q) xs → part t ≡ q) → list_all (λ x. not (x.1 == p) || seat_has_come (seat_of b x.0)) xs ≡ is_complete p xs (of_partition p k.items)
  came-complete b k p placed seats [] home = refl
  came-complete b k p placed seats (x ∷ xs) home =
      ap₂ ◌&&◌
      (or_when (x.1 == p) _ _ (λ e.
      let own = own-tab k.items x.0 p placed (home x.0 x.1 Here ∙ eqb-true x.1 p e) in
      ap seat_has_come (seats x.0) ∙ seat_by-come (has_death (of_tab x.0 k.items)) (has_report (of_tab x.0 k.items)) (part x.0) (next_of (of_tab x.0 k.items)) (limit_of (of_tab x.0 k.items))
      ∙ ap (λ zs. has_report zs || has_death zs) (sym own)))
      (came-complete b k p placed seats xs (λ t q i. home t q (Later i)))

  pub active-complete : (b : BrokerState) (k : Picked) (p : ℕ) → Placed k.items → b.listed ≡ k.listed → ((t q : ℕ) → In (t, q) b.listed → (opened t ≡ true) × (part t ≡ q)) → ((t : ℕ) → seat_of b t ≡ seat_by (part t) (of_tab t k.items))
      → is_active b p ≡ is_complete p k.listed (of_partition p k.items)
  unfolding is_active
  active-complete b k p placed same places seats =
      came-complete b k p placed seats b.listed (λ t q i. (places t q i).1) ∙ ap (λ xs. is_complete p xs (of_partition p k.items)) same

  -- One more item

  pub seats-more : (b after : BrokerState) (k : Picked) (t p : ℕ) (a : Act)
      → ((u : ℕ) → seat_of b u ≡ seat_by (part u) (of_tab u k.items))
      → ((u : ℕ) → t ≢ u → seat_of after u ≡ seat_of b u)
      → seat_of after t ≡ seat_by (part t) (of_tab t k.items ++ item t p a ∷ [])
      → (u : ℕ) → seat_of after u ≡ seat_by (part u) (of_tab u (adds t p a k).items)
  seats-more b after k t p a seats else now u = ⊎_elim
      (λ e. subst (λ v. seat_of after v ≡ seat_by (part v) (of_tab v (k.items ++ item t p a ∷ []))) e (now ∙ ap (seat_by (part t)) (sym (of_tab-push_same k.items t p a))))
      (λ e. else u e ∙ (seats u ∙ ap (seat_by (part u)) (sym (of_tab-push_other u k.items t p a e))))
      (cases_eq t u)

  module _ (b after : BrokerState) (k : Picked) (t p : ℕ) (a : Act)
      (tie : Tied b k) (placed : Placed k.items) (open_now : opened t ≡ true) (home : p ≡ part t)
      (listed : after.listed ≡ b.listed)
      (seats : (u : ℕ) → seat_of after u ≡ seat_by (part u) (of_tab u (adds t p a k).items))
      (here_now : manager_of after p ≡ settle_if (is_active after p) (done t a (manager_of b p)))
      (elsewhere : (q : ℕ) → p ≢ q → manager_of after q ≡ manager_of b q) where
    placed-more : Placed (adds t p a k).items
    placed-more x i = ⊎_elim (λ j. placed x j) (λ j. subst (λ z. (opened z.tab ≡ true) × (z.partition ≡ part z.tab)) (sym (In-one j)) (open_now, home)) (In-append_cases k.items (item t p a ∷ []) i)

    places-more : (u q : ℕ) → In (u, q) after.listed → (opened u ≡ true) × (part u ≡ q)
    places-more u q i = tie.places u q (subst (λ xs. In (u, q) xs) listed i)

    -- The partition is active after the item exactly if its list with the item is complete.
    complete-after : is_active after p ≡ is_complete p k.listed (of_partition p k.items ++ item t p a ∷ [])
    complete-after = active-complete after (adds t p a k) p placed-more (listed ∙ tie.same) places-more seats ∙ ap (is_complete p k.listed) (of_partition-push_same k.items t p a)

    managers-more : (q : ℕ) → manager_of after q ≡ managed q k.listed (of_partition q (adds t p a k).items)
    managers-more q = ⊎_elim
        (λ e. subst (λ v. manager_of after v ≡ managed v k.listed (of_partition v (adds t p a k).items)) e
        (here_now
        ∙ (ap₂ (λ c m. settle_if c (done t a m)) complete-after (tie.managers p)
        ∙ sym (ap (managed p k.listed) (of_partition-push_same k.items t p a) ∙ managed-push p k.listed (of_partition p k.items) (item t p a)))))
        (λ e. elsewhere q e ∙ (tie.managers q ∙ ap (managed q k.listed) (sym (of_partition-push_other q k.items t p a e))))
        (cases_eq p q)

    module _
        (given_up : after.partial ≡ without_partial t b.partial)
        (stay : (q : ℕ) (r : Row) → p ≢ q → Stands r (manager_of b q) → (n l : ℕ) × (seat_of after r.client ≡ Some (Joined q n l)) × (r.number < n))
        (new : (r : Row) → Stands r (done t a (manager_of b p)) → (n l : ℕ) × (seat_of after r.client ≡ Some (Joined p n l)) × (r.number < n)) where
      after-stands : (r : Row) → Stands r (manager_of after p) → Stands r (done t a (manager_of b p))
      after-stands r h = either (λ m. Stands r m → Stands r (done t a (manager_of b p))) (is_active after p) (settle (done t a (manager_of b p))) (done t a (manager_of b p))
          (λ _ i. settle-stands (done t a (manager_of b p)) i) (λ _ i. i) (subst (Stands r) here_now h)

      pub tied-more : Tied after (adds t p a k)
      tied-more = record {
        same = listed ∙ tie.same;
        places = places-more;
        seats = seats;
        managers = managers-more;
        entries = λ q r h. ⊎_elim
            (λ s. subst (λ v. (n l : ℕ) × (seat_of after r.client ≡ Some (Joined v n l)) × (r.number < n)) s (new r (after-stands r (subst (λ v. Stands r (manager_of after v)) (sym s) h))))
            (λ s. stay q r s (subst (Stands r) (elsewhere q s) h))
            (cases_eq p q);
        partial = given_up ∙ ap (without_partial t) tie.partial;
        below = λ u x e. tie.below u x (find-without t u x k.partial e);
      }

    module _ (g : ℕ) (issued : ℕ → List Operation) (honest : ℕ → Type 0) (bag outs : List Message) (kept : LiveCommand g issued honest bag k)
        (ordered : Ordered (honest t) (issued t) (of_tab t k.items ++ item t p a ∷ []))
        (spoken : (u n : ℕ) → HasGrant outs u g n → (opened u ≡ true) × (part u ≡ p) × (has_pair u n (manager_of after p).held ≡ true))
        (said : (r : Row) → In r (probe_grants (manager_of b p) t a ++ newly_granted_if (is_active after p) (done t a (manager_of b p))) → HasAnswer (sent_all outs bag) g r) where
      longer : (q u n : ℕ) → WasHeld k q u n → WasHeld (adds t p a k) q u n
      longer q u n h = ⊎_elim
          (λ e. (
            h.0,
            h.1 ++ item t p a ∷ [],
            subst (λ v. h.0 ++ (h.1 ++ item t p a ∷ []) ≡ of_partition v (adds t p a k).items) e
                (sym (append_assoc h.0 h.1 (item t p a ∷ [])) ∙ (ap (λ zs. zs ++ item t p a ∷ []) (h.2 ∙ ap (λ v. of_partition v k.items) (sym e)) ∙ sym (of_partition-push_same k.items t p a))),
            h.3,
          ))
          (λ e. (h.0, h.1, h.2 ∙ sym (of_partition-push_other q k.items t p a e), h.3))
          (cases_eq p q)

      held-now : (u n : ℕ) → part u ≡ p → has_pair u n (manager_of after p).held ≡ true → WasHeld (adds t p a k) (part u) u n
      held-now u n e h = subst (λ v. WasHeld (adds t p a k) v u n) (sym e)
          (of_partition p (adds t p a k).items, [], append-nil _, subst (λ m. has_pair u n m.held ≡ true) (managers-more p) h)

      grants-before : (q : ℕ) (before : List Item) (x : Item) (r : Row) → (before ≡ of_partition p k.items) × (x ≡ item t p a) → p ≡ q → In r (grants_of q k.listed before x) → In r (probe_grants (manager_of b p) t a ++ newly_granted_if (is_active after p) (done t a (manager_of b p)))
      grants-before q before x r s f i =
          subst (λ m. In r (probe_grants m t a ++ newly_granted_if (is_active after p) (done t a m))) (sym (tie.managers p))
          (subst (λ c. In r (probe_grants (managed p k.listed (of_partition p k.items)) t a ++ newly_granted_if c (done t a (managed p k.listed (of_partition p k.items))))) (sym complete-after)
          (subst (λ y. In r (grants_of p k.listed (of_partition p k.items) y)) s.1 (subst (λ zs. In r (grants_of p k.listed zs x)) s.0 (subst (λ v. In r (grants_of v k.listed before x)) (sym f) i))))

      keep : (r : Row) → HasAnswer bag g r → HasAnswer (sent_all outs bag) g r
      keep r h = (h.0, sent_all-keeps outs bag h.1)

      pub kept-more : LiveCommand g issued honest (sent_all outs bag) (adds t p a k)
      kept-more = record {
        placed = placed-more;
        ordered = λ u. ⊎_elim
            (λ e. subst (λ v. Ordered (honest v) (issued v) (of_tab v (k.items ++ item t p a ∷ []))) e (subst (Ordered (honest t) (issued t)) (sym (of_tab-push_same k.items t p a)) ordered))
            (λ e. subst (Ordered (honest u) (issued u)) (sym (of_tab-push_other u k.items t p a e)) (kept.ordered u))
            (cases_eq t u);
        held = λ u n h. ⊎_elim
            (λ i. let o = kept.held u n (h.0, h.1, i, h.3, h.4, h.5) in (o.0, longer (part u) u n o.1))
            (λ i. let o = spoken u n (h.0, h.1, i, h.3, h.4, h.5) in (o.0, held-now u n o.1 o.2))
            (sent_all-cases outs bag h.2);
        told = λ q. ⊎_elim
            (λ f. λ before rest x r s i. ⊎_elim
            (λ o. said r (grants-before q before x r o f i))
            (λ o. keep r (kept.told q before o.0 x r (o.1 ∙ ap (λ v. of_partition v k.items) f) i))
            (split-push before rest (of_partition p k.items) x (item t p a) (s ∙ (ap (λ v. of_partition v (adds t p a k).items) (sym f) ∙ of_partition-push_same k.items t p a))))
            (λ f. λ before rest x r s i. keep r (kept.told q before rest x r (s ∙ of_partition-push_other q k.items t p a f) i))
            (cases_eq p q);
      }
