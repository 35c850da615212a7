-- Openings and deaths of tabs, the events that change the tabs of a partition.
use Rattle.std.proofs.Common.{◌≡◌, ⊎_elim, ℕ, Bool, true, false, cond, not, ◌&&◌, ◌||◌, eqb, List, [], ◌∷◌, ◌++◌, length, map, filter, Option, Some, None, is_some, refl, sym, ap, ◌∙◌, subst, append-nil, arith}
use Rattle.std.specs.Prelude.{◌==◌, nat_le}
use Rattle.wl_draft.proofs.RisingTables.{Rises-put, put-cases}
use Rattle.wl_broadcast.specs.Channels.{ChannelState, no_channels}
use Rattle.wl_agent.specs.Tab.{TabState, born}
use Rattle.std.proofs.lemmas.Bool.{and_parts, or_cases, or_parts, or_from, cond-true, cond-false, eq-eqb}
use Rattle.std.proofs.lemmas.Bool.Decides.{nat_tests}
use Rattle.std.proofs.lemmas.List.Elements.{filter-append}
use Rattle.wl_origin.specs.Order.{Pair, pair_eq}
use Rattle.wl_origin.proofs.OrderLemmas.{pair_eq-decides}
use Rattle.wl_draft.specs.Tables.{Table}
use Rattle.wl_draft.specs.Locks.{Locks}
use Rattle.wl_broker.specs.declared.seat.TabSeat.{TabSeat}
use Rattle.wl_broker.specs.declared.seat.TabSeat.TheVariants.{Joined, Dead}
use Rattle.wl_broker.specs.Broker.{BrokerState}
use Rattle.wl_kernel.specs.declared.fault.OpenFault.TheVariants.{NumberTaken, TooManyLiving, PartitionFull}
use Rattle.wl_kernel.specs.Kernel.{KernelState, OpenedTab, tab_of as opened_tab, is_of, is_opened, living_tabs, living_of, living_limit, partition_limit, open_refusal, new_tab, opened as kernel_opened, ended, killed}
use Rattle.wl_kernel.proofs.OpenedTabs.{tabs-push, tabs-ended, tab_in-push, tab_in-push_kept, open_is_allowed}
use Rattle.wl_world_messages.specs.declared.message.Message.{Message}
use Rattle.wl_world_messages.specs.declared.message.Message.TheVariants.{Up, Down, Across}
use Rattle.wl_draft.specs.Membership.{In}
use Rattle.wl_draft.proofs.Membership.{apart, either}
use Rattle.wl_limits.specs.declared.tabs.TheConstants.{COMMAND_LIMIT}
use Rattle.wl_world_model.specs.World.{WorldState, lives, with_kernel, with_rows, opens_as, kills}
use Rattle.wl_world_model.specs.Apart.{was_opened_in, is_in, only, tab_at, kernel_for, up_for, world_for, part, is_own_open}
use Rattle.wl_world_model.proofs.exclusion.OpenedTabs.{ended-opened}
use Rattle.wl_world_model.proofs.exclusion.ActsWithinAGeneration.{after}
use Rattle.wl_world_model.proofs.apart.Cuts.{filter-same, only-insert_sorted, only-put_out}
use Rattle.wl_world_model.proofs.apart.CutKernel.{own-tab, own-living, living-part, living_of-part, killed-part, killed-in, killed-others, none-part}
use Rattle.wl_world_model.proofs.apart.OnePartition.{Mates, Seated, Managed}
use Rattle.wl_world_model.proofs.apart.ToldApart.{opened, opened-tab, in-opened, Posted, FitsUp, OrderlyFor, Orderly}
use Rattle.wl_world_model.proofs.apart.CutEvents.{allowed-Orderly, allowed-own, allowed-out, none-from, none-to}

abbrev with_tabs : WorldState → List OpenedTab → WorldState
with_tabs w os = record w { kernel = record w.kernel { opened = os } }

-- A tab dies

killed-opened : (t : ℕ) (k : KernelState) (u : ℕ) → opened (killed t k) u ≡ opened k u
unfolding opened
killed-opened t k u = ended-opened t k.opened u

killed-Orderly : (p : Pair) (w : WorldState) (t : ℕ) → Orderly p w → Orderly p (after w (with_kernel (killed t w.kernel) w))
killed-Orderly p w t h =
    let v = after w (with_kernel (killed t w.kernel) w) in
    subst (λ z. OrderlyFor z (is_in p (killed t w.kernel)) v) (λ i u. sym (killed-opened t w.kernel u) i)
    (subst (λ z. OrderlyFor (opened w.kernel) z v) (λ i u. sym (killed-in p t w.kernel u) i)
    (record {
      kernel = tabs-ended t w.kernel.opened h.kernel;
      tabs = h.tabs;
      tabs_rise = h.tabs_rise;
      channels = h.channels;
      channels_rise = h.channels_rise;
      corrupt = h.corrupt;
      broker = h.broker;
      bag = h.bag;
    }))

pub kills-Orderly : (p : Pair) (w : WorldState) (t : ℕ) → Orderly p w → Orderly p (after w (kills w t))
kills-Orderly p w t h = allowed-Orderly p w (lives w t) (with_kernel (killed t w.kernel) w) h (λ _. killed-Orderly p w t h)

killed-world : (p : Pair) (w : WorldState) (t : ℕ) → part p (after w (with_kernel (killed t w.kernel) w)) ≡ with_tabs (part p w) (map (ended t) (filter (is_of p) w.kernel.opened))
killed-world p w t =
    ap (λ z. world_for z p (after w (with_kernel (killed t w.kernel) w))) (λ i u. killed-in p t w.kernel u i)
    ∙ ap (with_tabs (part p w)) (killed-part p t w.kernel.opened)

pub own-kills : (p : Pair) (w : WorldState) (t : ℕ) → is_in p w.kernel t ≡ true → part p (after w (kills w t)) ≡ after (part p w) (kills (part p w) t)
own-kills p w t e =
    allowed-own p w (lives (part p w) t) (lives w t) (with_kernel (killed t (kernel_for p w.kernel)) (part p w)) (with_kernel (killed t w.kernel) w)
    (own-living p w.kernel t e) (λ _. killed-world p w t)

pub out-kills : (p : Pair) (w : WorldState) (t : ℕ) → is_in p w.kernel t ≡ false → Orderly p w → part p (after w (kills w t)) ≡ part p w
out-kills p w t e h =
    allowed-out p w (lives w t) (with_kernel (killed t w.kernel) w)
    (λ _. killed-world p w t ∙ ap (with_tabs (part p w)) (killed-others p t w.kernel h.kernel e))

-- A tab is opened: the partition keeps its tabs

-- The invariant carries over to a second pair of tests that agrees with the first on every opened tab.
module _ (g f g' f' : ℕ → Bool) (old : (k : ℕ) → g k ≡ true → g' k ≡ true) (same : (k : ℕ) → g k ≡ true → f' k ≡ f k) where
  old-Mates : (k q : ℕ) → Mates g f k q → Mates g' f' k q
  old-Mates k q m = record { left = old k m.left; right = old q m.right; alike = same k m.left ∙ m.alike ∙ sym (same q m.right) }

  old-Seated : (t : ℕ) (s : TabSeat) → Seated g f t s → Seated g' f' t s
  old-Seated t (Joined p n l) m = old-Mates t p m
  old-Seated t Dead e = old t e

  old-Managed : (p : ℕ) (m : Locks) → Managed g f p m → Managed g' f' p m
  old-Managed p m s = (old-Mates p p s.0, ((λ r i. old-Mates r.client p (s.1.0 r i)), (λ r i. old-Mates r.client p (s.1.1 r i))))

  old-Fits : (v : Option BrokerState) → FitsUp g f v → FitsUp g' f' v
  old-Fits None h = tt
  old-Fits (Some b) h = record {
    listed = λ x i. old-Mates x.0 x.1 (h.listed x i);
    seats = λ x i. old-Seated x.0 x.1 (h.seats x i);
    managers = λ x i. old-Managed x.0 x.1 (h.managers x i);
    seats_rise = h.seats_rise;
    managers_rise = h.managers_rise;
    partial = λ x i. old x.0 (h.partial x i);
    partial_rise = h.partial_rise;
  }

  old-Posted : (m : Message) → Posted g f m → Posted g' f' m
  old-Posted (Up s) m = old-Mates s.tab s.partition m
  old-Posted (Down v x) e = old x.tab e
  old-Posted (Across t x) m = old-Mates t x.source m

  posted-same : (m : Message) → Posted g f m → f' (tab_at m) ≡ f (tab_at m)
  posted-same (Up s) m = same s.tab m.left
  posted-same (Down v x) e = same x.tab e
  posted-same (Across t x) m = same t m.left

  seated-same : (t : ℕ) (s : TabSeat) → Seated g f t s → f' t ≡ f t
  seated-same t (Joined p n l) m = same t m.left
  seated-same t Dead e = same t e

  -- Two tests that agree on all numbers in a table select the same rows.
  only-same : {X : Type 0} (rows : Table X) → ((x : ℕ × X) → In x rows → f' x.0 ≡ f x.0) → only f' rows ≡ only f rows
  only-same rows h = filter-same (λ row. f' row.0) (λ row. f row.0) rows h

  up-same : (v : Option BrokerState) → FitsUp g f v → up_for f' v ≡ up_for f v
  up-same None h = refl
  up-same (Some b) h =
      let listed = only-same b.listed (λ x i. same x.0 (h.listed x i).left) in
      let seats = only-same b.seats (λ x i. seated-same x.0 x.1 (h.seats x i)) in
      let managers = only-same b.managers (λ x i. same x.0 (h.managers x i).0.left) in
      let partial = only-same b.partial (λ x i. same x.0 (h.partial x i)) in
      λ i. Some (record { generation = b.generation; listed = listed i; seats = seats i; managers = managers i; partial = partial i })

module _ (p : Pair) (w : WorldState) (t : ℕ) (q : Pair) (h : Orderly p w) (allowed : open_refusal t q w.kernel ≡ None) where
  abbrev new : OpenedTab
  new = new_tab t q w.kernel.generation

  abbrev k' : KernelState
  k' = kernel_opened t q w.kernel

  unopened : opened_tab w.kernel t ≡ None
  unopened = (open_is_allowed t q w.kernel allowed).1

  kept-tab : (u : ℕ) → opened w.kernel u ≡ true → opened_tab k' u ≡ opened_tab w.kernel u
  kept-tab u e = let o = opened-tab w.kernel u e in tab_in-push_kept w.kernel.opened new u o.0 o.1 ∙ sym o.1

  old-opened : (u : ℕ) → opened w.kernel u ≡ true → opened k' u ≡ true
  unfolding opened
  old-opened u e = ap is_some (kept-tab u e) ∙ e

  old-in : (u : ℕ) → opened w.kernel u ≡ true → is_in p k' u ≡ is_in p w.kernel u
  unfolding is_in
  old-in u e = ap (was_opened_in p) (kept-tab u e)

  opening-Orderly : Orderly p (after w (with_kernel k' w))
  opening-Orderly =
      let g = opened w.kernel in
      let f = is_in p w.kernel in
      record {
        kernel = tabs-push w.kernel.opened new (open_is_allowed t q w.kernel allowed).0 unopened h.kernel;
        tabs = λ x i. old-opened x.0 (h.tabs x i);
        tabs_rise = h.tabs_rise;
        channels = λ x i. old-opened x.0 (h.channels x i);
        channels_rise = h.channels_rise;
        corrupt = λ u i. old-opened u (h.corrupt u i);
        broker = old-Fits g f (opened k') (is_in p k') old-opened old-in w.broker h.broker;
        bag = λ m i. old-Posted g f (opened k') (is_in p k') old-opened old-in m (h.bag m i);
      }

  -- The opening changes only the kernel's list of tabs in the partition's part.
  opening-part : part p (after w (with_kernel k' w)) ≡ with_tabs (part p w) (filter (is_of p) w.kernel.opened ++ filter (is_of p) (new ∷ []))
  opening-part =
      let g = opened w.kernel in
      let f = is_in p w.kernel in
      let f' = is_in p k' in
      let tabs = only-same g f (opened k') f' old-opened old-in w.tabs (λ x i. old-in x.0 (h.tabs x i)) in
      let channels = only-same g f (opened k') f' old-opened old-in w.channels (λ x i. old-in x.0 (h.channels x i)) in
      let broker = up-same g f (opened k') f' old-opened old-in w.broker h.broker in
      let bag = filter-same (λ m. f' (tab_at m)) (λ m. f (tab_at m)) w.bag (λ m i. posted-same g f (opened k') f' old-opened old-in m (h.bag m i)) in
      let corrupt = filter-same f' f w.corrupt (λ u i. old-in u (h.corrupt u i)) in
      let tabs_opened = filter-append (is_of p) w.kernel.opened (new ∷ []) in
      λ i. record { tabs = tabs i; channels = channels i; kernel = record w.kernel { opened = tabs_opened i }; broker = broker i; bag = bag i; corrupt = corrupt i }

  out-opening : pair_eq q p ≡ false → part p (after w (with_kernel k' w)) ≡ part p w
  out-opening e = opening-part ∙ ap (with_tabs (part p w)) (ap (λ z. filter (is_of p) w.kernel.opened ++ z) (cond-false (pair_eq q p) (new ∷ []) [] e) ∙ append-nil (filter (is_of p) w.kernel.opened))

  in-opening : pair_eq q p ≡ true → part p (after w (with_kernel k' w)) ≡ after (part p w) (with_kernel (kernel_opened t q (kernel_for p w.kernel)) (part p w))
  in-opening e = opening-part ∙ ap (λ z. with_tabs (part p w) (filter (is_of p) w.kernel.opened ++ z)) (cond-true (pair_eq q p) (new ∷ []) [] e)

-- Refusals of an opening

record Opening (t : ℕ) (q : Pair) (k : KernelState) : Type 0 where
  unused : (t == 0 || is_opened k t) ≡ false
  room : nat_le living_limit (length (living_tabs k)) ≡ false
  own_room : nat_le partition_limit (length (living_of k q)) ≡ false

opening-parts : (t : ℕ) (q : Pair) (k : KernelState) → open_refusal t q k ≡ None → Opening t q k
opening-parts t q k =
    either (λ z. z ≡ None → Opening t q k) (t == 0 || is_opened k t) (Some NumberTaken)
    (cond (nat_le living_limit (length (living_tabs k))) (Some TooManyLiving) (cond (nat_le partition_limit (length (living_of k q))) (Some PartitionFull) None))
    (λ _ s. cc)
    (λ n. either (λ z. z ≡ None → Opening t q k) (nat_le living_limit (length (living_tabs k))) (Some TooManyLiving) (cond (nat_le partition_limit (length (living_of k q))) (Some PartitionFull) None)
    (λ _ s. cc)
    (λ m. either (λ z. z ≡ None → Opening t q k) (nat_le partition_limit (length (living_of k q))) (Some PartitionFull) None
    (λ _ s. cc)
    (λ o _. record { unused = n; room = m; own_room = o })))

parts-opening : (t : ℕ) (q : Pair) (k : KernelState) → Opening t q k → open_refusal t q k ≡ None
parts-opening t q k s = cond-false _ _ _ s.unused ∙ cond-false _ _ _ s.room ∙ cond-false _ _ _ s.own_room

-- An opening that the world accepts is accepted by the world of its partition alone.
part-opening : (p : Pair) (k : KernelState) (t : ℕ) → open_refusal t p k ≡ None → open_refusal t p (kernel_for p k) ≡ None
part-opening p k t e =
    let s = opening-parts t p k e in
    let n : nat_le 64 (length (living_of k p)) ≡ false = s.own_room in
    let m : nat_le 1024 (length (living_of k p)) ≡ false = grind (arith, nat_tests) in
    parts-opening t p (kernel_for p k) (record {
      unused = or_from (t == 0) (is_opened (kernel_for p k) t) (or_parts (t == 0) (is_opened k t) s.unused).0 (ap is_some (none-part (is_of p) k.opened t (open_is_allowed t p k e).1));
      room = ap (λ z. nat_le living_limit (length z)) (living-part p k) ∙ m;
      own_room = ap (λ z. nat_le partition_limit (length z)) (living_of-part p k) ∙ s.own_room;
    })

-- Rows of the new tab

-- The new tab is found, with the partition that the opening names.
new-opened : (t : ℕ) (q : Pair) (k : KernelState) → open_refusal t q k ≡ None → opened_tab (kernel_opened t q k) t ≡ Some (new_tab t q k.generation)
new-opened t q k a =
    tab_in-push k.opened (new_tab t q k.generation) t (open_is_allowed t q k a).1 ∙ cond-true (eqb t t) (Some (new_tab t q k.generation)) None (eq-eqb t t refl)

new-in : (p : Pair) (t : ℕ) (q : Pair) (k : KernelState) → open_refusal t q k ≡ None → is_in p (kernel_opened t q k) t ≡ pair_eq q p
unfolding is_in
new-in p t q k a = ap (was_opened_in p) (new-opened t q k a)

new-known : (t : ℕ) (q : Pair) (k : KernelState) → open_refusal t q k ≡ None → opened (kernel_opened t q k) t ≡ true
unfolding opened
new-known t q k a = ap is_some (new-opened t q k a)

-- The world after the kernel's opening, before the tab has its rows.
abbrev opening_world : WorldState → ℕ → Pair → WorldState
opening_world w t q = record w { kernel = kernel_opened t q w.kernel }

module _ (p : Pair) (i : Bool) where
  rows-Orderly : (v : WorldState) (t : ℕ) → opened v.kernel t ≡ true → Orderly p v → Orderly p (with_rows i t v)
  rows-Orderly v t e h = record {
    kernel = h.kernel;
    tabs = λ x j. ⊎_elim (λ c. ap (λ (z : ℕ × TabState). opened v.kernel z.0) c ∙ e) (λ k. h.tabs x k) (put-cases t (born i t COMMAND_LIMIT) v.tabs j);
    tabs_rise = Rises-put 0 t (born i t COMMAND_LIMIT) v.tabs (omega arith) h.tabs_rise;
    channels = λ x j. ⊎_elim (λ c. ap (λ (z : ℕ × ChannelState). opened v.kernel z.0) c ∙ e) (λ k. h.channels x k) (put-cases t (no_channels t) v.channels j);
    channels_rise = Rises-put 0 t (no_channels t) v.channels (omega arith) h.channels_rise;
    corrupt = h.corrupt;
    broker = h.broker;
    bag = h.bag;
  }

  own-rows : (v : WorldState) (t : ℕ) → is_in p v.kernel t ≡ true → Orderly p v → part p (with_rows i t v) ≡ with_rows i t (part p v)
  own-rows v t e h =
      let tabs = only-insert_sorted (is_in p v.kernel) t (born i t COMMAND_LIMIT) 0 v.tabs e h.tabs_rise in
      let channels = only-insert_sorted (is_in p v.kernel) t (no_channels t) 0 v.channels e h.channels_rise in
      λ j. record (part p v) { tabs = tabs j; channels = channels j }

  out-rows : (v : WorldState) (t : ℕ) → is_in p v.kernel t ≡ false → part p (with_rows i t v) ≡ part p v
  out-rows v t e =
      let tabs = only-put_out (is_in p v.kernel) t (born i t COMMAND_LIMIT) v.tabs e in
      let channels = only-put_out (is_in p v.kernel) t (no_channels t) v.channels e in
      λ j. record (part p v) { tabs = tabs j; channels = channels j }

  pub opens-Orderly : (w : WorldState) (t : ℕ) (q : Pair) → Orderly p w → Orderly p (after w (opens_as i w t q))
  opens-Orderly w t q h =
      allowed-Orderly p w (not (is_some (open_refusal t q w.kernel))) (with_kernel (kernel_opened t q w.kernel) (with_rows i t w)) h
      (λ e. let a = none-from (open_refusal t q w.kernel) e in rows-Orderly (opening_world w t q) t (new-known t q w.kernel a) (opening-Orderly p w t q h a))

  -- Opening a tab again changes nothing.
  again : (w : WorldState) (t : ℕ) (q : Pair) → is_opened w.kernel t ≡ true → after w (opens_as i w t q) ≡ w
  again w t q e =
      either (λ z. after w z ≡ w) (not (is_some (open_refusal t q w.kernel))) (with_kernel (kernel_opened t q w.kernel) (with_rows i t w)) (record { world = w; sends = [] })
      (λ a. apart e (ap is_some (open_is_allowed t q w.kernel (none-from (open_refusal t q w.kernel) a)).1))
      (λ _. refl)

  own-opens_again : (w : WorldState) (t : ℕ) (q : Pair) → is_in p w.kernel t ≡ true → part p (after w (opens_as i w t q)) ≡ after (part p w) (opens_as i (part p w) t q)
  unfolding opened
  own-opens_again w t q e =
      let known : is_opened w.kernel t ≡ true = in-opened p w.kernel t e in
      ap (part p) (again w t q known) ∙ sym (again (part p w) t q (ap is_some (own-tab p w.kernel t e) ∙ known))

  own-opens_new : (w : WorldState) (t : ℕ) → Orderly p w → not (is_some (open_refusal t p w.kernel)) ≡ true → part p (after w (opens_as i w t p)) ≡ after (part p w) (opens_as i (part p w) t p)
  own-opens_new w t h e =
      let a : open_refusal t p w.kernel ≡ None = none-from (open_refusal t p w.kernel) e in
      let own : pair_eq p p ≡ true = (pair_eq-decides p p).1 refl in
      allowed-own p w (not (is_some (open_refusal t p (kernel_for p w.kernel)))) (not (is_some (open_refusal t p w.kernel)))
      (with_kernel (kernel_opened t p (kernel_for p w.kernel)) (with_rows i t (part p w))) (with_kernel (kernel_opened t p w.kernel) (with_rows i t w))
      (none-to _ (part-opening p w.kernel t a) ∙ sym e)
      (λ _. own-rows (opening_world w t p) t (new-in p t p w.kernel a ∙ own) (opening-Orderly p w t p h a) ∙ ap (with_rows i t) (in-opening p w t p h a own))

  pub own-opens : (w : WorldState) (t : ℕ) (q : Pair) → is_own_open p w t q ≡ true → Orderly p w → part p (after w (opens_as i w t q)) ≡ after (part p w) (opens_as i (part p w) t q)
  own-opens w t q e h = ⊎_elim
      (λ y. own-opens_again w t q y)
      (λ y. let a = and_parts (not (is_some (open_refusal t q w.kernel))) (pair_eq q p) y in
      let s : q ≡ p = (pair_eq-decides q p).0 a.1 in
      subst (λ z. part p (after w (opens_as i w t z)) ≡ after (part p w) (opens_as i (part p w) t z)) (sym s)
      (own-opens_new w t h (subst (λ z. not (is_some (open_refusal t z w.kernel)) ≡ true) s a.0)))
      (or_cases (is_in p w.kernel t) (not (is_some (open_refusal t q w.kernel)) && pair_eq q p) e)

  pub out-opens : (w : WorldState) (t : ℕ) (q : Pair) → is_own_open p w t q ≡ false → Orderly p w → part p (after w (opens_as i w t q)) ≡ part p w
  out-opens w t q e h =
      let n = or_parts (is_in p w.kernel t) (not (is_some (open_refusal t q w.kernel)) && pair_eq q p) e in
      allowed-out p w (not (is_some (open_refusal t q w.kernel))) (with_kernel (kernel_opened t q w.kernel) (with_rows i t w))
      (λ a. let r = none-from (open_refusal t q w.kernel) a in
      let other : pair_eq q p ≡ false = sym (ap (λ b. b && pair_eq q p) a) ∙ n.1 in
      out-rows (opening_world w t q) t (new-in p t q w.kernel r ∙ other) ∙ out-opening p w t q h r other)
