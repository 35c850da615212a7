-- Events of the broker and the kernel, restricted to a partition.
use Rattle.std.proofs.Common.{◌≡◌, ◌⊎◌, inl, inr, ⊎_elim, ℕ, suc, ◌+◌, ◌≤◌, Bool, true, false, cond, not, ◌&&◌, List, [], ◌∷◌, ◌++◌, append-nil, length, map, filter, Option, Some, None, is_some, refl, sym, ap, ap₂, ◌∙◌, subst, arith}
use Rattle.std.specs.Prelude.{◌==◌, nat_lt}
use Rattle.std.proofs.lemmas.Bool.{and_parts, and_from, cond-true, cond-false, eqb-true}
use Rattle.std.specs.List.{list_any}
use Rattle.std.proofs.lemmas.List.Elements.{filter-append}
use Rattle.std.proofs.lemmas.Bool.Decides.{nat_tests}
use Rattle.wl_origin.specs.Order.{Pair}
use Rattle.wl_grammar.specs.declared.frame.Addressed.{Addressed}
use Rattle.wl_grammar.specs.declared.frame.Stamped.{Stamped}
use Rattle.wl_broker.specs.Broker.{BrokerState, started, hellos, hello_to, taking, death_step}
use Rattle.wl_kernel.specs.declared.fault.StartFault.TheVariants.{TooManyListed, NotRising}
use Rattle.wl_kernel.specs.Kernel.{KernelState, OpenedTab, any_tab, is_of, is_opened, insert_sorted, living_in, living_tabs, living_of, list_limit, rises_from, rises, is_listed, is_older, is_from_before, first_such, stranger, missing, absence, start_refusal, placed, partition_number, may_stop, stopped}
use Rattle.wl_kernel.proofs.RisingNumbers.{rises_from-weaker, rises_first, rises_rest, rises_cons}
use Rattle.wl_world_messages.specs.declared.message.Sender.TheVariants.{Kernel}
use Rattle.wl_world_messages.specs.declared.message.Message.{Message}
use Rattle.wl_world_messages.specs.declared.message.Message.TheVariants.{Down}
use Rattle.wl_world_messages.specs.Messages.{sent_all}
use Rattle.wl_draft.specs.Membership.{In, Here, Later}
use Rattle.wl_draft.proofs.Membership.{apart, either, In-nil, In-one, In-cons_cases, In-map_cases, In-filter_cases, In-append_cases, by_test, map-same}
use Rattle.wl_world_messages.proofs.Same.{sent_all-cases}
use Rattle.wl_world_model.specs.World.{WorldState, StepResult, unchanged, if_allowed, lives, from_broker, arrives_at_broker, tells, stops, starts, greets, taken_over, corrupts}
use Rattle.wl_world_model.proofs.AtBroker.{follows, buries as buries_tab, begins}
use Rattle.wl_world_model.specs.Apart.{is_in, only, tab_at, mail, kernel_for, broker_for, up_for, part, stops_now, starts_now}
use Rattle.wl_world_model.proofs.exclusion.ActsWithinAGeneration.{after}
use Rattle.wl_world_model.proofs.apart.Cuts.{any-filter, filter-map}
use Rattle.wl_world_model.proofs.apart.CutMail.{mail-sent_all, sends-in, sends-out, mail-outs}
use Rattle.wl_world_model.proofs.apart.CutKernel.{side, own-tab, own-number, own-living, living-part, In-living, In-insert_sorted}
use Rattle.wl_world_model.proofs.apart.OnePartition.{Mates, taking-Fits, burial-Fits, buries}
use Rattle.wl_world_model.proofs.apart.CutBroker.{own-taking, out-taking, own-death_step, out-death_step}
use Rattle.wl_world_model.proofs.apart.ToldApart.{opened, Posted, FitsUp, Orderly, living-opened, number-Mates, follows-Orderly, own-follows, out-follows}

-- A choice by one test in both worlds

pub allowed-Orderly : (p : Pair) (w : WorldState) (b : Bool) (d : StepResult) → Orderly p w → (b ≡ true → Orderly p (after w d)) → Orderly p (after w (if_allowed b w d))
allowed-Orderly p w b d h f = either (λ x. Orderly p (after w x)) b d (unchanged w) f (λ _. h)

pub allowed-own : (p : Pair) (w : WorldState) (c b : Bool) (e d : StepResult) → c ≡ b → (b ≡ true → part p (after w d) ≡ after (part p w) e)
    → part p (after w (if_allowed b w d)) ≡ after (part p w) (if_allowed c (part p w) e)
allowed-own p w c b e d s f =
    by_test (λ v. part p (after w (if_allowed v w d)) ≡ after (part p w) (if_allowed v (part p w) e)) b f (λ _. refl)
    ∙ ap (λ v. after (part p w) (if_allowed v (part p w) e)) (sym s)

pub allowed-out : (p : Pair) (w : WorldState) (b : Bool) (d : StepResult) → (b ≡ true → part p (after w d) ≡ part p w) → part p (after w (if_allowed b w d)) ≡ part p w
allowed-out p w b d f = either (λ x. part p (after w x) ≡ part p w) b d (unchanged w) f (λ _. refl)

-- A message to the broker

pub up-Orderly : (p : Pair) (w : WorldState) (x : Stamped) (v : Option BrokerState) → Mates (opened w.kernel) (is_in p w.kernel) x.tab x.partition → FitsUp (opened w.kernel) (is_in p w.kernel) v
    → Orderly p w → Orderly p (after w (arrives_at_broker w x v))
up-Orderly p w x None m i h = h
up-Orderly p w x (Some b) m i h = follows-Orderly p w (taking b x) (taking-Fits (opened w.kernel) (is_in p w.kernel) b x m i) h

pub own-up : (p : Pair) (w : WorldState) (x : Stamped) (v : Option BrokerState) → is_in p w.kernel x.tab ≡ true → Mates (opened w.kernel) (is_in p w.kernel) x.tab x.partition → FitsUp (opened w.kernel) (is_in p w.kernel) v
    → part p (after w (arrives_at_broker w x v)) ≡ after (part p w) (arrives_at_broker (part p w) x (up_for (is_in p w.kernel) v))
own-up p w x None e m i = refl
own-up p w x (Some b) e m i = own-follows p w (taking b x) ∙ ap (λ y. after (part p w) (follows (part p w) y)) (sym (own-taking (opened w.kernel) (is_in p w.kernel) b x e m i))

pub out-up : (p : Pair) (w : WorldState) (x : Stamped) (v : Option BrokerState) → w.broker ≡ v → is_in p w.kernel x.tab ≡ false → Mates (opened w.kernel) (is_in p w.kernel) x.tab x.partition → FitsUp (opened w.kernel) (is_in p w.kernel) v
    → part p (after w (arrives_at_broker w x v)) ≡ part p w
out-up p w x None c e m i = refl
out-up p w x (Some b) c e m i = out-follows p w b (taking b x) c (out-taking (opened w.kernel) (is_in p w.kernel) b x e m i)

-- A death notice

tells-opened : (w : WorldState) (t : ℕ) → (is_opened w.kernel t && not (lives w t)) ≡ true → opened w.kernel t ≡ true
unfolding opened
tells-opened w t e = (and_parts _ _ e).0

pub tells-Orderly : (p : Pair) (w : WorldState) (t : ℕ) (v : Option BrokerState) → FitsUp (opened w.kernel) (is_in p w.kernel) v → Orderly p w → Orderly p (after w (tells w t v))
tells-Orderly p w t None i h = h
tells-Orderly p w t (Some b) i h =
    allowed-Orderly p w (is_opened w.kernel t && not (lives w t)) (buries_tab w t b) h
    (λ e. follows-Orderly p w (buries (opened w.kernel) (is_in p w.kernel) (death_step b t)) (burial-Fits (opened w.kernel) (is_in p w.kernel) b t (tells-opened w t e) i) h)

pub own-tells : (p : Pair) (w : WorldState) (t : ℕ) (v : Option BrokerState) → is_in p w.kernel t ≡ true → FitsUp (opened w.kernel) (is_in p w.kernel) v
    → part p (after w (tells w t v)) ≡ after (part p w) (tells (part p w) t (up_for (is_in p w.kernel) v))
own-tells p w t None e i = refl
own-tells p w t (Some b) e i =
    let g = opened w.kernel in
    let f = is_in p w.kernel in
    allowed-own p w (is_opened (kernel_for p w.kernel) t && not (lives (part p w) t)) (is_opened w.kernel t && not (lives w t)) (buries_tab (part p w) t (broker_for f b)) (buries_tab w t b)
    (ap₂ (λ o l. is_some o && not l) (own-tab p w.kernel t e) (own-living p w.kernel t e))
    (λ y. own-follows p w (buries g f (death_step b t)) ∙ ap (λ z. after (part p w) (follows (part p w) z)) (sym (own-death_step g f b t e (tells-opened w t y) i)))

pub out-tells : (p : Pair) (w : WorldState) (t : ℕ) (v : Option BrokerState) → w.broker ≡ v → is_in p w.kernel t ≡ false → FitsUp (opened w.kernel) (is_in p w.kernel) v → part p (after w (tells w t v)) ≡ part p w
out-tells p w t None c e i = refl
out-tells p w t (Some b) c e i =
    let g = opened w.kernel in
    let f = is_in p w.kernel in
    allowed-out p w (is_opened w.kernel t && not (lives w t)) (buries_tab w t b)
    (λ y. out-follows p w b (buries g f (death_step b t)) c (out-death_step g f b t e (tells-opened w t y) i))

-- A hello of the kernel

abbrev greeting : WorldState → ℕ → Message
greeting w t = Down Kernel (hello_to w.kernel.generation t)

pub greets-Orderly : (p : Pair) (w : WorldState) (t : ℕ) (v : Option BrokerState) → Orderly p w → Orderly p (after w (greets w t v))
greets-Orderly p w t None h = h
greets-Orderly p w t (Some b) h =
    allowed-Orderly p w (lives w t) (record { world = w; sends = greeting w t ∷ [] }) h
    (λ e. record {
      kernel = h.kernel;
      tabs = h.tabs;
      tabs_rise = h.tabs_rise;
      channels = h.channels;
      channels_rise = h.channels_rise;
      corrupt = h.corrupt;
      broker = h.broker;
      bag = λ m j. ⊎_elim (λ l. h.bag m l) (λ l. subst (Posted (opened w.kernel) (is_in p w.kernel)) (sym (In-one l)) (living-opened w.kernel t e)) (sent_all-cases (greeting w t ∷ []) w.bag j);
    })

pub own-greets : (p : Pair) (w : WorldState) (t : ℕ) (v : Option BrokerState) → is_in p w.kernel t ≡ true → part p (after w (greets w t v)) ≡ after (part p w) (greets (part p w) t (up_for (is_in p w.kernel) v))
own-greets p w t None e = refl
own-greets p w t (Some b) e =
    let f = is_in p w.kernel in
    allowed-own p w (lives (part p w) t) (lives w t) (record { world = part p w; sends = greeting w t ∷ [] }) (record { world = w; sends = greeting w t ∷ [] }) (own-living p w.kernel t e)
    (λ _. ap (λ z. record (part p w) { bag = z }) (sends-in f (greeting w t ∷ []) w.bag (λ m i. subst (λ (z : Message). f (tab_at z) ≡ true) (sym (In-one i)) e)))

pub out-greets : (p : Pair) (w : WorldState) (t : ℕ) (v : Option BrokerState) → is_in p w.kernel t ≡ false → part p (after w (greets w t v)) ≡ part p w
out-greets p w t None e = refl
out-greets p w t (Some b) e =
    let f = is_in p w.kernel in
    allowed-out p w (lives w t) (record { world = w; sends = greeting w t ∷ [] })
    (λ _. ap (λ z. record (part p w) { bag = z }) (sends-out f (greeting w t ∷ []) w.bag (λ m i. subst (λ (z : Message). f (tab_at z) ≡ false) (sym (In-one i)) e)))

-- A tab is taken over

taken-cases : (t : ℕ) (ts : List ℕ) (u : ℕ) → In u (taken_over t ts) → In u ts ⊎ (u ≡ t)
taken-cases t ts u =
    either (λ zs. In u zs → In u ts ⊎ (u ≡ t)) (list_any (λ v. v == t) ts) ts (ts ++ t ∷ [])
    (λ _ i. inl i)
    (λ _ i. ⊎_elim (λ a. inl a) (λ b. inr (In-one b)) (In-append_cases ts (t ∷ []) i))

pub any-own : (f : ℕ → Bool) (t : ℕ) (ts : List ℕ) → f t ≡ true → list_any (λ u. u == t) (filter f ts) ≡ list_any (λ u. u == t) ts
any-own f t ts e = any-filter (λ u. u == t) f (λ u s. ap f (eqb-true u t s) ∙ e) ts

taken-own : (f : ℕ → Bool) (t : ℕ) (ts : List ℕ) → f t ≡ true → filter f (taken_over t ts) ≡ taken_over t (filter f ts)
taken-own f t ts e =
    by_test (λ v. list_any (λ u. u == t) ts ≡ v → filter f (cond v ts (ts ++ t ∷ [])) ≡ taken_over t (filter f ts)) (list_any (λ u. u == t) ts)
    (λ s _. sym (cond-true _ _ _ (any-own f t ts e ∙ s)))
    (λ n _. filter-append f ts (t ∷ []) ∙ ap (λ z. filter f ts ++ z) (cond-true _ _ _ e) ∙ sym (cond-false _ _ _ (any-own f t ts e ∙ n)))
    refl

taken-out : (f : ℕ → Bool) (t : ℕ) (ts : List ℕ) → f t ≡ false → filter f (taken_over t ts) ≡ filter f ts
taken-out f t ts e =
    by_test (λ v. filter f (cond v ts (ts ++ t ∷ [])) ≡ filter f ts) (list_any (λ u. u == t) ts)
    (λ _. refl)
    (λ _. filter-append f ts (t ∷ []) ∙ ap (λ z. filter f ts ++ z) (cond-false _ _ _ e) ∙ append-nil (filter f ts))

pub corrupts-Orderly : (p : Pair) (w : WorldState) (t : ℕ) → Orderly p w → Orderly p (after w (corrupts w t))
corrupts-Orderly p w t h =
    allowed-Orderly p w (lives w t) (unchanged (record w { corrupt = taken_over t w.corrupt })) h
    (λ e. record {
      kernel = h.kernel;
      tabs = h.tabs;
      tabs_rise = h.tabs_rise;
      channels = h.channels;
      channels_rise = h.channels_rise;
      corrupt = λ u i. ⊎_elim (λ a. h.corrupt u a) (λ b. ap (opened w.kernel) b ∙ living-opened w.kernel t e) (taken-cases t w.corrupt u i);
      broker = h.broker;
      bag = h.bag;
    })

pub own-corrupts : (p : Pair) (w : WorldState) (t : ℕ) → is_in p w.kernel t ≡ true → part p (after w (corrupts w t)) ≡ after (part p w) (corrupts (part p w) t)
own-corrupts p w t e =
    let f = is_in p w.kernel in
    allowed-own p w (lives (part p w) t) (lives w t) (unchanged (record (part p w) { corrupt = taken_over t (filter f w.corrupt) })) (unchanged (record w { corrupt = taken_over t w.corrupt })) (own-living p w.kernel t e)
    (λ _. ap (λ z. record (part p w) { corrupt = z }) (taken-own f t w.corrupt e))

pub out-corrupts : (p : Pair) (w : WorldState) (t : ℕ) → is_in p w.kernel t ≡ false → part p (after w (corrupts w t)) ≡ part p w
out-corrupts p w t e =
    let f = is_in p w.kernel in
    allowed-out p w (lives w t) (unchanged (record w { corrupt = taken_over t w.corrupt }))
    (λ _. ap (λ z. record (part p w) { corrupt = z }) (taken-out f t w.corrupt e))

-- Stops

pub stops-Orderly : (p : Pair) (w : WorldState) (v : Option BrokerState) → Orderly p w → Orderly p (after w (stops w v))
unfolding opened is_in
stops-Orderly p w None h = h
stops-Orderly p w (Some b) h =
    allowed-Orderly p w (may_stop w.kernel) (unchanged (record w { kernel = stopped w.kernel; broker = None })) h
    (λ _. record {
      kernel = h.kernel;
      tabs = h.tabs;
      tabs_rise = h.tabs_rise;
      channels = h.channels;
      channels_rise = h.channels_rise;
      corrupt = h.corrupt;
      broker = tt;
      bag = h.bag;
    })

pub own-stops : (p : Pair) (w : WorldState) (v : Option BrokerState) → part p (after w (stops w v)) ≡ after (part p w) (stops (part p w) (up_for (is_in p w.kernel) v))
unfolding is_in
own-stops p w None = refl
own-stops p w (Some b) =
    allowed-own p w (may_stop w.kernel) (may_stop w.kernel) (unchanged (record (part p w) { kernel = stopped (kernel_for p w.kernel); broker = None })) (unchanged (record w { kernel = stopped w.kernel; broker = None })) refl
    (λ _. refl)

pub out-stops : (w : WorldState) (v : Option BrokerState) → stops_now w v ≡ false → after w (stops w v) ≡ w
out-stops w None e = refl
out-stops w (Some b) e = ap (λ b. after w (if_allowed b w (unchanged (record w { kernel = stopped w.kernel; broker = None })))) e

-- Starts

none-such : (test : ℕ → Bool) (ts : List ℕ) → first_such test ts ≡ None → (t : ℕ) → In t ts → test t ≡ false
none-such test [] e t i = absurd (In-nil i)
none-such test (u ∷ ts) e t i =
    either (λ z. z ≡ None → test t ≡ false) (test u) (Some u) (first_such test ts)
    (λ _ s. cc)
    (λ n s. ⊎_elim (λ j. ap test j ∙ n) (λ j. none-such test ts s t j) (In-cons_cases i))
    e

such-none : (test : ℕ → Bool) (ts : List ℕ) → ((t : ℕ) → In t ts → test t ≡ false) → first_such test ts ≡ None
such-none test [] h = refl
such-none test (t ∷ ts) h = cond-false _ _ _ (h t Here) ∙ such-none test ts (λ u i. h u (Later i))

record Started (k : KernelState) (ts : List ℕ) : Type 0 where
  few : nat_lt list_limit (length ts) ≡ false
  rising : rises ts ≡ true
  known : stranger k ts ≡ None
  complete : missing k ts ≡ None

absence-parts : (s m : Option ℕ) → absence s m ≡ None → (s ≡ None) × (m ≡ None)
absence-parts (Some t) m e = cc
absence-parts None (Some t) e = cc
absence-parts None None e = (refl, refl)

started-parts : (k : KernelState) (ts : List ℕ) → start_refusal ts k ≡ None → Started k ts
started-parts k ts =
    either (λ z. z ≡ None → Started k ts) (nat_lt list_limit (length ts)) (Some TooManyListed) (cond (rises ts) (absence (stranger k ts) (missing k ts)) (Some NotRising))
    (λ _ s. cc)
    (λ n. either (λ z. z ≡ None → Started k ts) (rises ts) (absence (stranger k ts) (missing k ts)) (Some NotRising)
    (λ r s. let a = absence-parts (stranger k ts) (missing k ts) s in record { few = n; rising = r; known = a.0; complete = a.1 })
    (λ _ s. cc))

parts-started : (k : KernelState) (ts : List ℕ) → Started k ts → start_refusal ts k ≡ None
parts-started k ts s = cond-false _ _ _ s.few ∙ cond-true _ _ _ s.rising ∙ ap₂ absence s.known s.complete

filter-length : (f : ℕ → Bool) (ts : List ℕ) → length (filter f ts) ≤ length ts
filter-length f [] = omega arith
filter-length f (t ∷ ts) =
    let i : length (filter f ts) ≤ length ts = filter-length f ts in
    either (λ z. length z ≤ suc (length ts)) (f t) (t ∷ filter f ts) (filter f ts) (λ _. omega arith) (λ _. omega arith)

rises-filter : (f : ℕ → Bool) (a : ℕ) (ts : List ℕ) → rises_from a ts ≡ true → rises_from a (filter f ts) ≡ true
rises-filter f a [] e = refl
rises-filter f a (t ∷ ts) e =
    let l : a ≤ t = rises_first a t ts e in
    let r = rises-filter f (t + 1) ts (rises_rest a t ts e) in
    either (λ z. rises_from a z ≡ true) (f t) (t ∷ filter f ts) (filter f ts)
    (λ _. rises_cons a t (filter f ts) l r)
    (λ _. rises_from-weaker a (t + 1) (filter f ts) (omega arith) r)

put_in-more : (n t : ℕ) (ns : List ℕ) → (t ≡ n) ⊎ In t ns → In t (insert_sorted n ns)
put_in-more n t [] i = ⊎_elim (λ e. subst (λ z. In t (z ∷ [])) e Here) (λ j. absurd (In-nil j)) i
put_in-more n t (m ∷ ms) i =
    either (In t) (nat_lt m n) (m ∷ insert_sorted n ms) (n ∷ m ∷ ms)
    (λ _. ⊎_elim
    (λ e. Later (put_in-more n t ms (inl e)))
    (λ j. ⊎_elim (λ s. subst (λ z. In t (z ∷ insert_sorted n ms)) s Here) (λ l. Later (put_in-more n t ms (inr l))) (In-cons_cases j)) i)
    (λ _. ⊎_elim (λ e. subst (λ z. In t (z ∷ m ∷ ms)) e Here) (λ j. Later j) i)

living-any : (test : OpenedTab → Bool) (os : List OpenedTab) (t : ℕ) → In t (living_in test os) → In t (living_in any_tab os)
living-any test [] t i = i
living-any test (o ∷ os) t i =
    either (λ zs. In t zs → In t (living_in any_tab (o ∷ os))) (o.living && test o) (insert_sorted o.tab (living_in test os)) (living_in test os)
    (λ e j. subst (λ b. In t (cond b (insert_sorted o.tab (living_in any_tab os)) (living_in any_tab os))) (sym (and_from o.living true (and_parts _ _ e).0 refl))
    (put_in-more o.tab t (living_in any_tab os) (⊎_elim (λ s. inl s) (λ l. inr (living-any test os t l)) (In-insert_sorted o.tab t (living_in test os) j))))
    (λ _ j. either (In t) (o.living && true) (insert_sorted o.tab (living_in any_tab os)) (living_in any_tab os)
    (λ _. put_in-more o.tab t (living_in any_tab os) (inr (living-any test os t j)))
    (λ _. living-any test os t j))
    i

known-opened : (k : KernelState) (t : ℕ) → not (is_opened k t) ≡ false → opened k t ≡ true
unfolding opened
known-opened k t n = by_test (λ b. not b ≡ false → b ≡ true) (is_opened k t) (λ _ _. refl) (λ _ e. apart refl e) n

module _ (p : Pair) (w : WorldState) (ts : List ℕ) (h : Orderly p w) where
  abbrev f : ℕ → Bool
  f = is_in p w.kernel

  abbrev k : KernelState
  k = kernel_for p w.kernel

  own-stranger : stranger w.kernel ts ≡ None → stranger k (filter f ts) ≡ None
  own-stranger e = such-none (λ t. not (is_opened k t)) (filter f ts) (λ t i.
      let c = In-filter_cases f ts i in
      ap (λ o. not (is_some o)) (own-tab p w.kernel t c.1) ∙ none-such (λ t. not (is_opened w.kernel t)) ts e t c.0)

  own-missing : missing w.kernel ts ≡ None → missing k (filter f ts) ≡ None
  own-missing e = such-none (λ t. is_from_before k t && not (is_listed (filter f ts) t)) (living_tabs k) (λ t i.
      let j : In t (living_of w.kernel p) = subst (In t) (living-part p w.kernel) i in
      let o = In-living (is_of p) w.kernel.opened t j in
      let own : f t ≡ true = ap f (sym o.3) ∙ side p w.kernel o.0 h.kernel o.1 ∙ o.2 in
      ap₂ (λ a b. is_older w.kernel.generation a && not b) (own-tab p w.kernel t own) (any-filter (λ n. n == t) f (λ n s. ap f (eqb-true n t s) ∙ own) ts)
      ∙ none-such (λ t. is_from_before w.kernel t && not (is_listed ts t)) (living_tabs w.kernel) e t (living-any (is_of p) w.kernel.opened t j))

  own-started : Started w.kernel ts → Started k (filter f ts)
  own-started s = record {
    few = let l : length (filter f ts) ≤ length ts = filter-length f ts in let n : nat_lt 1024 (length ts) ≡ false = s.few in grind (arith, nat_tests);
    rising = rises-filter f 0 ts s.rising;
    known = own-stranger s.known;
    complete = own-missing s.complete;
  }

  placed-only : only f (placed ts w.kernel) ≡ placed (filter f ts) k
  placed-only =
      filter-map (λ x. f x.0) (λ t. (t, partition_number w.kernel t)) ts
      ∙ map-same (λ t. (t, partition_number w.kernel t)) (λ t. (t, partition_number k t)) (filter f ts) (λ t i. ap (λ n. (t, n)) (sym (own-number p w.kernel t (In-filter_cases f ts i).1)))

  own-begins : part p (after w (begins w ts)) ≡ after (part p w) (begins (part p w) (filter f ts))
  own-begins =
      let g = w.kernel.generation in
      ap (λ z. record (part p w) { broker = Some (broker_for f (started g (placed ts w.kernel))); bag = z })
      (mail-sent_all f _ w.bag ∙ ap (λ z. sent_all z (mail f w.bag)) (mail-outs f (hellos g (placed ts w.kernel)) ∙ ap (map from_broker) (filter-map (λ (x : Addressed). f x.tab) (λ x. hello_to g x.0) (placed ts w.kernel))))
      ∙ ap (λ z. record (part p w) { broker = Some (started g z); bag = sent_all (map from_broker (hellos g z)) (mail f w.bag) }) placed-only

  begins-Orderly : Started w.kernel ts → Orderly p (after w (begins w ts))
  begins-Orderly s =
      let g = w.kernel.generation in
      let known : (t : ℕ) → In t ts → opened w.kernel t ≡ true = λ t i. known-opened w.kernel t (none-such (λ t. not (is_opened w.kernel t)) ts s.known t i) in
      record {
        kernel = h.kernel;
        tabs = h.tabs;
        tabs_rise = h.tabs_rise;
        channels = h.channels;
        channels_rise = h.channels_rise;
        corrupt = h.corrupt;
        broker = record {
          listed = λ x i. let o = In-map_cases (λ t. (t, partition_number w.kernel t)) ts i in
              subst (λ (z : ℕ × ℕ). Mates (opened w.kernel) f z.0 z.1) (sym o.2) (number-Mates p w.kernel o.0 h.kernel (known o.0 o.1));
          seats = λ x i. absurd (In-nil i);
          managers = λ x i. absurd (In-nil i);
          seats_rise = tt;
          managers_rise = tt;
          partial = λ x i. absurd (In-nil i);
          partial_rise = tt;
        };
        bag = λ m j. ⊎_elim (λ l. h.bag m l)
            (λ l. let a = In-map_cases from_broker (hellos g (placed ts w.kernel)) l in
            let b = In-map_cases (λ x. hello_to g x.0) (placed ts w.kernel) a.1 in
            let c = In-map_cases (λ t. (t, partition_number w.kernel t)) ts b.1 in
            subst (Posted (opened w.kernel) f) (sym (a.2 ∙ ap from_broker (b.2 ∙ ap (λ (x : ℕ × ℕ). hello_to g x.0) c.2))) (known c.0 c.1))
            (sent_all-cases _ w.bag j);
      }

pub none-from : {X : Type 0} (x : Option X) → not (is_some x) ≡ true → x ≡ None
none-from None e = refl
none-from (Some x) e = apart e refl

pub none-to : {X : Type 0} (x : Option X) → x ≡ None → not (is_some x) ≡ true
none-to x e = ap (λ z. not (is_some z)) e

pub starts-Orderly : (p : Pair) (w : WorldState) (ts : List ℕ) (v : Option BrokerState) → Orderly p w → Orderly p (after w (starts w ts v))
starts-Orderly p w ts (Some b) h = h
starts-Orderly p w ts None h =
    allowed-Orderly p w (not (is_some (start_refusal ts w.kernel))) (begins w ts) h
    (λ e. begins-Orderly p w ts h (started-parts w.kernel ts (none-from (start_refusal ts w.kernel) e)))

pub own-starts : (p : Pair) (w : WorldState) (ts : List ℕ) (v : Option BrokerState) → starts_now w ts v ≡ true → Orderly p w
    → part p (after w (starts w ts v)) ≡ after (part p w) (starts (part p w) (filter (is_in p w.kernel) ts) (up_for (is_in p w.kernel) v))
own-starts p w ts (Some b) e h = apart e refl
own-starts p w ts None e h =
    let r : start_refusal ts w.kernel ≡ None = none-from (start_refusal ts w.kernel) e in
    let own : start_refusal (filter (is_in p w.kernel) ts) (kernel_for p w.kernel) ≡ None = parts-started _ _ (own-started p w ts h (started-parts w.kernel ts r)) in
    allowed-own p w (not (is_some (start_refusal (filter (is_in p w.kernel) ts) (kernel_for p w.kernel)))) (not (is_some (start_refusal ts w.kernel)))
    (begins (part p w) (filter (is_in p w.kernel) ts)) (begins w ts) (none-to _ own ∙ sym e) (λ _. own-begins p w ts h)

pub out-starts : (w : WorldState) (ts : List ℕ) (v : Option BrokerState) → starts_now w ts v ≡ false → after w (starts w ts v) ≡ w
out-starts w ts (Some b) e = refl
out-starts w ts None e = ap (λ b. after w (if_allowed b w (begins w ts))) e
