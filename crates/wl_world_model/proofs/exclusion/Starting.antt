-- Hellos, stops of the broker, and starts of the next one.
use Rattle.std.proofs.Common.{◌≡◌, ⊎_elim, ℕ, suc, ◌+◌, ◌<◌, ◌≤◌, Bool, true, false, cond, not, ◌&&◌, List, [], ◌∷◌, length, map, Option, Some, None, is_some, refl, sym, ap, ◌∙◌, subst, arith, le_refl}
use Rattle.std.specs.Prelude.{◌==◌, nat_lt}
use Rattle.std.proofs.lemmas.Bool.{eqb-true, lt-ltb, not-true, not-false, and_cases}
use Rattle.wl_draft.specs.declared.row.Row.{Row}
use Rattle.wl_broker.specs.Broker.{BrokerState, started, hellos, hello_to}
use Rattle.wl_kernel.specs.declared.fault.StartFault.TheVariants.{TooManyListed, NotRising}
use Rattle.wl_kernel.specs.Kernel.{KernelState, OpenedTab, tab_in, tab_of as opened_tab_of, is_opened, lives as lives_in, insert_sorted, any_tab, living_in, living_tabs, partition_number, list_limit, rises, is_listed, is_older, is_from_before, first_such, stranger, missing, absence, start_refusal, placed, may_stop, stopped}
use Rattle.wl_world_messages.specs.declared.message.Sender.{Sender}
use Rattle.wl_world_messages.specs.declared.message.Sender.TheVariants.{Kernel, Broker}
use Rattle.wl_world_messages.specs.declared.message.Message.{Message}
use Rattle.wl_world_messages.specs.declared.message.Message.TheVariants.{Down}
use Rattle.wl_world_messages.specs.Messages.{sent_all}
use Rattle.wl_draft.specs.Membership.{In, Here, Later}
use Rattle.wl_draft.proofs.Membership.{apart, either, In-nil, In-cons_cases, In-head, In-one, In-map, In-map_cases, list_any-In}
use Rattle.wl_world_model.specs.World.{WorldState, tab_of, lives, partition_of, unchanged, from_broker, stops, starts, greets}
use Rattle.wl_world_model.proofs.AtBroker.{with_broker, begins}
use Rattle.wl_world_model.specs.Holdings.{IsHonest}
use Rattle.wl_world_model.proofs.exclusion.HeldAfterSettling.{Compatible-fewer}
use Rattle.wl_world_model.proofs.exclusion.Invariant.{Sound, Claim, Counts, stands, reported, carried, generation, limit, limit_in, was_opened, opening_in, opening, row_at}
use Rattle.wl_world_model.proofs.exclusion.CoverExcludes.{claim_of, living_opened}
use Rattle.wl_world_model.proofs.exclusion.Entering.{limit-le}
use Rattle.wl_world_model.proofs.exclusion.ActsWithinAGeneration.{after, allowed-sound}
use Rattle.wl_world_model.proofs.exclusion.SayingAndPosting.{Says, said-sound}

-- Hellos are sent

-- The message is a hello of the current generation to an opened tab.
abbrev pub Greets : WorldState → Message → Type 0
Greets w m = (v : Sender) × (u : ℕ) × (m ≡ Down v (hello_to (generation w) u)) × (was_opened w u ≡ true)

-- A world with a broker that is up stays sound when such hellos enter the bag.
greetings-sound : (w : WorldState) → Sound w → generation w < limit w → (ms : List Message) → ((m : Message) → In m ms → Greets w m) → Sound (record w { bag = sent_all ms w.bag })
greetings-sound w s now ms greetings = said-sound w s ms (λ m i. let o = greetings m i in subst (Says w) (sym o.2) (refl, now, o.3))

pub greets-sound : (w : WorldState) (t : ℕ) (v : Option BrokerState) → w.broker ≡ v → Sound w → Sound (after w (greets w t v))
greets-sound w t None e s = s
greets-sound w t (Some b) e s =
    allowed-sound w (lives w t) (record { world = w; sends = Down Kernel (hello_to w.kernel.generation t) ∷ [] }) s
    (λ l. greetings-sound w s (subst (λ z. generation w < limit_in (generation w) z) (sym e) (le_refl (suc (generation w)))) (Down Kernel (hello_to w.kernel.generation t) ∷ [])
    (λ m i. (Kernel, t, In-one i, living_opened _ l)))

-- A broker stops

module _ (w : WorldState) (s : Sound w) where
  abbrev down_world : WorldState
  down_world = record w { kernel = stopped w.kernel; broker = None }

  low : (t : ℕ) → (tab_of w t).entered ≤ generation w
  low t = let lt : (tab_of w t).entered < limit w = (s.tabs t).entered in let le : limit w ≤ suc (generation w) = limit-le (generation w) w.broker in omega arith

  stopped-claim : (p : ℕ) (r : Row) → IsHonest w r.client → Claim down_world p r → Claim w p r
  stopped-claim p r y (stands h) = absurd (In-nil h)
  stopped-claim p r y (reported c) = absurd (let le : (tab_of w r.client).entered ≤ generation w = low r.client in let e : (tab_of w r.client).entered ≡ generation w + 1 = c.2 in omega arith)
  stopped-claim p r y (carried c) =
      subst (λ z. Claim w p z) (sym c.2) (subst (λ z. Claim w z (row_at r.client (tab_of w r.client) r.number)) c.0 (claim_of w s r.client r.number y c.3))

  stopped-sound : Sound (record w { kernel = stopped w.kernel; broker = None })
  stopped-sound = record {
    positive = omega arith;
    current = refl;
    tabs = λ t. let m = s.tabs t in let since : opening w t ≤ generation w = m.since in record {
      state = m.state;
      entered = let le : (tab_of w t).entered ≤ generation w = low t in omega arith;
      unopened = m.unopened;
      since = omega arith;
      newcomer = λ e. absurd (let f : opening w t ≡ generation w + 1 = e in omega arith);
    };
    messages = λ t. let m = s.messages t in let le : limit w ≤ suc (generation w) = limit-le (generation w) w.broker in record {
      held = m.held;
      commands = m.commands;
      reports = m.reports;
      grants = λ g k h. let o = m.grants g k h in let lt : g < limit w = o.1 in (o.0, omega arith, o.2);
      hellos = λ v h i. let o = m.hellos v h i in let lt : h.generation < limit w = o.1 in
          (o.0, omega arith, o.2, λ e. absurd (let le : opening w t ≤ generation w = (s.tabs t).since in let f : opening w t ≡ generation w + 1 = e in omega arith));
    };
    seats = λ t. record { partial = λ k e. cc; joined = λ y j. apart j refl; named = λ d. apart d refl; lists = λ up. apart up refl };
    locks = record {
      granted = λ t g k h e. absurd (let lt : g < limit w = ((s.messages t).grants g k h).1 in let le : limit w ≤ suc (generation w) = limit-le (generation w) w.broker in let f : g ≡ generation w + 1 = e in omega arith);
      known = λ p r i. absurd (⊎_elim (λ a. In-nil a) (λ a. In-nil a) i);
      covers = λ t k y c e j. apart j refl;
      agree = λ p. Compatible-fewer (Counts down_world p) (Counts w p) (λ r c. (c.0, stopped-claim p r c.0 c.1)) (s.locks.agree p);
    };
  }

pub stops-sound : (w : WorldState) (v : Option BrokerState) → Sound w → Sound (after w (stops w v))
stops-sound w None s = s
stops-sound w (Some b) s =
    allowed-sound w (may_stop w.kernel) (unchanged (record w { kernel = stopped w.kernel; broker = None })) s (λ _. stopped-sound w s)

-- A broker starts

-- The broker that starts lists each living tab opened in an earlier generation.
started-sound : (w : WorldState) (listed : List (ℕ × ℕ)) → Sound (record w { broker = None }) → ((t : ℕ) → opening w t < generation w → lives w t ≡ true → In (t, partition_of w t) listed)
    → Sound (with_broker (started w.kernel.generation listed) w)
started-sound w listed s all = record {
  positive = s.positive;
  current = refl;
  tabs = λ t. let m = s.tabs t in record {
    state = m.state;
    entered = let lt : (tab_of w t).entered < generation w = m.entered in omega arith;
    unopened = m.unopened;
    since = m.since;
    newcomer = m.newcomer;
  };
  messages = λ t. let m = s.messages t in record {
    held = m.held;
    commands = m.commands;
    reports = m.reports;
    grants = λ g k h. let o = m.grants g k h in (o.0, (let lt : g < generation w = o.1 in omega arith), o.2);
    hellos = λ v h i. let o = m.hellos v h i in (o.0, (let lt : h.generation < generation w = o.1 in omega arith), o.2, o.3);
  };
  seats = λ t. let m = s.seats t in record {
    partial = m.partial;
    joined = m.joined;
    named = m.named;
    lists = λ up lt o. ⊎_elim (λ l. all t lt l) (λ e. absurd (let f : (tab_of w t).entered < generation w = (s.tabs t).entered in let g : (tab_of w t).entered ≡ generation w = e in omega arith)) o;
  };
  locks = s.locks;
}

-- Facts about a start that is not refused

absence-none : (x y : Option ℕ) → is_some (absence x y) ≡ false → (x ≡ None) × (y ≡ None)
absence-none (Some t) y e = apart refl e
absence-none None (Some t) e = apart refl e
absence-none None None e = (refl, refl)

pub none-absent : (ts : List ℕ) (k : KernelState) → is_some (start_refusal ts k) ≡ false → (stranger k ts ≡ None) × (missing k ts ≡ None)
none-absent ts k =
    either (λ z. is_some z ≡ false → (stranger k ts ≡ None) × (missing k ts ≡ None)) (nat_lt list_limit (length ts)) (Some TooManyListed) (cond (rises ts) (absence (stranger k ts) (missing k ts)) (Some NotRising))
    (λ _ e. apart refl e)
    (λ _. either (λ z. is_some z ≡ false → (stranger k ts ≡ None) × (missing k ts ≡ None)) (rises ts) (absence (stranger k ts) (missing k ts)) (Some NotRising)
    (λ _ e. absence-none (stranger k ts) (missing k ts) e)
    (λ _ e. apart refl e))

pub first_such-none : (test : ℕ → Bool) (ts : List ℕ) (u : ℕ) → first_such test ts ≡ None → In u ts → test u ≡ false
first_such-none test [] u = λ e i. absurd (In-nil i)
first_such-none test (t ∷ ts) u =
    either (λ z. z ≡ None → In u (t ∷ ts) → test u ≡ false) (test t) (Some t) (first_such test ts)
    (λ _ e. cc)
    (λ f e i. ⊎_elim (λ same. ap test same ∙ f) (λ j. first_such-none test ts u e j) (In-cons_cases i))

put_in-has : (n : ℕ) (ms : List ℕ) → In n (insert_sorted n ms)
put_in-has n [] = Here
put_in-has n (m ∷ ms) = either (In n) (nat_lt m n) (m ∷ insert_sorted n ms) (n ∷ m ∷ ms) (λ _. Later (put_in-has n ms)) (λ _. Here)

put_in-keeps : (n u : ℕ) (ms : List ℕ) → In u ms → In u (insert_sorted n ms)
put_in-keeps n u [] i = absurd (In-nil i)
put_in-keeps n u (m ∷ ms) i =
    either (In u) (nat_lt m n) (m ∷ insert_sorted n ms) (n ∷ m ∷ ms)
    (λ _. ⊎_elim (λ e. In-head e) (λ j. Later (put_in-keeps n u ms j)) (In-cons_cases i))
    (λ _. Later i)

living-In : (os : List OpenedTab) (t : ℕ) → lives_in (tab_in os t) ≡ true → In t (living_in any_tab os)
living-In [] t = λ l. apart l refl
living-In (o ∷ os) t =
    either (λ z. lives_in z ≡ true → In t (cond (o.living && true) (insert_sorted o.tab (living_in any_tab os)) (living_in any_tab os))) (o.tab == t) (Some o) (tab_in os t)
    (λ e l. either (In t) (o.living && true) (insert_sorted o.tab (living_in any_tab os)) (living_in any_tab os)
    (λ _. subst (λ z. In z (insert_sorted o.tab (living_in any_tab os))) (eqb-true o.tab t e) (put_in-has o.tab (living_in any_tab os)))
    (λ d. apart (ap (λ z. z && true) l) d))
    (λ _ l. let i = living-In os t l in
    either (In t) (o.living && true) (insert_sorted o.tab (living_in any_tab os)) (living_in any_tab os) (λ _. put_in-keeps o.tab t (living_in any_tab os) i) (λ _. i))

older : (g : ℕ) (o : Option OpenedTab) → lives_in o ≡ true → opening_in o < g → is_older g o ≡ true
older g None l lt = apart l refl
older g (Some o) l lt = lt-ltb o.generation g lt

-- Each living tab opened in an earlier generation is listed.
listed-all : (w : WorldState) (ts : List ℕ) → missing w.kernel ts ≡ None → (t : ℕ) → opening w t < generation w → lives w t ≡ true → In (t, partition_of w t) (placed ts w.kernel)
listed-all w ts none t lt l =
    let k = w.kernel in
    let f = first_such-none (λ u. is_from_before k u && not (is_listed ts u)) (living_tabs k) t none (living-In k.opened t l) in
    ⊎_elim
    (λ d. apart (older k.generation (opened_tab_of k t) l lt) d)
    (λ d. let o = list_any-In (λ n. n == t) ts (not-false _ d) in
    In-map (λ u. (u, partition_number k u)) (subst (λ z. In z ts) (eqb-true o.0 t o.2) o.1))
    (and_cases _ _ f)

-- Each listed tab was opened, so its hello goes to an opened tab.
pub hellos-greet : (w : WorldState) (ts : List ℕ) → stranger w.kernel ts ≡ None → (m : Message) → In m (map from_broker (hellos w.kernel.generation (placed ts w.kernel))) → Greets w m
hellos-greet w ts none m i =
    let k = w.kernel in
    let a = In-map_cases from_broker (hellos k.generation (placed ts k)) i in
    let b = In-map_cases (λ x. hello_to k.generation x.0) (placed ts k) a.1 in
    let c = In-map_cases (λ u. (u, partition_number k u)) ts b.1 in
    (Broker, c.0, a.2 ∙ ap from_broker b.2 ∙ ap (λ z. from_broker (hello_to k.generation z.0)) c.2, not-false _ (first_such-none (λ u. not (is_opened k u)) ts c.0 none c.1))

pub starts-sound : (w : WorldState) (ts : List ℕ) (v : Option BrokerState) → w.broker ≡ v → Sound w → Sound (after w (starts w ts v))
starts-sound w ts (Some b) e s = s
starts-sound w ts None e s =
    allowed-sound w (not (is_some (start_refusal ts w.kernel))) (begins w ts) s
    (λ h. let n = none-absent ts w.kernel (not-true _ h) in
    greetings-sound (with_broker (started w.kernel.generation (placed ts w.kernel)) w)
    (started-sound w (placed ts w.kernel) (subst (λ z. Sound (record w { broker = z })) e s) (listed-all w ts n.1))
    (le_refl (suc (generation w))) (map from_broker (hellos w.kernel.generation (placed ts w.kernel))) (hellos-greet w ts n.0))
