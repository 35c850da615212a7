-- Openings and deaths of tabs, and tabs that are taken over.
use Rattle.std.proofs.Common.{◌≡◌, inl, inr, ⊎_elim, ℕ, Bool, true, false, cond, not, [], ◌∷◌, ◌++◌, Option, Some, None, option_map, is_some, Result, Ok, Err, refl, sym, ap, ◌∙◌, subst, arith}
use Rattle.std.specs.Prelude.{◌==◌}
use Rattle.std.proofs.lemmas.Bool.{cases_eq, eqb-false}
use Rattle.wl_origin.specs.Order.{Pair}
use Rattle.wl_origin.specs.declared.fault.OriginFault.{OriginFault}
use Rattle.wl_draft.specs.Membership.{In}
use Rattle.wl_draft.proofs.Membership.{apart, either, by_test, In-nil, In-one, In-cons_cases, In-append_cases, In-filter_cases}
use Rattle.wl_grammar.specs.declared.frame.Frame.{Frame}
use Rattle.wl_grammar.specs.declared.frame.Frame.TheVariants as frame
use Rattle.wl_draft.proofs.TableLemmas.{find-put_same, find-put_other}
use Rattle.wl_agent.specs.Tab.{born}
use Rattle.wl_kernel.specs.declared.fault.OpenFault.{OpenFault}
use Rattle.wl_kernel.specs.Kernel.{KernelState, is_living, open_refusal, opened, killed, lives as lives_in}
use Rattle.std.specs.Prelude.{nat_eq}
use Rattle.indexmap.specs.IndexMap.{swap_remove_entry}
use Rattle.wl_broker.specs.Broker.{hello_to}
use Rattle.wl_world_messages.specs.declared.message.Sender.TheVariants.{Kernel}
use Rattle.wl_world_messages.specs.declared.message.Message.TheVariants.{Down}
use Rattle.wl_kernel.specs.Welcome.{texts_of, welcome}
use Rattle.wl_limits.specs.declared.tabs.TheConstants.{COMMAND_LIMIT}
use Rattle.wl_tab.specs.Tabs.{tab_in}
use Rattle.wl_hub.specs.declared.fault.OpenRefusal.TheVariants.{Tab}
use Rattle.wl_hub.specs.Early.{without_tab}
use Rattle.wl_hub.specs.Hub.{HubState, greeting, hub_opened, page_refusal, without_sender, hub_closed}
use Rattle.wl_world_model.specs.declared.event.Event.{Event}
use Rattle.wl_world_model.specs.declared.event.Event.TheVariants as event
use Rattle.wl_world_model.specs.World.{WorldState, tab_of, lives, StepResult, unchanged, if_allowed, with_kernel, with_rows, taken_over, step_result, after_event, run}
use Rattle.wl_world_model.specs.Holdings.{IsHonest}
use Rattle.wl_world_model.proofs.exclusion.Invariant.{was_opened}
use Rattle.wl_world_model.proofs.exclusion.ActsWithinAGeneration.{after}
use Rattle.wl_world_model.proofs.exclusion.CoverExcludes.{living_opened}
use Rattle.wl_world_model.proofs.exclusion.OpenedTabs.{each_opened}
use Rattle.wl_world_model.proofs.exclusion.OpeningAndKilling.{not_opened}
use Rattle.wl_library_model.specs.Library.{Library, new_line, with_line, with_hub, opens, closes, takes_over}
use Rattle.wl_library_model.specs.Events.{opening_events}
use Rattle.wl_library_model.specs.Simulation.{ComesDown, IsOnItsWayDown, IsOnItsWayUp, IsHubOf, IsLineOf}
use Rattle.wl_library_model.proofs.Later.{Later, later-on}
use Rattle.wl_library_model.proofs.Happens.{Good, happens-on, happens-good}
use Rattle.wl_library_model.proofs.Carried.{Sim, Known, each_other, down-later, up-later, line-later, known-later}
use Rattle.wl_library_model.proofs.Hubs.{Still, still-event, hub-moves, pair-first, greet-still, greeting-sent, greet-kernel}

-- An opening

abbrev opening : Bool → ℕ → Pair → Event
opening i t p = cond i (event.OpenTwo t p) (event.Open t p)

-- The world after an opening that is accepted.
abbrev opened_world : Bool → ℕ → Pair → WorldState → WorldState
opened_world i t p w = after w (with_kernel (opened t p w.kernel) (with_rows i t w))

opened-is : (i : Bool) (w : WorldState) (t : ℕ) (p : Pair) → is_some (open_refusal t p w.kernel) ≡ false → after_event w (opening i t p) ≡ opened_world i t p w
unfolding step_result after_event
opened-is true w t p n = ap (λ b. after w (if_allowed (not b) w (with_kernel (opened t p w.kernel) (with_rows true t w)))) n
opened-is false w t p n = ap (λ b. after w (if_allowed (not b) w (with_kernel (opened t p w.kernel) (with_rows false t w)))) n

module _ (l : Library) (w : WorldState) (t : ℕ) (p : Pair) (i : Bool) (s : Sim l w) (n : is_some (open_refusal t p w.kernel) ≡ false) where
  abbrev middle : WorldState
  middle = opened_world i t p w

  abbrev end : WorldState
  end = after_event middle (event.Hello t)

  unopened : was_opened w t ≡ false
  unopened = not_opened w.kernel t p n

  middle-good : Good middle
  middle-good = subst Good (opened-is i w t p n) (happens-good w (opening i t p) s.good)

  middle-later : Later w middle
  middle-later = subst (Later w) (opened-is i w t p n) (happens-on w (opening i t p) s.good.sound s.good.fit).later

  greets : Still middle end
  greets = greet-still middle t middle-good

  end-later : Later w end
  end-later = later-on w middle end middle-later greets.later

  new-lives : lives middle t ≡ true
  new-lives = each_opened (λ u o q. t ≡ u → lives_in o ≡ true) w.kernel t p unopened (λ q _. refl) (λ u d e. absurd (d e)) t refl

  new-opened : was_opened end t ≡ true
  new-opened = (greets.later.opened t (living_opened _ new-lives)).0

  new-tab : tab_of end t ≡ born i t COMMAND_LIMIT
  new-tab = greets.tabs t ∙ ap (tab_in t) (find-put_same t (born i t COMMAND_LIMIT) w.tabs)

  other-tab : (u : ℕ) → (u ≡ t → ⊥) → tab_of end u ≡ tab_of w u
  other-tab u d = greets.tabs u ∙ ap (tab_in u) (find-put_other t (born i t COMMAND_LIMIT) w.tabs u d)

  welcome-comes : (j : Bool) → i ≡ j → ComesDown end t (welcome t (texts_of p j).top (texts_of p j).own)
  welcome-comes true e = (new-opened, refl, ap (λ z. z.in_parts) new-tab ∙ e)
  welcome-comes false e = (new-opened, refl, ap (λ z. z.in_parts) new-tab ∙ e)

  greeting-comes : (u : ℕ) (f : Frame) → In (u, f) (greeting t l.hub.supervised) → IsOnItsWayDown end u f
  greeting-comes u f =
      either (λ zs. In (u, f) zs → IsOnItsWayDown end u f) (is_some l.hub.supervised.broker) ((t, frame.Hello (record { generation = l.hub.supervised.kernel.generation })) ∷ []) []
      (λ up j. let e = pair-first u t f _ (In-one j) in subst (λ z. IsOnItsWayDown end z f) (sym e.0) (subst (IsOnItsWayDown end t) (sym e.1)
      (inr (inl (subst (λ (z : KernelState). In (Down Kernel (hello_to z.generation t)) (after_event (opened_world i t p w) (event.Hello t)).bag) (sym s.hub.kernel) (greeting-sent middle t (subst (λ z. is_some z ≡ true) s.hub.broker up) new-lives))))))
      (λ _ j. absurd (In-nil j))

  new-hub : IsHubOf end (hub_opened t p i l.hub)
  new-hub = record {
    kernel = ap (opened t p) s.hub.kernel ∙ sym (greet-kernel middle t).0;
    broker = s.hub.broker ∙ sym (greet-kernel middle t).1;
    outputs = λ u f j. ⊎_elim
        (λ a. down-later w end end-later u f (s.hub.outputs u f a))
        (λ a. ⊎_elim
        (λ b. let e = pair-first u t f _ b in subst (λ z. IsOnItsWayDown end z f) (sym e.0) (subst (IsOnItsWayDown end t) (sym e.1) (inr (welcome-comes i refl))))
        (λ b. greeting-comes u f b)
        (In-cons_cases a))
        (In-append_cases l.hub.outputs ((t, welcome t (texts_of p i).top (texts_of p i).own) ∷ greeting t l.hub.supervised) j);
    arrived = λ y f j. up-later w end s.good end-later l.hub.sender f (s.hub.arrived (end-later.honest l.hub.sender y) f j);
    early = λ u j. (end-later.opened u (s.hub.early u j)).0;
  }

  fresh : IsLineOf end t new_line
  fresh = record {
    client = record {
      welcomed = λ e. apart e refl;
      unwelcomed = λ _. new-tab ∙ ap (λ z. born z t COMMAND_LIMIT) (sym (ap (λ z. z.in_parts) new-tab));
      unentered = λ _. refl;
    };
    down = λ f j. absurd (In-nil j);
    came = λ f j. absurd (In-nil j);
    up = λ h f j. absurd (In-nil j);
    report = λ h f j. absurd (In-nil j);
    posts = λ h f j. absurd (In-nil j);
  }

  new-known : Known end t (tab_of end t)
  new-known = subst (Known end t) (sym new-tab) (record { commands = λ lt. absurd (omega arith); report = λ lt. absurd (omega arith) })

  opened-sim : Sim (with_line t new_line (with_hub (hub_opened t p i l.hub) l)) end
  opened-sim = record {
    good = greets.good;
    hub = new-hub;
    lines = each_other (IsLineOf end) t new_line l.lines fresh (λ u e. line-later w end s.good end-later u (l.lines u) (other-tab u (eqb-false u t e)) (s.lines u));
    taken = s.taken ∙ sym (greets.corrupt);
    known = λ u. ⊎_elim
        (λ e. subst (λ z. Known end z (tab_of end z)) (sym e) new-known)
        (λ d. known-later w end s.good end-later u (other-tab u d) (s.known u))
        (cases_eq u t);
  }

mapped-some : (o : Option OpenFault) → is_some (option_map Tab o) ≡ is_some o
mapped-some None = refl
mapped-some (Some f) = refl

pub open-sim : (l : Library) (w : WorldState) (t : ℕ) (page : Result Pair OriginFault) (i : Bool) → Sim l w → Sim (opens t page i l) (run (cond (is_some (page_refusal t page l.hub)) [] (opening_events t page i)) w)
open-sim l w t (Err f) i s = s
open-sim l w t (Ok p) i s =
    by_test (λ b. Sim (cond b l (with_line t new_line (with_hub (hub_opened t p i l.hub) l))) (run (cond b [] (opening i t p ∷ event.Hello t ∷ [])) w)) (is_some (page_refusal t (Ok p) l.hub))
    (λ _. s)
    (λ n. let m : is_some (open_refusal t p w.kernel) ≡ false = subst (λ k. is_some (open_refusal t p k) ≡ false) s.hub.kernel (sym (mapped-some (open_refusal t p l.hub.supervised.kernel)) ∙ n) in
    subst (λ v. Sim (with_line t new_line (with_hub (hub_opened t p i l.hub) l)) (after_event v (event.Hello t))) (sym (opened-is i w t p m)) (opened-sim l w t p i s m))

-- A death

kill-still : (w : WorldState) (t : ℕ) → Good w → Still w (after_event w (event.Kill t))
unfolding step_result
kill-still w t g = still-event w (event.Kill t) g (either (λ (d : StepResult). (d.world.tabs ≡ w.tabs) × (d.world.corrupt ≡ w.corrupt)) (lives w t) (with_kernel (killed t w.kernel) w) (unchanged w) (λ _. (refl, refl)) (λ _. (refl, refl)))

kill-kernel : (w : WorldState) (t : ℕ) → lives w t ≡ true → ((after_event w (event.Kill t)).kernel ≡ killed t w.kernel) × ((after_event w (event.Kill t)).broker ≡ w.broker)
unfolding step_result after_event
kill-kernel w t l = either (λ (d : StepResult). ((after w d).kernel ≡ killed t w.kernel) × ((after w d).broker ≡ w.broker)) (lives w t) (with_kernel (killed t w.kernel) w) (unchanged w) (λ _. (refl, refl)) (λ n. apart l n)

unkilled : (w : WorldState) (t : ℕ) → lives w t ≡ false → after_event w (event.Kill t) ≡ w
unfolding step_result after_event
unkilled w t n = ap (λ b. after w (if_allowed b w (with_kernel (killed t w.kernel) w))) n

closed-arrived : (t : ℕ) (h : HubState) (f : Frame) → In f (without_sender t h).arrived → In f h.arrived
closed-arrived t h f = either (λ (z : HubState). In f z.arrived → In f h.arrived) (h.sender == t) (record h { arrived = [] }) h (λ _ i. absurd (In-nil i)) (λ _ i. i)

-- The parts of a hub that `without_sender` keeps.
without-keeps : {X : Type 0} (P : HubState → X) → ((h : HubState) → P (record h { arrived = [] }) ≡ P h) → (t : ℕ) (h : HubState) → P (without_sender t h) ≡ P h
without-keeps P same t h = either (λ z. P z ≡ P h) (h.sender == t) (record h { arrived = [] }) h (λ _. same h) (λ _. refl)

-- The hub at a death, before the frames of a dead sender are dropped.
abbrev before : ℕ → HubState → HubState
before t h = record h {
  supervised = record { kernel = killed t h.supervised.kernel; broker = h.supervised.broker };
  feeds = swap_remove_entry (nat_eq t) h.feeds;
  untold = h.untold ++ t ∷ [];
  early = without_tab t h.early;
}

closed-hub : (l : Library) (w : WorldState) (t : ℕ) → Sim l w → lives w t ≡ true → IsHubOf (after_event w (event.Kill t)) (without_sender t (before t l.hub))
closed-hub l w t s y =
    let v = after_event w (event.Kill t) in
    let x = (kill-still w t s.good).later in
    let k = kill-kernel w t y in
    let h = before t l.hub in
    let e = without-keeps (λ z. z.supervised) (λ z. refl) t h in
    let n = without-keeps (λ z. z.sender) (λ z. refl) t h in
    record {
      kernel = ap (λ z. z.kernel) e ∙ (ap (killed t) s.hub.kernel ∙ sym k.0);
      broker = ap (λ z. z.broker) e ∙ (s.hub.broker ∙ sym k.1);
      outputs = λ u f j. down-later w v x u f (s.hub.outputs u f (subst (In (u, f)) (without-keeps (λ z. z.outputs) (λ z. refl) t h) j));
      arrived = λ z f j. subst (λ m. IsOnItsWayUp v m f) (sym n) (up-later w v s.good x l.hub.sender f (s.hub.arrived (x.honest l.hub.sender (subst (IsHonest v) n z)) f (closed-arrived t h f j)));
      early = λ u j. let kept = subst (In u) (without-keeps (λ z. z.early) (λ z. refl) t h) j in (x.opened u (s.hub.early u (In-filter_cases (λ n. not (n == t)) l.hub.early kept).0)).0;
    }

pub close-sim : (l : Library) (w : WorldState) (t : ℕ) → Sim l w → Sim (closes t l) (after_event w (event.Kill t))
close-sim l w t s = subst (λ b. Sim (cond b (with_hub (hub_closed t l.hub) l) l) (after_event w (event.Kill t))) (ap (λ k. is_living k t) (sym s.hub.kernel)) (go (lives w t) refl)
  where
    go : (b : Bool) → lives w t ≡ b → Sim (cond b (with_hub (hub_closed t l.hub) l) l) (after_event w (event.Kill t))
    go true y = hub-moves l w (after_event w (event.Kill t)) (hub_closed t l.hub) s (kill-still w t s.good) (closed-hub l w t s y)
    go false n = subst (Sim l) (sym (unkilled w t n)) s

-- A tab is taken over

corrupt-tabs : (w : WorldState) (t u : ℕ) → tab_of (after_event w (event.Corrupt t)) u ≡ tab_of w u
unfolding step_result after_event
corrupt-tabs w t u = either (λ (d : StepResult). tab_of (after w d) u ≡ tab_of w u) (lives w t) (unchanged (record w { corrupt = taken_over t w.corrupt })) (unchanged w) (λ _. refl) (λ _. refl)

corrupt-kernel : (w : WorldState) (t : ℕ) → ((after_event w (event.Corrupt t)).kernel ≡ w.kernel) × ((after_event w (event.Corrupt t)).broker ≡ w.broker)
unfolding step_result after_event
corrupt-kernel w t = either (λ (d : StepResult). ((after w d).kernel ≡ w.kernel) × ((after w d).broker ≡ w.broker)) (lives w t) (unchanged (record w { corrupt = taken_over t w.corrupt })) (unchanged w) (λ _. (refl, refl)) (λ _. (refl, refl))

corrupt-is : (w : WorldState) (t : ℕ) → (after_event w (event.Corrupt t)).corrupt ≡ cond (lives w t) (taken_over t w.corrupt) w.corrupt
unfolding step_result after_event
corrupt-is w t = either (λ (d : StepResult). (after w d).corrupt ≡ cond (lives w t) (taken_over t w.corrupt) w.corrupt) (lives w t) (unchanged (record w { corrupt = taken_over t w.corrupt })) (unchanged w)
    (λ y. sym (ap (λ b. cond b (taken_over t w.corrupt) w.corrupt) y))
    (λ n. sym (ap (λ b. cond b (taken_over t w.corrupt) w.corrupt) n))

corrupt-hub : (w : WorldState) (t : ℕ) (h : HubState) → Good w → IsHubOf w h → IsHubOf (after_event w (event.Corrupt t)) h
corrupt-hub w t h g i =
    let v = after_event w (event.Corrupt t) in
    let x = (happens-on w (event.Corrupt t) g.sound g.fit).later in
    let k = corrupt-kernel w t in
    record {
      kernel = i.kernel ∙ sym k.0;
      broker = i.broker ∙ sym k.1;
      outputs = λ n f j. down-later w v x n f (i.outputs n f j);
      arrived = λ y f j. up-later w v g x h.sender f (i.arrived (x.honest h.sender y) f j);
      early = λ n j. (x.opened n (i.early n j)).0;
    }

pub take-sim : (l : Library) (w : WorldState) (t : ℕ) → Sim l w → Sim (takes_over t l) (after_event w (event.Corrupt t))
take-sim l w t s = subst (λ b. Sim (cond b (record l { taken = taken_over t l.taken }) l) (after_event w (event.Corrupt t))) (ap (λ k. is_living k t) (sym s.hub.kernel)) (go (lives w t) refl)
  where
    later : Later w (after_event w (event.Corrupt t))
    later = (happens-on w (event.Corrupt t) s.good.sound s.good.fit).later

    taken : (b : Bool) → lives w t ≡ b → cond b (taken_over t l.taken) l.taken ≡ (after_event w (event.Corrupt t)).corrupt
    taken b e = ap (λ zs. cond b (taken_over t zs) zs) s.taken ∙ sym (corrupt-is w t ∙ ap (λ c. cond c (taken_over t w.corrupt) w.corrupt) e)

    go : (b : Bool) → lives w t ≡ b → Sim (cond b (record l { taken = taken_over t l.taken }) l) (after_event w (event.Corrupt t))
    go true e = record {
      good = happens-good w (event.Corrupt t) s.good;
      hub = corrupt-hub w t l.hub s.good s.hub;
      lines = λ u. line-later w (after_event w (event.Corrupt t)) s.good later u (l.lines u) (corrupt-tabs w t u) (s.lines u);
      taken = taken true e;
      known = λ u. known-later w (after_event w (event.Corrupt t)) s.good later u (corrupt-tabs w t u) (s.known u);
    }
    go false e = record {
      good = happens-good w (event.Corrupt t) s.good;
      hub = corrupt-hub w t l.hub s.good s.hub;
      lines = λ u. line-later w (after_event w (event.Corrupt t)) s.good later u (l.lines u) (corrupt-tabs w t u) (s.lines u);
      taken = taken false e;
      known = λ u. known-later w (after_event w (event.Corrupt t)) s.good later u (corrupt-tabs w t u) (s.known u);
    }
