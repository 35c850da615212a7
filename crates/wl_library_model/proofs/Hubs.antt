-- Steps of the hub: the broker takes a frame of a tab or a death, and the hub greets tabs.
use Rattle.std.proofs.Common.{◌≡◌, inl, inr, ⊎_elim, ℕ, Bool, true, false, cond, not, List, [], ◌∷◌, ◌++◌, length, map, Option, Some, None, is_some, refl, sym, ap, ◌∙◌, subst}
use Rattle.std.specs.Prelude.{◌==◌}
use Rattle.std.proofs.lemmas.Bool.{cases_Bool, and_from}
use Rattle.wl_draft.specs.Membership.{In, Here, Later as Behind}
use Rattle.wl_draft.proofs.Membership.{apart, either, by_test, In-nil, In-one, In-append_left, In-append_cases, In-map, In-map_cases}
use Rattle.wl_grammar.specs.declared.frame.Addressed.{Addressed}
use Rattle.wl_grammar.specs.declared.frame.Downward.{Downward}
use Rattle.wl_grammar.specs.declared.frame.Downward.TheVariants as down
use Rattle.wl_grammar.specs.declared.frame.Frame.{Frame}
use Rattle.wl_grammar.specs.declared.frame.Frame.TheVariants as frame
use Rattle.wl_broker.specs.Broker.{BrokerState, hello_to}
use Rattle.wl_kernel.specs.Kernel.{KernelState, is_opened, stopped, living_tabs}
use Rattle.wl_kernel.specs.Routes.{frame_of}
use Rattle.wl_supervised_broker.specs.Changes.{Change, death_change, stop_change, start_change}
use Rattle.wl_supervised_broker.specs.SupervisedStates.{SupervisedState, changed, frames_of}
use Rattle.wl_hub.specs.Early.{first_of, greeted_next, after_first_of, rest_after, postponed_first, postponed}
use Rattle.wl_hub.specs.Hub.{HubState, stepped, told_step, greeted, postponing, after_told, hub_stopped, hub_started, hub_down, hub_restarted}
use Rattle.wl_hub.specs.Hub.{from_broker as hub_sends}
use Rattle.wl_world_messages.specs.declared.message.Sender.TheVariants.{Kernel, Broker}
use Rattle.wl_world_messages.specs.declared.message.Message.{Message}
use Rattle.wl_world_messages.specs.declared.message.Message.TheVariants.{Down}
use Rattle.wl_world_messages.proofs.Same.{sent_all-adds}
use Rattle.wl_world_model.specs.declared.event.Event.{Event}
use Rattle.wl_world_model.specs.declared.event.Event.TheVariants as event
use Rattle.wl_world_model.specs.World.{WorldState, tab_of, lives, StepResult, unchanged, if_allowed, from_broker, supervised, greets, step_result, after_event, run}
use Rattle.wl_world_model.specs.Holdings.{IsHonest}
use Rattle.wl_world_model.proofs.exclusion.ActsWithinAGeneration.{after}
use Rattle.wl_library_model.specs.Library.{Library, with_hub}
use Rattle.wl_library_model.specs.Events.{restart_events}
use Rattle.wl_library_model.specs.Simulation.{ComesDown, IsOnItsWayDown, IsOnItsWayUp, IsHubOf}
use Rattle.wl_library_model.proofs.Later.{Later, later-same}
use Rattle.wl_library_model.proofs.Happens.{Good, happens-on, happens-good}
use Rattle.wl_library_model.proofs.Carried.{Sim, down-later, up-later, line-later, known-later}

-- Worlds that differ in no tab

pub record Still (w v : WorldState) : Type 0 where
  pub later : Later w v
  pub good : Good v
  pub tabs : (t : ℕ) → tab_of v t ≡ tab_of w t
  pub corrupt : v.corrupt ≡ w.corrupt

pub still-same : (w : WorldState) → Good w → Still w w
still-same w g = record { later = later-same w; good = g; tabs = λ t. refl; corrupt = refl }

abbrev pub Keeps : WorldState → StepResult → Type 0
Keeps w d = (d.world.tabs ≡ w.tabs) × (d.world.corrupt ≡ w.corrupt)

pub keeps-allowed : (w : WorldState) (b : Bool) (d : StepResult) → Keeps w d → Keeps w (if_allowed b w d)
keeps-allowed w b d k = either (Keeps w) b d (unchanged w) (λ _. k) (λ _. (refl, refl))

pub still-event : (w : WorldState) (e : Event) → Good w → Keeps w (step_result w e) → Still w (after_event w e)
unfolding after_event
still-event w e g k = record {
  later = (happens-on w e g.sound g.fit).later;
  good = happens-good w e g;
  tabs = λ t. ap (λ ts. tab_of (record w { tabs = ts }) t) k.0;
  corrupt = k.1;
}

keeps-change : (w : WorldState) (c : Change) → Keeps w (supervised w c)
keeps-change w c = keeps-allowed w c.happens _ (refl, refl)

-- The hub moves on while no tab changes.
pub hub-moves : (l : Library) (w v : WorldState) (h : HubState) → Sim l w → Still w v → IsHubOf v h → Sim (with_hub h l) v
hub-moves l w v h s x i = record {
  good = x.good;
  hub = i;
  lines = λ t. line-later w v s.good x.later t (l.lines t) (x.tabs t) (s.lines t);
  taken = s.taken ∙ sym x.corrupt;
  known = λ t. known-later w v s.good x.later t (x.tabs t) (s.known t);
}

-- A hub with the same kernel, broker and frames.
pub same-hub : (w : WorldState) (h g : HubState) → g.supervised ≡ h.supervised → g.outputs ≡ h.outputs → g.sender ≡ h.sender → ((f : Frame) → In f g.arrived → In f h.arrived) → ((t : ℕ) → In t g.early → In t h.early) → IsHubOf w h → IsHubOf w g
same-hub w h g s o n a e i = record {
  kernel = ap (λ z. z.kernel) s ∙ i.kernel;
  broker = ap (λ z. z.broker) s ∙ i.broker;
  outputs = λ t f j. i.outputs t f (subst (In (t, f)) o j);
  arrived = λ y f j. subst (λ z. IsOnItsWayUp w z f) (sym n) (i.arrived (subst (IsHonest w) n y) f (a f j));
  early = λ t j. i.early t (e t j);
}

abbrev pub super : WorldState → SupervisedState
super w = record { kernel = w.kernel; broker = w.broker }

pub supervised-same : (w : WorldState) (h : HubState) → IsHubOf w h → h.supervised ≡ super w
supervised-same w h i = λ j. record { kernel = i.kernel j; broker = i.broker j }

-- Changes of the kernel and its broker

sent-down : (w : WorldState) (bag : List Message) (a : Addressed) → In (from_broker a) bag → ComesDown (record w { bag = bag }) a.tab (frame_of a.inner)
sent-down w bag a i = go a.tab a.inner i
  where
    go : (t : ℕ) (x : Downward) → In (Down Broker (record { tab = t; inner = x })) bag → ComesDown (record w { bag = bag }) t (frame_of x)
    go t (down.Hello h) i = inr i
    go t (down.Answer x) i = inl i
    go t (down.Snapshot x) i = i

pub pair-first : (t u : ℕ) (f g : Frame) → ◌≡◌ {A = ℕ × Frame} (t, f) (u, g) → (t ≡ u) × (f ≡ g)
pair-first t u f g e = (ap (λ (z : ℕ × Frame). z.0) e, ap (λ (z : ℕ × Frame). z.1) e)

-- The frames of the broker come down in a world whose bag has them.
sent-outs : (w : WorldState) (bag : List Message) (outs : List Addressed) → ((a : Addressed) → In a outs → In (from_broker a) bag) → (t : ℕ) (f : Frame) → In (t, f) (hub_sends outs) → ComesDown (record w { bag = bag }) t f
sent-outs w bag outs has t f i =
    let o = In-map_cases (λ (a : Addressed). (a.tab, frame_of a.inner)) outs i in
    let e = pair-first t o.0.tab f (frame_of o.0.inner) o.2 in
    subst (λ z. ComesDown (record w { bag = bag }) z f) (sym e.0) (subst (λ z. ComesDown (record w { bag = bag }) o.0.tab z) (sym e.1) (sent-down w bag o.0 (has o.0 o.1)))

abbrev pub changing : Change → HubState → HubState
changing c h = record h { supervised = changed c h.supervised; outputs = h.outputs ++ hub_sends (frames_of c) }

abbrev done_by : WorldState → Change → StepResult
done_by w c = record { world = record w { kernel = c.kernel; broker = c.broker }; sends = map from_broker c.frames }

changed-hub : (w : WorldState) (h : HubState) (c : Change) → Good w → IsHubOf w h → Later w (after w (supervised w c)) → IsHubOf (after w (supervised w c)) (changing c h)
changed-hub w h c g i =
    by_test (λ b. Later w (after w (if_allowed b w (done_by w c))) → IsHubOf (after w (if_allowed b w (done_by w c))) (record h { supervised = cond b (record { kernel = c.kernel; broker = c.broker }) h.supervised; outputs = h.outputs ++ hub_sends (cond b c.frames []) })) c.happens
    (λ _ x. record {
      kernel = refl;
      broker = refl;
      outputs = λ t f j. ⊎_elim
          (λ a. down-later w (after w (done_by w c)) x t f (i.outputs t f a))
          (λ a. inr (sent-outs (after w (done_by w c)) (after w (done_by w c)).bag c.frames (λ o k. sent_all-adds (map from_broker c.frames) w.bag (In-map from_broker k)) t f a))
          (In-append_cases h.outputs (hub_sends c.frames) j);
      arrived = λ y f j. up-later w (after w (done_by w c)) g x h.sender f (i.arrived (x.honest h.sender y) f j);
      early = λ t j. (x.opened t (i.early t j)).0;
    })
    (λ _ x. record {
      kernel = i.kernel;
      broker = i.broker;
      outputs = λ t f j. ⊎_elim (λ a. i.outputs t f a) (λ a. absurd (In-nil a)) (In-append_cases h.outputs [] j);
      arrived = i.arrived;
      early = i.early;
    })

-- An event that changes kernel and broker as the hub does.
pub change-sim : (l : Library) (w : WorldState) (e : Event) (c : Change) (h : HubState) → Sim l w → IsHubOf w h → step_result w e ≡ supervised w c → Sim (with_hub (changing c h) l) (after_event w e)
unfolding after_event
change-sim l w e c h s i is =
    let x = still-event w e s.good (subst (Keeps w) (sym is) (keeps-change w c)) in
    hub-moves l w (after_event w e) (changing c h) s x
    (subst (λ d. IsHubOf (after w d) (changing c h)) (sym is) (changed-hub w h c s.good i (subst (λ d. Later w (after w d)) is x.later)))

-- Deaths, stops and starts

untold-hub : (w : WorldState) (h : HubState) (ts : List ℕ) → IsHubOf w h → IsHubOf w (record h { untold = ts })
untold-hub w h ts i = record { kernel = i.kernel; broker = i.broker; outputs = i.outputs; arrived = i.arrived; early = i.early }

greeted-sim : (l : Library) (w : WorldState) (h : HubState) (n : ℕ) → Sim (with_hub h l) w → Sim (with_hub (record h { greetings = n }) l) w
greeted-sim l w h n s = record {
  good = s.good;
  hub = let i = s.hub in record { kernel = i.kernel; broker = i.broker; outputs = i.outputs; arrived = i.arrived; early = i.early };
  lines = s.lines;
  taken = s.taken;
  known = s.known;
}

pub tell-sim : (l : Library) (w : WorldState) (t : ℕ) (ts : List ℕ) → Sim l w → Sim (with_hub (after_told l.hub (t ∷ ts)) l) (after_event w (event.Tell t))
unfolding step_result
tell-sim l w t ts s =
    let h = record l.hub { untold = ts } in
    let i = untold-hub w l.hub ts s.hub in
    greeted-sim l (after_event w (event.Tell t)) (stepped (told_step t l.hub.supervised) h) (length l.hub.early)
    (subst (λ z. Sim (with_hub (changing (death_change t z.kernel z.broker) h) l) (after_event w (event.Tell t))) (sym (supervised-same w l.hub s.hub))
    (change-sim l w (event.Tell t) (death_change t w.kernel w.broker) h s i refl))

pub stop-sim : (l : Library) (w : WorldState) → Sim l w → Sim (with_hub (hub_down l.hub) l) (after_event w event.Stop)
unfolding step_result
stop-sim l w s =
    let v = after_event w event.Stop in
    let y : Sim (with_hub (changing (stop_change l.hub.supervised.kernel l.hub.supervised.broker) l.hub) l) v = subst (λ z. Sim (with_hub (changing (stop_change z.kernel z.broker) l.hub) l) v) (sym (supervised-same w l.hub s.hub)) (change-sim l w event.Stop (stop_change w.kernel w.broker) l.hub s s.hub refl) in
    record {
      good = y.good;
      hub = down-hub v l.hub l.hub.supervised.broker refl y.hub;
      lines = y.lines;
      taken = y.taken;
      known = y.known;
    }
  where
    -- A stop sends no frames.
    silent : (h : HubState) → frames_of (stop_change h.supervised.kernel h.supervised.broker) ≡ []
    silent h = go h.supervised.broker
      where
        go : (b : Option BrokerState) → frames_of (stop_change h.supervised.kernel b) ≡ []
        go None = refl
        go (Some b) = either (λ z. z ≡ []) _ [] [] (λ _. refl) (λ _. refl)

    down-hub : (v : WorldState) (h : HubState) (b : Option BrokerState) → h.supervised.broker ≡ b → IsHubOf v (changing (stop_change h.supervised.kernel h.supervised.broker) h) → IsHubOf v (hub_down h)
    down-hub v h b e i = ⊎_elim
        (λ y. subst (IsHubOf v) (sym (ap (λ z. cond z (hub_stopped h) h) y)) (stopped-hub i))
        (λ n. subst (IsHubOf v) (sym (ap (λ z. cond z (hub_stopped h) h) n)) (unstopped n i))
        (cases_Bool (is_some h.supervised.broker))
      where
        stopped-hub : IsHubOf v (changing (stop_change h.supervised.kernel h.supervised.broker) h) → IsHubOf v (hub_stopped h)
        stopped-hub i = record {
          kernel = i.kernel;
          broker = i.broker;
          outputs = λ t f j. i.outputs t f (In-append_left (hub_sends (frames_of (stop_change h.supervised.kernel h.supervised.broker))) j);
          arrived = i.arrived;
          early = i.early;
        }

        nothing : (b : Option BrokerState) → is_some b ≡ false → changed (stop_change h.supervised.kernel b) h.supervised ≡ h.supervised
        nothing None n = refl
        nothing (Some b) n = apart refl n

        unstopped : is_some h.supervised.broker ≡ false → IsHubOf v (changing (stop_change h.supervised.kernel h.supervised.broker) h) → IsHubOf v h
        unstopped n i =
            let same = nothing h.supervised.broker n in
            record {
              kernel = sym (ap (λ z. z.kernel) same) ∙ i.kernel;
              broker = sym (ap (λ z. z.broker) same) ∙ i.broker;
              outputs = λ t f j. i.outputs t f (In-append_left (hub_sends (frames_of (stop_change h.supervised.kernel h.supervised.broker))) j);
              arrived = i.arrived;
              early = i.early;
            }

-- A stop changes no tab of the kernel.
living-down : (h : HubState) → living_tabs (hub_down h).supervised.kernel ≡ living_tabs h.supervised.kernel
living-down h =
    either (λ z. living_tabs z.supervised.kernel ≡ living_tabs h.supervised.kernel) (is_some h.supervised.broker) (hub_stopped h) h
    (λ _. go h.supervised.broker)
    (λ _. refl)
  where
    go : (b : Option BrokerState) → living_tabs (changed (stop_change h.supervised.kernel b) h.supervised).kernel ≡ living_tabs h.supervised.kernel
    go None = refl
    go (Some b) = either (λ (z : SupervisedState). living_tabs z.kernel ≡ living_tabs h.supervised.kernel) _ (record { kernel = stopped h.supervised.kernel; broker = None }) h.supervised (λ _. refl) (λ _. refl)

start-sim : (l : Library) (w : WorldState) → Sim l w → Sim (with_hub (hub_started l.hub) l) (after_event w (event.Start (living_tabs l.hub.supervised.kernel)))
unfolding step_result
start-sim l w s =
    subst (λ z. Sim (with_hub (changing (start_change (living_tabs z.kernel) z.kernel z.broker) l.hub) l) (after_event w (event.Start (living_tabs z.kernel)))) (sym (supervised-same w l.hub s.hub))
    (change-sim l w (event.Start (living_tabs w.kernel)) (start_change (living_tabs w.kernel) w.kernel w.broker) l.hub s s.hub refl)

pub restart-sim : (l : Library) (w : WorldState) → Sim l w → Sim (with_hub (hub_restarted l.hub) l) (run (restart_events l.hub.supervised.kernel) w)
restart-sim l w s =
    let y = stop-sim l w s in
    subst (λ ts. Sim (with_hub (hub_restarted l.hub) l) (after_event (after_event w event.Stop) (event.Start ts))) (living-down l.hub)
    (start-sim (with_hub (hub_down l.hub) l) (after_event w event.Stop) y)

-- Greetings

greets-keeps : (w : WorldState) (t : ℕ) (o : Option BrokerState) → Keeps w (greets w t o)
greets-keeps w t None = (refl, refl)
greets-keeps w t (Some b) = keeps-allowed w (lives w t) _ (refl, refl)

pub greet-still : (w : WorldState) (t : ℕ) → Good w → Still w (after_event w (event.Hello t))
unfolding step_result
greet-still w t g = still-event w (event.Hello t) g (greets-keeps w t w.broker)

-- The greeting is in the bag, if a broker is up and the tab lives.
pub greeting-sent : (w : WorldState) (t : ℕ) → is_some w.broker ≡ true → lives w t ≡ true → In (Down Kernel (hello_to w.kernel.generation t)) (after_event w (event.Hello t)).bag
unfolding step_result after_event
greeting-sent w t u l = go w.broker u
  where
    go : (o : Option BrokerState) → is_some o ≡ true → In (Down Kernel (hello_to w.kernel.generation t)) (after w (greets w t o)).bag
    go None e = apart e refl
    go (Some b) e =
        either (λ d. In (Down Kernel (hello_to w.kernel.generation t)) (after w d).bag) (lives w t) (record { world = w; sends = Down Kernel (hello_to w.kernel.generation t) ∷ [] }) (unchanged w)
        (λ _. sent_all-adds (Down Kernel (hello_to w.kernel.generation t) ∷ []) w.bag Here)
        (λ n. apart l n)

pub greet-kernel : (w : WorldState) (t : ℕ) → ((after_event w (event.Hello t)).kernel ≡ w.kernel) × ((after_event w (event.Hello t)).broker ≡ w.broker)
unfolding step_result after_event
greet-kernel w t = go w.broker
  where
    go : (o : Option BrokerState) → ((after w (greets w t o)).kernel ≡ w.kernel) × ((after w (greets w t o)).broker ≡ w.broker)
    go None = (refl, refl)
    go (Some b) = either (λ d. ((after w d).kernel ≡ w.kernel) × ((after w d).broker ≡ w.broker)) (lives w t) _ (unchanged w) (λ _. (refl, refl)) (λ _. (refl, refl))

rest-in : (n : ℕ) (ts : List ℕ) (u : ℕ) → In u (rest_after n ts).0 → In u ts
rest-in n ts u = either (λ (r : List ℕ × ℕ). In u r.0 → In u ts) (n == 0) (ts, n) (after_first_of n ts) (λ _ i. i) (λ _. tail ts)
  where
    tail : (ts : List ℕ) → In u (after_first_of n ts).0 → In u ts
    tail [] i = i
    tail (t ∷ ts) i = Behind i

first-in : (ts : List ℕ) (t : ℕ) → first_of ts ≡ Some t → In t ts
first-in [] t e = absurd (none-some t e)
  where
    none-some : (t : ℕ) → None ≡ Some t → ⊥
    none-some t e = cc
first-in (u ∷ us) t e = subst (λ z. In z (u ∷ us)) (some-same u t e) Here
  where
    some-same : (u t : ℕ) → Some u ≡ Some t → u ≡ t
    some-same u t e = cc

pub greeted-in : (n : ℕ) (ts : List ℕ) (t : ℕ) → greeted_next n ts ≡ Some t → In t ts
greeted-in n ts t = either (λ o. o ≡ Some t → In t ts) (n == 0) None (first_of ts) (λ _ e. absurd (none-some t e)) (λ _ e. first-in ts t e)
  where
    none-some : (t : ℕ) → None ≡ Some t → ⊥
    none-some t e = cc

postponed-in : (n : ℕ) (ts : List ℕ) (u : ℕ) → In u (postponed n ts).0 → In u ts
postponed-in n ts u = either (λ (r : List ℕ × ℕ). In u r.0 → In u ts) (n == 0) (ts, n) (postponed_first n ts) (λ _ i. i) (λ _. moved ts)
  where
    moved : (ts : List ℕ) → In u (postponed_first n ts).0 → In u ts
    moved [] i = i
    moved (t ∷ ts) i = ⊎_elim (λ a. Behind a) (λ b. subst (λ z. In z (t ∷ ts)) (sym (In-one b)) Here) (In-append_cases ts (t ∷ []) i)

pub postpone-sim : (l : Library) (w : WorldState) → Sim l w → Sim (with_hub (postponing l.hub) l) w
postpone-sim l w s = record {
  good = s.good;
  hub = same-hub w l.hub (postponing l.hub) refl refl refl (λ f j. j) (postponed-in l.hub.greetings l.hub.early) s.hub;
  lines = s.lines;
  taken = s.taken;
  known = s.known;
}

pub greet-sim : (l : Library) (w : WorldState) (t : ℕ) → Sim l w → is_some w.broker ≡ true → is_opened w.kernel t ≡ true → Sim (with_hub (greeted t l.hub) l) (after_event w (event.Hello t))
greet-sim l w t s u o =
    let v = after_event w (event.Hello t) in
    let x = greet-still w t s.good in
    let k = greet-kernel w t in
    let i = s.hub in
    hub-moves l w v (greeted t l.hub) s x (record {
      kernel = i.kernel ∙ sym k.0;
      broker = i.broker ∙ sym k.1;
      outputs = λ n f j. ⊎_elim
          (λ a. down-later w v x.later n f (i.outputs n f a))
          (λ a. let e = pair-first n t f _ (In-one a) in subst (λ z. IsOnItsWayDown v z f) (sym e.0) (subst (IsOnItsWayDown v t) (sym e.1) hello))
          (In-append_cases l.hub.outputs ((t, frame.Hello (record { generation = l.hub.supervised.kernel.generation })) ∷ []) j);
      arrived = λ y f j. up-later w v s.good x.later l.hub.sender f (i.arrived (x.later.honest l.hub.sender y) f j);
      early = λ n j. (x.later.opened n (i.early n (rest-in l.hub.greetings l.hub.early n j))).0;
    })
  where
    hello : IsOnItsWayDown (after_event w (event.Hello t)) t (frame.Hello (record { generation = l.hub.supervised.kernel.generation }))
    hello = ⊎_elim
        (λ y. inr (inl (subst (λ (z : KernelState). In (Down Kernel (hello_to z.generation t)) (after_event w (event.Hello t)).bag) (sym s.hub.kernel) (greeting-sent w t u y))))
        (λ n. inl ((greet-still w t s.good).later.dead t (and_from _ _ o (ap not n))))
        (cases_Bool (lives w t))
