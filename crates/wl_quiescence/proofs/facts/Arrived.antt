-- In all runs the frames that have arrived at the hub are of a living tab, and the tabs whose death is untold are dead.
use Rattle.std.proofs.Common.{◌≡◌, ◌≢◌, ⊎_elim, ℕ, Bool, true, false, not, ◌&&◌, List, [], ◌∷◌, ◌++◌, map, Option, Some, None, is_some, refl, sym, ap, ◌∙◌, subst}
use Rattle.std.specs.Prelude.{◌==◌, if◌then◌else◌, Ok, Err}
use Rattle.std.proofs.lemmas.Bool.{cases_Bool, eqb-false, and_parts, and_from, not-true, not_from_false}
use Rattle.wl_origin.specs.Order.{Pair}
use Rattle.wl_draft.specs.Membership.{In, Later}
use Rattle.wl_draft.proofs.Membership.{apart, either, In-nil, In-one, In-append_cases}
use Rattle.wl_grammar.specs.declared.frame.Frame.{Frame}
use Rattle.wl_kernel.specs.Kernel.{OpenedTab, tab_in, lives as lives_in, is_living, is_opened, open_refusal, opened, killed, ended}
use Rattle.wl_kernel.specs.Kernel.{tab_of as opened_tab}
use Rattle.wl_supervised_broker.specs.Changes.{is_dead}
use Rattle.wl_supervised_broker.specs.SupervisedStates.{is_active_for}
use Rattle.wl_hub.specs.Early.{greeted_next}
use Rattle.wl_hub.specs.Hub.{HubState, page_refusal, hub_opened, hub_closed, after_first, after_greeting, greeted, postponing, after_told, advanced, hub_down, hub_stopped, hub_restarted}
use Rattle.wl_world_model.proofs.exclusion.CoverExcludes.{living_opened}
use Rattle.wl_world_model.proofs.exclusion.OpenedTabs.{each_opened, ended-opened, ended-lives}
use Rattle.wl_world_model.proofs.exclusion.OpeningAndKilling.{not_opened}
use Rattle.wl_library_model.specs.Library.{Library, Step, Opens, Closes, Restarts, Stops, HubReceives, HubAdvances, HubSends, Asks, Queries, Aborts, Releases, Resends, OpensChannel, Posts, Reads, ClosesChannel, TakesEvent, ClientReceives, ClientAdvances, ClientSends, TakesOver, Forges, lives, runs, is_taken, with_hub, with_line, new_line, hub_fed, is_due, hub_sends_from, new_library, step, run_steps}
use Rattle.wl_library_model.proofs.TimelyHubs.{advanced-tabs, down-tabs, restarted-tabs}
use Rattle.wl_quiescence.proofs.Reached.{IsReached}
use Rattle.wl_quiescence.proofs.calls.Opens.{killed-dead, killed-else, mapped-some}

-- What is known of the hub's table of tabs, the sender of the frames that have arrived, these frames, and the untold tabs.
record Known (os : List OpenedTab) (s : ℕ) (fs : List Frame) (ts : List ℕ) : Type 0 where
  living : (f : Frame) (gs : List Frame) → fs ≡ f ∷ gs → lives_in (tab_in os s) ≡ true
  dead : (t : ℕ) → In t ts → (is_some (tab_in os t) && not (lives_in (tab_in os t))) ≡ true

abbrev KnownOf : HubState → Type 0
KnownOf h = Known h.supervised.kernel.opened h.sender h.arrived h.untold

-- A later state of the hub, with the same tabs: no more of them is untold, and no more frames have arrived.
record Fewer (h g : HubState) : Type 0 where
  sender : g.sender ≡ h.sender
  arrived : (f : Frame) (fs : List Frame) → g.arrived ≡ f ∷ fs → (e : Frame) × (es : List Frame) × (h.arrived ≡ e ∷ es)
  untold : (t : ℕ) → In t g.untold → In t h.untold

fewer-same : (h : HubState) → Fewer h h
fewer-same h = record { sender = refl; arrived = λ f fs e. (f, fs, e); untold = λ t i. i }

known-fewer : (h g : HubState) → g.supervised.kernel.opened ≡ h.supervised.kernel.opened → Fewer h g → KnownOf h → KnownOf g
known-fewer h g e f x = record {
  living = λ y ys a. let o = f.arrived y ys a in subst (λ os. lives_in (tab_in os g.sender) ≡ true) (sym e) (subst (λ s. lives_in (tab_in h.supervised.kernel.opened s) ≡ true) (sym f.sender) (x.living o.0 o.1 o.2));
  dead = λ t i. subst (λ os. (is_some (tab_in os t) && not (lives_in (tab_in os t))) ≡ true) (sym e) (x.dead t (f.untold t i));
}

-- The hub advances

first-fewer : (h : HubState) (fs : List Frame) → h.arrived ≡ fs → Fewer h (after_first h fs)
first-fewer h [] e = fewer-same h
first-fewer h (f ∷ fs) e = record { sender = refl; arrived = λ g gs a. (f, fs, e); untold = λ t i. i }

greeting-fewer : (h : HubState) (o : Option ℕ) → Fewer h (after_greeting h o)
greeting-fewer h None = first-fewer h h.arrived refl
greeting-fewer h (Some t) = either (Fewer h) (is_active_for t h.supervised) (greeted t h) (postponing h) (λ _. record { sender = refl; arrived = λ f fs e. (f, fs, e); untold = λ t i. i }) (λ _. record { sender = refl; arrived = λ f fs e. (f, fs, e); untold = λ t i. i })

told-fewer : (h : HubState) (ts : List ℕ) → h.untold ≡ ts → Fewer h (after_told h ts)
told-fewer h [] e = greeting-fewer h (greeted_next h.greetings h.early)
told-fewer h (t ∷ ts) e = record { sender = refl; arrived = λ f fs a. (f, fs, a); untold = λ u i. subst (In u) (sym e) (Later i) }

advanced-fewer : (h : HubState) → Fewer h (advanced h)
advanced-fewer h = either (Fewer h) (is_some h.supervised.broker) (after_told h h.untold) (after_first h h.arrived) (λ _. told-fewer h h.untold refl) (λ _. first-fewer h h.arrived refl)

-- A new broker

down-fewer : (h : HubState) → Fewer h (hub_down h)
down-fewer h = either (Fewer h) (is_some h.supervised.broker) (hub_stopped h) h (λ _. record { sender = refl; arrived = λ f fs e. (f, fs, e); untold = λ t i. i }) (λ _. fewer-same h)

restarted-fewer : (h : HubState) → Fewer h (hub_restarted h)
restarted-fewer h = let d = down-fewer h in record { sender = d.sender; arrived = d.arrived; untold = d.untold }

-- Tabs

closed-known : (h : HubState) (t : ℕ) (fs : List Frame) → is_living h.supervised.kernel t ≡ true → ((f : Frame) (gs : List Frame) → fs ≡ f ∷ gs → (h.sender ≢ t) × (h.arrived ≡ f ∷ gs)) → KnownOf h
    → Known (killed t h.supervised.kernel).opened h.sender fs (h.untold ++ t ∷ [])
closed-known h t fs lv came x =
    let os = h.supervised.kernel.opened in record {
      living = λ f gs e. let o = came f gs e in killed-else os t h.sender o.0 ∙ x.living f gs o.1;
      dead = λ u i. ⊎_elim
          (λ j. let p = and_parts _ _ (x.dead u j) in and_from _ _ (ended-opened t os u ∙ p.0) (not_from_false _ (stays u (not-true _ p.1))))
          (λ j. subst (λ z. (is_some (tab_in (map (ended t) os) z) && not (lives_in (tab_in (map (ended t) os) z))) ≡ true) (sym (In-one j))
          (and_from _ _ (ended-opened t os t ∙ living_opened (tab_in os t) lv) (not_from_false _ (killed-dead os t))))
          (In-append_cases h.untold (t ∷ []) i);
    }
  where
    stays : (u : ℕ) → lives_in (tab_in h.supervised.kernel.opened u) ≡ false → lives_in (tab_in (map (ended t) h.supervised.kernel.opened) u) ≡ false
    stays u n = ⊎_elim (λ y. apart (ended-lives t h.supervised.kernel.opened u y) n) (λ z. z) (cases_Bool (lives_in (tab_in (map (ended t) h.supervised.kernel.opened) u)))

opened-known : (h : HubState) (t : ℕ) (p : Pair) (i : Bool) → is_opened h.supervised.kernel t ≡ false → KnownOf h → KnownOf (hub_opened t p i h)
opened-known h t p i n x = record {
  living = λ f gs e. let lv = x.living f gs e in sym (ap lives_in (others h.sender (λ z. apart (living_opened _ lv) (subst (λ y. is_opened h.supervised.kernel y ≡ false) z n)))) ∙ lv;
  dead = λ u j. let d = x.dead u j in subst (λ o. (is_some o && not (lives_in o)) ≡ true) (others u (λ z. apart (and_parts _ _ d).0 (subst (λ y. is_opened h.supervised.kernel y ≡ false) z n))) d;
}
  where
    others : (u : ℕ) → t ≢ u → opened_tab h.supervised.kernel u ≡ opened_tab (opened t p h.supervised.kernel) u
    others u d = each_opened (λ u o q. t ≢ u → opened_tab h.supervised.kernel u ≡ o) h.supervised.kernel t p n (λ q e. absurd (e refl)) (λ u e _. refl) u d

-- Steps

abbrev KnownIn : Library → Type 0
KnownIn l = KnownOf l.hub

fed-known : (l : Library) (t n : ℕ) (fs : List Frame) → l.hub.arrived ≡ fs → lives l t ≡ true → KnownIn l → KnownIn (hub_fed t n fs l)
fed-known l t n [] e lv x = record { living = λ f gs a. lv; dead = x.dead }
fed-known l t n (f ∷ fs) e lv x = x

sends-known : (l : Library) (os : List (ℕ × Frame)) → KnownIn l → KnownIn (hub_sends_from os l)
sends-known l [] x = x
sends-known l (o ∷ os) x = either KnownIn (is_due l.hub o) _ (with_hub (record l.hub { outputs = os }) l) (λ _. record { living = x.living; dead = x.dead }) (λ _. record { living = x.living; dead = x.dead })

-- A step of a client leaves the hub alone.
if-known : (b : Bool) (x y : Library) → KnownIn x → KnownIn y → KnownIn (if b then x else y)
if-known b x y p q = either KnownIn b x y (λ _. p) (λ _. q)

step-known : (l : Library) (y : Step) → KnownIn l → KnownIn (step y l)
unfolding step
step-known l (Opens t (Err f) i) x = x
step-known l (Opens t (Ok p) i) x =
    either KnownIn (is_some (page_refusal t (Ok p) l.hub)) l (with_line t new_line (with_hub (hub_opened t p i l.hub) l))
    (λ _. x)
    (λ n. opened-known l.hub t p i (not_opened l.hub.supervised.kernel t p (sym (mapped-some (open_refusal t p l.hub.supervised.kernel)) ∙ n)) x)
step-known l (Closes t) x =
    either KnownIn (lives l t) (with_hub (hub_closed t l.hub) l) l
    (λ lv. either (λ (z : HubState). KnownOf z) (l.hub.sender == t) _ _
    (λ _. closed-known l.hub t [] lv (λ f gs e. absurd (nil-cons e)) x)
    (λ n. closed-known l.hub t l.hub.arrived lv (λ f gs e. (eqb-false l.hub.sender t n, e)) x))
    (λ _. x)
  where
    nil-cons : {f : Frame} {gs : List Frame} → [] ≡ f ∷ gs → ⊥
    nil-cons e = cc
step-known l Restarts x = known-fewer l.hub (hub_restarted l.hub) (restarted-tabs l.hub) (restarted-fewer l.hub) x
step-known l Stops x = known-fewer l.hub (hub_down l.hub) (down-tabs l.hub) (down-fewer l.hub) x
step-known l (HubReceives t n) x = either KnownIn (lives l t) (hub_fed t n l.hub.arrived l) l (λ lv. fed-known l t n l.hub.arrived refl lv x) (λ _. x)
step-known l HubAdvances x = known-fewer l.hub (advanced l.hub) (advanced-tabs l.hub) (advanced-fewer l.hub) x
step-known l HubSends x = sends-known l l.hub.outputs x
step-known l (Asks t mode b name) x = if-known (runs l t) _ l x x
step-known l (Queries t) x = if-known (runs l t) _ l x x
step-known l (Aborts t k) x = if-known (runs l t) _ l x x
step-known l (Releases t k) x = if-known (runs l t) _ l x x
step-known l (Resends t) x = if-known (runs l t) _ l x x
step-known l (OpensChannel t name) x = if-known (runs l t) _ l x x
step-known l (Posts t k bytes) x = if-known (runs l t) _ l x x
step-known l (Reads t k) x = if-known (runs l t) _ l x x
step-known l (ClosesChannel t k) x = if-known (runs l t) _ l x x
step-known l (TakesEvent t) x = if-known (runs l t) _ l x x
step-known l (ClientReceives t n) x = if-known (runs l t) _ l x x
step-known l (ClientAdvances t) x = if-known (runs l t) _ l x x
step-known l (ClientSends t) x = if-known (runs l t) _ l x x
step-known l (TakesOver t) x = if-known (lives l t) _ l x x
step-known l (Forges t f) x = if-known (is_taken l t && lives l t) _ l x x

steps-known : (ys : List Step) (l : Library) → KnownIn l → KnownIn (run_steps ys l)
steps-known [] l x = x
steps-known (y ∷ ys) l x = steps-known ys (step y l) (step-known l y x)

known : (l : Library) → IsReached l → KnownIn l
known l r = subst KnownIn r.is (steps-known r.steps new_library (record { living = λ f gs e. absurd (nil-cons e); dead = λ t i. absurd (In-nil i) }))
  where
    nil-cons : {f : Frame} {gs : List Frame} → [] ≡ f ∷ gs → ⊥
    nil-cons e = cc

pub reached-living : (l : Library) → IsReached l → (f : Frame) (fs : List Frame) → l.hub.arrived ≡ f ∷ fs → is_living l.hub.supervised.kernel l.hub.sender ≡ true
reached-living l r f fs e = (known l r).living f fs e

pub reached-untold : (l : Library) → IsReached l → (t : ℕ) → In t l.hub.untold → is_dead l.hub.supervised.kernel t ≡ true
reached-untold l r t i = (known l r).dead t i
