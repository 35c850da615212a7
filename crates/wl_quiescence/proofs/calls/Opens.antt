-- Openings and deaths of tabs keep the invariant.
use Rattle.std.proofs.Common.{◌≡◌, ◌≢◌, ◌⊎◌, inl, inr, ⊎_elim, ℕ, ◌<◌, ◌≤◌, Bool, true, false, not, ◌&&◌, cond, List, [], ◌∷◌, ◌++◌, length, map, filter, Option, Some, None, is_some, option_map, Result, Ok, Err, refl, sym, ap, ap₂, ◌∙◌, subst, arith, append-nil}
use Rattle.std.specs.Prelude.{◌==◌, nat_eq, if◌then◌else◌}
use Rattle.std.specs.List.{list_any}
use Rattle.std.proofs.lemmas.Bool.{cases_eq, and_parts, and_from, eqb-true, eqb-false, eq-eqb, ne_eqb, not-true}
use Rattle.indexmap.specs.IndexMap.{swap_remove_entry}
use Rattle.wl_origin.specs.Order.{Pair}
use Rattle.wl_origin.specs.declared.fault.OriginFault.{OriginFault}
use Rattle.wl_draft.specs.Membership.{In, Here, Later}
use Rattle.wl_draft.proofs.Membership.{apart, either, by_test, In-nil, In-one, In-head, In-cons_cases, In-filter, In-append_left, In-append_right}
use Rattle.wl_grammar.specs.declared.frame.Frame.{Frame}
use Rattle.wl_broker.specs.Broker.{BrokerState, seat_of, is_joined, is_active}
use Rattle.wl_kernel.specs.declared.fault.OpenFault.{OpenFault}
use Rattle.wl_kernel.specs.Kernel.{KernelState, OpenedTab, tab_in, is_opened, is_living, partition_number, open_refusal, opened, ended, killed, lives as lives_in}
use Rattle.wl_kernel.specs.Kernel.{tab_of as opened_tab}
use Rattle.wl_kernel.specs.Welcome.{texts_of, welcome}
use Rattle.wl_client.specs.Client.{welcome_of}
use Rattle.wl_hub.specs.Early.{without_tab}
use Rattle.wl_hub.specs.Hub.{HubState, greeting, hub_opened, page_refusal, hub_closed}
use Rattle.wl_hub.specs.declared.fault.OpenRefusal.TheVariants.{Tab}
use Rattle.wl_world_model.specs.World.{WorldState, tab_of}
use Rattle.wl_world_model.specs.Holdings.{IsHonest as IsHonestIn}
use Rattle.wl_world_model.proofs.exclusion.Invariant.{broker_of, broker_in, limit_in}
use Rattle.wl_world_model.proofs.exclusion.CoverExcludes.{living_opened}
use Rattle.wl_world_model.proofs.exclusion.OpenedTabs.{each_opened, ended-opened, ended-lives, ended-number}
use Rattle.wl_world_model.proofs.exclusion.OpeningAndKilling.{not_opened}
use Rattle.wl_library_model.specs.Library.{Library, Opens, Closes, new_line, client_of, lives, is_taken, runs, with_line, with_hub, step}
use Rattle.wl_library_model.proofs.Carried.{Sim}
use Rattle.wl_quiescence.proofs.rest.Invariant.{View, Fresh, Serves, IsNoted, SendsAgain, IsResting, Greets, hello, is_answer_in, arrived_of, outputs_to, view, view_with}
use Rattle.wl_quiescence.proofs.rest.Steps.{to-other}
use Rattle.wl_quiescence.proofs.rest.Outputs.{outputs-none}
use Rattle.wl_quiescence.proofs.rest.Restarts.{outputs-append}

-- A death

pub killed-dead : (os : List OpenedTab) (t : ℕ) → lives_in (tab_in (map (ended t) os) t) ≡ false
killed-dead [] t = refl
killed-dead (o ∷ os) t =
    let rest = tab_in (map (ended t) os) t in
    either (λ (z : OpenedTab). lives_in (cond (z.tab == t) (Some z) rest) ≡ false) (o.tab == t) (record o { living = false }) o
    (λ y. ap (λ b. lives_in (cond b (Some (record o { living = false })) rest)) y)
    (λ n. ap (λ b. lives_in (cond b (Some o) rest)) n ∙ killed-dead os t)

pub killed-else : (os : List OpenedTab) (t u : ℕ) → u ≢ t → lives_in (tab_in (map (ended t) os) u) ≡ lives_in (tab_in os u)
killed-else [] t u d = refl
killed-else (o ∷ os) t u d =
    let rest = tab_in (map (ended t) os) u in
    either (λ (z : OpenedTab). lives_in (cond (z.tab == u) (Some z) rest) ≡ lives_in (cond (o.tab == u) (Some o) (tab_in os u))) (o.tab == t) (record o { living = false }) o
    (λ y. let n : (o.tab == u) ≡ false = ne_eqb o.tab u (λ e. d (sym e ∙ eqb-true o.tab t y)) in
    ap (λ b. lives_in (cond b (Some (record o { living = false })) rest)) n ∙ (killed-else os t u d ∙ sym (ap (λ b. lives_in (cond b (Some o) (tab_in os u))) n)))
    (λ _. by_test (λ b. lives_in (cond b (Some o) rest) ≡ lives_in (cond b (Some o) (tab_in os u))) (o.tab == u) (λ _. refl) (λ _. killed-else os t u d))

-- The hub at a death, with these frames still to handle.
abbrev pub dying : ℕ → HubState → List Frame → HubState
dying t h fs = record h {
  supervised = record { kernel = killed t h.supervised.kernel; broker = h.supervised.broker };
  feeds = swap_remove_entry (nat_eq t) h.feeds;
  untold = h.untold ++ t ∷ [];
  early = without_tab t h.early;
  arrived = fs;
}

-- A tab among those that are left stood among all, with no fewer in front of it.
record StoodIn (t : ℕ) (ts : List ℕ) (front : List ℕ) (u : ℕ) : Type 0 where
  before : List ℕ
  behind : List ℕ
  split : ts ≡ before ++ u ∷ behind
  fewer : length front ≤ length before

first-same : (x u : ℕ) (xs ys : List ℕ) → x ∷ xs ≡ u ∷ ys → x ≡ u
first-same x u xs ys e = cc

rest-same : (x y : ℕ) (xs ys : List ℕ) → x ∷ xs ≡ y ∷ ys → xs ≡ ys
rest-same x y xs ys e = cc

behind-one : (t x : ℕ) (ts front : List ℕ) (u : ℕ) → StoodIn t ts front u → StoodIn t (x ∷ ts) front u
behind-one t x ts front u o = let le = o.fewer in record { before = x ∷ o.before; behind = o.behind; split = ap (λ z. x ∷ z) o.split; fewer = omega (arith, le) }

stood-in : (t : ℕ) (ts front back : List ℕ) (u : ℕ) → without_tab t ts ≡ front ++ u ∷ back → StoodIn t ts front u
stood-in t [] front back u = λ e. absurd (In-nil (subst (In u) (sym e) (In-append_right front Here)))
stood-in t (x ∷ ts) [] back u =
    either (λ zs. zs ≡ u ∷ back → StoodIn t (x ∷ ts) [] u) (not (x == t)) (x ∷ without_tab t ts) (without_tab t ts)
    (λ _ e. record { before = []; behind = ts; split = ap (λ z. z ∷ ts) (first-same x u (without_tab t ts) back e); fewer = omega arith })
    (λ _ e. behind-one t x ts [] u (stood-in t ts [] back u e))
stood-in t (x ∷ ts) (y ∷ ys) back u =
    either (λ zs. zs ≡ y ∷ ys ++ u ∷ back → StoodIn t (x ∷ ts) (y ∷ ys) u) (not (x == t)) (x ∷ without_tab t ts) (without_tab t ts)
    (λ _ e.
    let o = stood-in t ts ys back u (rest-same x y (without_tab t ts) (ys ++ u ∷ back) e) in
    let le = o.fewer in record { before = x ∷ o.before; behind = o.behind; split = ap (λ z. x ∷ z) o.split; fewer = omega (arith, le) })
    (λ _ e. behind-one t x ts (y ∷ ys) u (stood-in t ts (y ∷ ys) back u e))

-- Of the early tabs a tab asks only whether it is one of them.
abbrev later-early : View → List ℕ → View
later-early v es = record v { early = es }

serves-early : (v : View) (es : List ℕ) (t : ℕ) (b : BrokerState) → (In t v.early → In t es) → Serves v t b → Serves (later-early v es) t b
serves-early v es t b f s =
    let noted : IsNoted v t b → IsNoted (later-early v es) t b = λ o. (o.0, f o.1) in
    let again : SendsAgain v t b → SendsAgain (later-early v es) t b = ⊎_elim inl (λ o. inr (⊎_elim (λ n. inl (noted n)) inr o)) in
    record {
      welcomed = s.welcomed;
      enters = s.enters;
      answers = s.answers;
      reaches = λ e. ⊎_elim inl (λ o. inr (⊎_elim (λ n. inl (noted n)) inr o)) (s.reaches e);
      reported = s.reported;
      kept = λ j. let k = s.kept j in record {
        acknowledged = k.acknowledged;
        issued = k.issued;
        queried = k.queried;
        awaited = λ m lt w. ⊎_elim inl (λ o. inr (⊎_elim inl (λ o. inr (⊎_elim inl (λ o. inr (⊎_elim (λ h. inl (again h)) inr o)) o)) o)) (k.awaited m lt w);
        stands = k.stands;
        own = k.own;
        room = k.room;
      };
    }

fresh-early : (v : View) (es : List ℕ) (bound : ℕ) → Fresh v bound → Fresh (later-early v es) bound
fresh-early v es bound x = record { welcome = x.welcome; past = x.past; entered = x.entered }

dying-rests : (l : Library) (t : ℕ) (fs : List Frame) → ((u : ℕ) → u ≢ t → arrived_of (dying t l.hub fs) u ≡ arrived_of l.hub u) → IsResting l → IsResting (with_hub (dying t l.hub fs) l)
dying-rests l t fs a x =
    let h = dying t l.hub fs in
    let k = l.hub.supervised.kernel in
    let m = with_hub h l in
    let number : (u : ℕ) → partition_number (killed t k) u ≡ partition_number k u = λ u. ended-number t k.opened u in
    let other : (u : ℕ) → is_living (killed t k) u ≡ true → u ≢ t = λ u lv e. apart lv (subst (λ z. is_living (killed t k) z ≡ false) (sym e) (killed-dead k.opened t)) in
    let was : (u : ℕ) → runs m u ≡ true → (runs l u ≡ true) × (u ≢ t) = λ u r.
    let p = and_parts (lives m u) (not (is_taken l u)) r in
    (and_from (lives l u) (not (is_taken l u)) (ended-lives t k.opened u p.0) p.1, other u p.0) in
    let same : (u : ℕ) → u ≢ t → view m u ≡ later-early (view l u) h.early = λ u d. ap₂ (λ us q. record (view l u) { up = us ++ (l.lines u).up; place = q; early = h.early }) (a u d) (number u) in
    let still : (u : ℕ) → is_living k u ≡ true → (is_living (killed t k) u ≡ true) ⊎ In u h.untold = λ u lv.
    ⊎_elim (λ e. inr (In-append_right l.hub.untold (In-head e))) (λ d. inl (killed-else k.opened t u d ∙ lv)) (cases_eq u t) in
    record {
      fresh = λ u r. let o = was u r in subst (λ z. Fresh z (limit_in k.generation l.hub.supervised.broker)) (sym (same u o.1)) (fresh-early (view l u) h.early _ (x.fresh u o.0));
      serving = λ b u up r. let o = was u r in subst (λ z. Serves z u b) (sym (same u o.1)) (serves-early (view l u) h.early u b (λ i. In-filter (λ z. not (z == t)) l.hub.early i (ap not (ne_eqb u t o.1))) (x.serving b u up o.0));
      keeping = λ b up. let y = x.keeping b up in record {
        early = λ front back u e lv.
            let o = stood-in t l.hub.early front back u e in let le = o.fewer in
            ⊎_elim (λ lt. inl (omega (arith, le, lt))) (λ n. inr (ap (is_active b) (number u) ∙ n)) (y.early o.before o.behind u o.split (ended-lives t k.opened u lv));
        listed = λ u q i.
            let o = y.listed u q i in (
              o.0 ∙ sym (number u),
              ended-opened t k.opened u ∙ o.1,
              ⊎_elim (λ lv. ⊎_elim inl (λ j. inr (inl j)) (still u lv)) (λ z. inr (⊎_elim (λ j. inl (In-append_left (t ∷ []) j)) inr z)) o.2,
            );
        joined = λ u j. ⊎_elim (λ lv. still u lv) (λ i. inr (In-append_left (t ∷ []) i)) (y.joined u j);
        settled = y.settled;
        rows = y.rows;
      };
    }

pub close-rests : (l : Library) (t : ℕ) → IsResting l → IsResting (step (Closes t) l)
unfolding step
close-rests l t x =
    either IsResting (lives l t) (with_hub (hub_closed t l.hub) l) l
    (λ _. either (λ (z : HubState). IsResting (with_hub z l)) (l.hub.sender == t) (dying t l.hub []) (dying t l.hub l.hub.arrived)
    (λ y. dying-rests l t [] (λ u d. let n : (l.hub.sender == u) ≡ false = ne_eqb l.hub.sender u (λ e. d (sym e ∙ eqb-true l.hub.sender t y)) in
    ap (λ b. if b then [] else []) n ∙ sym (ap (λ b. if b then l.hub.arrived else []) n)) x)
    (λ _. dying-rests l t l.hub.arrived (λ u d. refl) x))
    (λ _. x)

-- An opening

welcome-is : (t : ℕ) (p : Pair) (i : Bool) → (x : ℕ × Bool) × (welcome_of (welcome t (texts_of p i).top (texts_of p i).own) ≡ Some x)
welcome-is t p true = ((t, true), refl)
welcome-is t p false = ((t, false), refl)

welcome-plain : (t g : ℕ) (p : Pair) (i : Bool) → is_answer_in g (welcome t (texts_of p i).top (texts_of p i).own) ≡ false
welcome-plain t g p true = refl
welcome-plain t g p false = refl

-- Each frame for a tab is for one that was opened.
abbrev pub OutputsOpened : Library → Type 0
OutputsOpened l = (t : ℕ) (f : Frame) → In (t, f) l.hub.outputs → is_opened l.hub.supervised.kernel t ≡ true

module _ (l : Library) (w : WorldState) (t : ℕ) (p : Pair) (i : Bool) (s : Sim l w) (outs : OutputsOpened l) (x : IsResting l) (unopened : is_opened l.hub.supervised.kernel t ≡ false) where
  abbrev kernel : KernelState
  kernel = l.hub.supervised.kernel

  abbrev pub hub : HubState
  hub = hub_opened t p i l.hub

  abbrev pub next : Library
  next = with_line t new_line (with_hub hub l)

  abbrev first : Frame
  first = welcome t (texts_of p i).top (texts_of p i).own

  abbrev greets : List (ℕ × Frame)
  greets = greeting t l.hub.supervised

  others : (u : ℕ) → t ≢ u → (opened_tab (opened t p kernel) u ≡ opened_tab kernel u) × (partition_number (opened t p kernel) u ≡ partition_number kernel u)
  others u d = each_opened (λ u o q. t ≢ u → (o ≡ opened_tab kernel u) × (q ≡ partition_number kernel u)) kernel t p unopened (λ q e. absurd (e refl)) (λ u e _. (refl, refl)) u d

  no-greeting : (u : ℕ) → t ≢ u → outputs_to u greets ≡ []
  no-greeting u d = either (λ zs. outputs_to u zs ≡ []) (is_some l.hub.supervised.broker) ((t, hello kernel.generation) ∷ []) []
      (λ _. sym (to-other (t, hello kernel.generation) [] u (ne_eqb t u d))) (λ _. refl)

  pub other-view : (u : ℕ) → t ≢ u → view_with hub (l.lines u) u ≡ view l u
  other-view u d = ap₂ (λ zs q. record (view l u) { down = (client_of l u).arrived ++ (l.lines u).down ++ zs; place = q })
      (outputs-append u l.hub.outputs ((t, first) ∷ greets)
      ∙ (ap (λ z. outputs_to u l.hub.outputs ++ z) (sym (to-other (t, first) greets u (ne_eqb t u d)) ∙ no-greeting u d) ∙ append-nil (outputs_to u l.hub.outputs)))
      (others u d).1

  down-new : outputs_to t hub.outputs ≡ first ∷ outputs_to t greets
  down-new =
      outputs-append t l.hub.outputs ((t, first) ∷ greets)
      ∙ (ap (λ z. z ++ outputs_to t ((t, first) ∷ greets)) (outputs-none t l.hub.outputs (λ f j. apart (outs t f j) unopened))
      ∙ ap (λ b. map (λ (z : ℕ × Frame). z.1) (cond b ((t, first) ∷ filter (λ (z : ℕ × Frame). z.0 == t) greets) (filter (λ (z : ℕ × Frame). z.0 == t) greets))) (eq-eqb t t refl))

  greeting-hello : (f : Frame) → In f (outputs_to t greets) → f ≡ hello kernel.generation
  greeting-hello f = either (λ zs. In f (outputs_to t zs) → f ≡ hello kernel.generation) (is_some l.hub.supervised.broker) ((t, hello kernel.generation) ∷ []) []
      (λ _ j. In-one (subst (In f) (ap (λ b. map (λ (z : ℕ × Frame). z.1) (cond b ((t, hello kernel.generation) ∷ []) [])) (eq-eqb t t refl)) j)) (λ _ j. absurd (In-nil j))

  pub no-answer : (f : Frame) (g : ℕ) → In f (outputs_to t hub.outputs) → is_answer_in g f ≡ true → ⊥
  no-answer f g j a = ⊎_elim (λ e. apart (ap (is_answer_in g) (sym e) ∙ a) (welcome-plain t g p i)) (λ k. apart (ap (is_answer_in g) (sym (greeting-hello f k)) ∙ a) refl)
      (In-cons_cases (subst (In f) down-new j))

  generations : kernel.generation ≡ w.kernel.generation
  generations = ap (λ z. z.generation) s.hub.kernel

  positive : 0 < limit_in kernel.generation l.hub.supervised.broker
  positive = let pos = s.good.sound.positive in let g = generations in more l.hub.supervised.broker (omega (arith, pos, g))
    where
      more : (o : Option BrokerState) → 0 < l.hub.supervised.kernel.generation → 0 < limit_in l.hub.supervised.kernel.generation o
      more None lt = lt
      more (Some b) lt = omega arith

  new-fresh : Fresh (view_with hub new_line t) (limit_in kernel.generation l.hub.supervised.broker)
  new-fresh = let o = welcome-is t p i in record {
    welcome = λ _. (first, outputs_to t greets, o.0, down-new, o.1);
    past = λ f g j a. absurd (no-answer f g j a);
    entered = positive;
  }

  current : (b : BrokerState) → l.hub.supervised.broker ≡ Some b → b.generation ≡ kernel.generation
  current b up =
      sym (ap (λ (z : BrokerState). z.generation) (ap (broker_in w.kernel.generation) (sym s.hub.broker ∙ up)))
      ∙ (s.good.sound.current ∙ sym generations)

  new-greets : (b : BrokerState) → l.hub.supervised.broker ≡ Some b → Greets b.generation (view_with hub new_line t)
  new-greets b up =
      let g : outputs_to t greets ≡ hello b.generation ∷ [] =
      ap (λ z. outputs_to t (cond (is_some z) ((t, hello kernel.generation) ∷ []) [])) up
      ∙ (ap (λ z. map (λ (z : ℕ × Frame). z.1) (cond z ((t, hello kernel.generation) ∷ []) [])) (eq-eqb t t refl) ∙ ap (λ z. hello z ∷ []) (sym (current b up))) in
      subst (In (hello b.generation)) (sym down-new) (Later (subst (In (hello b.generation)) (sym g) Here))

  never-joined : (b : BrokerState) → l.hub.supervised.broker ≡ Some b → is_taken l t ≡ false → is_joined (seat_of b t) ≡ true → ⊥
  never-joined b up h j =
      let broker : broker_of w ≡ b = ap (broker_in w.kernel.generation) (sym s.hub.broker ∙ up) in
      let honest : IsHonestIn w t = subst (λ zs. list_any (λ u. u == t) zs ≡ false) s.taken h in
      let e : (tab_of w t).entered ≡ w.kernel.generation = (s.good.sound.seats t).joined honest (subst (λ (z : BrokerState). is_joined (seat_of z t) ≡ true) (sym broker) j) in
      let born = (s.good.sound.tabs t).unopened (subst (λ z. is_opened z t ≡ false) s.hub.kernel unopened) in
      let z : (tab_of w t).entered ≡ 0 = ap (λ y. y.entered) born.1 in
      let pos = s.good.sound.positive in
      omega (arith, e, z, pos)

  new-serves : (b : BrokerState) → l.hub.supervised.broker ≡ Some b → is_taken l t ≡ false → Serves (view_with hub new_line t) t b
  new-serves b up h = let c = current b up in let g = generations in let pos = s.good.sound.positive in record {
    welcomed = λ _. new-greets b up;
    enters = λ _. new-greets b up;
    answers = λ f j a. absurd (no-answer f b.generation j a);
    reaches = λ _. inl (new-greets b up);
    reported = λ e _. absurd (omega (arith, e, c, g, pos));
    kept = λ j. absurd (never-joined b up h j);
  }

  was-opened : (u : ℕ) → is_opened kernel u ≡ true → t ≢ u
  was-opened u o e = apart o (subst (λ z. is_opened kernel z ≡ false) e unopened)

  pub each-runs : (u : ℕ) → t ≢ u → runs next u ≡ true → runs l u ≡ true
  each-runs u d r = sym (ap (λ z. lives_in z && not (is_taken l u)) (others u d).0) ∙ r

  pub opened-rests : IsResting next
  opened-rests = record {
    fresh = λ u r. either (λ z. Fresh (view_with hub z u) (limit_in kernel.generation l.hub.supervised.broker)) (u == t) new_line (l.lines u)
        (λ y. subst (λ z. Fresh (view_with hub new_line z) (limit_in kernel.generation l.hub.supervised.broker)) (sym (eqb-true u t y)) new-fresh)
        (λ n. let d : t ≢ u = λ e. eqb-false u t n (sym e) in subst (λ z. Fresh z (limit_in kernel.generation l.hub.supervised.broker)) (sym (other-view u d)) (x.fresh u (each-runs u d r)));
    serving = λ b u up r. either (λ z. Serves (view_with hub z u) u b) (u == t) new_line (l.lines u)
        (λ y. let e = eqb-true u t y in
        subst (λ z. Serves (view_with hub new_line z) z b) (sym e) (new-serves b up (subst (λ z. is_taken l z ≡ false) e (not-true _ (and_parts (lives next u) (not (is_taken l u)) r).1))))
        (λ n. let d : t ≢ u = λ e. eqb-false u t n (sym e) in subst (λ z. Serves z u b) (sym (other-view u d)) (x.serving b u up (each-runs u d r)));
    keeping = λ b up. let y = x.keeping b up in record {
      early = λ front back u e lv.
          let d = was-opened u (subst (λ z. is_opened z u ≡ true) (sym s.hub.kernel) (s.hub.early u (subst (In u) (sym e) (In-append_right front Here)))) in
          let o = others u d in
          ⊎_elim inl (λ n. inr (ap (is_active b) o.1 ∙ n)) (y.early front back u e (sym (ap lives_in o.0) ∙ lv));
      listed = λ u q j.
          let h = y.listed u q j in
          let o = others u (was-opened u h.1) in
          (h.0 ∙ sym o.1, ap is_some o.0 ∙ h.1, ⊎_elim (λ lv. inl (ap lives_in o.0 ∙ lv)) inr h.2);
      joined = λ u j. ⊎_elim (λ lv. inl (ap lives_in (others u (was-opened u (living_opened (opened_tab kernel u) lv))).0 ∙ lv)) inr (y.joined u j);
      settled = y.settled;
      rows = y.rows;
    };
  }

pub mapped-some : (o : Option OpenFault) → is_some (option_map Tab o) ≡ is_some o
mapped-some None = refl
mapped-some (Some f) = refl

pub open-rests : (l : Library) (w : WorldState) (t : ℕ) (page : Result Pair OriginFault) (i : Bool) → Sim l w → OutputsOpened l → IsResting l → IsResting (step (Opens t page i) l)
unfolding step
open-rests l w t (Err f) i s outs x = x
open-rests l w t (Ok p) i s outs x =
    either IsResting (is_some (page_refusal t (Ok p) l.hub)) l (with_line t new_line (with_hub (hub_opened t p i l.hub) l))
    (λ _. x)
    (λ n. opened-rests l w t p i s outs x (not_opened l.hub.supervised.kernel t p (sym (mapped-some (open_refusal t p l.hub.supervised.kernel)) ∙ n)))
