-- Proof that each event keeps broker and bag in agreement with the picked list.
use Rattle.std.proofs.Common.{◌≡◌, ◌≢◌, ⊎_elim, ℕ, ◌<◌, Bool, true, false, cond, not, ◌&&◌, Option, Some, None, is_some, List, [], ◌∷◌, ◌++◌, map, drop, refl, sym, ap, ◌∙◌, subst, arith}
use Rattle.std.specs.Prelude.{◌==◌}
use Rattle.std.proofs.Math.Bool.{and-true}
use Rattle.std.proofs.lemmas.Bool.{cases_eq, cases_Bool, and_parts, and_right, eq-eqb, ne_eqb, not-true, not-false}
use Rattle.wl_grammar.specs.declared.frame.Operation.{Operation}
use Rattle.wl_grammar.specs.declared.frame.Stamped.{Stamped}
use Rattle.wl_grammar.specs.declared.frame.Addressed.{Addressed}
use Rattle.wl_grammar.specs.declared.frame.Upward.{Upward}
use Rattle.wl_grammar.specs.declared.frame.Upward.TheVariants as up
use Rattle.wl_grammar.specs.declared.frame.Downward.TheVariants as down
use Rattle.wl_broker_reports.specs.ReportParts.{at_once, in_part}
use Rattle.wl_broker.specs.Broker.{BrokerState, started, hellos, Taking, Drops, Does, taking, death_step}
use Rattle.wl_kernel.specs.Kernel.{is_opened, start_refusal, stranger, placed, partition_number, may_stop, stopped}
use Rattle.wl_world_messages.specs.declared.message.Message.{Message}
use Rattle.wl_world_messages.specs.declared.message.Message.TheVariants.{Up, Down, Across}
use Rattle.wl_world_messages.specs.Messages.{is_sent, sent_all}
use Rattle.wl_draft.specs.Membership.{In}
use Rattle.wl_draft.proofs.Membership.{apart, In-nil, In-map_cases}
use Rattle.wl_world_messages.proofs.Same.{is_sent-In, sent_all-keeps, sent_all-cases, down-same, answer-no_hello}
use Rattle.wl_world_model.specs.declared.event.Event.{Event}
use Rattle.wl_world_model.specs.declared.event.Event.TheVariants as event
use Rattle.wl_world_model.specs.World.{WorldState, empty_world, tab_of, lives, partition_of, unchanged, if_allowed, from_broker, arrives_at_broker, arrives, tells, stops, starts, greets, step_result, after_event, run}
use Rattle.wl_world_model.proofs.AtBroker.{follows, buries, begins}
use Rattle.wl_world_model.specs.Holdings.{IsHonest}
use Rattle.wl_world_model.specs.Orders.{Dies, Item, Picked, of_partition, of_tab, has_death, commands_of, base_of, adds, is_up, takes_death, begins_now, picks_message, picks, picked_from, picked, IsPrefix, numbered, WasHeld, CommandsInOrderForAll, ManagerIsFoldForAll, GrantedWereHeldForAll, GrantsWereSentForAll}
use Rattle.wl_world_model.proofs.exclusion.Invariant.{Sound, limit_in, broker_in, was_opened, HasGrant, up_message}
use Rattle.wl_world_model.proofs.exclusion.ActsWithinAGeneration.{after}
use Rattle.wl_world_model.proofs.exclusion.Starting.{none-absent, first_such-none, hellos-greet}
use Rattle.wl_world_model.proofs.exclusion.SoundRuns.{empty-sound, happens-sound}
use Rattle.wl_world_model.proofs.order.OneMoreItem.{of_tab-off, of_tab-none}
use Rattle.wl_world_model.proofs.order.RunsOfCommands.{ordered-none, ordered-grows, ordered-prefix}
use Rattle.wl_world_model.proofs.order.BrokerIsPicked.{seat_by, Tied, LiveCommand, own-tab}
use Rattle.wl_world_model.proofs.order.TakenIsPicked.{Tells}
use Rattle.wl_world_model.proofs.order.PickedIsTaken.{death-same, burial-follows, taking-follows}
use Rattle.wl_world_model.proofs.order.OneGeneration.{AnswerDown, Speaks, taking-speaks, burial-speaks}
use Rattle.wl_world_model.proofs.order.WithoutBroker.{Based, Quiet, quiet-allowed, asks-quiet, queries-quiet, aborts-quiet, releases-quiet, resends-quiet, hears-quiet, becomes-quiet, hello-quiet, opens-quiet, kills-quiet, opens_channel-quiet, posts-quiet, reads-quiet, closes-quiet, corrupts-quiet, forges-quiet}

-- The invariant

-- A broker of generation `g` that is up agrees with the list.
abbrev TiedIf : ℕ → WorldState → Picked → Option BrokerState → Type 0
TiedIf g w k None = Unit {0}
TiedIf g w k (Some b) = b.generation ≡ g → Tied (partition_of w) (was_opened w) b k

abbrev KeptOf : ℕ → WorldState → Picked → Type 0
KeptOf g w k = LiveCommand (partition_of w) (was_opened w) g (λ t. (tab_of w t).issued) (IsHonest w) w.bag k

record Ordering (g : ℕ) (w : WorldState) (k : Picked) : Type 0 where
  sound : Sound w
  based : Based w
  kept : KeptOf g w k
  tied : TiedIf g w k w.broker

-- No broker starts, stops or sends

seat-nobody : (part : ℕ) (mine : List Item) → mine ≡ [] → seat_by part mine ≡ None
seat-nobody part mine e = ap (seat_by part) e

quiet-tied : (g : ℕ) (w v : WorldState) (k : Picked) → KeptOf g w k → Quiet w v → (o : Option BrokerState) → TiedIf g w k o → TiedIf g v k o
quiet-tied g w v k kept q None tie = tt
quiet-tied g w v k kept q (Some b) tie = λ e. let y = tie e in record {
  same = y.same;
  places = λ t x i. let o = y.places t x i in let r = q.stable t o.0 in (r.0, r.1 ∙ o.1);
  seats = λ t. ⊎_elim
      (λ o. y.seats t ∙ ap (λ p. seat_by p (of_tab t k.items)) (sym (q.stable t o).1))
      (λ n. let none = of_tab-none t k.items (λ x i s. apart (ap (was_opened w) (sym s) ∙ (kept.placed x i).0) n) in y.seats t ∙ (seat-nobody _ _ none ∙ sym (seat-nobody _ _ none)))
      (cases_Bool (was_opened w t));
  managers = y.managers;
  entries = y.entries;
  partial = y.partial;
  below = y.below;
}

quiet-ordering : (g : ℕ) (w v : WorldState) (k : Picked) → Ordering g w k → Sound v → Quiet w v → Ordering g v k
quiet-ordering g w v k y s q = record {
  sound = s;
  based = q.based;
  kept = record {
    placed = λ x i. let o = y.kept.placed x i in let r = q.stable x.tab o.0 in (r.0, o.1 ∙ sym r.1);
    ordered = λ t. ordered-grows (IsHonest w t) (IsHonest v t) (tab_of w t).issued (tab_of v t).issued (of_tab t k.items) (q.honest t) (q.issued t) (y.kept.ordered t);
    held = λ t n h. let o = y.kept.held t n (q.grants t g n h) in let r = q.stable t o.0 in (r.0, subst (λ p. WasHeld k p t n) (sym r.1) o.1);
    told = λ p before later x r c i. let o = y.kept.told p before later x r c i in (o.0, q.keeps _ o.1);
  };
  tied = subst (TiedIf g v k) (sym q.broker) (quiet-tied g w v k y.kept q w.broker y.tied);
}

-- The broker takes something

-- Messages without a granted answer of this generation keep the facts about its list.
kept-other : (part : ℕ → ℕ) (opened : ℕ → Bool) (g : ℕ) (issued : ℕ → List Operation) (honest : ℕ → Type 0) (bag outs : List Message) (k : Picked) → ((t n : ℕ) → HasGrant outs t g n → ⊥) → LiveCommand part opened g issued honest bag k → LiveCommand part opened g issued honest (sent_all outs bag) k
kept-other part opened g issued honest bag outs k none y = record {
  placed = y.placed;
  ordered = y.ordered;
  held = λ t n h. ⊎_elim (λ a. y.held t n (h.0, h.1, a, h.3, h.4, h.5)) (λ a. absurd (none t n (h.0, h.1, a, h.3, h.4, h.5))) (sent_all-cases outs bag h.2);
  told = λ p before later x r c i. let o = y.told p before later x r c i in (o.0, sent_all-keeps outs bag o.1);
}

grant-of : (g : ℕ) (outs : List Addressed) → ((a : Addressed) → In a outs → AnswerDown g a.inner) → (t h n : ℕ) → HasGrant (map from_broker outs) t h n → h ≡ g
grant-of g outs f t h n x =
    let o = In-map_cases from_broker outs x.2 in
    let e = down-same x.0 _ t o.0.tab (down.Answer x.1) o.0.inner o.2 in
    let s : AnswerDown g (down.Answer x.1) = subst (AnswerDown g) (sym e.1) (f o.0 o.1) in
    sym x.3 ∙ s

no-ups : (outs : List Addressed) (t p : ℕ) (u : Upward) → In (up_message t p u) (map from_broker outs) → ⊥
no-ups outs t p u i = let o = In-map_cases from_broker outs i in (let e : up_message t p u ≡ from_broker o.0 = o.2 in cc)

broker-ordering : (g : ℕ) (w : WorldState) (b : BrokerState) (o : Taking) (k h : Picked) → w.broker ≡ Some b → Ordering g w k → Sound (after w (follows w o)) → Speaks b o
    → (b.generation ≡ g → Tells (partition_of w) (was_opened w) g b (λ t. (tab_of w t).issued) (IsHonest w) w.bag h o) → (b.generation ≢ g → h ≡ k) → Ordering g (after w (follows w o)) h
broker-ordering g w b (Drops r) k h v y s f same other = ⊎_elim
    (λ e. let z = same e in record { sound = y.sound; based = y.based; kept = z.0; tied = subst (TiedIf g w h) (sym v) (λ _. z.1) })
    (λ n. subst (Ordering g w) (sym (other n)) y)
    (cases_eq b.generation g)
broker-ordering g w b (Does z outs) k h v y s f same other = ⊎_elim
    (λ e. let x = same e in record { sound = s; based = based; kept = x.0; tied = λ _. x.1 })
    (λ n. record {
      sound = s;
      based = based;
      kept = subst (λ i. KeptOf g (after w (follows w (Does z outs))) i) (sym (other n)) (kept-other (partition_of w) (was_opened w) g (λ t. (tab_of w t).issued) (IsHonest w) w.bag (map from_broker outs) k (λ t j x. n (sym (grant-of b.generation outs f.1 t g j x))) y.kept);
      tied = λ e. absurd (n (sym f.0 ∙ e));
    })
    (cases_eq b.generation g)
  where
    based : Based (after w (follows w (Does z outs)))
    based = record { own = y.based.own; said = λ t p u x e i h. ⊎_elim (λ a. y.based.said t p u x e a h) (λ a. absurd (no-ups outs t p u a)) (sent_all-cases (map from_broker outs) w.bag i) }

-- Events

current-at : (w : WorldState) (b : BrokerState) → Sound w → w.broker ≡ Some b → b.generation ≡ w.kernel.generation
current-at w b s v = subst (λ z. (broker_in w.kernel.generation z).generation ≡ w.kernel.generation) v s.current

up-true : (g : ℕ) (w : WorldState) (b : BrokerState) → Sound w → w.broker ≡ Some b → b.generation ≡ g → is_up g w ≡ true
up-true g w b s v e = ap (λ o. is_some o && w.kernel.generation == g) v ∙ eq-eqb w.kernel.generation g (sym (current-at w b s v) ∙ e)

up-false : (g : ℕ) (w : WorldState) (b : BrokerState) → Sound w → w.broker ≡ Some b → b.generation ≢ g → is_up g w ≡ false
up-false g w b s v n = ap (λ o. is_some o && w.kernel.generation == g) v ∙ ne_eqb w.kernel.generation g (λ e. n (current-at w b s v ∙ e))

down-false : (g : ℕ) (w : WorldState) → w.broker ≡ None → is_up g w ≡ false
down-false g w v = ap (λ o. is_some o && w.kernel.generation == g) v

tied-at : (g : ℕ) (w : WorldState) (k : Picked) (b : BrokerState) → w.broker ≡ Some b → Ordering g w k → b.generation ≡ g → Tied (partition_of w) (was_opened w) b k
tied-at g w k b v y = subst (TiedIf g w k) v y.tied

taking-tells : (g : ℕ) (w : WorldState) (k : Picked) (b : BrokerState) → Ordering g w k → w.broker ≡ Some b → b.generation ≡ g → (t p : ℕ) (u : Upward) → In (up_message t p u) w.bag
    → Tells (partition_of w) (was_opened w) g b (λ t. (tab_of w t).issued) (IsHonest w) w.bag (picks_message g k (up_message t p u)) (taking b (record { tab = t; partition = p; inner = u }))
taking-tells g w k b y v e t p (up.Report r) i =
    let o = (y.sound.messages t).reports p (up.Report r) (at_once r) refl i in
    taking-follows (partition_of w) (was_opened w) g b (λ t. (tab_of w t).issued) (IsHonest w) w.bag k t p y.kept (tied-at g w k b v y e)
    o.0 o.1 e (up.Report r) (y.based.said t p (up.Report r) (at_once r) refl i)
taking-tells g w k b y v e t p (up.ReportPart r) i =
    let o = (y.sound.messages t).reports p (up.ReportPart r) (in_part r) refl i in
    taking-follows (partition_of w) (was_opened w) g b (λ t. (tab_of w t).issued) (IsHonest w) w.bag k t p y.kept (tied-at g w k b v y e)
    o.0 o.1 e (up.ReportPart r) (y.based.said t p (up.ReportPart r) (in_part r) refl i)
taking-tells g w k b y v e t p (up.Command c) i =
    let o = (y.sound.messages t).commands p c i in
    taking-follows (partition_of w) (was_opened w) g b (λ t. (tab_of w t).issued) (IsHonest w) w.bag k t p y.kept (tied-at g w k b v y e)
    o.0 o.1 e (up.Command c) o.2

comes_up-ordering : (g : ℕ) (w : WorldState) (k : Picked) (x : Stamped) → Ordering g w k → In (Up x) w.bag → (v : Option BrokerState) → w.broker ≡ v → Sound (after w (arrives_at_broker w x v))
    → Ordering g (after w (arrives_at_broker w x v)) (cond (is_up g w && true) (picks_message g k (Up x)) k)
comes_up-ordering g w k x y i None v s = subst (λ c. Ordering g w (cond (c && true) (picks_message g k (Up x)) k)) (sym (down-false g w v)) y
comes_up-ordering g w k x y i (Some b) v s =
    broker-ordering g w b (taking b x) k _ v y s (taking-speaks b x)
    (λ e. subst (λ c. Tells (partition_of w) (was_opened w) g b (λ t. (tab_of w t).issued) (IsHonest w) w.bag (cond (c && true) (picks_message g k (Up x)) k) (taking b x)) (sym (up-true g w b y.sound v e)) (taking-tells g w k b y v e x.tab x.partition x.inner i))
    (λ n. ap (λ c. cond (c && true) (picks_message g k (Up x)) k) (up-false g w b y.sound v n))

choose : {A : Type 0} (c : Bool) (a : A) → cond c a a ≡ a
choose true a = refl
choose false a = refl

delivers-ordering : (g : ℕ) (w : WorldState) (k : Picked) (m : Message) → Ordering g w k → (c : Bool) → (c ≡ true → In m w.bag) → Sound (after w (if_allowed c w (arrives w m)))
    → Ordering g (after w (if_allowed c w (arrives w m))) (cond (is_up g w && c) (picks_message g k m) k)
delivers-ordering g w k m y false i s = subst (λ c. Ordering g w (cond c (picks_message g k m) k)) (sym (and_right (is_up g w) false refl)) y
delivers-ordering g w k (Up x) y true i s = comes_up-ordering g w k x y (i refl) w.broker refl s
delivers-ordering g w k (Down v x) y true i s =
    subst (Ordering g (after w (arrives w (Down v x)))) (sym (choose (is_up g w && true) k))
    (quiet-ordering g w _ k y s (quiet-allowed w (lives w x.tab) _ y.based (λ _. hears-quiet w (λ u. (y.sound.tabs u).state) x.tab x.inner y.based)))
delivers-ordering g w k (Across t x) y true i s =
    subst (Ordering g (after w (arrives w (Across t x)))) (sym (choose (is_up g w && true) k))
    (quiet-ordering g w _ k y s (quiet-allowed w (lives w t) _ y.based (λ _. becomes-quiet w t _ [] y.based (λ m i. absurd (In-nil i)))))

tells-ordering : (g : ℕ) (w : WorldState) (k : Picked) (t : ℕ) → Ordering g w k → (v : Option BrokerState) → w.broker ≡ v → Sound (after w (tells w t v))
    → Ordering g (after w (tells w t v)) (cond (is_up g w && takes_death w k t) (adds t (partition_of w t) Dies k) k)
tells-ordering g w k t y None v s = subst (λ c. Ordering g w (cond (c && takes_death w k t) (adds t (partition_of w t) Dies k) k)) (sym (down-false g w v)) y
tells-ordering g w k t y (Some b) v s = go (is_opened w.kernel t && not (lives w t)) (λ e. (and_parts _ _ e).0) s
  where
    dead : Bool
    dead = has_death (of_tab t (of_partition (partition_of w t) k.items))

    go : (c : Bool) → (c ≡ true → was_opened w t ≡ true) → Sound (after w (if_allowed c w (buries w t b)))
        → Ordering g (after w (if_allowed c w (buries w t b))) (cond (is_up g w && (c && not (has_death (of_tab t (of_partition (partition_of w t) k.items))))) (adds t (partition_of w t) Dies k) k)
    go false o s = subst (λ c. Ordering g w (cond c (adds t (partition_of w t) Dies k) k)) (sym (and_right (is_up g w) false refl)) y
    go true o s =
        broker-ordering g w b (Does (death_step b t).0 (death_step b t).1) k _ v y s (burial-speaks b t)
        (λ e. subst (λ c. Tells (partition_of w) (was_opened w) g b (λ t. (tab_of w t).issued) (IsHonest w) w.bag (cond (c && not (has_death (of_tab t (of_partition (partition_of w t) k.items)))) (adds t (partition_of w t) Dies k) k) (Does (death_step b t).0 (death_step b t).1)) (sym (up-true g w b y.sound v e))
        (subst (λ c. Tells (partition_of w) (was_opened w) g b (λ t. (tab_of w t).issued) (IsHonest w) w.bag (cond (not c) (adds t (partition_of w t) Dies k) k) (Does (death_step b t).0 (death_step b t).1)) (sym (death-same (partition_of w) (was_opened w) g b (λ t. (tab_of w t).issued) (IsHonest w) w.bag k t (partition_of w t) y.kept (tied-at g w k b v y e) (o refl) refl e))
        (burial-follows (partition_of w) (was_opened w) g b (λ t. (tab_of w t).issued) (IsHonest w) w.bag k t (partition_of w t) y.kept (tied-at g w k b v y e) (o refl) refl e)))
        (λ n. ap (λ c. cond (c && not (has_death (of_tab t (of_partition (partition_of w t) k.items)))) (adds t (partition_of w t) Dies k) k) (up-false g w b y.sound v n))

stops-ordering : (g : ℕ) (w : WorldState) (k : Picked) → Ordering g w k → (v : Option BrokerState) → Sound (after w (stops w v)) → Ordering g (after w (stops w v)) k
stops-ordering g w k y None s = y
stops-ordering g w k y (Some b) s = go (may_stop w.kernel) s
  where
    go : (c : Bool) → Sound (after w (if_allowed c w (unchanged (record w { kernel = stopped w.kernel; broker = None })))) → Ordering g (after w (if_allowed c w (unchanged (record w { kernel = stopped w.kernel; broker = None })))) k
    go false s = y
    go true s = record { sound = s; based = record { own = y.based.own; said = y.based.said }; kept = record { placed = y.kept.placed; ordered = y.kept.ordered; held = y.kept.held; told = y.kept.told }; tied = tt }

greets-ordering : (g : ℕ) (w : WorldState) (k : Picked) (t : ℕ) → Ordering g w k → (v : Option BrokerState) → Sound (after w (greets w t v)) → Ordering g (after w (greets w t v)) k
greets-ordering g w k t y None s = y
greets-ordering g w k t y (Some b) s = quiet-ordering g w _ k y s (quiet-allowed w (lives w t) _ y.based (λ _. hello-quiet w t w.kernel.generation y.based))

-- A generation begins

never : {X : Type 0} (before later : List X) (x : X) → before ++ x ∷ later ≡ [] → ⊥
never [] later x e = cc
never (y ∷ before) later x e = cc

no-grant : (w : WorldState) (ts : List ℕ) → stranger w.kernel ts ≡ None → (t g n : ℕ) → HasGrant (map from_broker (hellos w.kernel.generation (placed ts w.kernel))) t g n → ⊥
no-grant w ts none t g n h = let o = hellos-greet w ts none _ h.2 in answer-no_hello _ _ (down-same _ _ _ _ _ _ o.2).1

start-tied : (w : WorldState) (ts : List ℕ) → stranger w.kernel ts ≡ None → Tied (partition_of w) (was_opened w) (started w.kernel.generation (placed ts w.kernel)) (record { listed = placed ts w.kernel; items = []; partial = [] })
start-tied w ts none = record {
  same = refl;
  places = λ t q i.
      let o = In-map_cases (λ u. (u, partition_number w.kernel u)) ts i in
      let e : t ≡ o.0 = ap (λ (z : ℕ × ℕ). z.0) o.2 in
      (ap (was_opened w) e ∙ not-false _ (first_such-none (λ u. not (is_opened w.kernel u)) ts o.0 none o.1), ap (partition_of w) e ∙ sym (ap (λ (z : ℕ × ℕ). z.1) o.2));
  seats = λ t. refl;
  managers = λ p. refl;
  entries = λ p r s. absurd (⊎_elim (λ i. In-nil i) (λ i. In-nil i) s);
  partial = refl;
  below = λ t x e. cc;
}

begins-ordering : (g : ℕ) (w : WorldState) (k : Picked) (ts : List ℕ) → Ordering g w k → w.broker ≡ None → stranger w.kernel ts ≡ None → Sound (after w (begins w ts))
    → Ordering g (after w (begins w ts)) (cond (w.kernel.generation == g) (record { listed = placed ts w.kernel; items = []; partial = [] }) k)
begins-ordering g w k ts y v none s = ⊎_elim
    (λ e. subst (λ c. Ordering g (after w (begins w ts)) (cond c (record { listed = placed ts w.kernel; items = []; partial = [] }) k)) (sym (eq-eqb w.kernel.generation g e)) (record {
      sound = s;
      based = based;
      kept = record {
        placed = λ x i. absurd (In-nil i);
        ordered = λ t. ordered-none (IsHonest w t) (tab_of w t).issued;
        held = λ t n h. absurd (⊎_elim
            (λ a. let o = (y.sound.messages t).grants g n (h.0, h.1, a, h.3, h.4, h.5) in
            let lt : g < w.kernel.generation = subst (λ z. g < limit_in w.kernel.generation z) v o.1 in
            let e' : w.kernel.generation ≡ g = e in omega arith)
            (λ a. no-grant w ts none t g n (h.0, h.1, a, h.3, h.4, h.5))
            (sent_all-cases (map from_broker (hellos w.kernel.generation (placed ts w.kernel))) w.bag h.2));
        told = λ p before later x r c i. absurd (never before later x c);
      };
      tied = λ _. start-tied w ts none;
    }))
    (λ n. subst (λ c. Ordering g (after w (begins w ts)) (cond c (record { listed = placed ts w.kernel; items = []; partial = [] }) k)) (sym (ne_eqb w.kernel.generation g n)) (record {
      sound = s;
      based = based;
      kept = kept-other (partition_of w) (was_opened w) g (λ t. (tab_of w t).issued) (IsHonest w) w.bag (map from_broker (hellos w.kernel.generation (placed ts w.kernel))) k (λ t j h. no-grant w ts none t g j h) y.kept;
      tied = λ e. absurd (n e);
    }))
    (cases_eq w.kernel.generation g)
  where
    based : Based (after w (begins w ts))
    based = record { own = y.based.own; said = λ t p u x e i h. ⊎_elim (λ a. y.based.said t p u x e a h) (λ a. absurd (no-ups (hellos w.kernel.generation (placed ts w.kernel)) t p u a)) (sent_all-cases (map from_broker (hellos w.kernel.generation (placed ts w.kernel))) w.bag i) }

starts-ordering : (g : ℕ) (w : WorldState) (k : Picked) (ts : List ℕ) → Ordering g w k → (v : Option BrokerState) → w.broker ≡ v → Sound (after w (starts w ts v))
    → Ordering g (after w (starts w ts v)) (cond (begins_now g w ts) (record { listed = placed ts w.kernel; items = []; partial = [] }) k)
starts-ordering g w k ts y (Some b) v s = subst (λ o. Ordering g w (cond (not (is_some o) && w.kernel.generation == g && not (is_some (start_refusal ts w.kernel))) (record { listed = placed ts w.kernel; items = []; partial = [] }) k)) (sym v) y
starts-ordering g w k ts y None v s =
    subst (λ o. Ordering g (after w (starts w ts None)) (cond (not (is_some o) && w.kernel.generation == g && not (is_some (start_refusal ts w.kernel))) (record { listed = placed ts w.kernel; items = []; partial = [] }) k)) (sym v)
    (go (not (is_some (start_refusal ts w.kernel))) (λ h. (none-absent ts w.kernel (not-true _ h)).0) s)
  where
    go : (c : Bool) → (c ≡ true → stranger w.kernel ts ≡ None) → Sound (after w (if_allowed c w (begins w ts)))
        → Ordering g (after w (if_allowed c w (begins w ts))) (cond ((w.kernel.generation == g) && c) (record { listed = placed ts w.kernel; items = []; partial = [] }) k)
    go false o s = subst (λ c. Ordering g w (cond c (record { listed = placed ts w.kernel; items = []; partial = [] }) k)) (sym (and_right (w.kernel.generation == g) false refl)) y
    go true o s = subst (λ c. Ordering g (after w (begins w ts)) (cond c (record { listed = placed ts w.kernel; items = []; partial = [] }) k)) (sym (and-true (w.kernel.generation == g))) (begins-ordering g w k ts y v (o refl) s)

-- A step, and a run

step : (g : ℕ) (w : WorldState) (k : Picked) (e : Event) → Ordering g w k → Sound (after_event w e) → Ordering g (after_event w e) (picks g w k e)
unfolding after_event step_result picks
step g w k (event.Open t p) y s = quiet-ordering g w _ k y s (opens-quiet false w t p y.sound y.based)
step g w k (event.OpenTwo t p) y s = quiet-ordering g w _ k y s (opens-quiet true w t p y.sound y.based)
step g w k (event.Ask t mode name) y s = quiet-ordering g w _ k y s (asks-quiet w t mode false name y.based)
step g w k (event.Probe t mode name) y s = quiet-ordering g w _ k y s (asks-quiet w t mode true name y.based)
step g w k (event.Query t) y s = quiet-ordering g w _ k y s (queries-quiet w t y.based)
step g w k (event.Abort t n) y s = quiet-ordering g w _ k y s (aborts-quiet w t n y.based)
step g w k (event.Release t n) y s = quiet-ordering g w _ k y s (releases-quiet w t n y.based)
step g w k (event.Resend t) y s = quiet-ordering g w _ k y s (resends-quiet w t y.based)
step g w k (event.Channel t name) y s = quiet-ordering g w _ k y s (opens_channel-quiet w t name y.based)
step g w k (event.Post t n bytes) y s = quiet-ordering g w _ k y s (posts-quiet w t n bytes y.based)
step g w k (event.Read t n) y s = quiet-ordering g w _ k y s (reads-quiet w t n y.based)
step g w k (event.Close t n) y s = quiet-ordering g w _ k y s (closes-quiet w t n y.based)
step g w k (event.Deliver m) y s = delivers-ordering g w k m y (is_sent m w.bag) (λ c. is_sent-In m w.bag c) s
step g w k (event.Kill t) y s = quiet-ordering g w _ k y s (kills-quiet w t y.based)
step g w k (event.Tell t) y s = tells-ordering g w k t y w.broker refl s
step g w k event.Stop y s = stops-ordering g w k y w.broker s
step g w k (event.Start ts) y s = starts-ordering g w k ts y w.broker refl s
step g w k (event.Hello t) y s = greets-ordering g w k t y w.broker s
step g w k (event.Corrupt t) y s = quiet-ordering g w _ k y s (corrupts-quiet w t y.based)
step g w k (event.Forge t x) y s = quiet-ordering g w _ k y s (forges-quiet w t x y.based)

all : (g : ℕ) (es : List Event) (w : WorldState) (k : Picked) → Ordering g w k → Ordering g (run es w) (picked_from g es w k)
all g [] w k y = y
all g (e ∷ es) w k y = all g es (after_event w e) (picks g w k e) (step g w k e y (happens-sound w e y.sound))

first-ordering : (g : ℕ) → Ordering g empty_world (record { listed = []; items = []; partial = [] })
first-ordering g = record {
  sound = empty-sound;
  based = record { own = λ t. omega arith; said = λ t p u x e i. absurd (In-nil i) };
  kept = record {
    placed = λ x i. absurd (In-nil i);
    ordered = λ t. ordered-none (IsHonest empty_world t) [];
    held = λ t n h. absurd (In-nil h.2);
    told = λ p before later x r c i. absurd (never before later x c);
  };
  tied = tt;
}

ordering : (g : ℕ) (events : List Event) → Ordering g (run events empty_world) (picked g events)
ordering g events = all g events empty_world (record { listed = []; items = []; partial = [] }) (first-ordering g)

-- The laws

pub commands-in_order : CommandsInOrderForAll
commands-in_order events g p t h =
    let w = run events empty_world in
    let k = picked g events in
    let y = ordering g events in
    ⊎_elim
    (λ e. subst (λ mine. IsPrefix (commands_of mine) (numbered (base_of mine) (drop (base_of mine) (tab_of w t).issued))) (sym (own-tab (partition_of w) (was_opened w) k.items t p y.kept.placed e)) (ordered-prefix (IsHonest w t) (tab_of w t).issued (of_tab t k.items) (y.kept.ordered t) h))
    (λ n. subst (λ mine. IsPrefix (commands_of mine) (numbered (base_of mine) (drop (base_of mine) (tab_of w t).issued))) (sym (of_tab-off t p k.items (λ x i s q. n (sym (ap (partition_of w) s) ∙ (sym (y.kept.placed x i).1 ∙ q))))) (_, refl))
    (cases_eq (partition_of w t) p)

pub manager-is_fold : ManagerIsFoldForAll
manager-is_fold events g p b v e = (tied-at g (run events empty_world) (picked g events) b v (ordering g events) e).managers p

pub granted-were_held : GrantedWereHeldForAll
granted-were_held events g t s x i e o = ((ordering g events).kept.held t x.number (s, x, i, e, refl, o)).1

pub grants-were_sent : GrantsWereSentForAll
grants-were_sent events g p before later x r s i = (ordering g events).kept.told p before later x r s i
