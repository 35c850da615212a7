-- The invariant gives the law of rest.
use Rattle.std.proofs.Common.{◌≡◌, ◌⊎◌, inl, inr, ⊎_elim, ℕ, ◌<◌, Bool, true, false, not, ◌&&◌, ◌||◌, List, [], ◌∷◌, ◌++◌, length, map, Option, Some, None, refl, sym, ap, ◌∙◌, subst, arith}
use Rattle.std.specs.List.{list_any, list_all}
use Rattle.std.specs.Prelude.{◌==◌}
use Rattle.std.proofs.lemmas.Bool.{cases_Bool, cases_eq, eqb-true, or_cases, or_parts, or_left, or_right, and_from, not-false, not_from_false, false_from_ne_true}
use Rattle.wl_origin.specs.Order.{Pair}
use Rattle.wl_draft.specs.declared.row.Row.{Row}
use Rattle.wl_draft.specs.Locks.{has_pair}
use Rattle.wl_draft.specs.Membership.{In, Here, Later}
use Rattle.wl_draft.proofs.Membership.{apart, either, by_test, all-In, In-nil, In-cons_cases, In-append_left, In-append_right}
use Rattle.wl_grammar.specs.declared.frame.Frame.{Frame}
use Rattle.wl_grammar.specs.declared.frame.Frame.TheVariants as frame
use Rattle.wl_broker_reports.specs.ReportParts.{Partial}
use Rattle.wl_broker.specs.Broker.{BrokerState, seat_of, partial_of, manager_of, next_of, is_joined, is_dead, has_arrived, is_active}
use Rattle.wl_agent.specs.Tab.{status_of, operation_of, is_request, is_held, is_asked, is_querying, is_report_due, reserves_number}
use Rattle.wl_agent.specs.declared.status.Status.{Status}
use Rattle.wl_agent.specs.declared.status.Status.TheVariants.{Asked, Held, Querying, Whole, Lost}
use Rattle.wl_kernel.specs.Kernel.{is_opened, is_living, partition_number}
use Rattle.wl_kernel.specs.Kernel.{tab_of as opened_tab}
use Rattle.wl_world_model.proofs.exclusion.CoverExcludes.{living_opened, held_alive}
use Rattle.wl_client.specs.declared.client.Unsent.TheVariants as unsent
use Rattle.wl_quiescence.proofs.rest.Outputs.{outputs-none}
use Rattle.wl_world_model.specs.World.{WorldState, tab_of}
use Rattle.wl_world_model.specs.Holdings.{IsHonest as IsHonestIn}
use Rattle.wl_world_model.proofs.exclusion.Invariant.{broker_of, broker_in, row_at}
use Rattle.wl_world_model.proofs.order.Standings.{has_pair-from}
use Rattle.wl_library_model.specs.Library.{Library, client_of, lives, runs, is_taken}
use Rattle.wl_library_model.specs.Promises.{IsHonest, partition_at}
use Rattle.wl_library_model.specs.Progress.{place, locks_beside}
use Rattle.wl_quiescence.specs.Quiescence.{LivesIn, IsAtRest, AreHonest, IsServed, IsFair, HoldsUp}
use Rattle.wl_library_model.proofs.Carried.{Sim}
use Rattle.wl_quiescence.proofs.calls.Room.{OneOfEach, number-In, once-apart}
use Rattle.wl_quiescence.proofs.rest.Invariant.{Away, At, seen_if, seen, Says, item_of, item_of_unsent, unsent_items, after_items, arrived_of, coming, outputs_to, frames_down, HelloComes, IsEarly, Reaches, IsAlive, IsKept, IsServing, IsKeeping, IsResting}

both : (a b : Bool) → (a ≡ true → b ≡ true) → (b ≡ true → a ≡ true) → a ≡ b
both true b f g = sym (f refl)
both false true f g = g refl
both false false f g = refl

seen-joined : (j : Bool) (n m : ℕ) (o : Option Partial) → seen_if j n o ≡ At m → (j ≡ true) × (n ≡ m)
seen-joined true n m o e = (refl, at-same n m e)
  where
    at-same : (n m : ℕ) → At n ≡ At m → n ≡ m
    at-same n m e = cc
seen-joined false n m o e = absurd (away-at o m e)
  where
    away-at : (o : Option Partial) (m : ℕ) → Away o ≡ At m → ⊥
    away-at o m e = cc

-- Where an element stands.
record Splits (t : ℕ) (ts : List ℕ) : Type 0 where
  front : List ℕ
  back : List ℕ
  split : ts ≡ front ++ t ∷ back

In-splits : (t : ℕ) (ts : List ℕ) → In t ts → Splits t ts
In-splits t [] i = absurd (In-nil i)
In-splits t (u ∷ us) i =
    ⊎_elim (λ e. record { front = []; back = us; split = ap (λ z. z ∷ us) (sym e) })
    (λ j. let o = In-splits t us j in record { front = u ∷ o.front; back = o.back; split = ap (λ z. u ∷ z) o.split })
    (In-cons_cases i)

pub held-is : (o : Option Status) → is_held o ≡ true → o ≡ Some Held
held-is None e = apart e refl
held-is (Some Asked) e = apart e refl
held-is (Some Held) e = refl
held-is (Some (Querying ps)) e = apart e refl
held-is (Some (Whole s)) e = apart e refl
held-is (Some Lost) e = apart e refl

querying-dead : (o : Option Status) → is_querying o ≡ true → reserves_number o ≡ true → ⊥
querying-dead None e a = apart e refl
querying-dead (Some Asked) e a = apart e refl
querying-dead (Some Held) e a = apart e refl
querying-dead (Some (Querying ps)) e a = apart a refl
querying-dead (Some (Whole s)) e a = apart e refl
querying-dead (Some Lost) e a = apart e refl

not-all : {X : Type 0} (f : X → Bool) (xs : List X) → list_all f xs ≡ false → (x : X) × In x xs × (f x ≡ false)
not-all f [] e = apart refl e
not-all f (x ∷ xs) e = ⊎_elim
    (λ y. let o = not-all f xs (sym (ap (λ b. b && list_all f xs) y) ∙ e) in (o.0, Later o.1, o.2))
    (λ n. (x, Here, n))
    (cases_Bool (f x))

module _ (l : Library) (w : WorldState) (s : Sim l w) (resting : IsResting l) (p : Pair) (b : BrokerState) (up : l.hub.supervised.broker ≡ Some b) (rest : IsAtRest p l)
    (one : (t u : ℕ) → is_opened l.hub.supervised.kernel t ≡ true → is_opened l.hub.supervised.kernel u ≡ true → place l t ≡ place l u → partition_at l t ≡ partition_at l u)
    (once : (t : ℕ) → OneOfEach l t) where
  -- An honest tab of the partition.
  abbrev Own : ℕ → Type 0
  Own t = LivesIn p l t × IsHonest l t

  keeping : IsKeeping l b
  keeping = resting.keeping b up

  runs-now : (t : ℕ) → Own t → runs l t ≡ true
  runs-now t x = and_from (lives l t) _ x.0.living (not_from_false _ x.1)

  serving : (t : ℕ) → Own t → IsServing l t b
  serving t x = resting.serving b t up (runs-now t x)

  nothing-down : (t : ℕ) → Own t → frames_down l t ≡ []
  nothing-down t x =
      let h = rest.tabs t x.0 x.1 in
      ap (λ z. z ++ (l.lines t).down ++ outputs_to t l.hub.outputs) h.came ∙ (ap (λ z. z ++ outputs_to t l.hub.outputs) h.down ∙ outputs-none t l.hub.outputs (λ f i. rest.sent t f x.0 i))

  no-hello : (t : ℕ) → Own t → HelloComes b.generation l t → ⊥
  no-hello t x i = In-nil (subst (In _) (nothing-down t x) i)

  nothing-arrived : (t : ℕ) → LivesIn p l t → arrived_of l.hub t ≡ []
  nothing-arrived t x = either (λ z. z ≡ []) (l.hub.sender == t) l.hub.arrived [] (λ y. rest.handled (subst (LivesIn p l) (sym (eqb-true l.hub.sender t y)) x)) (λ _. refl)

  nothing-up : (t : ℕ) → Own t → coming b.generation l t ≡ []
  nothing-up t x = empty b.generation t (nothing-arrived t x.0) (rest.tabs t x.0 x.1).quiet.up (rest.tabs t x.0 x.1).quiet.report (rest.tabs t x.0 x.1).quiet.due (rest.tabs t x.0 x.1).quiet.unsent
    where
      empty : (g t : ℕ) → arrived_of l.hub t ≡ [] → (l.lines t).up ≡ [] → (client_of l t).report ≡ [] → (client_of l t).due ≡ [] → (client_of l t).unsent ≡ [] → coming g l t ≡ []
      empty g t a u r d n =
          ap (λ z. map (item_of g) (z ++ (l.lines t).up ++ (client_of l t).report) ++ unsent_items (client_of l t)) a
          ∙ (ap (λ z. map (item_of g) (z ++ (client_of l t).report) ++ unsent_items (client_of l t)) u
          ∙ (ap (λ z. map (item_of g) z ++ unsent_items (client_of l t)) r
          ∙ (ap (λ z. map Says z ++ map item_of_unsent (client_of l t).unsent) d ∙ ap (λ z. map item_of_unsent z) n)))

  entered : (t : ℕ) → Own t → (client_of l t).locks.entered ≡ b.generation
  entered t x = ⊎_elim (λ e. e) (λ n. absurd (no-hello t x ((serving t x).enters n))) (cases_eq (client_of l t).locks.entered b.generation)

  welcomed : (t : ℕ) → Own t → (client_of l t).is_welcomed ≡ true
  welcomed t x = ⊎_elim (λ y. y) (λ n. absurd (no-hello t x ((serving t x).welcomed n))) (cases_Bool (client_of l t).is_welcomed)

  at-end : (t : ℕ) → Own t → Reaches l t b → (is_joined (seat_of b t) ≡ true) × (next_of b t ≡ length (client_of l t).locks.issued)
  at-end t x r =
      let a = (client_of l t).locks in
      seen-joined (is_joined (seat_of b t)) (next_of b t) (length a.issued) (partial_of b t)
      (sym (ap (λ z. after_items (place l t) (is_report_due a) (length a.issued) z (seen b t)) (nothing-up t x)) ∙ r)

  joined : (t : ℕ) → Own t → is_joined (seat_of b t) ≡ true
  joined t x = ⊎_elim (λ h. absurd (no-hello t x h)) (λ o. ⊎_elim (λ e. e.0) (λ r. (at-end t x r).0) o) ((serving t x).reaches (entered t x))

  was-opened : (t : ℕ) → LivesIn p l t → is_opened l.hub.supervised.kernel t ≡ true
  was-opened t x = living_opened (opened_tab l.hub.supervised.kernel t) x.living

  -- A listed tab of the partition has arrived, or it was taken over.
  listed-tab : (t : ℕ) → LivesIn p l t → (x : ℕ × ℕ) → In x b.listed → x.1 ≡ place l t → (has_arrived (seat_of b x.0) ≡ true) ⊎ (LivesIn p l x.0 × (is_taken l x.0 ≡ true))
  listed-tab t v x i e =
      let k = keeping.listed x.0 x.1 i in
      let at : partition_at l x.0 ≡ Some p = one x.0 t k.1 (was-opened t v) (sym k.0 ∙ e) ∙ v.place in
      ⊎_elim
      (λ lv. let own : LivesIn p l x.0 = record { living = lv; place = at } in
      ⊎_elim (λ y. inr (own, y)) (λ n. inl (or_left (is_joined (seat_of b x.0)) (is_dead (seat_of b x.0)) (joined x.0 (own, n)))) (cases_Bool (is_taken l x.0)))
      (λ o. ⊎_elim (λ j. absurd (rest.told x.0 at j)) (λ d. inl (or_right (is_joined (seat_of b x.0)) (is_dead (seat_of b x.0)) d)) o)
      k.2

  abbrev has_come : ℕ → ℕ × ℕ → Bool
  has_come t x = not (x.1 == place l t) || has_arrived (seat_of b x.0)

  pub active : AreHonest p l → (t : ℕ) → LivesIn p l t → is_active b (place l t) ≡ true
  unfolding is_active
  active honest t v = all-In (has_come t) b.listed (λ x i. by_test (λ z. (not z || has_arrived (seat_of b x.0)) ≡ true) (x.1 == place l t)
      (λ y. ⊎_elim (λ a. a) (λ o. absurd (apart o.1 (honest x.0 o.0))) (listed-tab t v x i (eqb-true x.1 (place l t) y)))
      (λ _. refl))

  pub inactive : (t : ℕ) → LivesIn p l t → is_active b (place l t) ≡ false → HoldsUp p l b
  unfolding is_active
  inactive t v n =
      let o = not-all (has_come t) b.listed n in
      let q = or_parts (not (o.0.1 == place l t)) (has_arrived (seat_of b o.0.0)) o.2 in
      ⊎_elim (λ a. apart a q.1) (λ a. record { tab = o.0.0; place = o.0.1; listed = o.1; lives = a.0; taken = a.1; missing = q.1 })
      (listed-tab t v o.0 o.1 (eqb-true o.0.1 (place l t) (not-false _ q.0)))

  -- An honest tab of the partition while that is active.
  abbrev Fed : ℕ → Type 0
  Fed t = LivesIn p l t × IsHonest l t × (is_active b (place l t) ≡ true)

  own : (t : ℕ) → Fed t → Own t
  own t x = (x.0, x.1)

  not-early : (t : ℕ) → Fed t → IsEarly l t b → ⊥
  not-early t x e =
      let o = In-splits t l.hub.early e.1 in
      ⊎_elim
      (λ lt. let le = rest.greeted o.front o.back t x.0 o.split in absurd (omega (arith, lt, le)))
      (λ n. apart x.2 n)
      (keeping.early o.front o.back t o.split x.0.living)

  pub taken : (t : ℕ) → Fed t → next_of b t ≡ length (client_of l t).locks.issued
  taken t x = ⊎_elim (λ h. absurd (no-hello t (own t x) h)) (λ o. ⊎_elim (λ e. absurd (not-early t x e)) (λ r. (at-end t (own t x) r).1) o) ((serving t (own t x)).reaches (entered t (own t x)))

  kept : (t : ℕ) → Fed t → IsKept l t b (client_of l t).locks
  kept t x = (serving t (own t x)).kept (joined t (own t x))

  -- Nothing is on its way that ends the wait for the number, so it waits at the broker.
  waits : (t k : ℕ) → Fed t → k < length (client_of l t).locks.issued → (is_asked (status_of (client_of l t).locks k) || is_querying (status_of (client_of l t).locks k)) ≡ true
      → (is_request (operation_of (client_of l t).locks k) ≡ true) × (has_pair t k (locks_beside l t b).waiting ≡ true)
  waits t k x lt y =
      let c = client_of l t in
      let none : (f : Frame) → In f (frames_down l t) → ⊥ = λ f i. In-nil (subst (In f) (nothing-down t (own t x)) i) in
      ⊎_elim (λ h. h)
      (λ o. absurd (⊎_elim (λ a. none (frame.Answer a.0) a.1)
      (λ o. ⊎_elim (λ a. none (frame.Snapshot a.2.0) a.2.1)
      (λ o. ⊎_elim
      (λ a. ⊎_elim (no-hello t (own t x)) (λ q. ⊎_elim (not-early t x) (λ i. In-nil (subst (In unsent.Resend) (rest.tabs t x.0 x.1).quiet.unsent i)) q) a)
      (λ i. In-nil (subst (In (Says k)) (nothing-up t (own t x)) i)) o) o) o))
      ((kept t x).awaited k (subst (λ z. k < z) (sym (taken t x)) lt) y)

  -- What the broker has of the tab is asked or held.
  alive : (t k : ℕ) → Fed t → has_pair t k (locks_beside l t b).held ≡ true ⊎ has_pair t k (locks_beside l t b).waiting ≡ true → IsAlive (client_of l t).locks k
  alive t k x o =
      let m = locks_beside l t b in
      (kept t x).own k 0 (omega (arith, taken t x))
      (⊎_elim (number-In t k m.held (m.held ++ m.waiting) (λ r i. In-append_left m.waiting i)) (number-In t k m.waiting (m.held ++ m.waiting) (λ r i. In-append_right m.held i)) o)

  same : broker_of w ≡ b
  same = ap (broker_in w.kernel.generation) (sym s.hub.broker ∙ up)

  status : (t k : ℕ) → Fed t → status_of (client_of l t).locks k ≡ status_of (tab_of w t) k
  status t k x = ap (λ z. status_of z k) ((s.lines t).client.welcomed (welcomed t (own t x)))

  issued-alive : (t k : ℕ) → Fed t → IsAlive (client_of l t).locks k → k < length (client_of l t).locks.issued
  issued-alive t k x a =
      subst (λ z. k < length z) (sym (ap (λ z. z.issued) ((s.lines t).client.welcomed (welcomed t (own t x)))))
      ((s.good.sound.tabs t).state.issued k (subst (λ z. reserves_number z ≡ true) (status t k x) a))

  -- What the client holds, the broker holds for it.
  covered : (t k : ℕ) → Fed t → status_of (client_of l t).locks k ≡ Some Held → has_pair t k (locks_beside l t b).held ≡ true
  covered t k x e =
      let y = (s.lines t).client.welcomed (welcomed t (own t x)) in
      let f : status_of (tab_of w t) k ≡ Some Held = sym (status t k x) ∙ e in
      let h : is_held (status_of (tab_of w t) k) ≡ true = ap is_held f in
      let honest : IsHonestIn w t = subst (λ zs. list_any (λ v. v == t) zs ≡ false) s.taken x.1 in
      let at = s.good.sound.locks.covers t k honest
      (record { living = subst (λ z. is_living z t ≡ true) s.hub.kernel x.0.living; alive = held_alive _ h; cause = (s.good.sound.messages t).held k h })
      (sym (ap (λ z. z.entered) y) ∙ (entered t (own t x) ∙ (ap (λ z. z.generation) (sym same) ∙ s.good.sound.current)))
      (subst (λ z. has_arrived (seat_of z t) ≡ true) (sym same) (or_left (is_joined (seat_of b t)) (is_dead (seat_of b t)) (joined t (own t x)))) in
      let r = row_at t (tab_of w t) k in
      has_pair-from t k (locks_beside l t b).held r
      (subst (λ q. In r (manager_of b (partition_number q t)).held) (sym s.hub.kernel) (subst (λ (z : BrokerState). In r (manager_of z (partition_number w.kernel t)).held) same at)) refl refl

  -- A lock is not held and waited for at once.
  apart-pair : (t k : ℕ) → Fed t → has_pair t k (locks_beside l t b).held ≡ true → has_pair t k (locks_beside l t b).waiting ≡ true → ⊥
  apart-pair t k x e f = once-apart t k (locks_beside l t b) (once t b up (runs-now t (own t x)) (joined t (own t x))).0 e f

  held : (t k : ℕ) → Fed t → is_held (status_of (client_of l t).locks k) ≡ has_pair t k (locks_beside l t b).held
  held t k x =
      both _ _ (λ y. covered t k x (held-is _ y))
      (λ y. let a = alive t k x (inl y) in
      ⊎_elim (λ q. absurd (apart-pair t k x y (waits t k x (issued-alive t k x a) (or_left _ _ q)).1)) (λ h. h) (or_cases (is_asked (status_of (client_of l t).locks k)) _ a))

  waiting : (t k : ℕ) → Fed t → is_asked (status_of (client_of l t).locks k) ≡ has_pair t k (locks_beside l t b).waiting
  waiting t k x =
      both _ _ (λ y. (waits t k x (issued-alive t k x (or_left _ _ y)) (or_left _ _ y)).1)
      (λ y. let a = alive t k x (inr y) in
      ⊎_elim (λ q. q) (λ h. absurd (apart-pair t k x (covered t k x (held-is _ h)) y)) (or_cases (is_asked (status_of (client_of l t).locks k)) _ a))

  not-querying : (t k : ℕ) → Fed t → is_querying (status_of (client_of l t).locks k) ≡ true → ⊥
  not-querying t k x y =
      let h = waits t k x ((kept t x).queried k y) (or_right (is_asked (status_of (client_of l t).locks k)) _ y) in
      querying-dead (status_of (client_of l t).locks k) y (alive t k x (inr h.1))

  owner : (t : ℕ) (r : Row) → LivesIn p l t → In r (locks_beside l t b).held ⊎ In r (locks_beside l t b).waiting → LivesIn p l r.client
  owner t r x i =
      let stands = ⊎_elim (λ j. inl (subst (λ (z : BrokerState). In r (manager_of z (place l t)).held) (sym same) j)) (λ j. inr (subst (λ (z : BrokerState). In r (manager_of z (place l t)).waiting) (sym same) j)) i in
      let fits = s.good.sound.locks.known (place l t) r stands in
      let at : partition_at l r.client ≡ Some p =
      one r.client t (subst (λ z. is_opened z r.client ≡ true) (sym s.hub.kernel) fits.0) (was-opened t x)
      (subst (λ z. partition_number z r.client ≡ place l t) (sym s.hub.kernel) fits.1)
      ∙ x.place in
      record { living = ⊎_elim (λ h. h) (λ j. absurd (rest.told r.client at j)) (keeping.joined r.client (keeping.rows (place l t) r i)); place = at }

  fair : (t : ℕ) → Fed t → IsFair p l t b
  fair t x = record {
    settled = keeping.settled (place l t) x.2;
    living = λ r i. owner t r x.0 i;
  }

  pub served : (t : ℕ) → Fed t → IsServed l t b × IsFair p l t b
  served t x = (
    record {
      welcomed = welcomed t (own t x);
      joined = record { up = up; joined = joined t (own t x); taken = taken t x };
      active = x.2;
      held = λ k. held t k x;
      waiting = λ k. waiting t k x;
      requests = λ k e. (waits t k x (issued-alive t k x (ap reserves_number e)) (ap (λ z. is_asked z || is_querying z) e)).0;
      queries = λ k. false_from_ne_true _ (not-querying t k x);
    },
    fair t x,
  )
