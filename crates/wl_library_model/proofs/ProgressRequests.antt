-- A client that requests a free lock holds it once request and answer were delivered.
use Rattle.std.proofs.Common.{◌≡◌, ◌≢◌, inl, inr, ⊎_elim, ℕ, suc, ◌+◌, ◌<◌, ◌≤◌, true, false, cond, not, ◌&&◌, List, [], ◌∷◌, ◌++◌, length, length-append, Some, None, option_map, is_some, refl, sym, ap, ap₂, ◌∙◌, subst, arith}
use Rattle.std.specs.Prelude.{◌==◌, nat_lt, nat_le}
use Rattle.std.specs.List.{list_any}
use Rattle.std.proofs.lemmas.Bool.{cases_Bool, and_from, and_parts, eq-eqb, not-true, ne_eqb, lt-ltb, leb-true, lt-leb}
use Rattle.std.proofs.lemmas.List.{get_or_push}
use Rattle.wl_draft.specs.declared.mode.Mode.{Mode}
use Rattle.wl_draft.specs.Locks.{live}
use Rattle.wl_draft.specs.Membership.{In, Here}
use Rattle.wl_draft.proofs.Membership.{apart, either, In-append_cases, In-append_right}
use Rattle.wl_draft.proofs.TableLemmas.{find-put_same}
use Rattle.wl_limits.specs.declared.tabs.TheConstants.{COMMAND_LIMIT, LAST_NUMBER}
use Rattle.wl_grammar.specs.declared.frame.Operation.TheVariants.{Request, Query}
use Rattle.wl_grammar.specs.declared.frame.Outcome.TheVariants.{Granted}
use Rattle.wl_grammar.specs.declared.frame.Frame.{Frame}
use Rattle.wl_grammar.specs.declared.frame.Frame.TheVariants as frame
use Rattle.wl_grammar.specs.declared.frame.Upward.{Upward}
use Rattle.wl_grammar.specs.declared.frame.Upward.TheVariants as up
use Rattle.wl_broker.specs.Broker.{BrokerState, seat_of, is_joined, is_misplaced, limit_of, answer_of, taking}
use Rattle.wl_agent.specs.declared.fault.AgentFault.{AgentFault}
use Rattle.wl_agent.specs.declared.fault.AgentFault.TheVariants.{NotSupported, NameTooLong, TooMany, NumbersUsedUp}
use Rattle.wl_agent.specs.declared.fault.MessageFault.TheVariants.{NotEntered, NoSuchNumber}
use Rattle.wl_agent.specs.declared.status.Status.TheVariants.{Asked, Held}
use Rattle.wl_agent.specs.Tab.{TabState, status_of, operation_of, is_issued, reserved_numbers, live_numbers, live_limit, has_numbers, is_supported, live_refusal, ask_refusal, issue, asked, command_frame}
use Rattle.wl_kernel.specs.Kernel.{is_opened, is_living, partition_number}
use Rattle.wl_limits.specs.declared.texts.TheConstants.{NAME_LIMIT}
use Rattle.wl_client.specs.declared.client.Unsent.TheVariants as unsent
use Rattle.wl_client.specs.declared.fault.CallFault.TheVariants.{NotWelcomed, Agent}
use Rattle.wl_client.specs.Client.{ClientState, after_command}
use Rattle.wl_hub.specs.Hub.{from_broker, advanced}
use Rattle.wl_world_model.specs.World.{WorldState, empty_world, tab_of, lives, partition_of, run}
use Rattle.wl_world_model.specs.Holdings.{IsHonest}
use Rattle.wl_world_model.proofs.exclusion.Invariant.{Sound, generation, limit, limit_in, broker_in, broker_of}
use Rattle.wl_world_model.proofs.exclusion.CoverExcludes.{living_opened}
use Rattle.wl_library_model.specs.Library.{Library, Line, HubReceives, HubAdvances, Asks, ClientSends, new_library, with_line, with_hub, client_of, is_taken, is_due, runs, asks, sending, sending_report, sending_due, sending_item, unless_refused, followed_by, step, run_steps}
use Rattle.wl_library_model.specs.Events.{events, events_from}
use Rattle.wl_library_model.specs.Simulation.{IsOnItsWayDown, AreLocksOf}
use Rattle.wl_library_model.specs.Promises.{IsHolding}
use Rattle.wl_library_model.specs.Library.{to_hub}
use Rattle.wl_library_model.specs.Progress.{heard, IsQuiet, IsIdle, HasJoined, HasRoom, place, locks_beside, IsFree, granted, RequestsAreGranted}
use Rattle.wl_library_model.proofs.Carried.{Sim}
use Rattle.wl_library_model.proofs.Simulated.{steps-sim, run-sim}
use Rattle.wl_library_model.proofs.ProgressPlaces.{Steady, well-placed, run-steady}
use Rattle.wl_library_model.proofs.ProgressBroker.{Grants, taking-grants}
use Rattle.wl_library_model.proofs.ProgressHub.{IsDone, idle-done, hub-handles, unrefused, frame-taken}
use Rattle.wl_library_model.proofs.ProgressLinks.{at_line, due_for, In-due_for, due_for-In, met, on_way, hearing, heard-all, fed, sends-line, receives-line, advances-hub}
use Rattle.wl_library_model.proofs.ProgressFrames.{Waits, IsFine, grant, Kept, all-kept, all-grants}

-- A request that the client does not refuse leaves numbers for more commands.
live-numbers : (a : TabState) → live_refusal a 2 ≡ None → length a.issued + reserved_numbers a + 2 ≤ a.numbers
live-numbers a =
    either (λ o. o ≡ None → length a.issued + reserved_numbers a + 2 ≤ a.numbers) (nat_le (live_limit a.in_parts) (live_numbers a)) (Some TooMany) (cond (has_numbers a 2) None (Some NumbersUsedUp))
    (λ _ e. absurd (some-none TooMany e))
    (λ _. either (λ o. o ≡ None → length a.issued + reserved_numbers a + 2 ≤ a.numbers) (has_numbers a 2) None (Some NumbersUsedUp)
    (λ y e. leb-true (length a.issued + reserved_numbers a + 2) a.numbers y)
    (λ _ e. absurd (some-none NumbersUsedUp e)))
  where
    some-none : (f : AgentFault) → Some f ≡ None → ⊥
    some-none f e = cc

ask-numbers : (a : TabState) (name : List ℕ) → ask_refusal a name ≡ None → length a.issued + reserved_numbers a + 2 ≤ a.numbers
ask-numbers a name =
    either (λ o. o ≡ None → length a.issued + reserved_numbers a + 2 ≤ a.numbers) (not (is_supported name)) (Some NotSupported) (cond (nat_lt NAME_LIMIT (length name)) (Some NameTooLong) (live_refusal a 2))
    (λ _ e. absurd (some-none NotSupported e))
    (λ _. either (λ o. o ≡ None → length a.issued + reserved_numbers a + 2 ≤ a.numbers) (nat_lt NAME_LIMIT (length name)) (Some NameTooLong) (live_refusal a 2)
    (λ _ e. absurd (some-none NameTooLong e))
    (λ _ e. live-numbers a e))
  where
    some-none : (f : AgentFault) → Some f ≡ None → ⊥
    some-none f e = cc

before-last : (a : TabState) (name : List ℕ) → a.numbers ≡ COMMAND_LIMIT → ask_refusal a name ≡ None → length a.issued ≢ LAST_NUMBER
before-last a name n e last =
    let m : length a.issued + reserved_numbers a + 2 ≤ a.numbers = ask-numbers a name e in
    let k : a.numbers ≡ 1000000 = n in
    let z : length a.issued ≡ 4294967295 = last in
    omega arith

-- A living tab of the generation that is up has no later hello on its way.
fine : (w : WorldState) (t g : ℕ) (f : Frame) → Sound w → lives w t ≡ true → limit w ≤ suc g → IsOnItsWayDown w t f → IsFine g f
fine w t g f s l lim (inl dead) = apart l (not-true _ (and_parts _ _ dead).1)
fine w t g (frame.Hello h) s l lim (inr c) = ⊎_elim (λ i. below ((s.messages t).hellos _ h i).1) (λ i. below ((s.messages t).hellos _ h i).1) c
  where
    below : h.generation < limit w → h.generation ≤ g
    below lt = let m : h.generation < limit w = lt in let n : limit w ≤ suc g = lim in omega arith
fine w t g (frame.Answer x) s l lim (inr c) = tt
fine w t g (frame.Snapshot x) s l lim (inr c) = tt
fine w t g (frame.Heard x) s l lim (inr c) = tt
fine w t g (frame.Welcome x) s l lim (inr c) = tt
fine w t g (frame.PairWelcome x) s l lim (inr c) = tt
fine w t g f s l lim (inr c) = absurd c

limit-up : (w : WorldState) (b : BrokerState) → w.broker ≡ Some b → limit w ≡ suc (generation w)
limit-up w b e = ap (limit_in w.kernel.generation) e

-- The steps of a client

-- Nothing of the hub changes in a call.
asks-line : (l : Library) (t : ℕ) (mode : Mode) (name : List ℕ) → runs l t ≡ true → (client_of l t).is_welcomed ≡ true → ask_refusal (client_of l t).locks name ≡ None
    → step (Asks t mode false name) l ≡ with_line t (record (l.lines t) { client = after_command (asked mode false name) (client_of l t) }) l
unfolding step
asks-line l t mode name r y a =
    let c = client_of l t in
    ap (λ b. cond b (with_line t (record (l.lines t) { client = asks mode false name c }) l) l) r
    ∙ ap₂ (λ b o. with_line t (record (l.lines t) { client = cond (is_some (cond b (option_map Agent o) (Some NotWelcomed))) c (after_command (asked mode false name) c) }) l) y a

-- The client's next item is the request.

command-item : (c : ClientState) (n : ℕ) → c.report ≡ [] → c.due ≡ [] → c.unsent ≡ unsent.Command n ∷ [] → (c.locks.entered ≡ 0 → ⊥) → is_issued c.locks n ≡ true
    → sending c ≡ record { frame = Some (command_frame c.locks n); client = record c { unsent = [] } }
command-item c n r d u e i =
    ap (λ fs. sending_report fs c) r
    ∙ (ap (λ ks. sending_due ks c) d
    ∙ (ap (λ us. sending_item us c) u
    ∙ ap₂ (λ b z. record { frame = unless_refused (cond b (Some NotEntered) (cond z None (Some NoSuchNumber))) (command_frame c.locks n); client = record c { unsent = [] } }) (ne_eqb c.locks.entered 0 e) i))

asked-issued : (a : TabState) (mode : Mode) (name : List ℕ) → is_issued (asked mode false name a) (length a.issued) ≡ true
unfolding issue
asked-issued a mode name = lt-ltb (length a.issued) (length (a.issued ++ Request mode false name ∷ [])) (omega (arith, length-append a.issued (Request mode false name ∷ [])))

asked-operation : (a : TabState) (mode : Mode) (name : List ℕ) → operation_of (asked mode false name a) (length a.issued) ≡ Request mode false name
unfolding issue
asked-operation a mode name = get_or_push a.issued (Request mode false name) Query (length a.issued) refl

asked-status : (a : TabState) (mode : Mode) (name : List ℕ) → status_of (asked mode false name a) (length a.issued) ≡ Some Asked
unfolding issue
asked-status a mode name = find-put_same (length a.issued) Asked a.statuses

asked-entered : (a : TabState) (mode : Mode) (name : List ℕ) → (asked mode false name a).entered ≡ a.entered
unfolding issue
asked-entered a mode name = refl

-- The whole

module _ (l : Library) (w : WorldState) (s : Sim l w) (steady : Steady w) (t : ℕ) (mode : Mode) (name : List ℕ) (b : BrokerState) (r : runs l t ≡ true) (q : IsQuiet l t) (idle : IsIdle l) (j : HasJoined l t b) (room : HasRoom l t b)
    (a : ask_refusal (client_of l t).locks name ≡ None) (f : IsFree l t b mode name) where
  abbrev c : ClientState
  c = client_of l t

  abbrev n : ℕ
  n = length c.locks.issued

  abbrev g : ℕ
  g = b.generation

  -- The broker and the tab's locks

  alive : lives w t ≡ true
  alive = subst (λ k. lives (record w { kernel = k }) t ≡ true) s.hub.kernel (and_parts _ _ r).0

  honest : IsHonest w t
  honest = subst (λ zs. list_any (λ u. u == t) zs ≡ false) s.taken (not-true _ (and_parts _ _ r).1)

  up_in : w.broker ≡ Some b
  up_in = sym s.hub.broker ∙ j.up

  is_b : broker_of w ≡ b
  is_b = ap (broker_in w.kernel.generation) up_in

  now : g ≡ generation w
  now = sym (ap (λ z. z.generation) is_b) ∙ s.good.sound.current

  positive : 0 < g
  positive = subst (λ z. 0 < z) (sym now) s.good.sound.positive

  entered_in : (tab_of w t).entered ≡ generation w
  entered_in = (s.good.sound.seats t).joined honest (ap (λ z. is_joined (seat_of z t)) is_b ∙ j.joined)

  welcomed : c.is_welcomed ≡ true
  welcomed = ⊎_elim
      (λ y. y)
      (λ y. absurd (
      let z : (tab_of w t).entered ≡ 0 = ap (λ x. x.entered) ((s.lines t).client.unwelcomed y) in
      let m : (tab_of w t).entered ≡ generation w = entered_in in
      let p : 0 < generation w = s.good.sound.positive in omega arith))
      (cases_Bool c.is_welcomed)

  locks : AreLocksOf c.locks (tab_of w t)
  locks = (s.lines t).client.welcomed welcomed

  entered : c.locks.entered ≡ g
  entered = ap (λ z. z.entered) locks ∙ (entered_in ∙ sym now)

  numbers : c.locks.numbers ≡ COMMAND_LIMIT
  numbers = ap (λ z. z.numbers) locks ∙ steady.numbers t

  placed : is_misplaced b t (place l t) ≡ false
  placed = subst (λ k. is_misplaced b t (partition_number k t) ≡ false) (sym s.hub.kernel) (subst (λ z. is_misplaced z t (partition_of w t) ≡ false) is_b (well-placed w (broker_of w) t (steady.places t)))

  abbrev pub request : Upward
  request = up.Command (record { generation = g; number = n; operation = Request mode false name })

  grants : Grants b t n (taking b (record { tab = t; partition = place l t; inner = request }))
  grants = taking-grants b t (place l t) n mode name j.joined placed f.active (sym j.taken) (before-last c.locks name numbers a) (lt-leb (limit_of b t) (live (locks_beside l t b) t) room) f.grantable

  -- The request goes to the hub

  abbrev F : Frame
  F = frame.Command (record { generation = g; number = n; operation = Request mode false name })

  -- The client with the request issued and sent.
  abbrev c1 : ClientState
  c1 = after_command (asked mode false name) c

  abbrev c2 : ClientState
  c2 = record c1 { unsent = [] }

  abbrev l1 : Library
  l1 = with_line t (record (l.lines t) { client = c1 }) l

  sent : sending c1 ≡ record { frame = Some F; client = c2 }
  sent =
      command-item c1 n q.report q.due (ap (λ us. us ++ unsent.Command n ∷ []) q.unsent)
      (λ e. let z : c1.locks.entered ≡ 0 = e in let m : c1.locks.entered ≡ g = asked-entered c.locks mode name ∙ entered in let p : 0 < g = positive in omega arith)
      (asked-issued c.locks mode name)
      ∙ ap₂ (λ e o. record { frame = Some (frame.Command (record { generation = e; number = n; operation = o })); client = c2 }) (asked-entered c.locks mode name ∙ entered) (asked-operation c.locks mode name)

  abbrev x2 : Line
  x2 = record (l.lines t) { client = c2; up = F ∷ [] }

  abbrev l2 : Library
  l2 = with_line t x2 l1

  at2 : step (ClientSends t) l1 ≡ l2
  at2 =
      sends-line l1 t (record (l.lines t) { client = c1 }) (at_line t (record (l.lines t) { client = c1 }) l) r
      ∙ (ap (λ z. with_line t (record (l.lines t) { client = z.client; up = followed_by (l.lines t).up z.frame }) l1) sent
      ∙ ap (λ us. with_line t (record (l.lines t) { client = c2; up = us ++ F ∷ [] }) l1) q.up)

  is_up : is_some l.hub.supervised.broker ≡ true
  is_up = ap is_some j.up

  done : IsDone l.hub
  done = idle-done l.hub is_up idle

  abbrev x3 : Line
  x3 = record (l.lines t) { client = c2; up = [] }

  abbrev l3 : Library
  l3 = with_line t x3 (with_hub (fed t F l.hub) l2)

  at3 : step (HubReceives t 1) l2 ≡ l3
  at3 = receives-line l2 t x2 F (at_line t x2 l1) refl (and_parts _ _ r).0 done.arrived

  abbrev l4 : Library
  l4 = with_hub (advanced (fed t F l.hub)) l3

  -- The request is handled after these steps.
  told : run_steps (Asks t mode false name ∷ to_hub t 1 1) l ≡ l4
  told =
      ap (run_steps (to_hub t 1 1)) (asks-line l t mode name r welcomed a)
      ∙ (ap (run_steps (HubReceives t 1 ∷ HubAdvances ∷ [])) at2
      ∙ (ap (run_steps (HubAdvances ∷ [])) at3
      ∙ advances-hub l3))

  -- The answer comes back

  opened : is_opened l.hub.supervised.kernel t ≡ true
  opened = living_opened _ (and_parts _ _ r).0

  handled4 : ((advanced (fed t F l.hub)).supervised ≡ record { kernel = l.hub.supervised.kernel; broker = Some grants.broker })
      × ((advanced (fed t F l.hub)).outputs ≡ l.hub.outputs ++ from_broker (answer_of g grants.upto t n Granted ∷ grants.others))
  handled4 =
      let x = hub-handles l.hub t F is_up done in
      let y = frame-taken t request l.hub.supervised b grants.broker (answer_of g grants.upto t n Granted ∷ grants.others) (unrefused l.hub.supervised.kernel t opened (and_parts _ _ r).0) j.up grants.does in
      (x.0 ∙ y.0, x.1 ∙ ap (λ zs. l.hub.outputs ++ zs) y.1)

  abbrev v : WorldState
  v = run (events_from l (Asks t mode false name ∷ to_hub t 1 1)) w

  sim4 : Sim l4 v
  sim4 = subst (λ z. Sim z v) told (steps-sim (Asks t mode false name ∷ to_hub t 1 1) l w s)

  kernel4 : l4.hub.supervised.kernel ≡ l.hub.supervised.kernel
  kernel4 = ap (λ z. z.kernel) handled4.0

  runs4 : runs l4 t ≡ true
  runs4 = ap (λ k. is_living k t && not (is_taken l t)) kernel4 ∙ r

  line4 : l4.lines t ≡ x3
  line4 = at_line t x3 (with_hub (fed t F l.hub) l2)

  alive4 : lives v t ≡ true
  alive4 = ap (λ k. is_living k t) (sym sim4.hub.kernel) ∙ (and_parts _ _ runs4).0

  up4 : v.broker ≡ Some grants.broker
  up4 = sym sim4.hub.broker ∙ ap (λ z. z.broker) handled4.0

  limit4 : limit v ≤ suc g
  limit4 =
      let e : limit v ≡ suc (generation v) = limit-up v grants.broker up4 in
      let z : (broker_of v).generation ≡ generation v = sim4.good.sound.current in
      let m : (broker_of v).generation ≡ grants.broker.generation = ap (λ o. (broker_in v.kernel.generation o).generation) up4 in
      let k : grants.broker.generation ≡ g = grants.generation in
      omega arith

  fine4 : (y : Frame) → IsOnItsWayDown v t y → IsFine g y
  fine4 y o = fine v t g y sim4.good.sound alive4 limit4 o

  fine-arrived : (y : Frame) → In y (client_of l4 t).arrived → IsFine g y
  fine-arrived y i = fine4 y ((sim4.lines t).came y i)

  fine-coming : (y : Frame) → In y (on_way l4 t) → IsFine g y
  fine-coming y i = ⊎_elim
      (λ k. fine4 y ((sim4.lines t).down y k))
      (λ k. fine4 y (sim4.hub.outputs t y (In-due_for l4.hub t y l4.hub.outputs k)))
      (In-append_cases (l4.lines t).down (due_for l4.hub t l4.hub.outputs) i)

  current4 : g ≡ l4.hub.supervised.kernel.generation
  current4 =
      sym grants.generation
      ∙ (sym (ap (λ o. (broker_in v.kernel.generation o).generation) up4)
      ∙ (sim4.good.sound.current ∙ ap (λ z. z.generation) (sym sim4.hub.kernel)))

  grant-due : is_due l4.hub (t, grant g n mode name grants.upto) ≡ true
  grant-due = and_from _ _ (and_parts _ _ runs4).0 (eq-eqb g l4.hub.supervised.kernel.generation current4)

  grant-coming : In (grant g n mode name grants.upto) (on_way l4 t)
  grant-coming =
      In-append_right (l4.lines t).down
      (due_for-In l4.hub t (grant g n mode name grants.upto) l4.hub.outputs
      (subst (In (t, grant g n mode name grants.upto)) (sym handled4.1) (In-append_right l.hub.outputs Here))
      grant-due)

  waits2 : Waits g n mode name c2.locks
  waits2 = record {
    entered = asked-entered c.locks mode name ∙ entered;
    issued = asked-issued c.locks mode name;
    operation = asked-operation c.locks mode name;
    status = inl (asked-status c.locks mode name);
  }

  -- The client after all frames

  client4 : client_of l4 t ≡ c2
  client4 = ap (λ z. z.client) line4

  met4 : Kept g n mode name (client_of l4 t) (met (client_of l4 t))
  met4 = all-kept g n mode name (client_of l4 t).arrived (client_of l4 t) (ap (λ z. z.is_welcomed) client4 ∙ welcomed) fine-arrived (subst (λ z. Waits g n mode name z.locks) (sym client4) waits2)

  abbrev end : ClientState
  end = hearing (on_way l4 t) (client_of l4 t)

  end-kept : Kept g n mode name (record (met (client_of l4 t)) { arrived = on_way l4 t }) end
  end-kept = all-kept g n mode name (on_way l4 t) (record (met (client_of l4 t)) { arrived = on_way l4 t }) met4.welcomed fine-coming met4.waits

  end-held : status_of end.locks n ≡ Some Held
  end-held = all-grants g n mode name grants.upto (on_way l4 t) (record (met (client_of l4 t)) { arrived = on_way l4 t }) met4.welcomed positive fine-coming met4.waits grant-coming

  holds4 : IsHolding (heard t l4) t n
  holds4 =
      let h = heard-all l4 t runs4 in
      let e = ap (λ z. z.client) h.line in
      record {
        living = ap (λ z. is_living z.supervised.kernel t) h.hub ∙ (and_parts _ _ runs4).0;
        welcomed = ap (λ z. z.is_welcomed) e ∙ end-kept.welcomed;
        held = ap (λ z. status_of z.locks n) e ∙ end-held;
      }

  pub holds : IsHolding (granted t mode name l) t n
  holds = subst (λ z. IsHolding (heard t z) t n) (sym told) holds4

pub requests-are_granted : RequestsAreGranted
requests-are_granted steps t mode name b r q idle j room a f = holds (run_steps steps new_library) (run (events steps) empty_world) (run-sim steps) (run-steady (events steps)) t mode name b r q idle j room a f
