-- A tab that opens under a running broker has joined once its greeting and its report were delivered.
use Rattle.std.proofs.Common.{◌≡◌, inl, inr, ⊎_elim, ℕ, ◌<◌, Bool, true, false, cond, not, ◌&&◌, List, [], ◌∷◌, ◌++◌, length, Option, Some, None, option_map, is_some, Ok, refl, sym, ap, ap₂, ◌∙◌, subst, arith}
use Rattle.std.specs.Prelude.{◌==◌}
use Rattle.std.specs.List.{list_any}
use Rattle.std.proofs.lemmas.Bool.{cases_Bool, and_from, and_parts, eqb-true, ne_eqb, eq-eqb, lt-ltb}
use Rattle.wl_origin.specs.Order.{Pair}
use Rattle.wl_draft.specs.Locks.{live}
use Rattle.wl_draft.specs.Tables.{Table, find}
use Rattle.wl_draft.specs.Membership.{In, Here, Later as Behind}
use Rattle.wl_draft.proofs.Membership.{apart, either, list_any-In}
use Rattle.wl_limits.specs.declared.tabs.TheConstants.{COMMAND_LIMIT}
use Rattle.wl_grammar.specs.declared.frame.Frame.{Frame}
use Rattle.wl_grammar.specs.declared.frame.Frame.TheVariants as frame
use Rattle.wl_broker.specs.declared.seat.TabSeat.{TabSeat}
use Rattle.wl_broker.specs.declared.seat.TabSeat.TheVariants.{Joined, Dead}
use Rattle.wl_broker.specs.Broker.{BrokerState, manager_of, is_joined, next_in, limit_in, limit_of, listed_at, taking}
use Rattle.wl_agent.specs.declared.delivered.Delivered.{Delivered}
use Rattle.wl_agent.specs.declared.delivered.Delivered.TheVariants as heard_as
use Rattle.wl_agent.specs.declared.drop_reason.DropReason.TheVariants as unheard
use Rattle.wl_agent.specs.Tab.{TabState, born, enter_first, report_bodies, report_frames, upward_frame, due, is_report_due}
use Rattle.wl_agent.specs.Delivery.{delivery}
use Rattle.wl_broadcast.specs.Channels.{no_channels}
use Rattle.wl_kernel.specs.Kernel.{KernelState, is_opened, is_living, lives as lives_of, open_refusal, opened, partition_number}
use Rattle.wl_kernel.specs.declared.fault.OpenFault.{OpenFault}
use Rattle.wl_kernel.specs.Welcome.{texts_of, welcome}
use Rattle.wl_tab.specs.Tabs.{told}
use Rattle.wl_tab.specs.Arrivals.{told_said, arrival}
use Rattle.wl_world_messages.specs.declared.effect.Effect.TheVariants as said
use Rattle.wl_client.specs.declared.client.Event.{Event}
use Rattle.wl_client.specs.declared.client.Event.TheVariants.{Welcomed, Told}
use Rattle.wl_client.specs.declared.client.Unsent.TheVariants as unsent
use Rattle.wl_client.specs.Client.{ClientState, new_client, welcome_of, after_welcome, after_told, after_delivery}
use Rattle.wl_hub.specs.declared.fault.OpenRefusal.TheVariants.{Tab}
use Rattle.wl_hub.specs.Sending.{is_current}
use Rattle.wl_hub.specs.Hub.{HubState, greeting, hub_opened, page_refusal, advanced}
use Rattle.wl_world_model.specs.World.{WorldState, empty_world, run}
use Rattle.wl_world_model.proofs.exclusion.Invariant.{broker_in}
use Rattle.wl_world_model.proofs.exclusion.OpenedTabs.{each_opened}
use Rattle.wl_world_model.proofs.exclusion.OpeningAndKilling.{not_opened}
use Rattle.wl_world_model.proofs.exclusion.CoverExcludes.{living_opened}
use Rattle.wl_world_model.proofs.apart.OnePartition.{Fits, Seated, manager_of-Stands}
use Rattle.wl_world_model.proofs.apart.ToldApart.{FitsUp, Orderly}
use Rattle.wl_world_model.proofs.apart.ToldApart.{opened as opened_at}
use Rattle.wl_world_model.proofs.apart.RunsApart.{reached}
use Rattle.wl_world_model.specs.Apart.{is_in}
use Rattle.wl_library_model.specs.Library.{Library, Line, client_of, Opens, HubReceives, HubAdvances, ClientSends, new_line, new_library, with_line, with_hub, is_taken, runs, sending, followed_by, step, run_steps}
use Rattle.wl_library_model.specs.Events.{events}
use Rattle.wl_library_model.specs.Simulation.{IsOnItsWayDown}
use Rattle.wl_library_model.specs.Library.{to_hub}
use Rattle.wl_library_model.specs.Progress.{heard, IsIdle, joined, IsReady, NewTabsJoin}
use Rattle.wl_library_model.proofs.Carried.{Sim}
use Rattle.wl_library_model.proofs.Simulated.{run-sim}
use Rattle.wl_library_model.proofs.ProgressBroker.{IsStranger, Joins, empty_report, newcomer-joins}
use Rattle.wl_library_model.proofs.ProgressHub.{IsDone, idle-done, hub-handles, unrefused, frame-taken}
use Rattle.wl_library_model.proofs.ProgressLinks.{at_line, runs-same, due_for, In-due_for, due_for-first, due_for-append, all_handled, hearing, heard-all, fed, sends-line, receives-line, advances-hub}

-- A tab that was never opened

find-none : {X : Type 0} (g : ℕ → Bool) (t : ℕ) (ps : Table X) → g t ≡ false → ((x : ℕ × X) → In x ps → g x.0 ≡ true) → find ps t ≡ None
find-none g t [] n h = refl
find-none g t (p ∷ ps) n h =
    either (λ o. o ≡ None) (p.0 == t) (Some p.1) (find ps t)
    (λ e. apart (ap g (sym (eqb-true p.0 t e)) ∙ h p Here) n)
    (λ _. find-none g t ps n (λ x i. h x (Behind i)))

listed-none : (g : ℕ → Bool) (t : ℕ) (ls : List (ℕ × ℕ)) → g t ≡ false → ((x : ℕ × ℕ) → In x ls → g x.0 ≡ true) → listed_at t ls ≡ None
listed-none g t [] n h = refl
listed-none g t (x ∷ xs) n h =
    either (λ o. o ≡ None) (x.0 == t) (Some x.1) (listed_at t xs)
    (λ e. apart (ap g (sym (eqb-true x.0 t e)) ∙ h x Here) n)
    (λ _. listed-none g t xs n (λ y i. h y (Behind i)))

seated-opened : (g f : ℕ → Bool) (t : ℕ) (s : TabSeat) → Seated g f t s → g t ≡ true
seated-opened g f t (Joined p n l) m = m.left
seated-opened g f t Dead e = e

stranger-from : (g f : ℕ → Bool) (b : BrokerState) (t : ℕ) → g t ≡ false → Fits g f b → IsStranger b t
stranger-from g f b t n h = record {
  listed = listed-none g t b.listed n (λ x i. (h.listed x i).left);
  seat = find-none g t b.seats n (λ x i. seated-opened g f x.0 x.1 (h.seats x i));
  partial = find-none g t b.partial n h.partial;
  locks = λ p. let s = manager_of-Stands g f b p h in (
    (λ r i e. apart (ap g (sym e) ∙ (s.0 r i).left) n),
    (λ r i e. apart (ap g (sym e) ∙ (s.1 r i).left) n),
  );
}

opened-same : (k : KernelState) (t : ℕ) → opened_at k t ≡ is_opened k t
unfolding opened_at
opened-same k t = refl

-- No welcome is on its way to it.
old-frame : (w : WorldState) (t : ℕ) (f : Frame) → is_opened w.kernel t ≡ false → IsOnItsWayDown w t f → welcome_of f ≡ None
old-frame w t f n (inl dead) = apart (and_parts _ _ dead).0 n
old-frame w t (frame.Welcome x) n (inr c) = apart c.0 n
old-frame w t (frame.PairWelcome x) n (inr c) = apart c.0 n
old-frame w t f n (inr c) = refl

-- The client of a new tab

abbrev fresh : List Frame → ClientState
fresh fs = record new_client { arrived = fs }

skips : (old rest a : List Frame) → ((f : Frame) → In f old → welcome_of f ≡ None) → (z : List Frame) × (all_handled (old ++ rest) (fresh a) ≡ all_handled rest (fresh z))
skips [] rest a h = (a, refl)
skips (f ∷ fs) rest a h =
    let o = skips fs rest (fs ++ rest) (λ x i. h x (Behind i)) in
    (o.0, ap (λ m. all_handled (fs ++ rest) (after_welcome m (fresh (fs ++ rest)))) (h f Here) ∙ o.1)

abbrev welcomed : ℕ → Bool → List Event → List Frame → ClientState
welcomed t i es fs = record new_client { is_welcomed = true; locks = born i t COMMAND_LIMIT; channels = no_channels t; arrived = fs; events = es }

welcomes : (t : ℕ) (p : Pair) (i : Bool) (z rest : List Frame) → all_handled (welcome t (texts_of p i).top (texts_of p i).own ∷ rest) (fresh z) ≡ all_handled rest (welcomed t i (Welcomed t ∷ []) rest)
welcomes t p true z rest = refl
welcomes t p false z rest = refl

abbrev hello : ℕ → Frame
hello g = frame.Hello (record { generation = g })

welcome-current : (g t : ℕ) (p : Pair) (i : Bool) → is_current g (welcome t (texts_of p i).top (texts_of p i).own) ≡ true
welcome-current g t p true = refl
welcome-current g t p false = refl

-- The locks of a tab that has entered its first generation.
abbrev pub first : ℕ → Bool → ℕ → TabState
first t i g = told (enter_first g (born i t COMMAND_LIMIT))

hello-delivery : (t : ℕ) (i : Bool) (g : ℕ) → 0 < g → delivery (hello g) (born i t COMMAND_LIMIT) ≡ (enter_first g (born i t COMMAND_LIMIT), heard_as.Entered (report_frames (enter_first g (born i t COMMAND_LIMIT))))
unfolding delivery
hello-delivery t i g lt = ap (λ b. let z : TabState × Delivered = cond b (enter_first g (born i t COMMAND_LIMIT), heard_as.Entered (report_frames (enter_first g (born i t COMMAND_LIMIT)))) (born i t COMMAND_LIMIT, heard_as.Dropped unheard.OldGeneration) in z) (lt-ltb 0 g lt)

hello-said : (t : ℕ) (i : Bool) (g : ℕ) → 0 < g → arrival (hello g) (born i t COMMAND_LIMIT) ≡ said.Entered g []
unfolding arrival
hello-said t i g lt = ap (λ (z : TabState × Delivered). told_said (hello g) (born i t COMMAND_LIMIT) z.0 z.1) (hello-delivery t i g lt)

abbrev greeted : ℕ → Bool → ℕ → List Event → ClientState
greeted t i g es = record (welcomed t i es []) { locks = first t i g; unsent = unsent.Resend ∷ [] }

hears-hello : (t : ℕ) (i : Bool) (g : ℕ) (es : List Event) (fs : List Frame) → 0 < g → all_handled (hello g ∷ []) (welcomed t i es fs) ≡ greeted t i g (es ++ Told (said.Entered g []) ∷ [])
hears-hello t i g es fs lt =
    let c = welcomed t i es [] in
    ap (λ b. cond b (record c { unsent = unsent.Resend ∷ [] }) (after_delivery (hello g) c)) (ne_eqb g 0 (λ e. let z : g ≡ 0 = e in let l : 0 < g = lt in omega arith))
    ∙ ap₂ (λ e (z : TabState × Delivered). after_told e (told z.0) c) (hello-said t i g lt) (hello-delivery t i g lt)

-- The report

no-due : (t : ℕ) (i : Bool) (g : ℕ) → due (first t i g) ≡ []
unfolding due told enter_first
no-due t i g = either (λ zs. zs ≡ []) (g == 0) [] [] (λ _. refl) (λ _. refl)

first-frames : (t : ℕ) (i : Bool) (g : ℕ) → report_frames (first t i g) ≡ upward_frame (empty_report i g) ∷ []
unfolding told enter_first report_bodies
first-frames t true g = refl
first-frames t false g = refl

first-due : (t : ℕ) (i : Bool) (g : ℕ) → 0 < g → is_report_due (first t i g) ≡ true
unfolding told enter_first
first-due t i g lt = ap (λ b. not b && true) (ne_eqb g 0 (λ e. let z : g ≡ 0 = e in let l : 0 < g = lt in omega arith))

pub first-issued : (t : ℕ) (i : Bool) (g : ℕ) → (first t i g).issued ≡ []
unfolding told enter_first
first-issued t i g = refl

-- The client with its report to send, and the client that has sent it.
abbrev reporting : ℕ → Bool → ℕ → List Event → ClientState
reporting t i g es = record (greeted t i g es) { report = upward_frame (empty_report i g) ∷ []; unsent = [] }

abbrev reported : ℕ → Bool → ℕ → List Event → ClientState
reported t i g es = record (greeted t i g es) { unsent = [] }

prepares : (t : ℕ) (i : Bool) (g : ℕ) (es : List Event) → 0 < g → sending (greeted t i g es) ≡ record { frame = None; client = reporting t i g es }
prepares t i g es lt =
    ap (λ b. record { frame = None; client = record (greeted t i g es) { report = cond b (report_frames (first t i g)) []; due = due (first t i g); unsent = [] } }) (first-due t i g lt)
    ∙ ap₂ (λ fs ks. record { frame = None; client = record (greeted t i g es) { report = fs; due = ks; unsent = [] } }) (first-frames t i g) (no-due t i g)

-- The opening

opens-line : (l : Library) (t : ℕ) (p : Pair) (i : Bool) → page_refusal t (Ok p) l.hub ≡ None → step (Opens t (Ok p) i) l ≡ with_line t new_line (with_hub (hub_opened t p i l.hub) l)
unfolding step
opens-line l t p i n = ap (λ o. cond (is_some o) l (with_line t new_line (with_hub (hub_opened t p i l.hub) l))) n

unrefused-page : (o : Option OpenFault) → option_map Tab o ≡ None → is_some o ≡ false
unrefused-page None e = refl
unrefused-page (Some f) e = cc

module _ (l : Library) (w : WorldState) (s : Sim l w) (t : ℕ) (p : Pair) (i : Bool) (b : BrokerState) (order : Orderly p w) (n : page_refusal t (Ok p) l.hub ≡ None) (up : l.hub.supervised.broker ≡ Some b) (idle : IsIdle l) where
  abbrev k : KernelState
  k = l.hub.supervised.kernel

  abbrev g : ℕ
  g = b.generation

  up_in : w.broker ≡ Some b
  up_in = sym s.hub.broker ∙ up

  now : g ≡ k.generation
  now = sym (ap (λ o. (broker_in w.kernel.generation o).generation) up_in) ∙ (s.good.sound.current ∙ ap (λ z. z.generation) (sym s.hub.kernel))

  positive : 0 < g
  positive = subst (λ z. 0 < z) (sym (now ∙ ap (λ z. z.generation) s.hub.kernel)) s.good.sound.positive

  unopened : is_opened k t ≡ false
  unopened = not_opened k t p (unrefused-page (open_refusal t p k) n)

  unopened_in : is_opened w.kernel t ≡ false
  unopened_in = subst (λ z. is_opened z t ≡ false) s.hub.kernel unopened

  stranger : IsStranger b t
  stranger = stranger-from (opened_at w.kernel) (is_in p w.kernel) b t (opened-same w.kernel t ∙ unopened_in) (subst (FitsUp (opened_at w.kernel) (is_in p w.kernel)) up_in order.broker)

  untaken : is_taken l t ≡ false
  untaken = ⊎_elim
      (λ y. let o = list_any-In (λ u. u == t) w.corrupt (subst (λ zs. list_any (λ u. u == t) zs ≡ true) s.taken y) in
      apart (ap (opened_at w.kernel) (sym (eqb-true o.0 t o.2)) ∙ order.corrupt o.0 o.1) (opened-same w.kernel t ∙ unopened_in))
      (λ y. y)
      (cases_Bool (is_taken l t))

  -- The opened tab

  abbrev h1 : HubState
  h1 = hub_opened t p i l.hub

  abbrev l1 : Library
  l1 = with_line t new_line (with_hub h1 l)

  living : is_living (opened t p k) t ≡ true
  living = each_opened (λ u o q. t ≡ u → lives_of o ≡ true) k t p unopened (λ q _. refl) (λ u d e. absurd (d e)) t refl

  runs1 : runs l1 t ≡ true
  runs1 = and_from _ _ living (ap not untaken)

  abbrev W : Frame
  W = welcome t (texts_of p i).top (texts_of p i).own

  -- The frames for the tab that were there before it was opened.
  abbrev before : List Frame
  before = due_for h1 t l.hub.outputs

  outputs1 : due_for h1 t h1.outputs ≡ before ++ W ∷ hello g ∷ []
  outputs1 =
      due_for-append h1 t l.hub.outputs ((t, W) ∷ greeting t l.hub.supervised)
      ∙ ap (λ zs. before ++ zs)
      (ap (λ o. due_for h1 t ((t, W) ∷ cond (is_some o) ((t, hello k.generation) ∷ []) [])) up
      ∙ (due_for-first h1 t W ((t, hello k.generation) ∷ []) (and_from _ _ living (welcome-current k.generation t p i))
      ∙ (ap (λ zs. W ∷ zs) (due_for-first h1 t (hello k.generation) [] (and_from _ _ living (eq-eqb k.generation k.generation refl)))
      ∙ ap (λ m. W ∷ hello m ∷ []) (sym now))))

  old : (f : Frame) → In f before → welcome_of f ≡ None
  old f j = old-frame w t f unopened_in (s.hub.outputs t f (In-due_for h1 t f l.hub.outputs j))

  abbrev es : List Event
  es = Welcomed t ∷ Told (said.Entered g []) ∷ []

  client2 : (fs : List Frame) → fs ≡ before ++ W ∷ hello g ∷ [] → hearing fs new_client ≡ greeted t i g es
  client2 fs e =
      let o = skips before (W ∷ hello g ∷ []) fs old in
      ap (λ zs. all_handled zs (fresh fs)) e ∙ (o.1 ∙ (welcomes t p i o.0 (hello g ∷ []) ∙ hears-hello t i g (Welcomed t ∷ []) (hello g ∷ []) positive))

  abbrev l2 : Library
  l2 = heard t l1

  abbrev h2 : HubState
  h2 = record h1 { outputs = [] }

  abbrev x2 : Line
  x2 = record new_line { client = greeted t i g es }

  hub2 : l2.hub ≡ h2
  hub2 = (heard-all l1 t runs1).hub

  line2 : l2.lines t ≡ x2
  line2 =
      (heard-all l1 t runs1).line
      ∙ (ap (λ (z : Line). record z { client = hearing (z.down ++ due_for h1 t h1.outputs) z.client; down = [] }) (at_line t new_line (with_hub h1 l))
      ∙ ap (λ c. record new_line { client = c }) (client2 (due_for h1 t h1.outputs) outputs1))

  runs2 : runs l2 t ≡ true
  runs2 = runs-same l1 l2 t (ap (λ z. z.supervised) hub2) (heard-all l1 t runs1).taken ∙ runs1

  -- The client reports

  abbrev R : Frame
  R = upward_frame (empty_report i g)

  abbrev x3 : Line
  x3 = record new_line { client = reporting t i g es }

  abbrev l3 : Library
  l3 = with_line t x3 l2

  at3 : step (ClientSends t) l2 ≡ l3
  at3 = sends-line l2 t x2 line2 runs2 ∙ ap (λ z. with_line t (record new_line { client = z.client; up = followed_by [] z.frame }) l2) (prepares t i g es positive)

  abbrev x4 : Line
  x4 = record new_line { client = reported t i g es; up = R ∷ [] }

  abbrev l4 : Library
  l4 = with_line t x4 l3

  at4 : step (ClientSends t) l3 ≡ l4
  at4 = sends-line l3 t x3 (at_line t x3 l2) runs2

  is_up : is_some l.hub.supervised.broker ≡ true
  is_up = ap is_some up

  done : IsDone l.hub
  done = idle-done l.hub is_up idle

  done2 : IsDone h2
  done2 = record { untold = done.untold; greeted = done.greeted; arrived = done.arrived }

  abbrev x5 : Line
  x5 = record new_line { client = reported t i g es }

  abbrev l5 : Library
  l5 = with_line t x5 (with_hub (fed t R l2.hub) l4)

  at5 : step (HubReceives t 1) l4 ≡ l5
  at5 = receives-line l4 t x4 R (at_line t x4 l3) refl (and_parts _ _ runs2).0 (ap (λ z. z.arrived) hub2 ∙ done2.arrived)

  abbrev l6 : Library
  l6 = with_hub (advanced (fed t R l2.hub)) l5

  told6 : joined t p i l ≡ l6
  told6 =
      ap (λ z. run_steps (to_hub t 2 1) (heard t z)) (opens-line l t p i n)
      ∙ (ap (run_steps (ClientSends t ∷ HubReceives t 1 ∷ HubAdvances ∷ [])) at3
      ∙ (ap (run_steps (HubReceives t 1 ∷ HubAdvances ∷ [])) at4
      ∙ (ap (run_steps (HubAdvances ∷ [])) at5
      ∙ advances-hub l5)))

  joins : Joins b t (partition_number (opened t p k) t) (taking b (record { tab = t; partition = partition_number (opened t p k) t; inner = empty_report i g }))
  joins = newcomer-joins b t (partition_number (opened t p k) t) i stranger

  supervised6 : l6.hub.supervised ≡ record { kernel = opened t p k; broker = Some joins.broker }
  supervised6 =
      ap (λ z. (advanced (fed t R z)).supervised) hub2
      ∙ ((hub-handles h2 t R is_up done2).0
      ∙ (frame-taken t (empty_report i g) h2.supervised b joins.broker joins.outs (unrefused (opened t p k) t (living_opened _ living) living) up joins.does).0)

  line6 : l6.lines t ≡ x5
  line6 = at_line t x5 (with_hub (fed t R l2.hub) l4)

  runs6 : runs l6 t ≡ true
  runs6 = ap (λ z. is_living z.kernel t && not (is_taken l2 t)) supervised6 ∙ (ap (λ z. is_living z.supervised.kernel t && not (is_taken l2 t)) (sym hub2) ∙ runs2)

  ready : IsReady l6 t
  ready = record {
    runs = runs6;
    quiet = record {
      report = ap (λ z. z.client.report) line6;
      due = ap (λ z. z.client.due) line6;
      unsent = ap (λ z. z.client.unsent) line6;
      up = ap (λ z. z.up) line6;
    };
    broker = joins.broker;
    joined = record {
      up = ap (λ z. z.broker) supervised6;
      joined = ap is_joined joins.seat;
      taken = ap next_in joins.seat ∙ (ap length (sym (first-issued t i g)) ∙ ap (λ z. length z.client.locks.issued) (sym line6));
    };
    room = subst (λ z. live (manager_of joins.broker (partition_number z.kernel t)) t < limit_of joins.broker t) (sym supervised6)
        (subst (λ o. live (manager_of joins.broker (partition_number (opened t p k) t)) t < limit_in o) (sym joins.seat) joins.few);
  }

  pub new-locks : (client_of (joined t p i l) t).locks ≡ first t i g
  new-locks = ap (λ z. (client_of z t).locks) told6 ∙ ap (λ z. z.client.locks) line6

  pub becomes-ready : IsReady (joined t p i l) t
  becomes-ready = subst (λ z. IsReady z t) (sym told6) ready

pub new-tabs_join : NewTabsJoin
new-tabs_join steps t p i b n up idle = becomes-ready (run_steps steps new_library) (run (events steps) empty_world) (run-sim steps) t p i b (reached p (events steps)) n up idle
