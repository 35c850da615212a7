-- The hub handles a frame of a tab.
use Rattle.std.proofs.Common.{◌≡◌, ◌≢◌, ◌⊎◌, inl, inr, ⊎_elim, ℕ, ◌<◌, ◌≤◌, Bool, true, false, cond, not, ◌&&◌, ◌||◌, List, [], ◌∷◌, ◌++◌, length, map, Option, Some, None, is_some, refl, sym, ap, ◌∙◌, subst, arith}
use Rattle.std.specs.Prelude.{⊤}
use Rattle.std.specs.Prelude.{◌==◌, nat_lt}
use Rattle.std.specs.List.{list_any}
use Rattle.std.proofs.lemmas.Bool.{cases_Bool, and_from, not-false, ltb-false, eq-eqb, not-true}
use Rattle.wl_draft.specs.Locks.{live}
use Rattle.wl_draft.specs.Membership.{In, Here, Later as Behind}
use Rattle.wl_draft.proofs.Membership.{apart, either, by_test, In-nil, In-one, In-append_cases, In-map_cases, In-filter_cases}
use Rattle.wl_grammar.specs.declared.frame.Command.{Command}
use Rattle.wl_grammar.specs.declared.frame.Answer.{Answer}
use Rattle.wl_grammar.specs.declared.frame.Addressed.{Addressed}
use Rattle.wl_grammar.specs.declared.frame.Stamped.{Stamped}
use Rattle.wl_grammar.specs.declared.frame.Post.{Post}
use Rattle.wl_grammar.specs.declared.frame.Upward.{Upward}
use Rattle.wl_grammar.specs.declared.frame.Upward.TheVariants as up
use Rattle.wl_grammar.specs.declared.frame.Downward.TheVariants as down
use Rattle.wl_grammar.specs.declared.frame.Frame.{Frame}
use Rattle.wl_grammar.specs.declared.frame.Frame.TheVariants as frame
use Rattle.wl_broker.specs.declared.dropped.Dropped.TheVariants.{OldGeneration, LaterGeneration, NotJoined, Recovering, OutOfTurn, DeadTab, Misplaced}
use Rattle.wl_broker.specs.Broker.{BrokerState, Taking, Drops, Does, seat_of, is_joined, is_dead as is_named_dead, next_of, is_active, is_misplaced, later_answer, take_command, taking}
use Rattle.wl_limits.specs.declared.tabs.TheConstants.{LAST_NUMBER}
use Rattle.wl_agent.specs.Tab.{TabState}
use Rattle.wl_kernel.specs.Kernel.{KernelState, is_opened, is_living, partition_number, OpenedTab, living_of}
use Rattle.wl_kernel.specs.Kernel.{tab_of as tab_of_kernel}
use Rattle.wl_kernel.specs.Routes.{frame_of, is_from_tab, route_up_refusal, tab_refusal, routed_up, hearers, heard_of, hearers_beside}
use Rattle.wl_kernel.specs.declared.fault.RouteFault.TheVariants.{NoTab, DeadTab as DeadLink, WrongKind}
use Rattle.wl_supervised_broker.specs.Changes.{Change, taking_change, message_change}
use Rattle.wl_supervised_broker.specs.SupervisedStates.{SupervisedState, is_active_for, changed, frames_of}
use Rattle.wl_kernel.specs.declared.routes.Routed.TheVariants.{Tabs}
use Rattle.wl_world_messages.specs.declared.effect.Effect.{Effect}
use Rattle.wl_world_messages.specs.declared.effect.Effect.TheVariants as said
use Rattle.wl_world_messages.specs.declared.effect.Reason.TheVariants as reason
use Rattle.wl_supervised_broker.specs.Supervising.{message_effect}
use Rattle.wl_hub.specs.Early.{verdict_of, noted, greeted_next}
use Rattle.wl_hub.specs.Hub.{HubState, stepped, routed_step, with_verdict, after_first, greeted, postponing, after_greeting, after_told, advanced}
use Rattle.wl_hub.specs.Hub.{from_broker as hub_sends}
use Rattle.wl_world_messages.specs.declared.message.Message.{Message}
use Rattle.wl_world_messages.specs.declared.message.Message.TheVariants.{Up}
use Rattle.wl_world_messages.specs.Messages.{is_sent}
use Rattle.wl_world_messages.proofs.Same.{sent_all-adds, is_sent-In}
use Rattle.wl_world_model.specs.declared.event.Event.TheVariants as event
use Rattle.wl_world_model.specs.declared.event.Forged.{Forged}
use Rattle.wl_world_model.specs.declared.event.Forged.TheVariants as forged
use Rattle.wl_world_model.specs.World.{WorldState, tab_of, lives, is_corrupt, unchanged, if_allowed, supervised, arrives, forges, step_result, after_event, run}
use Rattle.wl_world_model.specs.Sends.{stamped, forgery}
use Rattle.wl_world_model.specs.Holdings.{IsHonest}
use Rattle.wl_world_model.proofs.AtBroker.{with_broker}
use Rattle.wl_world_model.proofs.exclusion.Invariant.{Sound, generation, broker_of}
use Rattle.wl_world_model.proofs.exclusion.ActsWithinAGeneration.{after}
use Rattle.wl_library_model.specs.Library.{Library, with_hub, is_taken}
use Rattle.wl_library_model.specs.Events.{forging, upward_events, frame_events, first_events, greeting_events, telling_events, advance_events}
use Rattle.wl_library_model.specs.Simulation.{IsRepeat, IsRepeated, ComesDown, IsOnItsWayUp, IsHubOf}
use Rattle.wl_library_model.proofs.SentAgain.{In-is_sent}
use Rattle.wl_library_model.proofs.Later.{SeatsFit}
use Rattle.wl_library_model.proofs.Happens.{Good, run-later}
use Rattle.wl_library_model.proofs.Carried.{Sim, down-later, up-later}
use Rattle.wl_library_model.proofs.Hubs.{Still, Keeps, keeps-allowed, still-event, hub-moves, pair-first, changing, change-sim, supervised-same, still-same, postpone-sim, greet-sim, greeted-in, tell-sim}

-- A repeated command

-- The broker drops the message, or only answers it.
abbrev Harmless : TabState → ℕ → BrokerState → Taking → Type 0
Harmless a t b (Drops reason) = ⊤
Harmless a t b (Does c outs) = (c ≡ b) × ((o : Addressed) → In o outs → (o.tab ≡ t) × (x : Answer) × (o.inner ≡ down.Answer x) × IsRepeated a x)

module _ (w : WorldState) (b : BrokerState) (s : Sound (with_broker b w)) (seats : SeatsFit w b) (t p : ℕ) (c : Command) (honest : IsHonest w t)
    (low : (tab_of w t).report.base ≤ length (tab_of w t).issued) (r : IsRepeat (tab_of w t) c) where
  abbrev Fine : Taking → Type 0
  Fine o = Harmless (tab_of w t) t b o

  command-harmless : c.generation ≡ b.generation → Fine (take_command b t p c.number c.operation)
  unfolding take_command
  command-harmless now =
      either Fine (not (is_joined (seat_of b t))) (Drops NotJoined) _ (λ _. tt)
      (λ j. let joined = not-false _ j in
      let e : (tab_of w t).entered ≡ generation w = (s.seats t).joined honest joined in
      let g : b.generation ≡ generation w = s.current in
      let n : c.generation ≡ b.generation = now in
      let settled = r.settled (omega arith) in
      let lt : c.number < (tab_of w t).report.base = settled.reported in
      let le : (tab_of w t).report.base ≤ next_of b t = seats t honest joined in
      let few : (tab_of w t).report.base ≤ length (tab_of w t).issued = low in
      either Fine (not (is_active b p)) (Drops Recovering) _ (λ _. tt)
      (λ _. either Fine (nat_lt (next_of b t) c.number || c.number == LAST_NUMBER) (Drops OutOfTurn) _ (λ _. tt)
      (λ _. either Fine (nat_lt c.number (next_of b t)) (Does b (later_answer b t p c.number c.operation ∷ [])) _
      (λ _. (refl, λ o i. let same = In-one i in (ap (λ z. z.tab) same, _, ap (λ z. z.inner) same, record { past = omega (arith, r.past); issued = λ _. omega arith; over = λ _. settled.over })))
      (λ m. absurd (let no : next_of b t ≤ c.number = ltb-false _ _ m in omega arith)))))

  repeat-harmless : Fine (taking b (record { tab = t; partition = p; inner = up.Command c }))
  unfolding taking
  repeat-harmless =
      either Fine (nat_lt c.generation b.generation) (Drops OldGeneration) _ (λ _. tt)
      (λ m. either Fine (nat_lt b.generation c.generation) (Drops LaterGeneration) _ (λ _. tt)
      (λ n. either Fine (is_named_dead (seat_of b t)) (Drops DeadTab) _ (λ _. tt)
      (λ _. either Fine (is_misplaced b t p) (Drops Misplaced) _ (λ _. tt)
      (λ _. let x : b.generation ≤ c.generation = ltb-false _ _ m in
      let y : c.generation ≤ b.generation = ltb-false _ _ n in
      command-harmless (omega arith)))))

-- The change that the hub's broker makes at such a message.
abbrev IsIdle : WorldState → ℕ → Change → SupervisedState → Type 0
IsIdle w t c s = (changed c s ≡ s) × ((o : Addressed) → In o (frames_of c) → (o.tab ≡ t) × (x : Answer) × (o.inner ≡ down.Answer x) × IsRepeated (tab_of w t) x)

idle-taking : (w : WorldState) (t : ℕ) (k : KernelState) (b : BrokerState) (o : Taking) → Harmless (tab_of w t) t b o → IsIdle w t (taking_change k o) (record { kernel = k; broker = Some b })
idle-taking w t k b (Drops reason) h = (refl, λ o i. absurd (In-nil i))
idle-taking w t k b (Does c outs) h = (ap (λ z. record { kernel = k; broker = Some z }) h.0, h.1)

idle-change : (w : WorldState) (v : Option BrokerState) → w.broker ≡ v → Good w → (t p : ℕ) (c : Command) → IsHonest w t → IsRepeat (tab_of w t) c
    → IsIdle w t (message_change (record { tab = t; partition = p; inner = up.Command c }) w.kernel v) (record { kernel = w.kernel; broker = v })
idle-change w None e g t p c h r = (refl, λ o i. absurd (In-nil i))
idle-change w (Some b) e g t p c h r =
    let s = subst (λ z. Sound (record w { broker = z })) e g.sound in
    let f = subst (λ z. SeatsFit w (broker_of (record w { broker = z }))) e g.fit.seats in
    idle-taking w t w.kernel b _ (repeat-harmless w b s f t p c h (g.fit.low t) r)

-- Early tabs

noted-in : (a : Bool) (e : Effect) (t : ℕ) (ts : List ℕ) (n u : ℕ) → In u (noted (verdict_of a e) t ts n).0 → In u ts ⊎ (u ≡ t)
noted-in a (said.Dropped (reason.AtBroker Recovering)) t ts n u =
    either (λ zs. In u zs → In u ts ⊎ (u ≡ t)) (list_any (λ x. x == t) ts) ts (ts ++ t ∷ [])
    (λ _ i. inl i)
    (λ _ i. ⊎_elim (λ a. inl a) (λ a. inr (In-one a)) (In-append_cases ts (t ∷ []) i))
noted-in true (said.Joined m) t ts n u = λ i. inl i
noted-in false (said.Joined m) t ts n u = λ i. inl i
noted-in a e t ts n u = λ i. inl i

-- The early tabs after a frame of tab `t`.
routed-early : (t : ℕ) (f : Frame) (h : HubState) (u : ℕ) → let x = routed_step (routed_up t f h.supervised.kernel) h.supervised in In u (with_verdict x.verdict t (stepped x h)).early → In u h.early ⊎ (u ≡ t)
routed-early t (frame.Command c) h u = noted-in _ (message_effect (record { tab = t; partition = partition_number h.supervised.kernel t; inner = up.Command c }) h.supervised.broker) t h.early h.greetings u
routed-early t (frame.Report r) h u = noted-in _ (message_effect (record { tab = t; partition = partition_number h.supervised.kernel t; inner = up.Report r }) h.supervised.broker) t h.early h.greetings u
routed-early t (frame.ReportPart r) h u = noted-in _ (message_effect (record { tab = t; partition = partition_number h.supervised.kernel t; inner = up.ReportPart r }) h.supervised.broker) t h.early h.greetings u
routed-early t (frame.Post p) h u = λ i. inl i
routed-early t f h u = λ i. inl i

-- A hub that differs only in its early tabs, by one opened tab.
early-hub : (w : WorldState) (t : ℕ) (h g : HubState) → g.supervised ≡ h.supervised → g.outputs ≡ h.outputs → g.sender ≡ h.sender → g.arrived ≡ h.arrived → is_opened w.kernel t ≡ true → ((u : ℕ) → In u g.early → In u h.early ⊎ (u ≡ t)) → IsHubOf w h → IsHubOf w g
early-hub w t h g s o n a opened e i = record {
  kernel = ap (λ z. z.kernel) s ∙ i.kernel;
  broker = ap (λ z. z.broker) s ∙ i.broker;
  outputs = λ m f j. i.outputs m f (subst (In (m, f)) o j);
  arrived = λ y f j. subst (λ z. IsOnItsWayUp w z f) (sym n) (i.arrived (subst (IsHonest w) n y) f (subst (In f) a j));
  early = λ u j. ⊎_elim (λ k. i.early u k) (λ q. subst (λ z. is_opened w.kernel z ≡ true) (sym q) opened) (e u j);
}

-- Only some of the arrived frames are left.
fewer-hub : (w : WorldState) (h : HubState) (fs : List Frame) → ((f : Frame) → In f fs → In f h.arrived) → IsHubOf w h → IsHubOf w (record h { arrived = fs })
fewer-hub w h fs sub i = record { kernel = i.kernel; broker = i.broker; outputs = i.outputs; arrived = λ y f j. i.arrived y f (sub f j); early = i.early }

-- A frame that has no effect at the broker.
idle-hub : (w : WorldState) (h : HubState) (c : Change) (t : ℕ) → is_opened w.kernel t ≡ true → IsHubOf w h → IsIdle w t c h.supervised → IsHubOf w (changing c h)
idle-hub w h c t o i idle = record {
  kernel = ap (λ z. z.kernel) idle.0 ∙ i.kernel;
  broker = ap (λ z. z.broker) idle.0 ∙ i.broker;
  outputs = λ n f j. ⊎_elim
      (λ a. i.outputs n f a)
      (λ a. let m = In-map_cases (λ (x : Addressed). (x.tab, frame_of x.inner)) (frames_of c) a in
      let e = pair-first n m.0.tab f (frame_of m.0.inner) m.2 in
      let r = idle.1 m.0 m.1 in
      inr (subst (λ z. ComesDown w z f) (sym (e.0 ∙ r.0)) (subst (ComesDown w t) (sym (e.1 ∙ ap frame_of r.2)) (inr (o, r.3)))))
      (In-append_cases h.outputs (hub_sends (frames_of c)) j);
  arrived = i.arrived;
  early = i.early;
}

-- A message of a tab arrives

deliver-is : (w : WorldState) (x : Stamped) → is_sent (Up x) w.bag ≡ true → step_result w (event.Deliver (Up x)) ≡ supervised w (message_change x w.kernel w.broker)
unfolding step_result
deliver-is w x y = ap (λ b. if_allowed b w (arrives w (Up x))) y

undelivered : (w : WorldState) (m : Message) → is_sent m w.bag ≡ false → after_event w (event.Deliver m) ≡ w
unfolding step_result after_event
undelivered w m n = ap (λ b. after w (if_allowed b w (arrives w m))) n

-- The sender's message at the hub's broker.
abbrev taking_in : ℕ → Upward → SupervisedState → Change
taking_in t u z = message_change (record { tab = t; partition = partition_number z.kernel t; inner = u }) z.kernel z.broker

-- A message in the bag is delivered to the broker.
deliver-sim : (l : Library) (w : WorldState) (t : ℕ) (u : Upward) (h : HubState) → Sim l w → IsHubOf w h → In (stamped w.kernel t u) w.bag → Sim (with_hub (changing (taking_in t u h.supervised) h) l) (after_event w (event.Deliver (stamped h.supervised.kernel t u)))
deliver-sim l w t u h s i j =
    subst (λ z. Sim (with_hub (changing (taking_in t u z) h) l) (after_event w (event.Deliver (stamped z.kernel t u)))) (sym (supervised-same w h i))
    (change-sim l w (event.Deliver (stamped w.kernel t u)) (taking_in t u (record { kernel = w.kernel; broker = w.broker })) h s i (deliver-is w (record { tab = t; partition = partition_number w.kernel t; inner = u }) (In-is_sent j)))

-- An honest tab's frame is in the bag, or is a repeat.
honest-sim : (l : Library) (w : WorldState) (t : ℕ) (u : Upward) (h : HubState) → Sim l w → IsHubOf w h → is_opened w.kernel t ≡ true → IsHonest w t
    → In (stamped w.kernel t u) w.bag ⊎ ((c : Command) × (u ≡ up.Command c) × IsRepeat (tab_of w t) c)
    → Sim (with_hub (changing (taking_in t u h.supervised) h) l) (after_event w (event.Deliver (stamped h.supervised.kernel t u)))
honest-sim l w t u h s i o y (inl j) = deliver-sim l w t u h s i j
honest-sim l w t u h s i o y (inr r) = ⊎_elim
    (λ b. deliver-sim l w t u h s i (subst (λ z. In (stamped z t u) w.bag) i.kernel (is_sent-In (stamped h.supervised.kernel t u) w.bag b)))
    (λ b. subst (λ v. Sim (with_hub (changing (taking_in t u h.supervised) h) l) v) (sym (undelivered w (stamped h.supervised.kernel t u) b))
    (hub-moves l w w (changing (taking_in t u h.supervised) h) s (still-same w s.good)
    (idle-hub w h (taking_in t u h.supervised) t o i
    (subst (λ z. IsIdle w t (taking_in t u z) z) (sym (supervised-same w h i))
    (subst (λ x. IsIdle w t (taking_in t x (record { kernel = w.kernel; broker = w.broker })) (record { kernel = w.kernel; broker = w.broker })) (sym r.1)
    (idle-change w w.broker refl s.good t (partition_number w.kernel t) r.0 y r.2))))))
    (cases_Bool (is_sent (stamped h.supervised.kernel t u) w.bag))

-- A tab that was taken over

forge-keeps : (w : WorldState) (t : ℕ) (x : Forged) → Keeps w (forges w t x)
forge-keeps w t x = keeps-allowed w (is_corrupt w t && lives w t) _ (refl, refl)

forge-still : (w : WorldState) (t : ℕ) (x : Forged) → Good w → Still w (after_event w (event.Forge t x))
unfolding step_result
forge-still w t x g = still-event w (event.Forge t x) g (forge-keeps w t x)

forge-same : (w : WorldState) (t : ℕ) (x : Forged) → ((after_event w (event.Forge t x)).kernel ≡ w.kernel) × ((after_event w (event.Forge t x)).broker ≡ w.broker)
unfolding step_result after_event
forge-same w t x = either (λ d. ((after w d).kernel ≡ w.kernel) × ((after w d).broker ≡ w.broker)) (is_corrupt w t && lives w t) _ (unchanged w) (λ _. (refl, refl)) (λ _. (refl, refl))

forge-sent : (w : WorldState) (t : ℕ) (u : Upward) → is_corrupt w t ≡ true → lives w t ≡ true → In (stamped w.kernel t u) (after_event w (event.Forge t (forged.Upward u))).bag
unfolding step_result after_event
forge-sent w t u c l =
    either (λ d. In (stamped w.kernel t u) (after w d).bag) (is_corrupt w t && lives w t) (record { world = w; sends = forgery w.kernel t (forged.Upward u) }) (unchanged w)
    (λ _. sent_all-adds (stamped w.kernel t u ∷ []) w.bag Here)
    (λ n. apart (and_from _ _ c l) n)

pub forge-hub : (w : WorldState) (t : ℕ) (x : Forged) (h : HubState) → Good w → IsHubOf w h → IsHubOf (after_event w (event.Forge t x)) h
forge-hub w t x h g i =
    let v = after_event w (event.Forge t x) in
    let y = forge-still w t x g in
    let k = forge-same w t x in
    record {
      kernel = i.kernel ∙ sym k.0;
      broker = i.broker ∙ sym k.1;
      outputs = λ n f j. down-later w v y.later n f (i.outputs n f j);
      arrived = λ z f j. up-later w v g y.later h.sender f (i.arrived (y.later.honest h.sender z) f j);
      early = λ n j. (y.later.opened n (i.early n j)).0;
    }

forge-sim : (l : Library) (w : WorldState) (t : ℕ) (x : Forged) → Sim l w → Sim l (after_event w (event.Forge t x))
forge-sim l w t x s = hub-moves l w (after_event w (event.Forge t x)) l.hub s (forge-still w t x s.good) (forge-hub w t x l.hub s.good s.hub)

-- A command, a report or a part of a report

upward-sim : (l : Library) (w : WorldState) (t : ℕ) (u : Upward) (h : HubState) → Sim l w → IsHubOf w h → is_opened w.kernel t ≡ true → lives w t ≡ true
    → (IsHonest w t → In (stamped w.kernel t u) w.bag ⊎ ((c : Command) × (u ≡ up.Command c) × IsRepeat (tab_of w t) c))
    → Sim (with_hub (changing (taking_in t u h.supervised) h) l) (run (upward_events (is_taken l t) h.supervised.kernel t u) w)
upward-sim l w t u h s i o live from =
    by_test (λ b. Sim (with_hub (changing (taking_in t u h.supervised) h) l) (run (upward_events b h.supervised.kernel t u) w)) (is_taken l t)
    (λ y. let v = after_event w (event.Forge t (forged.Upward u)) in
    let k = forge-same w t (forged.Upward u) in
    deliver-sim l v t u h (forge-sim l w t (forged.Upward u) s) (forge-hub w t (forged.Upward u) h s.good i)
    (subst (λ z. In (stamped z t u) v.bag) (sym k.0) (forge-sent w t u (subst (λ zs. list_any (λ n. n == t) zs ≡ true) s.taken y) live)))
    (λ n. let honest = subst (λ zs. list_any (λ n. n == t) zs ≡ false) s.taken n in honest-sim l w t u h s i o honest (from honest))

-- Frames

opened-if : (k : KernelState) (t : ℕ) → is_some (tab_refusal k t) ≡ false → (is_opened k t ≡ true) × (is_living k t ≡ true)
opened-if k t =
    either (λ z. is_some z ≡ false → (is_opened k t ≡ true) × (is_living k t ≡ true)) (is_opened k t) (cond (is_living k t) None (Some DeadLink)) (Some NoTab)
    (λ o. either (λ z. is_some z ≡ false → (is_opened k t ≡ true) × (is_living k t ≡ true)) (is_living k t) None (Some DeadLink) (λ y _. (o, y)) (λ _ e. apart refl e))
    (λ _ e. apart refl e)

-- A tab does not hear its own posts from the hub.
hearers-others : (k : KernelState) (t n : ℕ) → In n (hearers t k) → t ≢ n
hearers-others k t n = go (tab_of_kernel k t)
  where
    go : (o : Option OpenedTab) → In n (hearers_beside k t o) → t ≢ n
    go None i = absurd (In-nil i)
    go (Some o) i = λ e. apart (eq-eqb n t (sym e)) (not-true _ (In-filter_cases (λ m. not (m == t)) (living_of k o.partition) i).1)

-- The hub sends a post to other tabs.
posted-hub : (w : WorldState) (h : HubState) (t : ℕ) (p : Post) (ns : List ℕ) → ((n : ℕ) → In n ns → t ≢ n) → IsHubOf w h → IsHubOf w (record h { outputs = h.outputs ++ map (λ n. (n, heard_of t p)) ns })
posted-hub w h t p ns others i = record {
  kernel = i.kernel;
  broker = i.broker;
  outputs = λ n f j. ⊎_elim
      (λ a. i.outputs n f a)
      (λ a. let m = In-map_cases (λ (x : ℕ). (x, heard_of t p)) ns a in
      let e = pair-first n m.0 f (heard_of t p) m.2 in
      inr (subst (ComesDown w n) (sym e.1) (λ same. others m.0 m.1 (same ∙ e.0))))
      (In-append_cases h.outputs (map (λ n. (n, heard_of t p)) ns) j);
  arrived = i.arrived;
  early = i.early;
}

-- The hub handles a frame of the living tab whose frames have arrived.
routed-sim : (l : Library) (w : WorldState) (f : Frame) (h : HubState) → Sim l w → IsHubOf w h → is_some (route_up_refusal h.sender f h.supervised.kernel) ≡ false → (IsHonest w h.sender → IsOnItsWayUp w h.sender f)
    → Sim (with_hub (stepped (routed_step (routed_up h.sender f h.supervised.kernel) h.supervised) h) l) (run (frame_events (is_taken l h.sender) h.supervised.kernel h.sender f) w)
routed-sim l w (frame.Command c) h s i n from =
    let o = subst (λ k. (is_opened k h.sender ≡ true) × (is_living k h.sender ≡ true)) i.kernel (opened-if h.supervised.kernel h.sender n) in
    upward-sim l w h.sender (up.Command c) h s i o.0 o.1 (λ y. ⊎_elim (λ j. inl j) (λ r. inr (c, refl, r)) (from y).1)
routed-sim l w (frame.Report r) h s i n from =
    let o = subst (λ k. (is_opened k h.sender ≡ true) × (is_living k h.sender ≡ true)) i.kernel (opened-if h.supervised.kernel h.sender n) in
    upward-sim l w h.sender (up.Report r) h s i o.0 o.1 (λ y. inl (from y).1)
routed-sim l w (frame.ReportPart r) h s i n from =
    let o = subst (λ k. (is_opened k h.sender ≡ true) × (is_living k h.sender ≡ true)) i.kernel (opened-if h.supervised.kernel h.sender n) in
    upward-sim l w h.sender (up.ReportPart r) h s i o.0 o.1 (λ y. inl (from y).1)
routed-sim l w (frame.Post p) h s i n from =
    by_test (λ b. Sim (with_hub (record h { outputs = h.outputs ++ map (λ m. (m, heard_of h.sender p)) (hearers h.sender h.supervised.kernel) }) l) (run (forging b h.sender (forged.Post p)) w)) (is_taken l h.sender)
    (λ _. hub-moves l w (after_event w (event.Forge h.sender (forged.Post p))) _ s (forge-still w h.sender (forged.Post p) s.good)
    (posted-hub (after_event w (event.Forge h.sender (forged.Post p))) h h.sender p (hearers h.sender h.supervised.kernel) (hearers-others h.supervised.kernel h.sender) (forge-hub w h.sender (forged.Post p) h s.good i)))
    (λ _. hub-moves l w w _ s (still-same w s.good) (posted-hub w h h.sender p (hearers h.sender h.supervised.kernel) (hearers-others h.supervised.kernel h.sender) i))
routed-sim l w f h s i n from = apart refl n

-- A frame that the kernel refuses is dropped.
refused-hub : (w : WorldState) (h : HubState) → IsHubOf w h → IsHubOf w (stepped (routed_step (Tabs []) h.supervised) h)
refused-hub w h i = record {
  kernel = i.kernel;
  broker = i.broker;
  outputs = λ t f j. ⊎_elim (λ a. i.outputs t f a) (λ a. absurd (In-nil a)) (In-append_cases h.outputs [] j);
  arrived = i.arrived;
  early = i.early;
}

routed-opened : (k : KernelState) (t : ℕ) (f : Frame) → is_some (route_up_refusal t f k) ≡ false → is_opened k t ≡ true
routed-opened k t f = either (λ z. is_some z ≡ false → is_opened k t ≡ true) (is_from_tab f) (tab_refusal k t) (Some WrongKind) (λ _ n. (opened-if k t n).0) (λ _ n. apart refl n)

-- The oldest arrived frame.
pub first-sim : (l : Library) (w : WorldState) (fs : List Frame) → Sim l w → l.hub.arrived ≡ fs → Sim (with_hub (after_first l.hub fs) l) (run (first_events l fs) w)
first-sim l w [] s e = s
first-sim l w (f ∷ fs) s e =
    let h = record l.hub { arrived = fs } in
    let t = l.hub.sender in
    let k = l.hub.supervised.kernel in
    let es = frame_events (is_taken l t) k t f in
    let i = fewer-hub w l.hub fs (λ g j. subst (In g) (sym e) (Behind j)) s.hub in
    let from : IsHonest w t → IsOnItsWayUp w t f = (λ y. s.hub.arrived y f (subst (In f) (sym e) Here)) in
    let routed = routed_step (routed_up t f k) l.hub.supervised in
    let refused = routed_step (Tabs []) l.hub.supervised in
    by_test (λ b. Sim (with_hub (with_verdict (cond b refused routed).verdict t (stepped (cond b refused routed) h)) l) (run (cond b [] es) w)) (is_some (route_up_refusal t f k))
    (λ _. hub-moves l w w (stepped refused h) s (still-same w s.good) (refused-hub w h i))
    (λ n. let y = routed-sim l w f h s i n from in record {
      good = y.good;
      hub = early-hub (run es w) t (stepped routed h) (with_verdict routed.verdict t (stepped routed h)) refl refl refl refl
          (((run-later es w s.good).opened t (subst (λ z. is_opened z t ≡ true) s.hub.kernel (routed-opened k t f n))).0)
          (routed-early t f h) y.hub;
      lines = y.lines;
      taken = y.taken;
      known = y.known;
    })

-- The hub advances

greeting-sim : (l : Library) (w : WorldState) (o : Option ℕ) → Sim l w → is_some w.broker ≡ true → ((t : ℕ) → o ≡ Some t → is_opened w.kernel t ≡ true) → Sim (with_hub (after_greeting l.hub o) l) (run (greeting_events l o) w)
greeting-sim l w None s u f = first-sim l w l.hub.arrived s refl
greeting-sim l w (Some t) s u f =
    by_test (λ b. Sim (with_hub (cond b (greeted t l.hub) (postponing l.hub)) l) (run (cond b (event.Hello t ∷ []) []) w)) (is_active_for t l.hub.supervised)
    (λ _. greet-sim l w t s u (f t refl))
    (λ _. postpone-sim l w s)

telling-sim : (l : Library) (w : WorldState) (ts : List ℕ) → Sim l w → is_some w.broker ≡ true → Sim (with_hub (after_told l.hub ts) l) (run (telling_events l ts) w)
telling-sim l w [] s u = greeting-sim l w (greeted_next l.hub.greetings l.hub.early) s u (λ t e. s.hub.early t (greeted-in l.hub.greetings l.hub.early t e))
telling-sim l w (t ∷ ts) s u = tell-sim l w t ts s

pub advance-sim : (l : Library) (w : WorldState) → Sim l w → Sim (with_hub (advanced l.hub) l) (run (advance_events l) w)
advance-sim l w s =
    by_test (λ b. Sim (with_hub (cond b (after_told l.hub l.hub.untold) (after_first l.hub l.hub.arrived)) l) (run (cond b (telling_events l l.hub.untold) (first_events l l.hub.arrived)) w)) (is_some l.hub.supervised.broker)
    (λ u. telling-sim l w l.hub.untold s (subst (λ z. is_some z ≡ true) s.hub.broker u))
    (λ _. first-sim l w l.hub.arrived s refl)
