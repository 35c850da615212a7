-- A step does to a tab's channels in the world what it does to the channels of its client, if each post that arrives was sent.
use Rattle.std.proofs.Common.{◌≡◌, ◌≢◌, ⊎_elim, ℕ, Bool, true, false, cond, not, ◌&&◌, ◌||◌, List, [], ◌∷◌, ◌++◌, Option, Some, None, is_some, Result, Ok, Err, refl, sym, ap, ◌∙◌, subst}
use Rattle.std.specs.Prelude.{⊤}
use Rattle.std.specs.Prelude.{◌==◌}
use Rattle.std.specs.List.{AllByRecursion}
use Rattle.std.proofs.lemmas.Bool.{cases_eq, and_parts, eq-eqb, ne_eqb}
use Rattle.wl_origin.specs.Order.{Pair}
use Rattle.wl_origin.specs.declared.fault.OriginFault.{OriginFault}
use Rattle.wl_draft.specs.Membership.{In, Here}
use Rattle.wl_draft.specs.declared.mode.Mode.{Mode}
use Rattle.wl_draft.proofs.Membership.{either, by_test}
use Rattle.wl_grammar.specs.declared.frame.Heard.{Heard}
use Rattle.wl_grammar.specs.declared.frame.Frame.{Frame}
use Rattle.wl_grammar.specs.declared.frame.Frame.TheVariants as frame
use Rattle.wl_broadcast.specs.Heard.{Call, after}
use Rattle.wl_broadcast.specs.Heard.{Opens as OpensOne, Posts as PostsOn, Reads as ReadsFrom, Closes as ClosesOne}
use Rattle.wl_kernel.specs.Kernel.{KernelState}
use Rattle.wl_kernel.specs.Routes.{route_up_refusal}
use Rattle.wl_client.specs.Client.{ClientState, is_hello_of}
use Rattle.wl_hub.specs.Early.{greeted_next}
use Rattle.wl_hub.specs.Hub.{page_refusal}
use Rattle.wl_world_messages.specs.declared.message.Message.TheVariants.{Across}
use Rattle.wl_world_model.specs.declared.event.Event.{Event}
use Rattle.wl_supervised_broker.specs.SupervisedStates.{is_active_for}
use Rattle.wl_world_model.specs.declared.event.Event.TheVariants as event
use Rattle.wl_world_model.specs.declared.event.Forged.{Forged}
use Rattle.wl_world_model.specs.World.{WorldState, channels_of, lives, run}
use Rattle.wl_world_model.specs.Holdings.{asking}
use Rattle.wl_library_model.specs.Library.{Library, Step, Opens, Closes, Restarts, Stops, HubReceives, HubAdvances, HubSends, Asks, Queries, Aborts, Releases, Resends, OpensChannel, Posts, Reads, ClosesChannel, TakesEvent, ClientReceives, ClientAdvances, ClientSends, TakesOver, Forges, client_of, is_taken, runs, hub_fed, hub_sends_from, is_due, step}
use Rattle.wl_library_model.specs.Library.{lives as lives_in}
use Rattle.wl_library_model.specs.Events.{opening_events, restart_events, forging, frame_events, first_events, greeting_events, telling_events, advance_events, call_events, delivery_events, handling_events, receiving_events, events_of}
use Rattle.wl_library_model.specs.Channels.{called_by, heard_by, handled_by, channel_calls_of}
use Rattle.wl_library_model.proofs.Carried.{Sim}
use Rattle.wl_library_model.proofs.SentAgain.{In-is_sent}
use Rattle.wl_library_model.proofs.TimelyHubs.{advanced-tabs, down-tabs, restarted-tabs}
use Rattle.wl_library_model.proofs.TimelyWorlds.{IsSilent, still-run, Calls, open-calls, post-calls, read-calls, close-calls, hear-here, hear-else}
use Rattle.wl_world_model.proofs.heard.ChannelSteps.{Owned}

-- Silent events

abbrev AreSilent : List Event → Type 0
AreSilent es = AllByRecursion IsSilent es

silent-choice : (b : Bool) (es fs : List Event) → AreSilent es → AreSilent fs → AreSilent (cond b es fs)
silent-choice b es fs x y = either AreSilent b es fs (λ _. x) (λ _. y)

silent-opening : (t : ℕ) (page : Result Pair OriginFault) (i : Bool) → AreSilent (opening_events t page i)
silent-opening t (Err f) i = tt
silent-opening t (Ok p) true = (tt, (tt, tt))
silent-opening t (Ok p) false = (tt, (tt, tt))

silent-forging : (b : Bool) (t : ℕ) (x : Forged) (es : List Event) → AreSilent es → AreSilent (forging b t x ++ es)
silent-forging true t x es s = (tt, s)
silent-forging false t x es s = s

silent-frame : (b : Bool) (k : KernelState) (t : ℕ) (f : Frame) → AreSilent (frame_events b k t f)
silent-frame true k t (frame.Command c) = (tt, (tt, tt))
silent-frame false k t (frame.Command c) = (tt, tt)
silent-frame true k t (frame.Report r) = (tt, (tt, tt))
silent-frame false k t (frame.Report r) = (tt, tt)
silent-frame true k t (frame.ReportPart r) = (tt, (tt, tt))
silent-frame false k t (frame.ReportPart r) = (tt, tt)
silent-frame true k t (frame.Post p) = (tt, tt)
silent-frame false k t (frame.Post p) = tt
silent-frame b k t f = tt

silent-first : (l : Library) (fs : List Frame) → AreSilent (first_events l fs)
silent-first l [] = tt
silent-first l (f ∷ fs) = silent-choice (is_some (route_up_refusal l.hub.sender f l.hub.supervised.kernel)) [] _ tt (silent-frame (is_taken l l.hub.sender) l.hub.supervised.kernel l.hub.sender f)

silent-greeting : (l : Library) (o : Option ℕ) → AreSilent (greeting_events l o)
silent-greeting l None = silent-first l l.hub.arrived
silent-greeting l (Some t) = silent-choice (is_active_for t l.hub.supervised) (event.Hello t ∷ []) [] (tt, tt) tt

silent-telling : (l : Library) (ts : List ℕ) → AreSilent (telling_events l ts)
silent-telling l [] = silent-greeting l (greeted_next l.hub.greetings l.hub.early)
silent-telling l (t ∷ ts) = (tt, tt)

silent-advance : (l : Library) → AreSilent (advance_events l)
silent-advance l = silent-choice (is_some l.hub.supervised.broker) (telling_events l l.hub.untold) (first_events l l.hub.arrived) (silent-telling l l.hub.untold) (silent-first l l.hub.arrived)

silent-asking : (t : ℕ) (mode : Mode) (b : Bool) (name : List ℕ) → IsSilent (asking t mode b name)
silent-asking t mode true name = tt
silent-asking t mode false name = tt

silent-call : (l : Library) (t : ℕ) (e : Event) → IsSilent e → AreSilent (call_events l t e)
silent-call l t e s = silent-choice (runs l t && (client_of l t).is_welcomed) (e ∷ []) [] (s, tt) tt

-- Calls

alive : (l : Library) (w : WorldState) (t : ℕ) → Sim l w → runs l t ≡ true → lives w t ≡ true
alive l w t s r = subst (λ k. lives (record w { kernel = k }) t ≡ true) s.hub.kernel (and_parts _ _ r).0

none-called : (b : Bool) (cs : List Call) → cond (b && false) cs [] ≡ []
none-called true cs = refl
none-called false cs = refl

call-channels : (l : Library) (w : WorldState) (u t : ℕ) (e : Event) (x : Call) → (runs l u ≡ true → Calls w u e x) → channels_of (run (call_events l u e) w) t ≡ after (called_by t u l x) (channels_of w t)
call-channels l w u t e x f =
    by_test (λ b. (runs l u && (client_of l u).is_welcomed) ≡ b → channels_of (run (cond b (e ∷ []) []) w) t ≡ after (cond (u == t && b) (x ∷ []) []) (channels_of w t)) (runs l u && (client_of l u).is_welcomed)
    (λ _ y. let c = f (and_parts _ _ y).0 in ⊎_elim
    (λ same. subst (λ n. channels_of (run (e ∷ []) w) n ≡ after (cond (u == n && true) (x ∷ []) []) (channels_of w n)) same (c.here ∙ ap (λ b. after (cond (b && true) (x ∷ []) []) (channels_of w u)) (sym (eq-eqb u u refl))))
    (λ d. c.elsewhere t (λ s. d (sym s)) ∙ ap (λ b. after (cond (b && true) (x ∷ []) []) (channels_of w t)) (sym (ne_eqb u t d)))
    (cases_eq u t))
    (λ _ _. ap (λ cs. after cs (channels_of w t)) (sym (none-called (u == t) (x ∷ []))))
    refl

-- Frames of the hub

-- Each post among these frames was sent to the tab.
abbrev AreSent : WorldState → ℕ → List Frame → Type 0
AreSent w t fs = (h : Heard) → In (frame.Heard h) fs → In (Across t h) w.bag

delivery-channels : (w : WorldState) (t : ℕ) (f : Frame) (fs : List Frame) (n : ℕ) → Owned w → lives w t ≡ true → AreSent w t (f ∷ fs) → channels_of (run (cond (is_hello_of n f) [] (delivery_events t f)) w) t ≡ after (heard_by f) (channels_of w t)
delivery-channels w t (frame.Heard h) fs n own live sent = hear-here w t h live (In-is_sent (sent h Here))
delivery-channels w t (frame.Hello h) fs n own live sent = still-run (cond (h.generation == n) [] (delivery_events t (frame.Hello h))) w own (silent-choice (h.generation == n) [] (delivery_events t (frame.Hello h)) tt (tt, (tt, (tt, tt)))) t
delivery-channels w t (frame.Answer x) fs n own live sent = still-run (delivery_events t (frame.Answer x)) w own (tt, tt) t
delivery-channels w t (frame.Snapshot x) fs n own live sent = still-run (delivery_events t (frame.Snapshot x)) w own (tt, tt) t
delivery-channels w t f fs n own live sent = refl

handling-channels : (w : WorldState) (t : ℕ) (c : ClientState) (fs : List Frame) → Owned w → lives w t ≡ true → AreSent w t fs → channels_of (run (handling_events t c fs) w) t ≡ after (handled_by c fs) (channels_of w t)
handling-channels w t c [] own live sent = refl
handling-channels w t c (f ∷ fs) own live sent =
    by_test (λ b. channels_of (run (cond (not b || is_hello_of c.locks.entered f) [] (delivery_events t f)) w) t ≡ after (cond b (heard_by f) []) (channels_of w t)) c.is_welcomed
    (λ _. delivery-channels w t f fs c.locks.entered own live sent)
    (λ _. refl)

other-delivery : (w : WorldState) (u t : ℕ) (f : Frame) (n : ℕ) → Owned w → t ≢ u → channels_of (run (cond (is_hello_of n f) [] (delivery_events u f)) w) t ≡ channels_of w t
other-delivery w u t (frame.Heard h) n own d = hear-else w u h t d
other-delivery w u t (frame.Hello h) n own d = still-run (cond (h.generation == n) [] (delivery_events u (frame.Hello h))) w own (silent-choice (h.generation == n) [] (delivery_events u (frame.Hello h)) tt (tt, (tt, (tt, tt)))) t
other-delivery w u t (frame.Answer x) n own d = still-run (delivery_events u (frame.Answer x)) w own (tt, tt) t
other-delivery w u t (frame.Snapshot x) n own d = still-run (delivery_events u (frame.Snapshot x)) w own (tt, tt) t
other-delivery w u t f n own d = refl

other-handling : (w : WorldState) (u t : ℕ) (c : ClientState) (fs : List Frame) → Owned w → t ≢ u → channels_of (run (handling_events u c fs) w) t ≡ channels_of w t
other-handling w u t c [] own d = refl
other-handling w u t c (f ∷ fs) own d =
    by_test (λ b. channels_of (run (cond (not b || is_hello_of c.locks.entered f) [] (delivery_events u f)) w) t ≡ channels_of w t) c.is_welcomed
    (λ _. other-delivery w u t f c.locks.entered own d)
    (λ _. refl)

advances-channels : (l : Library) (w : WorldState) (u t : ℕ) → Sim l w → Owned w → (runs l t ≡ true → AreSent w t (client_of l t).arrived)
    → channels_of (run (receiving_events l u) w) t ≡ after (cond (u == t && runs l u) (handled_by (client_of l u) (client_of l u).arrived) []) (channels_of w t)
advances-channels l w u t s own sent = ⊎_elim
    (λ same. subst (λ n. channels_of (run (receiving_events l n) w) t ≡ after (cond (n == t && runs l n) (handled_by (client_of l n) (client_of l n).arrived) []) (channels_of w t)) (sym same) here)
    (λ d. subst (λ b. channels_of (run (receiving_events l u) w) t ≡ after (cond (b && runs l u) (handled_by (client_of l u) (client_of l u).arrived) []) (channels_of w t)) (sym (ne_eqb u t d)) (elsewhere (λ e. d (sym e))))
    (cases_eq u t)
  where
    here : channels_of (run (receiving_events l t) w) t ≡ after (cond (t == t && runs l t) (handled_by (client_of l t) (client_of l t).arrived) []) (channels_of w t)
    here =
        let c = client_of l t in
        subst (λ b. channels_of (run (receiving_events l t) w) t ≡ after (cond (b && runs l t) (handled_by c c.arrived) []) (channels_of w t)) (sym (eq-eqb t t refl))
        (by_test (λ b. runs l t ≡ b → channels_of (run (cond b (handling_events t c c.arrived) []) w) t ≡ after (cond b (handled_by c c.arrived) []) (channels_of w t)) (runs l t)
        (λ _ r. handling-channels w t c c.arrived own (alive l w t s r) (sent r))
        (λ _ _. refl)
        refl)

    elsewhere : t ≢ u → channels_of (run (receiving_events l u) w) t ≡ channels_of w t
    elsewhere d = either (λ es. channels_of (run es w) t ≡ channels_of w t) (runs l u) (handling_events u (client_of l u) (client_of l u).arrived) [] (λ _. other-handling w u t (client_of l u) (client_of l u).arrived own d) (λ _. refl)

-- Steps

pub step-channels : (l : Library) (w : WorldState) (x : Step) (t : ℕ) → Sim l w → Owned w → (runs l t ≡ true → AreSent w t (client_of l t).arrived)
    → channels_of (run (events_of l x) w) t ≡ after (channel_calls_of t l x) (channels_of w t)
unfolding events_of
step-channels l w (Opens u page i) t s own sent = still-run (cond (is_some (page_refusal u page l.hub)) [] (opening_events u page i)) w own (silent-choice (is_some (page_refusal u page l.hub)) [] (opening_events u page i) tt (silent-opening u page i)) t
step-channels l w (Closes u) t s own sent = still-run (event.Kill u ∷ []) w own (tt, tt) t
step-channels l w Restarts t s own sent = still-run (restart_events l.hub.supervised.kernel) w own (tt, (tt, tt)) t
step-channels l w Stops t s own sent = still-run (event.Stop ∷ []) w own (tt, tt) t
step-channels l w (HubReceives u n) t s own sent = refl
step-channels l w HubAdvances t s own sent = still-run (advance_events l) w own (silent-advance l) t
step-channels l w HubSends t s own sent = refl
step-channels l w (Asks u mode b name) t s own sent = still-run (call_events l u (asking u mode b name)) w own (silent-call l u (asking u mode b name) (silent-asking u mode b name)) t
step-channels l w (Queries u) t s own sent = still-run (call_events l u (event.Query u)) w own (silent-call l u (event.Query u) tt) t
step-channels l w (Aborts u k) t s own sent = still-run (call_events l u (event.Abort u k)) w own (silent-call l u (event.Abort u k) tt) t
step-channels l w (Releases u k) t s own sent = still-run (call_events l u (event.Release u k)) w own (silent-call l u (event.Release u k) tt) t
step-channels l w (Resends u) t s own sent = refl
step-channels l w (OpensChannel u name) t s own sent = call-channels l w u t (event.Channel u name) (OpensOne name) (λ r. open-calls w u name (alive l w u s r))
step-channels l w (Posts u k bytes) t s own sent = call-channels l w u t (event.Post u k bytes) (PostsOn k bytes) (λ r. post-calls w u k bytes own (alive l w u s r))
step-channels l w (Reads u k) t s own sent = call-channels l w u t (event.Read u k) (ReadsFrom k) (λ r. read-calls w u k own (alive l w u s r))
step-channels l w (ClosesChannel u k) t s own sent = call-channels l w u t (event.Close u k) (ClosesOne k) (λ r. close-calls w u k own (alive l w u s r))
step-channels l w (TakesEvent u) t s own sent = refl
step-channels l w (ClientReceives u n) t s own sent = refl
step-channels l w (ClientAdvances u) t s own sent = advances-channels l w u t s own sent
step-channels l w (ClientSends u) t s own sent = refl
step-channels l w (TakesOver u) t s own sent = still-run (event.Corrupt u ∷ []) w own (tt, tt) t
step-channels l w (Forges u f) t s own sent = refl

-- The kernel's table

-- The step opens and closes no tab.
abbrev pub KeepsTabs : Library → Library → Type 0
KeepsTabs l m = m.hub.supervised.kernel.opened ≡ l.hub.supervised.kernel.opened

keeps-choice : (l : Library) (b : Bool) (x y : Library) → KeepsTabs l x → KeepsTabs l y → KeepsTabs l (cond b x y)
keeps-choice l b x y p q = either (KeepsTabs l) b x y (λ _. p) (λ _. q)

fed-keeps : (l : Library) (t n : ℕ) (fs : List Frame) → KeepsTabs l (hub_fed t n fs l)
fed-keeps l t n [] = refl
fed-keeps l t n (f ∷ fs) = refl

sends-keeps : (l : Library) (os : List (ℕ × Frame)) → KeepsTabs l (hub_sends_from os l)
sends-keeps l [] = refl
sends-keeps l (o ∷ os) = keeps-choice l (is_due l.hub o) _ _ refl refl

-- The step is neither an opening nor a closing.
abbrev pub IsInside : Step → Type 0
IsInside (Opens t page is_pair) = ⊥
IsInside (Closes t) = ⊥
IsInside x = ⊤

pub step-keeps : (l : Library) (x : Step) → IsInside x → KeepsTabs l (step x l)
unfolding step
step-keeps l (Opens t page i) y = absurd y
step-keeps l (Closes t) y = absurd y
step-keeps l Restarts y = restarted-tabs l.hub
step-keeps l Stops y = down-tabs l.hub
step-keeps l (HubReceives t n) y = keeps-choice l (lives_in l t) (hub_fed t n l.hub.arrived l) l (fed-keeps l t n l.hub.arrived) refl
step-keeps l HubAdvances y = advanced-tabs l.hub
step-keeps l HubSends y = sends-keeps l l.hub.outputs
step-keeps l (Asks t mode b name) y = keeps-choice l (runs l t) _ l refl refl
step-keeps l (Queries t) y = keeps-choice l (runs l t) _ l refl refl
step-keeps l (Aborts t k) y = keeps-choice l (runs l t) _ l refl refl
step-keeps l (Releases t k) y = keeps-choice l (runs l t) _ l refl refl
step-keeps l (Resends t) y = keeps-choice l (runs l t) _ l refl refl
step-keeps l (OpensChannel t name) y = keeps-choice l (runs l t) _ l refl refl
step-keeps l (Posts t k bytes) y = keeps-choice l (runs l t) _ l refl refl
step-keeps l (Reads t k) y = keeps-choice l (runs l t) _ l refl refl
step-keeps l (ClosesChannel t k) y = keeps-choice l (runs l t) _ l refl refl
step-keeps l (TakesEvent t) y = keeps-choice l (runs l t) _ l refl refl
step-keeps l (ClientReceives t n) y = keeps-choice l (runs l t) _ l refl refl
step-keeps l (ClientAdvances t) y = keeps-choice l (runs l t) _ l refl refl
step-keeps l (ClientSends t) y = keeps-choice l (runs l t) _ l refl refl
step-keeps l (TakesOver t) y = keeps-choice l (lives_in l t) _ l refl refl
step-keeps l (Forges t f) y = keeps-choice l (is_taken l t && lives_in l t) _ l refl refl
