-- Each post that reaches a client was handed on by the hub within a partition, and an honest source has posted it.
use Rattle.std.proofs.Common.{◌≡◌, ⊎_elim, ℕ, Bool, true, false, cond, not, ◌&&◌, List, [], ◌∷◌, ◌++◌, append-nil, append_assoc, length, drop, Option, Some, None, option_map, is_some, Ok, Err, refl, sym, ap, ◌∙◌, subst}
use Rattle.std.specs.Prelude.{◌==◌}
use Rattle.std.specs.Bool.{⊤}
use Rattle.std.specs.List.{list_any}
use Rattle.std.proofs.lemmas.Bool.{and_parts, and_from, eqb-true}
use Rattle.wl_origin.specs.Order.{Pair}
use Rattle.wl_draft.specs.Membership.{In, Here, Later as Behind}
use Rattle.wl_draft.proofs.Membership.{apart, either, by_test, In-nil, In-one, In-cons_cases, In-append_cases, In-map_cases}
use Rattle.wl_grammar.specs.declared.frame.Addressed.{Addressed}
use Rattle.wl_grammar.specs.declared.frame.Downward.{Downward}
use Rattle.wl_grammar.specs.declared.frame.Downward.TheVariants as down
use Rattle.wl_grammar.specs.declared.frame.Heard.{Heard}
use Rattle.wl_grammar.specs.declared.frame.Upward.{Upward}
use Rattle.wl_grammar.specs.declared.frame.Upward.TheVariants as up
use Rattle.wl_grammar.specs.declared.frame.Frame.{Frame}
use Rattle.wl_grammar.specs.declared.frame.Frame.TheVariants as frame
use Rattle.wl_agent.specs.declared.fault.MessageFault.{MessageFault}
use Rattle.wl_agent.specs.Delivery.{delivery}
use Rattle.wl_agent.specs.Tokens.{is_pending, is_holding}
use Rattle.wl_tab.specs.Arrivals.{arrival}
use Rattle.wl_tab.specs.Tabs.{told}
use Rattle.wl_tab.specs.declared.channels.ChannelRefusal.TheVariants.{Fault}
use Rattle.wl_world_messages.specs.declared.effect.Effect.{Effect}
use Rattle.wl_agent.specs.Tab.{TabState, status_of, is_asked, ask_refusal, query_refusal, asked, queried, aborted, released, report_bodies, report_frames, upward_frame, is_report_due, message_refusal, command_frame}
use Rattle.wl_broadcast.specs.Heard.{Call, Hears}
use Rattle.wl_broadcast.specs.Heard.{Opens as OpensOne, Posts as PostsOn, Reads as ReadsFrom, Closes as ClosesOne}
use Rattle.wl_broadcast.specs.Channels.{name_at, post_frame, open_refusal, opened, read_at, closed_at, is_open_at}
use Rattle.wl_kernel.specs.Routes.{frame_of, route_up_refusal, routed_up, hearers, heard_of}
use Rattle.wl_kernel.specs.Welcome.{texts_of, welcome}
use Rattle.wl_kernel.specs.declared.routes.Routed.TheVariants.{Tabs}
use Rattle.wl_supervised_broker.specs.SupervisedStates.{SupervisedState, is_active_for}
use Rattle.wl_tab.specs.TabChannels.{number_refusal, posting_refusal}
use Rattle.wl_client.specs.declared.client.Unsent.{Unsent}
use Rattle.wl_client.specs.declared.client.Unsent.TheVariants as unsent
use Rattle.wl_client.specs.Client.{ClientState, call_refusal, channel_refusal, after_command, after_abort, after_release, with_channels, after_post, after_close, is_entering, after_told as client_after_told, is_hello_of, after_delivery, after_welcome, welcome_of, after_first as client_after_first}
use Rattle.wl_client.specs.Client.{after_frame as client_after_frame, advanced as client_advanced}
use Rattle.wl_hub.specs.Early.{greeted_next}
use Rattle.wl_hub.specs.Hub.{HubState, stepped, routed_step, with_verdict, after_first, greeted, postponing, after_greeting, after_told, advanced, greeting, hub_opened, page_refusal, without_sender, hub_closed, hub_stopped, hub_started, hub_down}
use Rattle.wl_hub.specs.Hub.{from_broker as hub_sends}
use Rattle.wl_world_model.specs.World.{WorldState, empty_world, run, taken_over}
use Rattle.wl_library_model.specs.Library.{Library, Line, Step, Opens, Closes, Restarts, Stops, HubReceives, HubAdvances, HubSends, Asks, Queries, Aborts, Releases, Resends, OpensChannel, Posts, Reads, ClosesChannel, TakesEvent, ClientReceives, ClientAdvances, ClientSends, TakesOver, Forges, new_library, new_line, with_line, with_hub, client_of, is_taken, runs, unless, asks, queries, aborts, releases, resends, opens_channel, posts, reads, takes_event, calls, closes, opens, hub_fed, hub_receives, hub_sends_from, is_due, client_fed, client_receives, client_sends, takes_over, forges, followed_by, Sending, unless_refused, sending_item, sending_due, sending_report, sending, step, run_steps}
use Rattle.wl_library_model.specs.Library.{lives as lives_in}
use Rattle.wl_library_model.specs.Events.{events_of}
use Rattle.wl_library_model.specs.Channels.{called_by, heard_by, handled_by, WasPostedBy, WasRouted, IsPostHeard, HeardArePosts, channel_calls_from, channel_calls_of}
use Rattle.wl_library_model.proofs.Hubs.{pair-first}
use Rattle.wl_library_model.proofs.Carried.{Sim, each_line}
use Rattle.wl_library_model.proofs.Links.{In-take, In-drop}
use Rattle.wl_library_model.proofs.Happens.{run-later}
use Rattle.wl_library_model.proofs.Simulated.{step-sim, empty-sim}

-- The frame of tab `s` is no post, or the tab's client has posted it if the tab is honest.
abbrev PostBy : List Step → ℕ → Frame → Type 0
PostBy past s (frame.Post p) = WasPostedBy past s p.number p.channel p.bytes
PostBy past s f = ⊤

abbrev PostOf : List Step → Library → ℕ → Frame → Type 0
PostOf past l s f = is_taken l s ≡ false → PostBy past s f

-- The frame for tab `t` is no post, or one that the hub handed on.
abbrev pub HeardOf : List Step → Library → ℕ → Frame → Type 0
HeardOf past l t (frame.Heard h) = IsPostHeard past l t h
HeardOf past l t f = ⊤

pub record LineTraced (past : List Step) (l : Library) (s : ℕ) (x : Line) : Type 0 where
  posts : (f : Frame) → In (unsent.Post f) x.client.unsent → PostOf past l s f
  report : (f : Frame) → In f x.client.report → PostOf past l s f
  up : (f : Frame) → In f x.up → PostOf past l s f
  down : (f : Frame) → In f x.down → HeardOf past l s f
  came : (f : Frame) → In f x.client.arrived → HeardOf past l s f

pub record HubTraced (past : List Step) (l : Library) (h : HubState) : Type 0 where
  pub outs : (t : ℕ) (f : Frame) → In (t, f) h.outputs → HeardOf past l t f
  arrived : (f : Frame) → In f h.arrived → PostOf past l h.sender f

-- More steps

posted-more : (past : List Step) (x : Step) (s number : ℕ) (name bytes : List ℕ) → WasPostedBy past s number name bytes → WasPostedBy (past ++ x ∷ []) s number name bytes
posted-more past x s number name bytes p = record {
  before = p.before;
  later = p.later ++ x ∷ [];
  object = p.object;
  split = ap (λ z. z ++ x ∷ []) p.split ∙ append_assoc p.before (Posts s p.object bytes ∷ p.later) (x ∷ []);
  named = p.named;
  numbered = p.numbered;
  accepted = p.accepted;
}

routed-more : (past : List Step) (x : Step) (t s : ℕ) → WasRouted past t s → WasRouted (past ++ x ∷ []) t s
routed-more past x t s p = record { before = p.before; later = p.later ++ x ∷ []; split = ap (λ z. z ++ x ∷ []) p.split ∙ append_assoc p.before (HubAdvances ∷ p.later) (x ∷ []); hears = p.hears }

-- A tab that is honest after the step was honest before it.
abbrev Fewer : Library → Library → Type 0
Fewer l m = (s : ℕ) → is_taken m s ≡ false → is_taken l s ≡ false

post_by-more : (past : List Step) (x : Step) (s : ℕ) (f : Frame) → PostBy past s f → PostBy (past ++ x ∷ []) s f
post_by-more past x s (frame.Post p) o = posted-more past x s p.number p.channel p.bytes o
post_by-more past x s f o = tt

post-more : (past : List Step) (x : Step) (l m : Library) (s : ℕ) (f : Frame) → Fewer l m → PostOf past l s f → PostOf (past ++ x ∷ []) m s f
post-more past x l m s f e o = λ y. post_by-more past x s f (o (e s y))

heard-more : (past : List Step) (x : Step) (l m : Library) (t : ℕ) (f : Frame) → Fewer l m → HeardOf past l t f → HeardOf (past ++ x ∷ []) m t f
heard-more past x l m t (frame.Heard h) e o = record { routed = routed-more past x t h.source o.routed; posted = λ y. posted-more past x h.source h.number h.channel h.bytes (o.posted (e h.source y)) }
heard-more past x l m t f e o = tt

line-more : (past : List Step) (x : Step) (l m : Library) (s : ℕ) (y : Line) → Fewer l m → LineTraced past l s y → LineTraced (past ++ x ∷ []) m s y
line-more past x l m s y e o = record {
  posts = λ f i. post-more past x l m s f e (o.posts f i);
  report = λ f i. post-more past x l m s f e (o.report f i);
  up = λ f i. post-more past x l m s f e (o.up f i);
  down = λ f i. heard-more past x l m s f e (o.down f i);
  came = λ f i. heard-more past x l m s f e (o.came f i);
}

hub-more : (past : List Step) (x : Step) (l m : Library) (h : HubState) → Fewer l m → HubTraced past l h → HubTraced (past ++ x ∷ []) m h
hub-more past x l m h e o = record { outs = λ t f i. heard-more past x l m t f e (o.outs t f i); arrived = λ f i. post-more past x l m h.sender f e (o.arrived f i) }

still-honest : (l : Library) (w : WorldState) (x : Step) → Sim l w → Fewer l (step x l)
still-honest l w x s t y =
    let z = step-sim l w x s in
    subst (λ zs. list_any (λ u. u == t) zs ≡ false) (sym s.taken) ((run-later (events_of l x) w s.good).honest t (subst (λ zs. list_any (λ u. u == t) zs ≡ false) z.taken y))

-- Frames that are no posts

abbrev IsOther : Frame → Type 0
IsOther (frame.Heard h) = ⊥
IsOther f = ⊤

other-heard : (past : List Step) (l : Library) (t : ℕ) (f : Frame) → IsOther f → HeardOf past l t f
other-heard past l t (frame.Heard h) o = absurd o
other-heard past l t f o = tt

down-other : (x : Downward) → IsOther (frame_of x)
down-other (down.Hello h) = tt
down-other (down.Answer a) = tt
down-other (down.Snapshot a) = tt

outs-other : (past : List Step) (l : Library) (outs : List Addressed) (t : ℕ) (f : Frame) → In (t, f) (hub_sends outs) → HeardOf past l t f
outs-other past l outs t f i =
    let m = In-map_cases (λ (a : Addressed). (a.tab, frame_of a.inner)) outs i in
    subst (HeardOf past l t) (sym (pair-first t m.0.tab f (frame_of m.0.inner) m.2).1) (other-heard past l t (frame_of m.0.inner) (down-other m.0.inner))

command-other : (past : List Step) (s : ℕ) (a : TabState) (k : ℕ) → PostBy past s (command_frame a k)
command-other past s a k = tt

body-other : (past : List Step) (s : ℕ) (u : Upward) → PostBy past s (upward_frame u)
body-other past s (up.Command c) = tt
body-other past s (up.Report r) = tt
body-other past s (up.ReportPart r) = tt

-- The parts of a library that are traced by the steps, with those who are honest in `m`.
pub record Parts (past : List Step) (m z : Library) : Type 0 where
  pub lines : (s : ℕ) → LineTraced past m s (z.lines s)
  pub hub : HubTraced past m z.hub

-- The hub with more frames that are no posts, and fewer that have arrived.
more-outs : (past : List Step) (m : Library) (h g : HubState) (new : List (ℕ × Frame)) → g.outputs ≡ h.outputs ++ new → g.sender ≡ h.sender → ((f : Frame) → In f g.arrived → In f h.arrived) → ((t : ℕ) (f : Frame) → In (t, f) new → HeardOf past m t f) → HubTraced past m h → HubTraced past m g
more-outs past m h g new o n a q y = record {
  outs = λ t f i. ⊎_elim (λ j. y.outs t f j) (λ j. q t f j) (In-append_cases h.outputs new (subst (In (t, f)) o i));
  arrived = λ f i. subst (λ z. PostOf past m z f) (sym n) (y.arrived f (a f i));
}

none-new : (past : List Step) (m : Library) (t : ℕ) (f : Frame) → In {X = ℕ × Frame} (t, f) [] → HeardOf past m t f
none-new past m t f i = absurd (In-nil i)

-- Steps of the hub

down-hub : (past : List Step) (m : Library) (h : HubState) → HubTraced past m h → HubTraced past m (hub_down h)
down-hub past m h y = either (HubTraced past m) (is_some h.supervised.broker) (hub_stopped h) h (λ _. record { outs = y.outs; arrived = y.arrived }) (λ _. y)

started-hub : (past : List Step) (m : Library) (h : HubState) → HubTraced past m h → HubTraced past m (hub_started h)
started-hub past m h y = more-outs past m h (hub_started h) _ refl refl (λ f i. i) (λ t f i. outs-other past m _ t f i) y

closed-hub : (past : List Step) (m : Library) (t : ℕ) (h : HubState) → HubTraced past m h → HubTraced past m (without_sender t h)
closed-hub past m t h y = either (HubTraced past m) (h.sender == t) (record h { arrived = [] }) h (λ _. record { outs = y.outs; arrived = λ f i. absurd (In-nil i) }) (λ _. y)

welcome-other : (p : Pair) (t : ℕ) (i : Bool) → IsOther (welcome t (texts_of p i).top (texts_of p i).own)
welcome-other p t true = tt
welcome-other p t false = tt

opened-hub : (past : List Step) (m : Library) (t : ℕ) (p : Pair) (i : Bool) (h : HubState) → HubTraced past m h → HubTraced past m (hub_opened t p i h)
opened-hub past m t p i h y =
    more-outs past m h (hub_opened t p i h) ((t, welcome t (texts_of p i).top (texts_of p i).own) ∷ greeting t h.supervised) refl refl (λ f j. j)
    (λ n f j. ⊎_elim
    (λ e. subst (HeardOf past m n) (sym (pair-first n t f _ e).1) (other-heard past m n _ (welcome-other p t i)))
    (λ k. either (λ zs. In (n, f) zs → HeardOf past m n f) (is_some h.supervised.broker) ((t, frame.Hello (record { generation = h.supervised.kernel.generation })) ∷ []) []
    (λ _ q. subst (HeardOf past m n) (sym (pair-first n t f _ (In-one q)).1) tt) (λ _ q. absurd (In-nil q)) k)
    (In-cons_cases j))
    y

-- The hub hands a post on to its hearers.
routed-outs : (past : List Step) (l m : Library) (t : ℕ) (f : Frame) (s : SupervisedState) → s.kernel ≡ l.hub.supervised.kernel → l ≡ run_steps past new_library → PostOf (past ++ HubAdvances ∷ []) m t f → (n : ℕ) (g : Frame) → In (n, g) (routed_step (routed_up t f s.kernel) s).sent → HeardOf (past ++ HubAdvances ∷ []) m n g
routed-outs past l m t (frame.Command c) s e is o n g i = outs-other (past ++ HubAdvances ∷ []) m _ n g i
routed-outs past l m t (frame.Report r) s e is o n g i = outs-other (past ++ HubAdvances ∷ []) m _ n g i
routed-outs past l m t (frame.ReportPart r) s e is o n g i = outs-other (past ++ HubAdvances ∷ []) m _ n g i
routed-outs past l m t (frame.Post p) s e is o n g i =
    let q = In-map_cases (λ (x : ℕ). (x, heard_of t p)) (hearers t s.kernel) i in
    let same = pair-first n q.0 g (heard_of t p) q.2 in
    subst (HeardOf (past ++ HubAdvances ∷ []) m n) (sym same.1) (record {
      routed = record { before = past; later = []; split = refl; hears = subst (λ z. In n (hearers t z)) (e ∙ ap (λ z. z.hub.supervised.kernel) is) (subst (λ z. In z (hearers t s.kernel)) (sym same.0) q.1) };
      posted = o;
    })
routed-outs past l m t f s e is o n g i = absurd (In-nil i)

first-hub : (past : List Step) (l m : Library) (fs : List Frame) → l ≡ run_steps past new_library → l.hub.arrived ≡ fs → HubTraced (past ++ HubAdvances ∷ []) m l.hub → HubTraced (past ++ HubAdvances ∷ []) m (after_first l.hub fs)
first-hub past l m [] is e y = y
first-hub past l m (f ∷ fs) is e y =
    let h = record l.hub { arrived = fs } in
    let t = l.hub.sender in
    let routed = routed_step (routed_up t f l.hub.supervised.kernel) l.hub.supervised in
    let refused = routed_step (Tabs []) l.hub.supervised in
    by_test (λ b. HubTraced (past ++ HubAdvances ∷ []) m (with_verdict (cond b refused routed).verdict t (stepped (cond b refused routed) h))) (is_some (route_up_refusal t f l.hub.supervised.kernel))
    (λ _. more-outs (past ++ HubAdvances ∷ []) m l.hub (with_verdict refused.verdict t (stepped refused h)) [] refl refl (λ g i. subst (In g) (sym e) (Behind i)) (none-new (past ++ HubAdvances ∷ []) m) y)
    (λ _. more-outs (past ++ HubAdvances ∷ []) m l.hub (with_verdict routed.verdict t (stepped routed h)) routed.sent refl refl (λ g i. subst (In g) (sym e) (Behind i))
    (routed-outs past l m t f l.hub.supervised refl is (y.arrived f (subst (In f) (sym e) Here))) y)

greeting-hub : (past : List Step) (l m : Library) (o : Option ℕ) → l ≡ run_steps past new_library → HubTraced (past ++ HubAdvances ∷ []) m l.hub → HubTraced (past ++ HubAdvances ∷ []) m (after_greeting l.hub o)
greeting-hub past l m None is y = first-hub past l m l.hub.arrived is refl y
greeting-hub past l m (Some t) is y =
    by_test (λ b. HubTraced (past ++ HubAdvances ∷ []) m (cond b (greeted t l.hub) (postponing l.hub))) (is_active_for t l.hub.supervised)
    (λ _. more-outs (past ++ HubAdvances ∷ []) m l.hub (greeted t l.hub) ((t, frame.Hello (record { generation = l.hub.supervised.kernel.generation })) ∷ []) refl refl (λ f i. i)
    (λ n f i. subst (HeardOf (past ++ HubAdvances ∷ []) m n) (sym (pair-first n t f _ (In-one i)).1) tt) y)
    (λ _. more-outs (past ++ HubAdvances ∷ []) m l.hub (postponing l.hub) [] (sym (append-nil l.hub.outputs)) refl (λ f i. i) (none-new (past ++ HubAdvances ∷ []) m) y)

telling-hub : (past : List Step) (l m : Library) (ts : List ℕ) → l ≡ run_steps past new_library → HubTraced (past ++ HubAdvances ∷ []) m l.hub → HubTraced (past ++ HubAdvances ∷ []) m (after_told l.hub ts)
telling-hub past l m [] is y = greeting-hub past l m (greeted_next l.hub.greetings l.hub.early) is y
telling-hub past l m (t ∷ ts) is y = more-outs (past ++ HubAdvances ∷ []) m l.hub (after_told l.hub (t ∷ ts)) _ refl refl (λ f i. i) (λ n f i. outs-other (past ++ HubAdvances ∷ []) m _ n f i) y

advanced-hub : (past : List Step) (l m : Library) → l ≡ run_steps past new_library → HubTraced (past ++ HubAdvances ∷ []) m l.hub → HubTraced (past ++ HubAdvances ∷ []) m (advanced l.hub)
advanced-hub past l m is y =
    either (HubTraced (past ++ HubAdvances ∷ []) m) (is_some l.hub.supervised.broker) (after_told l.hub l.hub.untold) (after_first l.hub l.hub.arrived) (λ _. telling-hub past l m l.hub.untold is y) (λ _. first-hub past l m l.hub.arrived is refl y)

-- Clients

-- The part of a line that belongs to its client.
record ClientTraced (past : List Step) (m : Library) (s : ℕ) (c : ClientState) : Type 0 where
  posts : (f : Frame) → In (unsent.Post f) c.unsent → PostOf past m s f
  report : (f : Frame) → In f c.report → PostOf past m s f
  came : (f : Frame) → In f c.arrived → HeardOf past m s f

client-of : (past : List Step) (m : Library) (s : ℕ) (x : Line) → LineTraced past m s x → ClientTraced past m s x.client
client-of past m s x y = record { posts = y.posts; report = y.report; came = y.came }

with-client : (past : List Step) (m : Library) (s : ℕ) (x : Line) (c : ClientState) → LineTraced past m s x → ClientTraced past m s c → LineTraced past m s (record x { client = c })
with-client past m s x c y d = record { posts = d.posts; report = d.report; up = y.up; down = y.down; came = d.came }

-- More items that are no posts.
more-items : (past : List Step) (m : Library) (s : ℕ) (c : ClientState) (us : List Unsent) → ((f : Frame) → In (unsent.Post f) us → PostOf past m s f) → ClientTraced past m s c → (f : Frame) → In (unsent.Post f) (c.unsent ++ us) → PostOf past m s f
more-items past m s c us q y f i = ⊎_elim (λ a. y.posts f a) (λ a. q f a) (In-append_cases c.unsent us i)

no-command : (f : Frame) (k : ℕ) → In (unsent.Post f) (unsent.Command k ∷ []) → ⊥
no-command f k i = go (In-one i)
  where
    go : unsent.Post f ≡ unsent.Command k → ⊥
    go e = cc

no-resend : (f : Frame) → In (unsent.Post f) (unsent.Resend ∷ []) → ⊥
no-resend f i = go (In-one i)
  where
    go : unsent.Post f ≡ unsent.Resend → ⊥
    go e = cc

choice-client : (past : List Step) (m : Library) (s : ℕ) (b : Bool) (c d : ClientState) → (b ≡ true → ClientTraced past m s c) → (b ≡ false → ClientTraced past m s d) → ClientTraced past m s (cond b c d)
choice-client past m s b c d f g = either (ClientTraced past m s) b c d f g

unless-client : {F : Type 0} → (past : List Step) (m : Library) (s : ℕ) (r : Option F) (c d : ClientState) → ClientTraced past m s c → (is_some r ≡ false → ClientTraced past m s d) → ClientTraced past m s (unless r c d)
unless-client past m s r c d y f = choice-client past m s (is_some r) c d (λ _. y) f

command-client : (past : List Step) (m : Library) (s : ℕ) (F : TabState → TabState) (c : ClientState) → ClientTraced past m s c → ClientTraced past m s (after_command F c)
command-client past m s F c y = record { posts = more-items past m s c (unsent.Command (length c.locks.issued) ∷ []) (λ f i. absurd (no-command f (length c.locks.issued) i)) y; report = y.report; came = y.came }

resend-client : (past : List Step) (m : Library) (s : ℕ) (c : ClientState) → ClientTraced past m s c → ClientTraced past m s (record c { unsent = c.unsent ++ unsent.Resend ∷ [] })
resend-client past m s c y = record { posts = more-items past m s c (unsent.Resend ∷ []) (λ f i. absurd (no-resend f i)) y; report = y.report; came = y.came }

told-client : (past : List Step) (m : Library) (s : ℕ) (e : Effect) (a : TabState) (c : ClientState) → ClientTraced past m s c → ClientTraced past m s (client_after_told e a c)
told-client past m s e a c y = record { posts = more-items past m s c (cond (is_entering e) (unsent.Resend ∷ []) []) none y; report = y.report; came = y.came }
  where
    none : (f : Frame) → In (unsent.Post f) (cond (is_entering e) (unsent.Resend ∷ []) []) → PostOf past m s f
    none f = either (λ zs. In (unsent.Post f) zs → PostOf past m s f) (is_entering e) (unsent.Resend ∷ []) [] (λ _ i. absurd (no-resend f i)) (λ _ i. absurd (In-nil i))

delivery-client : (past : List Step) (m : Library) (s : ℕ) (f : Frame) (c : ClientState) → ClientTraced past m s c → ClientTraced past m s (after_delivery f c)
delivery-client past m s (frame.Heard h) c y = record { posts = y.posts; report = y.report; came = y.came }
delivery-client past m s f c y = told-client past m s (arrival f c.locks) (told (delivery f c.locks).0) c y

welcome-client : (past : List Step) (m : Library) (s : ℕ) (o : Option (ℕ × Bool)) (c : ClientState) → ClientTraced past m s c → ClientTraced past m s (after_welcome o c)
welcome-client past m s None c y = y
welcome-client past m s (Some w) c y = record { posts = y.posts; report = y.report; came = y.came }

oldest-client : (past : List Step) (m : Library) (s : ℕ) (fs : List Frame) (c : ClientState) → c.arrived ≡ fs → ClientTraced past m s c → ClientTraced past m s (client_after_first fs c)
oldest-client past m s [] c e y = y
oldest-client past m s (f ∷ fs) c e y =
    let r = record c { arrived = fs } in
    let z : ClientTraced past m s r = record { posts = y.posts; report = y.report; came = λ g i. y.came g (subst (In g) (sym e) (Behind i)) } in
    choice-client past m s c.is_welcomed (client_after_frame f r) (after_welcome (welcome_of f) r)
    (λ _. choice-client past m s (is_hello_of c.locks.entered f) (record r { unsent = r.unsent ++ unsent.Resend ∷ [] }) (after_delivery f r) (λ _. resend-client past m s r z) (λ _. delivery-client past m s f r z))
    (λ _. welcome-client past m s (welcome_of f) r z)

-- The frame that a client sends.
record SendingTraced (past : List Step) (m : Library) (s : ℕ) (z : Sending) : Type 0 where
  client : ClientTraced past m s z.client
  frame : (f : Frame) → z.frame ≡ Some f → PostOf past m s f

no-frame : (past : List Step) (m : Library) (s : ℕ) (f : Frame) → None ≡ Some f → PostOf past m s f
no-frame past m s f e = absurd (go f e)
  where
    go : (f : Frame) → None ≡ Some f → ⊥
    go f e = cc

one-frame : (past : List Step) (m : Library) (s : ℕ) (g f : Frame) → PostOf past m s g → Some g ≡ Some f → PostOf past m s f
one-frame past m s g f y e = subst (PostOf past m s) (go g f e) y
  where
    go : (g f : Frame) → Some g ≡ Some f → g ≡ f
    go g f e = cc

command-frame : (past : List Step) (m : Library) (s : ℕ) (r : Option MessageFault) (a : TabState) (k : ℕ) (f : Frame) → unless_refused r (command_frame a k) ≡ Some f → PostOf past m s f
command-frame past m s None a k f e = one-frame past m s (command_frame a k) f (λ _. tt) e
command-frame past m s (Some r) a k f e = no-frame past m s f e

report-traced : (past : List Step) (m : Library) (s : ℕ) (a : TabState) (f : Frame) → In f (cond (is_report_due a) (report_frames a) []) → PostOf past m s f
report-traced past m s a f =
    either (λ zs. In f zs → PostOf past m s f) (is_report_due a) (report_frames a) []
    (λ _ i. let o = In-map_cases upward_frame (report_bodies a.in_parts a.report) i in subst (PostOf past m s) (sym o.2) (λ _. body-other past s o.0))
    (λ _ i. absurd (In-nil i))

item-traced : (past : List Step) (m : Library) (s : ℕ) (us : List Unsent) (c : ClientState) → c.unsent ≡ us → ClientTraced past m s c → SendingTraced past m s (sending_item us c)
item-traced past m s [] c e y = record { client = y; frame = no-frame past m s }
item-traced past m s (unsent.Resend ∷ us) c e y = record {
  client = record { posts = λ f i. y.posts f (subst (In (unsent.Post f)) (sym e) (Behind i)); report = report-traced past m s c.locks; came = y.came };
  frame = no-frame past m s;
}
item-traced past m s (unsent.Command k ∷ us) c e y = record {
  client = record { posts = λ f i. y.posts f (subst (In (unsent.Post f)) (sym e) (Behind i)); report = y.report; came = y.came };
  frame = command-frame past m s (message_refusal c.locks k) c.locks k;
}
item-traced past m s (unsent.Post g ∷ us) c e y = record {
  client = record { posts = λ f i. y.posts f (subst (In (unsent.Post f)) (sym e) (Behind i)); report = y.report; came = y.came };
  frame = λ f q. one-frame past m s g f (y.posts g (subst (In (unsent.Post g)) (sym e) Here)) q;
}

due-traced : (past : List Step) (m : Library) (s : ℕ) (ks : List ℕ) (c : ClientState) → ClientTraced past m s c → SendingTraced past m s (sending_due ks c)
due-traced past m s [] c y = item-traced past m s c.unsent c refl y
due-traced past m s (k ∷ ks) c y = record { client = record { posts = y.posts; report = y.report; came = y.came }; frame = command-frame past m s (message_refusal c.locks k) c.locks k }

sending-traced : (past : List Step) (m : Library) (s : ℕ) (fs : List Frame) (c : ClientState) → c.report ≡ fs → ClientTraced past m s c → SendingTraced past m s (sending_report fs c)
sending-traced past m s [] c e y = due-traced past m s c.due c y
sending-traced past m s (f ∷ fs) c e y = record {
  client = record { posts = y.posts; report = λ g i. y.report g (subst (In g) (sym e) (Behind i)); came = y.came };
  frame = λ g q. one-frame past m s f g (y.report f (subst (In f) (sym e) Here)) q;
}

-- Steps of a client

line-parts : (past : List Step) (m l : Library) (u : ℕ) (x : Line) → Parts past m l → LineTraced past m u x → Parts past m (with_line u x l)
line-parts past m l u x y z = record { lines = each_line (LineTraced past m) u x l.lines z y.lines; hub = y.hub }

call-parts : (past : List Step) (m l : Library) (u : ℕ) (f : ClientState → ClientState) → Parts past m l → (runs l u ≡ true → ClientTraced past m u (f (client_of l u))) → Parts past m (calls u f l)
call-parts past m l u f y z =
    either (Parts past m) (runs l u) (with_line u (record (l.lines u) { client = f (client_of l u) }) l) l
    (λ r. line-parts past m l u (record (l.lines u) { client = f (client_of l u) }) y (with-client past m u (l.lines u) (f (client_of l u)) (y.lines u) (z r)))
    (λ _. y)

-- The post of a client that runs, which it does not refuse.
post-client : (past : List Step) (m l : Library) (u k : ℕ) (bytes : List ℕ) → l ≡ run_steps past new_library → runs l u ≡ true → is_some (channel_refusal (posting_refusal k bytes (client_of l u).channels) (client_of l u)) ≡ false
    → ClientTraced (past ++ Posts u k bytes ∷ []) m u (client_of l u) → ClientTraced (past ++ Posts u k bytes ∷ []) m u (after_post k bytes (client_of l u))
post-client past m l u k bytes is r n y =
    let c = client_of l u in
    let g = post_frame c.channels.posts (name_at c.channels.objects k) bytes in
    record {
      posts = more-items (past ++ Posts u k bytes ∷ []) m u c (unsent.Post g ∷ []) (λ f i. subst (PostOf (past ++ Posts u k bytes ∷ []) m u) (sym (same f g (In-one i))) (λ _. made)) y;
      report = y.report;
      came = y.came;
    }
  where
    same : (f g : Frame) → unsent.Post f ≡ unsent.Post g → f ≡ g
    same f g e = cc

    made : WasPostedBy (past ++ Posts u k bytes ∷ []) u (client_of l u).channels.posts (name_at (client_of l u).channels.objects k) bytes
    made = record {
      before = past;
      later = [];
      object = k;
      split = refl;
      named = ap (λ z. name_at (client_of z u).channels.objects k) (sym is);
      numbered = ap (λ z. (client_of z u).channels.posts) (sym is);
      accepted = subst (λ z. (runs z u && not (is_some (channel_refusal (posting_refusal k bytes (client_of z u).channels) (client_of z u)))) ≡ true) is (and_from _ _ r (ap not n));
    }

fed-parts : (past : List Step) (m l : Library) (u n : ℕ) (fs : List Frame) → Parts past m l → Parts past m (hub_fed u n fs l)
fed-parts past m l u n [] y =
    let x = l.lines u in
    let z = y.lines u in
    record {
      lines = each_line (LineTraced past m) u (record x { up = drop n x.up }) l.lines (record { posts = z.posts; report = z.report; up = λ f i. z.up f (In-drop n x.up i); down = z.down; came = z.came }) y.lines;
      hub = record { outs = y.hub.outs; arrived = λ f i. z.up f (In-take n x.up i) };
    }
fed-parts past m l u n (f ∷ fs) y = y

sent-parts : (past : List Step) (m l : Library) (os : List (ℕ × Frame)) → l.hub.outputs ≡ os → Parts past m l → Parts past m (hub_sends_from os l)
sent-parts past m l [] e y = y
sent-parts past m l (o ∷ os) e y =
    let x = l.lines o.0 in
    let z = y.lines o.0 in
    let longer = record x { down = x.down ++ o.1 ∷ [] } in
    let rest = with_hub (record l.hub { outputs = os }) l in
    let dropped : Parts past m rest = record { lines = y.lines; hub = record { outs = λ t f i. y.hub.outs t f (subst (In (t, f)) (sym e) (Behind i)); arrived = y.hub.arrived } } in
    either (Parts past m) (is_due l.hub o) (with_line o.0 longer rest) rest
    (λ _. record {
      lines = each_line (LineTraced past m) o.0 longer l.lines (record {
        posts = z.posts;
        report = z.report;
        up = z.up;
        down = λ f i. ⊎_elim (λ a. z.down f a) (λ a. subst (HeardOf past m o.0) (sym (In-one a)) (y.hub.outs o.0 o.1 (subst (In (o.0, o.1)) (sym e) Here))) (In-append_cases x.down (o.1 ∷ []) i);
        came = z.came;
      }) y.lines;
      hub = dropped.hub;
    })
    (λ _. dropped)

client_fed-line : (past : List Step) (m : Library) (u n : ℕ) (x : Line) (fs : List Frame) → LineTraced past m u x → LineTraced past m u (client_fed n fs x)
client_fed-line past m u n x [] z = record { posts = z.posts; report = z.report; up = z.up; down = λ f i. z.down f (In-drop n x.down i); came = λ f i. z.down f (In-take n x.down i) }
client_fed-line past m u n x (f ∷ fs) z = z

followed : (past : List Step) (m : Library) (s : ℕ) (fs : List Frame) (o : Option Frame) → ((f : Frame) → In f fs → PostOf past m s f) → ((f : Frame) → o ≡ Some f → PostOf past m s f) → (f : Frame) → In f (followed_by fs o) → PostOf past m s f
followed past m s fs None y z f i = y f i
followed past m s fs (Some g) y z f i = ⊎_elim (λ a. y f a) (λ a. subst (PostOf past m s) (sym (In-one a)) (z g refl)) (In-append_cases fs (g ∷ []) i)

-- Steps

-- The parts of the library, traced by one more step.
pub lifted : (past : List Step) (l : Library) (w : WorldState) (x : Step) → Sim l w → Parts past l l → Parts (past ++ x ∷ []) (step x l) l
lifted past l w x s y = record { lines = λ t. line-more past x l (step x l) t (l.lines t) (still-honest l w x s) (y.lines t); hub = hub-more past x l (step x l) l.hub (still-honest l w x s) y.hub }

pub step-parts : (past : List Step) (l : Library) (w : WorldState) (x : Step) → l ≡ run_steps past new_library → Sim l w → Parts (past ++ x ∷ []) (step x l) l → Parts (past ++ x ∷ []) (step x l) (step x l)
unfolding step
step-parts past l w (Opens t (Err f) i) is s y = y
step-parts past l w (Opens t (Ok p) i) is s y =
    let q = past ++ Opens t (Ok p) i ∷ [] in
    let m = opens t (Ok p) i l in
    either (Parts q m) (is_some (page_refusal t (Ok p) l.hub)) l (with_line t new_line (with_hub (hub_opened t p i l.hub) l))
    (λ _. y)
    (λ _. record {
      lines = each_line (LineTraced q m) t new_line l.lines (record { posts = λ f j. absurd (In-nil j); report = λ f j. absurd (In-nil j); up = λ f j. absurd (In-nil j); down = λ f j. absurd (In-nil j); came = λ f j. absurd (In-nil j) }) y.lines;
      hub = opened-hub q m t p i l.hub y.hub;
    })
step-parts past l w (Closes t) is s y =
    let q = past ++ Closes t ∷ [] in
    either (Parts q (closes t l)) (lives_in l t) (with_hub (hub_closed t l.hub) l) l (λ _. record { lines = y.lines; hub = closed-hub q (closes t l) t _ (record { outs = y.hub.outs; arrived = y.hub.arrived }) }) (λ _. y)
step-parts past l w Restarts is s y = record { lines = y.lines; hub = started-hub _ _ (hub_down l.hub) (down-hub _ _ l.hub y.hub) }
step-parts past l w Stops is s y = record { lines = y.lines; hub = down-hub _ _ l.hub y.hub }
step-parts past l w (HubReceives t n) is s y = either (Parts (past ++ HubReceives t n ∷ []) (hub_receives t n l)) (lives_in l t) (hub_fed t n l.hub.arrived l) l (λ _. fed-parts _ _ l t n l.hub.arrived y) (λ _. y)
step-parts past l w HubAdvances is s y = record { lines = y.lines; hub = advanced-hub past l (with_hub (advanced l.hub) l) is y.hub }
step-parts past l w HubSends is s y = sent-parts _ _ l l.hub.outputs refl y
step-parts past l w (Asks t mode b name) is s y =
    let c = client_of l t in
    let k = client-of _ _ t (l.lines t) (y.lines t) in
    call-parts _ _ l t (asks mode b name) y (λ _. unless-client _ _ t (call_refusal (ask_refusal c.locks name) c) c (after_command (asked mode b name) c) k (λ _. command-client _ _ t (asked mode b name) c k))
step-parts past l w (Queries t) is s y =
    let c = client_of l t in
    let k = client-of _ _ t (l.lines t) (y.lines t) in
    call-parts _ _ l t queries y (λ _. unless-client _ _ t (call_refusal (query_refusal c.locks) c) c (after_command queried c) k (λ _. command-client _ _ t queried c k))
step-parts past l w (Aborts t n) is s y =
    let c = client_of l t in
    let k = client-of _ _ t (l.lines t) (y.lines t) in
    call-parts _ _ l t (aborts n) y (λ _. unless-client _ _ t (call_refusal None c) c (after_abort n c) k (λ _. choice-client _ _ t (is_pending c.locks n && is_asked (status_of c.locks n)) (after_command (aborted n) c) c (λ _. command-client _ _ t (aborted n) c k) (λ _. k)))
step-parts past l w (Releases t n) is s y =
    let c = client_of l t in
    let k = client-of _ _ t (l.lines t) (y.lines t) in
    call-parts _ _ l t (releases n) y (λ _. unless-client _ _ t (call_refusal None c) c (after_release n c) k (λ _. choice-client _ _ t (is_holding c.locks n) (after_command (released n) c) c (λ _. command-client _ _ t (released n) c k) (λ _. k)))
step-parts past l w (Resends t) is s y =
    let c = client_of l t in
    let k = client-of _ _ t (l.lines t) (y.lines t) in
    call-parts _ _ l t resends y (λ _. unless-client _ _ t (call_refusal None c) c (record c { unsent = c.unsent ++ unsent.Resend ∷ [] }) k (λ _. resend-client _ _ t c k))
step-parts past l w (OpensChannel t name) is s y =
    let c = client_of l t in
    let k = client-of _ _ t (l.lines t) (y.lines t) in
    call-parts _ _ l t (opens_channel name) y (λ _. unless-client _ _ t (channel_refusal (option_map Fault (open_refusal name c.channels)) c) c (with_channels (opened name c.channels) c) k (λ _. record { posts = k.posts; report = k.report; came = k.came }))
step-parts past l w (Posts t n bytes) is s y =
    let c = client_of l t in
    let k = client-of _ _ t (l.lines t) (y.lines t) in
    call-parts _ _ l t (posts n bytes) y (λ r. unless-client _ _ t (channel_refusal (posting_refusal n bytes c.channels) c) c (after_post n bytes c) k (λ e. post-client past _ l t n bytes is r e k))
step-parts past l w (Reads t n) is s y =
    let c = client_of l t in
    let k = client-of _ _ t (l.lines t) (y.lines t) in
    call-parts _ _ l t (reads n) y (λ _. unless-client _ _ t (channel_refusal (number_refusal n c.channels) c) c (with_channels (read_at n c.channels) c) k (λ _. record { posts = k.posts; report = k.report; came = k.came }))
step-parts past l w (ClosesChannel t n) is s y =
    let c = client_of l t in
    let k = client-of _ _ t (l.lines t) (y.lines t) in
    call-parts _ _ l t (after_close n) y (λ _. choice-client _ _ t (c.is_welcomed && is_open_at c.channels.objects n) (with_channels (closed_at n c.channels) c) c (λ _. record { posts = k.posts; report = k.report; came = k.came }) (λ _. k))
step-parts past l w (TakesEvent t) is s y =
    let k = client-of _ _ t (l.lines t) (y.lines t) in
    call-parts _ _ l t takes_event y (λ _. record { posts = k.posts; report = k.report; came = k.came })
step-parts past l w (ClientReceives t n) is s y =
    either (Parts (past ++ ClientReceives t n ∷ []) (client_receives t n l)) (runs l t) (with_line t (client_fed n (client_of l t).arrived (l.lines t)) l) l (λ _. line-parts _ _ l t _ y (client_fed-line _ _ t n (l.lines t) (client_of l t).arrived (y.lines t))) (λ _. y)
step-parts past l w (ClientAdvances t) is s y = call-parts _ _ l t client_advanced y (λ _. oldest-client _ _ t (client_of l t).arrived (client_of l t) refl (client-of _ _ t (l.lines t) (y.lines t)))
step-parts past l w (ClientSends t) is s y =
    let x = l.lines t in
    let z = sending x.client in
    let k = sending-traced (past ++ ClientSends t ∷ []) (client_sends t l) t x.client.report x.client refl (client-of _ _ t x (y.lines t)) in
    either (Parts (past ++ ClientSends t ∷ []) (client_sends t l)) (runs l t) (with_line t (record x { client = z.client; up = followed_by x.up z.frame }) l) l
    (λ _. line-parts (past ++ ClientSends t ∷ []) (client_sends t l) l t (record x { client = z.client; up = followed_by x.up z.frame }) y (record {
      posts = k.client.posts;
      report = k.client.report;
      up = followed (past ++ ClientSends t ∷ []) (client_sends t l) t x.up z.frame (y.lines t).up k.frame;
      down = (y.lines t).down;
      came = k.client.came;
    }))
    (λ _. y)
step-parts past l w (TakesOver t) is s y = either (Parts (past ++ TakesOver t ∷ []) (takes_over t l)) (lives_in l t) (record l { taken = taken_over t l.taken }) l (λ _. record { lines = y.lines; hub = y.hub }) (λ _. y)
step-parts past l w (Forges t f) is s y =
    let x = l.lines t in
    let z = y.lines t in
    either (Parts (past ++ Forges t f ∷ []) (forges t f l)) (is_taken l t && lives_in l t) (with_line t (record x { up = x.up ++ f ∷ [] }) l) l
    (λ b. line-parts _ _ l t (record x { up = x.up ++ f ∷ [] }) y (record {
      posts = z.posts;
      report = z.report;
      up = λ g i. ⊎_elim (λ a. z.up g a) (λ a h. apart (and_parts _ _ b).0 (unforged h)) (In-append_cases x.up (f ∷ []) i);
      down = z.down;
      came = z.came;
    }))
    (λ _. y)
  where
    unforged : is_taken (forges t f l) t ≡ false → is_taken l t ≡ false
    unforged h = sym (either (λ (q : Library). is_taken q t ≡ is_taken l t) (is_taken l t && lives_in l t) (with_line t (record (l.lines t) { up = (l.lines t).up ++ f ∷ [] }) l) l (λ _. refl) (λ _. refl)) ∙ h

-- Calls on channels

no-hears : (t u : ℕ) (l : Library) (c : Call) (h : Heard) → (Hears h ≡ c → ⊥) → In (Hears h) (called_by t u l c) → ⊥
no-hears t u l c h n = either (λ zs. In (Hears h) zs → ⊥) (u == t && (runs l u && (client_of l u).is_welcomed)) (c ∷ []) [] (λ _ i. n (In-one i)) (λ _ i. In-nil i)

heard-frame : (f : Frame) (h : Heard) → In (Hears h) (heard_by f) → f ≡ frame.Heard h
heard-frame (frame.Heard g) h i = ap frame.Heard (go g h (In-one i))
  where
    go : (g h : Heard) → Hears h ≡ Hears g → g ≡ h
    go g h e = cc
heard-frame f h i = absurd (In-nil i)

handled-heard : (past : List Step) (m : Library) (t : ℕ) (c : ClientState) (fs : List Frame) (h : Heard) → c.arrived ≡ fs → ClientTraced past m t c → In (Hears h) (handled_by c fs) → IsPostHeard past m t h
handled-heard past m t c [] h e y i = absurd (In-nil i)
handled-heard past m t c (f ∷ fs) h e y i =
    either (λ zs. In (Hears h) zs → IsPostHeard past m t h) c.is_welcomed (heard_by f) []
    (λ _ j. subst (HeardOf past m t) (heard-frame f h j) (y.came f (subst (In f) (sym e) Here)))
    (λ _ j. absurd (In-nil j))
    i

opens-no : (h : Heard) (name : List ℕ) → Hears h ≡ OpensOne name → ⊥
opens-no h name e = cc

posts-no : (h : Heard) (k : ℕ) (bytes : List ℕ) → Hears h ≡ PostsOn k bytes → ⊥
posts-no h k bytes e = cc

reads-no : (h : Heard) (k : ℕ) → Hears h ≡ ReadsFrom k → ⊥
reads-no h k e = cc

closes-no : (h : Heard) (k : ℕ) → Hears h ≡ ClosesOne k → ⊥
closes-no h k e = cc

-- A post that reaches the channels by a step had arrived before.
step-heard : (past : List Step) (l : Library) (x : Step) (t : ℕ) (h : Heard) → Parts past l l → In (Hears h) (channel_calls_of t l x) → IsPostHeard past l t h
step-heard past l (OpensChannel u name) t h y i = absurd (no-hears t u l (OpensOne name) h (opens-no h name) i)
step-heard past l (Posts u k bytes) t h y i = absurd (no-hears t u l (PostsOn k bytes) h (posts-no h k bytes) i)
step-heard past l (Reads u k) t h y i = absurd (no-hears t u l (ReadsFrom k) h (reads-no h k) i)
step-heard past l (ClosesChannel u k) t h y i = absurd (no-hears t u l (ClosesOne k) h (closes-no h k) i)
step-heard past l (ClientAdvances u) t h y i =
    either (λ zs. In (Hears h) zs → IsPostHeard past l t h) (u == t && runs l u) (handled_by (client_of l u) (client_of l u).arrived) []
    (λ b. subst (λ n. In (Hears h) (handled_by (client_of l u) (client_of l u).arrived) → IsPostHeard past l n h) (eqb-true u t (and_parts _ _ b).0) (handled-heard past l u (client_of l u) (client_of l u).arrived h refl (client-of past l u (l.lines u) (y.lines u))))
    (λ _ j. absurd (In-nil j))
    i
step-heard past l x t h y i = absurd (In-nil i)

-- Lists of steps

abbrev CallsTraced : List Step → Library → List Call → ℕ → Type 0
CallsTraced past l cs t = (h : Heard) → In (Hears h) cs → IsPostHeard past l t h

steps-traced : (xs past : List Step) (l : Library) (w : WorldState) (t : ℕ) (cs : List Call) → l ≡ run_steps past new_library → Sim l w → Parts past l l → CallsTraced past l cs t
    → CallsTraced (past ++ xs) (run_steps xs l) (cs ++ channel_calls_from t l xs) t
steps-traced [] past l w t cs is s y c = subst (λ ys. CallsTraced ys l (cs ++ []) t) (sym (append-nil past)) (subst (λ zs. CallsTraced past l zs t) (sym (append-nil cs)) c)
steps-traced (x ∷ xs) past l w t cs is s y c =
    let m = step x l in
    let q = past ++ x ∷ [] in
    let e = still-honest l w x s in
    subst (λ ys. CallsTraced ys (run_steps xs m) (cs ++ (channel_calls_of t l x ++ channel_calls_from t m xs)) t) (append_assoc past (x ∷ []) xs)
    (subst (λ zs. CallsTraced (q ++ xs) (run_steps xs m) zs t) (append_assoc cs (channel_calls_of t l x) (channel_calls_from t m xs))
    (steps-traced xs q m (run (events_of l x) w) t (cs ++ channel_calls_of t l x) (ap (step x) is ∙ sym (steps-push past x new_library)) (step-sim l w x s) (step-parts past l w x is s (lifted past l w x s y))
    (λ h i. ⊎_elim
    (λ a. heard-more past x l m t (frame.Heard h) e (c h a))
    (λ a. heard-more past x l m t (frame.Heard h) e (step-heard past l x t h y a))
    (In-append_cases cs (channel_calls_of t l x) i))))
  where
    steps-push : (past : List Step) (x : Step) (l : Library) → run_steps (past ++ x ∷ []) l ≡ step x (run_steps past l)
    steps-push [] x l = refl
    steps-push (z ∷ zs) x l = steps-push zs x (step z l)

pub empty-parts : Parts [] new_library new_library
empty-parts = record {
  lines = λ s. record { posts = λ f i. absurd (In-nil i); report = λ f i. absurd (In-nil i); up = λ f i. absurd (In-nil i); down = λ f i. absurd (In-nil i); came = λ f i. absurd (In-nil i) };
  hub = record { outs = λ t f i. absurd (In-nil i); arrived = λ f i. absurd (In-nil i) };
}

pub heard-are_posts : HeardArePosts
heard-are_posts steps t h i = steps-traced steps [] new_library empty_world t [] refl empty-sim empty-parts (λ g j. absurd (In-nil j)) h i
