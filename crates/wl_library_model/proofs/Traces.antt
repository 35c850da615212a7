-- A property of the posts on their way to the hub, and one of those on their way to a tab: each step keeps both.
use Rattle.std.proofs.Common.{◌≡◌, ◌⊎◌, inl, inr, ⊎_elim, ℕ, Bool, true, false, cond, ◌&&◌, List, [], ◌∷◌, ◌++◌, append-nil, length, drop, Option, Some, None, option_map, is_some, Ok, Err, refl, sym, ap, ◌∙◌, subst}
use Rattle.std.specs.Prelude.{◌==◌}
use Rattle.std.specs.Bool.{⊤}
use Rattle.wl_origin.specs.Order.{Pair}
use Rattle.wl_draft.specs.Membership.{In, Here, Later as Behind}
use Rattle.wl_draft.proofs.Membership.{either, by_test, In-nil, In-one, In-cons_cases, In-append_cases, In-map_cases}
use Rattle.wl_grammar.specs.declared.frame.Addressed.{Addressed}
use Rattle.wl_grammar.specs.declared.frame.Downward.{Downward}
use Rattle.wl_grammar.specs.declared.frame.Downward.TheVariants as down
use Rattle.wl_grammar.specs.declared.frame.Post.{Post}
use Rattle.wl_grammar.specs.declared.frame.Upward.{Upward}
use Rattle.wl_grammar.specs.declared.frame.Upward.TheVariants as up
use Rattle.wl_grammar.specs.declared.frame.Frame.{Frame}
use Rattle.wl_grammar.specs.declared.frame.Frame.TheVariants as frame
use Rattle.wl_agent.specs.declared.fault.MessageFault.{MessageFault}
use Rattle.wl_agent.specs.Delivery.{delivery}
use Rattle.wl_agent.specs.Tokens.{is_pending, is_holding}
use Rattle.wl_tab.specs.Arrivals.{arrival}
use Rattle.wl_tab.specs.Tabs.{told}
use Rattle.wl_tab.specs.declared.channels.ChannelRefusal.TheVariants.{Fault}
use Rattle.wl_world_messages.specs.declared.effect.Effect.{Effect}
use Rattle.wl_agent.specs.Tab.{TabState, status_of, is_asked, ask_refusal, query_refusal, asked, queried, aborted, released, report_bodies, report_frames, upward_frame, is_report_due, message_refusal, command_frame}
use Rattle.wl_broadcast.specs.Channels.{name_at, post_frame, open_refusal, opened, read_at, closed_at, is_open_at}
use Rattle.wl_kernel.specs.Routes.{frame_of, route_up_refusal, routed_up, hearers, heard_of}
use Rattle.wl_kernel.specs.Welcome.{texts_of, welcome}
use Rattle.wl_kernel.specs.declared.routes.Routed.TheVariants.{Tabs}
use Rattle.wl_supervised_broker.specs.SupervisedStates.{SupervisedState, is_active_for}
use Rattle.wl_tab.specs.TabChannels.{number_refusal, posting_refusal}
use Rattle.wl_client.specs.declared.client.Unsent.{Unsent}
use Rattle.wl_client.specs.declared.client.Unsent.TheVariants as unsent
use Rattle.wl_client.specs.Client.{ClientState, call_refusal, channel_refusal, after_command, after_abort, after_release, with_channels, after_post, after_close, is_entering, after_told as client_after_told, is_hello_of, after_delivery, after_welcome, welcome_of, after_first as client_after_first}
use Rattle.wl_client.specs.Client.{after_frame as client_after_frame, advanced as client_advanced}
use Rattle.wl_hub.specs.Early.{greeted_next}
use Rattle.wl_hub.specs.Hub.{HubState, stepped, routed_step, with_verdict, after_first, greeted, postponing, after_greeting, after_told, advanced, greeting, hub_opened, page_refusal, without_sender, hub_closed, hub_stopped, hub_started, hub_down}
use Rattle.wl_hub.specs.Hub.{from_broker as hub_sends}
use Rattle.wl_world_model.specs.World.{taken_over}
use Rattle.wl_library_model.specs.Library.{Library, Line, Step, Opens, Closes, Restarts, Stops, HubReceives, HubAdvances, HubSends, Asks, Queries, Aborts, Releases, Resends, OpensChannel, Posts, Reads, ClosesChannel, TakesEvent, ClientReceives, ClientAdvances, ClientSends, TakesOver, Forges, new_line, with_line, with_hub, client_of, is_taken, runs, unless, asks, queries, aborts, releases, resends, opens_channel, posts, reads, takes_event, calls, hub_fed, hub_sends_from, is_due, client_fed, followed_by, Sending, unless_refused, sending_item, sending_due, sending_report, sending, step}
use Rattle.wl_library_model.specs.Library.{lives as lives_in}
use Rattle.wl_library_model.proofs.Hubs.{pair-first}
use Rattle.wl_library_model.proofs.Carried.{each_line}
use Rattle.wl_library_model.proofs.Links.{In-take, In-drop}

-- Frames that are no posts

abbrev pub IsOther : Frame → Type 0
IsOther (frame.Heard h) = ⊥
IsOther f = ⊤

down-other : (x : Downward) → IsOther (frame_of x)
down-other (down.Hello h) = tt
down-other (down.Answer a) = tt
down-other (down.Snapshot a) = tt

welcome-other : (p : Pair) (t : ℕ) (i : Bool) → IsOther (welcome t (texts_of p i).top (texts_of p i).own)
welcome-other p t true = tt
welcome-other p t false = tt

no-command : (f : Frame) (k : ℕ) → In (unsent.Post f) (unsent.Command k ∷ []) → ⊥
no-command f k i = go (In-one i)
  where
    go : unsent.Post f ≡ unsent.Command k → ⊥
    go e = cc

no-resend : (f : Frame) → In (unsent.Post f) (unsent.Resend ∷ []) → ⊥
no-resend f i = go (In-one i)
  where
    go : unsent.Post f ≡ unsent.Resend → ⊥
    go e = cc

abbrev pub IsNoPost : Frame → Type 0
IsNoPost (frame.Post p) = ⊥
IsNoPost f = ⊤

body-none : (u : Upward) → IsNoPost (upward_frame u)
body-none (up.Command c) = tt
body-none (up.Report r) = tt
body-none (up.ReportPart r) = tt

same-post : (f g : Frame) → unsent.Post f ≡ unsent.Post g → f ≡ g
same-post f g e = cc

-- The tab `s` may send this frame, and the frame may be sent to the tab `t`. Frames that are no posts always may.
module _ (P H : ℕ → Frame → Type 0) (plain-post : (s : ℕ) (f : Frame) → IsNoPost f → P s f) (plain-heard : (t : ℕ) (f : Frame) → IsOther f → H t f) where
  -- Frames that are no posts

  outs-other : (outs : List Addressed) (t : ℕ) (f : Frame) → In (t, f) (hub_sends outs) → H t f
  outs-other outs t f i =
      let m = In-map_cases (λ (a : Addressed). (a.tab, frame_of a.inner)) outs i in
      subst (H t) (sym (pair-first t m.0.tab f (frame_of m.0.inner) m.2).1) (plain-heard t (frame_of m.0.inner) (down-other m.0.inner))

  pub record LineHas (s : ℕ) (x : Line) : Type 0 where
    pub posts : (f : Frame) → In (unsent.Post f) x.client.unsent → P s f
    pub report : (f : Frame) → In f x.client.report → IsNoPost f
    pub up : (f : Frame) → In f x.up → P s f
    pub down : (f : Frame) → In f x.down → H s f
    pub came : (f : Frame) → In f x.client.arrived → H s f

  pub record HubHas (h : HubState) : Type 0 where
    pub outs : (t : ℕ) (f : Frame) → In (t, f) h.outputs → H t f
    pub arrived : (f : Frame) → In f h.arrived → P h.sender f

  -- All frames on their way.
  pub record Has (z : Library) : Type 0 where
    pub lines : (s : ℕ) → LineHas s (z.lines s)
    pub hub : HubHas z.hub

  -- The hub has nothing to do before it handles the oldest frame.
  abbrev pub IsNow : HubState → Type 0
  IsNow h = (is_some h.supervised.broker ≡ false) ⊎ ((h.untold ≡ []) × (greeted_next h.greetings h.early ≡ None))

  -- The hub hands the oldest frame on to these tabs, if the frame is a post.
  abbrev pub Routes : HubState → Type 0
  Routes h =
      (q : Post) (fs : List Frame) → h.arrived ≡ frame.Post q ∷ fs → IsNow h → P h.sender (frame.Post q) → is_some (route_up_refusal h.sender (frame.Post q) h.supervised.kernel) ≡ false →
      (n : ℕ) → In n (hearers h.sender h.supervised.kernel) → H n (heard_of h.sender q)

  -- The hub with more frames that are no posts, and fewer that have arrived.
  more-outs : (h g : HubState) (new : List (ℕ × Frame)) → g.outputs ≡ h.outputs ++ new → g.sender ≡ h.sender → ((f : Frame) → In f g.arrived → In f h.arrived) → ((t : ℕ) (f : Frame) → In (t, f) new → H t f) → HubHas h → HubHas g
  more-outs h g new o n a q y = record {
    outs = λ t f i. ⊎_elim (λ j. y.outs t f j) (λ j. q t f j) (In-append_cases h.outputs new (subst (In (t, f)) o i));
    arrived = λ f i. subst (λ z. P z f) (sym n) (y.arrived f (a f i));
  }

  none-new : (t : ℕ) (f : Frame) → In {X = ℕ × Frame} (t, f) [] → H t f
  none-new t f i = absurd (In-nil i)

  -- Steps of the hub

  down-hub : (h : HubState) → HubHas h → HubHas (hub_down h)
  down-hub h y = either HubHas (is_some h.supervised.broker) (hub_stopped h) h (λ _. record { outs = y.outs; arrived = y.arrived }) (λ _. y)

  started-hub : (h : HubState) → HubHas h → HubHas (hub_started h)
  started-hub h y = more-outs h (hub_started h) _ refl refl (λ f i. i) (λ t f i. outs-other _ t f i) y

  closed-hub : (t : ℕ) (h : HubState) → HubHas h → HubHas (without_sender t h)
  closed-hub t h y = either HubHas (h.sender == t) (record h { arrived = [] }) h (λ _. record { outs = y.outs; arrived = λ f i. absurd (In-nil i) }) (λ _. y)

  opened-hub : (t : ℕ) (p : Pair) (i : Bool) (h : HubState) → HubHas h → HubHas (hub_opened t p i h)
  opened-hub t p i h y =
      more-outs h (hub_opened t p i h) ((t, welcome t (texts_of p i).top (texts_of p i).own) ∷ greeting t h.supervised) refl refl (λ f j. j)
      (λ n f j. ⊎_elim
      (λ e. subst (H n) (sym (pair-first n t f _ e).1) (plain-heard n _ (welcome-other p t i)))
      (λ k. either (λ zs. In (n, f) zs → H n f) (is_some h.supervised.broker) ((t, frame.Hello (record { generation = h.supervised.kernel.generation })) ∷ []) []
      (λ _ q. subst (H n) (sym (pair-first n t f _ (In-one q)).1) (plain-heard n _ tt)) (λ _ q. absurd (In-nil q)) k)
      (In-cons_cases j))
      y

  -- The hub hands a post on to its hearers.
  routed-outs : (t : ℕ) (f : Frame) (s : SupervisedState) → P t f → ((q : Post) → P t (frame.Post q) → f ≡ frame.Post q → (n : ℕ) → In n (hearers t s.kernel) → H n (heard_of t q)) → (n : ℕ) (g : Frame) → In (n, g) (routed_step (routed_up t f s.kernel) s).sent → H n g
  routed-outs t (frame.Command c) s o r n g i = outs-other _ n g i
  routed-outs t (frame.Report x) s o r n g i = outs-other _ n g i
  routed-outs t (frame.ReportPart x) s o r n g i = outs-other _ n g i
  routed-outs t (frame.Post p) s o r n g i =
      let q = In-map_cases (λ (x : ℕ). (x, heard_of t p)) (hearers t s.kernel) i in
      let same = pair-first n q.0 g (heard_of t p) q.2 in
      subst (H n) (sym same.1) (r p o refl n (subst (λ z. In z (hearers t s.kernel)) (sym same.0) q.1))
  routed-outs t f s o r n g i = absurd (In-nil i)

  first-hub : (h : HubState) (fs : List Frame) → h.arrived ≡ fs → IsNow h → Routes h → HubHas h → HubHas (after_first h fs)
  first-hub h [] e now r y = y
  first-hub h (f ∷ fs) e now r y =
      let z = record h { arrived = fs } in
      let t = h.sender in
      let routed = routed_step (routed_up t f h.supervised.kernel) h.supervised in
      let refused = routed_step (Tabs []) h.supervised in
      by_test (λ b. HubHas (with_verdict (cond b refused routed).verdict t (stepped (cond b refused routed) z))) (is_some (route_up_refusal t f h.supervised.kernel))
      (λ _. more-outs h (with_verdict refused.verdict t (stepped refused z)) [] refl refl (λ g i. subst (In g) (sym e) (Behind i)) none-new y)
      (λ no. more-outs h (with_verdict routed.verdict t (stepped routed z)) routed.sent refl refl (λ g i. subst (In g) (sym e) (Behind i))
      (routed-outs t f h.supervised (y.arrived f (subst (In f) (sym e) Here))
      (λ q o same. r q fs (e ∙ ap (λ g. g ∷ fs) same) now o (subst (λ g. is_some (route_up_refusal t g h.supervised.kernel) ≡ false) same no))) y)

  greeting-hub : (h : HubState) (o : Option ℕ) → (o ≡ None → IsNow h) → Routes h → HubHas h → HubHas (after_greeting h o)
  greeting-hub h None now r y = first-hub h h.arrived refl (now refl) r y
  greeting-hub h (Some t) now r y =
      either HubHas (is_active_for t h.supervised) (greeted t h) (postponing h)
      (λ _. more-outs h (greeted t h) ((t, frame.Hello (record { generation = h.supervised.kernel.generation })) ∷ []) refl refl (λ f i. i)
      (λ n f i. subst (H n) (sym (pair-first n t f _ (In-one i)).1) (plain-heard n _ tt)) y)
      (λ _. more-outs h (postponing h) [] (sym (append-nil h.outputs)) refl (λ f i. i) none-new y)

  telling-hub : (h : HubState) (ts : List ℕ) → h.untold ≡ ts → Routes h → HubHas h → HubHas (after_told h ts)
  telling-hub h [] e r y = greeting-hub h (greeted_next h.greetings h.early) (λ g. inr (e, g)) r y
  telling-hub h (t ∷ ts) e r y = more-outs h (after_told h (t ∷ ts)) _ refl refl (λ f i. i) (λ n f i. outs-other _ n f i) y

  advanced-hub : (h : HubState) → Routes h → HubHas h → HubHas (advanced h)
  advanced-hub h r y =
      either HubHas (is_some h.supervised.broker) (after_told h h.untold) (after_first h h.arrived) (λ _. telling-hub h h.untold refl r y) (λ n. first-hub h h.arrived refl (inl n) r y)

  -- Clients

  -- The part of a line that belongs to its client.
  record ClientHas (s : ℕ) (c : ClientState) : Type 0 where
    posts : (f : Frame) → In (unsent.Post f) c.unsent → P s f
    report : (f : Frame) → In f c.report → IsNoPost f
    came : (f : Frame) → In f c.arrived → H s f

  client-of : (s : ℕ) (x : Line) → LineHas s x → ClientHas s x.client
  client-of s x y = record { posts = y.posts; report = y.report; came = y.came }

  with-client : (s : ℕ) (x : Line) (c : ClientState) → LineHas s x → ClientHas s c → LineHas s (record x { client = c })
  with-client s x c y d = record { posts = d.posts; report = d.report; up = y.up; down = y.down; came = d.came }

  -- More items that are no posts.
  more-items : (s : ℕ) (c : ClientState) (us : List Unsent) → ((f : Frame) → In (unsent.Post f) us → P s f) → ClientHas s c → (f : Frame) → In (unsent.Post f) (c.unsent ++ us) → P s f
  more-items s c us q y f i = ⊎_elim (λ a. y.posts f a) (λ a. q f a) (In-append_cases c.unsent us i)

  choice-client : (s : ℕ) (b : Bool) (c d : ClientState) → (b ≡ true → ClientHas s c) → (b ≡ false → ClientHas s d) → ClientHas s (cond b c d)
  choice-client s b c d f g = either (ClientHas s) b c d f g

  unless-client : {F : Type 0} → (s : ℕ) (r : Option F) (c d : ClientState) → ClientHas s c → (is_some r ≡ false → ClientHas s d) → ClientHas s (unless r c d)
  unless-client s r c d y f = choice-client s (is_some r) c d (λ _. y) f

  command-client : (s : ℕ) (F : TabState → TabState) (c : ClientState) → ClientHas s c → ClientHas s (after_command F c)
  command-client s F c y = record { posts = more-items s c (unsent.Command (length c.locks.issued) ∷ []) (λ f i. absurd (no-command f (length c.locks.issued) i)) y; report = y.report; came = y.came }

  resend-client : (s : ℕ) (c : ClientState) → ClientHas s c → ClientHas s (record c { unsent = c.unsent ++ unsent.Resend ∷ [] })
  resend-client s c y = record { posts = more-items s c (unsent.Resend ∷ []) (λ f i. absurd (no-resend f i)) y; report = y.report; came = y.came }

  told-client : (s : ℕ) (e : Effect) (a : TabState) (c : ClientState) → ClientHas s c → ClientHas s (client_after_told e a c)
  told-client s e a c y = record { posts = more-items s c (cond (is_entering e) (unsent.Resend ∷ []) []) none y; report = y.report; came = y.came }
    where
      none : (f : Frame) → In (unsent.Post f) (cond (is_entering e) (unsent.Resend ∷ []) []) → P s f
      none f = either (λ zs. In (unsent.Post f) zs → P s f) (is_entering e) (unsent.Resend ∷ []) [] (λ _ i. absurd (no-resend f i)) (λ _ i. absurd (In-nil i))

  delivery-client : (s : ℕ) (f : Frame) (c : ClientState) → ClientHas s c → ClientHas s (after_delivery f c)
  delivery-client s (frame.Heard h) c y = record { posts = y.posts; report = y.report; came = y.came }
  delivery-client s f c y = told-client s (arrival f c.locks) (told (delivery f c.locks).0) c y

  welcome-client : (s : ℕ) (o : Option (ℕ × Bool)) (c : ClientState) → ClientHas s c → ClientHas s (after_welcome o c)
  welcome-client s None c y = y
  welcome-client s (Some w) c y = record { posts = y.posts; report = y.report; came = y.came }

  oldest-client : (s : ℕ) (fs : List Frame) (c : ClientState) → c.arrived ≡ fs → ClientHas s c → ClientHas s (client_after_first fs c)
  oldest-client s [] c e y = y
  oldest-client s (f ∷ fs) c e y =
      let r = record c { arrived = fs } in
      let z : ClientHas s r = record { posts = y.posts; report = y.report; came = λ g i. y.came g (subst (In g) (sym e) (Behind i)) } in
      choice-client s c.is_welcomed (client_after_frame f r) (after_welcome (welcome_of f) r)
      (λ _. choice-client s (is_hello_of c.locks.entered f) (record r { unsent = r.unsent ++ unsent.Resend ∷ [] }) (after_delivery f r) (λ _. resend-client s r z) (λ _. delivery-client s f r z))
      (λ _. welcome-client s (welcome_of f) r z)

  -- The frame that a client sends.
  record SendingHas (s : ℕ) (z : Sending) : Type 0 where
    client : ClientHas s z.client
    frame : (f : Frame) → z.frame ≡ Some f → P s f

  no-frame : (s : ℕ) (f : Frame) → None ≡ Some f → P s f
  no-frame s f e = absurd (go f e)
    where
      go : (f : Frame) → None ≡ Some f → ⊥
      go f e = cc

  one-frame : (s : ℕ) (g f : Frame) → P s g → Some g ≡ Some f → P s f
  one-frame s g f y e = subst (P s) (go g f e) y
    where
      go : (g f : Frame) → Some g ≡ Some f → g ≡ f
      go g f e = cc

  command-frame : (s : ℕ) (r : Option MessageFault) (a : TabState) (k : ℕ) (f : Frame) → unless_refused r (command_frame a k) ≡ Some f → P s f
  command-frame s None a k f e = one-frame s (command_frame a k) f (plain-post s (command_frame a k) tt) e
  command-frame s (Some r) a k f e = no-frame s f e

  report-traced : (a : TabState) (f : Frame) → In f (cond (is_report_due a) (report_frames a) []) → IsNoPost f
  report-traced a f =
      either (λ zs. In f zs → IsNoPost f) (is_report_due a) (report_frames a) []
      (λ _ i. let o = In-map_cases upward_frame (report_bodies a.in_parts a.report) i in subst IsNoPost (sym o.2) (body-none o.0))
      (λ _ i. absurd (In-nil i))

  item-traced : (s : ℕ) (us : List Unsent) (c : ClientState) → c.unsent ≡ us → ClientHas s c → SendingHas s (sending_item us c)
  item-traced s [] c e y = record { client = y; frame = no-frame s }
  item-traced s (unsent.Resend ∷ us) c e y = record {
    client = record { posts = λ f i. y.posts f (subst (In (unsent.Post f)) (sym e) (Behind i)); report = report-traced c.locks; came = y.came };
    frame = no-frame s;
  }
  item-traced s (unsent.Command k ∷ us) c e y = record {
    client = record { posts = λ f i. y.posts f (subst (In (unsent.Post f)) (sym e) (Behind i)); report = y.report; came = y.came };
    frame = command-frame s (message_refusal c.locks k) c.locks k;
  }
  item-traced s (unsent.Post g ∷ us) c e y = record {
    client = record { posts = λ f i. y.posts f (subst (In (unsent.Post f)) (sym e) (Behind i)); report = y.report; came = y.came };
    frame = λ f q. one-frame s g f (y.posts g (subst (In (unsent.Post g)) (sym e) Here)) q;
  }

  due-traced : (s : ℕ) (ks : List ℕ) (c : ClientState) → ClientHas s c → SendingHas s (sending_due ks c)
  due-traced s [] c y = item-traced s c.unsent c refl y
  due-traced s (k ∷ ks) c y = record { client = record { posts = y.posts; report = y.report; came = y.came }; frame = command-frame s (message_refusal c.locks k) c.locks k }

  sending-traced : (s : ℕ) (fs : List Frame) (c : ClientState) → c.report ≡ fs → ClientHas s c → SendingHas s (sending_report fs c)
  sending-traced s [] c e y = due-traced s c.due c y
  sending-traced s (f ∷ fs) c e y = record {
    client = record { posts = y.posts; report = λ g i. y.report g (subst (In g) (sym e) (Behind i)); came = y.came };
    frame = λ g q. one-frame s f g (plain-post s f (y.report f (subst (In f) (sym e) Here))) q;
  }

  -- Steps of a client

  line-parts : (l : Library) (u : ℕ) (x : Line) → Has l → LineHas u x → Has (with_line u x l)
  line-parts l u x y z = record { lines = each_line LineHas u x l.lines z y.lines; hub = y.hub }

  call-parts : (l : Library) (u : ℕ) (f : ClientState → ClientState) → Has l → (runs l u ≡ true → ClientHas u (f (client_of l u))) → Has (calls u f l)
  call-parts l u f y z =
      either Has (runs l u) (with_line u (record (l.lines u) { client = f (client_of l u) }) l) l
      (λ r. line-parts l u (record (l.lines u) { client = f (client_of l u) }) y (with-client u (l.lines u) (f (client_of l u)) (y.lines u) (z r)))
      (λ _. y)

  -- The client posts.
  post-client : (u k : ℕ) (bytes : List ℕ) (c : ClientState) → P u (post_frame c.channels.posts (name_at c.channels.objects k) bytes) → ClientHas u c → ClientHas u (after_post k bytes c)
  post-client u k bytes c made y =
      let g = post_frame c.channels.posts (name_at c.channels.objects k) bytes in
      record {
        posts = more-items u c (unsent.Post g ∷ []) (λ f i. subst (P u) (sym (same-post f g (In-one i))) made) y;
        report = y.report;
        came = y.came;
      }

  fed-parts : (l : Library) (u n : ℕ) (fs : List Frame) → Has l → Has (hub_fed u n fs l)
  fed-parts l u n [] y =
      let x = l.lines u in
      let z = y.lines u in
      record {
        lines = each_line LineHas u (record x { up = drop n x.up }) l.lines (record { posts = z.posts; report = z.report; up = λ f i. z.up f (In-drop n x.up i); down = z.down; came = z.came }) y.lines;
        hub = record { outs = y.hub.outs; arrived = λ f i. z.up f (In-take n x.up i) };
      }
  fed-parts l u n (f ∷ fs) y = y

  sent-parts : (l : Library) (os : List (ℕ × Frame)) → l.hub.outputs ≡ os → Has l → Has (hub_sends_from os l)
  sent-parts l [] e y = y
  sent-parts l (o ∷ os) e y =
      let x = l.lines o.0 in
      let z = y.lines o.0 in
      let longer = record x { down = x.down ++ o.1 ∷ [] } in
      let rest = with_hub (record l.hub { outputs = os }) l in
      let dropped : Has rest = record { lines = y.lines; hub = record { outs = λ t f i. y.hub.outs t f (subst (In (t, f)) (sym e) (Behind i)); arrived = y.hub.arrived } } in
      either Has (is_due l.hub o) (with_line o.0 longer rest) rest
      (λ _. record {
        lines = each_line LineHas o.0 longer l.lines (record {
          posts = z.posts;
          report = z.report;
          up = z.up;
          down = λ f i. ⊎_elim (λ a. z.down f a) (λ a. subst (H o.0) (sym (In-one a)) (y.hub.outs o.0 o.1 (subst (In (o.0, o.1)) (sym e) Here))) (In-append_cases x.down (o.1 ∷ []) i);
          came = z.came;
        }) y.lines;
        hub = dropped.hub;
      })
      (λ _. dropped)

  client_fed-line : (u n : ℕ) (x : Line) (fs : List Frame) → LineHas u x → LineHas u (client_fed n fs x)
  client_fed-line u n x [] z = record { posts = z.posts; report = z.report; up = z.up; down = λ f i. z.down f (In-drop n x.down i); came = λ f i. z.down f (In-take n x.down i) }
  client_fed-line u n x (f ∷ fs) z = z

  followed : (s : ℕ) (fs : List Frame) (o : Option Frame) → ((f : Frame) → In f fs → P s f) → ((f : Frame) → o ≡ Some f → P s f) → (f : Frame) → In f (followed_by fs o) → P s f
  followed s fs None y z f i = y f i
  followed s fs (Some g) y z f i = ⊎_elim (λ a. y f a) (λ a. subst (P s) (sym (In-one a)) (z g refl)) (In-append_cases fs (g ∷ []) i)

  -- Steps

  -- The facts about one step that depend on what is said of the frames.
  pub record Special (l : Library) (x : Step) : Type 0 where
    pub routes : x ≡ HubAdvances → Routes l.hub
    pub makes : (u k : ℕ) (bytes : List ℕ) → x ≡ Posts u k bytes → runs l u ≡ true → is_some (channel_refusal (posting_refusal k bytes (client_of l u).channels) (client_of l u)) ≡ false
        → P u (post_frame (client_of l u).channels.posts (name_at (client_of l u).channels.objects k) bytes)
    pub forges : (t : ℕ) (f : Frame) → x ≡ Forges t f → (is_taken l t && lives_in l t) ≡ true → P t f

  pub step-parts : (l : Library) (x : Step) → Special l x → Has l → Has (step x l)
  unfolding step
  step-parts l (Opens t (Err f) i) s y = y
  step-parts l (Opens t (Ok p) i) s y =
      either Has (is_some (page_refusal t (Ok p) l.hub)) l (with_line t new_line (with_hub (hub_opened t p i l.hub) l))
      (λ _. y)
      (λ _. record {
        lines = each_line LineHas t new_line l.lines (record { posts = λ f j. absurd (In-nil j); report = λ f j. absurd (In-nil j); up = λ f j. absurd (In-nil j); down = λ f j. absurd (In-nil j); came = λ f j. absurd (In-nil j) }) y.lines;
        hub = opened-hub t p i l.hub y.hub;
      })
  step-parts l (Closes t) s y =
      either Has (lives_in l t) (with_hub (hub_closed t l.hub) l) l (λ _. record { lines = y.lines; hub = closed-hub t _ (record { outs = y.hub.outs; arrived = y.hub.arrived }) }) (λ _. y)
  step-parts l Restarts s y = record { lines = y.lines; hub = started-hub (hub_down l.hub) (down-hub l.hub y.hub) }
  step-parts l Stops s y = record { lines = y.lines; hub = down-hub l.hub y.hub }
  step-parts l (HubReceives t n) s y = either Has (lives_in l t) (hub_fed t n l.hub.arrived l) l (λ _. fed-parts l t n l.hub.arrived y) (λ _. y)
  step-parts l HubAdvances s y = record { lines = y.lines; hub = advanced-hub l.hub (s.routes refl) y.hub }
  step-parts l HubSends s y = sent-parts l l.hub.outputs refl y
  step-parts l (Asks t mode b name) s y =
      let c = client_of l t in
      let k = client-of t (l.lines t) (y.lines t) in
      call-parts l t (asks mode b name) y (λ _. unless-client t (call_refusal (ask_refusal c.locks name) c) c (after_command (asked mode b name) c) k (λ _. command-client t (asked mode b name) c k))
  step-parts l (Queries t) s y =
      let c = client_of l t in
      let k = client-of t (l.lines t) (y.lines t) in
      call-parts l t queries y (λ _. unless-client t (call_refusal (query_refusal c.locks) c) c (after_command queried c) k (λ _. command-client t queried c k))
  step-parts l (Aborts t n) s y =
      let c = client_of l t in
      let k = client-of t (l.lines t) (y.lines t) in
      call-parts l t (aborts n) y (λ _. unless-client t (call_refusal None c) c (after_abort n c) k (λ _. choice-client t (is_pending c.locks n && is_asked (status_of c.locks n)) (after_command (aborted n) c) c (λ _. command-client t (aborted n) c k) (λ _. k)))
  step-parts l (Releases t n) s y =
      let c = client_of l t in
      let k = client-of t (l.lines t) (y.lines t) in
      call-parts l t (releases n) y (λ _. unless-client t (call_refusal None c) c (after_release n c) k (λ _. choice-client t (is_holding c.locks n) (after_command (released n) c) c (λ _. command-client t (released n) c k) (λ _. k)))
  step-parts l (Resends t) s y =
      let c = client_of l t in
      let k = client-of t (l.lines t) (y.lines t) in
      call-parts l t resends y (λ _. unless-client t (call_refusal None c) c (record c { unsent = c.unsent ++ unsent.Resend ∷ [] }) k (λ _. resend-client t c k))
  step-parts l (OpensChannel t name) s y =
      let c = client_of l t in
      let k = client-of t (l.lines t) (y.lines t) in
      call-parts l t (opens_channel name) y (λ _. unless-client t (channel_refusal (option_map Fault (open_refusal name c.channels)) c) c (with_channels (opened name c.channels) c) k (λ _. record { posts = k.posts; report = k.report; came = k.came }))
  step-parts l (Posts t n bytes) s y =
      let c = client_of l t in
      let k = client-of t (l.lines t) (y.lines t) in
      call-parts l t (posts n bytes) y (λ r. unless-client t (channel_refusal (posting_refusal n bytes c.channels) c) c (after_post n bytes c) k (λ e. post-client t n bytes c (s.makes t n bytes refl r e) k))
  step-parts l (Reads t n) s y =
      let c = client_of l t in
      let k = client-of t (l.lines t) (y.lines t) in
      call-parts l t (reads n) y (λ _. unless-client t (channel_refusal (number_refusal n c.channels) c) c (with_channels (read_at n c.channels) c) k (λ _. record { posts = k.posts; report = k.report; came = k.came }))
  step-parts l (ClosesChannel t n) s y =
      let c = client_of l t in
      let k = client-of t (l.lines t) (y.lines t) in
      call-parts l t (after_close n) y (λ _. choice-client t (c.is_welcomed && is_open_at c.channels.objects n) (with_channels (closed_at n c.channels) c) c (λ _. record { posts = k.posts; report = k.report; came = k.came }) (λ _. k))
  step-parts l (TakesEvent t) s y =
      let k = client-of t (l.lines t) (y.lines t) in
      call-parts l t takes_event y (λ _. record { posts = k.posts; report = k.report; came = k.came })
  step-parts l (ClientReceives t n) s y =
      either Has (runs l t) (with_line t (client_fed n (client_of l t).arrived (l.lines t)) l) l (λ _. line-parts l t _ y (client_fed-line t n (l.lines t) (client_of l t).arrived (y.lines t))) (λ _. y)
  step-parts l (ClientAdvances t) s y = call-parts l t client_advanced y (λ _. oldest-client t (client_of l t).arrived (client_of l t) refl (client-of t (l.lines t) (y.lines t)))
  step-parts l (ClientSends t) s y =
      let x = l.lines t in
      let z = sending x.client in
      let k = sending-traced t x.client.report x.client refl (client-of t x (y.lines t)) in
      either Has (runs l t) (with_line t (record x { client = z.client; up = followed_by x.up z.frame }) l) l
      (λ _. line-parts l t (record x { client = z.client; up = followed_by x.up z.frame }) y (record {
        posts = k.client.posts;
        report = k.client.report;
        up = followed t x.up z.frame (y.lines t).up k.frame;
        down = (y.lines t).down;
        came = k.client.came;
      }))
      (λ _. y)
  step-parts l (TakesOver t) s y = either Has (lives_in l t) (record l { taken = taken_over t l.taken }) l (λ _. record { lines = y.lines; hub = y.hub }) (λ _. y)
  step-parts l (Forges t f) s y =
      let x = l.lines t in
      let z = y.lines t in
      either Has (is_taken l t && lives_in l t) (with_line t (record x { up = x.up ++ f ∷ [] }) l) l
      (λ b. line-parts l t (record x { up = x.up ++ f ∷ [] }) y (record {
        posts = z.posts;
        report = z.report;
        up = λ g i. ⊎_elim (λ a. z.up g a) (λ a. subst (P t) (sym (In-one a)) (s.forges t f refl b)) (In-append_cases x.up (f ∷ []) i);
        down = z.down;
        came = z.came;
      }))
      (λ _. y)
