-- Induction over the steps of a library, for a property of each client's agent.
use Rattle.std.proofs.Common.{◌≡◌, ℕ, Bool, true, false, ◌&&◌, List, [], ◌∷◌, ◌++◌, Option, Some, None, is_some, subst}
use Rattle.std.specs.Prelude.{◌==◌, option_map, drop, take, if◌then◌else◌}
use Rattle.wl_draft.specs.declared.mode.Mode.{Mode}
use Rattle.wl_draft.proofs.Membership.{either}
use Rattle.wl_grammar.specs.declared.frame.Frame.{Frame}
use Rattle.wl_grammar.specs.declared.frame.Frame.TheVariants as frame
use Rattle.wl_limits.specs.declared.tabs.TheConstants.{COMMAND_LIMIT}
use Rattle.wl_agent.specs.Tab.{TabState, born, ask_refusal, query_refusal, status_of, is_asked, asked, queried, aborted, released}
use Rattle.wl_agent.specs.Tokens.{is_pending, is_holding}
use Rattle.wl_agent.specs.Delivery.{delivery}
use Rattle.wl_tab.specs.Tabs.{told}
use Rattle.wl_tab.specs.TabChannels.{number_refusal, posting_refusal}
use Rattle.wl_tab.specs.declared.channels.ChannelRefusal.TheVariants.{Fault}
use Rattle.wl_broadcast.specs.Channels.{open_refusal, opened, read_at, closed_at, is_open_at}
use Rattle.wl_client.specs.declared.client.Unsent.{Unsent}
use Rattle.wl_client.specs.declared.client.Unsent.TheVariants as unsent
use Rattle.wl_client.specs.Client.{ClientState, call_refusal, channel_refusal, with_channels, after_command, after_post, after_close, welcome_of, after_welcome, is_hello_of, after_delivery, after_frame, after_first}
use Rattle.wl_client.specs.Client.{advanced as client_advanced}
use Rattle.wl_hub.specs.Hub.{page_refusal, page_opened, hub_closed}
use Rattle.wl_world_model.specs.World.{taken_over}
use Rattle.wl_library_model.specs.Library.{Library, Line, Step, Opens, Closes, Restarts, Stops, HubReceives, HubAdvances, HubSends, Asks, Queries, Aborts, Releases, Resends, OpensChannel, Posts, Reads, ClosesChannel, TakesEvent, ClientReceives, ClientAdvances, ClientSends, TakesOver, Forges, new_library, new_line, client_of, lives, is_taken, runs, with_line, with_hub, hub_fed, is_due, hub_sends_from, calls, unless, asks, queries, aborts, releases, resends, opens_channel, posts, reads, takes_event, client_fed, sending_item, sending_due, sending_report, sending, followed_by, step, run_steps}
use Rattle.wl_quiescence.proofs.Reached.{IsReached, reached-first, reached-next}
use Rattle.wl_quiescence.proofs.calls.Steps.{not-refused}

-- Property `P` of an agent that each call of the agent keeps. `Q` holds of the agent of each welcomed client.
pub record KeptByClient (Q P : TabState → Type 0) : Type 0 where
  pub born : (i : Bool) (t n : ℕ) → P (born i t n)
  pub asks : (mode : Mode) (b : Bool) (name : List ℕ) (a : TabState) → Q a → is_some (ask_refusal a name) ≡ false → P a → P (asked mode b name a)
  pub queries : (a : TabState) → Q a → P a → P (queried a)
  pub aborts : (k : ℕ) (a : TabState) → Q a → P a → P (aborted k a)
  pub releases : (k : ℕ) (a : TabState) → Q a → P a → P (released k a)
  pub hears : (f : Frame) (a : TabState) → Q a → P a → P (told (delivery f a).0)

abbrev pub IsKnownOf : (TabState → Type 0) → Library → Type 0
IsKnownOf Q l = (t : ℕ) → (client_of l t).is_welcomed ≡ true → Q (client_of l t).locks

module _ (Q P : TabState → Type 0) (k : KeptByClient Q P) where
  abbrev Has : ClientState → Type 0
  Has c = P c.locks

  abbrev All : Library → Type 0
  All l = (t : ℕ) → Has (client_of l t)

  -- Frames

  heard-kept : (f : Frame) (c : ClientState) → Q c.locks → Has c → Has (after_delivery f c)
  heard-kept (frame.Heard h) c q p = p
  heard-kept f c q p = k.hears f c.locks q p

  frame-kept : (f : Frame) (c : ClientState) → Q c.locks → Has c → Has (after_frame f c)
  frame-kept f c q p = either Has (is_hello_of c.locks.entered f) (record c { unsent = c.unsent ++ unsent.Resend ∷ [] }) (after_delivery f c) (λ _. p) (λ _. heard-kept f c q p)

  welcome-kept : (o : Option (ℕ × Bool)) (c : ClientState) → Has c → Has (after_welcome o c)
  welcome-kept None c p = p
  welcome-kept (Some w) c p = k.born w.1 w.0 COMMAND_LIMIT

  first-kept : (fs : List Frame) (c : ClientState) → (c.is_welcomed ≡ true → Q c.locks) → Has c → Has (after_first fs c)
  first-kept [] c q p = p
  first-kept (f ∷ fs) c q p =
      either Has c.is_welcomed (after_frame f (record c { arrived = fs })) (after_welcome (welcome_of f) (record c { arrived = fs }))
      (λ y. frame-kept f (record c { arrived = fs }) (q y) p) (λ _. welcome-kept (welcome_of f) (record c { arrived = fs }) p)

  item-kept : (us : List Unsent) (c : ClientState) → Has c → Has (sending_item us c).client
  item-kept [] c p = p
  item-kept (unsent.Resend ∷ us) c p = p
  item-kept (unsent.Command n ∷ us) c p = p
  item-kept (unsent.Post g ∷ us) c p = p

  due-kept : (ns : List ℕ) (c : ClientState) → Has c → Has (sending_due ns c).client
  due-kept [] c p = item-kept c.unsent c p
  due-kept (n ∷ ns) c p = p

  report-kept : (fs : List Frame) (c : ClientState) → Has c → Has (sending_report fs c).client
  report-kept [] c p = due-kept c.due c p
  report-kept (f ∷ fs) c p = p

  -- Lines

  line-kept : (t : ℕ) (y : Line) (l : Library) → Has y.client → All l → All (with_line t y l)
  line-kept t y l p h u = either (λ (z : Line). Has z.client) (u == t) y (l.lines u) (λ _. p) (λ _. h u)

  if-kept : (b : Bool) (l m : Library) → All l → All m → All (if b then m else l)
  if-kept b l m p q = either All b m l (λ _. q) (λ _. p)

  call-kept : (t : ℕ) (call : ClientState → ClientState) (l : Library) → Has (call (client_of l t)) → All l → All (calls t call l)
  call-kept t call l p h = if-kept (runs l t) l (with_line t (record (l.lines t) { client = call (client_of l t) }) l) h (line-kept t (record (l.lines t) { client = call (client_of l t) }) l p h)

  unless-kept : {F : Type 0} (o : Option F) (c d : ClientState) → Has c → (is_some o ≡ false → Has d) → Has (unless o c d)
  unless-kept o c d p q = either Has (is_some o) c d (λ _. p) q

  fed-kept : (n : ℕ) (fs : List Frame) (x : Line) → Has x.client → Has (client_fed n fs x).client
  fed-kept n [] x p = p
  fed-kept n (f ∷ fs) x p = p

  hub_fed-kept : (t n : ℕ) (fs : List Frame) (l : Library) → All l → All (hub_fed t n fs l)
  hub_fed-kept t n [] l h = line-kept t (record (l.lines t) { up = drop n (l.lines t).up }) (with_hub (record l.hub { sender = t; arrived = take n (l.lines t).up }) l) (h t) h
  hub_fed-kept t n (f ∷ fs) l h = h

  sends-kept : (os : List (ℕ × Frame)) (l : Library) → All l → All (hub_sends_from os l)
  sends-kept [] l h = h
  sends-kept (o ∷ os) l h =
      let m = with_hub (record l.hub { outputs = os }) l in
      let y = record (l.lines o.0) { down = (l.lines o.0).down ++ o.1 ∷ [] } in
      either All (is_due l.hub o) (with_line o.0 y m) m (λ _. line-kept o.0 y m (h o.0) h) (λ _. h)

  -- Steps

  pub client-step : (x : Step) (l : Library) → IsKnownOf Q l → All l → All (step x l)
  unfolding step
  client-step (Opens t page is_pair) l q h =
      either All (is_some (page_refusal t page l.hub)) l (with_line t new_line (with_hub (page_opened t page is_pair l.hub) l))
      (λ _. h) (λ _. line-kept t new_line (with_hub (page_opened t page is_pair l.hub) l) (k.born false 0 COMMAND_LIMIT) h)
  client-step (Closes t) l q h = if-kept (lives l t) l (with_hub (hub_closed t l.hub) l) h h
  client-step Restarts l q h = h
  client-step Stops l q h = h
  client-step (HubReceives t n) l q h = if-kept (lives l t) l (hub_fed t n l.hub.arrived l) h (hub_fed-kept t n l.hub.arrived l h)
  client-step HubAdvances l q h = h
  client-step HubSends l q h = sends-kept l.hub.outputs l h
  client-step (Asks t mode b name) l q h =
      let c = client_of l t in
      call-kept t (asks mode b name) l (unless-kept (call_refusal (ask_refusal c.locks name) c) c (after_command (asked mode b name) c) (h t)
      (λ n. let r = not-refused (ask_refusal c.locks name) c n in k.asks mode b name c.locks (q t r.0) r.1 (h t))) h
  client-step (Queries t) l q h =
      let c = client_of l t in
      call-kept t queries l (unless-kept (call_refusal (query_refusal c.locks) c) c (after_command queried c) (h t)
      (λ n. k.queries c.locks (q t (not-refused (query_refusal c.locks) c n).0) (h t))) h
  client-step (Aborts t n) l q h =
      let c = client_of l t in
      call-kept t (aborts n) l (unless-kept (call_refusal None c) c _ (h t)
      (λ r. either Has (is_pending c.locks n && is_asked (status_of c.locks n)) (after_command (aborted n) c) c (λ _. k.aborts n c.locks (q t (not-refused None c r).0) (h t)) (λ _. h t))) h
  client-step (Releases t n) l q h =
      let c = client_of l t in
      call-kept t (releases n) l (unless-kept (call_refusal None c) c _ (h t)
      (λ r. either Has (is_holding c.locks n) (after_command (released n) c) c (λ _. k.releases n c.locks (q t (not-refused None c r).0) (h t)) (λ _. h t))) h
  client-step (Resends t) l q h = let c = client_of l t in call-kept t resends l (unless-kept (call_refusal None c) c (record c { unsent = c.unsent ++ unsent.Resend ∷ [] }) (h t) (λ _. h t)) h
  client-step (OpensChannel t name) l q h = let c = client_of l t in call-kept t (opens_channel name) l (unless-kept (channel_refusal (option_map Fault (open_refusal name c.channels)) c) c (with_channels (opened name c.channels) c) (h t) (λ _. h t)) h
  client-step (Posts t n bytes) l q h = let c = client_of l t in call-kept t (posts n bytes) l (unless-kept (channel_refusal (posting_refusal n bytes c.channels) c) c (after_post n bytes c) (h t) (λ _. h t)) h
  client-step (Reads t n) l q h = let c = client_of l t in call-kept t (reads n) l (unless-kept (channel_refusal (number_refusal n c.channels) c) c (with_channels (read_at n c.channels) c) (h t) (λ _. h t)) h
  client-step (ClosesChannel t n) l q h = let c = client_of l t in call-kept t (after_close n) l (either Has (c.is_welcomed && is_open_at c.channels.objects n) (with_channels (closed_at n c.channels) c) c (λ _. h t) (λ _. h t)) h
  client-step (TakesEvent t) l q h = call-kept t takes_event l (h t) h
  client-step (ClientReceives t n) l q h =
      if-kept (runs l t) l (with_line t (client_fed n (client_of l t).arrived (l.lines t)) l) h
      (line-kept t (client_fed n (client_of l t).arrived (l.lines t)) l (fed-kept n (client_of l t).arrived (l.lines t) (h t)) h)
  client-step (ClientAdvances t) l q h = call-kept t client_advanced l (first-kept (client_of l t).arrived (client_of l t) (q t) (h t)) h
  client-step (ClientSends t) l q h =
      let y = record (l.lines t) { client = (sending (client_of l t)).client; up = followed_by (l.lines t).up (sending (client_of l t)).frame } in
      if-kept (runs l t) l (with_line t y l) h (line-kept t y l (report-kept (client_of l t).report (client_of l t) (h t)) h)
  client-step (TakesOver t) l q h = if-kept (lives l t) l (record l { taken = taken_over t l.taken }) h h
  client-step (Forges t f) l q h =
      let y = record (l.lines t) { up = (l.lines t).up ++ f ∷ [] } in
      if-kept (is_taken l t && lives l t) l (with_line t y l) h (line-kept t y l (h t) h)

  -- Libraries that a run reaches

  clients-on : ((l : Library) → IsReached l → IsKnownOf Q l) → (xs : List Step) (l : Library) → IsReached l → All l → All (run_steps xs l)
  clients-on q [] l r h = h
  clients-on q (x ∷ xs) l r h = clients-on q xs (step x l) (reached-next l x r) (client-step x l (q l r) h)

  pub reached-clients : ((l : Library) → IsReached l → IsKnownOf Q l) → (l : Library) → IsReached l → All l
  reached-clients q l r = subst All r.is (clients-on q r.steps new_library reached-first (λ t. k.born false 0 COMMAND_LIMIT))
