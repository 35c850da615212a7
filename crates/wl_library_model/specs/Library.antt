-- A program that links the library, as one state machine: a hub, the clients of its tabs, and the links between them.
use Rattle.std.specs.Prelude.{ℕ, List, [], ◌∷◌, ◌++◌, Bool, not, ◌&&◌, ◌==◌, take, drop, option_map, Option, Some, None, is_some, replicate, Result, if◌then◌else◌}
use Rattle.std.specs.List.{list_any}
use Rattle.wl_origin.specs.Order.{Pair}
use Rattle.wl_origin.specs.declared.fault.OriginFault.{OriginFault}
use Rattle.wl_draft.specs.declared.mode.Mode.{Mode}
use Rattle.wl_grammar.specs.declared.frame.Frame.{Frame}
use Rattle.wl_agent.specs.Tab.{TabState, command_frame, message_refusal, asked, queried, ask_refusal, query_refusal}
use Rattle.wl_agent.specs.declared.fault.MessageFault.{MessageFault}
use Rattle.wl_broadcast.specs.Channels.{opened, open_refusal, read_at}
use Rattle.wl_tab.specs.TabChannels.{number_refusal, posting_refusal}
use Rattle.wl_tab.specs.declared.channels.ChannelRefusal.TheVariants.{Fault}
use Rattle.wl_kernel.specs.Kernel.{is_living}
use Rattle.wl_client.specs.declared.client.Event.{Event}
use Rattle.wl_client.specs.declared.client.Unsent.{Unsent}
use Rattle.wl_client.specs.declared.client.Unsent.TheVariants as unsent
use Rattle.wl_client.specs.Client.{ClientState, new_client, call_refusal, channel_refusal, after_command, after_abort, after_release, after_post, after_close, with_channels}
use Rattle.wl_client.specs.Client.{advanced as client_advanced}
use Rattle.wl_client.specs.Sending.{after_item}
use Rattle.wl_hub.specs.Hub.{HubState, new_hub, page_refusal, page_opened, hub_closed, hub_down, hub_restarted}
use Rattle.wl_hub.specs.Hub.{advanced as hub_advanced}
use Rattle.wl_hub.specs.Sending.{is_current}
use Rattle.wl_world_model.specs.World.{taken_over}

-- The state

-- A tab's client, and the frames on their way from it to the hub and from the hub to it, oldest first.
pub record Line : Type 0 where
  pub client : ClientState
  pub up : List Frame
  pub down : List Frame

abbrev pub new_line : Line
new_line = record { client = new_client; up = []; down = [] }

pub record Library : Type 0 where
  pub hub : HubState
  pub lines : ℕ → Line  -- the line of each tab number
  pub taken : List ℕ  -- the tabs that were taken over

abbrev pub new_library : Library
new_library = record { hub = new_hub; lines = λ t. new_line; taken = [] }

abbrev pub client_of : Library → ℕ → ClientState
client_of l t = (l.lines t).client

abbrev pub lives : Library → ℕ → Bool
lives l t = is_living l.hub.supervised.kernel t

-- Whether the tab was taken over.
abbrev pub is_taken : Library → ℕ → Bool
is_taken l t = list_any (λ u. u == t) l.taken

-- The tab's process runs this client: the tab lives and was not taken over.
abbrev pub runs : Library → ℕ → Bool
runs l t = lives l t && not (is_taken l t)

abbrev pub with_hub : HubState → Library → Library
with_hub h l = record l { hub = h }

abbrev pub with_line : ℕ → Line → Library → Library
with_line t x l = record l { lines = λ u. if u == t then x else l.lines u }

-- Steps of the hub

-- `Hub::open` and `Hub::open_pair`. The tab's process starts with a new client and empty links.
abbrev pub opens : ℕ → Result Pair OriginFault → Bool → Library → Library
opens t page is_pair l =
    if is_some (page_refusal t page l.hub) then l else with_line t new_line (with_hub (page_opened t page is_pair l.hub) l)

-- `Hub::close`. The tab's process has ended.
abbrev pub closes : ℕ → Library → Library
closes t l = if lives l t then with_hub (hub_closed t l.hub) l else l

-- `Hub::receive`. The next `n` frames of a living tab arrive. If earlier frames are not handled yet, nothing happens.
abbrev pub hub_fed : ℕ → ℕ → List Frame → Library → Library
hub_fed t n [] l =
    let x = l.lines t in
    with_line t (record x { up = drop n x.up }) (with_hub (record l.hub { sender = t; arrived = take n x.up }) l)
hub_fed t n (f ∷ fs) l = l

abbrev pub hub_receives : ℕ → ℕ → Library → Library
hub_receives t n l = if lives l t then hub_fed t n l.hub.arrived l else l

-- A frame for a tab is due if the tab lives, and the frame belongs to no generation or to the last one that was started.
abbrev pub is_due : HubState → ℕ × Frame → Bool
is_due h o = is_living h.supervised.kernel o.0 && is_current h.supervised.kernel.generation o.1

-- `Hub::next_output`. The oldest frame for a tab joins those on their way to it if it is due, and is dropped otherwise.
abbrev pub hub_sends_from : List (ℕ × Frame) → Library → Library
hub_sends_from [] l = l
hub_sends_from (o ∷ os) l =
    let x = l.lines o.0 in
    let m = with_hub (record l.hub { outputs = os }) l in
    if is_due l.hub o then with_line o.0 (record x { down = x.down ++ o.1 ∷ [] }) m else m

-- Steps of a client

-- A call of a client. A tab that is dead or was taken over makes none.
abbrev pub calls : ℕ → (ClientState → ClientState) → Library → Library
calls t call l = if runs l t then with_line t (record (l.lines t) { client = call (client_of l t) }) l else l

-- A call that is refused changes nothing.
abbrev pub unless : {F : Type 0} → Option F → ClientState → ClientState → ClientState
unless refusal c after = if is_some refusal then c else after

abbrev pub asks : Mode → Bool → List ℕ → ClientState → ClientState
asks mode if_available name c = unless (call_refusal (ask_refusal c.locks name) c) c (after_command (asked mode if_available name) c)

abbrev pub queries : ClientState → ClientState
queries c = unless (call_refusal (query_refusal c.locks) c) c (after_command queried c)

abbrev pub aborts : ℕ → ClientState → ClientState
aborts k c = unless (call_refusal None c) c (after_abort k c)

abbrev pub releases : ℕ → ClientState → ClientState
releases k c = unless (call_refusal None c) c (after_release k c)

abbrev pub resends : ClientState → ClientState
resends c = unless (call_refusal None c) c (record c { unsent = c.unsent ++ unsent.Resend ∷ [] })

abbrev pub opens_channel : List ℕ → ClientState → ClientState
opens_channel name c = unless (channel_refusal (option_map Fault (open_refusal name c.channels)) c) c (with_channels (opened name c.channels) c)

abbrev pub posts : ℕ → List ℕ → ClientState → ClientState
posts k bytes c = unless (channel_refusal (posting_refusal k bytes c.channels) c) c (after_post k bytes c)

abbrev pub reads : ℕ → ClientState → ClientState
reads k c = unless (channel_refusal (number_refusal k c.channels) c) c (with_channels (read_at k c.channels) c)

abbrev pub rest_of : List Event → List Event
rest_of [] = []
rest_of (e ∷ es) = es

abbrev pub takes_event : ClientState → ClientState
takes_event c = record c { events = rest_of c.events }

-- `Client::receive`. The next `n` frames for the client arrive. If earlier frames are not handled yet, nothing happens.
abbrev pub client_fed : ℕ → List Frame → Line → Line
client_fed n [] x = record x { client = record x.client { arrived = take n x.down }; down = drop n x.down }
client_fed n (f ∷ fs) x = x

abbrev pub client_receives : ℕ → ℕ → Library → Library
client_receives t n l = if runs l t then with_line t (client_fed n (client_of l t).arrived (l.lines t)) l else l

-- `Client::next_output` takes the oldest item, which may have no frame. A report comes first, then the commands that are
-- due, and then the other items.

abbrev pub unless_refused : Option MessageFault → Frame → Option Frame
unless_refused None f = Some f
unless_refused (Some refusal) f = None

abbrev pub item_frame : Unsent → TabState → Option Frame
item_frame unsent.Resend a = None
item_frame (unsent.Command k) a = unless_refused (message_refusal a k) (command_frame a k)
item_frame (unsent.Post f) a = Some f

-- The frame that is sent next, if the oldest item has one, and the client without the item.
pub record Sending : Type 0 where
  pub frame : Option Frame
  pub client : ClientState

abbrev pub sending_item : List Unsent → ClientState → Sending
sending_item [] c = record { frame = None; client = c }
sending_item (u ∷ us) c = record { frame = item_frame u c.locks; client = after_item u us c }

abbrev pub sending_due : List ℕ → ClientState → Sending
sending_due [] c = sending_item c.unsent c
sending_due (k ∷ ks) c = record { frame = unless_refused (message_refusal c.locks k) (command_frame c.locks k); client = record c { due = ks } }

abbrev pub sending_report : List Frame → ClientState → Sending
sending_report [] c = sending_due c.due c
sending_report (f ∷ fs) c = record { frame = Some f; client = record c { report = fs } }

abbrev pub sending : ClientState → Sending
sending c = sending_report c.report c

abbrev pub followed_by : List Frame → Option Frame → List Frame
followed_by fs None = fs
followed_by fs (Some f) = fs ++ f ∷ []

-- `Client::next_output`. The frame, if there is one, joins those on their way to the hub.
abbrev pub client_sends : ℕ → Library → Library
client_sends t l =
    if runs l t then (let x = l.lines t in let s = sending x.client in with_line t (record x { client = s.client; up = followed_by x.up s.frame }) l) else l

-- Tabs that are taken over

abbrev pub takes_over : ℕ → Library → Library
takes_over t l = if lives l t then record l { taken = taken_over t l.taken } else l

-- Only a living tab that was taken over forges. Any frame may come from it.
abbrev pub forges : ℕ → Frame → Library → Library
forges t f l = if is_taken l t && lives l t then (let x = l.lines t in with_line t (record x { up = x.up ++ f ∷ [] }) l) else l

-- Steps and runs

-- A step: a public call of the hub or of a tab's client, or something that a tab that was taken over does.
pub data Step : Type 0 where
  Opens : (t : ℕ) (page : Result Pair OriginFault) (is_pair : Bool) → Step
  Closes : (t : ℕ) → Step
  Restarts : Step
  Stops : Step  -- a restart that fails with the old broker stopped, since memory ran out
  HubReceives : (t n : ℕ) → Step  -- the next n frames of the tab's link
  HubAdvances : Step
  HubSends : Step
  Asks : (t : ℕ) (mode : Mode) (if_available : Bool) (name : List ℕ) → Step  -- `request` and `probe`
  Queries : (t : ℕ) → Step
  Aborts : (t k : ℕ) → Step
  Releases : (t k : ℕ) → Step
  Resends : (t : ℕ) → Step
  OpensChannel : (t : ℕ) (name : List ℕ) → Step
  Posts : (t k : ℕ) (bytes : List ℕ) → Step
  Reads : (t k : ℕ) → Step
  ClosesChannel : (t k : ℕ) → Step
  TakesEvent : (t : ℕ) → Step
  ClientReceives : (t n : ℕ) → Step  -- the next n frames of the tab's link
  ClientAdvances : (t : ℕ) → Step
  ClientSends : (t : ℕ) → Step
  TakesOver : (t : ℕ) → Step
  Forges : (t : ℕ) (f : Frame) → Step

unfoldable pub step : Step → Library → Library
step (Opens t page is_pair) l = opens t page is_pair l
step (Closes t) l = closes t l
step Restarts l = with_hub (hub_restarted l.hub) l
step Stops l = with_hub (hub_down l.hub) l
step (HubReceives t n) l = hub_receives t n l
step HubAdvances l = with_hub (hub_advanced l.hub) l
step HubSends l = hub_sends_from l.hub.outputs l
step (Asks t mode if_available name) l = calls t (asks mode if_available name) l
step (Queries t) l = calls t queries l
step (Aborts t k) l = calls t (aborts k) l
step (Releases t k) l = calls t (releases k) l
step (Resends t) l = calls t resends l
step (OpensChannel t name) l = calls t (opens_channel name) l
step (Posts t k bytes) l = calls t (posts k bytes) l
step (Reads t k) l = calls t (reads k) l
step (ClosesChannel t k) l = calls t (after_close k) l
step (TakesEvent t) l = calls t takes_event l
step (ClientReceives t n) l = client_receives t n l
step (ClientAdvances t) l = calls t client_advanced l
step (ClientSends t) l = client_sends t l
step (TakesOver t) l = takes_over t l
step (Forges t f) l = forges t f l

-- The library after a list of steps.
abbrev pub run_steps : List Step → Library → Library
run_steps [] l = l
run_steps (x ∷ xs) l = run_steps xs (step x l)

-- Steps of a link

-- The next `n` frames of the hub reach the client, which handles them.
abbrev pub to_client : ℕ → ℕ → List Step
to_client t n = replicate n HubSends ++ ClientReceives t n ∷ replicate n (ClientAdvances t)

-- The client takes its next `n` items, and the hub handles the frames of its link, `m` in number.
abbrev pub to_hub : ℕ → ℕ → ℕ → List Step
to_hub t n m = replicate n (ClientSends t) ++ HubReceives t m ∷ replicate m HubAdvances
