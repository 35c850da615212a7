-- The events of the world model that each step of the library is.
use Rattle.std.specs.Prelude.{ℕ, List, [], ◌∷◌, ◌++◌, Bool, ◌&&◌, ◌||◌, not, Option, Some, None, is_some, Result, Ok, Err, if◌then◌else◌}
use Rattle.wl_origin.specs.Order.{Pair}
use Rattle.wl_origin.specs.declared.fault.OriginFault.{OriginFault}
use Rattle.wl_grammar.specs.declared.frame.Frame.{Frame}
use Rattle.wl_grammar.specs.declared.frame.Frame.TheVariants as frame
use Rattle.wl_grammar.specs.declared.frame.Upward.{Upward}
use Rattle.wl_grammar.specs.declared.frame.Upward.TheVariants as up
use Rattle.wl_grammar.specs.declared.frame.Downward.{Downward}
use Rattle.wl_grammar.specs.declared.frame.Downward.TheVariants as down
use Rattle.wl_kernel.specs.Kernel.{KernelState, living_tabs}
use Rattle.wl_kernel.specs.Routes.{route_up_refusal}
use Rattle.wl_supervised_broker.specs.SupervisedStates.{is_active_for}
use Rattle.wl_hub.specs.Early.{greeted_next}
use Rattle.wl_hub.specs.Hub.{page_refusal}
use Rattle.wl_client.specs.Client.{ClientState, is_hello_of}
use Rattle.wl_world_messages.specs.declared.message.Sender.{Sender}
use Rattle.wl_world_messages.specs.declared.message.Sender.TheVariants.{Kernel, Broker}
use Rattle.wl_world_messages.specs.declared.message.Message.TheVariants.{Down, Across}
use Rattle.wl_world_model.specs.declared.event.Event.{Event}
use Rattle.wl_world_model.specs.declared.event.Event.TheVariants as event
use Rattle.wl_world_model.specs.declared.event.Forged.{Forged}
use Rattle.wl_world_model.specs.declared.event.Forged.TheVariants as forged
use Rattle.wl_world_model.specs.Sends.{stamped}
use Rattle.wl_world_model.specs.Holdings.{asking}
use Rattle.wl_library_model.specs.Library.{Library, Step, Opens, Closes, Restarts, Stops, HubReceives, HubAdvances, HubSends, Asks, Queries, Aborts, Releases, Resends, OpensChannel, Posts, Reads, ClosesChannel, TakesEvent, ClientReceives, ClientAdvances, ClientSends, TakesOver, Forges, new_library, client_of, is_taken, runs, step}

-- Steps of the hub

-- The hub greets a new tab if a broker is up. The world refuses the greeting if none is up.
abbrev pub opening_events : ℕ → Result Pair OriginFault → Bool → List Event
opening_events t (Err f) is_pair = []
opening_events t (Ok p) is_pair = (if is_pair then event.OpenTwo t p else event.Open t p) ∷ event.Hello t ∷ []

-- The broker of the next generation starts with all living tabs. The world refuses the stop if no broker is up.
abbrev pub restart_events : KernelState → List Event
restart_events k = event.Stop ∷ event.Start (living_tabs k) ∷ []

-- A tab that was taken over forges the frame when the hub handles it. Any other tab has sent it before.
abbrev pub forging : Bool → ℕ → Forged → List Event
forging is_forged t x = if is_forged then event.Forge t x ∷ [] else []

abbrev pub upward_events : Bool → KernelState → ℕ → Upward → List Event
upward_events is_forged k t x = forging is_forged t (forged.Upward x) ++ event.Deliver (stamped k t x) ∷ []

-- The hub handles a frame of a tab, unless the kernel refuses it.
abbrev pub frame_events : Bool → KernelState → ℕ → Frame → List Event
frame_events is_forged k t (frame.Command c) = upward_events is_forged k t (up.Command c)
frame_events is_forged k t (frame.Report r) = upward_events is_forged k t (up.Report r)
frame_events is_forged k t (frame.ReportPart r) = upward_events is_forged k t (up.ReportPart r)
frame_events is_forged k t (frame.Post p) = forging is_forged t (forged.Post p)
frame_events is_forged k t f = []

abbrev pub first_events : Library → List Frame → List Event
first_events l [] = []
first_events l (f ∷ fs) =
    let h = l.hub in
    if is_some (route_up_refusal h.sender f h.supervised.kernel) then [] else frame_events (is_taken l h.sender) h.supervised.kernel h.sender f

-- An early tab is greeted if its partition is active.
abbrev pub greeting_events : Library → Option ℕ → List Event
greeting_events l None = first_events l l.hub.arrived
greeting_events l (Some t) = if is_active_for t l.hub.supervised then event.Hello t ∷ [] else []

abbrev pub telling_events : Library → List ℕ → List Event
telling_events l [] = greeting_events l (greeted_next l.hub.greetings l.hub.early)
telling_events l (t ∷ ts) = event.Tell t ∷ []

abbrev pub advance_events : Library → List Event
advance_events l = if is_some l.hub.supervised.broker then telling_events l l.hub.untold else first_events l l.hub.arrived

-- Steps of a client

-- A client that was not welcomed refuses each call.
abbrev pub call_events : Library → ℕ → Event → List Event
call_events l t e = if runs l t && (client_of l t).is_welcomed then e ∷ [] else []

abbrev pub delivers : Sender → ℕ → Downward → Event
delivers sender t x = event.Deliver (Down sender (record { tab = t; inner = x }))

-- A hello was sent by the kernel or by the broker. The world refuses a message that was never sent, and the second of
-- two hellos changes nothing. On entering a generation, the tab sends its report and all commands that are due.
abbrev pub delivery_events : ℕ → Frame → List Event
delivery_events t (frame.Hello h) = delivers Kernel t (down.Hello h) ∷ delivers Broker t (down.Hello h) ∷ event.Resend t ∷ []
delivery_events t (frame.Answer x) = delivers Broker t (down.Answer x) ∷ []
delivery_events t (frame.Snapshot x) = delivers Broker t (down.Snapshot x) ∷ []
delivery_events t (frame.Heard h) = event.Deliver (Across t h) ∷ []
delivery_events t f = []

-- A client handles a frame. Before its welcome it drops all frames. A repeated hello makes it send again what the world
-- has sent already.
abbrev pub handling_events : ℕ → ClientState → List Frame → List Event
handling_events t c [] = []
handling_events t c (f ∷ fs) = if not c.is_welcomed || is_hello_of c.locks.entered f then [] else delivery_events t f

abbrev pub receiving_events : Library → ℕ → List Event
receiving_events l t = if runs l t then handling_events t (client_of l t) (client_of l t).arrived else []

-- Steps

unfoldable pub events_of : Library → Step → List Event
events_of l (Opens t page is_pair) = if is_some (page_refusal t page l.hub) then [] else opening_events t page is_pair
events_of l (Closes t) = event.Kill t ∷ []
events_of l Restarts = restart_events l.hub.supervised.kernel
events_of l Stops = event.Stop ∷ []
events_of l (HubReceives t n) = []
events_of l HubAdvances = advance_events l
events_of l HubSends = []
events_of l (Asks t mode if_available name) = call_events l t (asking t mode if_available name)
events_of l (Queries t) = call_events l t (event.Query t)
events_of l (Aborts t k) = call_events l t (event.Abort t k)
events_of l (Releases t k) = call_events l t (event.Release t k)
events_of l (Resends t) = []
events_of l (OpensChannel t name) = call_events l t (event.Channel t name)
events_of l (Posts t k bytes) = call_events l t (event.Post t k bytes)
events_of l (Reads t k) = call_events l t (event.Read t k)
events_of l (ClosesChannel t k) = call_events l t (event.Close t k)
events_of l (TakesEvent t) = []
events_of l (ClientReceives t n) = []
events_of l (ClientAdvances t) = receiving_events l t
events_of l (ClientSends t) = []
events_of l (TakesOver t) = event.Corrupt t ∷ []
events_of l (Forges t f) = []

-- The events of a list of steps.
abbrev pub events_from : Library → List Step → List Event
events_from l [] = []
events_from l (x ∷ xs) = events_of l x ++ events_from (step x l) xs

abbrev pub events : List Step → List Event
events steps = events_from new_library steps
