-- The client: a tab's locks and channels, what it has still to send, and the events for its page.
use Rattle.std.specs.Prelude.{◌≡◌, ℕ, List, [], ◌∷◌, ◌++◌, Bool, true, false, ◌||◌, ◌&&◌, ◌==◌, nat_lt, length, Option, Some, None, is_some, option_map, if◌then◌else◌}
use Rattle.wl_grammar.specs.declared.frame.Frame.{Frame}
use Rattle.wl_grammar.specs.declared.frame.Frame.TheVariants as frame
use Rattle.wl_frames.specs.declared.fault.FrameFault.{FrameFault}
use Rattle.wl_frames.specs.Stream.{Feeding, at_start, Decodes}
use Rattle.wl_agent.specs.Delivery.{delivery}
use Rattle.wl_tab.specs.Tabs.{told}
use Rattle.wl_tab.specs.Arrivals.{arrival}
use Rattle.wl_agent.specs.declared.fault.AgentFault.{AgentFault}
use Rattle.wl_agent.specs.Tab.{TabState, born, newborn, aborted, released, status_of, is_asked}
use Rattle.wl_agent.specs.Tokens.{is_pending, is_holding}
use Rattle.wl_broadcast.specs.Channels.{ChannelState, no_channels, after_hearing, hearing_of, posted, post_frame, name_at, taking, full, is_open_at, closed_at}
use Rattle.wl_broadcast.specs.declared.letter.Hearing.{Hearing}
use Rattle.wl_broadcast.specs.declared.letter.Hearing.TheVariants.{Old, New}
use Rattle.wl_limits.specs.declared.tabs.TheConstants.{COMMAND_LIMIT}
use Rattle.wl_world_messages.specs.declared.effect.Effect.{Effect}
use Rattle.wl_world_messages.specs.declared.effect.Effect.TheVariants as said
use Rattle.wl_client.specs.declared.client.Event.{Event}
use Rattle.wl_client.specs.declared.client.Event.TheVariants.{Welcomed, Told, Heard}
use Rattle.wl_client.specs.declared.receiving.Progress.{Progress}
use Rattle.wl_client.specs.declared.receiving.Progress.TheVariants.{Idle, Handled, NotWelcome}
use Rattle.wl_client.specs.declared.client.Unsent.{Unsent}
use Rattle.wl_client.specs.declared.client.Unsent.TheVariants.{Resend, Command, Post}
use Rattle.wl_client.specs.declared.fault.CallFault.{CallFault}
use Rattle.wl_client.specs.declared.fault.CallFault.TheVariants.{NotWelcomed, Agent}
use Rattle.wl_client.specs.declared.fault.ChannelCallFault.{ChannelCallFault}
use Rattle.wl_client.specs.declared.fault.ChannelCallFault.TheVariants as call
use Rattle.wl_client.specs.Faults.{of_channel}
use Rattle.wl_tab.specs.declared.channels.ChannelRefusal.{ChannelRefusal}
use Rattle.wl_tab.specs.declared.channels.ChannelRefusal.TheVariants.{NoChannel}

pub record ClientState : Type 0 where
  pub is_welcomed : Bool  -- whether the tab's number is known
  pub locks : TabState
  pub channels : ChannelState
  pub feeding : Feeding  -- what has arrived of an unfinished frame
  pub arrived : List Frame  -- frames that the client has still to handle
  pub report : List Frame  -- frames of a report that is being sent
  pub due : List ℕ  -- commands that are sent again behind the report
  pub unsent : List Unsent  -- what is sent behind these, oldest first
  pub events : List Event  -- oldest first

abbrev pub new_client : ClientState
new_client = record {
  is_welcomed = false;
  locks = newborn 0 COMMAND_LIMIT;
  channels = no_channels 0;
  feeding = at_start;
  arrived = [];
  report = [];
  due = [];
  unsent = [];
  events = [];
}

-- Commands

-- No command is issued before the welcome.
abbrev pub call_refusal : Option AgentFault → ClientState → Option CallFault
call_refusal refusal c = if c.is_welcomed then option_map Agent refusal else Some NotWelcomed

-- A command changes the tab's locks, and is to be sent.
abbrev pub after_command : (TabState → TabState) → ClientState → ClientState
after_command issues c = record c { locks = issues c.locks; unsent = c.unsent ++ Command (length c.locks.issued) ∷ [] }

-- Only a request that is asked can be aborted, and only a held lock released.
abbrev pub after_abort : ℕ → ClientState → ClientState
after_abort k c = if is_pending c.locks k && is_asked (status_of c.locks k) then after_command (aborted k) c else c

abbrev pub after_release : ℕ → ClientState → ClientState
after_release k c = if is_holding c.locks k then after_command (released k) c else c

-- Channels

abbrev pub channel_refusal : Option ChannelRefusal → ClientState → Option ChannelCallFault
channel_refusal refusal c = if c.is_welcomed then option_map of_channel refusal else Some call.NotWelcomed

abbrev pub with_channels : ChannelState → ClientState → ClientState
with_channels channels c = record c { channels = channels }

-- Some channel took the post.
abbrev pub has_post : Hearing → Bool
has_post Old = false
has_post (New took full) = nat_lt 0 (length took)

abbrev pub heard_event : Hearing → List Event
heard_event h = if has_post h then Heard h ∷ [] else []

-- A post is to be sent. The tab's other channels of the name take it at once.
abbrev pub after_post : ℕ → List ℕ → ClientState → ClientState
after_post k bytes c =
    let name = name_at c.channels.objects k in
    record c {
      channels = posted k bytes c.channels;
      unsent = c.unsent ++ Post (post_frame c.channels.posts name bytes) ∷ [];
      events = c.events ++ heard_event (New (taking (Some k) name c.channels.objects) (full (Some k) name c.channels.objects));
    }

-- Only a channel that was opened can be closed. A closed one stays closed.
abbrev pub closing_refusal : ℕ → ChannelState → Option ChannelRefusal
closing_refusal k channels = if nat_lt k (length channels.objects) then None else Some NoChannel

abbrev pub after_close : ℕ → ClientState → ClientState
after_close k c = if c.is_welcomed && is_open_at c.channels.objects k then with_channels (closed_at k c.channels) c else c

-- Frames of the hub

-- The tab's number, and whether it reports in parts.
abbrev pub welcome_of : Frame → Option (ℕ × Bool)
welcome_of (frame.Welcome w) = Some (w.tab, false)
welcome_of (frame.PairWelcome w) = Some (w.tab, true)
welcome_of f = None

abbrev pub after_welcome : Option (ℕ × Bool) → ClientState → ClientState
after_welcome None c = c
after_welcome (Some w) c = record c {
  is_welcomed = true;
  locks = born w.1 w.0 COMMAND_LIMIT;
  channels = no_channels w.0;
  events = c.events ++ Welcomed w.0 ∷ [];
}

abbrev pub is_entering : Effect → Bool
is_entering (said.Entered g ends) = true
is_entering e = false

-- The page sees that its tab enters a generation, and the result of a request, a probe or a query.
abbrev pub is_visible : Effect → Bool
is_visible (said.Entered g ends) = true
is_visible (said.Granted k) = true
is_visible (said.Waiting k) = true
is_visible (said.Null k) = true
is_visible (said.Lost k) = true
is_visible (said.Whole k snapshot) = true
is_visible e = false

-- A tab that enters a generation sends its report, and the commands that are due.
abbrev pub after_told : Effect → TabState → ClientState → ClientState
after_told e locks c = record c {
  locks = locks;
  unsent = c.unsent ++ (if is_entering e then Resend ∷ [] else []);
  events = c.events ++ (if is_visible e then Told e ∷ [] else []);
}

-- The hub greets a tab again when the broker has dropped commands of it. They are sent again.
abbrev pub is_hello_of : ℕ → Frame → Bool
is_hello_of g (frame.Hello h) = h.generation == g
is_hello_of g f = false

-- Posts reach the channels, and other frames the locks.
abbrev pub after_delivery : Frame → ClientState → ClientState
after_delivery (frame.Heard h) c = record c {
  channels = after_hearing (frame.Heard h) c.channels;
  events = c.events ++ heard_event (hearing_of (frame.Heard h) c.channels);
}
after_delivery f c = after_told (arrival f c.locks) (told (delivery f c.locks).0) c

abbrev pub after_frame : Frame → ClientState → ClientState
after_frame f c = if is_hello_of c.locks.entered f then record c { unsent = c.unsent ++ Resend ∷ [] } else after_delivery f c

abbrev pub after_first : List Frame → ClientState → ClientState
after_first [] c = c
after_first (f ∷ fs) c =
    let rest = record c { arrived = fs } in
    if c.is_welcomed then after_frame f rest else after_welcome (welcome_of f) rest

abbrev pub advanced : ClientState → ClientState
advanced c = after_first c.arrived c

abbrev pub progress_at : List Frame → ClientState → Progress
progress_at [] c = Idle
progress_at (f ∷ fs) c = if c.is_welcomed || is_some (welcome_of f) then Handled else NotWelcome

abbrev pub progress_of : ClientState → Progress
progress_of c = progress_at c.arrived c

-- No frame waited, and the frames of a piece have arrived from the hub.
pub record IsReceived (piece : List ℕ) (old new : ClientState) (fault : Option FrameFault) : Type 0 where
  pub feeding : Feeding
  pub frames : List Frame
  pub idle : old.arrived ≡ []
  pub decodes : Decodes old.feeding feeding piece frames fault
  pub now : new ≡ record old { feeding = feeding; arrived = frames }
