-- Statuses of calls.
use Rattle.std.specs.Prelude.{◌≡◌, ◌⊎◌, ℤ, ℕ, List, [], ◌∷◌, Bool, true, false, Option, Some, None, if◌then◌else◌}
use Rattle.wl_agent.specs.Tokens.{is_holding}
use Rattle.wl_agent.specs.declared.fault.AgentFault.{AgentFault}
use Rattle.wl_agent.specs.declared.fault.AgentFault.TheVariants as agent
use Rattle.wl_broadcast.specs.declared.fault.ChannelFault.{ChannelFault}
use Rattle.wl_broadcast.specs.declared.fault.ChannelFault.TheVariants as channel
use Rattle.wl_tab.specs.TabTokens.{abortion}
use Rattle.wl_tab.specs.declared.channels.ChannelRefusal.{ChannelRefusal}
use Rattle.wl_tab.specs.declared.channels.ChannelRefusal.TheVariants.{NoChannel, Closed, Fault}
use Rattle.wl_tab.specs.declared.locks.AbortResult.{AbortResult}
use Rattle.wl_tab.specs.declared.locks.AbortResult.TheVariants as abort
use Rattle.wl_client.specs.Client.{ClientState}
use Rattle.wl_client.specs.declared.client.Event.{Event}
use Rattle.wl_client.specs.declared.fault.CallFault.{CallFault}
use Rattle.wl_client.specs.declared.fault.CallFault.TheVariants.{NotWelcomed, Agent, Memory}
use Rattle.wl_client.specs.declared.fault.ChannelCallFault.{ChannelCallFault}
use Rattle.wl_client.specs.declared.fault.ChannelCallFault.TheVariants as call
use Rattle.wl_client.specs.declared.receiving.Progress.{Progress}
use Rattle.wl_client.specs.declared.receiving.Progress.TheVariants as progress
use Rattle.wlb_client.specs.declared.status.TheConstants.{WLB_OK, WLB_IDLE, WLB_MEMORY, WLB_BUSY, WLB_BAD_FRAME, WLB_DROPPED, WLB_NOT_WELCOMED, WLB_NOT_SUPPORTED, WLB_NAME_TOO_LONG, WLB_TOO_MANY, WLB_NUMBERS_USED_UP, WLB_HELD, WLB_NOTHING, WLB_NO_CHANNEL, WLB_CLOSED, WLB_DATA_TOO_LONG, WLB_TOO_MANY_CHANNELS, WLB_POSTS_USED_UP, WLB_SHORT_BUFFER}

-- Commands

abbrev pub status_of_agent : AgentFault → ℤ
status_of_agent agent.NotSupported = WLB_NOT_SUPPORTED
status_of_agent agent.NameTooLong = WLB_NAME_TOO_LONG
status_of_agent agent.TooMany = WLB_TOO_MANY
status_of_agent agent.NumbersUsedUp = WLB_NUMBERS_USED_UP
status_of_agent agent.Memory = WLB_MEMORY

abbrev pub status_of_call : CallFault → ℤ
status_of_call NotWelcomed = WLB_NOT_WELCOMED
status_of_call (Agent f) = status_of_agent f
status_of_call Memory = WLB_MEMORY

abbrev pub call_status : Option CallFault → ℤ
call_status None = WLB_OK
call_status (Some f) = status_of_call f

abbrev pub status_of_abortion : AbortResult → ℤ
status_of_abortion (abort.Issued n) = WLB_OK
status_of_abortion abort.Held = WLB_HELD
status_of_abortion abort.Nothing = WLB_NOTHING

abbrev pub abort_status : ℕ → ClientState → ℤ
abort_status k c = if c.is_welcomed then status_of_abortion (abortion k c.locks) else WLB_NOT_WELCOMED

abbrev pub release_status : ℕ → ClientState → ℤ
release_status k c = if c.is_welcomed then (if is_holding c.locks k then WLB_OK else WLB_NOTHING) else WLB_NOT_WELCOMED

-- Channels

abbrev pub status_of_channel : ChannelFault → ℤ
status_of_channel channel.NameTooLong = WLB_NAME_TOO_LONG
status_of_channel channel.DataTooLong = WLB_DATA_TOO_LONG
status_of_channel channel.TooManyChannels = WLB_TOO_MANY_CHANNELS
status_of_channel channel.PostsUsedUp = WLB_POSTS_USED_UP
status_of_channel channel.ForeignChannel = WLB_NO_CHANNEL
status_of_channel channel.WrongKind = WLB_BAD_FRAME
status_of_channel channel.Memory = WLB_MEMORY

abbrev pub status_of_refusal : ChannelRefusal → ℤ
status_of_refusal NoChannel = WLB_NO_CHANNEL
status_of_refusal Closed = WLB_CLOSED
status_of_refusal (Fault f) = status_of_channel f

abbrev pub status_of_channel_call : ChannelCallFault → ℤ
status_of_channel_call call.NotWelcomed = WLB_NOT_WELCOMED
status_of_channel_call (call.Channel r) = status_of_refusal r
status_of_channel_call call.Memory = WLB_MEMORY

abbrev pub channel_status : Option ChannelCallFault → ℤ
channel_status None = WLB_OK
channel_status (Some f) = status_of_channel_call f

-- Bytes

abbrev pub status_of_progress : Progress → ℤ
status_of_progress progress.Idle = WLB_IDLE
status_of_progress progress.Handled = WLB_OK
status_of_progress progress.NotWelcome = WLB_BAD_FRAME

abbrev pub IsStatusOfBytes : ℤ → Type 0
IsStatusOfBytes s = (s ≡ WLB_OK) ⊎ (s ≡ WLB_MEMORY) ⊎ (s ≡ WLB_BUSY) ⊎ (s ≡ WLB_BAD_FRAME)

abbrev pub IsStatusOfOutput : ℤ → Type 0
IsStatusOfOutput s = (s ≡ WLB_OK) ⊎ (s ≡ WLB_IDLE) ⊎ (s ≡ WLB_DROPPED) ⊎ (s ≡ WLB_MEMORY) ⊎ (s ≡ WLB_SHORT_BUFFER)

-- Events

abbrev pub status_of_events : List Event → ℤ
status_of_events [] = WLB_IDLE
status_of_events (e ∷ es) = WLB_OK

-- Whether there is such an item.
abbrev pub status_of_search : Bool → ℤ
status_of_search true = WLB_OK
status_of_search false = WLB_NOTHING
