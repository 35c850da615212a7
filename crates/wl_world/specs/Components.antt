-- The program's view of the world: its parts, their invariants, and the definitions that its private functions cite.
use Rattle.std.specs.Prelude.{◌≡◌, ℕ, List, [], ◌∷◌, Bool, true, false, is_some}
use Rattle.wl_kernel.specs.Kernel.{KernelState, is_living}
use Rattle.wl_draft.specs.Tables.{Table, find}
use Rattle.wl_grammar.specs.declared.frame.Frame.{Frame}
use Rattle.wl_grammar.specs.declared.frame.Frame.TheVariants as frame
use Rattle.wl_grammar.specs.declared.frame.Upward.TheVariants as up
use Rattle.wl_broadcast.specs.Channels.{ChannelState}
use Rattle.wl_agent.specs.Tab.{TabState}
use Rattle.wl_world_messages.specs.declared.effect.Refusal.{Refusal}
use Rattle.wl_world_messages.specs.declared.effect.Refusal.TheVariants as refusal
use Rattle.wl_world_messages.specs.declared.effect.Effect.{Effect}
use Rattle.wl_world_messages.specs.declared.effect.Effect.TheVariants as said
use Rattle.wl_world_messages.specs.declared.message.Message.{Message}
use Rattle.wl_tab.specs.declared.channels.ChannelRefusal.{ChannelRefusal}
use Rattle.wl_tab.specs.declared.channels.ChannelRefusal.TheVariants as channel_refusal
use Rattle.wl_tab.specs.Tabs.{channels_in}
use Rattle.wl_supervised_broker.specs.SupervisedStates.{SupervisedState}
use Rattle.wl_world_model.specs.World.{WorldState}
use Rattle.wl_world_model.specs.Sends.{stamped, report_messages, to_hearers}
use Rattle.wl_world_model.specs.declared.event.Event.{Event}
use Rattle.wl_world_model.specs.declared.event.Event.TheVariants as event

-- The world made of these parts. The supervisor holds the kernel and the running broker.
abbrev pub world_of : Table TabState → Table ChannelState → SupervisedState → List Message → List ℕ → WorldState
world_of tabs channels s bag corrupt =
    record { tabs = tabs; channels = channels; kernel = s.kernel; broker = s.broker; bag = bag; corrupt = corrupt }

-- Results of private functions

-- The report that a tab sends if it has entered a generation, judged by the reply `s` to the frame that it received.
abbrev pub report_if_said : KernelState → ℕ → TabState → Effect → List Message
report_if_said k t a (said.Entered g es) = report_messages k t a
report_if_said k t a s = []

-- A command, a report or a part of a report, as the kernel routes it up. Other frames do not go to the broker.
abbrev pub passed_up : KernelState → ℕ → Frame → List Message
passed_up k t (frame.Command c) = stamped k t (up.Command c) ∷ []
passed_up k t (frame.Report r) = stamped k t (up.Report r) ∷ []
passed_up k t (frame.ReportPart r) = stamped k t (up.ReportPart r) ∷ []
passed_up k t f = []

-- Whether the event is not an opening.
abbrev pub is_in_place : Event → Bool
is_in_place (event.Open t p) = false
is_in_place (event.OpenTwo t p) = false
is_in_place e = true

-- The refusal that stands for a failed post or read.
abbrev pub of_posting : ChannelRefusal → Refusal
of_posting channel_refusal.NoChannel = refusal.NoChannel
of_posting channel_refusal.Closed = refusal.InvalidState
of_posting (channel_refusal.Fault f) = refusal.Channel f

-- A post, as the kernel routes it to other tabs. Other frames do not go to tabs.
abbrev pub crossed : KernelState → ℕ → Frame → List Message
crossed k t (frame.Post p) = to_hearers k t p
crossed k t f = []

-- Invariants of the parts

-- Each row of channels belongs to the tab under whose number it is stored.
abbrev pub OwnRows : Table ChannelState → Type 0
OwnRows rows = (t : ℕ) → (channels_in t (find rows t)).tab ≡ t

-- Each living tab has a row.
abbrev pub HasRows : {X : Type 0} → KernelState → Table X → Type 0
HasRows k rows = (t : ℕ) → is_living k t ≡ true → is_some (find rows t) ≡ true

pub record IsRowed (k : KernelState) (ts : Table TabState) (cs : Table ChannelState) : Type 0 where
  pub tabs : HasRows k ts
  pub channels : HasRows k cs
  pub own : OwnRows cs
