-- Refused events change nothing, and no reply says out of memory.
use Rattle.std.specs.Prelude.{◌≡◌, ℕ, [], Bool, true, false}
use Rattle.wl_broker.specs.declared.dropped.Dropped.TheVariants as dropped
use Rattle.wl_broadcast.specs.declared.fault.ChannelFault.TheVariants as channel_fault
use Rattle.wl_agent.specs.declared.fault.AgentFault.TheVariants as agent_fault
use Rattle.wl_agent.specs.declared.drop_reason.DropReason.TheVariants as unheard
use Rattle.wl_kernel.specs.declared.fault.OpenFault.TheVariants as open_fault
use Rattle.wl_kernel.specs.declared.fault.StartFault.TheVariants as start_fault
use Rattle.wl_world_messages.specs.declared.effect.Refusal.{Refusal}
use Rattle.wl_world_messages.specs.declared.effect.Refusal.TheVariants as refusal
use Rattle.wl_world_messages.specs.declared.effect.Reason.{Reason}
use Rattle.wl_world_messages.specs.declared.effect.Reason.TheVariants as reason
use Rattle.wl_world_messages.specs.declared.effect.Effect.{Effect}
use Rattle.wl_world_messages.specs.declared.effect.Effect.TheVariants as said
use Rattle.wl_world_model.specs.declared.event.Event.{Event}
use Rattle.wl_world_model.specs.World.{WorldState, tab_of, channels_of, after_event}
use Rattle.wl_world_model.specs.Replies.{reply_of}

-- Two worlds agree on the state of each tab and its channels, the kernel, the broker, the bag and the tabs taken over.
pub record AreSame (v w : WorldState) : Type 0 where
  pub tabs : (t : ℕ) → tab_of v t ≡ tab_of w t
  pub channels : (t : ℕ) → channels_of v t ≡ channels_of w t
  pub kernel : v.kernel ≡ w.kernel
  pub broker : v.broker ≡ w.broker
  pub bag : v.bag ≡ w.bag
  pub corrupt : v.corrupt ≡ w.corrupt

-- An event whose reply is a refusal leaves the world unchanged and sends nothing.
abbrev pub RefusedChangesNothing : Type 0
RefusedChangesNothing =
    (w : WorldState) (e : Event) (r : Refusal) → (reply_of w e).said ≡ said.Refused r → AreSame (after_event w e) w × ((reply_of w e).sent ≡ [])

-- Out of memory

-- Whether the refusal says out of memory.
abbrev pub refuses_memory : Refusal → Bool
refuses_memory (refusal.Open open_fault.Memory) = true
refuses_memory (refusal.Start start_fault.Memory) = true
refuses_memory (refusal.Ask agent_fault.Memory) = true
refuses_memory (refusal.Channel channel_fault.Memory) = true
refuses_memory r = false

-- Whether the reason for a drop is out of memory.
abbrev pub drops_memory : Reason → Bool
drops_memory (reason.AtTab unheard.Memory) = true
drops_memory (reason.AtBroker dropped.Memory) = true
drops_memory r = false

abbrev pub says_memory : Effect → Bool
says_memory (said.Refused r) = refuses_memory r
says_memory (said.Dropped r) = drops_memory r
says_memory s = false

-- No reply gives out of memory as its reason. If memory runs out, the event has no reply.
abbrev pub MemoryIsNeverSaid : Type 0
MemoryIsNeverSaid = (w : WorldState) (e : Event) → says_memory (reply_of w e).said ≡ false
