-- The reply to an event: its effect or the reason for its refusal, and the messages sent.
use Rattle.std.specs.Prelude.{ℕ, ◌+◌, List, [], ◌∷◌, nat_lt, nat_le, length, option_map, Option, Some, None, if◌then◌else◌}
use Rattle.wl_limits.specs.declared.texts.TheConstants.{DATA_LIMIT}
use Rattle.wl_grammar.specs.declared.frame.Heard.{Heard}
use Rattle.wl_origin.specs.Order.{Pair}
use Rattle.wl_broker.specs.Broker.{BrokerState}
use Rattle.wl_broadcast.specs.declared.letter.Letter.{Letter}
use Rattle.wl_broadcast.specs.declared.fault.ChannelFault.TheVariants as channel_fault
use Rattle.wl_broadcast.specs.Channels.{ChannelState, Object, is_destination, has_room, is_old, name_at, is_own as is_own_channel, inbox_at, first_of, open_refusal as channel_refusal, post_limit}
use Rattle.wl_agent.specs.Tab.{status_of, is_asked, ask_refusal, query_refusal}
use Rattle.wl_agent.specs.Tokens.{is_pending, is_holding}
use Rattle.wl_kernel.specs.Kernel.{KernelState, is_living, open_refusal}
use Rattle.wl_kernel.specs.Routes.{frame_of}
use Rattle.wl_world_messages.specs.declared.effect.Effect.{Effect}
use Rattle.wl_world_messages.specs.declared.effect.Effect.TheVariants as said
use Rattle.wl_world_messages.specs.declared.effect.Reached.{Reached}
use Rattle.wl_world_messages.specs.declared.effect.Reached.TheVariants.{Took, Full}
use Rattle.wl_world_messages.specs.declared.effect.Refusal.TheVariants as refusal
use Rattle.wl_world_messages.specs.declared.effect.Reason.TheVariants as reason
use Rattle.wl_world_messages.specs.Refused.{refused, refused_or}
use Rattle.wl_world_messages.specs.declared.message.Message.{Message}
use Rattle.wl_world_messages.specs.declared.message.Message.TheVariants.{Up, Down, Across}
use Rattle.wl_world_messages.specs.declared.sent.Sent.{Sent}
use Rattle.wl_world_messages.specs.Messages.{is_sent, sent, sending}
use Rattle.wl_tab.specs.Arrivals.{arrival}
use Rattle.wl_supervised_broker.specs.Supervising.{up_or, kill_effect, death_effect, stop_effect, start_effect, message_effect}
use Rattle.wl_world_model.specs.declared.event.Event.{Event}
use Rattle.wl_world_model.specs.declared.event.Event.TheVariants as event
use Rattle.wl_world_model.specs.declared.event.Forged.{Forged}
use Rattle.wl_world_model.specs.declared.reply.Reply.{Reply}
use Rattle.wl_world_model.specs.World.{WorldState, tab_of, channels_of, lives, is_corrupt, step_result}
use Rattle.wl_world_model.specs.Sends.{forgery, resent}

-- Messages as they are sent

abbrev pub sendings : List Message → List Message → List Sent
sendings [] bag = []
sendings (m ∷ ms) bag = sending m bag ∷ sendings ms (sent m bag)

-- Refusals, in the order of the checks. No refusal says out of memory.

-- The reply `s` if the tab lives, else a refusal.
abbrev pub living_or : WorldState → ℕ → Effect → Effect
living_or w t s = if lives w t then s else refused refusal.NoTab

-- The kernel

abbrev pub opening : KernelState → ℕ → Pair → Effect
opening k t p = refused_or (option_map refusal.Open (open_refusal t p k)) (said.Opened t p)

abbrev pub opening_two : KernelState → ℕ → Pair → Effect
opening_two k t p = refused_or (option_map refusal.Open (open_refusal t p k)) (said.OpenedTwo t p)

abbrev pub greeting : KernelState → ℕ → Option BrokerState → Effect
greeting k t b = if is_living k t then up_or b said.Greeted else refused refusal.NoTab

-- Commands

-- The reply to a command that is issued under the tab's next number.
abbrev pub issued_next : WorldState → ℕ → Effect
issued_next w t = said.Issued t (length (tab_of w t).issued)

abbrev pub asking : WorldState → ℕ → List ℕ → Effect
asking w t name = living_or w t (refused_or (option_map refusal.Ask (ask_refusal (tab_of w t) name)) (issued_next w t))

abbrev pub querying : WorldState → ℕ → Effect
querying w t = living_or w t (refused_or (option_map refusal.Ask (query_refusal (tab_of w t))) (issued_next w t))

-- The reply to an abort. The number must name a request that is asked or held. A held request is refused with
-- `Held`, any other number with `Nothing`.
abbrev pub aborting : WorldState → ℕ → ℕ → Effect
aborting w t k =
    living_or w t (if is_pending (tab_of w t) k then (if is_asked (status_of (tab_of w t) k) then issued_next w t else refused refusal.Held)
    else refused refusal.Nothing)

abbrev pub releasing : WorldState → ℕ → ℕ → Effect
releasing w t k = living_or w t (if is_holding (tab_of w t) k then issued_next w t else refused refusal.Nothing)

abbrev pub some_resent : List Message → Effect
some_resent [] = refused refusal.Nothing
some_resent (m ∷ ms) = said.Resent

abbrev pub resending : WorldState → ℕ → Effect
resending w t = living_or w t (some_resent (resent w.kernel t (tab_of w t)))

-- Channels

-- The result of a post at each destination object, oldest object first.
abbrev pub reached_from : ℕ → Option ℕ → List ℕ → List Object → List Reached
reached_from k sender name [] = []
reached_from k sender name (o ∷ os) =
    if is_destination sender name k o then (if has_room o then Took k else Full k) ∷ reached_from (k + 1) sender name os
    else reached_from (k + 1) sender name os

abbrev pub reached : Option ℕ → List ℕ → List Object → List Reached
reached sender name objects = reached_from 0 sender name objects

-- The reply `s` if a channel object with number `k` was opened, else a refusal.
abbrev pub opened_or : ChannelState → ℕ → Effect → Effect
opened_or c k s = if nat_lt k (length c.objects) then s else refused refusal.NoChannel

abbrev pub open_or : ChannelState → ℕ → ℕ → Effect → Effect
open_or c t k s = opened_or c k (if is_own_channel c t k then s else refused refusal.InvalidState)

abbrev pub opening_channel : WorldState → ℕ → List ℕ → Effect
opening_channel w t name =
    let c = channels_of w t in
    living_or w t (refused_or (option_map refusal.Channel (channel_refusal name c)) (said.ChannelOpened (length c.objects)))

abbrev pub posting : WorldState → ℕ → ℕ → List ℕ → Effect
posting w t k bytes =
    let c = channels_of w t in
    living_or w t (open_or c t k (if nat_lt DATA_LIMIT (length bytes) then refused (refusal.Channel channel_fault.DataTooLong)
    else if nat_le post_limit c.posts then refused (refusal.Channel channel_fault.PostsUsedUp)
    else said.Posted t c.posts bytes (reached (Some k) (name_at c.objects k) c.objects)))

abbrev pub read_letter : Option Letter → Effect
read_letter None = refused refusal.Nothing
read_letter (Some l) = said.Read l

abbrev pub reading : WorldState → ℕ → ℕ → Effect
reading w t k = let c = channels_of w t in living_or w t (open_or c t k (read_letter (first_of (inbox_at c.objects k))))

-- A close succeeds also if the channel object is already closed.
abbrev pub closing : WorldState → ℕ → ℕ → Effect
closing w t k = living_or w t (opened_or (channels_of w t) k (said.Closed k))

-- Deliveries

abbrev pub letter_of : Heard → Letter
letter_of x = record { source = x.source; number = x.number; bytes = x.bytes }

abbrev pub hearing : ℕ → Heard → ChannelState → Effect
hearing t x c =
    if is_old c x.source x.number then said.Dropped reason.OldPost else said.Heard t (letter_of x) (reached None x.channel c.objects)

abbrev pub alive_or : WorldState → ℕ → Effect → Effect
alive_or w t s = if lives w t then s else said.Dropped reason.DeadTab

abbrev pub delivering : WorldState → Message → Effect
delivering w (Up s) = message_effect s w.broker
delivering w (Down sender x) = alive_or w x.tab (arrival (frame_of x.inner) (tab_of w x.tab))
delivering w (Across t x) = alive_or w t (hearing t x (channels_of w t))

-- Tabs that are taken over

-- The reply to a forgery. A forged post that reaches no tab is refused with `Nothing`.
abbrev pub some_forged : List Message → Effect
some_forged [] = refused refusal.Nothing
some_forged (m ∷ ms) = said.Forged

abbrev pub corrupting : WorldState → ℕ → Effect
corrupting w t = living_or w t (said.Corrupted t)

abbrev pub forging : WorldState → ℕ → Forged → Effect
forging w t x = living_or w t (if is_corrupt w t then some_forged (forgery w.kernel t x) else refused refusal.Honest)

-- Events

unfoldable pub said_of : WorldState → Event → Effect
said_of w (event.Open t p) = opening w.kernel t p
said_of w (event.OpenTwo t p) = opening_two w.kernel t p
said_of w (event.Ask t mode name) = asking w t name
said_of w (event.Probe t mode name) = asking w t name
said_of w (event.Query t) = querying w t
said_of w (event.Abort t k) = aborting w t k
said_of w (event.Release t k) = releasing w t k
said_of w (event.Resend t) = resending w t
said_of w (event.Channel t name) = opening_channel w t name
said_of w (event.Post t k bytes) = posting w t k bytes
said_of w (event.Read t k) = reading w t k
said_of w (event.Close t k) = closing w t k
said_of w (event.Deliver m) = if is_sent m w.bag then delivering w m else refused refusal.NoMessage
said_of w (event.Kill t) = kill_effect w.kernel t
said_of w (event.Tell t) = death_effect w.kernel t w.broker
said_of w event.Stop = stop_effect w.kernel w.broker
said_of w (event.Start ts) = start_effect w.kernel ts w.broker
said_of w (event.Hello t) = greeting w.kernel t w.broker
said_of w (event.Corrupt t) = corrupting w t
said_of w (event.Forge t x) = forging w t x

-- The whole reply to an event. Each message sent is listed with its place in the bag and whether it is new.
unfoldable pub reply_of : WorldState → Event → Reply
reply_of w e = record { said = said_of w e; sent = sendings (step_result w e).sends w.bag }
