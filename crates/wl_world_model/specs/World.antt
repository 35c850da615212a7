-- The world as one state machine: tabs, channels, kernel, broker and bag, and the effect of one
-- event and of a run of events.
use Rattle.std.specs.Prelude.{ℕ, List, [], ◌∷◌, ◌++◌, Bool, true, false, not, ◌&&◌, ◌==◌, length, map, Option, Some, None, is_some, if◌then◌else◌}
use Rattle.std.specs.List.{list_any}
use Rattle.wl_origin.specs.Order.{Pair}
use Rattle.wl_draft.specs.declared.mode.Mode.{Mode}
use Rattle.wl_draft.specs.Tables.{Table, find, put}
use Rattle.wl_grammar.specs.declared.frame.Frame.{Frame}
use Rattle.wl_grammar.specs.declared.frame.Frame.TheVariants as frame
use Rattle.wl_grammar.specs.declared.frame.Stamped.{Stamped}
use Rattle.wl_grammar.specs.declared.frame.Post.{Post}
use Rattle.wl_grammar.specs.declared.frame.Addressed.{Addressed}
use Rattle.wl_broker.specs.Broker.{BrokerState, hello_to}
use Rattle.wl_broadcast.specs.Channels.{ChannelState, no_channels, open_refusal as channel_refusal, opened as channel_opened, post_refusal, posted, name_at, is_own as is_own_channel, read_at, closed_at, after_hearing}
use Rattle.wl_agent.specs.Tab.{TabState, born, status_of, is_asked, ask_refusal, query_refusal, asked, queried, aborted, released}
use Rattle.wl_agent.specs.Tokens.{is_pending, is_holding}
use Rattle.wl_agent.specs.Delivery.{delivery}
use Rattle.wl_kernel.specs.Kernel.{KernelState, no_tabs, is_living, partition_number, open_refusal, opened, killed}
use Rattle.wl_kernel.specs.Routes.{frame_of}
use Rattle.wl_world_messages.specs.declared.message.Sender.TheVariants.{Kernel, Broker}
use Rattle.wl_world_messages.specs.declared.message.Message.{Message}
use Rattle.wl_world_messages.specs.declared.message.Message.TheVariants.{Up, Down, Across}
use Rattle.wl_world_messages.specs.Messages.{is_sent, sent_all}
use Rattle.wl_limits.specs.declared.tabs.TheConstants.{COMMAND_LIMIT}
use Rattle.wl_tab.specs.Tabs.{tab_in, channels_in, told}
use Rattle.wl_supervised_broker.specs.Changes.{Change, start_change, stop_change, message_change, death_change}
use Rattle.wl_limits.specs.declared.brokers.TheConstants.{LAST_GENERATION}
use Rattle.wl_world_model.specs.declared.event.Event.{Event}
use Rattle.wl_world_model.specs.declared.event.Event.TheVariants as event
use Rattle.wl_world_model.specs.declared.event.Forged.{Forged}
use Rattle.wl_world_model.specs.Sends.{issued_messages, report_if_entered, resent, to_hearers, forgery}

-- The state of the whole system. A tab has a row in `tabs` and in `channels` from its opening on.
pub record WorldState : Type 0 where
  pub tabs : Table TabState
  pub channels : Table ChannelState
  pub kernel : KernelState
  pub broker : Option BrokerState  -- the running broker, if any
  pub bag : List Message  -- every message ever sent
  pub corrupt : List ℕ  -- the tabs that were taken over

abbrev pub empty_world : WorldState
empty_world = record { tabs = []; channels = []; kernel = no_tabs LAST_GENERATION; broker = None; bag = []; corrupt = [] }

abbrev pub tab_of : WorldState → ℕ → TabState
tab_of w t = tab_in t (find w.tabs t)

abbrev pub channels_of : WorldState → ℕ → ChannelState
channels_of w t = channels_in t (find w.channels t)

abbrev pub lives : WorldState → ℕ → Bool
lives w t = is_living w.kernel t

abbrev pub partition_of : WorldState → ℕ → ℕ
partition_of w t = partition_number w.kernel t

-- Whether the tab was taken over.
abbrev pub is_corrupt : WorldState → ℕ → Bool
is_corrupt w t = list_any (λ u. u == t) w.corrupt

-- The effect of an event: the new world, still with the old bag, and the messages that are sent.

pub record StepResult : Type 0 where
  pub world : WorldState
  pub sends : List Message

abbrev pub unchanged : WorldState → StepResult
unchanged w = record { world = w; sends = [] }

-- The deed `d` if it is allowed, else no change and no messages.
abbrev pub if_allowed : Bool → WorldState → StepResult → StepResult
if_allowed allowed w d = if allowed then d else unchanged w

-- Tabs and their locks

-- Replaces the state of tab `t` by `a` and sends the messages `ms`.
unfoldable pub acts : WorldState → ℕ → TabState → List Message → StepResult
acts w t a ms = record { world = record w { tabs = put t a w.tabs }; sends = ms }

-- The tab, whose new state is `a`, issues its next command.
abbrev pub issues_command : WorldState → ℕ → TabState → StepResult
issues_command w t a = acts w t a (issued_messages w.kernel t a (length (tab_of w t).issued))

abbrev pub asks : WorldState → ℕ → Mode → Bool → List ℕ → StepResult
asks w t mode if_available name =
    if_allowed (lives w t && not (is_some (ask_refusal (tab_of w t) name))) w (issues_command w t (asked mode if_available name (tab_of w t)))

abbrev pub queries : WorldState → ℕ → StepResult
queries w t = if_allowed (lives w t && not (is_some (query_refusal (tab_of w t)))) w (issues_command w t (queried (tab_of w t)))

-- A tab aborts a request that is asked but not yet granted.
abbrev pub aborts : WorldState → ℕ → ℕ → StepResult
aborts w t k =
    if_allowed (lives w t && is_pending (tab_of w t) k && is_asked (status_of (tab_of w t) k)) w (issues_command w t (aborted k (tab_of w t)))

-- A tab releases a lock that it holds.
abbrev pub releases : WorldState → ℕ → ℕ → StepResult
releases w t k = if_allowed (lives w t && is_holding (tab_of w t) k) w (issues_command w t (released k (tab_of w t)))

abbrev pub resends : WorldState → ℕ → StepResult
resends w t = if_allowed (lives w t) w (record { world = w; sends = resent w.kernel t (tab_of w t) })

-- Tabs and their channels

unfoldable pub becomes : WorldState → ℕ → ChannelState → List Message → StepResult
becomes w t c ms = record { world = record w { channels = put t c w.channels }; sends = ms }

abbrev pub opens_channel : WorldState → ℕ → List ℕ → StepResult
opens_channel w t name =
    if_allowed (lives w t && not (is_some (channel_refusal name (channels_of w t)))) w (becomes w t (channel_opened name (channels_of w t)) [])

-- The next post of a tab on its channel object `k`. A tab numbers its posts, and a post carries its channel's name.
abbrev pub post_of : ℕ → List ℕ → ChannelState → Post
post_of k bytes c = record { number = c.posts; channel = name_at c.objects k; bytes = bytes }

abbrev pub posts : WorldState → ℕ → ℕ → List ℕ → StepResult
posts w t k bytes =
    let c = channels_of w t in
    if_allowed (lives w t && not (is_some (post_refusal t k bytes c))) w (becomes w t (posted k bytes c) (to_hearers w.kernel t (post_of k bytes c)))

abbrev pub reads : WorldState → ℕ → ℕ → StepResult
reads w t k = let c = channels_of w t in if_allowed (lives w t && is_own_channel c t k) w (becomes w t (read_at k c) [])

abbrev pub closes : WorldState → ℕ → ℕ → StepResult
closes w t k = let c = channels_of w t in if_allowed (lives w t && is_own_channel c t k) w (becomes w t (closed_at k c) [])

-- Deliveries

abbrev pub takes_frame : WorldState → ℕ → Frame → StepResult
takes_frame w t f =
    let a = delivery f (tab_of w t) in
    acts w t (told a.0) (report_if_entered w.kernel t a.0 a.1)

abbrev pub from_broker : Addressed → Message
from_broker x = Down Broker x

-- Replaces kernel and broker, and sends the frames of the broker, if the change happens.
abbrev pub supervised : WorldState → Change → StepResult
supervised w c = if_allowed c.happens w (record { world = record w { kernel = c.kernel; broker = c.broker }; sends = map from_broker c.frames })

abbrev pub arrives_at_broker : WorldState → Stamped → Option BrokerState → StepResult
arrives_at_broker w s b = supervised w (message_change s w.kernel b)

-- The arrival of a message. A dead tab receives nothing, but messages that it sent before its death may still arrive.
abbrev pub arrives : WorldState → Message → StepResult
arrives w (Up s) = arrives_at_broker w s w.broker
arrives w (Down sender x) = if_allowed (lives w x.tab) w (takes_frame w x.tab (frame_of x.inner))
arrives w (Across t x) = if_allowed (lives w t) w (becomes w t (after_hearing (frame.Heard x) (channels_of w t)) [])

-- The kernel

abbrev pub with_kernel : KernelState → WorldState → StepResult
with_kernel k w = unchanged (record w { kernel = k })

-- Adds the rows of a newly opened tab, which has issued no command and opened no channel.
abbrev pub with_rows : Bool → ℕ → WorldState → WorldState
with_rows in_parts t w = record w { tabs = put t (born in_parts t COMMAND_LIMIT) w.tabs; channels = put t (no_channels t) w.channels }

abbrev pub opens_as : Bool → WorldState → ℕ → Pair → StepResult
opens_as in_parts w t p = if_allowed (not (is_some (open_refusal t p w.kernel))) w (with_kernel (opened t p w.kernel) (with_rows in_parts t w))

abbrev pub opens : WorldState → ℕ → Pair → StepResult
opens w t p = opens_as false w t p

-- Opens a tab of the second kind, which may have more locks and reports in parts.
abbrev pub opens_two : WorldState → ℕ → Pair → StepResult
opens_two w t p = opens_as true w t p

abbrev pub kills : WorldState → ℕ → StepResult
kills w t = if_allowed (lives w t) w (with_kernel (killed t w.kernel) w)

-- The kernel tells the broker that a tab is dead.
abbrev pub tells : WorldState → ℕ → Option BrokerState → StepResult
tells w t b = supervised w (death_change t w.kernel b)

abbrev pub stops : WorldState → Option BrokerState → StepResult
stops w b = supervised w (stop_change w.kernel b)

abbrev pub starts : WorldState → List ℕ → Option BrokerState → StepResult
starts w ts b = supervised w (start_change ts w.kernel b)

-- The kernel sends a hello to one tab.
abbrev pub greets : WorldState → ℕ → Option BrokerState → StepResult
greets w t None = unchanged w
greets w t (Some b) = if_allowed (lives w t) w (record { world = w; sends = Down Kernel (hello_to w.kernel.generation t) ∷ [] })

-- Tabs that are taken over

-- Adds the tab to those taken over. It stays taken over for good.
abbrev pub taken_over : ℕ → List ℕ → List ℕ
taken_over t ts = if list_any (λ u. u == t) ts then ts else ts ++ t ∷ []

abbrev pub corrupts : WorldState → ℕ → StepResult
corrupts w t = if_allowed (lives w t) w (unchanged (record w { corrupt = taken_over t w.corrupt }))

-- Only a living tab that was taken over forges. Forging changes no state and only sends.
abbrev pub forges : WorldState → ℕ → Forged → StepResult
forges w t x = if_allowed (is_corrupt w t && lives w t) w (record { world = w; sends = forgery w.kernel t x })

-- Events

unfoldable pub step_result : WorldState → Event → StepResult
step_result w (event.Open t p) = opens w t p
step_result w (event.OpenTwo t p) = opens_two w t p
step_result w (event.Ask t mode name) = asks w t mode false name
step_result w (event.Probe t mode name) = asks w t mode true name
step_result w (event.Query t) = queries w t
step_result w (event.Abort t k) = aborts w t k
step_result w (event.Release t k) = releases w t k
step_result w (event.Resend t) = resends w t
step_result w (event.Channel t name) = opens_channel w t name
step_result w (event.Post t k bytes) = posts w t k bytes
step_result w (event.Read t k) = reads w t k
step_result w (event.Close t k) = closes w t k
step_result w (event.Deliver m) = if_allowed (is_sent m w.bag) w (arrives w m)
step_result w (event.Kill t) = kills w t
step_result w (event.Tell t) = tells w t w.broker
step_result w event.Stop = stops w w.broker
step_result w (event.Start ts) = starts w ts w.broker
step_result w (event.Hello t) = greets w t w.broker
step_result w (event.Corrupt t) = corrupts w t
step_result w (event.Forge t x) = forges w t x

-- The world after an event, with the messages sent added to the bag.
unfoldable pub after_event : WorldState → Event → WorldState
after_event w e = let d = step_result w e in record d.world { bag = sent_all d.sends w.bag }

-- The world after a list of events.
abbrev pub run : List Event → WorldState → WorldState
run [] w = w
run (e ∷ es) w = run es (after_event w e)
