-- Worked examples of replies: the reply to each line of a short script, and the places of its messages in the bag.
use Rattle.std.specs.Prelude.{◌≡◌, ℕ, zero, suc, ◌+◌, List, [], ◌∷◌, ◌++◌, Bool, true, false, map, None}
use Rattle.wl_draft.specs.declared.mode.Mode.TheVariants.{Shared, Exclusive}
use Rattle.wl_broadcast.specs.declared.letter.Letter.{Letter}
use Rattle.wl_broadcast.specs.Channels.{Object}
use Rattle.wl_agent.specs.declared.drop_reason.DropReason.TheVariants as unheard
use Rattle.wl_agent.specs.declared.fault.AgentFault.TheVariants.{NotSupported}
use Rattle.wl_broker.specs.declared.dropped.Dropped.TheVariants as dropped
use Rattle.wl_kernel.specs.declared.fault.OpenFault.TheVariants.{NumberTaken}
use Rattle.wl_kernel.specs.declared.fault.StartFault.TheVariants as start_fault
use Rattle.wl_world_messages.specs.declared.effect.Effect.{Effect}
use Rattle.wl_world_messages.specs.declared.effect.Effect.TheVariants as said
use Rattle.wl_world_messages.specs.declared.effect.Ended.TheVariants as ended
use Rattle.wl_world_messages.specs.declared.effect.Reached.TheVariants.{Took, Full}
use Rattle.wl_world_messages.specs.declared.effect.Refusal.TheVariants as refusal
use Rattle.wl_world_messages.specs.declared.effect.Reason.TheVariants as reason
use Rattle.wl_world_model.specs.declared.event.Event.{Event}
use Rattle.wl_world_model.specs.declared.event.Event.TheVariants as event
use Rattle.wl_world_model.specs.declared.reply.Reply.{Reply}
use Rattle.wl_world_model.specs.World.{WorldState, empty_world, after_event}
use Rattle.wl_world_model.specs.WorldExamples.{Line, Does, Delivers, message_at, played, join, ask, contended, a, p}
use Rattle.wl_world_model.specs.Replies.{reply_of, reached}

-- Replies in short

-- The reply's text, and for each message its place, counted from 1, and whether it is new.
abbrev pub Told : Type 0
Told = Effect × List (ℕ × Bool)

abbrev pub event_of : WorldState → Line → Event
event_of w (Does e) = e
event_of w (Delivers n) = event.Deliver (message_at w n)

abbrev pub in_short : Reply → Told
in_short r = (r.said, map (λ s. (s.place + 1, s.is_new)) r.sent)

abbrev pub told_by : List Line → WorldState → List Told
told_by [] w = []
told_by (l ∷ ls) w = let e = event_of w l in in_short (reply_of w e) ∷ told_by ls (after_event w e)

-- The replies to the lines `more`, played after `lines`.
abbrev pub told_after : List Line → List Line → List Told
told_after lines more = told_by more (played lines)

abbrev pub new : ℕ → ℕ × Bool
new n = (n, true)

abbrev pub again : ℕ → ℕ × Bool
again n = (n, false)

abbrev pub silent : Effect → Told
silent s = (s, [])

-- The examples

-- A tab joins by the kernel's hello and its report. Both are then delivered again and dropped.
abbrev pub Joining : Type 0
Joining =
    told_by (Does (event.Start []) ∷ (join 1 ++ Delivers 1 ∷ Delivers 2 ∷ Does (event.Resend 1) ∷ [])) empty_world
    ≡ silent (said.Started 1) ∷ silent (said.Opened 1 p) ∷ (said.Greeted, new 1 ∷ []) ∷ (said.Entered 1 [], new 2 ∷ []) ∷ silent (said.Joined 1)
    ∷ silent (said.Dropped (reason.AtTab unheard.OldGeneration)) ∷ silent (said.Dropped (reason.AtBroker dropped.AlreadyJoined)) ∷ (said.Resent, again 2 ∷ []) ∷ []

-- A grant that arrives after the abort is dropped.
abbrev pub LateGrant : Type 0
LateGrant =
    told_after contended (Does (event.Abort 1 0) ∷ Delivers 6 ∷ Delivers 9 ∷ Does (event.Abort 1 0) ∷ [])
    ≡ (said.Issued 1 1, new 9 ∷ []) ∷ silent (said.Dropped (reason.AtTab unheard.Over)) ∷ (said.Answered, new 10 ∷ new 11 ∷ []) ∷ silent (said.Refused refusal.Nothing) ∷ []

-- A query is answered once. It is lost if it arrives again.
abbrev pub queried : List Line
queried =
    Delivers 6 ∷ Does (event.Abort 1 0) ∷ Does (event.Query 1) ∷ Delivers 9 ∷ Delivers 10 ∷ Does (event.Query 2) ∷ Delivers 11 ∷ Delivers 11
    ∷ Delivers 13 ∷ []

abbrev pub Snapshots : Type 0
Snapshots =
    told_after contended queried
    ≡ silent (said.Granted 0) ∷ silent (said.Refused refusal.Held) ∷ (said.Issued 1 1, new 9 ∷ []) ∷ (said.Answered, new 10 ∷ [])
    ∷ silent (said.Whole 1 (record {
      held = record { tab = 1; mode = Exclusive; name = a } ∷ [];
      pending = record { tab = 2; mode = Exclusive; name = a } ∷ [];
    }))
    ∷ (said.Issued 2 1, new 11 ∷ []) ∷ (said.Answered, new 12 ∷ []) ∷ (said.Answered, new 13 ∷ []) ∷ silent (said.Lost 1) ∷ []

-- A partition recovers until each listed tab has reported or was announced dead.
abbrev pub recovering : List Line
recovering =
    Does (event.Open 1 p) ∷ Does (event.Open 2 p) ∷ Does (event.Start (1 ∷ 2 ∷ [])) ∷ Delivers 1 ∷ Delivers 3
    ∷ Does (event.Ask 1 Shared a) ∷ Delivers 4 ∷ Does (event.Tell 2) ∷ Does (event.Kill 2) ∷ Delivers 2 ∷ Does (event.Tell 2) ∷ Delivers 4
    ∷ Delivers 5 ∷ []

abbrev pub Recovery : Type 0
Recovery =
    told_by recovering empty_world
    ≡ silent (said.Opened 1 p) ∷ silent (said.Opened 2 p) ∷ (said.Started 1, new 1 ∷ new 2 ∷ []) ∷ (said.Entered 1 [], new 3 ∷ [])
    ∷ silent (said.Joined 1) ∷ (said.Issued 1 0, new 4 ∷ []) ∷ silent (said.Dropped (reason.AtBroker dropped.Recovering)) ∷ silent (said.Refused refusal.Living)
    ∷ silent (said.Killed 2) ∷ silent (said.Dropped reason.DeadTab) ∷ silent (said.Told 2) ∷ (said.Answered, new 5 ∷ []) ∷ silent (said.Granted 0) ∷ []

-- Entering a later generation ends probes and queries that are still asked.
abbrev pub Ending : Type 0
Ending =
    told_after (contended ++ Delivers 6 ∷ Does (event.Probe 1 Shared a) ∷ Does (event.Query 1) ∷ Does event.Stop ∷ [])
    (Does (event.Start (2 ∷ [])) ∷ Does (event.Start (1 ∷ 2 ∷ [])) ∷ Delivers 11 ∷ Does (event.Release 1 0) ∷ [])
    ≡ silent (said.Refused (refusal.Start (start_fault.Missing 1))) ∷ (said.Started 2, new 11 ∷ new 12 ∷ [])
    ∷ (said.Entered 2 (ended.Null 1 ∷ ended.Lost 2 ∷ []), new 13 ∷ []) ∷ (said.Issued 1 3, new 14 ∷ []) ∷ []

-- Each object receives a post once. A closed channel receives none.
abbrev pub letter : Letter
letter = record { source = 1; number = 0; bytes = a }

abbrev pub posting : List Line
posting =
    Does (event.Channel 1 a) ∷ Does (event.Channel 1 a) ∷ Does (event.Channel 2 a) ∷ Does (event.Post 1 0 a) ∷ Delivers 1 ∷ Delivers 1
    ∷ Does (event.Read 2 0) ∷ Does (event.Read 2 0) ∷ Does (event.Close 1 0) ∷ Does (event.Close 1 0) ∷ Does (event.Post 1 0 a)
    ∷ Does (event.Read 1 0) ∷ Does (event.Post 1 2 a) ∷ Does (event.Post 3 0 a) ∷ []

abbrev pub Posts : Type 0
Posts =
    told_after (Does (event.Open 1 p) ∷ Does (event.Open 2 p) ∷ []) posting
    ≡ silent (said.ChannelOpened 0) ∷ silent (said.ChannelOpened 1) ∷ silent (said.ChannelOpened 0) ∷ (said.Posted 1 0 a (Took 1 ∷ []), new 1 ∷ [])
    ∷ silent (said.Heard 2 letter (Took 0 ∷ [])) ∷ silent (said.Dropped reason.OldPost) ∷ silent (said.Read letter)
    ∷ silent (said.Refused refusal.Nothing) ∷ silent (said.Closed 0) ∷ silent (said.Closed 0) ∷ silent (said.Refused refusal.InvalidState)
    ∷ silent (said.Refused refusal.InvalidState) ∷ silent (said.Refused refusal.NoChannel) ∷ silent (said.Refused refusal.NoTab) ∷ []

-- An inbox with 256 posts is full. This affects only its own object.
abbrev pub copies : ℕ → List Letter
copies zero = []
copies (suc n) = letter ∷ copies n

abbrev pub object : ℕ → Object
object n = record { name = a; is_open = true; inbox = copies n }

abbrev pub FullInbox : Type 0
FullInbox = reached None a (object 255 ∷ object 256 ∷ object 0 ∷ []) ≡ Took 0 ∷ Full 1 ∷ Took 2 ∷ []

-- Refused events: unknown tabs, dead tabs, unsent messages, and starts and stops at the wrong time.
abbrev pub Refusals : Type 0
Refusals =
    told_by (Does event.Stop ∷ Does (event.Hello 1) ∷ Does (event.Open 1 p) ∷ Does (event.Open 1 p) ∷ Does (event.Hello 1) ∷ Does (event.Tell 2)
    ∷ Does (event.Ask 1 Shared (45 ∷ [])) ∷ ask 1 ∷ Does (event.Resend 1) ∷ Does (event.Kill 1) ∷ Does (event.Kill 1) ∷ ask 1 ∷ Delivers 1
    ∷ Does (event.Start (2 ∷ 1 ∷ [])) ∷ Does (event.Start (1 ∷ 2 ∷ [])) ∷ []) empty_world
    ≡ map silent (said.Refused refusal.AlreadyDown ∷ said.Refused refusal.NoTab ∷ said.Opened 1 p ∷ said.Refused (refusal.Open NumberTaken)
    ∷ said.Refused refusal.Down ∷ said.Refused refusal.NoTab ∷ said.Refused (refusal.Ask NotSupported) ∷ said.Issued 1 0 ∷ said.Refused refusal.Nothing
    ∷ said.Killed 1 ∷ said.Refused refusal.NoTab ∷ said.Refused refusal.NoTab ∷ said.Refused refusal.NoMessage ∷ said.Refused (refusal.Start start_fault.NotRising)
    ∷ said.Refused (refusal.Start (start_fault.Stranger 2)) ∷ [])
