-- The text of replies. Each line ends with a line feed.
use Rattle.std.specs.Prelude.{ℕ, ◌+◌, List, [], ◌∷◌, ◌++◌, codes, decimal, if◌then◌else◌}
use Rattle.std.specs.List.{flat_map}
use Rattle.wl_origin.specs.Partition.{origin_text}
use Rattle.wl_agent.specs.declared.drop_reason.DropReason.{DropReason}
use Rattle.wl_agent.specs.declared.drop_reason.DropReason.TheVariants as unheard
use Rattle.wl_agent.specs.declared.fault.AgentFault.{AgentFault}
use Rattle.wl_agent.specs.declared.fault.AgentFault.TheVariants as agent_fault
use Rattle.wl_broadcast.specs.declared.fault.ChannelFault.{ChannelFault}
use Rattle.wl_broadcast.specs.declared.fault.ChannelFault.TheVariants as channel_fault
use Rattle.wl_broadcast.specs.declared.letter.Letter.{Letter}
use Rattle.wl_broker.specs.declared.dropped.Dropped.{Dropped}
use Rattle.wl_broker.specs.declared.dropped.Dropped.TheVariants as dropped
use Rattle.wl_kernel.specs.declared.fault.OpenFault.{OpenFault}
use Rattle.wl_kernel.specs.declared.fault.OpenFault.TheVariants as open_fault
use Rattle.wl_kernel.specs.declared.fault.StartFault.{StartFault}
use Rattle.wl_kernel.specs.declared.fault.StartFault.TheVariants as start_fault
use Rattle.wl_world_messages.specs.declared.effect.Effect.{Effect}
use Rattle.wl_world_messages.specs.declared.effect.Effect.TheVariants as said
use Rattle.wl_world_messages.specs.declared.effect.Ended.{Ended}
use Rattle.wl_world_messages.specs.declared.effect.Ended.TheVariants as ended
use Rattle.wl_world_messages.specs.declared.effect.Reached.{Reached}
use Rattle.wl_world_messages.specs.declared.effect.Reached.TheVariants.{Took, Full}
use Rattle.wl_world_messages.specs.declared.effect.Refusal.{Refusal}
use Rattle.wl_world_messages.specs.declared.effect.Refusal.TheVariants as refusal
use Rattle.wl_world_messages.specs.declared.effect.Reason.{Reason}
use Rattle.wl_world_messages.specs.declared.effect.Reason.TheVariants as reason
use Rattle.wl_world_messages.specs.declared.message.Sender.{Sender}
use Rattle.wl_world_messages.specs.declared.message.Sender.TheVariants.{Kernel, Broker}
use Rattle.wl_world_messages.specs.declared.message.Message.{Message}
use Rattle.wl_world_messages.specs.declared.message.Message.TheVariants.{Up, Down, Across}
use Rattle.wl_world_messages.specs.declared.sent.Sent.{Sent}
use Rattle.wl_world_model.specs.declared.reply.Reply.{Reply}
use Rattle.wl_script_words.specs.Snapshots.{json_text}
use Rattle.wl_script_words.specs.Words.{word_of}
use Rattle.wl_script_words.specs.WordPrinting.{line, numbered}
use Rattle.wl_script.specs.MessageTexts.{upward_text, downward_text, post_text, part_text}

-- Messages

unfoldable pub sender_text : Sender → List ℕ
sender_text Kernel = codes "k>"
sender_text Broker = codes "b>"

-- The text FROM>TO TEXT of a message.
unfoldable pub message_text : Message → List ℕ
message_text (Up s) = decimal s.tab ++ codes ">b " ++ upward_text s.inner
message_text (Down sender x) = sender_text sender ++ decimal x.tab ++ codes " " ++ downward_text x.inner
message_text (Across tab h) = decimal h.source ++ codes ">" ++ decimal tab ++ codes " " ++ post_text h

-- The name of a message. Names count from `m1` in the order of first sending.
unfoldable pub name_text : ℕ → List ℕ
name_text place = codes "m" ++ decimal (place + 1)

unfoldable pub sent_text : Sent → List ℕ
sent_text s =
    if s.is_new then line (name_text s.place ++ codes " " ++ message_text s.message)
    else line (codes "again " ++ name_text s.place)

-- Refusals and drops

-- Texts of faults. No reply reports a lack of memory, by `law_answers` of wl_world.
unfoldable pub open_fault_text : OpenFault → List ℕ
open_fault_text open_fault.NumberTaken = codes "NumberTaken"
open_fault_text open_fault.TooManyLiving = codes "TooManyLiving"
open_fault_text open_fault.PartitionFull = codes "PartitionFull"
open_fault_text open_fault.Memory = codes "Memory"

unfoldable pub start_fault_text : StartFault → List ℕ
start_fault_text start_fault.TooManyListed = codes "too many"
start_fault_text start_fault.NotRising = codes "not rising"
start_fault_text (start_fault.Stranger tab) = codes "stranger " ++ decimal tab
start_fault_text (start_fault.Missing tab) = codes "missing " ++ decimal tab
start_fault_text start_fault.Memory = codes "Memory"

unfoldable pub agent_fault_text : AgentFault → List ℕ
agent_fault_text agent_fault.NotSupported = codes "NotSupportedError"
agent_fault_text agent_fault.NameTooLong = codes "NameTooLong"
agent_fault_text agent_fault.TooMany = codes "TooMany"
agent_fault_text agent_fault.NumbersUsedUp = codes "NumbersUsedUp"
agent_fault_text agent_fault.Memory = codes "Memory"

-- The text of a channel fault. The simulator causes neither `ForeignChannel` nor `WrongKind`,
-- because it uses a channel only at its own tab and delivers only posts to it.
unfoldable pub channel_fault_text : ChannelFault → List ℕ
channel_fault_text channel_fault.NameTooLong = codes "NameTooLong"
channel_fault_text channel_fault.DataTooLong = codes "DataTooLong"
channel_fault_text channel_fault.TooManyChannels = codes "TooManyChannels"
channel_fault_text channel_fault.PostsUsedUp = codes "PostsUsedUp"
channel_fault_text channel_fault.ForeignChannel = codes "ForeignChannel"
channel_fault_text channel_fault.WrongKind = codes "WrongKind"
channel_fault_text channel_fault.Memory = codes "Memory"

unfoldable pub refusal_text : Refusal → List ℕ
refusal_text refusal.NoTab = codes "no tab"
refusal_text (refusal.Open fault) = open_fault_text fault
refusal_text refusal.AlreadyUp = codes "already up"
refusal_text (refusal.Start fault) = start_fault_text fault
refusal_text refusal.AlreadyDown = codes "already down"
refusal_text refusal.GenerationsUsedUp = codes "GenerationsUsedUp"
refusal_text refusal.Down = codes "down"
refusal_text refusal.Living = codes "living"
refusal_text (refusal.Ask fault) = agent_fault_text fault
refusal_text refusal.Held = codes "held"
refusal_text refusal.Nothing = codes "nothing"
refusal_text refusal.NoMessage = codes "no message"
refusal_text (refusal.Channel fault) = channel_fault_text fault
refusal_text refusal.NoChannel = codes "no channel"
refusal_text refusal.InvalidState = codes "InvalidStateError"
refusal_text refusal.Honest = codes "honest"

unfoldable pub unheard_text : DropReason → List ℕ
unheard_text unheard.OldGeneration = codes "old generation"
unheard_text unheard.LaterGeneration = codes "later generation"
unheard_text unheard.Held = codes "held"
unheard_text unheard.Over = codes "over"
unheard_text unheard.Odd = codes "odd"
unheard_text unheard.Twice = codes "twice"
unheard_text unheard.WrongKind = codes "wrong kind"
unheard_text unheard.Memory = codes "Memory"

unfoldable pub dropped_text : Dropped → List ℕ
dropped_text dropped.OldGeneration = codes "old generation"
dropped_text dropped.LaterGeneration = codes "later generation"
dropped_text dropped.NotJoined = codes "not joined"
dropped_text dropped.Recovering = codes "recovering"
dropped_text dropped.OutOfTurn = codes "out of turn"
dropped_text dropped.DeadTab = codes "dead tab"
dropped_text dropped.AlreadyJoined = codes "already joined"
dropped_text dropped.HeldByNewcomer = codes "held by newcomer"
dropped_text dropped.BadReport = codes "bad report"
dropped_text dropped.Misplaced = codes "misplaced"
dropped_text dropped.TooMany = codes "too many"
dropped_text dropped.PartTwice = codes "part twice"
dropped_text dropped.Memory = codes "Memory"

unfoldable pub reason_text : Reason → List ℕ
reason_text reason.DeadTab = codes "dead tab"
reason_text (reason.AtTab why) = unheard_text why
reason_text reason.OldPost = codes "old post"
reason_text reason.Down = codes "down"
reason_text (reason.AtBroker why) = dropped_text why

-- Results of events

unfoldable pub ended_text : Ended → List ℕ
ended_text (ended.Null number) = numbered (codes "null") number
ended_text (ended.Lost number) = numbered (codes "lost") number

-- The text S#N DATA of a post: source, number and data.
unfoldable pub letter_text : ℕ → ℕ → List ℕ → List ℕ
letter_text source number bytes = decimal source ++ codes "#" ++ decimal number ++ codes " " ++ word_of bytes

-- The line for a post at a channel object of the tab, which took it or was full.
unfoldable pub reached_text : ℕ → List ℕ → Reached → List ℕ
reached_text tab letter (Took channel) = line (decimal tab ++ codes "*" ++ decimal channel ++ codes " heard " ++ letter)
reached_text tab letter (Full channel) = line (decimal tab ++ codes "*" ++ decimal channel ++ codes " full")

-- The lines for an arrived post. A post that finds no object of its name gets a line of its own.
unfoldable pub heard_text : ℕ → List ℕ → List Reached → List ℕ
heard_text tab letter [] = line (codes "heard none")
heard_text tab letter (r ∷ rs) = flat_map (reached_text tab letter) (r ∷ rs)

abbrev pub told_letter : Letter → List ℕ
told_letter l = letter_text l.source l.number l.bytes

unfoldable pub said_text : Effect → List ℕ
said_text (said.Refused r) = line (refusal_text r)
said_text (said.Dropped r) = line (codes "dropped " ++ reason_text r)
said_text (said.Opened tab partition) = line (codes "opened " ++ decimal tab ++ codes " " ++ origin_text partition.1)
said_text (said.OpenedTwo tab partition) =
    line (codes "opened " ++ decimal tab ++ codes " " ++ origin_text partition.0 ++ codes " " ++ origin_text partition.1)
said_text (said.Started generation) = numbered (codes "up") generation
said_text (said.Stopped generation) = numbered (codes "stopped") generation
said_text said.Greeted = []
said_text (said.Killed tab) = numbered (codes "killed") tab
said_text (said.Told tab) = numbered (codes "told") tab
said_text (said.Issued tab number) = line (decimal tab ++ codes "#" ++ decimal number)
said_text said.Resent = []
said_text (said.Joined tab) = numbered (codes "joined") tab
said_text said.Answered = []
said_text (said.Entered generation endings) = numbered (codes "entered") generation ++ flat_map ended_text endings
said_text (said.Granted number) = numbered (codes "granted") number
said_text (said.Waiting number) = numbered (codes "waiting") number
said_text (said.Null number) = numbered (codes "null") number
said_text (said.Lost number) = numbered (codes "lost") number
said_text (said.Taken number) = numbered (codes "taken") number
said_text (said.Part part parts) = line (part_text part parts)
said_text (said.Whole number snapshot) = numbered (codes "whole") number ++ line (json_text snapshot)
said_text (said.Heard tab letter objects) = heard_text tab (told_letter letter) objects
said_text (said.ChannelOpened channel) = numbered (codes "channel") channel
said_text (said.Posted tab number bytes objects) =
    numbered (codes "post") number ++ flat_map (reached_text tab (letter_text tab number bytes)) objects
said_text (said.Read letter) = line (codes "read " ++ told_letter letter)
said_text (said.Closed channel) = numbered (codes "closed") channel
said_text (said.Corrupted tab) = numbered (codes "corrupted") tab
said_text said.Forged = []

-- Replies

unfoldable pub reply_text : Reply → List ℕ
reply_text r = said_text r.said ++ flat_map sent_text r.sent
