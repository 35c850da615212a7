-- Messages, and the bag of all that were ever sent.
use Rattle.std.specs.Prelude.{ℕ, List, [], ◌∷◌, ◌++◌, length, Bool, true, false, not, ◌&&◌, ◌==◌, if◌then◌else◌, bytes_eq, Option, position, unwrap_or}
use Rattle.std.specs.List.{list_any}
use Rattle.wl_grammar.specs.declared.frame.Heard.{Heard}
use Rattle.wl_grammar.specs.contracts.frame.StampedPartialEq.TheImpl as stamped
use Rattle.wl_grammar.specs.contracts.frame.AddressedPartialEq.TheImpl as addressed
use Rattle.wl_world_messages.specs.declared.message.Sender.{Sender}
use Rattle.wl_world_messages.specs.declared.message.Sender.TheVariants.{Kernel, Broker}
use Rattle.wl_world_messages.specs.declared.message.Message.{Message}
use Rattle.wl_world_messages.specs.declared.message.Message.TheVariants.{Up, Down, Across}
use Rattle.wl_world_messages.specs.declared.sent.Sent.{Sent}

-- Equality of messages: the same sender, recipient and content

abbrev pub same_heard : Heard → Heard → Bool
same_heard x y = x.source == y.source && x.number == y.number && bytes_eq x.channel y.channel && bytes_eq x.bytes y.bytes

abbrev pub same_sender : Sender → Sender → Bool
same_sender Kernel Kernel = true
same_sender Broker Broker = true
same_sender x y = false

-- Whether two messages are equal. Stamped and addressed frames are compared field by field, by their derived `==`.
abbrev pub same_message : Message → Message → Bool
same_message (Up x) (Up y) = (stamped.ghosts).eq x y
same_message (Down s x) (Down r y) = same_sender s r && (addressed.ghosts).eq x y
same_message (Across t x) (Across u y) = t == u && same_heard x y
same_message x y = false

-- The bag

-- Whether the message was ever sent.
unfoldable pub is_sent : Message → List Message → Bool
is_sent m bag = list_any (same_message m) bag

-- The bag with this message. The bag is a set, and no message leaves it.
abbrev pub sent : Message → List Message → List Message
sent m bag = if is_sent m bag then bag else bag ++ m ∷ []

-- The place of the first equal message in the bag, counted from 0.
abbrev pub place_of : Message → List Message → Option ℕ
place_of m bag = position (same_message m) bag

-- The result of sending a message: its place in the bag afterwards, and whether it is new.
unfoldable pub sending : Message → List Message → Sent
sending m bag = record { message = m; place = unwrap_or (place_of m bag) (length bag); is_new = not (is_sent m bag) }

-- The bag with these messages, added in order.
abbrev pub sent_all : List Message → List Message → List Message
sent_all [] bag = bag
sent_all (m ∷ ms) bag = sent_all ms (sent m bag)
