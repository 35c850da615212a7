-- Copies of a step's reply.
use Rattle.std.specs.Prelude.{◌≡◌, ◌<◌, ℕ, List, length, replicate}
use Rattle.wl_grammar.specs.declared.frame.Addressed.{Addressed}
use Rattle.wl_locked.specs.declared.event.Reply.{Reply}
use Rattle.wl_locked.specs.declared.event.Reply.TheVariants.{Outs, Dropped}
use Rattle.wl_locked.specs.declared.answering.Replies.{Replies}
use Rattle.wl_locked.specs.declared.answering.Replies.TheVariants.{Sent, Refused}

-- These are n copies of the reply. A refusal can be copied any number of times.
abbrev pub AreReplies : ℕ → Reply → Replies → Type 0
AreReplies n reply (Sent all) = (outs : List Addressed) × (all.items ≡ replicate n outs) × (reply ≡ Outs outs)
AreReplies n reply (Refused reason) = reply ≡ Dropped reason

abbrev pub HasNext : Replies → Type 0
HasNext (Sent all) = 0 < length all.items
HasNext (Refused reason) = Unit {0}
