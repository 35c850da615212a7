-- Keys by which the bag looks up messages.
use Rattle.std.specs.Prelude.{ℕ}
use Rattle.wl_grammar.specs.declared.frame.Upward.{Upward}
use Rattle.wl_grammar.specs.declared.frame.Upward.TheVariants as up
use Rattle.wl_grammar.specs.declared.frame.Downward.{Downward}
use Rattle.wl_grammar.specs.declared.frame.Downward.TheVariants as down
use Rattle.wl_world_messages.specs.declared.message.Message.{Message}
use Rattle.wl_world_messages.specs.declared.message.Message.TheVariants.{Up, Down, Across}
use Rattle.wl_world_messages.specs.declared.message_key.Key.{Key}
use Rattle.wl_world_messages.specs.declared.message_key.Key.TheVariants as key

abbrev pub key_of_upward : ℕ → ℕ → Upward → Key
key_of_upward tab partition (up.Command c) = key.Command tab partition c.generation c.number
key_of_upward tab partition (up.Report r) = key.Report tab partition r.generation r.base
key_of_upward tab partition (up.ReportPart r) = key.ReportPart tab partition r.generation r.base r.part

abbrev pub key_of_downward : ℕ → Downward → Key
key_of_downward tab (down.Hello h) = key.Hello tab h.generation
key_of_downward tab (down.Answer a) = key.Answer tab a.generation a.upto a.number
key_of_downward tab (down.Snapshot s) = key.Part tab s.generation s.number s.part

-- The key of a message: its kind, its recipient or sender, its partition and its numbers.
abbrev pub key_of : Message → Key
key_of (Up x) = key_of_upward x.tab x.partition x.inner
key_of (Down s x) = key_of_downward x.tab x.inner
key_of (Across t x) = key.Post x.source t x.number
