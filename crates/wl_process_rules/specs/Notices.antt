-- Frames that the kernel itself sends to tabs and the broker.
use Rattle.std.specs.Prelude.{◌≡◌, ℕ, List, Bool, true, false, nat_lt, Option, Some, None, if◌then◌else◌}
use Rattle.wl_grammar.specs.Grammar.{spelling}
use Rattle.wl_grammar.specs.Generation.{generation_of}
use Rattle.wl_grammar.specs.declared.frame.Downward.{Downward}
use Rattle.wl_grammar.specs.declared.frame.Downward.TheVariants as down
use Rattle.wl_grammar.specs.declared.frame.Frame.{Frame}
use Rattle.wl_grammar.specs.declared.frame.Frame.TheVariants as frame

-- The bytes are the frame that tells the broker that the tab is dead.
abbrev pub IsDeathOf : ℕ → List ℕ → Type 0
IsDeathOf tab bytes = bytes ≡ spelling (frame.Dead (record { tab = tab }))

-- The generation for which a tab's frame was sent.
abbrev pub sent_for : Frame → Option ℕ
sent_for (frame.Stamped s) = Some (generation_of s.inner)
sent_for f = None

-- A sender for a generation that has ended is told the one that runs.
abbrev pub late_for : Option ℕ → Option ℕ → Option ℕ
late_for (Some sent) (Some current) = if nat_lt sent current then Some current else None
late_for (Some sent) None = None
late_for None current = None

-- The message is an answer or a snapshot, not only a hello.
abbrev pub is_more : Downward → Bool
is_more (down.Hello h) = false
is_more (down.Answer a) = true
is_more (down.Snapshot s) = true

abbrev pub is_beyond_hello : Frame → Bool
is_beyond_hello (frame.Addressed a) = is_more a.inner
is_beyond_hello f = false
