-- Writing a tab's link: the frames taken from its outbox are written.
use Rattle.std.specs.Prelude.{◌≡◌, ℕ, List, ◌++◌, Bool, true, false, map, Option}
use Rattle.std.specs.List.{flat_map, AllByRecursion}
use Rattle.std.specs.Io.KnownBytes.{Appends}
use Rattle.wl_grammar.specs.declared.frame.Frame.{Frame}
use Rattle.wl_grammar.specs.Grammar.{IsWellFormed, spelling}
use Rattle.wl_grammar.specs.Prefixes.{IsPrefixOf}
use Rattle.wl_outbox.specs.Parcels.{Packed}
use Rattle.wl_outbox.specs.MergeLaws.{IsPickedFrom}

-- `kept` is a subsequence of the frames, and each kept frame is well-formed.
abbrev pub Keeps : List Frame → List Frame → Type 0
Keeps kept frames = IsPickedFrom kept frames × AllByRecursion IsWellFormed kept

-- The output is the encodings of the kept frames, or a prefix of them if the writer has failed.
abbrev pub IsWritten : Bool → List ℕ → List Frame → Type 0
IsWritten false output kept = output ≡ flat_map spelling kept
IsWritten true output kept = IsPrefixOf output (flat_map spelling kept)

-- The encodings of the frames were written, except for lost frames.
pub record WritesFrames (frames : List Frame) (writer_before writer_after : Option (List ℕ)) (has_failed : Bool) : Type 0 where
  pub kept : List Frame
  pub output : List ℕ
  pub keeps : Keeps kept frames
  pub appended : Appends writer_before writer_after output
  pub written : IsWritten has_failed output kept

-- These parcels were taken, and the encodings of their frames were written.
pub record WritesTab (taken_before taken_after : List Packed) (writer_before writer_after : Option (List ℕ)) (has_failed : Bool) : Type 0 where
  pub taken : List Packed
  pub all : taken_after ≡ taken_before ++ taken
  pub writes : WritesFrames (map (λ p. p.frame) taken) writer_before writer_after has_failed
