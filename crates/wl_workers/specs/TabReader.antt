-- Reading a tab's link: its frames are forwarded until a look finds the tab dead.
use Rattle.std.specs.Prelude.{◌≡◌, ◌≢◌, ◌⊎◌, ◌≤◌, ℕ, List, [], ◌∷◌, ◌++◌, false, ⊤, length, map, Option, Result, Ok, Err}
use Rattle.std.specs.List.{AllByRecursion}
use Rattle.std.specs.Io.KnownBytes.{Consumes, IsAtEnd}
use Rattle.wl_board.specs.declared.tab.Life.{Life}
use Rattle.wl_board.specs.declared.tab.Life.TheVariants as life
use Rattle.wl_grammar.specs.declared.frame.Frame.{Frame}
use Rattle.wl_frames.specs.declared.fault.FrameFault.TheVariants as fault
use Rattle.wl_frames.specs.declared.device.TheConstants.{PIECE_LEN}
use Rattle.wl_frames.specs.Stream.{Stop, Rest, Fault, Reads, Feeding}
use Rattle.wl_workers.specs.declared.tab_reader.ReadEnd.{ReadEnd}
use Rattle.wl_workers.specs.declared.tab_reader.ReadEnd.TheVariants as end
use Rattle.wl_workers.specs.CallRecords.{RecordGrows}
use Rattle.wl_workers.specs.Looks.{IsNotDead, at_tab}

-- Ends

abbrev pub ended : Result (Unit {0}) ReadEnd → ReadEnd
ended (Ok done) = end.End
ended (Err e) = e

-- Forwarding

-- The last look of a reading that ended with the tab's death.
abbrev pub dead_look : ReadEnd → List Life
dead_look end.End = []
dead_look (end.Frame f) = []
dead_look end.Read = []
dead_look end.TooManyReads = []
dead_look end.Dead = life.Dead ∷ []

-- These frames were forwarded, each after a look that did not find the tab dead. Afterwards the
-- looks `last` were made.
pub record HandsUp (tab : ℕ) (lives_before lives_after : Option (List (ℕ × Life))) (handed_before handed_after : Option (List (ℕ × Frame))) (frames : List Frame) (last : List Life) : Type 0 where
  pub looks : List Life
  pub not_dead : AllByRecursion IsNotDead looks
  pub one_each : length looks ≡ length frames
  pub looked : RecordGrows lives_before lives_after (at_tab tab (looks ++ last))
  pub handed : RecordGrows handed_before handed_after (map (λ f. (tab, f)) frames)

-- `front` is a prefix of the frames that leaves at least one frame.
abbrev pub IsProperPrefix : List Frame → List Frame → Type 0
IsProperPrefix front frames = (next : Frame) × (rest : List Frame) × (frames ≡ front ++ next ∷ rest)

-- How reading ends

-- `part` is the input without its last piece.
abbrev pub IsButLastPiece : List ℕ → List ℕ → Type 0
IsButLastPiece part input = (piece : List ℕ) × (input ≡ part ++ piece) × (length piece ≤ PIECE_LEN)

-- The input, after the rest of earlier input, was decoded as these frames up to this end.
abbrev pub EndsAfter : List ℕ → List ℕ → List Frame → ReadEnd → Type 0
-- The input ended between two frames.
EndsAfter rest input frames end.End = Reads (rest ++ input) frames (Rest [])
-- Memory ran out for a piece, or a fault comes next, or the input ended within a frame.
EndsAfter rest input frames (end.Frame f) =
    ((f ≡ fault.Memory) × ((part unread : List ℕ) × IsButLastPiece part input × Reads (rest ++ part) frames (Rest unread)))
    ⊎ Reads (rest ++ input) frames (Fault f)
    ⊎ ((f ≡ fault.Truncated) × ((unread : List ℕ) × (unread ≢ []) × Reads (rest ++ input) frames (Rest unread)))
-- The reader failed, or the read limit was reached.
EndsAfter rest input frames end.Read = (unread : List ℕ) × Reads (rest ++ input) frames (Rest unread)
EndsAfter rest input frames end.TooManyReads = (unread : List ℕ) × Reads (rest ++ input) frames (Rest unread)
-- The tab was found dead before a frame that had arrived.
EndsAfter rest input frames end.Dead = (all : List Frame) × (stop : Stop) × Reads (rest ++ input) all stop × IsProperPrefix frames all

-- A reading that ended because the input ended has reached the reader's end.
abbrev pub NeedsEnd : ReadEnd → Option (List ℕ) → Type 0
NeedsEnd end.End reader = IsAtEnd reader
NeedsEnd (end.Frame f) reader = f ≡ fault.Truncated → IsAtEnd reader
NeedsEnd end.Read reader = ⊤
NeedsEnd end.TooManyReads reader = ⊤
NeedsEnd end.Dead reader = ⊤

-- The reader gave an input, and its frames were forwarded.
pub record ReadsTab (tab : ℕ) (reader_before reader_after : Option (List ℕ)) (lives_before lives_after : Option (List (ℕ × Life))) (handed_before handed_after : Option (List (ℕ × Frame))) (result : ReadEnd) : Type 0 where
  pub input : List ℕ
  pub frames : List Frame
  pub consumed : Consumes reader_before reader_after input
  pub ends : EndsAfter [] input frames result
  pub hands : HandsUp tab lives_before lives_after handed_before handed_after frames (dead_look result)

-- Helper: one more piece of input was decoded, and all its frames were forwarded.
pub record Passes (tab : ℕ) (lives_before lives_after : Option (List (ℕ × Life))) (handed_before handed_after : Option (List (ℕ × Frame))) (rest piece : List ℕ) (feed : Feeding) : Type 0 where
  pub frames : List Frame
  pub sound : feed.has_failed ≡ false
  pub reads : Reads (rest ++ piece) frames (Rest feed.rest)
  pub hands : HandsUp tab lives_before lives_after handed_before handed_after frames []

-- Helper: the result of reading when the input ends after an undecoded rest.
abbrev pub Closes : List ℕ → Result (Unit {0}) ReadEnd → Type 0
Closes rest (Ok done) = rest ≡ []
Closes rest (Err (end.Frame f)) = (rest ≢ []) × (f ≡ fault.Truncated)
Closes rest (Err end.End) = ⊥
Closes rest (Err end.Read) = ⊥
Closes rest (Err end.TooManyReads) = ⊥
Closes rest (Err end.Dead) = ⊥

-- Helper: the ends that a piece of input may cause.
abbrev pub IsPieceEnd : ReadEnd → Type 0
IsPieceEnd end.End = ⊥
IsPieceEnd (end.Frame f) = f ≢ fault.Truncated
IsPieceEnd end.Read = ⊥
IsPieceEnd end.TooManyReads = ⊥
IsPieceEnd end.Dead = ⊤
