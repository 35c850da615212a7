-- Decoding of a byte stream. Its result is the frames at its front, and either an incomplete rest
-- or the first fault.
use Rattle.std.specs.Prelude.{◌≡◌, ◌≢◌, ◌⊎◌, ◌↔◌, ◌==◌, ℕ, ◌^◌, ◌<◌, List, [], ◌∷◌, ◌++◌, Bool, true, false, length, Option, None, Some, Result, Ok, Err, if◌then◌else◌}
use Rattle.std.specs.List.{flat_map, AllByRecursion}
use Rattle.wl_grammar.specs.declared.kinds.TheConstants.{FIRST_VERSION, SECOND_VERSION, COMMAND, REPORT, POST, HELLO, ANSWER, SNAPSHOT, HEARD, WELCOME, STAMPED, START, ADDRESSED, DEAD, REPORT_PART, PAIR_WELCOME}
use Rattle.wl_grammar.specs.declared.frame.Frame.{Frame}
use Rattle.wl_grammar.specs.declared.frame.Frame.TheVariants as frame
use Rattle.wl_grammar.specs.Lengths.{IsLength}
use Rattle.wl_frames.specs.declared.fault.FrameFault.{FrameFault}
use Rattle.wl_frames.specs.declared.fault.FrameFault.TheVariants.{BadLength, BadVersion, BadKind, BadField, LeftOver, Truncated, Memory, Failed}
use Rattle.wl_grammar.specs.Grammar.{u32, IsWellFormed, body, spelling}

-- Faults of a body

-- A body has version 1 or version 2.
abbrev pub IsVersion : ℕ → Type 0
IsVersion n = (n ≡ FIRST_VERSION) ⊎ (n ≡ SECOND_VERSION)

-- Each kind of frame belongs to one version.
pub data IsKind : ℕ → ℕ → Type 0 where
  command : IsKind FIRST_VERSION COMMAND
  report : IsKind FIRST_VERSION REPORT
  post : IsKind FIRST_VERSION POST
  hello : IsKind FIRST_VERSION HELLO
  answer : IsKind FIRST_VERSION ANSWER
  snapshot : IsKind FIRST_VERSION SNAPSHOT
  heard : IsKind FIRST_VERSION HEARD
  welcome : IsKind FIRST_VERSION WELCOME
  stamped : IsKind FIRST_VERSION STAMPED
  start : IsKind FIRST_VERSION START
  addressed : IsKind FIRST_VERSION ADDRESSED
  dead : IsKind FIRST_VERSION DEAD
  report_part : IsKind SECOND_VERSION REPORT_PART
  pair_welcome : IsKind SECOND_VERSION PAIR_WELCOME

-- The last field of these frames is an inner body, which extends to the end.
abbrev pub is_envelope : Frame → Bool
is_envelope (frame.Stamped s) = true
is_envelope (frame.Addressed a) = true
is_envelope _ = false

-- The bytes are the encoded fields of a well-formed frame, followed by `more`. An inner body leaves
-- no more bytes.
pub record Begins (bytes : List ℕ) (f : Frame) (more : List ℕ) : Type 0 where
  pub well_formed : IsWellFormed f
  pub spelled : bytes ≡ body f ++ more
  pub inner_to_the_end : is_envelope f ≡ true → more ≡ []

-- The first fault of a complete body: in its version, in its kind, in its fields, or in the bytes
-- after them.
abbrev pub HasFault : List ℕ → FrameFault → Type 0
HasFault bytes BadVersion = (version : ℕ) × (rest : List ℕ) × (bytes ≡ version ∷ rest) × (IsVersion version → ⊥)
HasFault bytes BadKind =
    (version kind : ℕ) × (rest : List ℕ) × (bytes ≡ version ∷ kind ∷ rest) × IsVersion version × (IsKind version kind → ⊥)
HasFault bytes BadField =
    (version kind : ℕ) × (rest : List ℕ) × (bytes ≡ version ∷ kind ∷ rest) × IsKind version kind × ((f : Frame) (more : List ℕ) → Begins bytes f more → ⊥)
HasFault bytes LeftOver = (f : Frame) × (more : List ℕ) × Begins bytes f more × (more ≢ [])
HasFault bytes BadLength = ⊥
HasFault bytes Truncated = ⊥
HasFault bytes Memory = ⊥
HasFault bytes Failed = ⊥

-- A body is not decoded because of its first fault, or because memory ran out.
abbrev pub IsFaultOf : List ℕ → FrameFault → Type 0
IsFaultOf bytes fault = (fault ≡ Memory) ⊎ HasFault bytes fault

-- Next frame of a stream

-- The bytes hold neither a complete frame nor a fault: the length is incomplete, or the body is
-- shorter than its length.
abbrev pub IsPartial : List ℕ → Type 0
IsPartial bytes =
    (length bytes < 4) ⊎ ((n : ℕ) × (part : List ℕ) × (bytes ≡ u32 n ++ part) × IsLength n × (length part < n))

-- The next frame has a fault: a length that no body has, or a complete body with a fault.
abbrev pub HasFaultNext : List ℕ → FrameFault → Type 0
HasFaultNext bytes fault =
    ((n : ℕ) × (rest : List ℕ) × (bytes ≡ u32 n ++ rest) × (n < 2 ^ 32) × (IsLength n → ⊥) × (fault ≡ BadLength))
    ⊎ ((front rest : List ℕ) × (bytes ≡ u32 (length front) ++ front ++ rest) × IsLength (length front) × HasFault front fault)

-- Decoded streams

-- Decoding stops at a rest that holds no complete frame, or at a fault.
pub data Stop : Type 0 where
  Rest : (bytes : List ℕ) → Stop
  Fault : (fault : FrameFault) → Stop

abbrev pub StopsAt : List ℕ → Stop → Type 0
StopsAt bytes (Rest rest) = (bytes ≡ rest) × IsPartial rest
StopsAt bytes (Fault fault) = HasFaultNext bytes fault

-- The stream is the encodings of these frames, one after another, followed by this stop.
pub record Reads (stream : List ℕ) (frames : List Frame) (stop : Stop) : Type 0 where
  pub after : List ℕ
  pub spelled : stream ≡ flat_map spelling frames ++ after
  pub well_formed : AllByRecursion IsWellFormed frames
  pub stops : StopsAt after stop

-- Feeding a stream in pieces

-- The state between two pieces: the bytes of the next frame received so far, and whether a fault
-- has ended the stream.
pub record Feeding : Type 0 where
  pub rest : List ℕ
  pub has_failed : Bool

abbrev pub at_start : Feeding
at_start = record { rest = []; has_failed = false }

abbrev pub at_fault : Feeding
at_fault = record { rest = []; has_failed = true }

-- A piece yields these frames, and the rest waits for the next piece.
pub record Takes (old new : Feeding) (piece : List ℕ) (frames : List Frame) : Type 0 where
  pub was_sound : old.has_failed ≡ false
  pub is_sound : new.has_failed ≡ false
  pub reads : Reads (old.rest ++ piece) frames (Rest new.rest)

-- A piece yields a fault, and the frames in front of it. If memory runs out, nothing of the piece
-- is consumed.
pub record Refuses (old new : Feeding) (piece : List ℕ) (before : List Frame) (fault : FrameFault) : Type 0 where
  pub failed_before : (fault ≡ Failed) ↔ (old.has_failed ≡ true)
  pub failed : fault ≡ Failed → (before ≡ []) × (new ≡ old)
  pub memory : fault ≡ Memory → (before ≡ []) × (new ≡ old)
  pub stops : fault ≢ Failed → fault ≢ Memory → Reads (old.rest ++ piece) before (Fault fault) × (new ≡ at_fault)

-- A piece yields these frames, with a fault behind them or none.
abbrev pub Decodes : Feeding → Feeding → List ℕ → List Frame → Option FrameFault → Type 0
Decodes old new piece frames None = Takes old new piece frames
Decodes old new piece before (Some fault) = Refuses old new piece before fault

-- At the end of the stream, a rest is a truncated frame.
abbrev pub end_of : Feeding → Result (Unit {0}) FrameFault
end_of feed = if feed.has_failed then Err Failed else (if length feed.rest == 0 then Ok tt else Err Truncated)
