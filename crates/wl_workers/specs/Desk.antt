-- The desk: a broker between a stream of input frames and a stream of output frames.
use Rattle.std.specs.Prelude.{◌≡◌, ◌≢◌, ◌⊎◌, ℕ, List, [], ◌∷◌, ◌++◌, Option, Result, Ok, Err, ⊤}
use Rattle.std.specs.List.{flat_map}
use Rattle.std.specs.Io.KnownBytes.{Consumes, Appends, IsAtEnd}
use Rattle.wl_grammar.specs.declared.frame.Addressed.{Addressed}
use Rattle.wl_grammar.specs.declared.frame.Frame.{Frame}
use Rattle.wl_grammar.specs.declared.frame.Frame.TheVariants as frame
use Rattle.wl_frames.specs.declared.fault.FrameFault.TheVariants as fault
use Rattle.wl_grammar.specs.Grammar.{spelling}
use Rattle.wl_frames.specs.Stream.{Stop, Rest, Fault, Reads}
use Rattle.wl_broker.specs.Broker.{BrokerState, started, hellos, Taking, Drops, Does, taking, death_step}
use Rattle.wl_workers.specs.declared.desk.DeskFault.{DeskFault}
use Rattle.wl_workers.specs.declared.desk.DeskFault.TheVariants as desk
use Rattle.wl_grammar.specs.Prefixes.{IsPrefixOf}

-- The desk's state: before the first frame, with a running broker, or after an unexpected frame.
pub data DeskState : Type 0 where
  Opening : DeskState
  Serving : (broker : BrokerState) → DeskState
  Refused : DeskState

-- The desk's next state and the frames it sends, by the broker's decision on a message.
abbrev pub taken : BrokerState → Taking → DeskState × List Addressed
taken b (Drops reason) = (Serving b, [])
taken b (Does after outs) = (Serving after, outs)

-- One step of the desk: a Start frame comes first, then stamped frames and deaths. Any other frame
-- is refused.
unfoldable pub desk_step : DeskState → Frame → DeskState × List Addressed
desk_step Opening (frame.Start s) = (Serving (started s.generation s.list), hellos s.generation s.list)
desk_step (Serving b) (frame.Stamped s) = taken b (taking b s)
desk_step (Serving b) (frame.Dead d) = (Serving (death_step b d.tab).0, (death_step b d.tab).1)
desk_step d f = (Refused, [])

-- The desk's state after a list of frames.
abbrev pub desk_after : DeskState → List Frame → DeskState
desk_after d [] = d
desk_after d (f ∷ fs) = desk_after (desk_step d f).0 fs

-- The frames that the desk sends for a list of frames.
abbrev pub desk_outs : DeskState → List Frame → List Addressed
desk_outs d [] = []
desk_outs d (f ∷ fs) = (desk_step d f).1 ++ desk_outs (desk_step d f).0 fs

-- The encodings of the frames that a new desk sends for a list of frames.
abbrev pub written : List Frame → List ℕ
written frames = flat_map (λ a. spelling (frame.Addressed a)) (desk_outs Opening frames)

abbrev pub IsServing : DeskState → Type 0
IsServing Opening = ⊥
IsServing (Serving b) = Unit {0}
IsServing Refused = ⊥

abbrev pub IsRefused : DeskState → Type 0
IsRefused Opening = ⊥
IsRefused (Serving b) = ⊥
IsRefused Refused = Unit {0}

-- The output of a run over frames that were read up to a stop, by the run's result.
abbrev pub Answered : List Frame → Stop → Result (Unit {0}) DeskFault → List ℕ → Type 0
-- The input ended between two frames.
Answered frames stop (Ok done) output = (stop ≡ Rest []) × IsServing (desk_after Opening frames) × (output ≡ written frames)
-- The stream has a fault at its first error, or the input ended within a frame.
Answered frames stop (Err (desk.Frame f)) output =
    ((stop ≡ Fault f) ⊎ ((rest : List ℕ) × (stop ≡ Rest rest) × (rest ≢ []) × (f ≡ fault.Truncated)))
    × (IsRefused (desk_after Opening frames) → ⊥) × (output ≡ written frames)
-- A frame was unexpected, or there was no frame at all.
Answered frames stop (Err desk.Unexpected) output =
    (IsRefused (desk_after Opening frames) ⊎ ((frames ≡ []) × (stop ≡ Rest []))) × (output ≡ written frames)
-- The reader failed, or the read limit was reached. All frames read before are answered.
Answered frames stop (Err desk.Read) output =
    (rest : List ℕ) × (stop ≡ Rest rest) × (IsRefused (desk_after Opening frames) → ⊥) × (output ≡ written frames)
Answered frames stop (Err desk.TooManyReads) output =
    (rest : List ℕ) × (stop ≡ Rest rest) × (IsRefused (desk_after Opening frames) → ⊥) × (output ≡ written frames)
-- The writer failed, or memory ran out. The output is a prefix of the full answer.
Answered frames stop (Err desk.Write) output = IsPrefixOf output (written frames)
Answered frames stop (Err desk.Memory) output = IsPrefixOf output (written frames)

-- The part of the input that was decoded: all of it, unless memory ran out.
abbrev pub IsReadPart : List ℕ → List ℕ → Result (Unit {0}) DeskFault → Type 0
IsReadPart part input (Err desk.Memory) = IsPrefixOf part input
IsReadPart part input result = part ≡ input

-- The output is the answer to the input.
pub record Answers (input : List ℕ) (result : Result (Unit {0}) DeskFault) (output : List ℕ) : Type 0 where
  pub part : List ℕ
  pub frames : List Frame
  pub stop : Stop
  pub is_part : IsReadPart part input result
  pub reads : Reads part frames stop
  pub answered : Answered frames stop result output

-- A run that ended because the input ended has reached the reader's end. Such a run succeeds, ends
-- within a frame, or has no frame at all.
abbrev pub NeedsEnd : List Frame → Result (Unit {0}) DeskFault → Option (List ℕ) → Type 0
NeedsEnd frames (Ok done) reader = IsAtEnd reader
NeedsEnd frames (Err (desk.Frame f)) reader = f ≡ fault.Truncated → IsAtEnd reader
NeedsEnd frames (Err desk.Unexpected) reader = (IsRefused (desk_after Opening frames) → ⊥) → IsAtEnd reader
NeedsEnd frames (Err e) reader = ⊤

-- The reader gave an input, and the writer took the answer to it.
pub record Runs (reader_before reader_after writer_before writer_after : Option (List ℕ)) (result : Result (Unit {0}) DeskFault) : Type 0 where
  pub input : List ℕ
  pub output : List ℕ
  pub consumed : Consumes reader_before reader_after input
  pub appended : Appends writer_before writer_after output
  pub answers : Answers input result output
  pub at_end : NeedsEnd answers.frames result reader_after
