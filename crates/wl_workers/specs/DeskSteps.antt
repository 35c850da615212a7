-- Helpers of the desk's private contracts: the effect of one frame, of a list of frames and of one
-- piece of the input.
use Rattle.std.specs.Prelude.{◌≡◌, ◌≢◌, ℕ, List, [], ◌∷◌, ◌++◌, false, Option, Some, None, Result, Ok, Err}
use Rattle.std.specs.List.{flat_map}
use Rattle.wl_grammar.specs.declared.frame.Addressed.{Addressed}
use Rattle.wl_grammar.specs.declared.frame.Frame.{Frame}
use Rattle.wl_grammar.specs.declared.frame.Frame.TheVariants as frame
use Rattle.wl_frames.specs.declared.fault.FrameFault.TheVariants as fault
use Rattle.wl_grammar.specs.Grammar.{spelling}
use Rattle.wl_frames.specs.Stream.{Stop, Rest, Fault, Reads, Feeding}
use Rattle.wl_broker.specs.Broker.{BrokerState}
use Rattle.wl_broker.specs.SentFrames.{IsSpellable}
use Rattle.wl_workers.specs.declared.desk.DeskFault.{DeskFault}
use Rattle.wl_workers.specs.declared.desk.DeskFault.TheVariants as desk
use Rattle.wl_grammar.specs.Prefixes.{IsPrefixOf}
use Rattle.wl_workers.specs.Desk.{DeskState, Opening, Serving, Refused, desk_step, desk_after, desk_outs, IsServing, IsRefused, IsReadPart}

-- State

-- The state of a desk: it has a broker after its first frame.
abbrev pub state_of : Option BrokerState → DeskState
state_of None = Opening
state_of (Some broker) = Serving broker

-- Everything the desk's broker knows can be encoded.
abbrev pub IsSpeaking : DeskState → Type 0
IsSpeaking Opening = Unit {0}
IsSpeaking (Serving broker) = IsSpellable broker
IsSpeaking Refused = Unit {0}

-- The encodings of frames addressed to tabs, in order.
abbrev pub spelled : List Addressed → List ℕ
spelled outs = flat_map (λ a. spelling (frame.Addressed a)) outs

-- All bytes that a desk writes for a list of frames.
abbrev pub due : DeskState → List Frame → List ℕ
due d frames = spelled (desk_outs d frames)

-- Steps over a frame, a list of frames and a piece of input

-- A frame is answered, or it is unexpected, or memory runs out.
abbrev pub Steps : DeskState → Frame → DeskState → Result (List Addressed) DeskFault → Type 0
Steps old f new (Ok outs) = (desk_step old f ≡ (new, outs)) × IsServing new
Steps old f new (Err (desk.Frame e)) = ⊥
Steps old f new (Err desk.Unexpected) = desk_step old f ≡ (Refused, [])
Steps old f new (Err desk.Read) = ⊥
Steps old f new (Err desk.Write) = ⊥
Steps old f new (Err desk.TooManyReads) = ⊥
Steps old f new (Err desk.Memory) = Unit {0}

-- A prefix of `bytes` was appended to the old bytes.
abbrev pub IsBegun : List ℕ → List ℕ → List ℕ → Type 0
IsBegun old bytes new = (piece : List ℕ) × (new ≡ old ++ piece) × IsPrefixOf piece bytes

-- The answer to a frame was appended to the bytes, or the frame is unexpected, or memory ran out.
abbrev pub Spells : DeskState → Frame → DeskState → List ℕ → List ℕ → Result (Unit {0}) DeskFault → Type 0
Spells old f new before after (Ok done) =
    (outs : List Addressed) × (desk_step old f ≡ (new, outs)) × IsServing new × (after ≡ before ++ spelled outs)
Spells old f new before after (Err (desk.Frame e)) = ⊥
Spells old f new before after (Err desk.Unexpected) = (desk_step old f ≡ (Refused, [])) × (after ≡ before)
Spells old f new before after (Err desk.Read) = ⊥
Spells old f new before after (Err desk.Write) = ⊥
Spells old f new before after (Err desk.TooManyReads) = ⊥
Spells old f new before after (Err desk.Memory) = IsBegun before (due old (f ∷ [])) after

-- Frames are answered in order, up to the last one or the first fault.
abbrev pub Deals : DeskState → List Frame → DeskState → Result (Unit {0}) DeskFault → List ℕ → Type 0
Deals old frames new (Ok done) output = (new ≡ desk_after old frames) × (IsRefused new → ⊥) × (output ≡ due old frames)
Deals old frames new (Err (desk.Frame e)) output = ⊥
Deals old frames new (Err desk.Unexpected) output = IsRefused (desk_after old frames) × (output ≡ due old frames)
Deals old frames new (Err desk.Read) output = ⊥
Deals old frames new (Err desk.Write) output = (frames ≢ []) × IsPrefixOf output (due old frames)
Deals old frames new (Err desk.TooManyReads) output = ⊥
Deals old frames new (Err desk.Memory) output = IsPrefixOf output (due old frames)

-- Frames decoded up to a stop were answered, up to the fault that ends the run.
abbrev pub EndsBy : DeskState → List Frame → Stop → DeskFault → List ℕ → Type 0
EndsBy old frames stop (desk.Frame e) output = (stop ≡ Fault e) × (IsRefused (desk_after old frames) → ⊥) × (output ≡ due old frames)
EndsBy old frames stop desk.Unexpected output = IsRefused (desk_after old frames) × (output ≡ due old frames)
EndsBy old frames stop desk.Read output = ⊥
EndsBy old frames stop desk.Write output = IsPrefixOf output (due old frames)
EndsBy old frames stop desk.TooManyReads output = ⊥
EndsBy old frames stop desk.Memory output = IsPrefixOf output (due old frames)

pub record Passes (old new : DeskState) (rest piece : List ℕ) (feed : Feeding) (output : List ℕ) : Type 0 where
  pub frames : List Frame
  pub sound : feed.has_failed ≡ false
  pub reads : Reads (rest ++ piece) frames (Rest feed.rest)
  pub desk_is : new ≡ desk_after old frames
  pub is_open : IsRefused new → ⊥
  pub output_is : output ≡ due old frames

pub record Breaks (old : DeskState) (rest piece : List ℕ) (e : DeskFault) (output : List ℕ) : Type 0 where
  pub part : List ℕ
  pub frames : List Frame
  pub stop : Stop
  pub is_part : IsReadPart part piece (Err e)
  pub reads : Reads (rest ++ part) frames stop
  pub ends : EndsBy old frames stop e output

-- A piece of the input was decoded after the rest of the earlier pieces, and its frames were
-- answered.
abbrev pub Treats : DeskState → DeskState → List ℕ → List ℕ → Feeding → Result (Unit {0}) DeskFault → List ℕ → Type 0
Treats old new rest piece feed (Ok done) output = Passes old new rest piece feed output
Treats old new rest piece feed (Err e) output = Breaks old rest piece e output

-- The result of a run whose input ends after an undecoded rest.
abbrev pub Closes : DeskState → List ℕ → Result (Unit {0}) DeskFault → Type 0
Closes d rest (Ok done) = IsServing d × (rest ≡ [])
Closes d rest (Err (desk.Frame e)) = (rest ≢ []) × (e ≡ fault.Truncated)
Closes d rest (Err desk.Unexpected) = (d ≡ Opening) × (rest ≡ [])
Closes d rest (Err desk.Read) = ⊥
Closes d rest (Err desk.Write) = ⊥
Closes d rest (Err desk.TooManyReads) = ⊥
Closes d rest (Err desk.Memory) = ⊥
