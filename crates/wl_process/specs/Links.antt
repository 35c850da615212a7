-- The reading end of a link: the frames of its input, up to the end of input or the first fault.
use Rattle.std.specs.Prelude.{◌≡◌, ◌≢◌, ◌⊎◌, ℕ, List, [], ◌++◌, true, false, Option, Some, None, option_map, IfSome, Result, Ok, Err}
use Rattle.std.specs.Io.KnownBytes.{Consumes, Keeps, IsAtEnd}
use Rattle.wl_grammar.specs.declared.frame.Frame.{Frame}
use Rattle.wl_frames.specs.Device.{Reading, fresh_reader}
use Rattle.wl_frames.specs.Stream.{Feeding, Reads, Rest, Fault}
use Rattle.wl_frames.specs.declared.device.TheConstants.{READ_LIMIT}
use Rattle.wl_frames.specs.declared.fault.FrameFault.{FrameFault}
use Rattle.wl_frames.specs.declared.fault.FrameFault.TheVariants as frame_fault
use Rattle.wl_process.specs.declared.fault.ProcessFault.{ProcessFault}
use Rattle.wl_process.specs.declared.fault.ProcessFault.TheVariants as process

-- A link: its reader, the bytes of an incomplete frame while more may come, and the reason why
-- reading stopped.
pub record Link (R : Type 0) : Type 0 where
  pub source : Reading R
  pub unread : Option (List ℕ)
  pub end : Result (Unit {0}) ProcessFault

abbrev pub fresh_link : {R : Type 0} → R → Link R
fresh_link reader = record { source = fresh_reader reader; unread = Some []; end = Ok tt }

-- Reading has stopped, for this reason.
abbrev pub IsOver : {R : Type 0} → Link R → Result (Unit {0}) ProcessFault → Type 0
IsOver link end = (link.unread ≡ None) × (link.end ≡ end)

-- The result of every call after reading stopped.
abbrev pub told : {A : Type 0} → Result (Unit {0}) ProcessFault → Result (Option A) ProcessFault
told (Ok done) = Ok None
told (Err fault) = Err fault

-- Results of a read

-- The point at which the frames of a piece stop, after the rest of earlier pieces. It is an
-- incomplete frame or a fault, which ends the link. If memory ran out, there are no frames and the
-- link ends.
abbrev pub Stops : {R : Type 0} → List ℕ → List ℕ → List Frame → Link R → Type 0
Stops rest piece frames link =
    ((unread : List ℕ) × Reads (rest ++ piece) frames (Rest unread) × (link.unread ≡ Some unread))
    ⊎ ((fault : FrameFault) × Reads (rest ++ piece) frames (Fault fault) × IsOver link (Err (process.Frame fault)))
    ⊎ ((frames ≡ []) × IsOver link (Err process.Memory))

-- The reader gave a piece after this rest, and these are its frames.
pub record Brings {R : Type 0} (before after : Option (List ℕ)) (rest : List ℕ) (frames : List Frame) (link : Link R) : Type 0 where
  pub piece : List ℕ
  pub not_empty : piece ≢ []
  pub consumed : Consumes before after piece
  pub stops : Stops rest piece frames link

-- The input ended between two frames.
abbrev pub Ended : Option (List ℕ) → Option (List ℕ) → List ℕ → Type 0
Ended before after rest = Consumes before after [] × IsAtEnd after × (rest ≡ [])

-- Why a read brings nothing: the input ended within a frame, the reader failed, or the read limit
-- was reached. Such a read takes no input, and the incomplete frame is dropped.
abbrev pub Fails : {R : Type 0} → Option (List ℕ) → Option (List ℕ) → List ℕ → ProcessFault → Link R → Type 0
Fails before after rest fault link =
    ((fault ≡ process.Frame frame_fault.Truncated) × Consumes before after [] × IsAtEnd after × (rest ≢ []))
    ⊎ ((fault ≡ process.Read) × Keeps before after × (link.source.has_failed ≡ true))
    ⊎ ((fault ≡ process.TooManyReads) × (after ≡ before) × (link.source.reads ≡ READ_LIMIT))

-- The rest kept in a feed

abbrev pub unread_in : Option Feeding → Option (List ℕ)
unread_in feed = option_map (λ f. f.rest) feed

-- A feed is dropped at its first fault.
abbrev pub IsSound : Option Feeding → Type 0
IsSound feed = IfSome feed (λ f. f.has_failed ≡ false)
