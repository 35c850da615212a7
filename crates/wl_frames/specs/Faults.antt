-- Conversion of faults of a device or of a stream of frames to the faults of a caller.
use Rattle.wl_frames.specs.declared.device.ReadFault.{ReadFault}
use Rattle.wl_frames.specs.declared.device.ReadFault.TheVariants.{Failed, TooManyReads}
use Rattle.wl_frames.specs.declared.fault.FrameFault.{FrameFault}
use Rattle.wl_frames.specs.declared.fault.FrameFault.TheVariants.{Memory}

-- A read fault becomes `failed` if the reader failed, and `too_many` if it reached its limit of
-- reads.
abbrev pub of_read : {X : Type 0} → X → X → ReadFault → X
of_read failed too_many Failed = failed
of_read failed too_many TooManyReads = too_many

-- A frame fault becomes `memory` if memory ran out. Any other frame fault is wrapped by `stream`.
abbrev pub of_frame : {X : Type 0} → X → (FrameFault → X) → FrameFault → X
of_frame memory stream Memory = memory
of_frame memory stream fault = stream fault
