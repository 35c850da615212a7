-- Exit statuses of processes.
use Rattle.std.specs.Prelude.{ℕ}
use Rattle.wl_process.specs.declared.fault.ProcessFault.{ProcessFault}
use Rattle.wl_process.specs.declared.fault.ProcessFault.TheVariants.{Line, LineFailed, Frame, Unexpected, Read, Write, TooManyReads, Device, Memory}
use Rattle.wl_process.specs.declared.fault.TheConstants.{REFUSED, DEVICE_OR_MEMORY}

-- The exit status for a fault: one for bad input, and one for a failure of a device or memory.
abbrev pub status_of : ProcessFault → ℕ
status_of (Line _) = REFUSED
status_of (Frame _) = REFUSED
status_of Unexpected = REFUSED
status_of TooManyReads = REFUSED
status_of (LineFailed _) = DEVICE_OR_MEMORY
status_of Read = DEVICE_OR_MEMORY
status_of Write = DEVICE_OR_MEMORY
status_of Device = DEVICE_OR_MEMORY
status_of Memory = DEVICE_OR_MEMORY
