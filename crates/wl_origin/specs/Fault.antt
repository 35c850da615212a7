-- Faults of an origin, from the errors of `url`.
use Rattle.url.specs.declared.error.ParseError.{ParseError}
use Rattle.url.specs.declared.error.ParseError.TheVariants.{OutOfMemory, Overflow}
use Rattle.wl_origin.specs.declared.fault.OriginFault.{OriginFault}
use Rattle.wl_origin.specs.declared.fault.OriginFault.TheVariants.{BadUrl, Memory}

-- An error for lack of memory is no fault of the text.
abbrev pub fault_of : ParseError → OriginFault
fault_of OutOfMemory = Memory
fault_of Overflow = Memory
fault_of _ = BadUrl
