-- Reasons for which a tab was not opened.
use Rattle.wl_kernel.specs.declared.fault.OpenFault.{OpenFault}
use Rattle.wl_kernel.specs.declared.fault.OpenFault.TheVariants.{Memory}
use Rattle.wl_process.specs.declared.fault.ProcessFault.TheVariants as process
use Rattle.wl_process_rules.specs.declared.open_refusals.OpenError.{OpenError}
use Rattle.wl_process_rules.specs.declared.open_refusals.OpenError.TheVariants.{Refused, Failed}

-- Out of memory is not a refusal but a fault, after which the process cannot continue.
abbrev pub of_open : OpenFault → OpenError
of_open Memory = Failed process.Memory
of_open fault = Refused fault
