-- Reasons for which a tab is not opened.
use Rattle.wl_origin.specs.declared.fault.OriginFault.{OriginFault}
use Rattle.wl_origin.specs.declared.fault.OriginFault.TheVariants.{Memory as OriginMemory}
use Rattle.wl_kernel.specs.declared.fault.OpenFault.{OpenFault}
use Rattle.wl_kernel.specs.declared.fault.OpenFault.TheVariants.{Memory as OpenMemory}
use Rattle.wl_hub.specs.declared.fault.OpenRefusal.{OpenRefusal}
use Rattle.wl_hub.specs.declared.fault.OpenRefusal.TheVariants.{Origin, Tab, Memory}

abbrev pub of_origin : OriginFault → OpenRefusal
of_origin OriginMemory = Memory
of_origin f = Origin f

abbrev pub of_kernel : OpenFault → OpenRefusal
of_kernel OpenMemory = Memory
of_kernel f = Tab f
