-- Statuses of calls.
use Rattle.std.specs.Prelude.{◌≡◌, ◌⊎◌, ℤ, ℕ, Option, Some, None, if◌then◌else◌}
use Rattle.wl_kernel.specs.Kernel.{is_living}
use Rattle.wl_origin.specs.declared.fault.OriginFault.{OriginFault}
use Rattle.wl_origin.specs.declared.fault.OriginFault.TheVariants as origin
use Rattle.wl_kernel.specs.declared.fault.OpenFault.{OpenFault}
use Rattle.wl_kernel.specs.declared.fault.OpenFault.TheVariants as open_fault
use Rattle.wl_hub.specs.declared.fault.OpenRefusal.{OpenRefusal}
use Rattle.wl_hub.specs.declared.fault.OpenRefusal.TheVariants.{Origin, Tab, Memory}
use Rattle.wl_hub.specs.declared.receiving.Progress.{Progress}
use Rattle.wl_hub.specs.declared.receiving.Progress.TheVariants as progress
use Rattle.wl_hub.specs.Hub.{HubState}
use Rattle.wlb_hub.specs.declared.status.TheConstants.{WLB_OK, WLB_IDLE, WLB_MEMORY, WLB_BUSY, WLB_BAD_FRAME, WLB_DROPPED, WLB_NO_TAB, WLB_BAD_URL, WLB_OPAQUE_ORIGIN, WLB_NUMBER_TAKEN, WLB_TOO_MANY_LIVING, WLB_PARTITION_FULL, WLB_GENERATIONS_USED_UP, WLB_SHORT_BUFFER}

-- Tabs

abbrev pub status_of_origin : OriginFault → ℤ
status_of_origin origin.BadUrl = WLB_BAD_URL
status_of_origin origin.Security = WLB_OPAQUE_ORIGIN
status_of_origin origin.Memory = WLB_MEMORY

abbrev pub status_of_tab : OpenFault → ℤ
status_of_tab open_fault.NumberTaken = WLB_NUMBER_TAKEN
status_of_tab open_fault.TooManyLiving = WLB_TOO_MANY_LIVING
status_of_tab open_fault.PartitionFull = WLB_PARTITION_FULL
status_of_tab open_fault.Memory = WLB_MEMORY

abbrev pub status_of_refusal : OpenRefusal → ℤ
status_of_refusal (Origin f) = status_of_origin f
status_of_refusal (Tab f) = status_of_tab f
status_of_refusal Memory = WLB_MEMORY

abbrev pub open_status : Option OpenRefusal → ℤ
open_status None = WLB_OK
open_status (Some r) = status_of_refusal r

abbrev pub close_status : ℕ → HubState → ℤ
close_status t h = if is_living h.supervised.kernel t then WLB_OK else WLB_NO_TAB

-- Bytes

abbrev pub status_of_progress : Progress → ℤ
status_of_progress progress.Idle = WLB_IDLE
status_of_progress (progress.Refused f) = WLB_BAD_FRAME
status_of_progress p = WLB_OK

abbrev pub IsStatusOfBytes : ℤ → Type 0
IsStatusOfBytes s = (s ≡ WLB_OK) ⊎ (s ≡ WLB_MEMORY) ⊎ (s ≡ WLB_BUSY) ⊎ (s ≡ WLB_BAD_FRAME) ⊎ (s ≡ WLB_NO_TAB)

abbrev pub IsStatusOfOutput : ℤ → Type 0
IsStatusOfOutput s = (s ≡ WLB_OK) ⊎ (s ≡ WLB_IDLE) ⊎ (s ≡ WLB_DROPPED) ⊎ (s ≡ WLB_MEMORY) ⊎ (s ≡ WLB_SHORT_BUFFER)

-- Life of the broker

abbrev pub IsStatusOfRestart : ℤ → Type 0
IsStatusOfRestart s = (s ≡ WLB_OK) ⊎ (s ≡ WLB_MEMORY) ⊎ (s ≡ WLB_GENERATIONS_USED_UP)
