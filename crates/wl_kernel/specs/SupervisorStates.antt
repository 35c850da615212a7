-- States of the supervisor: the kernel, and whether a broker is up.
use Rattle.std.specs.Prelude.{◌≡◌, ℕ, List, Bool, true, false, Option, Some, None, option_map, if◌then◌else◌}
use Rattle.wl_grammar.specs.declared.frame.Frame.{Frame}
use Rattle.wl_kernel.specs.declared.fault.RouteFault.{RouteFault}
use Rattle.wl_kernel.specs.declared.fault.RouteFault.TheVariants.{StaleLink}
use Rattle.wl_kernel.specs.declared.supervisor.StartRefusal.{StartRefusal}
use Rattle.wl_kernel.specs.declared.supervisor.StartRefusal.TheVariants.{AlreadyUp, Listed}
use Rattle.wl_kernel.specs.declared.supervisor.NotStopped.{NotStopped}
use Rattle.wl_kernel.specs.declared.supervisor.NotStopped.TheVariants.{NotUp, GenerationsUsedUp}
use Rattle.wl_kernel.specs.declared.supervisor.State.{State}
use Rattle.wl_kernel.specs.declared.supervisor.State.TheVariants.{Down, Up}
use Rattle.wl_kernel.specs.Kernel.{KernelState, may_stop, stopped, start_refusal}
use Rattle.wl_kernel.specs.KernelLaws.{Call, reached}
use Rattle.wl_kernel.specs.Routes.{route_down_refusal}

pub record SupervisorState : Type 0 where
  pub kernel : KernelState
  pub is_up : Bool

abbrev pub without_broker : KernelState → SupervisorState
without_broker k = record { kernel = k; is_up = false }

abbrev pub with_broker : KernelState → SupervisorState
with_broker k = record { kernel = k; is_up = true }

-- The kernel is the result of some list of calls, so the kernel's laws hold of it.
pub record IsReached (k : KernelState) : Type 0 where
  pub calls : List Call
  pub made : k ≡ reached calls k.last

-- The generation of the broker that is up.
abbrev pub current : SupervisorState → Option ℕ
current s = if s.is_up then Some s.kernel.generation else None

abbrev pub with_kernel : KernelState → SupervisorState → SupervisorState
with_kernel k s = record { kernel = k; is_up = s.is_up }

-- Starting and stopping

-- A start with this list is refused if a broker is up, or if the kernel refuses the list.
abbrev pub list_refusal : List ℕ → SupervisorState → Option StartRefusal
list_refusal listed s = if s.is_up then Some AlreadyUp else option_map Listed (start_refusal listed s.kernel)

abbrev pub begun : SupervisorState → SupervisorState
begun s = with_broker s.kernel

abbrev pub stop_refusal : SupervisorState → Option NotStopped
stop_refusal s = if s.is_up then (if may_stop s.kernel then None else Some GenerationsUsedUp) else Some NotUp

abbrev pub halted : SupervisorState → SupervisorState
halted s = without_broker (stopped s.kernel)

-- Frames of a broker

-- Only the frames of a broker that is up are routed.
abbrev pub down_refusal : ℕ → Frame → SupervisorState → Option RouteFault
down_refusal link f s = if s.is_up then route_down_refusal link f s.kernel else Some StaleLink

-- Supervisor state as the code stores it

abbrev pub seen : State → SupervisorState
seen (Down k) = without_broker k
seen (Up k) = with_broker k
