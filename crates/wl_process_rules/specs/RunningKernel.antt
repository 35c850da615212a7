-- Frames that the running kernel sends on, and how the process reports that no broker was started.
use Rattle.std.specs.Prelude.{◌≡◌, ◌≢◌, ℕ, List, [], ◌++◌, Some, None}
use Rattle.wl_grammar.specs.declared.frame.Frame.{Frame}
use Rattle.wl_grammar.specs.Grammar.{IsWellFormed, spelling}
use Rattle.wl_kernel.specs.declared.fault.RouteFault.{RouteFault}
use Rattle.wl_kernel.specs.declared.fault.RouteFault.TheVariants.{Memory as RouteMemory}
use Rattle.wl_kernel.specs.declared.routes.Routed.{Routed}
use Rattle.wl_kernel.specs.declared.routes.Routed.TheVariants.{Broker, Tabs}
use Rattle.wl_kernel.specs.declared.supervisor.NotStarted.{NotStarted}
use Rattle.wl_kernel.specs.declared.supervisor.NotStarted.TheVariants.{AlreadyUp, Memory}
use Rattle.wl_kernel.specs.Kernel.{KernelState}
use Rattle.wl_kernel.specs.Routes.{route_up_refusal, routed_up}
use Rattle.wl_kernel.specs.SupervisorStates.{IsReached}
use Rattle.wl_process.specs.declared.fault.ProcessFault.{ProcessFault}
use Rattle.wl_process.specs.declared.fault.ProcessFault.TheVariants.{Device, Memory as OutOfMemory}

abbrev pub fault_of_start : NotStarted → ProcessFault
fault_of_start AlreadyUp = Device
fault_of_start Memory = OutOfMemory

-- The bytes for the broker, if the frame goes there.
abbrev pub to_broker : Routed → List ℕ
to_broker (Broker f) = spelling f
to_broker (Tabs heard) = []

-- Some reached kernel routes the tab's frame. The bytes for the broker are appended to those before.
pub record IsSentOn (t : ℕ) (f : Frame) (before after : List ℕ) : Type 0 where
  pub kernel : KernelState
  pub so : IsReached kernel
  pub allowed : route_up_refusal t f kernel ≡ None
  pub spelled : IsWellFormed f → after ≡ before ++ to_broker (routed_up t f kernel)

-- Some reached kernel refuses the tab's frame for this reason, or would route it but memory has run out.
pub record IsRefusedBy (t : ℕ) (f : Frame) (e : RouteFault) : Type 0 where
  pub kernel : KernelState
  pub so : IsReached kernel
  pub refused : e ≢ RouteMemory → route_up_refusal t f kernel ≡ Some e
  pub memory : e ≡ RouteMemory → route_up_refusal t f kernel ≡ None
