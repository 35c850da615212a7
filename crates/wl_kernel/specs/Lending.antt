-- The supervisor after the tab table that it has lent is returned.
use Rattle.std.specs.Borrow.{Lends, MutBor, Fml}
use Rattle.wl_kernel.specs.Kernel.{KernelState}
use Rattle.wl_kernel.specs.contracts.states.Down.{the_row as down}
use Rattle.wl_kernel.specs.contracts.states.Up.{the_row as up}
use Rattle.wl_kernel.specs.contracts.tabs.Tabs.{the_row as tabs}

-- The supervisor contains the table as it was returned.
abbrev pub LendsDownTabs : MutBor KernelState → MutBor KernelState → Fml
LendsDownTabs d r = Lends down tabs d r (λ k. k)

abbrev pub LendsUpTabs : MutBor KernelState → MutBor KernelState → Fml
LendsUpTabs u r = Lends up tabs u r (λ k. k)
