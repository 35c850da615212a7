use Rattle.std.proofs.Common.{◌≡◌, take}
use Rattle.std.specs.List.{AllByRecursion}
use Rattle.wl_kernel.specs.Kernel.{placed}
use Rattle.wl_kernel.specs.TableIndexes.{Below}
use Rattle.wl_kernel.proofs.tabs.Tabs.placed.Given as goal

abbrev pub invariant-loop-tab : goal.invariant-loop-tab
invariant-loop-tab l = record { placed : l.list.items ≡ placed (take l.tab-index l.listed) l.self; fit : AllByRecursion Below l.list.items }
