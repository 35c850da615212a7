use Rattle.std.proofs.Common.{◌≡◌, drop, not}
use Rattle.wl_kernel.specs.Kernel.{first_such, is_opened}
use Rattle.wl_kernel.proofs.tabs.Tabs.stranger.Given as goal

abbrev pub invariant-loop-tab : goal.invariant-loop-tab
invariant-loop-tab l =
    first_such (λ t. not (is_opened l.self t)) (drop l.tab-index l.listed) ≡ first_such (λ t. not (is_opened l.self t)) l.listed
