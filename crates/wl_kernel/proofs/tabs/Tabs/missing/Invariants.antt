use Rattle.std.proofs.Common.{◌≡◌, ℕ, Bool, drop, not, ◌&&◌}
use Rattle.wl_kernel.specs.Kernel.{first_such, is_from_before, is_listed}
use Rattle.wl_kernel.proofs.tabs.Tabs.missing.Given as goal

abbrev pub invariant-loop-tab : goal.invariant-loop-tab
invariant-loop-tab l =
    let absent : ℕ → Bool = λ t. is_from_before l.self t && not (is_listed l.listed t) in
    first_such absent (drop l.tab-index l.living) ≡ first_such absent l.living
