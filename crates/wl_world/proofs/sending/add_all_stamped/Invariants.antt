use Rattle.std.proofs.Common.{◌≡◌, ◌++◌}
use Rattle.std.specs.List.{flat_map}
use Rattle.wl_world.specs.Components.{passed_up}
use Rattle.wl_world.proofs.sending.add_all_stamped.Given as goal

abbrev pub invariant-loop-frame : goal.invariant-loop-frame
invariant-loop-frame l = l.sends.items ≡ l.initial.sends.items ++ flat_map (passed_up l.kernel l.tab) l.yielded
