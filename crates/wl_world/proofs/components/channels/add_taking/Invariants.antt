use Rattle.std.proofs.Common.{◌≡◌, ◌++◌, map, take}
use Rattle.wl_world_messages.specs.declared.effect.Reached.TheVariants.{Took}
use Rattle.wl_world.proofs.components.channels.add_taking.Given as goal

abbrev pub invariant-loop-number : goal.invariant-loop-number
invariant-loop-number l = l.objects.items ≡ l.initial.objects.items ++ map Took (take l.number-index l.took)
