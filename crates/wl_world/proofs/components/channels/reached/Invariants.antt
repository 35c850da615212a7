use Rattle.std.proofs.Common.{◌≡◌, ◌≤◌, ◌++◌, drop, length}
use Rattle.wl_world.specs.Merging.{merged}
use Rattle.wl_world.proofs.components.channels.reached.Given as goal

-- The results added so far, followed by the merge of the rest, are the whole merge.
abbrev pub invariant-loop-number : goal.invariant-loop-number
invariant-loop-number l = record {
  within : length l.rest ≤ length l.fn.took;
  sum : l.objects.items ++ merged l.rest (drop l.number-index l.full) ≡ merged l.fn.took l.full;
}
