use Rattle.std.proofs.Common.{length}
use Rattle.wl_broadcast.proofs.object.+deliver.Given as goal

-- The number of open objects that are left decreases.
abbrev pub decreases-deliver : goal.decreases-deliver
decreases-deliver l = length l.open_numbers.now
