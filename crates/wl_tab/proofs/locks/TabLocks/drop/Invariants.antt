use Rattle.std.proofs.Common.{vec_len}
use Rattle.wl_tab.proofs.locks.TabLocks.drop.Given as goal

abbrev pub decreases-loop-last : goal.decreases-loop-last
decreases-loop-last l = vec_len l.kept
