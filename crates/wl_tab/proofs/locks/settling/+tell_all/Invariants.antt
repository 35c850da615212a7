use Rattle.std.proofs.Common.{vec_len}
use Rattle.wl_tab.proofs.locks.settling.+tell_all.Given as goal

-- The number of tokens left decreases.
abbrev pub decreases-tell_all : goal.decreases-tell_all
decreases-tell_all l = vec_len l.kept.now
