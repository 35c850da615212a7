use Rattle.std.proofs.Common.{vec_len}
use Rattle.wl_broadcast.proofs.channels.Channels.end.Given as goal

abbrev pub decreases-loop-channel : goal.decreases-loop-channel
decreases-loop-channel l = vec_len l.channels
