use Rattle.std.proofs.Common.{[]}
use Rattle.wl_locked.specs.Blanks.{name_at}
use Rattle.test_lanes.proofs.tests.shards.use_up.Given as goal

abbrev pub ghosts-use_up_named : goal.ghosts-use_up_named
ghosts-use_up_named g a = record {
  names = λ shard. name_at a.blanks shard;
  run = record { generation = 1; listed = []; shards = 2; lanes = 1; limit = 2 };
}
