use Rattle.std.proofs.Common.{[]}
use Rattle.wl_locked.specs.Blanks.{name_at}
use Rattle.test_lanes.proofs.tests.runs.run_over.Given as goal

abbrev pub ghosts-run_named : goal.ghosts-run_named
ghosts-run_named g a = record {
  names = λ shard. name_at a.blanks shard;
  run = record { generation = 1; listed = []; shards = a.shards; lanes = a.lanes; limit = a.limit };
}
