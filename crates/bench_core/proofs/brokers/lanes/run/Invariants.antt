use Rattle.std.proofs.Common.{[]}
use Rattle.wl_locked.specs.Blanks.{name_at}
use Rattle.bench_core.proofs.brokers.lanes.run.Given as goal

abbrev pub ghosts-run_named : goal.ghosts-run_named
ghosts-run_named g a = record {
  names = λ shard. name_at a.blanks shard;
  run = record { generation = 1; listed = []; shards = a.shards; lanes = a.lanes; limit = 4294967295 };
}
