use Rattle.wl_locked.specs.Blanks.{name_at}
use Rattle.wl_process_broker.proofs.broker.run_generation.Given as goal

abbrev pub ghosts-serve : goal.ghosts-serve
ghosts-serve g a = record {
  names = λ shard. name_at a.blanks shard;
  run = record { generation = a.start.generation; listed = a.start.list; shards = a.shards; lanes = a.lanes; limit = a.limit };
}
