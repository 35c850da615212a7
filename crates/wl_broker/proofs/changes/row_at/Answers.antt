use Rattle.std.specs.Option.{option_copied}
use Rattle.wl_broker.proofs.PartitionRows.{row_copied}
use Rattle.wl_broker.proofs.changes.row_at.Goals as goal

pub returns : goal.returns
returns g c = row_copied c.args.partition c.args.partitions.now.entries (option_copied c.get.result) c.get.ensures.value
