use Rattle.wl_locked.proofs.Gathered.{begun}
use Rattle.wl_locked.proofs.brokers.Brokers.close.Goals as goal

pub gather-gathered-requires-clause-first : goal.gather-gathered-requires-clause-first
gather-gathered-requires-clause-first g c = begun g.J.Shards.run c.args.lanes.items c.args.gathering.histories.items c.args.gathering.fault c.requires.first.0 c.requires.first.1
