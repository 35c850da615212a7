use Rattle.wl_broker.proofs.shards.Runs.{seen-at_each_shard, answered-by_its_shard, deaths-sent_by_shards, deaths-sent_by_one_shard, hellos-of_shards}
use Rattle.wl_broker.proofs.shards.Orders.{in-one_order}
use Rattle.wl_broker.proofs.laws.law_shards.Goals as goal

pub returns-clause-state : goal.returns-clause-state
returns-clause-state c = seen-at_each_shard

pub returns-clause-answers : goal.returns-clause-answers
returns-clause-answers c = answered-by_its_shard

pub returns-clause-deaths : goal.returns-clause-deaths
returns-clause-deaths c = deaths-sent_by_shards

pub returns-clause-one_sends : goal.returns-clause-one_sends
returns-clause-one_sends c = deaths-sent_by_one_shard

pub returns-clause-hellos : goal.returns-clause-hellos
returns-clause-hellos c = hellos-of_shards

pub returns-clause-order : goal.returns-clause-order
returns-clause-order c = in-one_order
