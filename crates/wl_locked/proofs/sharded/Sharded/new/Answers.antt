use Rattle.std.proofs.Common.{◌∙◌, ap, arith}
use Rattle.wl_locked.specs.declared.shards.TheConstants.{SHARD_LIMIT}
use Rattle.wl_locked.specs.Sharding.{Run, hellos_below}
use Rattle.wl_locked.proofs.Greeting.{no_more_hellos}
use Rattle.wl_locked.proofs.sharded.Sharded.new.Goals as goal

pub returns-clause-hellos : goal.returns-clause-hellos
returns-clause-hellos g c =
    let run = g.J.Shards.run in
    let shards = ap (λ (r : Run). r.shards) c.requires.run in
    c.new.ensures ∙ c.in_ok-brokers.ensures.hellos ∙ no_more_hellos run SHARD_LIMIT (omega (arith, shards, c.requires.shards.0)) (omega (arith, shards, c.requires.shards.1)) ∙ ap (hellos_below run) shards
