use Rattle.std.proofs.Common.{sym, ◌∙◌, subst, arith}
use Rattle.wl_locked.specs.Sharding.{opening_of, receipts_in}
use Rattle.wl_locked.specs.Closing.{IsClosed}
use Rattle.wl_locked.proofs.Gathered.{stopped}
use Rattle.wl_locked.proofs.gathering.Gathering.add.Goals as goal

pub returns-in-Err-clause-gathered : goal.returns-in-Err-clause-gathered
returns-in-Err-clause-gathered g c = λ lanes h closed.
    let run = g.J.Shards.run in
    let shard = c.args.shard in
    let old = c.args.self.now in
    let lt = c.if-shard-self.false in
    let at = subst (λ r. IsClosed (opening_of run shard) run.limit run.lanes (receipts_in shard lanes) r) c.in-Err.is closed in
    stopped run lanes old.histories.items old.fault shard c.in-Err.fault (sym c.if-is_some.false ∙ c.is_some.ensures) (omega (arith, lt, c.requires.shards)) (λ none. c.requires.room.some none (omega (arith, lt))) h at
