use Rattle.std.proofs.lemmas.Result.{err_from_is_err_and}
use Rattle.wl_origin.proofs.PartitionLemmas.{origin_of_text-fits, partition_of-origin, refused_partition}
use Rattle.wl_origin.proofs.parse.partition.Goals as goal

pub returns-in_err-own-clause-refused : goal.returns-in_err-own-clause-refused
returns-in_err-own-clause-refused c =
    let answered = err_from_is_err_and c.from_residual.result c.from_residual.ensures.1 in
    rw (answered.1, answered.2) (refused_partition c.args.url.now c.in_err-own.field-0.0 c.in_err-own.ensures.refused)

pub returns-in_err-top-clause-memory : goal.returns-in_err-top-clause-memory
returns-in_err-top-clause-memory c =
    let answered = err_from_is_err_and c.from_residual-in_err-top.result c.from_residual-in_err-top.ensures.1 in
    rw answered.1 (λ _. origin_of_text-fits c.args.url.now c.in_ok-own.own c.in_ok-own.ensures.ok)

pub returns-clause-ok : goal.returns-clause-ok
returns-clause-ok c =
    rw (c.new.ensures, c.in_ok-top.ensures) (partition_of-origin c.args.url.now c.in_ok-own.own c.in_ok-own.ensures.ok)
