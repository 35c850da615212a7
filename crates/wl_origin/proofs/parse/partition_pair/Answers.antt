use Rattle.std.proofs.lemmas.Result.{err_from_is_err_and}
use Rattle.wl_origin.proofs.PartitionLemmas.{origin_of_text-fits, partition_of_pair-origins, refused_top, refused_own}
use Rattle.wl_origin.proofs.parse.partition_pair.Goals as goal

pub returns-in_err-top_origin-clause-refused : goal.returns-in_err-top_origin-clause-refused
returns-in_err-top_origin-clause-refused c =
    let answered = err_from_is_err_and c.from_residual.result c.from_residual.ensures.1 in
    rw (answered.1, answered.2) (refused_top c.args.top.now c.args.own.now c.in_err-top_origin.field-0.0 c.in_err-top_origin.ensures.refused)

pub returns-in_err-own_origin-clause-refused : goal.returns-in_err-own_origin-clause-refused
returns-in_err-own_origin-clause-refused c =
    let answered = err_from_is_err_and c.from_residual-in_err-own_origin.result c.from_residual-in_err-own_origin.ensures.1 in
    rw (answered.1, answered.2) (refused_own c.args.top.now c.args.own.now c.in_ok-top_origin.top_origin c.in_err-own_origin.field-0.0 c.in_ok-top_origin.ensures.ok c.in_err-own_origin.ensures.refused)

pub returns-in_err-own_origin-clause-memory : goal.returns-in_err-own_origin-clause-memory
returns-in_err-own_origin-clause-memory c =
    let answered = err_from_is_err_and c.from_residual-in_err-own_origin.result c.from_residual-in_err-own_origin.ensures.1 in
    rw answered.1 (λ _. origin_of_text-fits c.args.top.now c.in_ok-top_origin.top_origin c.in_ok-top_origin.ensures.ok)

pub returns-clause-ok : goal.returns-clause-ok
returns-clause-ok c =
    rw c.new.ensures (partition_of_pair-origins c.args.top.now c.args.own.now c.in_ok-top_origin.top_origin c.in_ok-own_origin.own_origin c.in_ok-top_origin.ensures.ok c.in_ok-own_origin.ensures.ok)
