use Rattle.std.proofs.lemmas.Result.{IfOk-weaker}
use Rattle.wlb_command_line.proofs.Grammar.{arg_added}
use Rattle.wlb_command_line.proofs.words.with_size.Goals as goal

pub returns : goal.returns
returns c = λ app has.
    let lanes = arg_added _ _ _ app _ has c.lanes.ensures c.in_ok-arg.ensures in
    let shards = arg_added _ _ _ _ _ lanes c.shards.ensures c.in_ok-arg-2.ensures in
    IfOk-weaker c.arg-3.result _ _ (λ new adds. arg_added _ _ _ _ _ shards c.limit.ensures adds) c.arg-3.ensures
