use Rattle.std.proofs.Common.{append_assoc}
use Rattle.std.proofs.lemmas.Result.{IfOk-equal}
use Rattle.wl_grammar.specs.Grammar.{answer}
use Rattle.wl_grammar.proofs.encoding.put_answer.Goals as goal

pub returns-clause-spelled : goal.returns-clause-spelled
unfolding answer
returns-clause-spelled c =
    IfOk-equal c.put_outcome.result _ _ _ c.put_outcome.ensures.spelled
    (rw (
      c.in_ok-put_u32-3.ensures.spelled,
      c.in_ok-put_u32-2.ensures.spelled,
      c.in_ok-put_u32.ensures.spelled,
      c.in_ok-put_kind.ensures.spelled,
    )
    (simp append_assoc))
