use Rattle.std.proofs.Common.{append_assoc}
use Rattle.std.proofs.lemmas.Result.{IfOk-equal}
use Rattle.wl_grammar.specs.Grammar.{report}
use Rattle.wl_grammar.proofs.encoding.put_report.Goals as goal

pub returns-clause-spelled : goal.returns-clause-spelled
unfolding report
returns-clause-spelled c =
    IfOk-equal c.put_entries.result _ _ _ c.put_entries.ensures.spelled
    (rw (
      c.in_ok-put_u32-2.ensures.spelled,
      c.in_ok-put_u32.ensures.spelled,
      c.in_ok-put_kind.ensures.spelled,
      c.as_slice.ensures,
    )
    (simp append_assoc))
