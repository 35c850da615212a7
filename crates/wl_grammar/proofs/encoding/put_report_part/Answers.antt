use Rattle.std.proofs.Common.{append_assoc}
use Rattle.std.proofs.lemmas.Result.{IfOk-equal}
use Rattle.wl_grammar.specs.Grammar.{report_part}
use Rattle.wl_grammar.proofs.Prefixes.{IsPrefixOf-trans}
use Rattle.wl_grammar.proofs.encoding.put_report_part.Goals as goal

pub returns-clause-spelled : goal.returns-clause-spelled
unfolding report_part
returns-clause-spelled c =
    IfOk-equal c.put_entries.result _ _ _ c.put_entries.ensures.spelled
    (rw (
      c.in_ok-put_u16-2.ensures.spelled,
      c.in_ok-put_u16.ensures.spelled,
      c.in_ok-put_u32-2.ensures.spelled,
      c.in_ok-put_u32.ensures.spelled,
      c.in_ok-put_kind.ensures.spelled,
      c.as_slice.ensures,
    )
    (simp append_assoc))

pub returns-clause-kept : goal.returns-clause-kept
returns-clause-kept c =
    IsPrefixOf-trans _ _ _ c.put_kind.ensures.kept (
    IsPrefixOf-trans _ _ _ c.put_u32.ensures.kept (
    IsPrefixOf-trans _ _ _ c.put_u32-2.ensures.kept (
    IsPrefixOf-trans _ _ _ c.put_u16.ensures.kept (
    IsPrefixOf-trans _ _ _ c.put_u16-2.ensures.kept (
    c.put_entries.ensures.kept)))))
