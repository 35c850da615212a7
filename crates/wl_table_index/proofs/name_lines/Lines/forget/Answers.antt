use Rattle.std.proofs.Common.{◌∙◌, sym, arith}
use Rattle.std.proofs.lemmas.Bool.Decides.{nat_tests}
use Rattle.std.proofs.lemmas.Map.Text.{text_keys}
use Rattle.wl_table_index.proofs.name_lines.Lines.forget.Goals as goal

pub returns-then-is_idle-clause-lines : goal.returns-then-is_idle-clause-lines
returns-then-is_idle-clause-lines c = λ n.
    let e = sym c.is_idle.ensures ∙ c.if-is_idle.true in
    grind (arith, text_keys, nat_tests)

pub returns-then-is_idle-clause-idle : goal.returns-then-is_idle-clause-idle
returns-then-is_idle-clause-idle c = λ n. grind (arith, text_keys, nat_tests)
