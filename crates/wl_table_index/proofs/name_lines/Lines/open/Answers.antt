use Rattle.std.proofs.Common.{arith}
use Rattle.std.proofs.lemmas.Map.Text.{text_keys}
use Rattle.std.proofs.lemmas.Bool.Decides.{nat_tests}
use Rattle.wl_table_index.proofs.name_lines.Lines.open.Goals as goal

pub returns-in_ok-insert-clause-lines : goal.returns-in_ok-insert-clause-lines
returns-in_ok-insert-clause-lines c = λ n. grind (arith, text_keys)

pub returns-in_ok-insert-clause-kept : goal.returns-in_ok-insert-clause-kept
returns-in_ok-insert-clause-kept c = λ n. grind (arith, text_keys)

pub returns-in_ok-insert-clause-kept_lines : goal.returns-in_ok-insert-clause-kept_lines
returns-in_ok-insert-clause-kept_lines c = λ n h. grind (arith, text_keys)

pub returns-in_ok-insert-clause-idle : goal.returns-in_ok-insert-clause-idle
returns-in_ok-insert-clause-idle c = λ n e. grind (arith, text_keys, nat_tests)
