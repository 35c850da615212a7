use Rattle.wl_table_index.proofs.UsedLemmas.{lean-used}
use Rattle.wl_table_index.proofs.laws.law_lean.Goals as goal

pub returns : goal.returns
returns c = lean-used
