use Rattle.std.proofs.Common.{◌∙◌, sym}
use Rattle.wl_table_index.proofs.SlotLemmas.{length-slab}
use Rattle.wl_table_index.proofs.rows.Rows.len.Goals as goal

pub returns-clause-len : goal.returns-clause-len
returns-clause-len c = rw (← c.self.view_is) (c.len.ensures ∙ sym (length-slab c.self.inside.rows c.self.invariant))
