use Rattle.std.proofs.Common.{◌∙◌, sym}
use Rattle.wl_table_index.proofs.IndexLemmas.{live-counts}
use Rattle.wl_table.proofs.indexed_table.IndexedTableLockTable.live.Goals as goal

pub returns : goal.returns
returns c =
    let t = c.self.inside.index in
    rw (← c.self.view_is) (c.live.ensures ∙ c.self.invariant.index.counts c.args.client ∙ sym (live-counts t.held.items t.waiting.items c.args.client))
