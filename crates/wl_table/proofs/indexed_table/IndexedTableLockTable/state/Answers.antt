use Rattle.std.proofs.Common.{sym}
use Rattle.wl_table_index.proofs.PlaceLemmas.{standing-of}
use Rattle.wl_table.proofs.indexed_table.IndexedTableLockTable.state.Goals as goal

pub returns : goal.returns
returns c =
    rw (← c.self.view_is) (sym (standing-of c.self.inside.index c.args.client c.args.number c.standing.result c.self.invariant.index c.standing.ensures))
