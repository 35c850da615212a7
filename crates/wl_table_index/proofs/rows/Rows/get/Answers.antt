use Rattle.wl_table_index.proofs.RowLemmas.{found-row, other-row, no-row}
use Rattle.wl_table_index.proofs.rows.Rows.get.Goals.{in_default-via-in-Some+else-stored-order, in_default-via-in_default}
use Rattle.wl_table_index.proofs.rows.Rows.get.Goals as goal

pub returns-in-Some : goal.returns-in-Some
returns-in-Some c =
    rw (← c.self.view_is) (found-row c.self.inside.rows c.args.order c.slot_of.result c.in-Some.stored.now c.self.invariant c.slot_of.ensures c.in-Some.ensures c.if-stored-order.true)

pub returns-in_default : goal.returns-in_default
returns-in_default c =
    rw (← c.self.view_is)
    (elim c.in_default.branch [
      | in_default-via-in-Some+else-stored-order w ↦ other-row c.self.inside.rows c.args.order c.slot_of.result w.in-Some.stored.now c.self.invariant c.slot_of.ensures w.in-Some.ensures w.if-stored-order.false
      | in_default-via-in_default w ↦ no-row c.self.inside.rows c.args.order c.slot_of.result c.self.invariant c.slot_of.ensures w.in_default.ensures
    ])
