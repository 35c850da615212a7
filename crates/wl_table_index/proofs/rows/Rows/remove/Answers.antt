use Rattle.std.proofs.Common.{◌≡◌, ◌∙◌, Some, None, Option, Bor, Bool, true, false, not, option_copied, sym, ap}
use Rattle.std.specs.Prelude.{is_some, is_none}
use Rattle.slab.specs.Slab.{entries}
use Rattle.wl_draft.specs.declared.row.Row.{Row}
use Rattle.wl_draft.specs.Tables.{find}
use Rattle.wl_table_index.specs.OrderNumbers.{ordered}
use Rattle.wl_table_index.specs.Slots.{rows_in}
use Rattle.wl_table_index.proofs.WithoutLemmas.{without-absent}
use Rattle.wl_table_index.proofs.SlotLemmas.{removed-slab}
use Rattle.wl_table_index.proofs.RowLemmas.{found-row, row-order, row-there}
use Rattle.wl_table_index.proofs.rows.Rows.remove.Goals.{in-Some, in-None}
use Rattle.wl_table_index.proofs.rows.Rows.remove.Goals as goal

not-true : (b : Bool) → true ≡ not b → b ≡ true → ⊥
not-true true e f = cc
not-true false e f = cc

not-false : (b : Bool) → false ≡ not b → b ≡ false → ⊥
not-false true e f = cc
not-false false e f = cc

none-copied : (r : Option (Bor Row)) (o : Option Row) (b : Bool) → option_copied r ≡ o → is_some r ≡ not b → b ≡ true → o ≡ None
none-copied None o b e f g = sym e
none-copied (Some x) o b e f g = absurd (not-true b f g)

some-copied : (r : Option (Bor Row)) (o : Option Row) (b : Bool) → option_copied r ≡ o → is_some r ≡ not b → b ≡ false → is_none o ≡ false
some-copied None o b e f g = absurd (not-false b f g)
some-copied (Some x) o b e f g = ap is_none (sym e)

pub returns-then-is_none-clause-items : goal.returns-then-is_none-clause-items
returns-then-is_none-clause-items c =
    sym (without-absent c.args.order c.args.self.now.items (none-copied c.get.result (find c.args.self.now.items c.args.order) c.is_none.result c.get.ensures c.is_none.ensures c.if-is_none.true))

pub returns-clause-value : goal.returns-clause-value
returns-clause-value c =
    let rows = c.self.inside.rows in
    let known = some-copied c.get.result (find c.args.self.now.items c.args.order) c.is_none.result c.get.ensures c.is_none.ensures c.if-is_none.false in
    let there : is_none (find (ordered (rows_in (entries rows))) c.args.order) ≡ false = ap (λ v. is_none (find v.items c.args.order)) c.self.view_is ∙ known in
    rw (← c.self.view_is)
    (elim c.match-try_remove.branch [
      | in-Some w ↦ rw w.result-is (found-row rows c.args.order c.slot_of.result w.in-Some.stored c.self.invariant c.slot_of.ensures w.in-Some.ensures.value (row-order rows c.args.order c.slot_of.result w.in-Some.stored c.self.invariant c.slot_of.ensures w.in-Some.ensures.value there))
      | in-None w ↦ absurd (row-there rows c.args.order c.slot_of.result c.self.invariant c.slot_of.ensures w.in-None.ensures.value there)
    ])

pub returns-clause-items : goal.returns-clause-items
returns-clause-items c =
    let rows = c.self.inside.rows in
    let known = some-copied c.get.result (find c.args.self.now.items c.args.order) c.is_none.result c.get.ensures c.is_none.ensures c.if-is_none.false in
    let there : is_none (find (ordered (rows_in (entries rows))) c.args.order) ≡ false = ap (λ v. is_none (find v.items c.args.order)) c.self.view_is ∙ known in
    rw (← c.self.view_is)
    (elim c.match-try_remove.branch [
      | in-Some w ↦ removed-slab rows c.try_remove.new.self w.in-Some.stored c.args.order c.slot_of.result c.self.invariant (sym c.slot_of.ensures) (sym w.in-Some.ensures.value) (row-order rows c.args.order c.slot_of.result w.in-Some.stored c.self.invariant c.slot_of.ensures w.in-Some.ensures.value there) c.try_remove.ensures.updates
      | in-None w ↦ absurd (row-there rows c.args.order c.slot_of.result c.self.invariant c.slot_of.ensures w.in-None.ensures.value there)
    ])
