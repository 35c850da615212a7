use Rattle.std.proofs.Common.{◌≡◌, ◌∙◌, ◌++◌, ◌∷◌, [], Some, None, length, take, get_or, sym, ap, arith}
use Rattle.wl_draft.specs.declared.row.Row.{Row}
use Rattle.wl_draft.specs.Tables.{find}
use Rattle.wl_table_index.specs.OrderNumbers.{values_in}
use Rattle.wl_table_index.proofs.SortLemmas.{at-index}
use Rattle.wl_table_index.proofs.rows.Rows.copies.Goals.{in-Some+in_ok-copy_of+in_ok-push, in_default}
use Rattle.wl_table_index.proofs.rows.Rows.copies.Goals as goal

some-row : (a b : Row) → Some a ≡ Some b → a ≡ b
some-row a b e = cc

row-none : (r : Row) → None ≡ Some r → ⊥
row-none r e = cc

pub loop-order-preserved : goal.loop-order-preserved
loop-order-preserved c =
    let i = c.loop-order.order-index in
    let rows = c.args.self.now.items in
    let rise = c.in_ok-orders.ensures.rising in
    let orders = c.deref-order-items.ensures.value ∙ c.in_ok-orders.ensures.orders in
    let at = at-index rows i rise (omega (arith, c.loop-order-test.true, ap (λ ks. length ks) orders)) in
    let found : find rows (get_or c.deref-order-items.result.now i 0) ≡ Some at.row = ap (λ ks. find rows (get_or ks i 0)) orders ∙ at.found in
    elim c.match-get.branch [
      | in-Some+in_ok-copy_of+in_ok-push w ↦
          (let same : w.in-Some.row.now ≡ at.row = some-row w.in-Some.row.now at.row (w.in-Some.ensures ∙ found) in
          rw w.copies-is (w.in_ok-push.ensures.items ∙ ap (λ rs. rs ++ w.in_ok-copy_of.field-0 ∷ []) c.loop-order.invariant ∙ ap (λ r. values_in (take i rows) ++ r ∷ []) (w.in_ok-copy_of.ensures ∙ same) ∙ sym at.more))
      | in_default w ↦ let g = c.get.ensures in absurd (row-none at.row (grind (arith, found)))
    ]
