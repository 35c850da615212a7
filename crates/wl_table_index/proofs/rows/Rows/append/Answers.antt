use Rattle.std.proofs.Common.{◌≡◌, ◌∙◌, ◌++◌, ◌∷◌, [], Some, true, sym, ap}
use Rattle.slab.specs.Slab.{entries}
use Rattle.wl_table_index.specs.OrderNumbers.{ordered, is_below, order_at, slot_of}
use Rattle.wl_table_index.specs.Slots.{rows_in}
use Rattle.wl_table_index.specs.declared.rows.StoredRow.{StoredRow}
use Rattle.wl_table_index.proofs.SlotLemmas.{slot-at, slots-updated, pushed-slab, row-same}
use Rattle.wl_table_index.proofs.rows.Rows.append.Goals as goal

pub invariant_of-self : goal.invariant_of-self
invariant_of-self c =
    let k = c.next_order-order.result in
    let slot = c.insert_reserved-slot.result in
    let s : StoredRow = record { order = k; line = c.args.line; row = c.args.row } in
    let v : c.args.self.now.slot ≡ slot = sym (ap (λ v. v.slot) c.self.view_is) ∙ sym c.insert_reserved-slot.ensures.key in
    let e : slot_of k ≡ slot = ap slot_of c.next_order-order.ensures.order ∙ slot-at c.args.turn c.args.self.now.slot c.next_order-order.ensures.slot ∙ v in
    slots-updated c.self.inside.rows c.insert_reserved-slot.new.self k slot (Some s) c.self.invariant e c.insert_reserved-slot.ensures.updates (λ t f. sym (row-same s t f))

pub returns-clause-items : goal.returns-clause-items
returns-clause-items c =
    let k = c.next_order-order.result in
    let slot = c.insert_reserved-slot.result in
    let s : StoredRow = record { order = k; line = c.args.line; row = c.args.row } in
    let order = c.next_order-order.ensures.order in
    let old = ordered (rows_in (entries c.self.inside.rows)) in
    let items : old ≡ c.args.self.now.items = ap (λ v. v.items) c.self.view_is in
    let v : c.args.self.now.slot ≡ slot = sym (ap (λ v. v.slot) c.self.view_is) ∙ sym c.insert_reserved-slot.ensures.key in
    let e : slot_of k ≡ slot = ap slot_of order ∙ slot-at c.args.turn c.args.self.now.slot c.next_order-order.ensures.slot ∙ v in
    let below : is_below old k ≡ true = ap (λ xs. is_below xs k) items ∙ ap (λ o. is_below c.args.self.now.items o) order ∙ c.requires.last in
    pushed-slab c.self.inside.rows c.insert_reserved-slot.new.self s slot c.self.invariant e c.insert_reserved-slot.ensures.was_vacant c.insert_reserved-slot.ensures.updates below ∙ ap (λ o. old ++ (o, c.args.row) ∷ []) order ∙ ap (λ xs. xs ++ (order_at c.args.turn c.args.self.now.slot, c.args.row) ∷ []) items
