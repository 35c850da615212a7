use Rattle.std.proofs.Common.{◌≡◌, ◌<◌, ◌+◌, ◌∙◌, ℕ, true, false, ◌&&◌, ◌||◌, cond, sym, ap, arith}
use Rattle.std.specs.Prelude.{◌==◌, bytes_eq}
use Rattle.wl_draft.specs.declared.row.Row.{Row}
use Rattle.wl_draft.specs.Tables.{find}
use Rattle.wl_table_index.specs.Index.{line_of, is_entry}
use Rattle.wl_table_index.specs.NameLines.{with_holder}
use Rattle.wl_table_index.specs.OrderNumbers.{is_below, order_at}
use Rattle.wl_table_index.proofs.OrderLemmas.{rising-last}
use Rattle.wl_table_index.proofs.IndexLemmas.{below-last, below-more, line-held, counts-length, count-within, count-last}
use Rattle.wl_table_index.proofs.PlaceLemmas.{entry-pushed, other-added}
use Rattle.wl_table_index.proofs.index.Index.hold.Goals as goal

pub add-requires-clause-further : goal.add-requires-clause-further
add-requires-clause-further c = c.requires.holdable.further

pub add-requires-clause-small : goal.add-requires-clause-small
add-requires-clause-small c =
    let k = c.args.row.client in
    let t = c.args.self.now in
    omega (arith, c.requires.indexed.counts k, count-within k t.held.items, count-within k t.waiting.items, c.len-count.ensures.len, c.len-count.ensures.small, c.requires.holdable.held)

pub append-requires-clause-last : goal.append-requires-clause-last
append-requires-clause-last c =
    let t = c.args.self.now in
    below-more (order_at t.next 0) (order_at t.next t.held.slot) t.held.items (omega arith) c.requires.indexed.held_below

pub hold-requires-clause-there : goal.hold-requires-clause-there
hold-requires-clause-there c = c.requires.holdable.line

pub hold-requires-clause-small : goal.hold-requires-clause-small
hold-requires-clause-small c =
    let e = counts-length c.args.row.name c.args.self.now.held.items c.args.self.now.waiting.items in
    rw (c.requires.indexed.lines c.args.row.name) (omega (arith, e, c.len-count.ensures.len, c.len-count.ensures.small, c.requires.holdable.held))

pub returns-clause-indexed : goal.returns-clause-indexed
returns-clause-indexed c =
    let t = c.args.self.now in
    let r = c.args.row in
    let i = c.requires.indexed in
    let o = order_at t.next t.held.slot in
    let same = c.next_order-order.ensures.order in
    let l : o < order_at (t.next + 1) 0 = omega (arith, c.next_order-order.ensures.slot) in
    let below : is_below t.held.items o ≡ true = below-more (order_at t.next 0) o t.held.items (omega arith) i.held_below in
    record {
      held_rise = rw c.append.ensures.items (rising-last o r t.held.items i.held_rise below);
      waiting_rise = i.waiting_rise;
      held_below = rw c.append.ensures.items (below-last o (order_at (t.next + 1) 0) r t.held.items l below);
      waiting_below = below-more (order_at t.next 0) (order_at (t.next + 1) 0) t.waiting.items (omega arith) i.waiting_below;
      lines = λ n. c.hold.ensures.lines n ∙ ap (λ s. cond (bytes_eq r.name n) (with_holder s r.mode) s) (i.lines n) ∙ line-held n t.held.items t.waiting.items o r ∙ ap (λ h. line_of n h t.waiting.items) (sym c.append.ensures.items);
      held_places = λ k n j. c.add.ensures.places k n j true ∙ ap (λ b. (r.client == k && r.number == n && c.next_order-order.result == j) || b) (i.held_places k n j) ∙ ap (λ (x : ℕ). (r.client == k && r.number == n && x == j) || is_entry k n (find t.held.items j)) same ∙ entry-pushed k n j o r t.held.items below ∙ ap (λ h. is_entry k n (find h j)) (sym c.append.ensures.items);
      waiting_places = λ k n j. c.add.ensures.places k n j false ∙ other-added (r.client == k && r.number == n) _ ∙ i.waiting_places k n j;
      counts = λ k. rw c.append.ensures.items (omega (arith, c.add.ensures.count k, i.counts k, count-last (λ (p : ℕ × Row). p.1.client == k) (o, r) t.held.items));
      room = omega (arith, c.requires.holdable.held, c.append.ensures.room);
    }
