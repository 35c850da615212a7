use Rattle.std.proofs.Common.{◌≡◌, ◌<◌, ◌+◌, ◌∙◌, ℕ, true, false, ◌&&◌, ◌||◌, cond, sym, ap, arith}
use Rattle.std.specs.Prelude.{◌==◌, bytes_eq}
use Rattle.wl_draft.specs.declared.row.Row.{Row}
use Rattle.wl_draft.specs.Tables.{find}
use Rattle.wl_table_index.specs.OrderNumbers.{is_below, order_at}
use Rattle.wl_table_index.specs.Index.{line_of, is_entry}
use Rattle.wl_table_index.specs.NameLines.{with_waiter}
use Rattle.wl_table_index.proofs.OrderLemmas.{rising-last}
use Rattle.wl_table_index.proofs.IndexLemmas.{below-last, below-more, line-queued, length-queued, count-within, count-last}
use Rattle.wl_table_index.proofs.PlaceLemmas.{entry-pushed, other-added}
use Rattle.wl_table_index.proofs.index.Index.queue.Goals as goal

pub add-requires-clause-further : goal.add-requires-clause-further
add-requires-clause-further c = c.requires.ready.further

pub add-requires-clause-small : goal.add-requires-clause-small
add-requires-clause-small c =
    let k = c.args.row.client in
    let t = c.args.self.now in
    omega (arith, c.requires.indexed.counts k, count-within k t.held.items, count-within k t.waiting.items, c.len-count.ensures.len, c.len-count.ensures.small, c.requires.ready.held)

pub append-requires-clause-last : goal.append-requires-clause-last
append-requires-clause-last c =
    let t = c.args.self.now in
    below-more (order_at t.next 0) (order_at t.next t.waiting.slot) t.waiting.items (omega arith) c.requires.indexed.waiting_below

pub returns-clause-waiting : goal.returns-clause-waiting
returns-clause-waiting c = rw c.next_order-order.ensures.order c.append.ensures.items

pub returns-clause-indexed : goal.returns-clause-indexed
returns-clause-indexed c =
    let t = c.args.self.now in
    let r = c.args.row in
    let i = c.requires.indexed in
    let o = order_at t.next t.waiting.slot in
    let same = c.next_order-order.ensures.order in
    let l : o < order_at (t.next + 1) 0 = omega (arith, c.next_order-order.ensures.slot) in
    let below : is_below t.waiting.items o ≡ true = below-more (order_at t.next 0) o t.waiting.items (omega arith) i.waiting_below in
    record {
      held_rise = i.held_rise;
      waiting_rise = rw c.append.ensures.items (rising-last o r t.waiting.items i.waiting_rise below);
      held_below = below-more (order_at t.next 0) (order_at (t.next + 1) 0) t.held.items (omega arith) i.held_below;
      waiting_below = rw c.append.ensures.items (below-last o (order_at (t.next + 1) 0) r t.waiting.items l below);
      lines = λ n. c.push.ensures.lines n ∙ ap (λ s. cond (bytes_eq r.name n) (with_waiter s c.next_order-order.result) s) (i.lines n) ∙ ap (λ j. cond (bytes_eq r.name n) (with_waiter (line_of n t.held.items t.waiting.items) j) (line_of n t.held.items t.waiting.items)) same ∙ line-queued n t.held.items t.waiting.items o r ∙ ap (λ w. line_of n t.held.items w) (sym c.append.ensures.items);
      held_places = λ k n j. c.add.ensures.places k n j true ∙ other-added (r.client == k && r.number == n) _ ∙ i.held_places k n j;
      waiting_places = λ k n j. c.add.ensures.places k n j false ∙ ap (λ b. (r.client == k && r.number == n && c.next_order-order.result == j) || b) (i.waiting_places k n j) ∙ ap (λ (x : ℕ). (r.client == k && r.number == n && x == j) || is_entry k n (find t.waiting.items j)) same ∙ entry-pushed k n j o r t.waiting.items below ∙ ap (λ w. is_entry k n (find w j)) (sym c.append.ensures.items);
      counts = λ k. rw c.append.ensures.items (omega (arith, c.add.ensures.count k, i.counts k, count-last (λ (p : ℕ × Row). p.1.client == k) (o, r) t.waiting.items));
      room = rw (c.append.ensures.items, length-queued t.waiting.items o r) (omega (arith, c.requires.ready.held));
    }
