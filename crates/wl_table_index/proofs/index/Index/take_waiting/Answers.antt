use Rattle.std.proofs.Common.{◌≡◌, ◌∙◌, ℕ, Some, true, false, not, ◌&&◌, ◌+◌, cond, sym, ap, arith}
use Rattle.std.specs.Prelude.{◌==◌, bytes_eq}
use Rattle.wl_draft.specs.Tables.{find}
use Rattle.wl_draft.specs.declared.row.Row.{Row}
use Rattle.wl_table_index.specs.OrderNumbers.{order_at}
use Rattle.wl_table_index.specs.Index.{line_of, is_entry, count_rows}
use Rattle.wl_table_index.specs.NameLines.{without_waiter}
use Rattle.wl_table_index.proofs.OrderLemmas.{rising-without}
use Rattle.wl_table_index.proofs.WithoutLemmas.{below-without, count-without, length-without, without-absent, orders-rise}
use Rattle.wl_table_index.proofs.EntryLemmas.{line-take_out}
use Rattle.wl_table_index.proofs.PlaceLemmas.{entry-removed, other-dropped}
use Rattle.wl_table_index.proofs.index.Index.take_waiting.Goals as goal

pub returns-in-None-clause-indexed : goal.returns-in-None-clause-indexed
returns-in-None-clause-indexed c =
    let t = c.args.self.now in
    let i = c.requires in
    let e : c.remove.new.self.items ≡ t.waiting.items = c.remove.ensures.items ∙ without-absent c.args.order t.waiting.items (sym c.in-None.ensures.value) in
    record {
      held_rise = i.held_rise;
      waiting_rise = rw e i.waiting_rise;
      held_below = i.held_below;
      waiting_below = rw e i.waiting_below;
      lines = λ n. i.lines n ∙ ap (λ h. line_of n t.held.items h) (sym e);
      held_places = i.held_places;
      waiting_places = λ k n j. i.waiting_places k n j ∙ ap (λ h. is_entry k n (find h j)) (sym e);
      counts = λ k. i.counts k ∙ ap (λ h. count_rows k t.held.items + count_rows k h) (sym e);
      room = rw e i.room;
    }

pub take_out-requires : goal.take_out-requires
take_out-requires c =
    rw (c.requires.lines c.in-Some.row.name) (orders-rise (λ (p : ℕ × Row). bytes_eq p.1.name c.in-Some.row.name) c.args.self.now.waiting.items c.requires.waiting_rise)

pub returns-in-Some-clause-indexed : goal.returns-in-Some-clause-indexed
returns-in-Some-clause-indexed c =
    let t = c.args.self.now in
    let i = c.requires in
    let w = c.in-Some.row in
    let f : find t.waiting.items c.args.order ≡ Some w = sym c.in-Some.ensures.value in
    record {
      held_rise = i.held_rise;
      waiting_rise = rw c.remove.ensures.items (rising-without c.args.order t.waiting.items i.waiting_rise);
      held_below = i.held_below;
      waiting_below = rw c.remove.ensures.items (below-without (order_at t.next 0) c.args.order t.waiting.items i.waiting_below);
      lines = λ n. c.take_out.ensures.lines n ∙ ap (λ s. cond (bytes_eq w.name n) (without_waiter s c.args.order) s) (i.lines n) ∙ line-take_out n t.held.items t.waiting.items c.args.order w i.waiting_rise f ∙ ap (λ h. line_of n t.held.items h) (sym c.remove.ensures.items);
      held_places = λ k n j. c.drop_entry.ensures.places k n j true ∙ other-dropped (w.client == k && w.number == n) _ ∙ i.held_places k n j;
      waiting_places = λ k n j. c.drop_entry.ensures.places k n j false ∙ ap (λ b. not (w.client == k && w.number == n && c.args.order == j) && b) (i.waiting_places k n j) ∙ entry-removed k n j c.args.order w t.waiting.items f ∙ ap (λ h. is_entry k n (find h j)) (sym c.remove.ensures.items);
      counts = λ k. rw c.remove.ensures.items (omega (arith, c.drop_entry.ensures.count k, i.counts k, count-without (λ (p : ℕ × Row). p.1.client == k) c.args.order w t.waiting.items i.waiting_rise f));
      room = rw c.remove.ensures.items (omega (arith, i.room, length-without c.args.order w t.waiting.items i.waiting_rise f));
    }
