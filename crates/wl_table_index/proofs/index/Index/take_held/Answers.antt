use Rattle.std.proofs.Common.{◌≡◌, ◌∙◌, ℕ, Some, true, false, not, ◌&&◌, ◌+◌, cond, sym, ap, arith}
use Rattle.std.specs.Prelude.{◌==◌, bytes_eq}
use Rattle.wl_draft.specs.Tables.{find}
use Rattle.wl_draft.specs.declared.row.Row.{Row}
use Rattle.wl_table_index.specs.OrderNumbers.{order_at}
use Rattle.wl_table_index.specs.Index.{line_of, is_entry, count_rows}
use Rattle.wl_table_index.specs.NameLines.{without_holder}
use Rattle.wl_table_index.proofs.OrderLemmas.{rising-without}
use Rattle.wl_table_index.proofs.WithoutLemmas.{below-without, count-without, without-absent}
use Rattle.wl_table_index.proofs.EntryLemmas.{line-remove_holder}
use Rattle.wl_table_index.proofs.PlaceLemmas.{entry-removed, other-dropped}
use Rattle.wl_table_index.proofs.index.Index.take_held.Goals as goal

pub returns-in-None-clause-indexed : goal.returns-in-None-clause-indexed
returns-in-None-clause-indexed c =
    let t = c.args.self.now in
    let i = c.requires in
    let e : c.remove.new.self.items ≡ t.held.items = c.remove.ensures.items ∙ without-absent c.args.order t.held.items (sym c.in-None.ensures.value) in
    record {
      held_rise = rw e i.held_rise;
      waiting_rise = i.waiting_rise;
      held_below = rw e i.held_below;
      waiting_below = i.waiting_below;
      lines = λ n. i.lines n ∙ ap (λ h. line_of n h t.waiting.items) (sym e);
      held_places = λ k n j. i.held_places k n j ∙ ap (λ h. is_entry k n (find h j)) (sym e);
      waiting_places = i.waiting_places;
      counts = λ k. i.counts k ∙ ap (λ h. count_rows k h + count_rows k t.waiting.items) (sym e);
      room = omega (arith, i.room, c.remove.ensures.room);
    }

pub returns-in-Some-clause-indexed : goal.returns-in-Some-clause-indexed
returns-in-Some-clause-indexed c =
    let t = c.args.self.now in
    let i = c.requires in
    let w = c.in-Some.row in
    let f : find t.held.items c.args.order ≡ Some w = sym c.in-Some.ensures.value in
    record {
      held_rise = rw c.remove.ensures.items (rising-without c.args.order t.held.items i.held_rise);
      waiting_rise = i.waiting_rise;
      held_below = rw c.remove.ensures.items (below-without (order_at t.next 0) c.args.order t.held.items i.held_below);
      waiting_below = i.waiting_below;
      lines = λ n. c.remove_holder.ensures.lines n ∙ ap (λ s. cond (bytes_eq w.name n) (without_holder s w.mode) s) (i.lines n) ∙ line-remove_holder n t.held.items t.waiting.items c.args.order w i.held_rise f ∙ ap (λ h. line_of n h t.waiting.items) (sym c.remove.ensures.items);
      held_places = λ k n j. c.drop_entry.ensures.places k n j true ∙ ap (λ b. not (w.client == k && w.number == n && c.args.order == j) && b) (i.held_places k n j) ∙ entry-removed k n j c.args.order w t.held.items f ∙ ap (λ h. is_entry k n (find h j)) (sym c.remove.ensures.items);
      waiting_places = λ k n j. c.drop_entry.ensures.places k n j false ∙ other-dropped (w.client == k && w.number == n) _ ∙ i.waiting_places k n j;
      counts = λ k. rw c.remove.ensures.items (omega (arith, c.drop_entry.ensures.count k, i.counts k, count-without (λ (p : ℕ × Row). p.1.client == k) c.args.order w t.held.items i.held_rise f));
      room = omega (arith, i.room, c.remove.ensures.room);
    }
