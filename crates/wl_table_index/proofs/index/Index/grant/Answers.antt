use Rattle.std.proofs.Common.{◌≡◌, ◌<◌, ◌+◌, ◌∙◌, ℕ, true, false, not, ◌&&◌, ◌||◌, Some, cond, length, sym, ap, arith}
use Rattle.std.specs.Prelude.{◌==◌, bytes_eq, slice_get}
use Rattle.wl_draft.specs.declared.row.Row.{Row}
use Rattle.wl_draft.specs.Tables.{find}
use Rattle.wl_table_index.specs.OrderNumbers.{is_below, without_order, order_at}
use Rattle.wl_table_index.specs.NameLines.{line_at, with_holder, without_waiter}
use Rattle.wl_table_index.specs.Clients.{has_place_at}
use Rattle.wl_table_index.specs.Index.{line_of, is_entry, count_rows}
use Rattle.wl_table_index.specs.Nexts.{next_in, is_among}
use Rattle.wl_table_index.proofs.OrderLemmas.{rising-last, rising-without}
use Rattle.wl_table_index.proofs.WithoutLemmas.{below-without, count-without, length-without, without-absent, orders-rise}
use Rattle.wl_table_index.proofs.IndexLemmas.{below-last, below-more, line-held, counts-length, count-last}
use Rattle.wl_table_index.proofs.EntryLemmas.{has-line, line-named, line-take_out}
use Rattle.wl_table_index.proofs.PlaceLemmas.{entry-pushed, entry-removed, pair-self}
use Rattle.wl_table_index.proofs.LeanLemmas.{moved_step}
use Rattle.wl_table_index.proofs.NextLemmas.{next-front}
use Rattle.wl_table_index.proofs.CandidateLemmas.{candidates-taken, candidates-held}
use Rattle.wl_table_index.proofs.index.Index.grant.Goals as goal

pub take_out-requires : goal.take_out-requires
take_out-requires c =
    rw (c.requires.indexed.lines c.in-Some.row.name) (orders-rise (λ (p : ℕ × Row). bytes_eq p.1.name c.in-Some.row.name) c.args.self.now.waiting.items c.requires.indexed.waiting_rise)

pub hold-requires-clause-there : goal.hold-requires-clause-there
hold-requires-clause-there c =
    let t = c.args.self.now in
    let w = c.in-Some.row in
    let f : find t.waiting.items c.args.order ≡ Some w = sym c.in-Some.ensures.value in
    c.take_out.ensures.kept w.name (has-line _ (λ z. line-named c.args.order w t.waiting.items f (ap (λ s. length s.queue) (sym (c.requires.indexed.lines w.name)) ∙ z)))

pub hold-requires-clause-small : goal.hold-requires-clause-small
hold-requires-clause-small c =
    let t = c.args.self.now in
    let i = c.requires.indexed in
    let w = c.in-Some.row in
    let k = c.args.order in
    let f : find t.waiting.items k ≡ Some w = sym c.in-Some.ensures.value in
    let line : line_at c.take_out.new.self w.name ≡ line_of w.name t.held.items (without_order k t.waiting.items) = c.take_out.ensures.lines w.name ∙ ap (λ s. cond (bytes_eq w.name w.name) (without_waiter s k) s) (i.lines w.name) ∙ line-take_out w.name t.held.items t.waiting.items k w i.waiting_rise f in
    rw line (omega (arith, counts-length w.name t.held.items (without_order k t.waiting.items), c.len-count.ensures.len, c.len-count.ensures.small, i.room, length-without k w t.waiting.items i.waiting_rise f))

pub grant-requires : goal.grant-requires
grant-requires c =
    let w = c.in-Some.row in
    let f : find c.args.self.now.waiting.items c.args.order ≡ Some w = sym c.in-Some.ensures.value in
    c.requires.indexed.waiting_places w.client w.number c.args.order ∙ ap (λ o. is_entry w.client w.number o) f ∙ pair-self w

pub append-requires-clause-last : goal.append-requires-clause-last
append-requires-clause-last c =
    let t = c.args.self.now in
    below-more (order_at t.next 0) (order_at t.next t.held.slot) t.held.items (omega arith) c.requires.indexed.held_below

pub append-requires-clause-room : goal.append-requires-clause-room
append-requires-clause-room c =
    let t = c.args.self.now in
    let i = c.requires.indexed in
    let f : find t.waiting.items c.args.order ≡ Some c.in-Some.row = sym c.in-Some.ensures.value in
    omega (arith, i.room, length-without c.args.order c.in-Some.row t.waiting.items i.waiting_rise f)

pub returns-in-Some-clause-indexed : goal.returns-in-Some-clause-indexed
returns-in-Some-clause-indexed c =
    let t = c.args.self.now in
    let i = c.requires.indexed in
    let w = c.in-Some.row in
    let k = c.args.order in
    let rest = without_order k t.waiting.items in
    let o = order_at t.next t.held.slot in
    let same = c.next_order-held.ensures.order in
    let f : find t.waiting.items k ≡ Some w = sym c.in-Some.ensures.value in
    let l : o < order_at (t.next + 1) 0 = omega (arith, c.next_order-held.ensures.slot) in
    let below : is_below t.held.items o ≡ true = below-more (order_at t.next 0) o t.held.items (omega arith) i.held_below in
    record {
      held_rise = rw c.append.ensures.items (rising-last o w t.held.items i.held_rise below);
      waiting_rise = rw c.remove.ensures.items (rising-without k t.waiting.items i.waiting_rise);
      held_below = rw c.append.ensures.items (below-last o (order_at (t.next + 1) 0) w t.held.items l below);
      waiting_below = rw c.remove.ensures.items (below-more (order_at t.next 0) (order_at (t.next + 1) 0) rest (omega arith) (below-without (order_at t.next 0) k t.waiting.items i.waiting_below));
      lines = λ n. c.hold.ensures.lines n ∙ ap (λ s. cond (bytes_eq w.name n) (with_holder s w.mode) s) (c.take_out.ensures.lines n ∙ ap (λ s. cond (bytes_eq w.name n) (without_waiter s k) s) (i.lines n) ∙ line-take_out n t.held.items t.waiting.items k w i.waiting_rise f) ∙ line-held n t.held.items rest o w ∙ ap (λ h. line_of n h rest) (sym c.append.ensures.items) ∙ ap (λ x. line_of n c.append.new.self.items x) (sym c.remove.ensures.items);
      held_places = λ m n j. c.grant.ensures.held m n j ∙ ap (λ b. (w.client == m && w.number == n && c.next_order-held.result == j) || b) (i.held_places m n j) ∙ ap (λ (x : ℕ). (w.client == m && w.number == n && x == j) || is_entry m n (find t.held.items j)) same ∙ entry-pushed m n j o w t.held.items below ∙ ap (λ h. is_entry m n (find h j)) (sym c.append.ensures.items);
      waiting_places = λ m n j. c.grant.ensures.waiting m n j ∙ ap (λ b. not (w.client == m && w.number == n && k == j) && b) (i.waiting_places m n j) ∙ entry-removed m n j k w t.waiting.items f ∙ ap (λ h. is_entry m n (find h j)) (sym c.remove.ensures.items);
      counts = λ m. rw (c.append.ensures.items, c.remove.ensures.items) (omega (arith, c.grant.ensures.count m, i.counts m, count-last (λ (p : ℕ × Row). p.1.client == m) (o, w) t.held.items, count-without (λ (p : ℕ × Row). p.1.client == m) k w t.waiting.items i.waiting_rise f));
      room = rw c.remove.ensures.items (omega (arith, i.room, length-without k w t.waiting.items i.waiting_rise f, c.append.ensures.room));
    }

pub returns-in-Some-clause-candidates : goal.returns-in-Some-clause-candidates
returns-in-Some-clause-candidates c = λ r f'.
    let t = c.args.self.now in
    let i = c.requires.indexed in
    let w = c.in-Some.row in
    let k = c.args.order in
    let rest = without_order k t.waiting.items in
    let f : find t.waiting.items k ≡ Some w = sym c.in-Some.ensures.value in
    let line : line_at c.take_out.new.self w.name ≡ line_of w.name t.held.items rest = c.take_out.ensures.lines w.name ∙ ap (λ s. cond (bytes_eq w.name w.name) (without_waiter s k) s) (i.lines w.name) ∙ line-take_out w.name t.held.items t.waiting.items k w i.waiting_rise f in
    let front : (j : ℕ) → next_in w.name t.held.items rest ≡ Some j → is_among j c.push_front.new.self.items ≡ true = λ j e. c.push_front.ensures.front j (c.front.ensures ∙ ap (λ s. slice_get s.queue 0) line ∙ next-front w.name t.held.items rest j e) in
    let taken = candidates-taken c.args.candidates.now.items c.push_front.new.self.items t.held.items t.waiting.items k w i.waiting_rise f c.requires.others c.push_front.ensures.kept front in
    rw (c.append.ensures.items, c.remove.ensures.items) (candidates-held c.push_front.new.self.items t.held.items rest (order_at t.next t.held.slot) w taken)

pub returns-in-Some-clause-lean : goal.returns-in-Some-clause-lean
returns-in-Some-clause-lean c = λ l. record {
  names = λ n e. moved_step _ _ _ (sym (c.hold.ensures.idle n) ∙ e) (c.take_out.ensures.idle n) (l.names n);
  clients = λ m e. l.clients m (sym (c.grant.ensures.idle m) ∙ e);
}

pub returns-in-None-clause-indexed : goal.returns-in-None-clause-indexed
returns-in-None-clause-indexed c =
    let t = c.args.self.now in
    let i = c.requires.indexed in
    let e : c.remove.new.self.items ≡ t.waiting.items = c.remove.ensures.items ∙ without-absent c.args.order t.waiting.items (sym c.in-None.ensures.value) in
    record {
      held_rise = i.held_rise;
      waiting_rise = rw e i.waiting_rise;
      held_below = i.held_below;
      waiting_below = rw e i.waiting_below;
      lines = λ n. i.lines n ∙ ap (λ h. line_of n t.held.items h) (sym e);
      held_places = i.held_places;
      waiting_places = λ k n j. i.waiting_places k n j ∙ ap (λ h. is_entry k n (find h j)) (sym e);
      counts = λ k. i.counts k ∙ ap (λ h. count_rows k t.held.items + count_rows k h) (sym e);
      room = rw e i.room;
    }

pub returns-in-None-clause-lean : goal.returns-in-None-clause-lean
returns-in-None-clause-lean c = λ l. record { names = l.names; clients = l.clients }
