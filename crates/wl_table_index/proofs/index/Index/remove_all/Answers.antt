use Rattle.std.proofs.Common.{◌≡◌, ◌+◌, ◌∙◌, true, false, length, sym, ap, arith}
use Rattle.wl_draft.specs.Tables.{find}
use Rattle.wl_table_index.specs.OrderNumbers.{without_order}
use Rattle.wl_table_index.specs.Clients.{has_place_at, count_at, takes}
use Rattle.wl_table_index.specs.Index.{is_entry, count_rows}
use Rattle.wl_table_index.specs.Nexts.{left_by}
use Rattle.wl_table_index.proofs.PlaceLemmas.{row-of, row-there, one-fewer, length-fewer, none-left, one-left}
use Rattle.wl_table_index.proofs.index.Index.remove_all.Goals as goal

pub drop_held-requires-clause-there : goal.drop_held-requires-clause-there
drop_held-requires-clause-there c =
    let l = c.loop-place in
    let i = l.invariant in
    let o = c.in-Some.place.order in
    let k = c.args.client in
    let x = c.in-Some.ensures.some in
    let there : has_place_at l.self.clients k x.number o true ≡ true = ap (λ b. has_place_at l.self.clients k x.number o b) (sym c.if-place.true) ∙ x.there in
    let e : is_entry k x.number (find l.self.held.items o) ≡ true = sym (i.indexed.held_places k x.number o) ∙ there in
    let r = row-of k x.number l.self.held.items o e in
    row-there r.row _ r.found

pub drop_held-requires-clause-room : goal.drop_held-requires-clause-room
drop_held-requires-clause-room c =
    let l = c.loop-place in
    let i = l.invariant in
    let o = c.in-Some.place.order in
    let k = c.args.client in
    let x = c.in-Some.ensures.some in
    let there : has_place_at l.self.clients k x.number o true ≡ true = ap (λ b. has_place_at l.self.clients k x.number o b) (sym c.if-place.true) ∙ x.there in
    let e : is_entry k x.number (find l.self.held.items o) ≡ true = sym (i.indexed.held_places k x.number o) ∙ there in
    omega (arith, i.room, i.indexed.counts k, one-fewer k x.number l.self.held.items o i.indexed.held_rise e)

pub loop-place-smaller-then-place : goal.loop-place-smaller-then-place
loop-place-smaller-then-place c =
    let l = c.loop-place in
    let i = l.invariant in
    let o = c.in-Some.place.order in
    let k = c.args.client in
    let x = c.in-Some.ensures.some in
    let there : has_place_at l.self.clients k x.number o true ≡ true = ap (λ b. has_place_at l.self.clients k x.number o b) (sym c.if-place.true) ∙ x.there in
    let e : is_entry k x.number (find l.self.held.items o) ≡ true = sym (i.indexed.held_places k x.number o) ∙ there in
    rw (c.drop_held.ensures.held, c.drop_held.ensures.waiting) (omega (arith, length-fewer k x.number l.self.held.items o i.indexed.held_rise e))

pub loop-place-preserved-then-place : goal.loop-place-preserved-then-place
loop-place-preserved-then-place c =
    let l = c.loop-place in
    let i = l.invariant in
    let o = c.in-Some.place.order in
    let k = c.args.client in
    let x = c.in-Some.ensures.some in
    let there : has_place_at l.self.clients k x.number o true ≡ true = ap (λ b. has_place_at l.self.clients k x.number o b) (sym c.if-place.true) ∙ x.there in
    let e : is_entry k x.number (find l.self.held.items o) ≡ true = sym (i.indexed.held_places k x.number o) ∙ there in
    let t : takes c.args.removal true x.number ≡ true = ap (λ b. takes c.args.removal b x.number) (sym c.if-place.true) ∙ x.taken in
    let now : count_at c.drop_held.new.self.clients k ≡ count_rows k (without_order o l.self.held.items) + count_rows k l.self.waiting.items = c.drop_held.ensures.indexed.counts k ∙ ap (λ h. count_rows k h + count_rows k c.drop_held.new.self.waiting.items) c.drop_held.ensures.held ∙ ap (λ w. count_rows k (without_order o l.self.held.items) + count_rows k w) c.drop_held.ensures.waiting in
    record {
      indexed = c.drop_held.ensures.indexed;
      room = omega (arith, now, i.room, i.indexed.counts k, one-fewer k x.number l.self.held.items o i.indexed.held_rise e, c.drop_held.ensures.room);
      candidates = c.drop_held.ensures.candidates i.candidates;
      held = ap (λ h. left_by k c.args.removal true h) c.drop_held.ensures.held ∙ one-left k x.number c.args.removal true l.self.held.items o i.indexed.held_rise e t ∙ i.held;
      waiting = ap (λ w. left_by k c.args.removal false w) c.drop_held.ensures.waiting ∙ i.waiting;
      next = c.drop_held.ensures.next ∙ i.next;
      fewer = rw c.drop_held.ensures.waiting (i.fewer);
      lean = λ n. c.drop_held.ensures.lean k x.number e (i.lean n);
    }

pub drop_waiting-requires-clause-there : goal.drop_waiting-requires-clause-there
drop_waiting-requires-clause-there c =
    let l = c.loop-place in
    let i = l.invariant in
    let o = c.in-Some.place.order in
    let k = c.args.client in
    let x = c.in-Some.ensures.some in
    let there : has_place_at l.self.clients k x.number o false ≡ true = ap (λ b. has_place_at l.self.clients k x.number o b) (sym c.if-place.false) ∙ x.there in
    let e : is_entry k x.number (find l.self.waiting.items o) ≡ true = sym (i.indexed.waiting_places k x.number o) ∙ there in
    let r = row-of k x.number l.self.waiting.items o e in
    row-there r.row _ r.found

pub drop_waiting-requires-clause-room : goal.drop_waiting-requires-clause-room
drop_waiting-requires-clause-room c =
    let l = c.loop-place in
    let i = l.invariant in
    let o = c.in-Some.place.order in
    let k = c.args.client in
    let x = c.in-Some.ensures.some in
    let there : has_place_at l.self.clients k x.number o false ≡ true = ap (λ b. has_place_at l.self.clients k x.number o b) (sym c.if-place.false) ∙ x.there in
    let e : is_entry k x.number (find l.self.waiting.items o) ≡ true = sym (i.indexed.waiting_places k x.number o) ∙ there in
    omega (arith, i.room, i.indexed.counts k, one-fewer k x.number l.self.waiting.items o i.indexed.waiting_rise e)

pub loop-place-smaller : goal.loop-place-smaller
loop-place-smaller c =
    let l = c.loop-place in
    let i = l.invariant in
    let o = c.in-Some.place.order in
    let k = c.args.client in
    let x = c.in-Some.ensures.some in
    let there : has_place_at l.self.clients k x.number o false ≡ true = ap (λ b. has_place_at l.self.clients k x.number o b) (sym c.if-place.false) ∙ x.there in
    let e : is_entry k x.number (find l.self.waiting.items o) ≡ true = sym (i.indexed.waiting_places k x.number o) ∙ there in
    rw (c.drop_waiting.ensures.held, c.drop_waiting.ensures.waiting) (omega (arith, length-fewer k x.number l.self.waiting.items o i.indexed.waiting_rise e))

pub loop-place-preserved : goal.loop-place-preserved
loop-place-preserved c =
    let l = c.loop-place in
    let i = l.invariant in
    let o = c.in-Some.place.order in
    let k = c.args.client in
    let x = c.in-Some.ensures.some in
    let there : has_place_at l.self.clients k x.number o false ≡ true = ap (λ b. has_place_at l.self.clients k x.number o b) (sym c.if-place.false) ∙ x.there in
    let e : is_entry k x.number (find l.self.waiting.items o) ≡ true = sym (i.indexed.waiting_places k x.number o) ∙ there in
    let t : takes c.args.removal false x.number ≡ true = ap (λ b. takes c.args.removal b x.number) (sym c.if-place.false) ∙ x.taken in
    let now : count_at c.drop_waiting.new.self.clients k ≡ count_rows k l.self.held.items + count_rows k (without_order o l.self.waiting.items) = c.drop_waiting.ensures.indexed.counts k ∙ ap (λ h. count_rows k h + count_rows k c.drop_waiting.new.self.waiting.items) c.drop_waiting.ensures.held ∙ ap (λ w. count_rows k l.self.held.items + count_rows k w) c.drop_waiting.ensures.waiting in
    record {
      indexed = c.drop_waiting.ensures.indexed;
      room = omega (arith, now, i.room, i.indexed.counts k, one-fewer k x.number l.self.waiting.items o i.indexed.waiting_rise e, c.drop_waiting.ensures.room);
      candidates = c.drop_waiting.ensures.candidates i.candidates;
      held = ap (λ h. left_by k c.args.removal true h) c.drop_waiting.ensures.held ∙ i.held;
      waiting = ap (λ w. left_by k c.args.removal false w) c.drop_waiting.ensures.waiting ∙ one-left k x.number c.args.removal false l.self.waiting.items o i.indexed.waiting_rise e t ∙ i.waiting;
      next = c.drop_waiting.ensures.next ∙ i.next;
      fewer = rw c.drop_waiting.ensures.waiting (omega (arith, i.fewer, length-fewer k x.number l.self.waiting.items o i.indexed.waiting_rise e));
      lean = λ n. c.drop_waiting.ensures.lean k x.number e (i.lean n);
    }

pub returns-clause-held : goal.returns-clause-held
returns-clause-held c =
    let l = c.loop-place in
    let i = l.invariant in
    sym (none-left c.args.client c.args.removal true l.self.held.items i.indexed.held_rise (λ n o t. sym (i.indexed.held_places c.args.client n o) ∙ c.in_default.ensures.none n o true t)) ∙ i.held

pub returns-clause-waiting : goal.returns-clause-waiting
returns-clause-waiting c =
    let l = c.loop-place in
    let i = l.invariant in
    sym (none-left c.args.client c.args.removal false l.self.waiting.items i.indexed.waiting_rise (λ n o t. sym (i.indexed.waiting_places c.args.client n o) ∙ c.in_default.ensures.none n o false t)) ∙ i.waiting
