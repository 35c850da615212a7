use Rattle.std.proofs.Common.{◌≡◌, ◌∙◌, ◌++◌, [], ◌∷◌, ℕ, List, length, sym, ap, subst, refl, arith, append_assoc}
use Rattle.std.specs.Prelude.{◌==◌, ◌||◌}
use Rattle.std.specs.Vec.Iter.{into_iter_items}
use Rattle.wl_draft.specs.declared.row.Row.{Row}
use Rattle.wl_draft.specs.Locks.{is_named}
use Rattle.wl_draft.specs.Tables.{Table}
use Rattle.wl_table_index.specs.OrderNumbers.{values_in, order_at}
use Rattle.wl_table_index.specs.Index.{HasRoom, IsLeanBut, are_of}
use Rattle.wl_table_index.proofs.NextLemmas.{values-append}
use Rattle.wl_table_index.proofs.LeanLemmas.{lean-held, lean-queued}
use Rattle.wl_table_index.proofs.RoomLemmas.{client-first, room-held, room-queued, ready-first, holdable-first}
use Rattle.wl_table_index.proofs.PlaceLemmas.{indexed-same}
use Rattle.wl_table_index.proofs.CandidateLemmas.{candidates-held, candidates-queued, pushed-here, pushed-kept}
use Rattle.wl_table_index.proofs.index.Index.put_all.Goals as goal

values-more : (rows new : Table Row) (order : ℕ) (r : Row) (rest before all : List Row) → new ≡ rows ++ (order, r) ∷ [] → before ≡ r ∷ rest → values_in rows ++ before ≡ all → values_in new ++ rest ≡ all
values-more rows new order r rest before all n e f =
    ap (λ ps. values_in ps ++ rest) n ∙ ap (λ vs. vs ++ rest) (values-append rows ((order, r) ∷ [])) ∙ append_assoc (values_in rows) (r ∷ []) rest ∙ ap (λ vs. values_in rows ++ vs) (sym e) ∙ f

pub hold-requires-clause-holdable : goal.hold-requires-clause-holdable
hold-requires-clause-holdable c =
    let l = c.loop-row in
    let i = l.invariant in
    let r = c.in-Some.row in
    let rest = into_iter_items c.next.new.self in
    let e : into_iter_items l.row-iterator ≡ r ∷ rest = c.in-Some.ensures.steps.0 in
    let mine = client-first c.args.client r rest (ap (λ rs. are_of c.args.client rs) (sym e) ∙ i.mine) in
    let P : List Row → Type 0 = λ rs. HasRoom l.self c.args.client rs c.args.waiting.items in
    holdable-first l.self c.args.client r rest c.args.waiting.items mine.0 (subst P e i.room)

pub loop-row-preserved : goal.loop-row-preserved
loop-row-preserved c =
    let l = c.loop-row in
    let i = l.invariant in
    let r = c.in-Some.row in
    let rest = into_iter_items c.next.new.self in
    let e : into_iter_items l.row-iterator ≡ r ∷ rest = c.in-Some.ensures.steps.0 in
    let mine = client-first c.args.client r rest (ap (λ rs. are_of c.args.client rs) (sym e) ∙ i.mine) in
    let P : List Row → Type 0 = λ rs. HasRoom l.self c.args.client rs c.args.waiting.items in
    let Q : List Row → Type 0 = λ rs. IsLeanBut l.self (λ n. is_named n rs || is_named n c.args.waiting.items) (λ k. c.args.client == k) in
    record {
      indexed = c.hold.ensures.indexed;
      room = room-held l.self c.hold.new.self c.args.client r rest c.args.waiting.items c.hold.ensures.waiting c.hold.ensures.room (subst P e i.room);
      mine = mine.1;
      next = omega (arith, i.next, ap (λ rs. length rs) e, c.hold.ensures.next);
      held = values-more l.self.held.items c.hold.new.self.held.items (order_at l.self.next l.self.held.slot) r rest (into_iter_items l.row-iterator) _ c.hold.ensures.held e i.held;
      kept = c.hold.ensures.waiting ∙ i.kept;
      candidates = rw (c.hold.ensures.held, c.hold.ensures.waiting) (candidates-held c.args.candidates.now.items l.self.held.items l.self.waiting.items (order_at l.self.next l.self.held.slot) r i.candidates);
      lean = λ n. lean-held l.self c.hold.new.self r rest c.args.waiting.items c.args.client c.hold.ensures.fills (subst Q e (i.lean n));
    }

pub queue-order-requires-clause-ready : goal.queue-order-requires-clause-ready
queue-order-requires-clause-ready c =
    let l = c.loop-row-2 in
    let i = l.invariant in
    let r = c.in-Some-row.row in
    let rest = into_iter_items c.next-in-loop-row-2.new.self in
    let e : into_iter_items l.row-iterator ≡ r ∷ rest = c.in-Some-row.ensures.steps.0 in
    let mine = client-first c.args.client r rest (ap (λ rs. are_of c.args.client rs) (sym e) ∙ i.mine) in
    let P : List Row → Type 0 = λ rs. HasRoom l.self c.args.client [] rs in
    ready-first l.self c.args.client r rest mine.0 (subst P e i.room)

pub loop-row-2-preserved : goal.loop-row-2-preserved
loop-row-2-preserved c =
    let l = c.loop-row-2 in
    let i = l.invariant in
    let r = c.in-Some-row.row in
    let rest = into_iter_items c.next-in-loop-row-2.new.self in
    let e : into_iter_items l.row-iterator ≡ r ∷ rest = c.in-Some-row.ensures.steps.0 in
    let mine = client-first c.args.client r rest (ap (λ rs. are_of c.args.client rs) (sym e) ∙ i.mine) in
    let P : List Row → Type 0 = λ rs. HasRoom l.self c.args.client [] rs in
    let Q : List Row → Type 0 = λ rs. IsLeanBut l.self (λ n. is_named n rs) (λ k. c.args.client == k) in
    record {
      indexed = c.queue-order.ensures.indexed;
      room = room-queued l.self c.queue-order.new.self c.args.client c.queue-order.result r rest c.queue-order.ensures.waiting c.queue-order.ensures.room (subst P e i.room);
      mine = mine.1;
      next = omega (arith, i.next, ap (λ rs. length rs) e, c.queue-order.ensures.next);
      candidates_room = omega (arith, i.candidates_room, ap (λ rs. length rs) e, c.push.ensures.room);
      waiting = values-more l.self.waiting.items c.queue-order.new.self.waiting.items c.queue-order.result r rest (into_iter_items l.row-iterator) _ c.queue-order.ensures.waiting e i.waiting;
      kept = c.queue-order.ensures.held ∙ i.kept;
      candidates = rw (c.queue-order.ensures.held, c.queue-order.ensures.waiting) (candidates-queued l.candidates.items c.push.new.self.items l.self.held.items l.self.waiting.items c.queue-order.result r i.candidates (λ j m. c.push.ensures.items j ∙ pushed-kept c.queue-order.result j _ m) (c.push.ensures.items c.queue-order.result ∙ pushed-here c.queue-order.result c.queue-order.result _ refl));
      lean = λ n. lean-queued l.self c.queue-order.new.self r rest c.args.client c.queue-order.ensures.fills (subst Q e (i.lean n));
    }

pub returns-clause-indexed : goal.returns-clause-indexed
returns-clause-indexed c =
    indexed-same c.loop-row-2.self c.shrink.new.self c.shrink.ensures.places c.shrink.ensures.count c.loop-row-2.invariant.indexed
