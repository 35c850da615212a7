use Rattle.std.proofs.Common.{rules, not, ◌==◌, true, false, ◌≡◌, Some, slice_get, refl, sym, ap, ◌∙◌}
use Rattle.std.proofs.lemmas.Fn.{filter_same}
use Rattle.std.proofs.lemmas.Option.{slice_get_within, get_or_from_slice_get}
use Rattle.wl_table_index.specs.declared.request_queue.Waiter.{Waiter}
use Rattle.wl_table_index.specs.RequestQueue.{numbers_in}
use Rattle.wl_table_index.proofs.QueueLemmas.{numbers-marked, numbers-without}
use Rattle.wl_table_index.proofs.request_queue.mark.Goals as goal

pub returns-in-Some-clause-numbers : goal.returns-in-Some-clause-numbers
returns-in-Some-clause-numbers c =
    let ws = c.args.waiters.now.items in
    let i = c.in-Some.index in
    let w : Waiter = record { order = c.args.order; is_marked = false } in
    let g : Waiter = record { order = c.unwrap.result.now.order; is_marked = true } in
    let e : slice_get ws i ≡ Some w = c.in-Some.ensures in
    numbers-marked c.args.order i w g ws refl (slice_get_within ws i w e) (sym (get_or_from_slice_get ws i w w e)) refl refl c.requires

pub returns-in-None-clause-numbers : goal.returns-in-None-clause-numbers
returns-in-None-clause-numbers c =
    ap numbers_in (filter_same _ (λ w. not (w.order == c.args.order)) _ (λ x b f' k. search rules) _ _ c.retain.ensures.filtered) ∙ numbers-without c.args.order c.args.waiters.now.items
