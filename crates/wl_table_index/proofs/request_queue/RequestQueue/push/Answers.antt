use Rattle.std.proofs.Common.{false, refl, ap, ◌∙◌}
use Rattle.wl_table_index.specs.declared.request_queue.Waiter.{Waiter}
use Rattle.wl_table_index.specs.RequestQueue.{numbers_in}
use Rattle.wl_table_index.proofs.QueueLemmas.{numbers-pushed}
use Rattle.wl_table_index.proofs.request_queue.RequestQueue.push.Goals as goal

pub returns-clause-items : goal.returns-clause-items
returns-clause-items c =
    let last : Waiter = record { order = c.args.order; is_marked = false } in
    rw (← c.self.view_is) (ap numbers_in c.push_back_reserved.ensures.items ∙ numbers-pushed last c.self.inside.waiters.items refl)
