use Rattle.std.proofs.Common.{◌≡◌, All, vec_len, vec_capacity}
use Rattle.crossbeam_queue.specs.Passes.{view, IsPassOf}
use Rattle.wl_outbox.specs.OutboxSteps.{taker_of, putter_of}
use Rattle.wl_outbox.proofs.outbox.Outbox.new.Given as goal

abbrev pub ghosts-open : goal.ghosts-open
ghosts-open a = record { partition = a.partition; tab = a.tab }

abbrev pub invariant-loop-more : goal.invariant-loop-more
invariant-loop-more l = record {
  taker : IsPassOf l.queue l.taker;
  view : view l.taker ≡ taker_of l.partition l.tab;
  count : vec_len l.list ≡ l._more;
  room : vec_capacity l.list ≡ l.putters;
  list : All (λ p. (p.queue ≡ l.queue.table.shared.table_id) × (p.view ≡ putter_of l.partition l.tab)) l.list.items;
}
