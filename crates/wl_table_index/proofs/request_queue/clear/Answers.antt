use Rattle.std.proofs.Common.{rules, not, ap, ◌∙◌}
use Rattle.std.proofs.lemmas.Fn.{filter_same}
use Rattle.wl_table_index.specs.RequestQueue.{numbers_in, is_front_gone}
use Rattle.wl_table_index.proofs.QueueLemmas.{numbers-waiting, front-waiting}
use Rattle.wl_table_index.proofs.request_queue.clear.Goals as goal

pub returns-clause-numbers : goal.returns-clause-numbers
returns-clause-numbers c =
    ap numbers_in (filter_same _ (λ w. not w.is_marked) _ (λ x b f' k. search rules) _ _ c.retain.ensures.filtered) ∙ numbers-waiting c.args.waiters.now.items

pub returns-clause-front : goal.returns-clause-front
returns-clause-front c =
    ap is_front_gone (filter_same _ (λ w. not w.is_marked) _ (λ x b f' k. search rules) _ _ c.retain.ensures.filtered) ∙ front-waiting c.args.waiters.now.items
