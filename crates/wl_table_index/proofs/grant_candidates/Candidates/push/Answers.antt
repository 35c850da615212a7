use Rattle.std.proofs.Common.{sym, arith}
use Rattle.std.proofs.lemmas.List.Sorted.{IsPermutation-map}
use Rattle.wl_table_index.proofs.OrderLemmas.{on_ok}
use Rattle.wl_table_index.proofs.CandidateLemmas.{among-permutation}
use Rattle.wl_table_index.proofs.grant_candidates.Candidates.push.Goals as goal

pub returns-clause-items : goal.returns-clause-items
returns-clause-items c = λ k.
    let room = rw (← c.self.view_is) at c.requires in
    let perm = on_ok c.push.result c.push.ensures.permutation (c.push.ensures.succeeds (omega (arith, room))) in
    rw (← c.self.view_is) (sym (among-permutation k _ _ (IsPermutation-map (λ o. o.0) _ _ perm)))
