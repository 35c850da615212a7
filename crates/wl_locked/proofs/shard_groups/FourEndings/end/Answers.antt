use Rattle.std.proofs.Common.{ℕ, ◌∙◌, sym}
use Rattle.std.proofs.lemmas.List.{length-map}
use Rattle.wl_locked.specs.Sharding.{receipts_of, receipts_in}
use Rattle.wl_locked.proofs.shard_groups.FourEndings.end.Goals as goal

pub returns-clause-gathered : goal.returns-clause-gathered
returns-clause-gathered g c = λ lanes before first second third fourth.
    let counted = λ (shard : ℕ). sym (length-map lanes (receipts_of shard)) in
    let after_first = c.add.ensures.gathered lanes before (c.end.ensures.closed (receipts_in g.row.FIRST lanes) first.same (first.all ∙ counted g.row.FIRST) first.sum) in
    let after_second = c.add-2.ensures.gathered lanes after_first (c.end-2.ensures.closed (receipts_in g.row.SECOND lanes) second.same (second.all ∙ counted g.row.SECOND) second.sum) in
    let after_third = c.add-3.ensures.gathered lanes after_second (c.end-3.ensures.closed (receipts_in g.row.THIRD lanes) third.same (third.all ∙ counted g.row.THIRD) third.sum) in
    let after_fourth = c.add-4.ensures.gathered lanes after_third (c.end-4.ensures.closed (receipts_in g.row.FOURTH lanes) fourth.same (fourth.all ∙ counted g.row.FOURTH) fourth.sum) in
    after_fourth
