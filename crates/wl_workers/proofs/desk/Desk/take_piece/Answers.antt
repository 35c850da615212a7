use Rattle.std.proofs.Common.{Err, subst}
use Rattle.std.proofs.lemmas.Result.{err_from_is_err_and}
use Rattle.wl_workers.specs.DeskSteps.{Deals}
use Rattle.wl_workers.proofs.PieceLemmas.{breaks_before, breaks_after}
use Rattle.wl_workers.proofs.desk.Desk.take_piece.Goals as goal

pub returns-in_err-answer_all-in-Err-clause-treated : goal.returns-in_err-answer_all-in-Err-clause-treated
returns-in_err-answer_all-in-Err-clause-treated g c =
    let p = err_from_is_err_and c.from_residual.result c.from_residual.ensures.1 in
    let done = c.in_err-answer_all-in-Err.ensures.answered in
    let deals = subst (λ fs. Deals c.args.self.now fs c.answer_all-in-Err.new.self (Err c.in_err-answer_all-in-Err.field-0.0) done.0) c.as_slice-in-Err.ensures.value done.2 in
    rw (p.1, p.2) (done.0, done.1, breaks_before c.args.self.now c.answer_all-in-Err.new.self c.args.feed.now _ _ _ _ _ _ c.requires.feed c.requires.rest c.requires.is_open c.in-Err.ensures.fault deals)

pub returns-in_ok-answer_all-in-Err-clause-treated : goal.returns-in_ok-answer_all-in-Err-clause-treated
returns-in_ok-answer_all-in-Err-clause-treated g c =
    let done = c.in_ok-answer_all-in-Err.ensures.answered in
    let deals = rw c.as_slice-in-Err.ensures.value at done.2 in
    rw c.from.ensures (done.0, done.1, breaks_after _ c.answer_all-in-Err.new.self c.args.feed.now _ _ _ _ _ c.requires.feed c.requires.rest c.in-Err.ensures.fault deals)
