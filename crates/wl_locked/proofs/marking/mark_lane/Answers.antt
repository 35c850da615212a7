use Rattle.std.proofs.Common.{◌+◌, true, drop, sym, ◌∙◌, subst, arith}
use Rattle.std.proofs.Math.ListN.{length-set}
use Rattle.std.proofs.lemmas.List.{drop_all}
use Rattle.std.proofs.lemmas.Option.{slice_get_within}
use Rattle.wl_locked.specs.Receipts.{step_of}
use Rattle.wl_locked.specs.Marks.{IsMarked, IsRefused}
use Rattle.wl_locked.proofs.Runs.{front, marked-cons, marked-nil, refused-cons, refused-here}
use Rattle.wl_locked.proofs.marking.mark_lane.Goals as goal

pub returns-then-not-fits-clause-err : goal.returns-then-not-fits-clause-err
returns-then-not-fits-clause-err c =
    let xs = c.args.receipts.now in
    let l = c.loop-receipt in
    let r = c.receipt-item.result in
    let first = front xs l.receipt-index r (omega arith) c.receipt-item.is in
    l.invariant.refused r.place (subst (λ rs. IsRefused c.args.steps.now l.least rs l.marks r.place) (sym first) (refused-here c.args.steps.now l.marks l.least r (drop (l.receipt-index + 1) xs) (c.fits.ensures.no c.if-not-fits.true)))

pub bounds-marks-receipt : goal.bounds-marks-receipt
bounds-marks-receipt c =
    let r = c.receipt-item.result in
    let free = c.fits.ensures.yes c.if-not-fits.false in
    omega (arith, slice_get_within c.args.steps.now r.place (step_of r) free.at, c.loop-receipt.invariant.lengths)

pub loop-receipt-preserved : goal.loop-receipt-preserved
loop-receipt-preserved c =
    let xs = c.args.receipts.now in
    let l = c.loop-receipt in
    let r = c.receipt-item.result in
    let steps = c.args.steps.now in
    let rest = drop (l.receipt-index + 1) xs in
    let first = front xs l.receipt-index r (omega arith) c.receipt-item.is in
    let free = c.fits.ensures.yes c.if-not-fits.false in
    record {
      lengths = length-set l.marks r.place true ∙ l.invariant.lengths;
      marked = λ out h. l.invariant.marked out (subst (λ rs. IsMarked steps l.least rs l.marks out) (sym first) (marked-cons steps l.marks out l.least r rest l.invariant.lengths free h));
      refused = λ p h. l.invariant.refused p (subst (λ rs. IsRefused steps l.least rs l.marks p) (sym first) (refused-cons steps l.marks l.least r rest p l.invariant.lengths free h));
    }

pub returns-clause-ok : goal.returns-clause-ok
returns-clause-ok c =
    let xs = c.args.receipts.now in
    let l = c.loop-receipt in
    let none = drop_all l.receipt-index xs (omega arith) in
    l.invariant.marked l.marks (subst (λ rs. IsMarked c.args.steps.now l.least rs l.marks l.marks) (sym none) (marked-nil c.args.steps.now l.marks l.least))
