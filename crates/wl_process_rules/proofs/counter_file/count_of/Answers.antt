use Rattle.std.proofs.Common.{Some, None, sym, arith}
use Rattle.std.proofs.lemmas.Bool.Decides.{Decides-eqb}
use Rattle.std.proofs.lemmas.Slice.Eq.{strip_suffix_is}
use Rattle.wl_process_rules.proofs.CountLemmas.{no_feed, fed, no_number, too_great, is_count}
use Rattle.wl_process_rules.proofs.counter_file.count_of.Goals as goal

pub returns-in_err-digits : goal.returns-in_err-digits
returns-in_err-digits c =
    let text = c.args.text.now in
    let feed = c.as_slice.result.now in
    rw c.from_residual.ensures (no_feed text feed c.as_slice.ensures (strip_suffix_is Decides-eqb text feed None c.in_err-digits.ensures.cases))

pub returns-in_err-number : goal.returns-in_err-number
returns-in_err-number c =
    let text = c.args.text.now in
    let feed = c.as_slice.result.now in
    let digits = c.in_ok-digits.digits in
    let e = fed text feed digits.now c.as_slice.ensures (strip_suffix_is Decides-eqb text feed (Some digits) c.in_ok-digits.ensures.cases) in
    rw c.from_residual-in_err-number.ensures (no_number digits.now text e (sym c.in_err-number.ensures))

pub returns-then-number-from : goal.returns-then-number-from
returns-then-number-from c =
    let text = c.args.text.now in
    let feed = c.as_slice.result.now in
    let digits = c.in_ok-digits.digits in
    let e = fed text feed digits.now c.as_slice.ensures (strip_suffix_is Decides-eqb text feed (Some digits) c.in_ok-digits.ensures.cases) in
    too_great digits.now text c.in_ok-number.number e (sym c.in_ok-number.ensures) (omega arith)

pub returns : goal.returns
returns c =
    let text = c.args.text.now in
    let feed = c.as_slice.result.now in
    let digits = c.in_ok-digits.digits in
    let e = fed text feed digits.now c.as_slice.ensures (strip_suffix_is Decides-eqb text feed (Some digits) c.in_ok-digits.ensures.cases) in
    (omega arith, is_count digits.now text c.in_ok-number.number (omega arith) e (sym c.in_ok-number.ensures))
