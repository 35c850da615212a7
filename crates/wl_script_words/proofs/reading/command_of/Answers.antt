use Rattle.std.proofs.Common.{ℕ, Some, ap, ◌∙◌, arith}
use Rattle.std.proofs.lemmas.Result.{err_from_is_err_and}
use Rattle.wl_script_words.specs.WordReading.{most_number}
use Rattle.wl_script_words.proofs.Numbers.{capped_number, uncapped_fails}
use Rattle.wl_script_words.proofs.reading.command_of.Goals as goal
use Rattle.wl_limits.specs.declared.tabs.TheConstants.{LAST_NUMBER}

pub returns-in_err-number : goal.returns-in_err-number
returns-in_err-number c =
    let p = err_from_is_err_and c.from_residual.result c.from_residual.ensures.1 in
    rw (p.1, p.2) (uncapped_fails c.in_err-number.field-0.0 most_number LAST_NUMBER c.args.word.now c.in_err-number.ensures)

pub returns : goal.returns
returns c =
    capped_number most_number LAST_NUMBER c.args.word.now c.in_ok-number.number (omega arith) c.in_ok-number.ensures
    ∙ ap (λ (n : ℕ). Some n) (omega arith)
