use Rattle.std.proofs.Common.{ℕ, List, Some, ap, sym, ◌∙◌}
use Rattle.std.proofs.lemmas.Result.{err_from_is_err_and}
use Rattle.wl_script_words.proofs.Texts.{text_of-utf8, text_of-not_utf8}
use Rattle.wl_script_words.proofs.reading.text_of.Goals as goal

pub returns-in_err-text : goal.returns-in_err-text
returns-in_err-text c =
    let p = err_from_is_err_and c.from_residual.result c.from_residual.ensures.1 in
    rw (p.1, p.2) (text_of-not_utf8 c.args.text.now c.in_err-text.ensures.cases.0)

pub returns : goal.returns
returns c =
    rw (text_of-utf8 c.args.text.now c.in_ok-text.ensures.cases.1) (ap (λ (t : List ℕ). Some t) (sym (c.new.ensures ∙ c.in_ok-from_str.ensures.ok ∙ c.in_ok-text.ensures.cases.0)))
