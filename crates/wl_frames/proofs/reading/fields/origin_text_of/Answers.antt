use Rattle.std.proofs.Common.{ℕ, List, Some, ap, sym, ◌∙◌, arith}
use Rattle.std.proofs.lemmas.Str.{IsUtf8-from_ascii}
use Rattle.wl_frames.proofs.Fields.{origin_text_of-again, origin_text_of-not_ascii}
use Rattle.wl_frames.proofs.reading.fields.origin_text_of.Goals as goal

pub returns-in_err-text : goal.returns-in_err-text
returns-in_err-text c = absurd (c.in_err-text.ensures.cases.0 (IsUtf8-from_ascii c.args.text.now c.if-not-is_ascii.ensures.cases))

pub returns-then-not-is_ascii : goal.returns-then-not-is_ascii
returns-then-not-is_ascii c =
    let w = c.if-not-is_ascii.ensures.cases in
    origin_text_of-not_ascii c.args.text.now (λ h. omega (arith, h w.0, w.1))

pub returns : goal.returns
returns c =
    origin_text_of-again c.args.text.now c.if-not-is_ascii.ensures.cases ∙ ap (λ (t : List ℕ). Some t) (sym (c.new.ensures ∙ c.in_ok-from_str.ensures.ok ∙ c.in_ok-text.ensures.cases.0))
