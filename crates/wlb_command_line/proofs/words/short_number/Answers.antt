use Rattle.std.proofs.Common.{◌∙◌, ap, sym, subst, is_some, unwrap_or, Option, ℕ, arith}
use Rattle.std.specs.Str.Parse.{ParsesUnsigned, ExplainsUnsignedError, HasUnsignedDigitsIfOk}
use Rattle.clap.specs.Words.{found_of}
use Rattle.clap.proofs.WalkLemmas.{one_text-rows}
use Rattle.wlb_command_line.specs.CommandWords.{values_of, HasNumber}
use Rattle.wlb_command_line.proofs.Numbers.{number_read}
use Rattle.wlb_command_line.proofs.words.short_number.Goals as goal

pub unwrap-requires : goal.unwrap-requires
unwrap-requires c =
    let values = c.args.values.now in
    let id = c.args.id.now in
    ap is_some (number_read _ (λ bs r. ParsesUnsigned 16 10 bs r × ExplainsUnsignedError 10 bs r × HasUnsignedDigitsIfOk bs r) 16 _ (values_of values) id c.get_one.result
    c.requires (omega arith) (λ text is. c.get_one.ensures.value text (one_text-rows (found_of values) id ∙ is)) (λ u x g. g.0)).1

pub returns : goal.returns
returns c =
    let values = c.args.values.now in
    let id = c.args.id.now in
    let got = number_read _ (λ bs r. ParsesUnsigned 16 10 bs r × ExplainsUnsignedError 10 bs r × HasUnsignedDigitsIfOk bs r) 16 _ (values_of values) id c.get_one.result
    c.requires (omega arith) (λ text is. c.get_one.ensures.value text (one_text-rows (found_of values) id ∙ is)) (λ u x g. g.0) in
    subst (HasNumber (values_of values) id) (ap (λ (o : Option ℕ). unwrap_or o got.0) (sym got.1 ∙ c.unwrap.ensures)) got.2
