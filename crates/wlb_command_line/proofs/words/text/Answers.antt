use Rattle.std.proofs.Common.{◌∙◌, ap, sym, option_map, Some}
use Rattle.std.proofs.lemmas.Result.{IfOk-weaker}
use Rattle.clap.specs.Words.{found_of}
use Rattle.clap.proofs.CallerLemmas.{some_of_text}
use Rattle.clap.proofs.WalkLemmas.{first_value-rows}
use Rattle.wlb_command_line.proofs.words.text.Goals as goal

pub unwrap-requires : goal.unwrap-requires
unwrap-requires c =
    some_of_text _ c.get_str.result _ (c.get_str.ensures ∙ first_value-rows (found_of c.args.values.now) c.args.id.now) c.requires

pub returns : goal.returns
returns c =
    let value = sym (first_value-rows (found_of c.args.values.now) c.args.id.now) ∙ sym c.get_str.ensures ∙ ap (option_map (λ s. s.now)) c.unwrap.ensures in
    IfOk-weaker c.from_str.result _ _ (λ text same. value ∙ ap Some (sym same)) c.from_str.ensures.ok
