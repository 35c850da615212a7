use Rattle.std.proofs.Common.{◌∙◌, ap, codes}
use Rattle.std.proofs.lemmas.Result.{IfOk-weaker}
use Rattle.clap.specs.Simple.{app_of_fields}
use Rattle.clap.specs.Words.{new_app}
use Rattle.wlb_command_line.specs.CommandWords.{text_option, HasGrammar, HasRule}
use Rattle.clap.specs.Walk.{rule_of}
use Rattle.wlb_command_line.proofs.Grammar.{arg_added}
use Rattle.wlb_command_line.proofs.words.kernel.Goals as goal

pub returns : goal.returns
returns c =
    let named : HasGrammar (new_app (codes "kernel")) c.after_help.result = (
      ap app_of_fields c.after_help.ensures ∙ ap app_of_fields c.about.ensures ∙ c.new.ensures.app,
      ap (λ f. f.has_globals) c.after_help.ensures ∙ ap (λ f. f.has_globals) c.about.ensures ∙ c.new.ensures.local,
    ) in
    let directory : HasRule (text_option (codes "dir")) c.help-directory.result =
    (ap rule_of c.help-directory.ensures ∙ c.text_option.ensures.0, ap (λ a. a.global) c.help-directory.ensures ∙ c.text_option.ensures.1) in
    let sized = c.in_ok-with_size.ensures _ (arg_added _ _ _ _ _ named directory c.in_ok-kernel.ensures) in
    IfOk-weaker c.arg-2.result _ _ (λ new adds. arg_added _ _ _ _ _ sized c.script.ensures adds) c.arg-2.ensures
