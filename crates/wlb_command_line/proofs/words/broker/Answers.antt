use Rattle.std.proofs.Common.{◌∙◌, ap, codes}
use Rattle.clap.specs.Simple.{app_of_fields}
use Rattle.clap.specs.Words.{new_app}
use Rattle.wlb_command_line.specs.CommandWords.{HasGrammar}
use Rattle.wlb_command_line.proofs.Grammar.{arg_added}
use Rattle.wlb_command_line.proofs.words.broker.Goals as goal

pub returns : goal.returns
returns c =
    let named : HasGrammar (new_app (codes "broker")) c.about.result =
    (ap app_of_fields c.about.ensures ∙ c.new.ensures.app, ap (λ f. f.has_globals) c.about.ensures ∙ c.new.ensures.local) in
    c.with_size.ensures _ (arg_added _ _ _ _ _ named c.socket.ensures c.in_ok-broker.ensures)
