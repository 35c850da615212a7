use Rattle.std.proofs.Common.{◌∙◌, ap}
use Rattle.std.proofs.lemmas.Result.{IfOk-weaker}
use Rattle.clap.specs.Simple.{app_of_fields}
use Rattle.wlb_command_line.proofs.Grammar.{subcommand_added}
use Rattle.wlb_command_line.proofs.words.program.Goals as goal

pub returns : goal.returns
returns c =
    let named = ap app_of_fields c.after_help.ensures ∙ ap app_of_fields c.about.ensures ∙ c.new.ensures.app in
    let desk = subcommand_added _ _ _ _ _ named c.desk.ensures c.in_ok-subcommand.ensures in
    let sim = subcommand_added _ _ _ _ _ desk c.sim.ensures c.in_ok-subcommand-2.ensures in
    let kernel = subcommand_added _ _ _ _ _ sim c.in_ok-kernel.ensures c.in_ok-subcommand-3.ensures in
    let broker = subcommand_added _ _ _ _ _ kernel c.in_ok-broker.ensures c.in_ok-subcommand-4.ensures in
    IfOk-weaker c.subcommand-5.result _ _ (λ new adds. subcommand_added _ _ _ _ _ broker c.in_ok-tab.ensures adds) c.subcommand-5.ensures
