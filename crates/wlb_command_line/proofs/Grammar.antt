-- Lemmas on the grammars that clap's builders make.
use Rattle.std.proofs.Common.{◌≡◌, ◌∙◌, ◌||◌, ap, ap₂}
use Rattle.clap.specs.Words.{AddsArg, AddsSubcommand, App, Rule, app_of, with_rule, with_subcommand}
use Rattle.clap.specs.declared.builder.arg.Arg.{Arg}
use Rattle.clap.specs.declared.builder.command.Command.{Command}
use Rattle.wlb_command_line.specs.CommandWords.{HasGrammar, HasRule}

pub arg_added : (old new : Command) (arg : Arg) (app : App) (rule : Rule) → HasGrammar app old → HasRule rule arg → AddsArg old arg new
    → HasGrammar (with_rule app rule) new
arg_added old new arg app rule grammar has adds = (adds.shape has.1 ∙ ap₂ with_rule grammar.0 has.0, adds.globals ∙ ap₂ ◌||◌ grammar.1 has.1)

pub subcommand_added : (old sub new : Command) (app sub_app : App) → app_of old ≡ app → HasGrammar sub_app sub → AddsSubcommand old sub new
    → app_of new ≡ with_subcommand app sub_app.top
subcommand_added old sub new app sub_app grammar has adds = adds.shape has.1 ∙ ap₂ with_subcommand grammar (ap (λ (a : App). a.top) has.0)
