use Rattle.wlb_command_line.specs.CommandWords.{values_of}
use Rattle.wlb_command_line.proofs.Given.{found_is}
use Rattle.wlb_command_line.proofs.words.line_of.Goals as goal

pub subcommand_line-requires : goal.subcommand_line-requires
subcommand_line-requires c =
    let found = c.in-Some in
    c.requires (found.name.now, values_of found.values.now)
    (found_is c.args.matches.now found.name.now (values_of found.values.now) found.ensures.name found.ensures.rows)
