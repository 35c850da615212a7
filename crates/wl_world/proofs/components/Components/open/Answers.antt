use Rattle.std.proofs.Common.{false, sym, ◌∙◌}
use Rattle.wl_world.proofs.calls.SupervisorParts.{opens-silent}
use Rattle.wl_world.proofs.components.Components.open.Goals as goal

pub returns-in-Some-clause-sends : goal.returns-in-Some-clause-sends
returns-in-Some-clause-sends c = c.refused.ensures.sends ∙ sym (opens-silent false c.args.self c.args.tab c.args.partition.now)

pub returns-clause-sends : goal.returns-clause-sends
returns-clause-sends c = c.silent.ensures.sends ∙ sym (opens-silent false c.args.self c.args.tab c.args.partition.now)
