use Rattle.std.proofs.Common.{◌≡◌, ◌++◌, map, take}
use Rattle.wl_world_model.specs.Sends.{command_message, report_if_due}
use Rattle.wl_world.proofs.sending.resent.Given as goal

abbrev pub invariant-loop-number : goal.invariant-loop-number
invariant-loop-number l =
    l.sends.items ≡ report_if_due l.kernel l.tab l.locks ++ map (command_message l.kernel l.tab l.locks) (take l.number-index l.number-items)
