use Rattle.std.proofs.Common.{◌≡◌, ◌++◌}
use Rattle.wl_agent.specs.AgentInvariant.{due_below}
use Rattle.wl_agent.proofs.statuses.Statuses.due_below.Given as goal

-- The numbers so far, followed by those of the remaining rows, are the numbers of all rows.
abbrev pub invariant-loop-number : goal.invariant-loop-number
invariant-loop-number l = l.numbers.items ++ due_below l.bound l.number-iterator ≡ due_below l.bound l.self
