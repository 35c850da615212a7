use Rattle.std.proofs.Common.{◌≡◌, ◌-◌, ◌++◌}
use Rattle.std.specs.List.{range_with_len}
use Rattle.wl_agent.proofs.agent.Agent.resend.Given as goal

-- The numbers added so far are those from the acknowledged count to this one.
abbrev pub invariant-loop-number : goal.invariant-loop-number
invariant-loop-number l =
    l.numbers.items ≡ l.initial.numbers.items ++ range_with_len l.self.acknowledged (l.number - l.self.acknowledged)
