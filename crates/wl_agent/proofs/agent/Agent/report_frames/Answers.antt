use Rattle.std.proofs.Common.{arith}
use Rattle.wl_agent.proofs.Spellings.{again-spoken}
use Rattle.wl_agent.proofs.agent.Agent.report_frames.Goals as goal

pub returns-clause-spoken : goal.returns-clause-spoken
returns-clause-spoken c =
    again-spoken _ c.self.invariant.1 (omega (arith, c.if-self-eq0.false), omega arith) c.in_ok-report_frames.ensures
