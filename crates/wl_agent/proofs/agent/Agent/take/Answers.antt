use Rattle.wl_agent.proofs.Deliveries.{other-kind}
use Rattle.wl_agent.proofs.agent.Agent.take.Goals as goal

pub returns-in_default : goal.returns-in_default
returns-in_default c =
    record { ok = other-kind c.args.frame.now c.args.self.now c.in_default.not-Snapshot c.in_default.not-Answer c.in_default.not-Hello; sendable = tt; memory = tt; err = tt }
