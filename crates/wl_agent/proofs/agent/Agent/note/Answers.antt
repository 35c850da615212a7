use Rattle.wl_agent.proofs.TabSteps.{step-noted}
use Rattle.wl_agent.proofs.agent.Agent.note.Goals as goal

pub returns : goal.returns
returns c = step-noted _ _ c.args.upto _ c.self.view_is c.acknowledged_by-self-inside.ensures
