use Rattle.std.proofs.Common.{◌≡◌, true, false, ap, sym, ◌∙◌}
use Rattle.wl_agent.specs.Tab.{TabState}
use Rattle.wl_agent.specs.declared.delivered.Delivered.{Delivered}
use Rattle.wl_agent.proofs.Deliveries.{is_memory, never-by_memory}
use Rattle.wl_agent.proofs.agent.Agent.deliver.Goals as goal

pub returns-in-Ok-clause-memory : goal.returns-in-Ok-clause-memory
returns-in-Ok-clause-memory c said =
    let no : true ≡ false = sym (ap is_memory said) ∙ ap (λ (p : TabState × Delivered). is_memory p.1) c.in-Ok.ensures.ok ∙ never-by_memory c.args.frame.now c.args.self.now in
    absurd cc
