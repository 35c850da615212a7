use Rattle.std.proofs.Common.{sym, ap, ◌∙◌}
use Rattle.wl_agent.specs.Delivery.{after_answer}
use Rattle.wl_agent.proofs.Tidiness.{tidy-granted, tidy-lost, tidy-ended}
use Rattle.wl_agent.proofs.TabSteps.{step-becomes, step-ended}
use Rattle.wl_agent.proofs.agent.Agent.follow.Goals as goal

pub invariant_of-self : goal.invariant_of-self
invariant_of-self c =
    let asked = rw c.in-Granted.is at c.requires in
    (tidy-granted _ _ c.in-Granted.number _ _ c.self.invariant.0 c.self.view_is c.set.ensures asked, c.self.invariant.1)

pub invariant_of-self-in-Lost : goal.invariant_of-self-in-Lost
invariant_of-self-in-Lost c =
    let asked = rw c.in-Lost.is at c.requires in
    (tidy-lost _ _ c.in-Lost.number _ _ c.self.invariant.0 c.self.view_is c.set-in-Lost.ensures asked, c.self.invariant.1)

pub invariant_of-self-in-Null : goal.invariant_of-self-in-Null
invariant_of-self-in-Null c =
    (tidy-ended _ c.in-Null.number _ _ c.self.invariant.0 c.end.ensures, c.self.invariant.1)

pub returns-in-Granted : goal.returns-in-Granted
returns-in-Granted c =
    step-becomes _ _ c.in-Granted.number _ _ c.self.view_is c.set.ensures ∙ ap (λ d. after_answer d c.args.self.now) (sym c.in-Granted.is)

pub returns-in-Lost : goal.returns-in-Lost
returns-in-Lost c =
    step-becomes _ _ c.in-Lost.number _ _ c.self.view_is c.set-in-Lost.ensures ∙ ap (λ d. after_answer d c.args.self.now) (sym c.in-Lost.is)

pub returns-in-Null : goal.returns-in-Null
returns-in-Null c =
    step-ended _ _ c.in-Null.number _ c.self.view_is c.end.ensures ∙ ap (λ d. after_answer d c.args.self.now) (sym c.in-Null.is)
