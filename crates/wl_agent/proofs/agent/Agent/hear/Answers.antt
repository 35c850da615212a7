use Rattle.std.proofs.Common.{refl, sym, ◌∙◌, subst}
use Rattle.wl_agent.specs.declared.delivered.Delivered.{Delivered}
use Rattle.wl_agent.specs.Delivery.{IsSendable}
use Rattle.wl_agent.proofs.Deliveries.{hears-other, hears, sendable, other_never, told_never}
use Rattle.wl_agent.proofs.agent.Agent.hear.Goals as goal

pub returns-then-not-has_entered-clause-ok : goal.returns-then-not-has_entered-clause-ok
returns-then-not-has_entered-clause-ok c = hears-other c.args.answer.now c.args.self.now _ (sym c.has_entered.ensures ∙ c.if-not-has_entered.true) c.of_other.ensures

pub returns-clause-ok : goal.returns-clause-ok
returns-clause-ok c =
    hears c.args.answer.now c.args.self.now _ _ _ (sym c.has_entered.ensures ∙ c.if-not-has_entered.false) c.told_by_answer-delivered.ensures.value c.follow.ensures c.note.ensures

pub returns-then-not-has_entered-clause-sendable : goal.returns-then-not-has_entered-clause-sendable
returns-then-not-has_entered-clause-sendable c =
    subst (λ (d : Delivered). IsSendable d) (sym c.of_other.ensures) (sendable _ (other_never c.args.answer.now.generation c.args.self.now _ refl))

pub returns-clause-sendable : goal.returns-clause-sendable
returns-clause-sendable c =
    subst (λ (d : Delivered). IsSendable d) (sym c.told_by_answer-delivered.ensures.value) (sendable _ (told_never c.args.answer.now c.args.self.now))
