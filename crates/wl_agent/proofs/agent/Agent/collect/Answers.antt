use Rattle.std.proofs.Common.{refl, sym, ◌∙◌, subst}
use Rattle.wl_agent.specs.declared.delivered.Delivered.{Delivered}
use Rattle.wl_agent.specs.Delivery.{IsSendable}
use Rattle.wl_agent.proofs.Outcomes.{on_err}
use Rattle.wl_agent.proofs.Deliveries.{collects-other, collects, collects-by_memory, sendable, other_never, part_never}
use Rattle.wl_agent.proofs.agent.Agent.collect.Goals as goal

pub returns-then-not-has_entered-clause-ok : goal.returns-then-not-has_entered-clause-ok
returns-then-not-has_entered-clause-ok c = collects-other c.args.part.now c.args.self.now _ (sym c.has_entered.ensures ∙ c.if-not-has_entered.true) c.of_other.ensures

pub returns-clause-ok : goal.returns-clause-ok
returns-clause-ok c =
    collects c.args.part.now c.args.self.now _ _ _ (sym c.has_entered.ensures ∙ c.if-not-has_entered.false) c.in_ok-delivered.ensures.told c.in_ok-delivered.ensures.ok c.note.ensures

pub returns-in_err-delivered-clause-memory : goal.returns-in_err-delivered-clause-memory
returns-in_err-delivered-clause-memory c =
    let same = sym c.has_entered.ensures ∙ c.if-not-has_entered.false in
    on_err c.from_residual.result _ (collects-by_memory c.args.part.now c.args.self.now same c.in_err-delivered.ensures.memory)

pub returns-then-not-has_entered-clause-sendable : goal.returns-then-not-has_entered-clause-sendable
returns-then-not-has_entered-clause-sendable c =
    subst (λ (d : Delivered). IsSendable d) (sym c.of_other.ensures) (sendable _ (other_never c.args.part.now.generation c.args.self.now _ refl))

pub returns-clause-sendable : goal.returns-clause-sendable
returns-clause-sendable c =
    subst (λ (d : Delivered). IsSendable d) (sym c.in_ok-delivered.ensures.told) (sendable _ (part_never c.args.part.now c.args.self.now _ refl))
