use Rattle.std.proofs.Common.{ℕ, eqb, sym, ap, ◌∙◌}
use Rattle.wl_broker.specs.Broker.{BrokerState, is_active}
use Rattle.wl_broker.proofs.BrokerSteps.{is_active-fields}
use Rattle.wl_broker.proofs.Missing.{none_missing}
use Rattle.wl_broker.proofs.broker.Broker.is_active.Goals as goal

pub returns : goal.returns
returns g c =
    let b = c.self.inside in let p = c.args.partition in
    ap (λ (n : ℕ). eqb n 0) (c.missing_at.ensures ∙ c.self.invariant.2 p) ∙ sym (none_missing b.listed.entries b.seats.entries p)
    ∙ sym (is_active-fields b.generation b.listed.entries b.seats.entries b.partitions.entries b.kept.entries p) ∙ ap (λ (x : BrokerState). is_active x p) c.self.view_is
