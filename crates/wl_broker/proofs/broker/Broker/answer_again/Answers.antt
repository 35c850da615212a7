use Rattle.std.proofs.Common.{[], ◌∷◌, List, replicate, refl, sym, ap, ◌∙◌}
use Rattle.wl_grammar.specs.declared.frame.Addressed.{Addressed}
use Rattle.wl_broker.specs.Broker.{BrokerState, later_answer, next_of, outcome_at}
use Rattle.wl_broker.specs.BrokerInvariant.{PartitionState}
use Rattle.wl_broker.proofs.Fields.{again_is}
use Rattle.wl_broker.proofs.broker.Broker.answer_again.Goals as goal

pub returns-clause-again : goal.returns-clause-again
returns-clause-again g c =
    let b = c.self.inside in
    let upto = c.requires ∙ ap (λ (x : BrokerState). next_of x c.args.tab) (sym c.self.view_is) in
    let outcome = c.outcome_in-outcome.ensures ∙ ap (λ (s : PartitionState). outcome_at s.locks c.args.tab c.args.number c.args.operation.now) c.row_at.ensures in
    let answer = again_is b.generation b.listed.entries b.seats.entries b.partitions.entries b.kept.entries c.args.tab c.args.partition c.args.number c.args.operation.now _ _ _ upto outcome refl in
    c.tell.ensures ∙ ap (λ (xs : List Addressed). replicate c.args.copies xs) answer
    ∙ ap (λ (x : BrokerState). replicate c.args.copies (later_answer x c.args.tab c.args.partition c.args.number c.args.operation.now ∷ [])) c.self.view_is
