use Rattle.std.proofs.Common.{◌≡◌, ap, ◌∙◌, arith, rules}
use Rattle.std.proofs.lemmas.List.Elements.{All-push}
use Rattle.wl_outbox.specs.OutboxSteps.{putter_of}
use Rattle.wl_outbox.specs.Passes.{Handed}
use Rattle.wl_outbox.proofs.KeptRule.{deals}
use Rattle.wl_outbox.proofs.outbox.Outbox.new.Goals as goal

pub another-place-requires-clause-rule : goal.another-place-requires-clause-rule
another-place-requires-clause-rule c = deals _ _ (ap (λ v. v.role) c.loop-more.invariant.view)

pub loop-more-preserved : goal.loop-more-preserved
loop-more-preserved c =
    let i = c.loop-more.invariant in
    let e = c.another-place.ensures in
    let p = c.putting-in-loop-more.ensures in
    let IsPutter : Handed → Type 0 = λ p. (p.queue ≡ c.in_ok-queue.queue.table.shared.table_id) × (p.view ≡ putter_of c.args.partition c.args.tab) in
    record {
      taker = (e.queue.0.0 ∙ i.taker.0, e.queue.0.2 ∙ i.taker.1);
      view = e.rule.0 ∙ i.view;
      count = omega (arith, c.push_reserved-in-loop-more.ensures.len);
      room = search rules;
      list = rw c.push_reserved-in-loop-more.ensures.items
          (All-push IsPutter _ _ i.list (ap (λ p. p.queue) p ∙ e.queue.1.0, ap (λ p. p.view) p ∙ e.rule.1 ∙ ap (λ v. putter_of v.partition v.tab) i.view));
    }
