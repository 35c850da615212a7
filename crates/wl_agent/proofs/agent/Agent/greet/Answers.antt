use Rattle.std.proofs.Common.{ltb, ap, sym, ◌∙◌}
use Rattle.std.proofs.lemmas.Bool.{lt-ltb, le-ltb}
use Rattle.wl_agent.specs.Tab.{TabState}
use Rattle.wl_agent.proofs.Outcomes.{on_err}
use Rattle.wl_agent.proofs.Deliveries.{greets-old, greets-new, enters-by_memory}
use Rattle.wl_agent.proofs.agent.Agent.greet.Goals as goal

pub returns-then-hello-self-clause-ok : goal.returns-then-hello-self-clause-ok
returns-then-hello-self-clause-ok c =
    let old = ap (λ (a : TabState). ltb a.entered c.args.hello.now.generation) (sym c.self.view_is) ∙ le-ltb _ _ c.if-hello-self.true in
    greets-old c.args.hello.now c.args.self.now old

pub returns-in_err-enter-clause-memory : goal.returns-in_err-enter-clause-memory
returns-in_err-enter-clause-memory c =
    let later = ap (λ (a : TabState). ltb a.entered c.args.hello.now.generation) (sym c.self.view_is) ∙ lt-ltb _ _ c.if-hello-self.false in
    on_err c.from_residual.result _ (enters-by_memory c.args.hello.now c.args.self.now later)

pub returns-clause-ok : goal.returns-clause-ok
returns-clause-ok c =
    let later = ap (λ (a : TabState). ltb a.entered c.args.hello.now.generation) (sym c.self.view_is) ∙ lt-ltb _ _ c.if-hello-self.false in
    greets-new c.args.hello.now c.args.self.now _ _ later c.in_ok-enter.ensures.ok c.in_ok-enter.ensures.frames
