use Rattle.std.proofs.Common.{sym, ap, ◌∙◌}
use Rattle.wl_locked.specs.Stepping.{stepped}
use Rattle.wl_locked.specs.History.{replay, events}
use Rattle.wl_locked.specs.declared.event.BookEvent.{BookEvent}
use Rattle.wl_locked.proofs.Steps.{length-events}
use Rattle.wl_locked.proofs.locked.LockedBroker.take.Goals as goal

pub returns-clause-reply : goal.returns-clause-reply
returns-clause-reply g c =
    let book = c.deref_mut.result.now in
    let replied = ap (λ (e : BookEvent). (stepped (replay g.J.Generation.opening (events book)) e).1) c.in-Ok.ensures.event in
    (events book, length-events book ∙ sym c.in_ok-answered.ensures.place, c.in_ok-answered.ensures.reply ∙ replied)
