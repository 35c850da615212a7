use Rattle.std.proofs.Common.{sym, ◌∙◌}
use Rattle.wl_locked.specs.Stepping.{stepped}
use Rattle.wl_locked.specs.History.{replay, events}
use Rattle.wl_locked.proofs.Replying.{has-next, same-step, same-receipt}
use Rattle.wl_locked.proofs.book.Book.step.Goals as goal

pub last-requires : goal.last-requires
last-requires g c =
    let told = (stepped (replay g.J.Generation.opening (events c.args.self.now)) c.event.inside.stored).1 in
    has-next 0 told c.next.new.self (c.next.ensures 1 told c.in_ok-place.ensures.replies).1

pub returns-clause-equal : goal.returns-clause-equal
returns-clause-equal g c =
    let handles = c.event.inside in
    let told = (stepped (replay g.J.Generation.opening (events c.args.self.now)) handles.stored).1 in
    let after = c.next.ensures 1 told c.in_ok-place.ensures.replies in
    same-receipt c.in_ok-place.place handles.first handles.second c.next.result c.last.result (c.event.invariant.0 ∙ sym c.event.invariant.1) (after.0 ∙ sym (c.last.ensures 0 told after.1))

pub returns-clause-event : goal.returns-clause-event
returns-clause-event g c = c.event.invariant.0 ∙ c.event.view_is

pub returns-clause-reply : goal.returns-clause-reply
returns-clause-reply g c =
    let handles = c.event.inside in
    let told = (stepped (replay g.J.Generation.opening (events c.args.self.now)) handles.stored).1 in
    rw (← c.event.view_is) (c.next.ensures 1 told c.in_ok-place.ensures.replies).0

pub returns-clause-cause : goal.returns-clause-cause
returns-clause-cause g c =
    let told = (stepped (replay g.J.Generation.opening (events c.args.self.now)) c.event.inside.stored).1 in
    λ is. c.in_ok-place.ensures.cause (sym (c.next.ensures 1 told c.in_ok-place.ensures.replies).0 ∙ is)

pub returns-clause-stored : goal.returns-clause-stored
returns-clause-stored g c =
    let handles = c.event.inside in
    let told = (stepped (replay g.J.Generation.opening (events c.args.self.now)) handles.stored).1 in
    c.in_ok-place.ensures.stored ∙ same-step c.args.self.now handles.stored handles.first told c.next.result (sym c.event.invariant.0) (sym (c.next.ensures 1 told c.in_ok-place.ensures.replies).0)
