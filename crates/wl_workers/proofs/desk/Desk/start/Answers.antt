use Rattle.wl_workers.proofs.DeskLemmas.{opening_of, broker_of_none, twice_started, started_by, started_spells}
use Rattle.wl_workers.proofs.desk.Desk.start.Goals as goal

pub returns-then-is_some-clause-step : goal.returns-then-is_some-clause-step
returns-then-is_some-clause-step g c =
    twice_started c.self.inside.broker _ c.args.start.now c.self.view_is c.if-is_some.ensures

pub returns-clause-step : goal.returns-clause-step
returns-clause-step g c =
    let opening = opening_of _ _ c.self.view_is (broker_of_none _ c.if-is_some.ensures) in
    (started_by c.args.self.now c.args.start.now _ _ _ opening c.as_slice.ensures c.in_ok-broker.ensures.broker c.in_ok-broker.ensures.hellos, tt)

pub returns-clause-spellable : goal.returns-clause-spellable
returns-clause-spellable g c = started_spells c.args.start.now _ _ c.requires c.as_slice.ensures c.in_ok-broker.ensures.hellos
