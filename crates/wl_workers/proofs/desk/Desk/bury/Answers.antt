use Rattle.wl_workers.proofs.DeskLemmas.{opening_of, serving_of, step_dead_early, step_dead, burial_spells, speaking_of}
use Rattle.wl_workers.proofs.desk.Desk.bury.Goals as goal

pub returns-in_default-clause-step : goal.returns-in_default-clause-step
returns-in_default-clause-step g c = rw (opening_of _ _ c.self.view_is c.in_default.is) (step_dead_early c.args.dead.now)

pub invariant_of-self-2 : goal.invariant_of-self-2
invariant_of-self-2 g c =
    (burial_spells c.in-Some.broker _ c.args.dead.now _ (speaking_of _ _ c.in-Some.is c.self.invariant) c.requires c.in_ok-dead.ensures.dead).0

pub returns-clause-step : goal.returns-clause-step
returns-clause-step g c =
    rw (serving_of _ c.in-Some.broker _ c.self.view_is c.in-Some.is) (step_dead c.in-Some.broker _ c.args.dead.now _ c.in_ok-dead.ensures.dead, tt)

pub returns-clause-spellable : goal.returns-clause-spellable
returns-clause-spellable g c =
    (burial_spells c.in-Some.broker _ c.args.dead.now _ (speaking_of _ _ c.in-Some.is c.self.invariant) c.requires c.in_ok-dead.ensures.dead).1
