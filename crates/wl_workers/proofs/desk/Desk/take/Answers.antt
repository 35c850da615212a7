use Rattle.wl_workers.proofs.DeskLemmas.{opening_of, serving_of, speaking_of, step_stamped_early, step_taken, step_unanswered, taking_spells, unanswered_spells}
use Rattle.wl_workers.proofs.desk.Desk.take.Goals.{in-Ok, in-Err}
use Rattle.wl_workers.proofs.desk.Desk.take.Goals as goal

pub returns-in_default-clause-step : goal.returns-in_default-clause-step
returns-in_default-clause-step g c = rw (opening_of _ _ c.self.view_is c.in_default.is) (step_stamped_early c.args.stamped.now)

pub invariant_of-self-2 : goal.invariant_of-self-2
invariant_of-self-2 g c =
    (taking_spells c.in-Some.broker _ c.args.stamped.now c.take.result (speaking_of _ _ c.in-Some.is c.self.invariant) c.requires c.take.ensures.taken c.take.ensures.err).0

pub returns-clause-step : goal.returns-clause-step
returns-clause-step g c =
    let serving = serving_of _ c.in-Some.broker _ c.self.view_is c.in-Some.is in
    elim c.match-take.branch [
      | in-Ok w ↦ rw (w.result-is, serving) (step_taken c.in-Some.broker _ c.args.stamped.now _ w.in-Ok.ensures.taken, tt)
      | in-Err w ↦
          rw w.result-is (step_unanswered c.in-Some.broker _ _ c.args.stamped.now w.in-Err.reason _ serving w.in-Err.ensures.err w.in-Err.ensures.dropped w.unanswered.ensures)
    ]

pub returns-clause-spellable : goal.returns-clause-spellable
returns-clause-spellable g c =
    let spells = taking_spells c.in-Some.broker _ c.args.stamped.now c.take.result (speaking_of _ _ c.in-Some.is c.self.invariant) c.requires c.take.ensures.taken c.take.ensures.err in
    elim c.match-take.branch [
      | in-Ok w ↦ rw w.result-is (rw w.in-Ok.is at spells.1)
      | in-Err w ↦ rw w.result-is (unanswered_spells w.in-Err.reason _ w.unanswered.ensures)
    ]
