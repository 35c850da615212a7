use Rattle.wl_workers.proofs.DeskLemmas.{step_other}
use Rattle.wl_workers.proofs.desk.Desk.answer.Goals as goal

pub returns-in_default : goal.returns-in_default
returns-in_default g c = record {
  step = step_other _ c.args.frame.now c.in_default.not-Start c.in_default.not-Stamped c.in_default.not-Dead;
  spellable = tt;
}
