use Rattle.wl_script.proofs.play.refuse.Goals as goal

pub returns-in-Security-clause-says : goal.returns-in-Security-clause-says
returns-in-Security-clause-says c = rw c.in-Security.is c.say-in-Security.ensures
