use Rattle.wl_script.proofs.BodyLemmas.{reads_bodies}
use Rattle.wl_script.proofs.laws.law_bodies.Goals as goal

pub returns : goal.returns
returns c = reads_bodies
