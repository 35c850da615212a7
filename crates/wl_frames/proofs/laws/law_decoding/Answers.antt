use Rattle.wl_frames.proofs.OneReading.{one_reading}
use Rattle.wl_frames.proofs.laws.law_decoding.Goals as goal

pub returns-clause-one : goal.returns-clause-one
returns-clause-one c = one_reading
