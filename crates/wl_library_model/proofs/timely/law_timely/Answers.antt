use Rattle.wl_library_model.proofs.TimelyChannels.{channels-are_runs}
use Rattle.wl_library_model.proofs.timely.law_timely.Goals as goal

pub returns : goal.returns
returns c = record { channels = channels-are_runs }
