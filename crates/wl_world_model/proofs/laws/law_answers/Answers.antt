use Rattle.wl_world_model.proofs.replies.MemoryIsNeverSaid.{memory-is_never_said}
use Rattle.wl_world_model.proofs.laws.law_answers.Goals as goal

pub returns : goal.returns
returns c = record { memory = memory-is_never_said }
