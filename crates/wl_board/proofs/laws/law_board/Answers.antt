use Rattle.wl_board.proofs.FromRule.{drawn_once, dead_for_all, living_is_drawn, generation_is_count}
use Rattle.wl_board.proofs.laws.law_board.Goals as goal

pub returns : goal.returns
returns c = record { drawn_once = drawn_once; dead_for_all = dead_for_all; living_is_drawn = living_is_drawn; generation = generation_is_count }
