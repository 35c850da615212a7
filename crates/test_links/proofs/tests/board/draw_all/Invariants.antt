use Rattle.wl_board.specs.BoardCalls.{IsOf}
use Rattle.test_links.proofs.tests.board.draw_all.Given as goal

abbrev pub invariant-loop : goal.invariant-loop
invariant-loop g l = IsOf l.seat l.board
