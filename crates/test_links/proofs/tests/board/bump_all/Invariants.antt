use Rattle.wl_board.specs.BoardCalls.{IsOf}
use Rattle.test_links.proofs.tests.board.bump_all.Given as goal

abbrev pub invariant-loop-past : goal.invariant-loop-past
invariant-loop-past g l = IsOf l.seat l.board
