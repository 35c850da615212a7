use Rattle.std.proofs.Common.{ap, arith}
use Rattle.wl_board.proofs.Allowed.{reads}
use Rattle.wl_board.proofs.Counted.{at_table}
use Rattle.wl_board.proofs.board.Board.generation.Goals as goal

pub load-requires : goal.load-requires
load-requires c =
    let same = at_table _ _ _ _ c.seat.view_is c.self.view_is c.requires in
    let words = ap (λ z. z.words) same in
    (same, omega arith, reads c.self.inside.table.shared.key _ _ _ (omega arith))
