use Rattle.std.proofs.Common.{ap, arith}
use Rattle.wl_board.proofs.Allowed.{bumps}
use Rattle.wl_board.proofs.Counted.{at_table}
use Rattle.wl_board.proofs.board.Board.bump.Goals as goal

pub fetch_add-found-requires : goal.fetch_add-found-requires
fetch_add-found-requires c =
    let same = at_table _ _ _ _ c.seat.view_is c.self.view_is c.requires in
    let words = ap (λ z. z.words) same in
    (same, omega arith, bumps c.self.inside.table.shared.key _ _ _ (omega arith) (omega arith))
