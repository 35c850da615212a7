use Rattle.std.proofs.Common.{ap, arith}
use Rattle.wl_board.proofs.Allowed.{looks_at}
use Rattle.wl_board.proofs.Counted.{at_table}
use Rattle.wl_board.proofs.board.Board.look.Goals as goal

pub load-requires : goal.load-requires
load-requires c =
    let same = at_table _ _ _ _ c.seat.view_is c.self.view_is c.requires.seat in
    let words = ap (λ z. z.words) same in
    let tabs = ap (λ b. b.tabs) c.self.view_is in
    (same, omega arith, looks_at c.self.inside.table.shared.key _ _ _ (omega arith) c.args.tab _ c.word_index-word.ensures (omega arith) (omega arith))
