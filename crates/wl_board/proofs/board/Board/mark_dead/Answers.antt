use Rattle.std.proofs.Common.{ap, arith}
use Rattle.wl_board.proofs.Allowed.{marks_at}
use Rattle.wl_board.proofs.Counted.{at_table}
use Rattle.wl_board.proofs.board.Board.mark_dead.Goals as goal

pub fetch_max-requires : goal.fetch_max-requires
fetch_max-requires c =
    let same = at_table _ _ _ _ c.seat.view_is c.self.view_is c.requires.seat in
    let words = ap (λ z. z.words) same in
    let tabs = ap (λ b. b.tabs) c.self.view_is in
    (same, omega arith, marks_at c.self.inside.table.shared.key _ _ _ (omega arith) c.args.tab _ c.word_index-word.ensures (omega arith) (omega arith))
