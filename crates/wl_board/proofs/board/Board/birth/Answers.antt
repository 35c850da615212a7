use Rattle.std.proofs.Common.{◌≡◌, ◌+◌, ap, sym, ◌∙◌, subst, arith}
use Rattle.wl_board.specs.BoardRule.{Has}
use Rattle.wl_board.proofs.Allowed.{births_at}
use Rattle.wl_board.proofs.Counted.{at_table}
use Rattle.wl_board.proofs.board.Board.birth.Goals as goal

pub compare_exchange-requires : goal.compare_exchange-requires
compare_exchange-requires c =
    let same = at_table _ _ _ _ c.seat.view_is c.self.view_is c.requires.seat in
    let words = ap (λ z. z.words) same in
    let view = sym (ap (λ s. s.view) c.seat.view_is) in
    let drawn = subst (λ v. Has c.args.ticket v.drawn) view c.requires.drawn in
    let unborn = subst (λ v. ¬ Has c.args.ticket v.born) view c.requires.unborn in
    let range = c.seat.invariant.range c.args.ticket drawn in
    let word : c.word_index-word.result ≡ c.args.ticket + 1 = c.word_index-word.ensures ∙ ap (λ n. n + 1) c.tab.ensures in
    (same, omega arith, births_at c.self.inside.table.shared.key _ _ _ (omega arith) c.args.ticket _ word (omega arith) (omega arith) drawn unborn)
