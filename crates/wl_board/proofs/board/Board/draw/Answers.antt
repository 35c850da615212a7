use Rattle.std.proofs.Common.{◌∷◌, [], ◌++◌, ap, sym, subst, arith}
use Rattle.wl_board.specs.BoardRule.{Has}
use Rattle.wl_board.proofs.Allowed.{draws}
use Rattle.wl_board.proofs.Views.{times-push_same}
use Rattle.wl_board.proofs.Counted.{at_table, draw_counted}
use Rattle.wl_board.proofs.board.Board.draw.Goals as goal

pub fetch_add-found-requires : goal.fetch_add-found-requires
fetch_add-found-requires c =
    let same = at_table _ _ _ _ c.seat.view_is c.self.view_is c.requires in
    let words = ap (λ z. z.words) same in
    (same, omega arith, draws c.self.inside.table.shared.key _ _ _ (omega arith) (omega arith))

pub invariant_of-seat-else-found-from : goal.invariant_of-seat-else-found-from
invariant_of-seat-else-found-from c =
    let words = ap (λ z. z.words) (at_table _ _ _ _ c.seat.view_is c.self.view_is c.requires) in
    let e = c.fetch_add-found.ensures in
    let drawn = e.2.2 (omega arith) in
    draw_counted _ _ _ _ _ c.fetch_add-found.result c.seat.invariant c.if-seat.false e.0 drawn.2 e.2.0 (omega arith)

pub returns-clause-ticket : goal.returns-clause-ticket
returns-clause-ticket c =
    let words = ap (λ z. z.words) (at_table _ _ _ _ c.seat.view_is c.self.view_is c.requires) in
    let n = c.fetch_add-found.result in
    let is = sym c.new.ensures in
    let drawn = c.fetch_add-found.ensures.2.2 (omega arith) in
    let v = c.seat.inside.place.me.0 in
    let p = times-push_same n v.drawn in
    let has : Has n (v.drawn ++ n ∷ []) = omega arith in (
      subst (λ m. Has m c.fetch_add-found.new.seat.me.0.drawn) is (subst (λ l. Has n l) (sym (ap (λ m. m.0.drawn) drawn.2)) has),
      subst (λ m. ¬ Has m c.fetch_add-found.new.seat.me.0.born) is (λ h. drawn.1 (subst (λ l. Has n l) (ap (λ m. m.0.born) drawn.2) h)),
    )
