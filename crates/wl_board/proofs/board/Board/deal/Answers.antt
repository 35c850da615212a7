use Rattle.std.proofs.Common.{◌≡◌, ◌-◌, ap, sym, ◌∙◌, arith}
use Rattle.wl_board.proofs.Allowed.{deals}
use Rattle.wl_board.proofs.board.Board.deal.Goals as goal

pub split_seat-place-requires : goal.split_seat-place-requires
split_seat-place-requires c =
    let i = c.loop-made.invariant in
    let left : c.loop-made.first.me.0.to_give ≡ 16 - c.loop-made._made = ap (λ v. v.to_give) i.view in
    (i.same_table ∙ sym (ap (λ b. b.table) c.self.view_is), omega arith, deals _ _ _ (omega arith))
