use Rattle.std.proofs.Common.{◌≡◌, ◌+◌, ◌-◌, All, vec_len, vec_capacity}
use Rattle.wl_board.specs.BoardRule.{newcomer}
use Rattle.wl_board.specs.BoardCalls.{IsOf, IsNew}
use Rattle.wl_board.proofs.board.Board.deal.Given as goal

abbrev pub invariant-loop-made : goal.invariant-loop-made
invariant-loop-made l = record {
  same_table : l.first.table_id ≡ l.self.table;
  view : l.first.me.0 ≡ newcomer l.self.tabs (16 - l._made);
  count : vec_len l.list + 1 ≡ l._made;
  room : vec_capacity l.list ≡ l.seats;
  seats : All (λ s. IsOf s l.self × IsNew l.self.tabs s) l.list.items;
}
