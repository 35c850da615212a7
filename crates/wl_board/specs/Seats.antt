-- The values of boards and seats in contracts, and the relation between a seat's fields and its
-- view.
use Rattle.std.specs.Prelude.{◌≡◌, ℕ, ◌+◌, ◌<◌, ◌≤◌, Bool, true, false, length, slice_index}
use Rattle.atomic_table.specs.Seated.{TableId}
use Rattle.atomic_table.specs.declared.shared.Seat.{Seat}
use Rattle.wl_board.specs.declared.rule.View.{View}
use Rattle.wl_board.specs.BoardRule.{Has}

-- A board: its table of words and its largest tab number.
pub record SharedBoard : Type 0 where
  pub table : TableId
  pub tabs : ℕ

-- A seat: its table, its place there, and its view.
pub record Sitting : Type 0 where
  pub table : TableId
  pub place : ℕ
  pub view : View

-- The seat's fields agree with its view. `met_end` means that the seat found the counter above all
-- tab numbers.
pub record IsCounted (place : Seat (Unit {0}) View) (draws bumps : ℕ) (met_end : Bool) : Type 0 where
  pub long : length place.me.0.seen ≡ place.table_id.words
  pub drew : place.me.0.draws ≡ draws
  pub bumped : place.me.0.bumps ≡ bumps
  pub ended : met_end ≡ true → place.table_id.words ≤ slice_index place.me.0.seen 1
  pub open_still : met_end ≡ false → slice_index place.me.0.seen 1 < place.table_id.words
  pub range : (n : ℕ) → Has n place.me.0.drawn → (0 < n) × (n + 1 < place.table_id.words)
