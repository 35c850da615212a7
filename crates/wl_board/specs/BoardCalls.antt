-- Vocabulary for the contracts of a board's calls.
use Rattle.std.specs.Prelude.{◌≡◌, ℕ, ◌+◌, ◌<◌, ◌≤◌, ◌⊎◌, slice_index}
use Rattle.wl_board.specs.declared.board.TheConstants.{SEAT_STEP_LIMIT}
use Rattle.wl_board.specs.declared.rule.View.{View}
use Rattle.wl_board.specs.declared.tab.Life.{Life}
use Rattle.wl_board.specs.declared.tab.Life.TheVariants as life
use Rattle.wl_board.specs.BoardRule.{newcomer}
use Rattle.wl_board.specs.BoardSteps.{draws_none}
use Rattle.wl_board.specs.Seats.{SharedBoard, Sitting}

-- The seat belongs to this board.
abbrev pub IsOf : Sitting → SharedBoard → Type 0
IsOf s b = s.table ≡ b.table

abbrev pub IsSameSeat : Sitting → Sitting → Type 0
IsSameSeat old new = (new.table ≡ old.table) × (new.place ≡ old.place)

-- The seat has seen and done nothing.
abbrev pub IsNew : ℕ → Sitting → Type 0
IsNew tabs s = s.view ≡ newcomer tabs s.view.to_give

-- The largest value that the seat has seen of the counter.
abbrev pub counter_seen : View → ℕ
counter_seen v = slice_index v.seen 1

-- The largest value that the seat has seen of the generation.
abbrev pub generation_seen : View → ℕ
generation_seen v = slice_index v.seen 0

-- The largest value that the seat has seen of a tab's word.
abbrev pub tab_seen : ℕ → View → ℕ
tab_seen tab v = slice_index v.seen (tab + 1)

-- The value of a tab's word for a life state.
abbrev pub word_of : Life → ℕ
word_of life.None = 0
word_of life.Living = 1
word_of life.Dead = 2

-- The seat has found the counter above all tab numbers.
abbrev pub HasMetEnd : ℕ → View → Type 0
HasMetEnd tabs v = tabs + 2 ≤ counter_seen v

-- The seat found all numbers drawn. Either an earlier draw did, and this one takes no step, or this
-- draw did, and it counts as a step.
abbrev pub MeetsEnd : ℕ → View → View → Type 0
MeetsEnd tabs v w =
    (HasMetEnd tabs v × (w ≡ v))
    ⊎ ((¬ HasMetEnd tabs v) × (v.draws < SEAT_STEP_LIMIT) × ((found : ℕ) × (tabs < found) × (counter_seen v ≤ found) × (w ≡ draws_none v found)))
