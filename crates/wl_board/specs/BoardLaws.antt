-- The consequences of the rule for the seats and words of a board, at any moment.
use Rattle.std.specs.Prelude.{◌≡◌, ℕ, ◌+◌, ◌<◌, ◌≤◌, slice_index}
use mathlib.Core.Option.{some}
use lib.ListN.{get_elem?}
use Rattle.wl_board.specs.declared.rule.View.{View}
use Rattle.wl_board.specs.BoardRule.{times, Has, total, Board, IsOrderly}

-- Seat i has view v.
abbrev pub Sits : Board → ℕ → View → Type 0
Sits s i v = get_elem? s.views i ≡ some v

-- Every drawn number was drawn once, by one seat.
abbrev pub DrawnOnce : Type 0
DrawnOnce = (tabs : ℕ) (s : Board) (i j : ℕ) (v w : View) (n : ℕ) → IsOrderly tabs s → Sits s i v → Sits s j w
    → Has n v.drawn → Has n w.drawn → (i ≡ j) × (times n v.drawn ≡ 1)

-- A tab that one seat has seen dead is dead.
abbrev pub DeadForAll : Type 0
DeadForAll = (tabs : ℕ) (s : Board) (i : ℕ) (v : View) (tab : ℕ) → IsOrderly tabs s → 0 < tab → Sits s i v
    → slice_index v.seen (tab + 1) ≡ 2 → slice_index s.words (tab + 1) ≡ 2

-- Every living tab was brought to life by the seat that drew its number.
abbrev pub LivingIsDrawn : Type 0
LivingIsDrawn = (tabs : ℕ) (s : Board) (tab : ℕ) → IsOrderly tabs s → 0 < tab → slice_index s.words (tab + 1) ≡ 1
    → (i : ℕ) × (v : View) × Sits s i v × (times tab v.born ≡ 1) × (times tab v.drawn ≡ 1)

-- The generation is 1 plus the number of bumps, and no seat has seen a later one.
abbrev pub GenerationIsCount : Type 0
GenerationIsCount = (tabs : ℕ) (s : Board) → IsOrderly tabs s
    → (slice_index s.words 0 ≡ 1 + total (λ v. v.bumps) s.views)
    × ((i : ℕ) (v : View) → Sits s i v → slice_index v.seen 0 ≤ slice_index s.words 0)
