-- The rule of a board, over its words and the views of its seats.
--
-- Word 0 is the generation and word 1 the counter. Word tab + 1 is the life state of a tab: 0 for
-- none, 1 for living, 2 for dead.
use Rattle.std.specs.Prelude.{◌≡◌, ◌-◌, ℕ, ◌+◌, ◌<◌, ◌≤◌, ◌==◌, ◌⊎◌, List, [], ◌∷◌, length, slice_index, cond, replicate}
use mathlib.Core.Option.{some}
use lib.ListN.{get_elem?}
use Rattle.atomic_table.specs.Table.{State}
use Rattle.wl_board.specs.declared.board.TheConstants.{SEAT_LIMIT, SEAT_STEP_LIMIT}
use Rattle.wl_board.specs.declared.rule.View.{View}

-- The number of occurrences of a number in a list.
abbrev pub times : ℕ → List ℕ → ℕ
times n [] = 0
times n (x ∷ xs) = cond (n == x) 1 0 + times n xs

abbrev pub Has : ℕ → List ℕ → Type 0
Has n xs = 0 < times n xs

-- The sum of f over all views.
abbrev pub total : (View → ℕ) → List View → ℕ
total f [] = 0
total f (v ∷ vs) = f v + total f vs

abbrev pub EachSeat : (View → Type 0) → List View → Type 0
EachSeat P views = (seat : ℕ) (v : View) → get_elem? views seat ≡ some v → P v

abbrev pub SomeSeat : (View → Type 0) → List View → Type 0
SomeSeat P views = (seat : ℕ) × (v : View) × (get_elem? views seat ≡ some v) × P v

abbrev pub Board : Type 0
Board = State (Unit {0}) View

pub record IsOrderly (tabs : ℕ) (s : Board) : Type 0 where
  pub wide : length s.words ≡ tabs + 2
  -- The number of seats, including those that may still be split off, is at most `SEAT_LIMIT`.
  pub few : length s.views + total (λ v. v.to_give) s.views ≤ SEAT_LIMIT
  pub limits : EachSeat (λ v. (v.draws ≤ SEAT_STEP_LIMIT) × (v.bumps ≤ SEAT_STEP_LIMIT)) s.views
  -- No word is below the largest value that a seat has seen of it.
  pub seen : EachSeat (λ v. (word : ℕ) → slice_index v.seen word ≤ slice_index s.words word) s.views
  -- No number is drawn twice, and no drawn number is at or above the counter.
  pub once : (n : ℕ) → total (λ v. times n v.drawn) s.views ≤ 1
  pub below : (n : ℕ) → slice_index s.words 1 ≤ n → total (λ v. times n v.drawn) s.views ≡ 0
  -- Each seat brought only tabs to life whose numbers it drew.
  pub born : EachSeat (λ v. (n : ℕ) → times n v.born ≤ times n v.drawn) s.views
  pub counter : slice_index s.words 1 ≡ 1 + total (λ v. v.draws) s.views
  pub generation : slice_index s.words 0 ≡ 1 + total (λ v. v.bumps) s.views
  pub states : (tab : ℕ) → 0 < tab → slice_index s.words (tab + 1) ≤ 2
  pub living : (tab : ℕ) → 0 < tab → slice_index s.words (tab + 1) ≡ 1 → SomeSeat (λ v. Has tab v.born) s.views
  pub dead : (tab : ℕ) → 0 < tab → slice_index s.words (tab + 1) ≡ 2 → SomeSeat (λ v. Has tab v.marked) s.views
  pub known : (tab : ℕ) → 0 < tab → 0 < slice_index s.words (tab + 1) → SomeSeat (λ v. Has tab v.born ⊎ (slice_index v.seen (tab + 1) ≡ 2)) s.views

-- The view of a new seat that may split off `others` more seats.
abbrev pub newcomer : ℕ → ℕ → View
newcomer tabs others = record { seen = replicate (tabs + 2) 0; drawn = []; born = []; marked = []; draws = 0; bumps = 0; steps = 0; to_give = others }

abbrev pub first_seat : ℕ → View
first_seat tabs = newcomer tabs (SEAT_LIMIT - 1)
