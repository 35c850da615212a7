-- Results of looks at a tab.
use Rattle.std.specs.Prelude.{◌≢◌, ◌≤◌, ℕ, List, [], ◌∷◌, ◌++◌, Bool, true, false, map, Option}
use Rattle.wl_board.specs.declared.tab.Life.{Life}
use Rattle.wl_board.specs.declared.tab.Life.TheVariants as life
use Rattle.wl_board.specs.Seats.{SharedBoard, Sitting}
use Rattle.wl_workers.specs.CallRecords.{RecordGrows}

abbrev pub IsNotDead : Life → Type 0
IsNotDead l = l ≢ life.Dead

-- Looks at one tab, each paired with the tab.
abbrev pub at_tab : ℕ → List Life → List (ℕ × Life)
at_tab tab looks = map (λ l. (tab, l)) looks

-- One look was made, and it found the tab dead exactly if the Boolean is true.
abbrev pub FindsDead : ℕ → Bool → Option (List (ℕ × Life)) → Option (List (ℕ × Life)) → Type 0
FindsDead tab true before after = RecordGrows before after ((tab, life.Dead) ∷ [])
FindsDead tab false before after = (l : Life) × IsNotDead l × RecordGrows before after ((tab, l) ∷ [])

-- Any number of looks were made, all at this tab.
abbrev pub LooksOnly : ℕ → Option (List (ℕ × Life)) → Option (List (ℕ × Life)) → Type 0
LooksOnly tab before after = (looks : List Life) × RecordGrows before after (at_tab tab looks)

-- Looks were made at this tab, and the last one found it dead.
abbrev pub FoundDead : ℕ → Option (List (ℕ × Life)) → Option (List (ℕ × Life)) → Type 0
FoundDead tab before after = (looks : List Life) × RecordGrows before after (at_tab tab (looks ++ life.Dead ∷ []))

-- Looks from a seat

-- A board with one of its seats.
pub record Watching : Type 0 where
  pub board : SharedBoard
  pub seat : Sitting

-- The board has a tab of this number.
abbrev pub IsOnBoard : ℕ → SharedBoard → Type 0
IsOnBoard tab board = (1 ≤ tab) × (tab ≤ board.tabs)
