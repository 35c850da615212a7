-- Printed texts.
use Rattle.std.specs.Prelude.{ℕ, List, ◌++◌, codes, decimal}
use Rattle.wl_draft.specs.declared.mode.Mode.{Mode}
use Rattle.wl_draft.specs.declared.mode.Mode.TheVariants.{Shared, Exclusive}

-- A text with a line feed.
abbrev pub line : List ℕ → List ℕ
line text = text ++ codes "\n"

-- A line of a word and a number.
abbrev pub numbered : List ℕ → ℕ → List ℕ
numbered word number = line (word ++ codes " " ++ decimal number)

-- The word of a lock mode.
unfoldable pub mode_text : Mode → List ℕ
mode_text Shared = codes "shared"
mode_text Exclusive = codes "exclusive"
