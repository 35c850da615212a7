-- Paths among a program's arguments.
use Rattle.std.specs.Prelude.{ℕ, List, Bool, ◌==◌, slice_index}

-- The word starts with U+002D, so it would be read as an option.
abbrev pub is_like_an_option : List ℕ → Bool
is_like_an_option word = slice_index word 0 == 45
