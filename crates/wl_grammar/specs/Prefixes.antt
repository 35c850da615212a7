-- Prefixes of byte strings.
use Rattle.std.specs.Prelude.{◌≡◌, ℕ, List, ◌++◌}

-- The bytes `part` are a prefix of `bytes`.
abbrev pub IsPrefixOf : List ℕ → List ℕ → Type 0
IsPrefixOf part bytes = (rest : List ℕ) × (bytes ≡ part ++ rest)
