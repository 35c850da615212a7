-- Membership in a list.
use Rattle.std.specs.Prelude.{List, ◌∷◌}

-- An element is in a list if it is the head or is in the tail.
pub data In {X : Type 0} (x : X) : List X → Type 0 where
  Here : {xs : List X} → In x (x ∷ xs)
  Later : {y : X} {xs : List X} → In x xs → In x (y ∷ xs)
