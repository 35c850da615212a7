-- A merge of several lists: one list of all their items that keeps the order of each.
use Rattle.std.specs.Prelude.{◌≡◌, ℕ, ◌==◌, List, map, filter}

-- The items labelled with source p, in order.
abbrev pub from_source : {A : Type 0} → ℕ → List (ℕ × A) → List A
from_source p labelled = map (λ l. l.1) (filter (λ l. l.0 == p) labelled)

-- The items can be labelled with sources so that the items of each source, in order, are the
-- source's list.
pub record IsMerge {A : Type 0} (items : List A) (lists : ℕ → List A) : Type 0 where
  pub labelled : List (ℕ × A)
  pub all : map (λ l. l.1) labelled ≡ items
  pub each : (p : ℕ) → from_source p labelled ≡ lists p
