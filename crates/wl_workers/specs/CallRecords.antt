-- Records kept by a worker's neighbours: `Some` list of the calls made so far, or `None` if nothing
-- is claimed.
use Rattle.std.specs.Prelude.{◌≡◌, List, ◌++◌, Option, None, Some, ⊤}

-- A recorded list has grown by these entries.
abbrev pub RecordGrows : {A : Type 0} → Option (List A) → Option (List A) → List A → Type 0
RecordGrows None new more = ⊤
RecordGrows (Some xs) None more = ⊥
RecordGrows (Some xs) (Some ys) more = ys ≡ xs ++ more
