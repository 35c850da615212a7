-- The Hello owed to a tab: the generation of the newest one that did not fit into the tab's outbox, if any.
use Rattle.std.specs.Prelude.{◌≡◌, ◌≤◌, ℕ, Bool, true, false, nat_lt, List, [], ◌∷◌, ◌++◌, Option, Some, None, if◌then◌else◌}
use Rattle.wl_grammar.specs.declared.frame.Frame.{Frame}
use Rattle.wl_grammar.specs.declared.frame.Frame.TheVariants as frame

-- The generation of a Hello.
abbrev pub greeting : Frame → Option ℕ
greeting (frame.Hello h) = Some h.generation
greeting f = None

-- The debt after the outbox had no room for the Hello of this generation.
abbrev pub refused : ℕ → Option ℕ → Option ℕ
refused generation None = Some generation
refused generation (Some owed) = if nat_lt owed generation then Some generation else Some owed

-- The debt after the Hello of this generation was put into the outbox.
abbrev pub settled : ℕ → Option ℕ → Option ℕ
settled generation None = None
settled generation (Some owed) = if nat_lt generation owed then Some owed else None

-- The debt after a frame was put, or did not fit.
abbrev pub noted : Option ℕ → Bool → Option ℕ → Option ℕ
noted None is_put owed = owed
noted (Some generation) true owed = settled generation owed
noted (Some generation) false owed = refused generation owed

abbrev pub hello_due : Option ℕ → Option Frame
hello_due None = None
hello_due (Some owed) = Some (frame.Hello (record { generation = owed }))

-- Any list of Hellos for one tab

-- The Hello of this generation did not fit into the outbox, or was put into it.
pub data Told : Type 0 where
  Refused : (generation : ℕ) → Told
  Put : (generation : ℕ) → Told

abbrev pub told : Told → Option ℕ → Option ℕ
told (Refused generation) owed = refused generation owed
told (Put generation) owed = settled generation owed

abbrev pub after : List Told → Option ℕ → Option ℕ
after [] owed = owed
after (t ∷ ts) owed = after ts (told t owed)

-- The debt after the list, if nothing was owed before.
abbrev pub owed_after : List Told → Option ℕ
owed_after ts = after ts None

abbrev pub Every : (Told → Bool) → List Told → Type 0
Every p [] = Unit {0}
Every p (t ∷ ts) = (p t ≡ true) × Every p ts

-- Only putting the same Hello or a later one settles a debt.
abbrev pub leaves : ℕ → Told → Bool
leaves generation (Refused other) = true
leaves generation (Put other) = nat_lt other generation

-- The Hello of this generation was refused, and neither it nor a later one was put since.
pub record IsMissing (generation : ℕ) (ts : List Told) : Type 0 where
  pub before : List Told
  pub later : List Told
  pub split : ts ≡ before ++ Refused generation ∷ later
  pub still : Every (leaves generation) later

-- A tab is owed only a Hello that it is missing.
abbrev pub OwesWhatIsMissing : Type 0
OwesWhatIsMissing = (ts : List Told) (owed : ℕ) → owed_after ts ≡ Some owed → IsMissing owed ts

-- A Hello of this generation or of a later one is owed.
abbrev pub IsOwed : ℕ → Option ℕ → Type 0
IsOwed generation owed = (newest : ℕ) × (owed ≡ Some newest) × (generation ≤ newest)

-- A tab is owed the latest Hello that it is missing.
abbrev pub OwesTheLatest : Type 0
OwesTheLatest = (ts : List Told) (generation : ℕ) → IsMissing generation ts → IsOwed generation (owed_after ts)

-- If a tab's last Hello was refused, it is owed that one or a later one.
abbrev pub OwesTheLast : Type 0
OwesTheLast = (ts : List Told) (generation : ℕ) → IsOwed generation (owed_after (ts ++ Refused generation ∷ []))
