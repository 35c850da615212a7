-- Decoding as functions on lists, field by field from left to right. These are helpers: each
-- decoding function of the code returns the result of the function here. The proofs show that the
-- values decoded have the encoding of the grammar.
use Rattle.std.specs.Prelude.{◌≡◌, ℕ, ◌==◌, nat_lt, Bool, true, false, List, [], ◌∷◌, length, take, drop, zero, suc, Option, Some, None, option_and_then, Result, Ok, Err, ⊤, if◌then◌else◌}
use Rattle.std.specs.Int.{Width, w16, w32, byte_len, from_be_bytes}
use Rattle.std.specs.List.{list_all}
use Rattle.std.specs.Str.{is_utf8}
use Rattle.wl_limits.specs.declared.texts.TheConstants.{DATA_LIMIT, ORIGIN_LIMIT}
use Rattle.wl_grammar.specs.declared.kinds.TheConstants.{FIRST_VERSION, SECOND_VERSION, COMMAND, REPORT, POST, HELLO, ANSWER, SNAPSHOT, HEARD, WELCOME, STAMPED, START, ADDRESSED, DEAD, REPORT_PART, PAIR_WELCOME}
use Rattle.wl_draft.specs.declared.mode.Mode.{Mode}
use Rattle.wl_draft.specs.declared.mode.Mode.TheVariants.{Shared, Exclusive}
use Rattle.wl_frames.specs.declared.fault.FrameFault.{FrameFault}
use Rattle.wl_frames.specs.declared.fault.FrameFault.TheVariants as frame_faults
use Rattle.wl_frames.specs.declared.reading.fault.ReadFault.{ReadFault}
use Rattle.wl_frames.specs.declared.reading.fault.ReadFault.TheVariants as read_fault
use Rattle.wl_frames.specs.declared.reading.kind.Kind.{Kind}
use Rattle.wl_frames.specs.declared.reading.kind.Kind.TheVariants as kind

infixl 10 ◌>>=◌
abbrev pub ◌>>=◌ : {A B : Type 0} → Option A → (A → Option B) → Option B
o >>= f = option_and_then f o

-- The function's result, seen through `view`, is the result of decoding, unless memory ran out.
abbrev pub Fails : {Y : Type 0} → ReadFault → Option Y → Type 0
Fails read_fault.Memory read = ⊤
Fails read_fault.Field read = read ≡ None

abbrev pub Gives : {X Y : Type 0} → (X → Y) → Result X ReadFault → Option Y → Type 0
Gives view (Ok x) read = read ≡ Some (view x)
Gives view (Err e) read = Fails e read

-- The fault of a frame, from the fault of one of its fields.
abbrev pub frame_fault : ReadFault → FrameFault
frame_fault read_fault.Memory = frame_faults.Memory
frame_fault read_fault.Field = frame_faults.BadField

-- The value of a code in a table of codes.
abbrev pub value_of : {X : Type 0} → List (ℕ × X) → ℕ → Option X
value_of [] code = None
value_of (e ∷ es) code = if code == e.0 then Some e.1 else value_of es code

-- Fields: a value and the bytes after it

abbrev pub byte_at : List ℕ → Option (ℕ × List ℕ)
byte_at [] = None
byte_at (b ∷ bytes) = Some (b, bytes)

abbrev pub number_at : Width → List ℕ → Option (ℕ × List ℕ)
number_at w bytes =
    if nat_lt (length bytes) (byte_len w) then None else Some (from_be_bytes w (take (byte_len w) bytes), drop (byte_len w) bytes)

-- The value, unless it is 0.
abbrev pub from_one_on : ℕ × List ℕ → Option (ℕ × List ℕ)
from_one_on n = if n.0 == 0 then None else Some n

unfoldable pub generation_at : List ℕ → Option (ℕ × List ℕ)
generation_at bytes = number_at w32 bytes >>= from_one_on

unfoldable pub tab_at : List ℕ → Option (ℕ × List ℕ)
tab_at bytes = number_at w16 bytes >>= from_one_on

-- The value whose code comes first.
abbrev pub coded_at : {X : Type 0} → List (ℕ × X) → List ℕ → Option (X × List ℕ)
coded_at table bytes = do
  code ← byte_at bytes
  x ← value_of table code.0
  Some (x, code.1)

abbrev pub modes : List (ℕ × Mode)
modes = (1, Shared) ∷ (2, Exclusive) ∷ []

unfoldable pub mode_at : List ℕ → Option (Mode × List ℕ)
mode_at bytes = coded_at modes bytes

abbrev pub flags : List (ℕ × Bool)
flags = (0, false) ∷ (1, true) ∷ []

unfoldable pub flag_at : List ℕ → Option (Bool × List ℕ)
flag_at bytes = coded_at flags bytes

abbrev pub held_codes : List (ℕ × Bool)
held_codes = (1, true) ∷ (2, false) ∷ []

unfoldable pub held_at : List ℕ → Option (Bool × List ℕ)
held_at bytes = coded_at held_codes bytes

unfoldable pub taken_at : ℕ → List ℕ → Option (List ℕ × List ℕ)
taken_at n bytes = if nat_lt (length bytes) n then None else Some (take n bytes, drop n bytes)

unfoldable pub short_text_at : List ℕ → Option (List ℕ × List ℕ)
short_text_at bytes = do
  n ← byte_at bytes
  taken_at n.0 n.1

unfoldable pub long_text_at : ℕ → List ℕ → Option (List ℕ × List ℕ)
long_text_at most bytes = do
  n ← number_at w16 bytes
  if nat_lt most n.0 then None else taken_at n.0 n.1

-- The text, if it is valid UTF-8.
abbrev pub text_of : List ℕ → Option (List ℕ)
text_of text = if is_utf8 text then Some text else None

unfoldable pub channel_at : List ℕ → Option (List ℕ × List ℕ)
channel_at bytes = do
  text ← short_text_at bytes
  name ← text_of text.0
  Some (name, text.1)

abbrev pub has_dash : List ℕ → Bool
has_dash [] = false
has_dash (b ∷ bs) = b == 45

abbrev pub lock_text_of : List ℕ → Option (List ℕ)
lock_text_of text = if has_dash text then None else text_of text

unfoldable pub lock_name_at : List ℕ → Option (List ℕ × List ℕ)
lock_name_at bytes = do
  text ← short_text_at bytes
  name ← lock_text_of text.0
  Some (name, text.1)

unfoldable pub data_at : List ℕ → Option (List ℕ × List ℕ)
data_at bytes = long_text_at DATA_LIMIT bytes

abbrev pub is_ascii : List ℕ → Bool
is_ascii text = list_all (λ b. nat_lt b 128) text

abbrev pub origin_text_of : List ℕ → Option (List ℕ)
origin_text_of text = if is_ascii text then Some text else None

unfoldable pub origin_at : List ℕ → Option (List ℕ × List ℕ)
origin_at bytes = do
  text ← long_text_at ORIGIN_LIMIT bytes
  origin ← origin_text_of text.0
  Some (origin, text.1)

-- Lists

unfoldable pub items_at : {X : Type 0} → (List ℕ → Option (X × List ℕ)) → ℕ → List ℕ → Option (List X × List ℕ)
items_at read zero bytes = Some ([], bytes)
items_at read (suc n) bytes = do
  first ← read bytes
  others ← items_at read n first.1
  Some (first.0 ∷ others.0, others.1)

unfoldable pub list_at : {X : Type 0} → (List ℕ → Option (X × List ℕ)) → ℕ → List ℕ → Option (List X × List ℕ)
list_at read most bytes = do
  n ← number_at w16 bytes
  if nat_lt most n.0 then None else items_at read n.0 n.1

-- Kinds, by version

abbrev pub first_kinds : List (ℕ × Kind)
first_kinds =
    (COMMAND, kind.Command) ∷ (REPORT, kind.Report) ∷ (POST, kind.Post) ∷ (HELLO, kind.Hello) ∷ (ANSWER, kind.Answer)
    ∷ (SNAPSHOT, kind.Snapshot) ∷ (HEARD, kind.Heard) ∷ (WELCOME, kind.Welcome) ∷ (STAMPED, kind.Stamped)
    ∷ (START, kind.Start) ∷ (ADDRESSED, kind.Addressed) ∷ (DEAD, kind.Dead) ∷ []

abbrev pub second_kinds : List (ℕ × Kind)
second_kinds = (REPORT_PART, kind.ReportPart) ∷ (PAIR_WELCOME, kind.PairWelcome) ∷ []

abbrev pub kinds_of : ℕ → List (ℕ × Kind)
kinds_of version =
    if version == FIRST_VERSION then first_kinds else (if version == SECOND_VERSION then second_kinds else [])

unfoldable pub kind_at : ℕ → ℕ → Option Kind
kind_at version code = value_of (kinds_of version) code
