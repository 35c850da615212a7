-- The words of a line, and the meaning of each.
use Rattle.std.specs.Prelude.{◌≡◌, ℕ, ◌+◌, ◌-◌, ◌*◌, ◌^◌, ◌<◌, ◌≤◌, min, nat_lt, nat_le, ◌==◌, Bool, false, not, ◌&&◌, List, [], ◌∷◌, length, map, slice_index, Option, Some, None, option_and_then, bytes_eq, codes, decimal, if◌then◌else◌}
use Rattle.std.specs.Str.{is_utf8, all_ascii_digits}
use Rattle.std.specs.List.{slice_split}
use Rattle.std.specs.Borrow.{Bor}
use Rattle.wl_draft.specs.declared.mode.Mode.{Mode}
use Rattle.wl_draft.specs.declared.mode.Mode.TheVariants.{Shared, Exclusive}
use Rattle.wl_limits.specs.declared.scripts.TheConstants.{LINE_LIMIT}
use Rattle.wl_limits.specs.declared.tabs.TheConstants.{LAST_TAB}
use Rattle.wl_script_words.specs.Words.{unescaped}

infixl 10 ◌>>=◌
abbrev pub ◌>>=◌ : {A B : Type 0} → Option A → (A → Option B) → Option B
o >>= f = option_and_then f o

-- Lines

-- The parts of a text between spaces.
abbrev pub words_of : List ℕ → List (List ℕ)
words_of text = slice_split (λ b. b == 32) text

abbrev pub begins_comment : List ℕ → Bool
begins_comment [] = false
begins_comment (b ∷ bs) = b == 35

-- The words of a line. A line over the limit has no reading. An empty line and a comment have no
-- words.
unfoldable pub line_words_at : List ℕ → Option (List (List ℕ))
line_words_at text =
    if nat_lt LINE_LIMIT (length text) then None
    else if length text == 0 then Some []
    else if begins_comment text then Some []
    else Some (words_of text)

-- The texts of borrowed words.
abbrev pub texts : List (Bor (List ℕ)) → List (List ℕ)
texts words = map (λ w. w.now) words

-- Exact word counts

abbrev pub one : List (List ℕ) → Option (List ℕ)
one (a ∷ []) = Some a
one words = None

abbrev pub two : List (List ℕ) → Option (List ℕ × List ℕ)
two (a ∷ b ∷ []) = Some (a, b)
two words = None

abbrev pub three : List (List ℕ) → Option (List ℕ × List ℕ × List ℕ)
three (a ∷ b ∷ c ∷ []) = Some (a, b, c)
three words = None

abbrev pub none : List (List ℕ) → Option ℕ
none [] = Some 0
none words = None

-- Numbers

abbrev pub has_leading_zero : List ℕ → Bool
has_leading_zero ds = nat_lt 1 (length ds) && slice_index ds 0 == 48

-- The digits are decimal, with no leading zero.
abbrev pub is_number : List ℕ → Bool
is_number ds = nat_lt 0 (length ds) && not (has_leading_zero ds) && all_ascii_digits ds

-- The value of digits that follow the digits of n.
abbrev pub value_after : ℕ → List ℕ → ℕ
value_after n [] = n
value_after n (d ∷ ds) = value_after (10 * n + (d - 48)) ds

-- The number that a word spells, capped at `most`. No command or object has a number above the cap.
unfoldable pub number_at : ℕ → List ℕ → Option ℕ
number_at most word = if is_number word then Some (min (value_after 0 word) most) else None

-- The cap of all numbers except command numbers: the largest `u64`.
abbrev pub most_number : ℕ
most_number = 18446744073709551615

-- The number of a tab, 1 to `LAST_TAB`.
unfoldable pub tab_at : List ℕ → Option ℕ
tab_at word = do
  n ← number_at most_number word
  if nat_le 1 n && nat_le n LAST_TAB then Some n else None

-- Other words

unfoldable pub mode_at : List ℕ → Option Mode
mode_at word =
    if bytes_eq word (codes "shared") then Some Shared
    else if bytes_eq word (codes "exclusive") then Some Exclusive
    else None

-- The text of bytes, if they are UTF-8.
abbrev pub text_of : List ℕ → Option (List ℕ)
text_of text = if is_utf8 text then Some text else None

-- The name of a lock or a channel.
unfoldable pub name_at : List ℕ → Option (List ℕ)
name_at word = unescaped word >>= text_of

-- A URL or a file path: not empty and without escapes.
unfoldable pub url_at : List ℕ → Option (List ℕ)
url_at word = if length word == 0 then None else text_of word

-- Laws

-- Reading a number's decimal returns the number.
abbrev pub ReadsNumbersBack : Type 0
ReadsNumbersBack = (n most : ℕ) → n ≤ most → most < 2 ^ 64 → number_at most (decimal n) ≡ Some n

-- A number below the cap is read only from its decimal.
abbrev pub HasOneDecimal : Type 0
HasOneDecimal = (word : List ℕ) (n most : ℕ) → n < most → most < 2 ^ 64 → number_at most word ≡ Some n → word ≡ decimal n
