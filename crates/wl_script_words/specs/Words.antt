-- Names, channels and data as words of scripts and replies.
use Rattle.std.specs.Prelude.{◌≡◌, ℕ, ◌<◌, ◌/◌, ◌%◌, nat_le, ◌==◌, Bool, true, not, ◌&&◌, List, [], ◌∷◌, All, Option, Some, None, Result, Ok, Err, bytes_eq, ⊤, if◌then◌else◌}
use Rattle.std.specs.List.{flat_map}
use Rattle.std.specs.Fmt.{digit_glyph}
use Rattle.percent_encoding.specs.Percent.{percent_decode}
use Rattle.wl_script_words.specs.declared.parse_fault.ParseFault.{ParseFault}
use Rattle.wl_script_words.specs.declared.parse_fault.ParseFault.TheVariants as unread

-- The byte needs no escape: it is 21 to 7E in hexadecimal, other than `%`.
abbrev pub is_plain : ℕ → Bool
is_plain b = nat_le 33 b && nat_le b 126 && not (b == 37)

-- The spelling of a byte. A byte that needs an escape is `%` and two uppercase hexadecimal digits.
unfoldable pub escaped : ℕ → List ℕ
escaped b = if is_plain b then b ∷ [] else 37 ∷ digit_glyph true (b / 16) ∷ digit_glyph true (b % 16) ∷ []

-- The word of a text. The word of the empty text is `%`.
unfoldable pub word_of : List ℕ → List ℕ
word_of [] = 37 ∷ []
word_of (b ∷ bs) = flat_map escaped (b ∷ bs)

-- These bytes, if the word is theirs.
abbrev pub if_word_of : List ℕ → List ℕ → Option (List ℕ)
if_word_of bytes word = if bytes_eq (word_of bytes) word then Some bytes else None

-- The text of a word.
unfoldable pub unescaped : List ℕ → Option (List ℕ)
unescaped word = if bytes_eq word (37 ∷ []) then Some [] else if_word_of (percent_decode word) word

-- Laws

-- Reading the word of a text returns the text.
abbrev pub ReadsBack : Type 0
ReadsBack = (bytes : List ℕ) → All (λ b. b < 256) bytes → unescaped (word_of bytes) ≡ Some bytes

-- A text is read only from its word.
abbrev pub HasOneSpelling : Type 0
HasOneSpelling = (word bytes : List ℕ) → unescaped word ≡ Some bytes → word ≡ word_of bytes

-- Results of parsing functions

-- A parsing function's result, seen through a view, agrees with the definition unless memory ran
-- out.
abbrev pub Fails : {Y : Type 0} → ParseFault → Option Y → Type 0
Fails unread.Memory read = ⊤
Fails unread.Form read = read ≡ None

abbrev pub Gives : {X Y : Type 0} → (X → Y) → Result X ParseFault → Option Y → Type 0
Gives view (Ok x) read = read ≡ Some (view x)
Gives view (Err e) read = Fails e read
