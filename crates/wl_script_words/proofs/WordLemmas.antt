-- Laws of words.
use Rattle.std.proofs.Common.{◌≡◌, ℕ, ◌<◌, ◌/◌, ◌%◌, true, false, List, [], ◌∷◌, ◌++◌, length, All, Some, None, refl, sym, ap, ◌∙◌, arith, inl, inr}
use Rattle.std.specs.Prelude.{bytes_eq}
use Rattle.std.specs.Fmt.{digit_glyph}
use Rattle.std.specs.List.{flat_map}
use Rattle.std.proofs.lemmas.Bool.{cases_Bool, false_from_ne_true}
use Rattle.std.proofs.lemmas.Bool.Decides.{nat_tests}
use Rattle.std.proofs.lemmas.List.Elements.{All-head, All-tail}
use Rattle.std.proofs.lemmas.Slice.Eq.{bytes_eq-Decides}
use Rattle.percent_encoding.specs.Percent.{percent_encode_byte, percent_decode}
use Rattle.percent_encoding.proofs.PercentLemmas.{percent_decode-nil, percent_decode_not_percent, percent_decode-percent_encode_byte}
use Rattle.wl_script_words.specs.Words.{is_plain, escaped, word_of, unescaped, ReadsBack, HasOneSpelling}

plain_is_no_percent : (b : ℕ) → is_plain b ≡ true → b ≡ 37 → ⊥
plain_is_no_percent b plain percent = grind (arith, nat_tests)

escaped_plain : (b : ℕ) → is_plain b ≡ true → escaped b ≡ b ∷ []
unfolding escaped
escaped_plain b e = rw e refl

escaped_other : (b : ℕ) → is_plain b ≡ false → escaped b ≡ 37 ∷ digit_glyph true (b / 16) ∷ digit_glyph true (b % 16) ∷ []
unfolding escaped
escaped_other b e = rw e refl

encoded_byte : (b : ℕ) → b < 256 → 37 ∷ digit_glyph true (b / 16) ∷ digit_glyph true (b % 16) ∷ [] ≡ percent_encode_byte b
unfolding percent_encode_byte
encoded_byte b small =
    let e : b / 16 % 16 ≡ b / 16 = omega arith in
    rw e refl

decoded_more : (b : ℕ) (rest : List ℕ) → b < 256 → percent_decode (escaped b ++ rest) ≡ b ∷ percent_decode rest
decoded_more b rest small =
    elim (cases_Bool (is_plain b)) [
      | inl plain ↦
          ap (λ xs. percent_decode (xs ++ rest)) (escaped_plain b plain)
          ∙ percent_decode_not_percent b rest (plain_is_no_percent b plain)
      | inr other ↦
          ap (λ xs. percent_decode (xs ++ rest)) (escaped_other b other ∙ encoded_byte b small)
          ∙ percent_decode-percent_encode_byte b rest small
    ]

decodes_back : (bytes : List ℕ) → All (λ b. b < 256) bytes → percent_decode (flat_map escaped bytes) ≡ bytes
decodes_back [] small = percent_decode-nil
decodes_back (b ∷ bytes) small =
    decoded_more b (flat_map escaped bytes) (All-head (λ x. x < 256) b bytes small)
    ∙ ap (λ xs. b ∷ xs) (decodes_back bytes (All-tail (λ x. x < 256) b bytes small))

-- The word of a non-empty text is not `%`.
longer : (b : ℕ) (bytes : List ℕ) → word_of (b ∷ bytes) ≡ 37 ∷ [] → ⊥
unfolding word_of
longer b bytes e =
    let rest = flat_map escaped bytes in
    elim (cases_Bool (is_plain b)) [
      | inl plain ↦
          let f : b ∷ rest ≡ 37 ∷ [] = ap (λ xs. xs ++ rest) (sym (escaped_plain b plain)) ∙ e in
          plain_is_no_percent b plain (cc)
      | inr other ↦
          let f : 37 ∷ (digit_glyph true (b / 16) ∷ (digit_glyph true (b % 16) ∷ rest)) ≡ 37 ∷ [] =
          ap (λ xs. xs ++ rest) (sym (escaped_other b other)) ∙ e in
          cc
    ]

pub word_of_empty : (bytes : List ℕ) → length bytes ≡ 0 → word_of bytes ≡ 37 ∷ []
unfolding word_of
word_of_empty [] e = refl
word_of_empty (b ∷ bytes) e = absurd (omega arith)

pub word_of_some : (bytes : List ℕ) → 0 < length bytes → word_of bytes ≡ flat_map escaped bytes
unfolding word_of
word_of_some [] h = absurd (omega arith)
word_of_some (b ∷ bytes) h = refl

-- The word `%` is read as the empty text.
pub read_percent : (word : List ℕ) → word ≡ 37 ∷ [] → unescaped word ≡ Some []
unfolding unescaped
read_percent word e =
    let is : bytes_eq word (37 ∷ []) ≡ true = (bytes_eq-Decides word (37 ∷ [])).1 e in
    rw is refl

pub read_word : (word bytes : List ℕ) → (word ≡ 37 ∷ [] → ⊥) → percent_decode word ≡ bytes → word_of bytes ≡ word → unescaped word ≡ Some bytes
unfolding unescaped
read_word word bytes long decoded e =
    let is_not : bytes_eq word (37 ∷ []) ≡ false = false_from_ne_true _ (λ t. long ((bytes_eq-Decides word (37 ∷ [])).0 t)) in
    let same : bytes_eq (word_of bytes) word ≡ true = (bytes_eq-Decides (word_of bytes) word).1 e in
    rw (is_not, decoded, same) refl

pub read_other : (word bytes : List ℕ) → (word ≡ 37 ∷ [] → ⊥) → percent_decode word ≡ bytes → (word_of bytes ≡ word → ⊥) → unescaped word ≡ None
unfolding unescaped
read_other word bytes long decoded ne =
    let is_not : bytes_eq word (37 ∷ []) ≡ false = false_from_ne_true _ (λ t. long ((bytes_eq-Decides word (37 ∷ [])).0 t)) in
    let other : bytes_eq (word_of bytes) word ≡ false = false_from_ne_true _ (λ t. ne ((bytes_eq-Decides (word_of bytes) word).0 t)) in
    rw (is_not, decoded, other) refl

back : (bytes : List ℕ) → All (λ b. b < 256) bytes → unescaped (word_of bytes) ≡ Some bytes
unfolding word_of
back [] small = read_percent (37 ∷ []) refl
back (b ∷ bytes) small = read_word (word_of (b ∷ bytes)) (b ∷ bytes) (longer b bytes) (decodes_back (b ∷ bytes) small) refl

pub reads_back : ReadsBack
reads_back bytes small = back bytes small

empty_word : word_of [] ≡ 37 ∷ []
unfolding word_of
empty_word = refl

pub one_spelling : HasOneSpelling
one_spelling word bytes e =
    elim (cases_Bool (bytes_eq word (37 ∷ []))) [
      | inl is ↦
          let percent : word ≡ 37 ∷ [] = (bytes_eq-Decides word (37 ∷ [])).0 is in
          let read : Some [] ≡ Some bytes = sym (read_percent word percent) ∙ e in
          let empty : [] ≡ bytes = cc in
          percent ∙ sym empty_word ∙ ap word_of empty
      | inr is_not ↦
          let long : word ≡ 37 ∷ [] → ⊥ = λ p. let yes : bytes_eq word (37 ∷ []) ≡ true = (bytes_eq-Decides word (37 ∷ [])).1 p in cc in
          elim (cases_Bool (bytes_eq (word_of (percent_decode word)) word)) [
            | inl same ↦
                let again : word_of (percent_decode word) ≡ word = (bytes_eq-Decides _ _).0 same in
                let read : Some (percent_decode word) ≡ Some bytes = sym (read_word word (percent_decode word) long refl again) ∙ e in
                let text : percent_decode word ≡ bytes = cc in
                sym again ∙ ap word_of text
            | inr other ↦
                let ne : word_of (percent_decode word) ≡ word → ⊥ = λ p. let yes : bytes_eq (word_of (percent_decode word)) word ≡ true = (bytes_eq-Decides _ _).1 p in cc in
                let none : unescaped word ≡ None = read_other word (percent_decode word) long refl ne in
                absurd (cc)
          ]
    ]
