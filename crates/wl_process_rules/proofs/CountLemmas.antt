-- Lemmas on writing and reading counts.
use Rattle.std.proofs.Common.{◌≡◌, ◌≢◌, ℕ, ◌≤◌, ◌<◌, List, [], ◌∷◌, ◌++◌, Some, None, refl, sym, ap, ◌∙◌, arith}
use Rattle.std.specs.Prelude.{decimal}
use Rattle.std.proofs.lemmas.Fmt.{decimal_injective}
use Rattle.std.proofs.lemmas.List.{append_cancel_right}
use Rattle.wl_script_words.specs.WordReading.{most_number, number_at}
use Rattle.wl_script_words.proofs.Decimals.{reads_numbers_back, one_decimal}
use Rattle.wl_process_rules.specs.CounterFile.{count_text, IsCountOf, ReadsBack}

-- A text that does not end with a line feed holds no count.
pub no_feed : (text feed : List ℕ) → feed ≡ 10 ∷ [] → ((front : List ℕ) → text ≢ front ++ feed) → IsCountOf text None
unfolding count_text
no_feed text feed is_feed none n small is = none (decimal n) (is ∙ ap (λ f. decimal n ++ f) (sym is_feed))

-- A text that ends with a line feed is its digits followed by the line feed.
pub fed : (text feed digits : List ℕ) → feed ≡ 10 ∷ [] → text ≡ digits ++ feed → text ≡ digits ++ 10 ∷ []
fed text feed digits is_feed e = e ∙ ap (λ f. digits ++ f) is_feed

-- The digits before the line feed are the decimal of the count.
digits_before : (digits : List ℕ) (n : ℕ) → digits ++ 10 ∷ [] ≡ count_text n → digits ≡ decimal n
unfolding count_text
digits_before digits n e = append_cancel_right digits (decimal n) (10 ∷ []) e

-- The digits of a count are read as that count.
pub count_read : (digits text : List ℕ) (n : ℕ) → n < 1000000 → text ≡ digits ++ 10 ∷ [] → text ≡ count_text n → number_at most_number digits ≡ Some n
count_read digits text n small e is =
    ap (number_at most_number) (digits_before digits n (sym e ∙ is)) ∙ reads_numbers_back n most_number (omega arith) (omega arith)

-- Digits that are no number below the limit hold no count.
pub no_number : (digits text : List ℕ) → text ≡ digits ++ 10 ∷ [] → number_at most_number digits ≡ None → IsCountOf text None
no_number digits text e none n small is =
    let read : number_at most_number digits ≡ Some n = count_read digits text n small e is in
    absurd cc

pub too_great : (digits text : List ℕ) (m : ℕ) → text ≡ digits ++ 10 ∷ [] → number_at most_number digits ≡ Some m → 1000000 ≤ m → IsCountOf text None
too_great digits text m e other great n small is =
    let read : Some n ≡ Some m = sym (count_read digits text n small e is) ∙ other in
    let same : n ≡ m = cc in
    absurd (omega (arith, same))

pub is_count : (digits text : List ℕ) (n : ℕ) → n < 1000000 → text ≡ digits ++ 10 ∷ [] → number_at most_number digits ≡ Some n → text ≡ count_text n
unfolding count_text
is_count digits text n small e read = e ∙ ap (λ ds. ds ++ 10 ∷ []) (one_decimal digits n most_number (omega arith) (omega arith) read)

texts_apart : (m n : ℕ) → count_text m ≡ count_text n → decimal m ≡ decimal n
unfolding count_text
texts_apart m n e = append_cancel_right (decimal m) (decimal n) (10 ∷ []) e

pub reads_back : ReadsBack
reads_back n (Some m) small h = ap (λ (v : ℕ). Some v) (decimal_injective m n (omega (arith, h.0)) (omega arith) (texts_apart m n (sym h.1)))
reads_back n None small h = absurd (h n small refl)
