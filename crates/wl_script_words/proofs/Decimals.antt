-- Lemmas on writing and reading decimal numbers.
use Rattle.std.proofs.Common.{◌≡◌, ℕ, ◌^◌, ◌<◌, min, true, false, Bool, not, List, length, get_or, Some, None, refl, sym, ap, ◌∙◌, inl, inr, arith, rules}
use Rattle.std.specs.Prelude.{decimal, nat_lt, ◌&&◌}
use Rattle.std.specs.Str.{all_ascii_digits}
use Rattle.std.proofs.lemmas.Bool.{cases_Bool, cases_lt}
use Rattle.std.proofs.lemmas.Bool.Decides.{nat_tests}
use Rattle.std.proofs.lemmas.Str.Parse.{IsNumeralModel, numerals_by_fold, tells_all_ascii_digits}
use Rattle.std.proofs.lemmas.Fmt.{digits_decimal, digits_value-decimal, decimal-digits_value, decimal_nonempty, decimal_digit, first_decimal}
use Rattle.wl_script_words.specs.WordReading.{value_after, has_leading_zero, is_number, ReadsNumbersBack, HasOneDecimal}
use Rattle.wl_script_words.proofs.Numbers.{number_by, all_on}

own : IsNumeralModel (λ ds. all_ascii_digits ds ≡ true) (value_after 0)
own = numerals_by_fold _ tells_all_ascii_digits value_after (search rules)

-- Written decimals are numbers

leading_off : (ds : List ℕ) → 48 < get_or ds 0 0 → has_leading_zero ds ≡ false
leading_off ds above = grind (arith, nat_tests)

no_leading : (n : ℕ) → n < 2 ^ 64 → has_leading_zero (decimal n) ≡ false
no_leading n small =
    elim (cases_lt 0 n) [
      | inl some ↦ leading_off (decimal n) (first_decimal n some small)
      | inr zero ↦ ap has_leading_zero (decimal_digit n (omega arith)) ∙ refl
    ]

decimal_is : (n : ℕ) → n < 2 ^ 64 → is_number (decimal n) ≡ true
decimal_is n small =
    let nonempty = decimal_nonempty n small in
    all_on (nat_lt 0 (length (decimal n))) (has_leading_zero (decimal n)) (all_ascii_digits (decimal n)) (grind (arith, nat_tests)) (no_leading n small)
    (digits_decimal own n small)

pub reads_numbers_back : ReadsNumbersBack
reads_numbers_back n most le fits =
    let value = digits_value-decimal own n (omega arith) in
    number_by most (decimal n) true (decimal_is n (omega arith)) ∙ ap (λ (v : ℕ). Some v) (ap (λ v. min v most) value ∙ omega arith)

-- Numbers read are decimals

-- The three conditions of a number, taken apart.
parts : (a b d : Bool) → (a && not b && d) ≡ true → (a ≡ true) × (b ≡ false) × (d ≡ true)
parts true false true e = (refl, refl, refl)
parts true false false e = absurd cc
parts true true d e = absurd cc
parts false b d e = absurd cc

pub one_decimal : HasOneDecimal
one_decimal word n most lt fits e =
    elim (cases_Bool (is_number word)) [
      | inl is ↦
          let p = parts (nat_lt 0 (length word)) (has_leading_zero word) (all_ascii_digits word) is in
          let read : Some (min (value_after 0 word) most) ≡ Some n = sym (number_by most word true is) ∙ e in
          let value : min (value_after 0 word) most ≡ n = cc in
          let some : 0 < length word = grind (arith, nat_tests, p.0) in
          let same = decimal-digits_value own word p.2 some (λ zero. grind (arith, nat_tests, p.1, zero, some)) (omega arith) in
          sym same ∙ ap decimal (omega arith)
      | inr is_not ↦
          let read : None ≡ Some n = sym (number_by most word false is_not) ∙ e in
          absurd (cc)
    ]
