-- Lemmas on reading numbers.
use Rattle.std.proofs.Common.{◌≡◌, ℕ, ◌+◌, ◌-◌, ◌*◌, ◌≤◌, ◌<◌, min, true, false, Bool, not, ◌&&◌, List, [], ◌∷◌, length, drop, get_or, Some, None, refl, sym, ap, ◌∙◌, inl, inr, arith}
use Rattle.std.specs.Prelude.{nat_lt, if◌then◌else◌}
use Rattle.std.specs.Char.{is_ascii_digit}
use Rattle.std.specs.Str.{all_ascii_digits}
use Rattle.std.proofs.lemmas.Bool.{cases_Bool}
use Rattle.std.proofs.lemmas.Bool.Decides.{nat_tests}
use Rattle.std.proofs.lemmas.List.{at_drop_more, at_drop_all}
use Rattle.wl_script_words.specs.declared.parse_fault.ParseFault.{ParseFault}
use Rattle.wl_script_words.specs.declared.parse_fault.ParseFault.TheVariants as unread
use Rattle.wl_script_words.specs.Words.{Fails}
use Rattle.wl_script_words.specs.WordReading.{has_leading_zero, is_number, value_after, number_at}

-- Two values that agree up to the cap still agree after more digits.
value_after-capped : (most n m : ℕ) (ds : List ℕ) → min n most ≡ min m most → min (value_after n ds) most ≡ min (value_after m ds) most
value_after-capped most n m [] e = e
value_after-capped most n m (d ∷ ds) e = value_after-capped most (10 * n + (d - 48)) (10 * m + (d - 48)) ds (omega arith)

-- Reading one more digit.
pub one_more : (most n m : ℕ) (ds : List ℕ) (i : ℕ) → i < length ds → m ≡ min (min (n * 10) most + (get_or ds i 0 - 48)) most
    → min (value_after m (drop (i + 1) ds)) most ≡ min (value_after n (drop i ds)) most
one_more most n m ds i lt e =
    let d = get_or ds i 0 in
    let same : min m most ≡ min (10 * n + (d - 48)) most = omega arith in
    value_after-capped most m (10 * n + (d - 48)) (drop (i + 1) ds) same
    ∙ ap (λ v. min v most) (sym (at_drop_more (value_after n) ds i 0 lt))

pub more_digits : (ds : List ℕ) (i : ℕ) → i < length ds → is_ascii_digit (get_or ds i 0) ≡ true → all_ascii_digits (drop i ds) ≡ all_ascii_digits (drop (i + 1) ds)
more_digits ds i lt e = at_drop_more all_ascii_digits ds i 0 lt ∙ ap (λ b. b && all_ascii_digits (drop (i + 1) ds)) e

pub odd_digit : (ds : List ℕ) (i : ℕ) → i < length ds → is_ascii_digit (get_or ds i 0) ≡ false → all_ascii_digits (drop i ds) ≡ false
odd_digit ds i lt e = at_drop_more all_ascii_digits ds i 0 lt ∙ ap (λ b. b && all_ascii_digits (drop (i + 1) ds)) e

-- Conditions of a number

pub number_by : (most : ℕ) (ds : List ℕ) (b : Bool) → is_number ds ≡ b → number_at most ds ≡ (if b then Some (min (value_after 0 ds) most) else None)
unfolding number_at
number_by most ds b e = ap (λ x. if x then Some (min (value_after 0 ds) most) else None) e

second_off : (a d : Bool) → (a && false && d) ≡ false
second_off true d = refl
second_off false d = refl

third_off : (a b : Bool) → (a && b && false) ≡ false
third_off true true = refl
third_off true false = refl
third_off false b = refl

pub number_empty : (most : ℕ) (ds : List ℕ) → length ds ≡ 0 → number_at most ds ≡ None
number_empty most [] e = number_by most [] false refl
number_empty most (d ∷ ds) e = absurd (omega arith)

pub number_leading : (most : ℕ) (ds : List ℕ) → has_leading_zero ds ≡ true → number_at most ds ≡ None
number_leading most ds e =
    number_by most ds false
    (ap (λ x. nat_lt 0 (length ds) && not x && all_ascii_digits ds) e ∙ second_off (nat_lt 0 (length ds)) (all_ascii_digits ds))

pub number_odd : (most : ℕ) (ds : List ℕ) → all_ascii_digits ds ≡ false → number_at most ds ≡ None
number_odd most ds e =
    number_by most ds false
    (ap (λ x. nat_lt 0 (length ds) && not (has_leading_zero ds) && x) e ∙ third_off (nat_lt 0 (length ds)) (not (has_leading_zero ds)))

pub all_on : (a b d : Bool) → a ≡ true → b ≡ false → d ≡ true → (a && not b && d) ≡ true
all_on a b d e f g = rw (e, f, g) refl

pub number_is : (most : ℕ) (ds : List ℕ) (n i : ℕ) → 0 < length ds → has_leading_zero ds ≡ false → length ds ≤ i
    → all_ascii_digits (drop i ds) ≡ all_ascii_digits ds → min (value_after n (drop i ds)) most ≡ min (value_after 0 ds) most → n ≤ most
    → number_at most ds ≡ Some n
number_is most ds n i some leading le digits value fits =
    let first : nat_lt 0 (length ds) ≡ true = grind (arith, nat_tests) in
    let all : all_ascii_digits ds ≡ true = sym digits ∙ at_drop_all all_ascii_digits ds i le in
    let end : value_after n (drop i ds) ≡ n = at_drop_all (value_after n) ds i le in
    let same : min (value_after 0 ds) most ≡ n = sym value ∙ ap (λ v. min v most) end ∙ omega arith in
    number_by most ds true (all_on (nat_lt 0 (length ds)) (has_leading_zero ds) (all_ascii_digits ds) first leading all)
    ∙ ap (λ (v : ℕ). Some v) same

-- Lower caps

pub capped_number : (a b : ℕ) (ds : List ℕ) (n : ℕ) → b ≤ a → number_at a ds ≡ Some n → number_at b ds ≡ Some (min n b)
capped_number a b ds n le e =
    elim (cases_Bool (is_number ds)) [
      | inl is ↦
          let at_a : Some (min (value_after 0 ds) a) ≡ Some n = sym (number_by a ds true is) ∙ e in
          let same : min (value_after 0 ds) a ≡ n = cc in
          number_by b ds true is ∙ ap (λ (v : ℕ). Some v) (omega arith)
      | inr is_not ↦
          let at_a : None ≡ Some n = sym (number_by a ds false is_not) ∙ e in
          absurd (cc)
    ]

none_too : (a b : ℕ) (ds : List ℕ) → number_at a ds ≡ None → number_at b ds ≡ None
none_too a b ds e =
    elim (cases_Bool (is_number ds)) [
      | inl is ↦
          let at_a : Some (min (value_after 0 ds) a) ≡ None = sym (number_by a ds true is) ∙ e in
          absurd (cc)
      | inr is_not ↦ number_by b ds false is_not
    ]

pub uncapped_fails : (e : ParseFault) (a b : ℕ) (ds : List ℕ) → Fails e (number_at a ds) → Fails e (number_at b ds)
uncapped_fails unread.Form a b ds h = none_too a b ds h
uncapped_fails unread.Memory a b ds h = tt
