use Rattle.std.proofs.Common.{sym, ◌∙◌, arith}
use Rattle.std.proofs.lemmas.Bool.Decides.{nat_tests}
use Rattle.wl_script_words.specs.WordReading.{most_number}
use Rattle.wl_script_words.proofs.Numbers.{number_empty, number_leading, number_odd, number_is, more_digits, odd_digit, one_more}
use Rattle.wl_script_words.proofs.reading.decimal_of.Goals as goal

pub returns-then-is_empty : goal.returns-then-is_empty
returns-then-is_empty c = sym (number_empty most_number c.args.word.now (grind (arith, nat_tests)))

pub returns-then-has_leading_zero : goal.returns-then-has_leading_zero
returns-then-has_leading_zero c = sym (number_leading most_number c.args.word.now (sym c.has_leading_zero.ensures ∙ c.if-has_leading_zero.true))

pub returns-then-not-is_ascii_digit : goal.returns-then-not-is_ascii_digit
returns-then-not-is_ascii_digit c =
    sym
    (number_odd most_number c.args.word.now
    (sym c.loop-digit.invariant.digits
    ∙ odd_digit c.args.word.now c.loop-digit.digit-index c.loop-digit-test.true (sym c.is_ascii_digit.ensures.value ∙ c.if-not-is_ascii_digit.true)))

pub loop-digit-preserved : goal.loop-digit-preserved
loop-digit-preserved c =
    record {
      value =
          one_more most_number c.loop-digit.number c.saturating_add-number.result c.args.word.now c.loop-digit.digit-index c.loop-digit-test.true (omega arith)
          ∙ c.loop-digit.invariant.value;
      digits =
          sym (more_digits c.args.word.now c.loop-digit.digit-index c.loop-digit-test.true (sym c.is_ascii_digit.ensures.value ∙ c.if-not-is_ascii_digit.false))
          ∙ c.loop-digit.invariant.digits;
      fits = omega arith;
    }

pub returns : goal.returns
returns c =
    sym
    (number_is most_number c.args.word.now c.loop-digit.number c.loop-digit.digit-index (grind (arith, nat_tests)) (sym c.has_leading_zero.ensures ∙ c.if-has_leading_zero.false)
    c.loop-digit-test.false c.loop-digit.invariant.digits c.loop-digit.invariant.value c.loop-digit.invariant.fits)
