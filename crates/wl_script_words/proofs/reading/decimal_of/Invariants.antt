use Rattle.std.proofs.Common.{◌≡◌, ◌≤◌, min, drop}
use Rattle.std.specs.Str.{all_ascii_digits}
use Rattle.wl_script_words.specs.WordReading.{value_after, most_number}
use Rattle.wl_script_words.proofs.reading.decimal_of.Given as goal

-- The number so far, continued with the remaining digits, gives the value of the whole word.
abbrev pub invariant-loop-digit : goal.invariant-loop-digit
invariant-loop-digit l =
    record {
      value : min (value_after l.number (drop l.digit-index l.word)) most_number ≡ min (value_after 0 l.word) most_number;
      digits : all_ascii_digits (drop l.digit-index l.word) ≡ all_ascii_digits l.word;
      fits : l.number ≤ most_number;
    }
