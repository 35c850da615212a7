-- Counter files, which tabs increment.
use Rattle.std.specs.Prelude.{◌≡◌, ◌≢◌, ℕ, ◌<◌, List, Option, Some, None, decimal}
use Rattle.wl_script_words.specs.WordPrinting.{line}
use Rattle.wl_process_rules.specs.declared.counter_file.TheConstants.{COUNT_LIMIT}

-- The text of a count: its decimal, without a leading zero, and one line feed.
unfoldable pub count_text : ℕ → List ℕ
count_text n = line (decimal n)

-- The count that a text holds: the number below the limit with this text, if there is one.
abbrev pub IsCountOf : List ℕ → Option ℕ → Type 0
IsCountOf text (Some n) = (n < COUNT_LIMIT) × (text ≡ count_text n)
IsCountOf text None = (n : ℕ) → n < COUNT_LIMIT → text ≢ count_text n

-- Law

-- Reading the text of a count returns the count.
abbrev pub ReadsBack : Type 0
ReadsBack = (n : ℕ) (read : Option ℕ) → n < COUNT_LIMIT → IsCountOf (count_text n) read → read ≡ Some n
