-- The meaning of a line of the kernel's script.
use Rattle.std.specs.Prelude.{ℕ, nat_le, List, [], ◌∷◌, Option, Some, None, bytes_eq, codes, if◌then◌else◌}
use Rattle.wl_script_words.specs.WordReading.{◌>>=◌, line_words_at, one, two, three, none, most_number, number_at, tab_at, url_at}
use Rattle.wl_process_rules.specs.declared.kernel_line.TheConstants.{PAUSE_LIMIT}
use Rattle.wl_process_rules.specs.declared.kernel_line.KernelLine.{KernelLine}
use Rattle.wl_process_rules.specs.declared.kernel_line.KernelLine.TheVariants as line

-- The words after the first

-- Words URL FILE: a page and a file path, both without escapes.
unfoldable pub url_and_file : List (List ℕ) → Option (List ℕ × List ℕ)
url_and_file words = do
  w ← two words
  url ← url_at w.0
  file ← url_at w.1
  Some (url, file)

-- Words TOP URL FILE: a top-level page, a page and a file path.
unfoldable pub urls_and_file : List (List ℕ) → Option (List ℕ × List ℕ × List ℕ)
urls_and_file words = do
  w ← three words
  top ← url_at w.0
  url ← url_at w.1
  file ← url_at w.2
  Some (top, url, file)

-- The length of a pause, at most `PAUSE_LIMIT` milliseconds.
unfoldable pub pause_at : List ℕ → Option ℕ
pause_at word = do
  n ← number_at most_number word
  if nat_le n PAUSE_LIMIT then Some n else None

-- Lines

-- A line, by its first word.
unfoldable pub line_by_verb : List ℕ → List (List ℕ) → Option KernelLine
line_by_verb verb words =
    if bytes_eq verb (codes "start") then (none words >>= λ x. Some line.Start)
    else if bytes_eq verb (codes "open") then (url_and_file words >>= λ x. Some (line.Open x.0 x.1))
    else if bytes_eq verb (codes "open2") then (urls_and_file words >>= λ x. Some (line.OpenTwo x.0 x.1 x.2))
    else if bytes_eq verb (codes "stop") then (none words >>= λ x. Some line.Stop)
    else if bytes_eq verb (codes "kill") then (one words >>= tab_at >>= λ t. Some (line.Kill t))
    else if bytes_eq verb (codes "pause") then (one words >>= pause_at >>= λ n. Some (line.Pause n))
    else if bytes_eq verb (codes "join") then (none words >>= λ x. Some line.Join)
    else None

-- A line without words is blank.
unfoldable pub line_of_words : List (List ℕ) → Option KernelLine
line_of_words [] = Some line.Blank
line_of_words (word ∷ words) = line_by_verb word words

unfoldable pub kernel_line_at : List ℕ → Option KernelLine
kernel_line_at text = line_words_at text >>= line_of_words
