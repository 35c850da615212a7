-- The meaning of a line of a tab's script.
use Rattle.std.specs.Prelude.{ℕ, List, [], ◌∷◌, Option, Some, None, bytes_eq, codes, if◌then◌else◌}
use Rattle.wl_draft.specs.declared.mode.Mode.{Mode}
use Rattle.wl_script_words.specs.WordReading.{◌>>=◌, line_words_at, one, two, none, number_at, mode_at, name_at, url_at}
use Rattle.wl_process_rules.specs.declared.tab_line.TabLine.{TabLine}
use Rattle.wl_process_rules.specs.declared.tab_line.TabLine.TheVariants as line
use Rattle.wl_limits.specs.declared.tabs.TheConstants.{LAST_NUMBER}

-- The words after the first

-- Words MODE NAME: a lock mode and a lock name.
unfoldable pub mode_and_name : List (List ℕ) → Option (Mode × List ℕ)
mode_and_name words = do
  w ← two words
  mode ← mode_at w.0
  name ← name_at w.1
  Some (mode, name)

-- Lines

-- A line, by its first word. A file path has no escapes.
unfoldable pub line_by_verb : List ℕ → List (List ℕ) → Option TabLine
line_by_verb verb words =
    if bytes_eq verb (codes "ask") then (mode_and_name words >>= λ x. Some (line.Ask x.0 x.1))
    else if bytes_eq verb (codes "probe") then (mode_and_name words >>= λ x. Some (line.Probe x.0 x.1))
    else if bytes_eq verb (codes "wait") then (one words >>= number_at LAST_NUMBER >>= λ n. Some (line.Wait n))
    else if bytes_eq verb (codes "release") then (one words >>= number_at LAST_NUMBER >>= λ n. Some (line.Release n))
    else if bytes_eq verb (codes "abort") then (one words >>= number_at LAST_NUMBER >>= λ n. Some (line.Abort n))
    else if bytes_eq verb (codes "query") then (none words >>= λ x. Some line.Query)
    else if bytes_eq verb (codes "add") then (one words >>= url_at >>= λ file. Some (line.Add file))
    else None

-- A line without words is blank.
unfoldable pub line_of_words : List (List ℕ) → Option TabLine
line_of_words [] = Some line.Blank
line_of_words (word ∷ words) = line_by_verb word words

unfoldable pub tab_line_at : List ℕ → Option TabLine
tab_line_at text = line_words_at text >>= line_of_words
