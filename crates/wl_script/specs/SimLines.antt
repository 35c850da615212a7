-- The meaning of a script line.
use Rattle.std.specs.Prelude.{ℕ, ◌==◌, ◌&&◌, List, [], ◌∷◌, length, Option, Some, None, bytes_eq, codes, if◌then◌else◌}
use Rattle.wl_draft.specs.declared.mode.Mode.{Mode}
use Rattle.wl_script_words.specs.Words.{unescaped}
use Rattle.wl_script_words.specs.WordReading.{◌>>=◌, line_words_at, one, two, three, none, most_number, number_at, tab_at, mode_at, name_at, url_at}
use Rattle.wl_script.specs.declared.sim_line.SimLine.{SimLine}
use Rattle.wl_script.specs.declared.sim_line.SimLine.TheVariants as line
use Rattle.wl_world_model.specs.declared.event.Event.TheVariants as event
use Rattle.wl_world_model.specs.declared.event.Forged.{Forged}
use Rattle.wl_script.specs.Forgeries.{forged_at}
use Rattle.wl_limits.specs.declared.tabs.TheConstants.{LAST_NUMBER}

-- The words after the first

-- The number in a message's name, which is `m` followed by the number.
unfoldable pub message_name_at : List ℕ → Option ℕ
message_name_at [] = None
message_name_at (b ∷ bs) = if b == 109 then number_at most_number bs else None

-- Words T: a tab.
unfoldable pub tab_alone : List (List ℕ) → Option ℕ
tab_alone words = one words >>= tab_at

-- Words T URL: a tab and its page.
unfoldable pub tab_and_url : List (List ℕ) → Option (ℕ × List ℕ)
tab_and_url words = do
  w ← two words
  t ← tab_at w.0
  url ← url_at w.1
  Some (t, url)

-- Words T TOP URL: a tab, the top-level page and the tab's page.
unfoldable pub tab_and_urls : List (List ℕ) → Option (ℕ × List ℕ × List ℕ)
tab_and_urls words = do
  w ← three words
  t ← tab_at w.0
  top ← url_at w.1
  url ← url_at w.2
  Some (t, top, url)

-- Words T MODE NAME: a tab, a lock mode and a lock name.
unfoldable pub tab_mode_name : List (List ℕ) → Option (ℕ × Mode × List ℕ)
tab_mode_name words = do
  w ← three words
  t ← tab_at w.0
  mode ← mode_at w.1
  name ← name_at w.2
  Some (t, mode, name)

-- Words T NAME: a tab and a name.
unfoldable pub tab_and_name : List (List ℕ) → Option (ℕ × List ℕ)
tab_and_name words = do
  w ← two words
  t ← tab_at w.0
  name ← name_at w.1
  Some (t, name)

-- Words T K or T C: a tab with a command number or a channel number.
unfoldable pub tab_and_number : ℕ → List (List ℕ) → Option (ℕ × ℕ)
tab_and_number most words = do
  w ← two words
  t ← tab_at w.0
  n ← number_at most w.1
  Some (t, n)

-- Words T C DATA: a tab, a channel number and data.
unfoldable pub tab_channel_data : List (List ℕ) → Option (ℕ × ℕ × List ℕ)
tab_channel_data words = do
  w ← three words
  t ← tab_at w.0
  c ← number_at most_number w.1
  bytes ← unescaped w.2
  Some (t, c, bytes)

-- Words T HEX: a tab and a forged message.
unfoldable pub tab_and_forged : List (List ℕ) → Option (ℕ × Forged)
tab_and_forged words = do
  w ← two words
  t ← tab_at w.0
  forged ← forged_at w.1
  Some (t, forged)

-- Any number of tabs.
unfoldable pub tabs_at : List (List ℕ) → Option (List ℕ)
tabs_at [] = Some []
tabs_at (word ∷ words) = do
  t ← tab_at word
  ts ← tabs_at words
  Some (t ∷ ts)

-- The words after `start`: none, `-`, or a list of tabs.
unfoldable pub start_at : List (List ℕ) → Option SimLine
start_at [] = Some line.StartAll
start_at (word ∷ words) =
    if bytes_eq word (codes "-") && length words == 0 then Some (line.Happens (event.Start []))
    else (tabs_at (word ∷ words) >>= λ ts. Some (line.Happens (event.Start ts)))

-- Lines

-- A line on channels, compromised tabs or holdings, by its first word.
unfoldable pub channel_line : List ℕ → List (List ℕ) → Option SimLine
channel_line verb words =
    if bytes_eq verb (codes "channel") then (tab_and_name words >>= λ x. Some (line.Happens (event.Channel x.0 x.1)))
    else if bytes_eq verb (codes "post") then (tab_channel_data words >>= λ x. Some (line.Happens (event.Post x.0 x.1 x.2)))
    else if bytes_eq verb (codes "read") then (tab_and_number most_number words >>= λ x. Some (line.Happens (event.Read x.0 x.1)))
    else if bytes_eq verb (codes "close") then (tab_and_number most_number words >>= λ x. Some (line.Happens (event.Close x.0 x.1)))
    else if bytes_eq verb (codes "corrupt") then (tab_alone words >>= λ t. Some (line.Happens (event.Corrupt t)))
    else if bytes_eq verb (codes "forge") then (tab_and_forged words >>= λ x. Some (line.Happens (event.Forge x.0 x.1)))
    else if bytes_eq verb (codes "show") then (none words >>= λ x. Some line.Show)
    else None

-- A line on locks and messages, or any of the above.
unfoldable pub lock_line : List ℕ → List (List ℕ) → Option SimLine
lock_line verb words =
    if bytes_eq verb (codes "ask") then (tab_mode_name words >>= λ x. Some (line.Happens (event.Ask x.0 x.1 x.2)))
    else if bytes_eq verb (codes "probe") then (tab_mode_name words >>= λ x. Some (line.Happens (event.Probe x.0 x.1 x.2)))
    else if bytes_eq verb (codes "query") then (tab_alone words >>= λ t. Some (line.Happens (event.Query t)))
    else if bytes_eq verb (codes "abort") then (tab_and_number LAST_NUMBER words >>= λ x. Some (line.Happens (event.Abort x.0 x.1)))
    else if bytes_eq verb (codes "release") then (tab_and_number LAST_NUMBER words >>= λ x. Some (line.Happens (event.Release x.0 x.1)))
    else if bytes_eq verb (codes "resend") then (tab_alone words >>= λ t. Some (line.Happens (event.Resend t)))
    else if bytes_eq verb (codes "deliver") then (one words >>= message_name_at >>= λ n. Some (line.Deliver n))
    else channel_line verb words

-- A line on tabs and the broker, or any of the above.
unfoldable pub line_by_verb : List ℕ → List (List ℕ) → Option SimLine
line_by_verb verb words =
    if bytes_eq verb (codes "open") then (tab_and_url words >>= λ x. Some (line.Open x.0 x.1))
    else if bytes_eq verb (codes "open2") then (tab_and_urls words >>= λ x. Some (line.OpenTwo x.0 x.1 x.2))
    else if bytes_eq verb (codes "start") then start_at words
    else if bytes_eq verb (codes "stop") then (none words >>= λ x. Some (line.Happens event.Stop))
    else if bytes_eq verb (codes "hello") then (tab_alone words >>= λ t. Some (line.Happens (event.Hello t)))
    else if bytes_eq verb (codes "kill") then (tab_alone words >>= λ t. Some (line.Happens (event.Kill t)))
    else if bytes_eq verb (codes "tell") then (tab_alone words >>= λ t. Some (line.Happens (event.Tell t)))
    else lock_line verb words

-- A line without words is blank.
unfoldable pub line_of_words : List (List ℕ) → Option SimLine
line_of_words [] = Some line.Blank
line_of_words (word ∷ words) = line_by_verb word words

unfoldable pub line_at : List ℕ → Option SimLine
line_at text = line_words_at text >>= line_of_words
