use Rattle.std.proofs.Common.{◌≡◌, drop}
use Rattle.wl_script_words.specs.WordReading.{texts}
use Rattle.wl_script.specs.SimLines.{tabs_at}
use Rattle.wl_script.proofs.Texts.{with_front}
use Rattle.wl_script.proofs.line_reading.tabs_of.Given as goal

abbrev pub invariant-loop-word : goal.invariant-loop-word
invariant-loop-word l = with_front l.tabs.items (tabs_at (texts (drop l.word-index l.words))) ≡ tabs_at (texts l.words)
