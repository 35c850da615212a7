use Rattle.wl_script_words.proofs.WordLemmas.{reads_back, one_spelling}
use Rattle.wl_script_words.proofs.laws.law_words.Goals as goal

pub returns : goal.returns
returns c = record { reads_back = reads_back; one_spelling = one_spelling }
