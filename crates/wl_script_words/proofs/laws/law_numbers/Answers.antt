use Rattle.wl_script_words.proofs.Decimals.{reads_numbers_back, one_decimal}
use Rattle.wl_script_words.proofs.laws.law_numbers.Goals as goal

pub returns : goal.returns
returns c = record { reads_back = reads_numbers_back; one_decimal = one_decimal }
