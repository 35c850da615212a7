use Rattle.wl_process_rules.proofs.CountLemmas.{reads_back}
use Rattle.wl_process_rules.proofs.script_laws.law_counts.Goals as goal

pub returns : goal.returns
returns c = reads_back
