use Rattle.wl_process_rules.proofs.Owing.{owes_what_is_missing, owes_the_latest, owes_the_last}
use Rattle.wl_process_rules.proofs.kernel_laws.law_owed_hello.Goals as goal

pub returns-clause-missing : goal.returns-clause-missing
returns-clause-missing c = owes_what_is_missing

pub returns-clause-latest : goal.returns-clause-latest
returns-clause-latest c = owes_the_latest

pub returns-clause-last : goal.returns-clause-last
returns-clause-last c = owes_the_last
