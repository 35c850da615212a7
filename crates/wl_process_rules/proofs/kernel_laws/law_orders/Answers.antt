use Rattle.wl_process_rules.proofs.Keeping.{tells_the_first, waits_for_the_end, misses_what_runs, misses_all_that_runs, fails_for_good}
use Rattle.wl_process_rules.proofs.kernel_laws.law_orders.Goals as goal

pub returns-clause-first : goal.returns-clause-first
returns-clause-first c = tells_the_first

pub returns-clause-stop : goal.returns-clause-stop
returns-clause-stop c = waits_for_the_end

pub returns-clause-missed : goal.returns-clause-missed
returns-clause-missed c = misses_what_runs

pub returns-clause-all_missed : goal.returns-clause-all_missed
returns-clause-all_missed c = misses_all_that_runs

pub returns-clause-failure : goal.returns-clause-failure
returns-clause-failure c = fails_for_good
