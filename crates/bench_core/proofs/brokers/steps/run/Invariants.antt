use Rattle.std.proofs.Common.{[]}
use Rattle.wl_broker.specs.Broker.{started}
use Rattle.bench_core.proofs.brokers.steps.run.Given as goal

abbrev pub ghosts-run_named-J-Ledger : goal.ghosts-run_named-J-Ledger
ghosts-run_named-J-Ledger g a = record { name = a.blank.name; parts = a.blank.parts }

abbrev pub ghosts-run_named-J-Generation : goal.ghosts-run_named-J-Generation
ghosts-run_named-J-Generation g a = record { opening = started 1 []; limit = 4294967295 }
