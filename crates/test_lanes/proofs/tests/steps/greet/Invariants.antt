use Rattle.wl_broker.specs.Broker.{started}
use Rattle.test_lanes.proofs.tests.steps.greet.Given as goal

abbrev pub ghosts-greet_named-J-Ledger : goal.ghosts-greet_named-J-Ledger
ghosts-greet_named-J-Ledger g a = record { name = a.blank.name; parts = a.blank.parts }

abbrev pub ghosts-greet_named-J-Generation : goal.ghosts-greet_named-J-Generation
ghosts-greet_named-J-Generation g a = record { opening = started 2 a.list.now; limit = 1 }
