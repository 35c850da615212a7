use Rattle.std.proofs.Common.{[]}
use Rattle.wl_broker.specs.Broker.{started}
use Rattle.test_lanes.proofs.tests.steps.leave_out.Given as goal

abbrev pub ghosts-leave_out_named-J-Ledger : goal.ghosts-leave_out_named-J-Ledger
ghosts-leave_out_named-J-Ledger g a = record { name = a.blank.name; parts = a.blank.parts }

abbrev pub ghosts-leave_out_named-J-Generation : goal.ghosts-leave_out_named-J-Generation
ghosts-leave_out_named-J-Generation g a = record { opening = started 1 []; limit = 2 }
