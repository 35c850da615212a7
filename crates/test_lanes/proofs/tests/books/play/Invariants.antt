use Rattle.std.proofs.Common.{[]}
use Rattle.wl_broker.specs.Broker.{started}
use Rattle.test_lanes.proofs.tests.books.play.Given as goal

abbrev pub ghosts-play_named-J-Ledger : goal.ghosts-play_named-J-Ledger
ghosts-play_named-J-Ledger g a = record { name = a.blank.name; parts = a.blank.parts }

abbrev pub ghosts-play_named-J-Generation : goal.ghosts-play_named-J-Generation
ghosts-play_named-J-Generation g a = record { opening = started 1 []; limit = a.limit }
