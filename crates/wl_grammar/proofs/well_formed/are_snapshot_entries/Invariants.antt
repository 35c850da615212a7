use Rattle.std.proofs.Common.{◌↔◌, drop}
use Rattle.std.specs.List.{AllByRecursion}
use Rattle.wl_grammar.specs.Grammar.{IsSnapshotEntry}
use Rattle.wl_grammar.proofs.well_formed.are_snapshot_entries.Given as goal

-- All entries are valid if and only if the remaining entries are valid.
abbrev pub invariant-loop-e : goal.invariant-loop-e
invariant-loop-e l = AllByRecursion IsSnapshotEntry l.entries ↔ AllByRecursion IsSnapshotEntry (drop l.e-index l.entries)
