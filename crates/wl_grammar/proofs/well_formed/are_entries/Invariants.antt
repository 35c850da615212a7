use Rattle.std.proofs.Common.{◌↔◌, drop}
use Rattle.std.specs.List.{AllByRecursion}
use Rattle.wl_grammar.specs.Grammar.{IsEntry, RiseFrom}
use Rattle.wl_grammar.proofs.well_formed.are_entries.Given as goal

-- All entries are valid if and only if the remaining entries are valid.
abbrev pub invariant-loop-e : goal.invariant-loop-e
invariant-loop-e l =
    (AllByRecursion IsEntry l.entries × RiseFrom 0 l.entries)
    ↔ (AllByRecursion IsEntry (drop l.e-index l.entries) × RiseFrom l.least (drop l.e-index l.entries))
