use Rattle.std.proofs.Common.{◌↔◌, ◌≤◌, drop}
use Rattle.std.specs.List.{AllByRecursion}
use Rattle.wl_grammar.specs.Grammar.{IsPlace, TabsRiseFrom}
use Rattle.wl_grammar.proofs.well_formed.are_places.Given as goal

-- All places are valid if and only if the remaining places are valid.
abbrev pub invariant-loop-tab : goal.invariant-loop-tab
invariant-loop-tab l =
    (1 ≤ l.least)
    × ((AllByRecursion IsPlace l.places × TabsRiseFrom 1 l.places)
    ↔ (AllByRecursion IsPlace (drop l.tab-index l.places) × TabsRiseFrom l.least (drop l.tab-index l.places)))
