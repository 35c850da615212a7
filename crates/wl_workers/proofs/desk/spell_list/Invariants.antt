use Rattle.std.proofs.Common.{◌≡◌, ℕ, List, ◌++◌}
use Rattle.std.specs.List.{AllByRecursion}
use Rattle.std.specs.Vec.Iter.{into_iter_items}
use Rattle.wl_grammar.specs.Grammar.{IsAddressed}
use Rattle.wl_workers.specs.DeskSteps.{spelled}
use Rattle.wl_workers.proofs.desk.spell_list.Given as goal

-- The bytes appended and the encodings of the remaining frames are the full encoding.
abbrev pub invariant-loop-addressed : goal.invariant-loop-addressed
invariant-loop-addressed l = record {
  spellable : AllByRecursion IsAddressed (into_iter_items l.addressed-iterator);
  output : List ℕ;
  appended : l.bytes.items ≡ l.fn.bytes.items ++ output;
  output_is : output ++ spelled (into_iter_items l.addressed-iterator) ≡ spelled l.fn.listed.items;
}
