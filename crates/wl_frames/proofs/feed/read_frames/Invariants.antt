use Rattle.std.proofs.Common.{◌≡◌, ◌++◌, length}
use Rattle.std.specs.List.{flat_map, AllByRecursion}
use Rattle.wl_grammar.specs.Grammar.{IsWellFormed, spelling}
use Rattle.wl_frames.proofs.feed.read_frames.Given as goal

-- The encodings of the frames so far, followed by the rest, are all the bytes.
abbrev pub invariant-loop-frame : goal.invariant-loop-frame
invariant-loop-frame l = record {
  spelled : flat_map spelling l.frames.items ++ l.rest ≡ l.bytes;
  well_formed : AllByRecursion IsWellFormed l.frames.items;
}

abbrev pub decreases-loop-frame : goal.decreases-loop-frame
decreases-loop-frame l = length l.rest
