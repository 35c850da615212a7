use Rattle.std.proofs.Common.{◌≡◌, ◌++◌, length, take}
use Rattle.std.specs.List.{flat_map}
use Rattle.wl_grammar.specs.Grammar.{u16, place}
use Rattle.wl_grammar.proofs.encoding.put_places.Given as goal

abbrev pub invariant-loop-p : goal.invariant-loop-p
invariant-loop-p l = l.out.items ≡ l.fn.out.items ++ u16 (length l.places) ++ flat_map place (take l.p-index l.places)
