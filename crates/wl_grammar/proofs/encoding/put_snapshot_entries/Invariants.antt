use Rattle.std.proofs.Common.{◌≡◌, ◌++◌, length, take}
use Rattle.std.specs.List.{flat_map}
use Rattle.wl_grammar.specs.Grammar.{u16, snapshot_entry}
use Rattle.wl_grammar.proofs.encoding.put_snapshot_entries.Given as goal

abbrev pub invariant-loop-e : goal.invariant-loop-e
invariant-loop-e l = l.out.items ≡ l.fn.out.items ++ u16 (length l.entries) ++ flat_map snapshot_entry (take l.e-index l.entries)
