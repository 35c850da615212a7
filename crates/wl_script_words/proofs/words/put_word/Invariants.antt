use Rattle.std.proofs.Common.{◌≡◌, ◌++◌, take}
use Rattle.std.specs.List.{flat_map}
use Rattle.wl_script_words.specs.Words.{escaped}
use Rattle.wl_script_words.proofs.words.put_word.Given as goal

abbrev pub invariant-loop-byte : goal.invariant-loop-byte
invariant-loop-byte l = l.out.items ≡ l.fn.out.items ++ flat_map escaped (take l.byte-index l.bytes)
