use Rattle.std.proofs.Common.{◌≡◌, ◌*◌, map, drop}
use Rattle.std.specs.List.{range_with_len}
use Rattle.std.specs.Vec.Iter.{into_iter_items}
use Rattle.wl_limits.specs.declared.frames.TheConstants.{ENTRY_LIMIT}
use Rattle.wl_grammar.specs.PartCount.{part_count}
use Rattle.wl_broker.specs.Broker.{part_of}
use Rattle.wl_broker.proofs.answers.snapshot_parts.Given as goal

abbrev pub invariant-loop-part : goal.invariant-loop-part
invariant-loop-part l =
    (l.outs.items ≡ map (part_of l.generation l.tab l.number l.fn.entries.items) (range_with_len 0 l.part))
    × (into_iter_items l.rest ≡ drop (ENTRY_LIMIT * l.part) l.fn.entries.items) × (l.parts ≡ part_count l.fn.entries.items)
