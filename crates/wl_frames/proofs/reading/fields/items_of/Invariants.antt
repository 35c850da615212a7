use Rattle.std.proofs.Common.{◌≡◌, ◌-◌}
use Rattle.wl_frames.specs.Reading.{items_at}
use Rattle.wl_frames.proofs.Loop.{with_front}
use Rattle.wl_frames.proofs.reading.fields.items_of.Given as goal

abbrev pub invariant-loop : goal.invariant-loop
invariant-loop g l = with_front l.items.items (items_at g.T.Item.item_at (l.count - l.counter) l.rest) ≡ items_at g.T.Item.item_at l.count l.bytes
