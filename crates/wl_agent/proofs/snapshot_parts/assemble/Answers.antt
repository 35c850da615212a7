use Rattle.wl_agent.specs.SnapshotParts.{held_in, pending_in}
use Rattle.wl_agent.proofs.PartsTogether.{gathers}
use Rattle.wl_agent.proofs.snapshot_parts.assemble.Goals as goal

pub loop-entries-init : goal.loop-entries-init
loop-entries-init c =
    let left = c.into_iter-entries-iterator.ensures.into_iter_gives in
    let values = c.values-entries-items.ensures.rest in
    (gathers held_in _ _ _ c.args.came.now.entries c.new-held.ensures.items left values, gathers pending_in _ _ _ c.args.came.now.entries c.new-pending.ensures.items left values)
