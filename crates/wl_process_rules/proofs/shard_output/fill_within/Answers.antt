use Rattle.std.proofs.Common.{not, ap, ◌∙◌}
use Rattle.wl_process_rules.proofs.Releasing.{fills_within, stays_within}
use Rattle.wl_process_rules.proofs.shard_output.fill_within.Goals as goal

pub returns-then-is_none-clause-places : goal.returns-then-is_none-clause-places
returns-then-is_none-clause-places c =
    let is = fills_within c.args.places.now.items c.args.index c.args.bytes.now.items c.index.result.now c.requires c.index.ensures (c.is_none.ensures ∙ ap not c.if-is_none.true) in
    rw c.taken_from.ensures.taken is

pub returns-else-is_none-clause-places : goal.returns-else-is_none-clause-places
returns-else-is_none-clause-places c =
    stays_within c.args.places.now.items c.args.index c.args.bytes.now.items c.index.result.now c.requires c.index.ensures (c.is_none.ensures ∙ ap not c.if-is_none.false)
