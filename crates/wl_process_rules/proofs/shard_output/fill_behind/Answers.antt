use Rattle.std.proofs.Common.{[], ◌∷◌, ◌++◌, Some, ap, ◌∙◌, arith}
use Rattle.wl_process_rules.specs.ShardOutput.{filled}
use Rattle.wl_process_rules.proofs.Releasing.{fills_longer, fills_end}
use Rattle.wl_process_rules.proofs.shard_output.fill_behind.Goals as goal

pub loop-place-preserved : goal.loop-place-preserved
loop-place-preserved c = record {
  places = ap (filled c.args.index c.args.bytes.now.items) c.push_back_reserved.ensures.items ∙ fills_longer _ _ _ (omega arith) ∙ c.loop-place.invariant.places;
  count = omega arith;
  room = omega arith;
}

pub returns-clause-ok : goal.returns-clause-ok
returns-clause-ok c =
    let end = fills_end c.loop-place.places.items c.args.index c.args.bytes.now.items (omega arith) in
    c.push_back_reserved-2.ensures.items ∙ ap (λ b. c.loop-place.places.items ++ Some b ∷ []) c.taken_from.ensures.taken ∙ end ∙ c.loop-place.invariant.places
