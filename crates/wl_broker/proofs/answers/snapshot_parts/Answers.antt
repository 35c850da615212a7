use Rattle.std.proofs.Common.{◌∙◌, ◌++◌, ◌∷◌, [], ap}
use Rattle.wl_grammar.specs.declared.frame.Downward.TheVariants as down
use Rattle.wl_grammar.proofs.Parts.{drop_part}
use Rattle.wl_broker.proofs.SnapshotParts.{part_more}
use Rattle.wl_broker.proofs.answers.snapshot_parts.Goals as goal

pub loop-part-preserved : goal.loop-part-preserved
loop-part-preserved c = (
  c.in_ok-push-2.ensures.items
      ∙ ap (λ s. c.loop-part.outs.items ++ record { tab = c.args.tab; inner = down.Snapshot s } ∷ []) c.in_ok-boxed.ensures
      ∙ part_more c.args.generation c.args.tab c.args.number c.args.entries.items c.loop-part.part _ _ _ _ c.loop-part.invariant.0 (c.new-entries.ensures ∙ c.in_ok-next_part.ensures.part) c.loop-part.invariant.1 c.loop-part.invariant.2,
  drop_part c.loop-part.part _ _ _ c.loop-part.invariant.1 c.in_ok-next_part.ensures.rest,
  c.loop-part.invariant.2,
)
