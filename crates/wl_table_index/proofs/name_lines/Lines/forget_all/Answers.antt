use Rattle.std.proofs.Common.{◌∙◌, sym}
use Rattle.wl_table_index.proofs.LeanLemmas.{idle-fewer}
use Rattle.wl_table_index.proofs.RoomLemmas.{named-more}
use Rattle.wl_table_index.proofs.name_lines.Lines.forget_all.Goals as goal

pub loop-row-preserved : goal.loop-row-preserved
loop-row-preserved c =
    let i = c.loop-row.invariant in
    record {
      lines = λ n. c.forget.ensures.lines n ∙ i.lines n;
      idle = λ n e. idle-fewer _ _ _ _ _ (sym (c.forget.ensures.idle n) ∙ e) (i.idle n) (named-more n c.args.rows.now c.loop-row.row-index c.row-item.result c.loop-row-test.true c.row-item.is);
    }
