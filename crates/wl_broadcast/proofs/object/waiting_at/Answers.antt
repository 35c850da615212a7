use Rattle.std.proofs.Common.{length, sym, ap, ◌∙◌}
use Rattle.wl_broadcast.proofs.Numbered.{inbox_here}
use Rattle.wl_broadcast.proofs.object.waiting_at.Goals as goal

pub returns : goal.returns
returns c =
    let o = c.index-objects-number in
    c.waiting.ensures ∙ ap length (sym (inbox_here c.args.objects.now c.args.number o.result c.requires o.is))
