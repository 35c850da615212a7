use Rattle.std.proofs.Common.{sym, ap, ◌∙◌}
use Rattle.wl_broadcast.proofs.Numbered.{name_here}
use Rattle.wl_broadcast.proofs.object.name_at.Goals as goal

pub returns : goal.returns
returns c =
    let o = c.index-objects-number in
    ap (λ x. x.name) (sym o.is) ∙ sym (name_here c.args.objects.now c.args.number o.result c.requires o.is)
