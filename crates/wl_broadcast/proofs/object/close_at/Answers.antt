use Rattle.std.proofs.Common.{false, [], sym, ap, ◌∙◌}
use Rattle.wl_broadcast.specs.Channels.{Object}
use Rattle.wl_broadcast.specs.OpenObjects.{seen}
use Rattle.wl_broadcast.proofs.Numbered.{changed_here}
use Rattle.wl_broadcast.proofs.object.close_at.Goals as goal

pub returns : goal.returns
returns c =
    let o = c.index-objects-number in
    let close : Object → Object = λ o. record o { is_open = false; inbox = [] } in
    changed_here close c.args.objects.now c.args.number o.result c.close.new.self c.requires o.is (c.close.ensures ∙ ap (λ x. close (seen x)) (sym o.is))
