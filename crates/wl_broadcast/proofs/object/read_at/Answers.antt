use Rattle.std.proofs.Common.{sym, ap, ◌∙◌}
use Rattle.wl_broadcast.specs.Channels.{Object, first_of, rest_of}
use Rattle.wl_broadcast.specs.OpenObjects.{seen}
use Rattle.wl_broadcast.proofs.Numbered.{inbox_here, changed_here}
use Rattle.wl_broadcast.proofs.object.read_at.Goals as goal

pub returns-clause-oldest : goal.returns-clause-oldest
returns-clause-oldest c =
    let o = c.index-objects-number in
    c.read.ensures.oldest ∙ ap (λ x. first_of x.inbox.items) (sym o.is) ∙ ap first_of (sym (inbox_here c.args.objects.now c.args.number o.result c.requires o.is))

pub returns-clause-rest : goal.returns-clause-rest
returns-clause-rest c =
    let o = c.index-objects-number in
    let read : Object → Object = λ o. record o { inbox = rest_of o.inbox } in
    changed_here read c.args.objects.now c.args.number o.result c.read.new.self c.requires o.is (c.read.ensures.rest ∙ ap (λ x. read (seen x)) (sym o.is))
