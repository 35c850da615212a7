use Rattle.std.proofs.Common.{sym, ap, ◌∙◌, arith}
use Rattle.wl_broadcast.specs.OpenObjects.{open_from}
use Rattle.wl_broadcast.proofs.Numbered.{open_is_refused, open_is_allowed}
use Rattle.wl_broadcast.proofs.channels.Channels.open_refusal.Goals as goal

pub returns-then-len-ge-CHANNEL_LIMIT : goal.returns-then-len-ge-CHANNEL_LIMIT
returns-then-len-ge-CHANNEL_LIMIT c =
    sym (open_is_refused c.args.name.now c.args.self.now c.self.inside.open_numbers.items (c.self.invariant.numbers ∙ ap (λ s. open_from 0 s.objects) c.self.view_is) (omega arith) (omega (arith, c.self.inside.open_numbers.ok.0)))

pub returns : goal.returns
returns c =
    sym (open_is_allowed c.args.name.now c.args.self.now c.self.inside.open_numbers.items (c.self.invariant.numbers ∙ ap (λ s. open_from 0 s.objects) c.self.view_is) (omega arith) (omega (arith, c.self.inside.open_numbers.ok.0)))
