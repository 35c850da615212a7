use Rattle.std.proofs.Common.{ap, sym, ◌∙◌}
use Rattle.wl_outbox.specs.Passes.{takes}
use Rattle.wl_outbox.proofs.KeptRule.{putting_role, puts_kept, learns}
use Rattle.wl_outbox.proofs.outbox.Outbox.put.Goals as goal

pub push_as-requires-clause-rule : goal.push_as-requires-clause-rule
push_as-requires-clause-rule g c =
    let role = putting_role _ c.pass.inside.takes c.pass.invariant.1 (ap takes c.pass.view_is ∙ c.requires.puts) in
    let of = c.requires.pass in
    let partition = c.requires.tab.0 ∙ sym (ap (λ p. p.view.partition) c.pass.view_is ∙ of.partition) in
    let tab = c.requires.tab.1 ∙ sym (ap (λ p. p.view.tab) c.pass.view_is ∙ of.tab) in
    (puts_kept _ _ _ _ role (partition, tab), learns _ _)
