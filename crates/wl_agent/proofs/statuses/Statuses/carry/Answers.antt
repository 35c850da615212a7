use Rattle.std.proofs.Common.{ap, ◌∙◌, rules}
use Rattle.wl_agent.specs.Tab.{carried}
use Rattle.wl_agent.proofs.Carrying.{retained, counts-carried}
use Rattle.wl_agent.proofs.statuses.Statuses.carry.Goals as goal

pub invariant_of-self : goal.invariant_of-self
invariant_of-self c =
    let new = retained _ c.args.issued.now _ (λ k v b w f' t. search rules) c.self.inside.rows.entries c.retain.new.self.entries c.retain.ensures.filtered in
    counts-carried c.args.issued.now c.self.inside.rows.entries _ _ _ _ _ c.self.invariant new c.counts.ensures.live c.counts.ensures.kept

pub returns : goal.returns
returns c =
    retained _ c.args.issued.now _ (λ k v b w f' t. search rules) c.self.inside.rows.entries c.retain.new.self.entries c.retain.ensures.filtered ∙ ap (carried c.args.issued.now) c.self.view_is
