use Rattle.std.proofs.Common.{◌≡◌, true, refl, ap, ◌∙◌, arith}
use Rattle.std.proofs.lemmas.Grind.{common_steps}
use Rattle.wl_world_model.specs.World.{WorldState, lives}
use Rattle.wl_world.proofs.calls.LivingRows.{tabs-kept, tab-there}
use Rattle.wl_world.proofs.calls.ReportCalls.{hears-sends}
use Rattle.wl_world.proofs.components.Components.hear.Goals as goal

pub delivered-requires : goal.delivered-requires
delivered-requires c =
    let live : lives c.args.self.now c.args.addressed.now.tab ≡ true = grind (arith, common_steps) in
    record { there = tab-there c.self.inside.tabs.entries c.self.inside.channels.entries c.self.inside.supervisor c.self.inside.bag c.self.inside.corrupt.items c.args.self.now c.self.view_is c.args.addressed.now.tab live c.self.invariant }

pub reported-requires : goal.reported-requires
reported-requires c =
    let live : lives c.args.self.now c.args.addressed.now.tab ≡ true = grind (arith, common_steps) in
    ap (λ (w : WorldState). lives w c.args.addressed.now.tab) c.self.view_is ∙ live

pub invariant_of-self : goal.invariant_of-self
invariant_of-self c = tabs-kept c.self.inside.supervisor.kernel c.self.inside.tabs.entries c.delivered.new.tabs.entries c.self.inside.channels.entries c.delivered.ensures.rows c.self.invariant

pub invariant_of-self-2 : goal.invariant_of-self-2
invariant_of-self-2 c = tabs-kept c.self.inside.supervisor.kernel c.self.inside.tabs.entries c.delivered.new.tabs.entries c.self.inside.channels.entries c.delivered.ensures.rows c.self.invariant

pub returns-clause-sends : goal.returns-clause-sends
returns-clause-sends c =
    let live : lives c.args.self.now c.args.addressed.now.tab ≡ true = grind (arith, common_steps) in
    c.in_ok-sends.ensures
    ∙ hears-sends c.self.inside.tabs.entries c.self.inside.channels.entries c.self.inside.supervisor c.self.inside.bag c.self.inside.corrupt.items c.args.self.now c.self.view_is c.args.addressed.now.tab _ _ _ _ live refl c.in_ok-said.ensures.tabs c.in_ok-said.ensures.said
