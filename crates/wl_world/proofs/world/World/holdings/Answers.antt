use Rattle.std.proofs.Common.{List, sym, subst, ◌∙◌}
use Rattle.wl_tab.specs.declared.holding.Holding.{Holding}
use Rattle.wl_world_model.specs.Machine.{Machine, AreHoldings, held_by_living}
use Rattle.wl_world_model.specs.World.{WorldState}
use Rattle.wl_world_model.proofs.own.ListedHoldings.{run-holdings}
use Rattle.wl_world.proofs.world.World.holdings.Goals as goal

pub returns-clause-exact : goal.returns-clause-exact
returns-clause-exact c =
    let all : AreHoldings c.self.inside.parts (held_by_living c.self.inside.parts) =
    subst (λ (w : WorldState). AreHoldings w (held_by_living w)) (sym c.self.invariant) (run-holdings c.self.inside.events.items) in
    let listed : AreHoldings c.self.inside.parts c.new.result =
    subst (λ (hs : List Holding). AreHoldings c.self.inside.parts hs) (sym (c.new.ensures ∙ c.in_ok-holdings.ensures)) all in
    subst (λ (m : Machine). AreHoldings m.world c.new.result) c.self.view_is listed
