use Rattle.wl_world.proofs.calls.LivingRows.{kills-rowed}
use Rattle.wl_world.proofs.components.Components.kill.Goals as goal

pub invariant_of-self : goal.invariant_of-self
invariant_of-self c =
    kills-rowed c.self.inside.supervisor c.kill-said.new.self c.args.tab c.self.inside.tabs.entries c.self.inside.channels.entries c.kill-said.ensures.kernel c.self.invariant
