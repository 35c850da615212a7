use Rattle.std.proofs.Common.{◌≡◌, true, arith}
use Rattle.std.proofs.lemmas.Grind.{common_steps}
use Rattle.wl_draft.specs.Tables.{find}
use Rattle.wl_broadcast.specs.Channels.{opened}
use Rattle.wl_tab.specs.Tabs.{channels_in}
use Rattle.wl_world_model.specs.World.{lives}
use Rattle.wl_world.proofs.calls.LivingRows.{channels-there, channels-after}
use Rattle.wl_world.proofs.components.Components.open_channel.Goals as goal

pub open_at-requires : goal.open_at-requires
open_at-requires c =
    let live : lives c.args.self.now c.args.tab ≡ true = grind (arith, common_steps) in
    record { there = channels-there c.self.inside.tabs.entries c.self.inside.channels.entries c.self.inside.supervisor c.self.inside.bag c.self.inside.corrupt.items c.args.self.now c.self.view_is c.args.tab live c.self.invariant }

pub invariant_of-self-2 : goal.invariant_of-self-2
invariant_of-self-2 c =
    let row = channels_in c.args.tab (find c.self.inside.channels.entries c.args.tab) in
    channels-after c.open_at.result c.self.inside.supervisor.kernel c.args.tab (opened c.args.name.now row) c.self.inside.tabs.entries c.self.inside.channels.entries _ c.open_at.ensures.ok c.open_at.ensures.err (c.self.invariant.own c.args.tab) c.self.invariant
