use Rattle.std.proofs.Common.{◌≡◌, true, arith}
use Rattle.std.proofs.lemmas.Grind.{common_steps}
use Rattle.wl_draft.specs.Tables.{find}
use Rattle.wl_broadcast.specs.Channels.{closed_at, is_open_at}
use Rattle.wl_tab.specs.Tabs.{channels_in}
use Rattle.wl_world_model.specs.World.{lives}
use Rattle.wl_world.proofs.calls.LivingRows.{channels-there, channels-after_if}
use Rattle.wl_world.proofs.components.Components.close.Goals as goal

pub close_at-requires : goal.close_at-requires
close_at-requires c =
    let live : lives c.args.self.now c.args.tab ≡ true = grind (arith, common_steps) in
    record { there = channels-there c.self.inside.tabs.entries c.self.inside.channels.entries c.self.inside.supervisor c.self.inside.bag c.self.inside.corrupt.items c.args.self.now c.self.view_is c.args.tab live c.self.invariant }

pub invariant_of-self : goal.invariant_of-self
invariant_of-self c =
    let row = channels_in c.args.tab (find c.self.inside.channels.entries c.args.tab) in
    channels-after_if (is_open_at row.objects c.args.channel) c.self.inside.supervisor.kernel c.args.tab (closed_at c.args.channel row) c.self.inside.tabs.entries c.self.inside.channels.entries _ c.close_at.ensures.rows (c.self.invariant.own c.args.tab) c.self.invariant
