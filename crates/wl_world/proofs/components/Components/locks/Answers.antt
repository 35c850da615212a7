use Rattle.std.proofs.Common.{refl, sym, ap, ◌∙◌}
use Rattle.std.specs.Option.{is_some}
use Rattle.std.proofs.lemmas.Bool.{false≢true}
use Rattle.wl_tab.proofs.TabTables.{find_there, find_absent}
use Rattle.wl_world.proofs.calls.LivingRows.{tab-there}
use Rattle.wl_world.proofs.components.Components.locks.Goals as goal

pub unreachable-requires : goal.unreachable-requires
unreachable-requires c =
    let there = tab-there c.self.inside.tabs.entries c.self.inside.channels.entries c.self.inside.supervisor c.self.inside.bag c.self.inside.corrupt.items c.args.self.now c.self.view_is c.args.tab c.requires c.self.invariant in
    false≢true (sym (ap is_some (find_absent c.args.tab c.self.inside.tabs.entries c.in_default.ensures.value)) ∙ there)

pub returns : goal.returns
returns c = rw (← c.self.view_is, find_there c.args.tab c.self.inside.tabs.entries c.in-Some.ensures.value) refl
