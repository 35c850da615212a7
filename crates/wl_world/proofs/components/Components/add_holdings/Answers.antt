use Rattle.std.proofs.Common.{append-nil, sym}
use Rattle.wl_tab.proofs.TabTables.{find_there, find_absent}
use Rattle.wl_world.proofs.components.Components.add_holdings.Goals as goal

pub returns-in-Some : goal.returns-in-Some
returns-in-Some c = rw (← c.self.view_is, find_there c.args.tab c.self.inside.tabs.entries c.in-Some.ensures.value) c.add_holdings.ensures

pub returns-in-None : goal.returns-in-None
returns-in-None c = rw (← c.self.view_is, find_absent c.args.tab c.self.inside.tabs.entries c.in-None.ensures.value) (sym (append-nil c.args.holdings.now.items))
