use Rattle.std.proofs.Common.{◌≡◌, take}
use Rattle.std.specs.List.{flat_map}
use Rattle.wl_tab.specs.TabTokens.{holdings_of}
use Rattle.wl_world_model.specs.World.{tab_of}
use Rattle.wl_world.proofs.components.Components.holdings.Given as goal

abbrev pub invariant-loop-tab : goal.invariant-loop-tab
invariant-loop-tab l = l.holdings.items ≡ flat_map (λ t. holdings_of (tab_of l.self t)) (take l.tab-index l.tab-items)
