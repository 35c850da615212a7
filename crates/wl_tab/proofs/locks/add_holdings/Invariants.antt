use Rattle.std.proofs.Common.{◌≡◌, ◌++◌, take}
use Rattle.std.specs.List.{filter_map}
use Rattle.wl_tab.specs.TabTokens.{holding_in}
use Rattle.wl_tab.proofs.locks.add_holdings.Given as goal

abbrev pub invariant-loop-number : goal.invariant-loop-number
invariant-loop-number l = l.holdings.items ≡ l.initial.holdings.items ++ filter_map (holding_in l.tab) (take l.number-index l.kept)
