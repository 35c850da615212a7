use Rattle.std.proofs.Common.{◌≡◌, ◌++◌, take}
use Rattle.std.specs.List.{flat_map}
use Rattle.wl_script.specs.Played.{holding_text}
use Rattle.wl_script.proofs.play.put_all_holdings.Given as goal

abbrev pub invariant-loop-holding : goal.invariant-loop-holding
invariant-loop-holding l = l.out.items ≡ l.fn.out.items ++ flat_map holding_text (take l.holding-index l.holdings)
