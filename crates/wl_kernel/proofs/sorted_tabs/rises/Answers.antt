use Rattle.std.proofs.Common.{nat_lt, rules}
use Rattle.std.proofs.lemmas.Fn.{always_returns_same}
use Rattle.wl_kernel.proofs.RisingNumbers.{rises_adjacent}
use Rattle.wl_kernel.proofs.sorted_tabs.rises.Goals as goal

pub returns : goal.returns
returns c = rises_adjacent c.args.numbers.now _ (c.is_sorted_by.ensures.cases nat_lt (always_returns_same _ _ _ (λ a r f' k. search rules)))
