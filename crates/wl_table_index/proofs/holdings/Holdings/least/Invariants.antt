use Rattle.std.proofs.Common.{take}
use Rattle.std.specs.Prelude.{◌||◌}
use Rattle.wl_table_index.specs.Clients.{is_latest, is_further, IsLeast}
use Rattle.wl_table_index.proofs.holdings.Holdings.least.Given as goal

abbrev pub invariant-loop-other : goal.invariant-loop-other
invariant-loop-other l =
    IsLeast (λ o. is_latest l.fn.place o l.is_held || is_further (take l.other-index l.self.further.items) l.number o l.is_held) l.least
