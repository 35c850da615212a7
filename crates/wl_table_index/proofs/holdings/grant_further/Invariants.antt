use Rattle.std.proofs.Common.{◌≡◌, ◌++◌, map, take, drop}
use Rattle.wl_table_index.specs.Clients.{granted_further}
use Rattle.wl_table_index.proofs.holdings.grant_further.Given as goal

abbrev pub invariant-loop-other : goal.invariant-loop-other
invariant-loop-other l =
    let all = l.fn.further.items in
    l.other-items ≡ map (granted_further l.number l.order l.granted) (take l.other-index all) ++ drop l.other-index all
