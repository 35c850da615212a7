use Rattle.std.proofs.Common.{◌≡◌, ◌<◌, length, false, get_or, ap, arith}
use Rattle.std.proofs.lemmas.List.Edits.{map_over_more}
use Rattle.wl_table_index.specs.declared.holdings.FurtherPlace.{FurtherPlace}
use Rattle.wl_table_index.specs.Clients.{granted_further}
use Rattle.wl_table_index.proofs.HoldingLemmas.{get-any}
use Rattle.wl_table_index.proofs.holdings.grant_further.Goals as goal

pub loop-other-preserved : goal.loop-other-preserved
loop-other-preserved c =
    let all = c.args.further.now.items in
    let l = c.loop-other in
    let none : FurtherPlace = record { number = 0; place = record { order = 0; is_held = false } } in
    let within : l.other-index < length all = omega (arith, c.loop-other-test.true, ap (λ xs. length xs) c.deref_mut-other-items.ensures.value) in
    rw c.granted.ensures (map_over_more (granted_further c.args.number c.args.order c.args.granted) all l.other-items l.other-index (get_or l.other-items l.other-index none) within l.invariant (get-any l.other-items l.other-index none))
