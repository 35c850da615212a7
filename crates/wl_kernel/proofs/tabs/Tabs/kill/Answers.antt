use Rattle.std.proofs.Common.{◌≡◌, List, Some, ap, ◌∙◌, arith}
use Rattle.wl_kernel.specs.Kernel.{KernelState, OpenedTab, killed}
use Rattle.wl_kernel.specs.TableIndexes.{all_seen, place_in}
use Rattle.wl_kernel.proofs.OpenedTabs.{row_below, row_read, has_home_at}
use Rattle.wl_kernel.proofs.Consistency.{IsBuried, seen-ended, consistent-ended}
use Rattle.wl_kernel.proofs.tabs.Tabs.kill.Goals as goal

pub index_mut-row-requires : goal.index_mut-row-requires
index_mut-row-requires c =
    let t = c.args.tab in
    let h = c.self.inside.homes in
    let rows = c.self.inside.rows.items in
    let i = c.in_ok-place.place in
    let place : place_in (all_seen h rows) t ≡ Some i = ap (λ (k : KernelState). place_in k.opened t) c.self.view_is ∙ c.in_ok-place.ensures.place in
    let lt = row_below h rows t i place in
    omega (arith, lt, c.self.inside.rows.ok.0)

pub leave-requires : goal.leave-requires
leave-requires c =
    let t = c.args.tab in
    let h = c.self.inside.homes in
    let rows = c.self.inside.rows.items in
    let i = c.in_ok-place.place in
    let r = c.index_mut-row.result.now in
    let place : place_in (all_seen h rows) t ≡ Some i = ap (λ (k : KernelState). place_in k.opened t) c.self.view_is ∙ c.in_ok-place.ensures.place in
    has_home_at h rows i r (row_read h rows t i r place c.index_mut-row.ensures.value).0 c.self.invariant.have_homes

pub invariant_of-self : goal.invariant_of-self
invariant_of-self c =
    let t = c.args.tab in
    let h = c.self.inside.homes in
    let rows = c.self.inside.rows.items in
    let i = c.in_ok-place.place in
    let r = c.index_mut-row.result.now in
    let place : place_in (all_seen h rows) t ≡ Some i = ap (λ (k : KernelState). place_in k.opened t) c.self.view_is ∙ c.in_ok-place.ensures.place in
    let buried : IsBuried rows h t i r c.leave.new.self =
    record { placed = place; there = (row_read h rows t i r place c.index_mut-row.ensures.value).0; leaves = c.leave.ensures.left; kept = c.leave.ensures.kept } in
    consistent-ended rows c.self.inside.places.entries h c.self.inside.living.items c.self.inside.generation c.self.inside.last t i r c.leave.new.self c.remove_sorted.new.numbers.items
    c.self.invariant buried c.remove_sorted.ensures

pub returns-clause-ok : goal.returns-clause-ok
returns-clause-ok c =
    let t = c.args.tab in
    let h = c.self.inside.homes in
    let rows = c.self.inside.rows.items in
    let i = c.in_ok-place.place in
    let r = c.index_mut-row.result.now in
    let place : place_in (all_seen h rows) t ≡ Some i = ap (λ (k : KernelState). place_in k.opened t) c.self.view_is ∙ c.in_ok-place.ensures.place in
    let buried : IsBuried rows h t i r c.leave.new.self =
    record { placed = place; there = (row_read h rows t i r place c.index_mut-row.ensures.value).0; leaves = c.leave.ensures.left; kept = c.leave.ensures.kept } in
    let state : List OpenedTab → KernelState = λ os. record { opened = os; generation = c.self.inside.generation; last = c.self.inside.last } in
    ap state (seen-ended rows h t i r c.leave.new.self c.self.invariant.tabs c.self.invariant.have_homes buried) ∙ ap (killed t) c.self.view_is
