use Rattle.std.proofs.Common.{◌≡◌, Option, Some, None, sym, ap, ◌∙◌, subst, arith}
use Rattle.wl_kernel.specs.Kernel.{KernelState, OpenedTab, tab_of, is_of, living_in, living_of, number_beside, partition_number}
use Rattle.wl_kernel.specs.TableIndexes.{seen_in, seen, all_seen, partition_at, partition_beside, partition_of, AreTabs}
use Rattle.wl_kernel.proofs.OpenedTabs.{place_got, row_below, row_read, not_placed, has_home_at}
use Rattle.wl_kernel.proofs.KeptHomes.{home_is}
use Rattle.wl_kernel.proofs.WellFormed.{tab_from_one, number_from_one}
use Rattle.wl_kernel.proofs.tabs.Tabs.found.Goals as goal

pub index-row-requires : goal.index-row-requires
index-row-requires c =
    let t = c.args.tab in
    let h = c.self.inside.homes in
    let rows = c.self.inside.rows.items in
    let place = place_got (all_seen h rows) c.self.inside.places.entries t (Some c.in_ok-place.place.now) c.self.invariant.placed (sym c.in_ok-place.ensures.value) in
    let lt = row_below h rows t c.in_ok-place.place.now place in
    omega (arith, lt, c.self.inside.rows.ok.0)

pub at-home-requires : goal.at-home-requires
at-home-requires c =
    let t = c.args.tab in
    let r = c.index-row.result.now in
    let h = c.self.inside.homes in
    let rows = c.self.inside.rows.items in
    let place = place_got (all_seen h rows) c.self.inside.places.entries t (Some c.in_ok-place.place.now) c.self.invariant.placed (sym c.in_ok-place.ensures.value) in
    let row = row_read h rows t c.in_ok-place.place.now r place c.index-row.ensures in
    has_home_at h rows c.in_ok-place.place.now r row.0 c.self.invariant.have_homes

pub returns-clause-row : goal.returns-clause-row
returns-clause-row c =
    let t = c.args.tab in
    let r = c.index-row.result.now in
    let h = c.self.inside.homes in
    let rows = c.self.inside.rows.items in
    let place = place_got (all_seen h rows) c.self.inside.places.entries t (Some c.in_ok-place.place.now) c.self.invariant.placed (sym c.in_ok-place.ensures.value) in
    let row = row_read h rows t c.in_ok-place.place.now r place c.index-row.ensures in
    let there : tab_of c.args.self.now t ≡ Some (seen h r) = ap (λ (k : KernelState). tab_of k t) (sym c.self.view_is) ∙ row.1 in
    ap (λ o. Some (seen_in (partition_beside o) r)) there ∙ sym there

pub returns-clause-home : goal.returns-clause-home
returns-clause-home c =
    let t = c.args.tab in
    let r = c.index-row.result.now in
    let h = c.self.inside.homes in
    let rows = c.self.inside.rows.items in
    let place = place_got (all_seen h rows) c.self.inside.places.entries t (Some c.in_ok-place.place.now) c.self.invariant.placed (sym c.in_ok-place.ensures.value) in
    let row = row_read h rows t c.in_ok-place.place.now r place c.index-row.ensures in
    let os = all_seen h rows in
    home_is (partition_at h r.home) os h c.at-home.result.now c.self.invariant.housed c.at-home.ensures
    ∙ ap (λ (o : Option OpenedTab). (number_beside os o, living_in (is_of (partition_beside o)) os)) (sym row.1)
    ∙ ap (λ (k : KernelState). (partition_number k t, living_of k (partition_of k t))) c.self.view_is

pub returns-clause-from_one : goal.returns-clause-from_one
returns-clause-from_one c o there =
    let k = c.args.self.now in
    let tabs : AreTabs k.opened = subst (λ (s : KernelState). AreTabs s.opened) c.self.view_is c.self.invariant.tabs in
    (tab_from_one k.opened c.args.tab o tabs there, number_from_one k c.args.tab o tabs there)

pub returns-in_err-place-clause-row : goal.returns-in_err-place-clause-row
returns-in_err-place-clause-row c =
    let os = all_seen c.self.inside.homes c.self.inside.rows.items in
    let place = place_got os c.self.inside.places.entries c.args.tab None c.self.invariant.placed (sym c.in_err-place.ensures.value) in
    rw c.from_residual.ensures (sym (not_placed os c.args.tab place) ∙ ap (λ (k : KernelState). tab_of k c.args.tab) c.self.view_is)

pub returns-in_err-place-clause-from_one : goal.returns-in_err-place-clause-from_one
returns-in_err-place-clause-from_one c o there =
    let k = c.args.self.now in
    let tabs : AreTabs k.opened = subst (λ (s : KernelState). AreTabs s.opened) c.self.view_is c.self.invariant.tabs in
    (tab_from_one k.opened c.args.tab o tabs there, number_from_one k c.args.tab o tabs there)
