use Rattle.std.proofs.Common.{Bool, Option, Some, None, is_some, if◌then◌else◌, sym, ap, ◌∙◌, arith}
use Rattle.wl_kernel.specs.declared.fault.KillFault.{KillFault}
use Rattle.wl_kernel.specs.declared.fault.KillFault.TheVariants.{NoTab, AlreadyDead}
use Rattle.wl_kernel.specs.Kernel.{KernelState, OpenedTab, tab_in, lives}
use Rattle.wl_kernel.specs.TableIndexes.{all_seen, place_in}
use Rattle.wl_kernel.proofs.OpenedTabs.{place_got, row_below, row_read, not_placed}
use Rattle.wl_kernel.proofs.tabs.Tabs.living_place.Goals as goal

-- The reason for which a tab is not killed, by its row.
abbrev fault_of : Option OpenedTab → Option KillFault
fault_of o = if is_some o then (if lives o then None else Some AlreadyDead) else Some NoTab

abbrev by_life : Bool → Option KillFault
by_life b = if b then None else Some AlreadyDead

pub returns-in_default-clause-refused : goal.returns-in_default-clause-refused
returns-in_default-clause-refused c =
    let os = all_seen c.self.inside.homes c.self.inside.rows.items in
    let place = place_got os c.self.inside.places.entries c.args.tab None c.self.invariant.placed (sym c.in_default.ensures.value) in
    (tt, ap (λ (k : KernelState). fault_of (tab_in k.opened c.args.tab)) (sym c.self.view_is) ∙ ap fault_of (not_placed os c.args.tab place))

pub index-requires : goal.index-requires
index-requires c =
    let h = c.self.inside.homes in
    let rows = c.self.inside.rows.items in
    let place = place_got (all_seen h rows) c.self.inside.places.entries c.args.tab (Some c.in-Some.place.now) c.self.invariant.placed (sym c.in-Some.ensures.value) in
    let lt = row_below h rows c.args.tab c.in-Some.place.now place in
    omega (arith, lt, c.self.inside.rows.ok.0)

pub returns-then-not-index-clause-refused : goal.returns-then-not-index-clause-refused
returns-then-not-index-clause-refused c =
    let h = c.self.inside.homes in
    let rows = c.self.inside.rows.items in
    let place = place_got (all_seen h rows) c.self.inside.places.entries c.args.tab (Some c.in-Some.place.now) c.self.invariant.placed (sym c.in-Some.ensures.value) in
    let row = row_read h rows c.args.tab c.in-Some.place.now c.index.result.now place c.index.ensures in
    (tt, ap (λ (k : KernelState). fault_of (tab_in k.opened c.args.tab)) (sym c.self.view_is) ∙ ap fault_of row.1 ∙ ap by_life c.if-not-index.true)

pub returns-clause-place : goal.returns-clause-place
returns-clause-place c =
    let h = c.self.inside.homes in
    let rows = c.self.inside.rows.items in
    let place = place_got (all_seen h rows) c.self.inside.places.entries c.args.tab (Some c.in-Some.place.now) c.self.invariant.placed (sym c.in-Some.ensures.value) in
    ap (λ (k : KernelState). place_in k.opened c.args.tab) (sym c.self.view_is) ∙ place

pub returns-clause-refused : goal.returns-clause-refused
returns-clause-refused c =
    let h = c.self.inside.homes in
    let rows = c.self.inside.rows.items in
    let place = place_got (all_seen h rows) c.self.inside.places.entries c.args.tab (Some c.in-Some.place.now) c.self.invariant.placed (sym c.in-Some.ensures.value) in
    let row = row_read h rows c.args.tab c.in-Some.place.now c.index.result.now place c.index.ensures in
    (ap (λ (k : KernelState). fault_of (tab_in k.opened c.args.tab)) (sym c.self.view_is) ∙ ap fault_of row.1 ∙ ap by_life c.if-not-index.false, tt)
