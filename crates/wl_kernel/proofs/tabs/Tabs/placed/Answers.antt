use Rattle.std.proofs.Common.{◌≡◌, ap, ◌∙◌, sym, subst}
use Rattle.std.proofs.lemmas.List.{take_all}
use Rattle.std.specs.List.{AllByRecursion}
use Rattle.wl_kernel.specs.Kernel.{KernelState, placed}
use Rattle.wl_kernel.specs.TableIndexes.{AreTabs, Below, IsList}
use Rattle.wl_kernel.proofs.WellFormed.{list_is_well_formed}
use Rattle.wl_kernel.proofs.tabs.Tabs.placed.Goals as goal

pub returns-clause-well_formed : goal.returns-clause-well_formed
returns-clause-well_formed c =
    let k = c.args.self.now in
    let listed = c.args.listed.now in
    let tabs : AreTabs k.opened = subst (λ (s : KernelState). AreTabs s.opened) c.self.view_is c.self.invariant.tabs in
    let whole : c.loop-tab.list.items ≡ placed listed k = c.loop-tab.invariant.placed ∙ ap (λ ts. placed ts k) (take_all c.loop-tab.tab-index listed c.loop-tab-test.false) in
    subst IsList (sym whole) (list_is_well_formed k listed tabs c.requires (subst (AllByRecursion Below) whole c.loop-tab.invariant.fit))
