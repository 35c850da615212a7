use Rattle.std.proofs.Common.{◌≡◌, ◌<◌, Some, length, set, slice_get, option_map, refl, sym, subst}
use Rattle.std.proofs.lemmas.Option.{slice_get_read}
use Rattle.wl_kernel.specs.TableIndexes.{HomeTable, home_of, partition_at, SetsHome, left}
use Rattle.wl_kernel.proofs.HomePlaces.{home-leave}
use Rattle.wl_kernel.proofs.homes.Homes.leave.Goals as goal

pub returns-clause-left : goal.returns-clause-left
returns-clause-left c =
    let homes = c.self.inside.list.items in
    let i = c.args.place in
    let h : HomeTable = record { homes = homes; places = c.self.inside.places.entries } in
    let k : HomeTable = record { homes = set homes i c.leave.new.self; places = h.places } in
    let lt = subst (λ (g : HomeTable). i < length g.homes) (sym c.self.view_is) c.requires in
    let there : slice_get homes i ≡ Some c.index_mut.result.now = slice_get_read homes (length homes) i c.index_mut.result.now refl lt c.index_mut.ensures.value in
    subst (λ (g : HomeTable). SetsHome g k (partition_at g i) (option_map (left c.args.tab) (home_of g (partition_at g i)))) c.self.view_is
    (home-leave h c.args.tab i c.index_mut.result.now c.leave.new.self c.self.invariant lt there c.leave.ensures)
