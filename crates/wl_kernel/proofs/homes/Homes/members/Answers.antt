use Rattle.std.proofs.Common.{◌≡◌, Some, length, slice_get, refl, sym, ap, ◌∙◌, arith}
use Rattle.std.proofs.lemmas.Option.{slice_get_read}
use Rattle.wl_kernel.specs.TableIndexes.{HomeTable, home_at, home_of, members}
use Rattle.wl_kernel.proofs.HomePlaces.{place_within}
use Rattle.wl_kernel.proofs.homes.Homes.members.Goals as goal

pub index-requires : goal.index-requires
index-requires c =
    let homes = c.self.inside.list.items in
    let lt = place_within c.args.partition.now (length homes) c.self.inside.places.entries c.in-Some.place.now c.self.invariant.below (sym c.in-Some.ensures.value) in
    omega (arith, lt, c.self.inside.list.ok.0)

pub returns-in-Some : goal.returns-in-Some
returns-in-Some c =
    let p = c.args.partition.now in
    let homes = c.self.inside.list.items in
    let lt = place_within p (length homes) c.self.inside.places.entries c.in-Some.place.now c.self.invariant.below (sym c.in-Some.ensures.value) in
    let there : slice_get homes c.in-Some.place.now ≡ Some c.index.result.now = slice_get_read homes (length homes) c.in-Some.place.now c.index.result.now refl lt c.index.ensures in
    c.members.ensures ∙ ap members (sym (ap (home_at homes) (sym c.in-Some.ensures.value) ∙ there)) ∙ ap (λ (h : HomeTable). members (home_of h p)) c.self.view_is
