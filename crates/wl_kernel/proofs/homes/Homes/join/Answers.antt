use Rattle.std.proofs.Common.{◌≡◌, ℕ, ◌++◌, ◌∷◌, [], List, Some, length, set, slice_get, refl, sym, ap, ◌∙◌, subst, arith, ◌+◌, Result, Ok, Err, OnOk, OnErr, IfOk}
use Rattle.std.proofs.lemmas.List.{length-set, length_push}
use Rattle.std.proofs.lemmas.Option.{slice_get_read}
use Rattle.wl_kernel.specs.Kernel.{rises}
use Rattle.wl_kernel.specs.TableIndexes.{HomeTable, home_place, home_at, home_of, partition_in, AreHomePlaces, HasOneMore, SetsHome, KeepsPlaces, members, joined}
use Rattle.wl_kernel.proofs.HomePlaces.{place_within, places-push, partition_kept, partition_last, home-join, home-found}
use Rattle.wl_kernel.proofs.homes.Homes.join.Goals as goal

pub index_mut-requires : goal.index_mut-requires
index_mut-requires c =
    let p = c.args.partition in
    let at : home_place c.self.inside.places.entries p ≡ Some c.in-Some.place = sym c.get.ensures.value ∙ sym c.copied.ensures ∙ c.in-Some.is in
    let lt = place_within p (length c.self.inside.list.items) c.self.inside.places.entries c.in-Some.place c.self.invariant.below at in
    omega (arith, lt, c.self.inside.list.ok.0)

pub join-requires : goal.join-requires
join-requires c =
    let p = c.args.partition in
    let homes = c.self.inside.list.items in
    let at : home_place c.self.inside.places.entries p ≡ Some c.in-Some.place = sym c.get.ensures.value ∙ sym c.copied.ensures ∙ c.in-Some.is in
    let lt = place_within p (length homes) c.self.inside.places.entries c.in-Some.place c.self.invariant.below at in
    let there : slice_get homes c.in-Some.place ≡ Some c.index_mut.result.now = slice_get_read homes (length homes) c.in-Some.place c.index_mut.result.now refl lt c.index_mut.ensures.value in
    ap (λ h. rises (members h)) (sym (ap (home_at homes) at ∙ there)) ∙ ap (λ (h : HomeTable). rises (members (home_of h p))) c.self.view_is ∙ c.requires

pub returns-in_ok-join-in-Some-clause-joined : goal.returns-in_ok-join-in-Some-clause-joined
returns-in_ok-join-in-Some-clause-joined c =
    let p = c.args.partition in
    let homes = c.self.inside.list.items in
    let h : HomeTable = record { homes = homes; places = c.self.inside.places.entries } in
    let at : home_place h.places p ≡ Some c.in-Some.place = sym c.get.ensures.value ∙ sym c.copied.ensures ∙ c.in-Some.is in
    let lt = place_within p (length homes) h.places c.in-Some.place c.self.invariant.below at in
    let there : slice_get homes c.in-Some.place ≡ Some c.index_mut.result.now = slice_get_read homes (length homes) c.in-Some.place c.index_mut.result.now refl lt c.index_mut.ensures.value in
    let k : HomeTable = record { homes = set homes c.in-Some.place c.join.new.self; places = h.places } in
    subst (λ (g : HomeTable). SetsHome g k p (Some (joined c.args.tab (home_of g p)))) c.self.view_is
    (home-join h p c.args.tab c.in-Some.place c.index_mut.result.now c.join.new.self c.self.invariant at there c.in_ok-join-in-Some.ensures.ok)

pub returns-in_ok-join-in-Some-clause-place : goal.returns-in_ok-join-in-Some-clause-place
returns-in_ok-join-in-Some-clause-place c =
    let p = c.args.partition in
    let homes = c.self.inside.list.items in
    let at : home_place c.self.inside.places.entries p ≡ Some c.in-Some.place = sym c.get.ensures.value ∙ sym c.copied.ensures ∙ c.in-Some.is in
    let lt = place_within p (length homes) c.self.inside.places.entries c.in-Some.place c.self.invariant.below at in
    (omega (arith, lt, length-set {A = ℕ × List ℕ}), c.self.invariant.own p c.in-Some.place at)

-- The home of a first tab is appended to the list.
abbrev Behind : goal.After-found → Type 0
Behind c = c.found.new.list.items ≡ c.self.inside.list.items ++ (c.args.tab, c.args.tab ∷ []) ∷ []

abbrev OneMore : goal.After-found → Type 0
OneMore c = HasOneMore c.args.partition (length c.self.inside.list.items) c.self.inside.places.entries c.found.new.places.entries

by_cases : {T E P Q R S : Type 0} (r : Result T E) → (P → Q → S) → (R → S) → OnOk r P → OnOk r Q → OnErr r R → S
by_cases (Ok x) made same p q e = made p q
by_cases (Err e) made same p q r = same r

at_ok : {T E P Q : Type 0} {R S : T → Type 0} (r : Result T E) → (P → Q → (x : T) → R x → S x) → OnOk r P → OnOk r Q → IfOk r R → IfOk r S
at_ok (Ok x) made p q at = made p q x at
at_ok (Err e) made p q at = tt

longer : (c : goal.After-found) → Behind c → length c.found.new.list.items ≡ length c.self.inside.list.items + 1
longer c behind = ap length behind ∙ length_push c.self.inside.list.items (c.args.tab, c.args.tab ∷ [])

pub invariant_of-self-in-None : goal.invariant_of-self-in-None
invariant_of-self-in-None c =
    let homes = c.self.inside.list.items in
    let es = c.self.inside.places.entries in
    let more = c.found.new.places.entries in
    by_cases c.found.result
    (λ (behind : Behind c) (m : OneMore c). subst (AreHomePlaces more) (sym (longer c behind)) (places-push c.args.partition (length homes) es more c.self.invariant m))
    (λ (same : (c.found.new.list.items ≡ homes) × (more ≡ es)).
    subst (AreHomePlaces more) (sym (ap length same.0)) (subst (λ ps. AreHomePlaces ps (length homes)) (sym same.1) c.self.invariant))
    c.found.ensures.list
    c.found.ensures.places
    c.found.ensures.err

pub returns-in-None-clause-joined : goal.returns-in-None-clause-joined
returns-in-None-clause-joined c =
    let p = c.args.partition in
    let h : HomeTable = record { homes = c.self.inside.list.items; places = c.self.inside.places.entries } in
    let k : HomeTable = record { homes = c.found.new.list.items; places = c.found.new.places.entries } in
    at_ok c.found.result
    (λ (behind : Behind c) (m : OneMore c) _ _. subst (λ (g : HomeTable). SetsHome g k p (Some (joined c.args.tab (home_of g p)))) c.self.view_is (home-found h k p c.args.tab c.self.invariant behind m))
    c.found.ensures.list
    c.found.ensures.places
    c.found.ensures.place

pub returns-in-None-clause-place : goal.returns-in-None-clause-place
returns-in-None-clause-place c =
    let p = c.args.partition in
    let homes = c.self.inside.list.items in
    let es = c.self.inside.places.entries in
    let more = c.found.new.places.entries in
    at_ok c.found.result
    (λ (behind : Behind c) (m : OneMore c) place (at : place ≡ length homes). (
      omega (arith, at, longer c behind),
      ap (partition_in more) at ∙ partition_last p (length homes) es more c.self.invariant m,
    ))
    c.found.ensures.list
    c.found.ensures.places
    c.found.ensures.place

pub returns-in-None-clause-kept : goal.returns-in-None-clause-kept
returns-in-None-clause-kept c =
    let homes = c.self.inside.list.items in
    let es = c.self.inside.places.entries in
    let more = c.found.new.places.entries in
    let k : HomeTable = record { homes = c.found.new.list.items; places = more } in
    at_ok c.found.result
    (λ (behind : Behind c) (m : OneMore c) _ _. subst (λ (g : HomeTable). KeepsPlaces g k) c.self.view_is
    (λ i lt. (omega (arith, longer c behind, lt), partition_kept c.args.partition (length homes) i es more c.self.invariant m lt)))
    c.found.ensures.list
    c.found.ensures.places
    c.found.ensures.place
