-- Proofs of the laws of an outbox.
use Rattle.std.proofs.Common.{◌≡◌, [], ◌++◌, All, sym, refl, ap, ◌∙◌, subst}
use Rattle.std.proofs.lemmas.List.{append-nil}
use mathlib.Core.Option.{some-injective}
use lib.ListN.{get_elem?}
use Rattle.wl_outbox.specs.declared.rule.View.{View}
use Rattle.wl_outbox.specs.OutboxRule.{IsForTabOf}
use Rattle.wl_outbox.specs.OutboxLaws.{TakesInOrder, OnePassTakes, AllForOneTab, AllArrived}
use Rattle.wl_outbox.proofs.Merging.{merge_same}
use Rattle.wl_outbox.proofs.KeptRule.{merging}

pub takes_in_order : TakesInOrder
takes_in_order items views taker v h at role =
    let m = merging items views taker v h at role in
    let is : m.taking ≡ v = some-injective m.taking v (sym m.knows ∙ ap (get_elem? views) (sym (m.alone taker v at role)) ∙ at) in
    merge_same _ _ _ _ m.merge (ap (λ (y : View). y.parcels ++ items) is) (λ p. refl)

pub one_pass_takes : OnePassTakes
one_pass_takes items views i j v w h at there takes too =
    let m = merging items views i v h at takes in
    m.alone i v at takes ∙ sym (m.alone j w there too)

pub all_arrived : AllArrived
all_arrived views taker v h at role = merge_same _ _ _ _ (takes_in_order [] views taker v h at role) (append-nil v.parcels) (λ p. refl)

pub all_for_one_tab : AllForOneTab
all_for_one_tab items views taker pass v w h at takes other =
    let m = merging items views taker v h at takes in
    let is : m.taking ≡ v = some-injective m.taking v (sym m.knows ∙ ap (get_elem? views) (sym (m.alone taker v at takes)) ∙ at) in
    let same = m.same_tab pass w other in
    subst (λ (y : View). All (IsForTabOf w) (y.parcels ++ items)) is (λ k d lt. let f = m.for_tab k d lt in (f.0 ∙ sym same.0, f.1 ∙ sym same.1))
