use Rattle.std.proofs.Common.{◌≡◌, ◌≤◌, ◌<◌, ◌∙◌, false, take, get_or, length, sym, ap, arith}
use Rattle.std.specs.Prelude.{◌==◌}
use Rattle.std.proofs.lemmas.List.{take_all}
use Rattle.wl_table_index.specs.declared.holdings.FurtherPlace.{FurtherPlace}
use Rattle.wl_table_index.specs.Clients.{is_same}
use Rattle.wl_table_index.proofs.HoldingLemmas.{least-first, least-more, least-past, least-all, get-any, is-same, not-first, not-second}
use Rattle.wl_table_index.proofs.holdings.Holdings.least.Goals.{then-other-number+then-is_in, else-other-number, else-other-number-via-then-other-number+else-is_in, else-other-number-via-else-other-number}
use Rattle.wl_table_index.proofs.holdings.Holdings.least.Goals as goal

pub loop-other-init : goal.loop-other-init
loop-other-init c = least-first c.args.place c.args.is_held c.latest_order-least.result c.latest_order-least.ensures

pub loop-other-preserved : goal.loop-other-preserved
loop-other-preserved c =
    let fs = c.args.self.now.further.items in
    let held = c.args.is_held in
    let l = c.loop-other in
    let none : FurtherPlace = record { number = 0; place = record { order = 0; is_held = false } } in
    let f = get_or c.deref-other-items.result.now l.other-index none in
    let within : l.other-index < length fs = omega (arith, c.loop-other-test.true, ap (λ xs. length xs) c.deref-other-items.ensures.value) in
    let at : f ≡ get_or fs l.other-index f = get-any c.deref-other-items.result.now l.other-index none ∙ ap (λ xs. get_or xs l.other-index f) c.deref-other-items.ensures.value in
    elim c.if-other-number.branch [
      | then-other-number+then-is_in w ↦
          rw (w.least-is, w.lesser.ensures) (least-more c.args.place c.args.number held fs l.other-index f l.least within at (is-same f.number c.args.number w.if-other-number.true) (sym w.is_in.ensures ∙ w.if-is_in.true) l.invariant)
      | else-other-number w ↦
          (elim w.else-other-number.branch [
            | else-other-number-via-then-other-number+else-is_in v ↦
                rw w.least-is (least-past c.args.place c.args.number held fs l.other-index f l.least within at (not-second (f.number == c.args.number) (is_same f.place.is_held held) (sym v.is_in.ensures ∙ v.if-is_in.false)) l.invariant)
            | else-other-number-via-else-other-number v ↦
                rw w.least-is (least-past c.args.place c.args.number held fs l.other-index f l.least within at (not-first f.number c.args.number (is_same f.place.is_held held) v.if-other-number.false) l.invariant)
          ])
    ]

pub returns : goal.returns
returns c =
    let fs = c.args.self.now.further.items in
    let i = c.loop-other.other-index in
    let past : length fs ≤ i = omega (arith, c.loop-other-test.false, ap (λ xs. length xs) c.deref-other-items.ensures.value) in
    rw (← c.requires) (least-all c.args.place c.args.number c.args.is_held fs (take i fs) c.loop-other.least (take_all i fs past) c.loop-other.invariant)
