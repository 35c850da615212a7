use Rattle.std.proofs.Common.{◌≡◌, length, take, drop, sym, ◌∙◌, arith}
use Rattle.std.specs.Vec.Iter.{into_iter_items}
use Rattle.wl_limits.specs.declared.frames.TheConstants.{ENTRY_LIMIT}
use Rattle.wl_broker.proofs.SnapshotParts.{whole_part, last_part}
use Rattle.wl_broker.proofs.answers.next_part.Goals as goal
use Rattle.wl_broker.proofs.answers.next_part.Goals.{In_default}

last : (c : In_default) → (c.loop-rest.part.items ≡ take ENTRY_LIMIT (into_iter_items c.args.rest.now)) × (into_iter_items c.loop-rest.rest ≡ drop ENTRY_LIMIT (into_iter_items c.args.rest.now))
last c =
    let nil : length (into_iter_items c.loop-rest.rest) ≡ 0 = omega (arith, c.in_default.ensures.cases.0, c.loop-rest.rest.rest.ok.0) in
    last_part ENTRY_LIMIT _ _ _ c.loop-rest.invariant.0 nil (omega (arith, c.loop-rest.part.ok.0, c.loop-rest.invariant.1))

pub returns-in_default-clause-part : goal.returns-in_default-clause-part
returns-in_default-clause-part c = (last c).0

pub returns-in_default-clause-rest : goal.returns-in_default-clause-rest
returns-in_default-clause-rest c = sym c.in_default.ensures.items ∙ (last c).1

pub returns-clause-part : goal.returns-clause-part
returns-clause-part c =
    let full : length c.loop-rest.part.items ≡ ENTRY_LIMIT = omega (arith, c.loop-rest.part.ok.0, c.loop-rest.invariant.1) in
    (whole_part ENTRY_LIMIT _ _ _ c.loop-rest.invariant.0 full).0

pub returns-clause-rest : goal.returns-clause-rest
returns-clause-rest c =
    let full : length c.loop-rest.part.items ≡ ENTRY_LIMIT = omega (arith, c.loop-rest.part.ok.0, c.loop-rest.invariant.1) in
    (whole_part ENTRY_LIMIT _ _ _ c.loop-rest.invariant.0 full).1
