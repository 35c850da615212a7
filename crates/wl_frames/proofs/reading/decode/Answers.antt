use Rattle.std.proofs.Common.{length, arith, refl, sym, ◌∙◌}
use Rattle.std.proofs.lemmas.Result.{err_from_is_err_and}
use Rattle.std.proofs.lemmas.Bool.{eqb-true, eqb-false}
use Rattle.wl_frames.proofs.Decode.{bad_kind, bad_fields, left_over, whole}
use Rattle.wl_frames.proofs.reading.decode.Goals as goal

pub returns-in_default-clause-fault : goal.returns-in_default-clause-fault
returns-in_default-clause-fault c = bad_kind c.args.body.now c.requires (c.if-not-is_version.ensures.0 refl) (sym c.kind_of.ensures ∙ c.in_default.is)

pub returns-in_err-frame-clause-fault : goal.returns-in_err-frame-clause-fault
returns-in_err-frame-clause-fault c =
    let p = err_from_is_err_and c.from_residual.result c.from_residual.ensures.1 in
    rw (p.1, p.2) (bad_fields c.args.body.now c.in-Some.kind c.in_err-frame.field-0.0 c.requires (sym c.kind_of.ensures ∙ c.in-Some.is) c.in_err-frame.ensures)

pub returns-then-not-is_empty-clause-fault : goal.returns-then-not-is_empty-clause-fault
returns-then-not-is_empty-clause-fault c =
    left_over c.args.body.now c.in-Some.kind c.in_ok-frame.frame c.in_ok-frame.rest.now (λ i. omega (arith, c.type_inv.body i)) c.requires (sym c.kind_of.ensures ∙ c.in-Some.is) c.in_ok-frame.ensures (eqb-false (length c.in_ok-frame.rest.now) 0 (sym c.if-not-is_empty.ensures))

pub returns : goal.returns
returns c = record {
  frame = whole c.args.body.now c.in-Some.kind c.in_ok-frame.frame c.in_ok-frame.rest.now (λ i. omega (arith, c.type_inv.body i)) c.requires (sym c.kind_of.ensures ∙ c.in-Some.is) c.in_ok-frame.ensures (eqb-true (length c.in_ok-frame.rest.now) 0 (sym c.if-not-is_empty.ensures));
  fault = tt;
}
