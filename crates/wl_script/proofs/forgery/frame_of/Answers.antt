use Rattle.std.proofs.Common.{arith}
use Rattle.wl_script.proofs.BodyLemmas.{body_at-short, body-body_at, fault-fails}
use Rattle.wl_script.proofs.forgery.frame_of.Goals as goal

pub returns-then-body-lt-LEAST_BODY : goal.returns-then-body-lt-LEAST_BODY
returns-then-body-lt-LEAST_BODY c = body_at-short c.args.body.now c.if-body-lt-LEAST_BODY.true

pub returns-in-Ok : goal.returns-in-Ok
returns-in-Ok c = body-body_at c.args.body.now c.in-Ok.frame c.in-Ok.ensures.frame

pub returns-in-Err : goal.returns-in-Err
returns-in-Err c =
    rw c.unread_of.ensures (fault-fails c.args.body.now c.in-Err.fault (λ i. omega (arith, c.type_inv.body i)) c.in-Err.ensures.fault)
