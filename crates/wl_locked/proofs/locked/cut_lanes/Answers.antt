use Rattle.std.proofs.Common.{◌∙◌, ap, arith, replicate, []}
use Rattle.wl_locked.proofs.locked.cut_lanes.Goals as goal

pub returns : goal.returns
returns g c = c.loop-i.invariant.2 ∙ ap (λ n. replicate n []) (omega (arith, c.loop-i-test.false, c.loop-i.auto._i-end))
