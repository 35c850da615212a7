use Rattle.std.proofs.Common.{sym, ◌∙◌}
use Rattle.wl_locked.proofs.Same.{reply_same}
use Rattle.wl_locked.proofs.marking.is_reply.Goals as goal

pub returns : goal.returns
returns c =
    let same = reply_same c.args.one.now c.args.other.now in
    (λ h. same.0 (sym c.eq.ensures ∙ h), λ e. c.eq.ensures ∙ same.1 e)
