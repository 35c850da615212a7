use Rattle.std.proofs.Common.{sym, ◌∙◌}
use Rattle.wl_locked.proofs.Same.{event_same}
use Rattle.wl_locked.proofs.marking.is_event.Goals as goal

pub returns : goal.returns
returns c =
    let same = event_same c.args.one.now c.args.other.now in
    (λ h. same.0 (sym c.eq.ensures ∙ h), λ e. c.eq.ensures ∙ same.1 e)
