use Rattle.std.proofs.Common.{refl, sym, ◌∙◌}
use Rattle.wl_script.specs.Forgeries.{hex_at}
use Rattle.wl_script.proofs.forgery.bytes_of.Goals as goal

pub returns-in-Ok : goal.returns-in-Ok
unfolding hex_at
returns-in-Ok c = rw (sym c.has_lowercase.ensures ∙ c.if-has_lowercase.false, c.in-Ok.ensures.ok) refl
