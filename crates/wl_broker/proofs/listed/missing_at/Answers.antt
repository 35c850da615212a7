use Rattle.std.proofs.Common.{ℕ, Option, unwrap_or, ap, ◌∙◌}
use Rattle.wl_draft.proofs.TableLemmas.{unwrap_or-lookup}
use Rattle.wl_broker.proofs.listed.missing_at.Goals as goal

pub returns : goal.returns
returns c =
    c.unwrap_or.ensures ∙ ap (λ (o : Option ℕ). unwrap_or o 0) (c.copied.ensures ∙ c.get.ensures.value)
    ∙ unwrap_or-lookup 0 c.args.missing.now.entries c.args.partition
