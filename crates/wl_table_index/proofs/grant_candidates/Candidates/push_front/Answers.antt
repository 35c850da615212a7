use Rattle.std.proofs.Common.{◌≡◌, ◌∙◌, ℕ, Some, None, sym}
use Rattle.wl_table_index.proofs.CandidateLemmas.{pushed-here, pushed-kept}
use Rattle.wl_table_index.proofs.grant_candidates.Candidates.push_front.Goals as goal

same-front : (j k : ℕ) → Some j ≡ Some k → j ≡ k
same-front j k e = cc

pub returns-in-Some-clause-front : goal.returns-in-Some-clause-front
returns-in-Some-clause-front c = λ k e.
    c.push.ensures.items k ∙ pushed-here c.in-Some.order k _ (same-front c.in-Some.order k (sym c.in-Some.is ∙ e))

pub returns-in-Some-clause-kept : goal.returns-in-Some-clause-kept
returns-in-Some-clause-kept c = λ k e. c.push.ensures.items k ∙ pushed-kept c.in-Some.order k _ e
