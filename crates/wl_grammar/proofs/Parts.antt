-- Lemma on the division of a list into parts of at most ENTRY_LIMIT entries.
use Rattle.std.proofs.Common.{◌≡◌, ℕ, ◌+◌, ◌*◌, List, drop, ap, ◌∙◌, arith}
use Rattle.std.proofs.lemmas.List.{drop-drop}
use Rattle.wl_limits.specs.declared.frames.TheConstants.{ENTRY_LIMIT}

-- The entries left after one more part.
pub drop_part : {X : Type 0} (k : ℕ) (xs ys zs : List X) → ys ≡ drop (ENTRY_LIMIT * k) xs → zs ≡ drop ENTRY_LIMIT ys → zs ≡ drop (ENTRY_LIMIT * (k + 1)) xs
drop_part k xs ys zs e f =
    let more : ENTRY_LIMIT * k + ENTRY_LIMIT ≡ ENTRY_LIMIT * (k + 1) = omega arith in
    f ∙ ap (drop ENTRY_LIMIT) e ∙ drop-drop ENTRY_LIMIT (ENTRY_LIMIT * k) xs ∙ ap (λ i. drop i xs) more
