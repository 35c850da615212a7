-- Lemma on bytes that are written piece by piece.
use Rattle.std.proofs.Common.{◌≡◌, ℕ, List, ◌++◌, take, drop, sym, ap, ◌∙◌, append_assoc, take-append-drop}

-- After n more bytes are written, the bytes done and the rest are still all the bytes.
pub split_more : (bytes done rest : List ℕ) (n : ℕ) → bytes ≡ done ++ rest → bytes ≡ done ++ take n rest ++ drop n rest
split_more bytes done rest n e =
    e ∙ ap (λ l. done ++ l) (sym (take-append-drop n rest)) ∙ sym (append_assoc done (take n rest) (drop n rest))
