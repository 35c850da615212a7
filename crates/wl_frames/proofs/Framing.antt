-- Frame at the front of a stream.
use Rattle.std.proofs.Common.{◌≡◌, ℕ, ◌<◌, List, ◌++◌, length, take, drop, sym, ap, ◌∙◌, subst, arith}
use Rattle.std.proofs.lemmas.List.{length-append, take-append-drop}
use Rattle.wl_grammar.specs.declared.frame.Frame.{Frame}
use Rattle.wl_grammar.specs.Grammar.{u32, IsWellFormed, IsBody, body, spelling}

-- A length and a body of that length are the encoding of a frame.
pub spelled : (bytes rest front after : List ℕ) (n : ℕ) (f : Frame) → bytes ≡ u32 n ++ rest → front ≡ take n rest → after ≡ drop n rest → length front ≡ n → IsBody front f
    → IsWellFormed f × (bytes ≡ spelling f ++ after)
unfolding spelling
spelled bytes rest front after n f whole front_is after_is len is_body =
    let parts : rest ≡ front ++ after = rw (front_is, after_is) (sym (take-append-drop n rest)) in
    let framed : bytes ≡ u32 n ++ (front ++ after) = whole ∙ ap (λ (r : List ℕ). u32 n ++ r) parts in
    let counted : bytes ≡ u32 (length front) ++ (front ++ after) = subst (λ (k : ℕ). bytes ≡ u32 k ++ (front ++ after)) (sym len) framed in
    (is_body.well_formed, subst (λ (b : List ℕ). bytes ≡ u32 (length b) ++ (b ++ after)) is_body.spelled counted)

-- Each encoding has at least one byte.
pub shorter : (bytes after : List ℕ) (f : Frame) → bytes ≡ spelling f ++ after → length after < length bytes
unfolding spelling
shorter bytes after f e = omega (arith, ap length e, length-append (body f) after)
