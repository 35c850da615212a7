-- Length field at the front of a frame.
use Rattle.std.proofs.Common.{◌≡◌, ℕ, ◌+◌, List, ◌++◌, length, take, drop, refl, sym, ◌∙◌, append_assoc}
use Rattle.std.proofs.Math.Seq.{take-append_seam, drop-append_seam, drop-append-add}

-- Overwriting the four zero bytes with the length leaves the bytes before and after them unchanged.
pub length_set : (old zeros b now new counted : List ℕ) (start : ℕ) → start ≡ length old → length zeros ≡ 4
    → now ≡ (old ++ zeros) ++ b → new ≡ take start now ++ counted ++ drop (start + 4) now → new ≡ old ++ counted ++ b
length_set old zeros b now new counted start e z whole set =
    let split : now ≡ old ++ (zeros ++ b) = whole ∙ append_assoc old zeros b in
    let front : take start now ≡ old = rw (e, split) (take-append_seam old (zeros ++ b)) in
    let rest : drop (start + 4) now ≡ b =
    rw (e, split) (drop-append-add old (zeros ++ b) 4 ∙ rw (sym z) (drop-append_seam zeros b)) in
    set ∙ rw (front, rest) refl
