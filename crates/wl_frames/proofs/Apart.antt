-- Lemmas on encodings: no encoding of a frame is a prefix of another.
use Rattle.std.proofs.Common.{◌≡◌, ℕ, List, ◌++◌, length, take, drop, Some, refl, sym, ap, ◌∙◌, arith}
use Rattle.std.specs.Int.{w32}
use Rattle.std.proofs.lemmas.List.{take_at, drop_at}
use Rattle.wl_grammar.specs.declared.frame.Frame.{Frame}
use Rattle.wl_grammar.specs.Grammar.{IsWellFormed, body, spelling}
use Rattle.wl_frames.specs.Reading.{number_at}
use Rattle.wl_frames.proofs.Forms.{some_is}
use Rattle.wl_frames.proofs.Fields.{u32_form}
use Rattle.wl_frames.proofs.Frames.{one_frame}
use Rattle.wl_grammar.proofs.BodyLength.{body_length}

-- Decoding the front of an encoding yields the length and the bytes after it.
length_read : (f : Frame) (x : List ℕ) → IsWellFormed f → number_at w32 (spelling f ++ x) ≡ Some (length (body f), body f ++ x)
unfolding spelling
length_read f x h = u32_form.again (length (body f)) (body f ++ x) (omega (arith, body_length f h)) tt

pub apart : (f g : Frame) (x y : List ℕ) → IsWellFormed f → IsWellFormed g → spelling f ++ x ≡ spelling g ++ y → (f ≡ g) × (x ≡ y)
apart f g x y hf hg e =
    let m = length (body f) in
    let same = some_is (m, body f ++ x) (length (body g), body g ++ y) (sym (length_read f x hf) ∙ ap (number_at w32) e ∙ length_read g y hg) in
    let lengths : m ≡ length (body g) = ap (λ (p : ℕ × List ℕ). p.0) same in
    let rests : body f ++ x ≡ body g ++ y = ap (λ (p : ℕ × List ℕ). p.1) same in
    let bodies : body f ≡ body g = sym (take_at (body f) x m refl) ∙ ap (take m) rests ∙ take_at (body g) y m (sym lengths) in (
      one_frame (body f) f g (record { well_formed = hf; spelled = refl }) (record { well_formed = hg; spelled = bodies }),
      sym (drop_at (body f) x m refl) ∙ ap (drop m) rests ∙ drop_at (body g) y m (sym lengths),
    )
