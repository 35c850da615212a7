-- Lemmas on bodies: none is the body of two frames. None is a prefix of another, except for an
-- envelope's inner body.
use Rattle.std.proofs.Common.{◌≡◌, ℕ, List, [], ◌∷◌, ◌++◌, false, refl, sym, ap, ◌∙◌}
use Rattle.std.proofs.lemmas.Bool.{both_ways}
use Rattle.std.proofs.lemmas.List.{append-nil}
use Rattle.wl_grammar.specs.declared.frame.Frame.{Frame}
use Rattle.wl_grammar.specs.Grammar.{IsWellFormed, body}
use Rattle.wl_frames.specs.Stream.{Begins, is_envelope}
use Rattle.wl_frames.proofs.Forms.{some_is}
use Rattle.wl_frames.proofs.Frames.{version_of, code_of, kind_of, fields, body_is, kind_at-code, begun}

pub no_body_begins_another : (f g : Frame) (more : List ℕ) → IsWellFormed f → IsWellFormed g → is_envelope f ≡ false → body g ≡ body f ++ more → more ≡ []
no_body_begins_another f g more p q open_ended e =
    let version = version_of (kind_of g) in
    let code = code_of (kind_of g) in
    let of_f : Begins (version ∷ code ∷ fields g) f more = record { well_formed = p; spelled = sym (body_is g) ∙ e; inner_to_the_end = λ closed. absurd (both_ways (is_envelope f) open_ended closed) } in
    let of_g : Begins (version ∷ code ∷ fields g) g [] = record { well_formed = q; spelled = sym (body_is g) ∙ sym (append-nil (body g)); inner_to_the_end = λ _. refl } in
    let read_f = begun version code (kind_of g) (fields g) f more (kind_at-code (kind_of g)) of_f in
    let read_g = begun version code (kind_of g) (fields g) g [] (kind_at-code (kind_of g)) of_g in
    ap (λ (x : Frame × List ℕ). x.1) (some_is (f, more) (g, []) (sym read_f ∙ read_g))
