-- Lemmas on streams: each is decoded in only one way.
use Rattle.std.proofs.Common.{◌≡◌, ℕ, ◌^◌, ◌<◌, List, [], ◌∷◌, ◌++◌, length, take, drop, refl, sym, ap, ◌∙◌, subst, append_assoc, arith, inl, inr}
use Rattle.std.specs.Int.{w32, from_be_bytes}
use Rattle.std.specs.List.{flat_map, AllByRecursion}
use Rattle.std.proofs.lemmas.List.{length-append, take_at, drop_at}
use Rattle.std.proofs.lemmas.Nat.{from_be_bytes-to_be_bytes_4}
use Rattle.wl_grammar.specs.declared.frame.Frame.{Frame}
use Rattle.wl_frames.specs.declared.fault.FrameFault.{FrameFault}
use Rattle.wl_grammar.specs.Grammar.{u32, IsWellFormed, body, spelling}
use Rattle.wl_grammar.specs.Lengths.{IsLength}
use Rattle.wl_frames.specs.Stream.{IsPartial, HasFault, HasFaultNext, Stop, Rest, Fault, StopsAt, Reads}
use Rattle.wl_grammar.proofs.BodyLength.{body_length}
use Rattle.wl_frames.proofs.Apart.{apart}
use Rattle.wl_frames.proofs.OneFault.{no_fault, one_fault}

-- Front of a stream

same_length : (n m : ℕ) (x y : List ℕ) → n < 2 ^ 32 → m < 2 ^ 32 → u32 n ++ x ≡ u32 m ++ y → (n ≡ m) × (x ≡ y)
same_length n m x y p q e =
    let front : u32 n ≡ u32 m = ap (take 4) e in
    (sym (from_be_bytes-to_be_bytes_4 n p) ∙ ap (from_be_bytes w32) front ∙ from_be_bytes-to_be_bytes_4 m q, ap (drop 4) e)

same_front : (xs ys more rest : List ℕ) → length xs ≡ length ys → xs ++ more ≡ ys ++ rest → (xs ≡ ys) × (more ≡ rest)
same_front xs ys more rest len e = (
  sym (take_at xs more (length ys) len) ∙ ap (take (length ys)) e ∙ take_at ys rest (length ys) refl,
  sym (drop_at xs more (length ys) len) ∙ ap (drop (length ys)) e ∙ drop_at ys rest (length ys) refl,
)

-- A complete body is at the front of the stream.
record IsWhole (bytes front rest : List ℕ) : Type 0 where
  spelled : bytes ≡ u32 (length front) ++ (front ++ rest)
  len : IsLength (length front)

one_whole : (bytes front rest other more : List ℕ) → IsWhole bytes front rest → IsWhole bytes other more → (front ≡ other) × (rest ≡ more)
one_whole bytes front rest other more p q =
    let e = same_length (length front) (length other) (front ++ rest) (other ++ more) (omega (arith, p.len)) (omega (arith, q.len)) (sym p.spelled ∙ q.spelled) in
    same_front front other rest more e.0 e.1

whole_frame : (bytes more : List ℕ) (f : Frame) → IsWellFormed f → bytes ≡ spelling f ++ more → IsWhole bytes (body f) more
unfolding spelling
whole_frame bytes more f p e = record { spelled = e; len = body_length f p }

-- The next frame, fault or rest is unique

partial_or_whole : (bytes front rest : List ℕ) → IsPartial bytes → IsWhole bytes front rest → ⊥
partial_or_whole bytes front rest (inl short) q = omega (arith, ap length q.spelled)
partial_or_whole bytes front rest (inr (n, part, e, len, lt)) q =
    let same = same_length n (length front) part (front ++ rest) (omega (arith, len)) (omega (arith, q.len)) (sym e ∙ q.spelled) in
    omega (arith, same.0, ap length same.1, length-append front rest)

partial_or_bad : (bytes rest : List ℕ) (n : ℕ) → IsPartial bytes → bytes ≡ u32 n ++ rest → n < 2 ^ 32 → (IsLength n → ⊥) → ⊥
partial_or_bad bytes rest n (inl short) e lt bad = omega (arith, ap length e)
partial_or_bad bytes rest n (inr (m, part, f, len, shorter)) e lt bad =
    let same = same_length m n part rest (omega (arith, len)) lt (sym f ∙ e) in
    bad (subst IsLength same.0 len)

bad_or_whole : (bytes rest front more : List ℕ) (n : ℕ) → bytes ≡ u32 n ++ rest → n < 2 ^ 32 → (IsLength n → ⊥) → IsWhole bytes front more → ⊥
bad_or_whole bytes rest front more n e lt bad q =
    let same = same_length (length front) n (front ++ more) rest (omega (arith, q.len)) lt (sym q.spelled ∙ e) in
    bad (subst IsLength same.0 q.len)

partial_or_fault : (bytes : List ℕ) (d : FrameFault) → IsPartial bytes → HasFaultNext bytes d → ⊥
partial_or_fault bytes d p (inl (n, rest, e, lt, bad, is)) = partial_or_bad bytes rest n p e lt bad
partial_or_fault bytes d p (inr (front, rest, e, len, fault)) = partial_or_whole bytes front rest p (record { spelled = e; len = len })

fault_or_frame : (bytes more : List ℕ) (d : FrameFault) (f : Frame) → HasFaultNext bytes d → IsWellFormed f → bytes ≡ spelling f ++ more → ⊥
fault_or_frame bytes more d f (inl (n, rest, e, lt, bad, is)) p whole = bad_or_whole bytes rest (body f) more n e lt bad (whole_frame bytes more f p whole)
fault_or_frame bytes more d f (inr (front, rest, e, len, fault)) p whole =
    let same = one_whole bytes front rest (body f) more (record { spelled = e; len = len }) (whole_frame bytes more f p whole) in
    no_fault front f d (record { well_formed = p; spelled = same.0 }) fault

one_fault_next : (bytes : List ℕ) (d e : FrameFault) → HasFaultNext bytes d → HasFaultNext bytes e → d ≡ e
one_fault_next bytes d e (inl (n, rest, p, lt, bad, is)) (inl (m, more, q, below, no_length, also)) = is ∙ sym also
one_fault_next bytes d e (inl (n, rest, p, lt, bad, is)) (inr (front, more, q, len, fault)) = absurd (bad_or_whole bytes rest front more n p lt bad (record { spelled = q; len = len }))
one_fault_next bytes d e (inr (front, more, q, len, fault)) (inl (n, rest, p, lt, bad, is)) = absurd (bad_or_whole bytes rest front more n p lt bad (record { spelled = q; len = len }))
one_fault_next bytes d e (inr (front, rest, p, len, fault)) (inr (other, more, q, length, also)) =
    let same = one_whole bytes front rest other more (record { spelled = p; len = len }) (record { spelled = q; len = length }) in
    one_fault other d e (subst (λ (b : List ℕ). HasFault b d) same.0 fault) also

-- Decoded streams

one_stop : (bytes : List ℕ) (s t : Stop) → StopsAt bytes s → StopsAt bytes t → s ≡ t
one_stop bytes (Rest x) (Rest y) p q = ap Rest (sym p.0 ∙ q.0)
one_stop bytes (Rest x) (Fault e) p q = absurd (partial_or_fault bytes e (subst IsPartial (sym p.0) p.1) q)
one_stop bytes (Fault d) (Rest y) p q = absurd (partial_or_fault bytes d (subst IsPartial (sym q.0) q.1) p)
one_stop bytes (Fault d) (Fault e) p q = ap Fault (one_fault_next bytes d e p q)

stop_or_frame : (bytes more : List ℕ) (s : Stop) (f : Frame) → StopsAt bytes s → IsWellFormed f → bytes ≡ spelling f ++ more → ⊥
stop_or_frame bytes more (Rest x) f p wf e = partial_or_whole bytes (body f) more (subst IsPartial (sym p.0) p.1) (whole_frame bytes more f wf e)
stop_or_frame bytes more (Fault d) f p wf e = fault_or_frame bytes more d f p wf e

first_off : (f : Frame) (fs : List Frame) (x : List ℕ) → flat_map spelling (f ∷ fs) ++ x ≡ spelling f ++ (flat_map spelling fs ++ x)
first_off f fs x = append_assoc (spelling f) (flat_map spelling fs) x

same_frames : (fs gs : List Frame) (x y : List ℕ) (s t : Stop) → flat_map spelling fs ++ x ≡ flat_map spelling gs ++ y
    → AllByRecursion IsWellFormed fs → AllByRecursion IsWellFormed gs → StopsAt x s → StopsAt y t → (fs ≡ gs) × (s ≡ t)
same_frames [] [] x y s t e ps qs p q = (refl, one_stop y s t (subst (λ (b : List ℕ). StopsAt b s) e p) q)
same_frames [] (g ∷ gs) x y s t e ps qs p q = absurd (stop_or_frame x (flat_map spelling gs ++ y) s g p qs.0 (e ∙ first_off g gs y))
same_frames (f ∷ fs) [] x y s t e ps qs p q = absurd (stop_or_frame y (flat_map spelling fs ++ x) t f q ps.0 (sym e ∙ first_off f fs x))
same_frames (f ∷ fs) (g ∷ gs) x y s t e ps qs p q =
    let first = apart f g (flat_map spelling fs ++ x) (flat_map spelling gs ++ y) ps.0 qs.0 (sym (first_off f fs x) ∙ e ∙ first_off g gs y) in
    let others = same_frames fs gs x y s t first.1 ps.1 qs.1 p q in
    let same : f ∷ fs ≡ g ∷ gs = cc in
    (same, others.1)

pub one_reading : (stream : List ℕ) (fs gs : List Frame) (s t : Stop) → Reads stream fs s → Reads stream gs t → (fs ≡ gs) × (s ≡ t)
one_reading stream fs gs s t p q = same_frames fs gs p.after q.after s t (sym p.spelled ∙ q.spelled) p.well_formed q.well_formed p.stops q.stops
