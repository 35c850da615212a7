-- Lemmas on frame bodies: the function that reads them agrees with the grammar.
use Rattle.std.proofs.Common.{◌≡◌, ℕ, ◌+◌, ◌<◌, not, eqb, List, [], ◌∷◌, length, get_or, drop, All, Option, Some, None, refl, sym, ap, ◌∙◌, arith, inl, inr}
use Rattle.std.proofs.lemmas.Bool.{cases_lt, eqb-true, not-false}
use Rattle.std.proofs.lemmas.List.{append-nil, nil_from_length, get_or-drop}
use Rattle.std.proofs.lemmas.List.Elements.{All-get_or}
use Rattle.std.proofs.Math.ListN.{get_or-eq_default}
use Rattle.wl_frames.specs.declared.fault.FrameFault.{FrameFault}
use Rattle.wl_frames.specs.declared.fault.FrameFault.TheVariants as faults
use Rattle.wl_grammar.specs.declared.frame.Frame.{Frame}
use Rattle.wl_frames.specs.declared.reading.kind.Kind.{Kind}
use Rattle.wl_grammar.specs.Grammar.{body, IsBody}
use Rattle.wl_frames.specs.Stream.{HasFault, IsFaultOf}
use Rattle.wl_frames.specs.Reading.{◌>>=◌, kind_at}
use Rattle.wl_frames.specs.Bodies.{inner_kind_at, frame_at, all_of}
use Rattle.wl_frames.proofs.Forms.{IsBytes, bind_some, guard_some, some_is}
use Rattle.wl_frames.proofs.Frames.{code_of, version_of, kind_of, fields, body_is, kind_at-code, begins, begun}
use Rattle.wl_frames.proofs.OneFault.{no_fault}
use Rattle.wl_script_words.specs.Words.{Fails}
use Rattle.wl_script.specs.Forgeries.{body_at, unread_of, ReadsBodies}

-- A body shorter than its version and kind is not read.
pub body_at-short : (bytes : List ℕ) → length bytes < 2 → body_at bytes ≡ None
unfolding body_at inner_kind_at
body_at-short [] h = refl
body_at-short (b ∷ []) h = refl
body_at-short (b ∷ c ∷ bs) h = absurd (omega arith)

abbrev some : {A : Type 0} → A → Option A
some x = Some x

-- Everything that is read is a body

kind_read : (v code : ℕ) (rest : List ℕ) (k : Kind) (more : List ℕ) → inner_kind_at (v ∷ code ∷ rest) ≡ Some (k, more) → (kind_at v code ≡ Some k) × (more ≡ rest)
unfolding inner_kind_at
kind_read v code rest k more e =
    let b = bind_some (kind_at v code) (λ k. Some (k, rest)) (k, more) e in
    let same = some_is (b.0, rest) (k, more) b.2 in
    (b.1 ∙ ap (λ (p : Kind × List ℕ). some p.0) same, ap (λ (p : Kind × List ℕ). p.1) (sym same))

all_read : (p q : Frame × List ℕ) → all_of p ≡ Some q → (p.1 ≡ []) × (p ≡ q)
all_read p q e =
    let g = guard_some (not (eqb (length p.1) 0)) (Some p) q e in
    (nil_from_length p.1 (eqb-true (length p.1) 0 (not-false (eqb (length p.1) 0) g.0)), some_is p q g.1)

IsBytes-behind : (v code : ℕ) (rest : List ℕ) → IsBytes (v ∷ code ∷ rest) → IsBytes rest
IsBytes-behind v code rest fits i =
    let h : get_or (drop 2 (v ∷ code ∷ rest)) i 0 < 256 = rw get_or-drop (fits (2 + i)) in h

pub body_at-body : (bytes : List ℕ) (f : Frame) → IsBytes bytes → body_at bytes ≡ Some f → IsBody bytes f
unfolding body_at
body_at-body [] f fits e =
    let none : body_at [] ≡ None = body_at-short [] (omega arith) in
    absurd cc
body_at-body (b ∷ []) f fits e =
    let none : body_at (b ∷ []) ≡ None = body_at-short (b ∷ []) (omega arith) in
    absurd cc
body_at-body (v ∷ code ∷ rest) f fits e =
    let a = bind_some (inner_kind_at (v ∷ code ∷ rest)) (λ kind. frame_at kind.0 kind.1 >>= λ fields. all_of fields >>= λ whole. Some whole.0) f e in
    let kind = kind_read v code rest a.0.0 a.0.1 a.1 in
    let b = bind_some (frame_at a.0.0 a.0.1) (λ fields. all_of fields >>= λ whole. Some whole.0) f a.2 in
    let c = bind_some (all_of b.0) (λ whole. Some whole.0) f b.2 in
    let whole = all_read b.0 c.0 c.1 in
    let is_f : b.0.0 ≡ f = ap (λ (p : Frame × List ℕ). p.0) whole.1 ∙ some_is c.0.0 f c.2 in
    let read : frame_at a.0.0 rest ≡ some (f, []) =
    ap (frame_at a.0.0) (sym kind.1) ∙ b.1 ∙ ap (λ x. some (x, b.0.1)) is_f ∙ ap (λ xs. some (f, xs)) whole.0 in
    let begun = begins v code a.0.0 rest f [] (IsBytes-behind v code rest fits) kind.0 read in
    record {
      well_formed = begun.well_formed;
      spelled = begun.spelled ∙ append-nil (body f);
    }

-- Every body is read

read_parts : (k : Kind) (rest : List ℕ) (f : Frame) → kind_at (version_of k) (code_of k) ≡ Some k → frame_at k rest ≡ Some (f, []) → body_at (version_of k ∷ code_of k ∷ rest) ≡ Some f
unfolding body_at inner_kind_at
read_parts k rest f is read = rw (is, read) refl

pub body-body_at : (bytes : List ℕ) (f : Frame) → IsBody bytes f → body_at bytes ≡ Some f
body-body_at bytes f is =
    let k = kind_of f in
    let bytes_are : bytes ≡ version_of k ∷ code_of k ∷ fields f = is.spelled ∙ body_is f in
    let read = begun (version_of k) (code_of k) k (fields f) f [] (kind_at-code k) (record { well_formed = is.well_formed; spelled = sym bytes_are ∙ is.spelled ∙ sym (append-nil (body f)); inner_to_the_end = λ _. refl }) in
    ap body_at bytes_are ∙ read_parts k (fields f) f (kind_at-code k) read

-- A body with a fault is not read

none_unless : (o : Option Frame) → ((f : Frame) → o ≡ Some f → ⊥) → o ≡ None
none_unless None h = refl
none_unless (Some f) h = absurd (h f refl)

pub body_at-fault : (bytes : List ℕ) (fault : FrameFault) → IsBytes bytes → HasFault bytes fault → body_at bytes ≡ None
body_at-fault bytes fault fits h = none_unless (body_at bytes) (λ f is. no_fault bytes f fault (body_at-body bytes f fits is) h)

-- A body with a fault is refused for that fault.
pub fault-fails : (bytes : List ℕ) (fault : FrameFault) → IsBytes bytes → IsFaultOf bytes fault → Fails (unread_of fault) (body_at bytes)
fault-fails bytes faults.Memory fits h = tt
fault-fails bytes faults.BadLength fits h = elim h [ inl e ↦ absurd cc | inr has ↦ body_at-fault bytes faults.BadLength fits has ]
fault-fails bytes faults.BadVersion fits h = elim h [ inl e ↦ absurd cc | inr has ↦ body_at-fault bytes faults.BadVersion fits has ]
fault-fails bytes faults.BadKind fits h = elim h [ inl e ↦ absurd cc | inr has ↦ body_at-fault bytes faults.BadKind fits has ]
fault-fails bytes faults.BadField fits h = elim h [ inl e ↦ absurd cc | inr has ↦ body_at-fault bytes faults.BadField fits has ]
fault-fails bytes faults.LeftOver fits h = elim h [ inl e ↦ absurd cc | inr has ↦ body_at-fault bytes faults.LeftOver fits has ]
fault-fails bytes faults.Truncated fits h = elim h [ inl e ↦ absurd cc | inr has ↦ body_at-fault bytes faults.Truncated fits has ]
fault-fails bytes faults.Failed fits h = elim h [ inl e ↦ absurd cc | inr has ↦ body_at-fault bytes faults.Failed fits has ]

-- The law

IsBytes-from_All : (bytes : List ℕ) → All (λ b. b < 256) bytes → IsBytes bytes
IsBytes-from_All bytes small i =
    elim (cases_lt i (length bytes)) [
      | inl within ↦ All-get_or (λ b. b < 256) bytes i 0 within small
      | inr past ↦
          let e : get_or bytes i 0 ≡ 0 = get_or-eq_default bytes 0 past in
          omega (arith, e)
    ]

pub reads_bodies : ReadsBodies
reads_bodies bytes f small = (body_at-body bytes f (IsBytes-from_All bytes small), body-body_at bytes f)
