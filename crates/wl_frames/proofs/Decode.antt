-- Results of `decode`, from the parts of a body.
use Rattle.std.proofs.Common.{◌≡◌, ℕ, ◌+◌, ◌-◌, ◌<◌, ◌≤◌, List, [], ◌∷◌, ◌++◌, length, get_or, take, drop, Option, Some, None, refl, sym, ap, subst, ◌∙◌, arith, inl, inr}
use Rattle.std.proofs.lemmas.List.{append-nil, take_rest, nil_from_length, get_or-drop}
use Rattle.wl_frames.specs.declared.fault.FrameFault.TheVariants.{BadKind, LeftOver}
use Rattle.wl_grammar.specs.declared.frame.Frame.{Frame}
use Rattle.wl_frames.specs.declared.reading.fault.ReadFault.{ReadFault}
use Rattle.wl_frames.specs.declared.reading.fault.ReadFault.TheVariants as read_fault
use Rattle.wl_frames.specs.declared.reading.kind.Kind.{Kind}
use Rattle.wl_grammar.specs.Grammar.{body, IsBody}
use Rattle.wl_frames.specs.Stream.{IsVersion, Begins, IsFaultOf}
use Rattle.wl_frames.specs.Reading.{Fails, frame_fault, kind_at}
use Rattle.wl_frames.specs.Bodies.{frame_at}
use Rattle.wl_frames.proofs.Forms.{IsBytes}
use Rattle.wl_frames.proofs.Frames.{begins, begun, no_kind, IsKind-from_kind}

-- The bytes after the version and the kind.
abbrev pub rest_of : List ℕ → List ℕ
rest_of bytes = take (length bytes - 2) (drop 2 bytes)

parts_of : (bytes : List ℕ) → 2 ≤ length bytes → bytes ≡ get_or bytes 0 0 ∷ get_or bytes 1 0 ∷ rest_of bytes
parts_of [] h = absurd (omega arith)
parts_of (b ∷ []) h = absurd (omega arith)
parts_of (b ∷ c ∷ bs) h = ap (λ (w : List ℕ). b ∷ c ∷ w) (sym (take_rest (b ∷ c ∷ bs) 2))

IsBytes-rest_of : (bytes : List ℕ) → IsBytes bytes → IsBytes (rest_of bytes)
IsBytes-rest_of bytes h i = subst (λ (w : List ℕ). get_or w i 0 < 256) (sym (take_rest bytes 2)) (rw get_or-drop (h (2 + i)))

-- The kind that the first two bytes name.
abbrev pub kind_in : List ℕ → Option Kind
kind_in bytes = kind_at (get_or bytes 0 0) (get_or bytes 1 0)

pub bad_kind : (bytes : List ℕ) → 2 ≤ length bytes → IsVersion (get_or bytes 0 0) → kind_in bytes ≡ None → IsFaultOf bytes BadKind
bad_kind bytes h known none =
    inr (get_or bytes 0 0, get_or bytes 1 0, rest_of bytes, parts_of bytes h, known, no_kind (get_or bytes 0 0) (get_or bytes 1 0) none)

abbrev some_of : {A : Type 0} → A → Option A
some_of x = Some x

abbrev none_of : {A : Type 0} → Option A
none_of = None

pub bad_fields : (bytes : List ℕ) (k : Kind) (fault : ReadFault) → 2 ≤ length bytes → kind_in bytes ≡ Some k
    → Fails fault (frame_at k (rest_of bytes)) → IsFaultOf bytes (frame_fault fault)
bad_fields bytes k read_fault.Memory h is fails = inl refl
bad_fields bytes k read_fault.Field h is fails =
    let version = get_or bytes 0 0 in
    let code = get_or bytes 1 0 in
    inr (
      version,
      code,
      rest_of bytes,
      parts_of bytes h,
      IsKind-from_kind version code k is,
      λ f more b.
          let read = begun version code k (rest_of bytes) f more is (subst (λ (w : List ℕ). Begins w f more) (parts_of bytes h) b) in
          let both : none_of ≡ some_of (f, more) = sym fails ∙ read in
          absurd cc,
    )

begun_by : (bytes : List ℕ) (k : Kind) (f : Frame) (rest : List ℕ) → IsBytes bytes → 2 ≤ length bytes → kind_in bytes ≡ Some k
    → frame_at k (rest_of bytes) ≡ Some (f, rest) → Begins bytes f rest
begun_by bytes k f rest fits h is read =
    subst (λ (w : List ℕ). Begins w f rest) (sym (parts_of bytes h)) (begins (get_or bytes 0 0) (get_or bytes 1 0) k (rest_of bytes) f rest (IsBytes-rest_of bytes fits) is read)

pub left_over : (bytes : List ℕ) (k : Kind) (f : Frame) (rest : List ℕ) → IsBytes bytes → 2 ≤ length bytes → kind_in bytes ≡ Some k
    → frame_at k (rest_of bytes) ≡ Some (f, rest) → (length rest ≡ 0 → ⊥) → IsFaultOf bytes LeftOver
left_over bytes k f rest fits h is read more =
    inr (f, rest, begun_by bytes k f rest fits h is read, λ nothing. more (ap length nothing))

pub whole : (bytes : List ℕ) (k : Kind) (f : Frame) (rest : List ℕ) → IsBytes bytes → 2 ≤ length bytes → kind_in bytes ≡ Some k
    → frame_at k (rest_of bytes) ≡ Some (f, rest) → length rest ≡ 0 → IsBody bytes f
whole bytes k f rest fits h is read nothing =
    let b = begun_by bytes k f rest fits h is read in
    record {
      well_formed = b.well_formed;
      spelled = b.spelled ∙ ap (λ (w : List ℕ). body f ++ w) (nil_from_length rest nothing) ∙ append-nil (body f);
    }
