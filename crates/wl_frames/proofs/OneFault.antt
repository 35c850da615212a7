-- Lemmas on faults: a body has only one fault, and none if it is the body of a frame.
use Rattle.std.proofs.Common.{◌≡◌, ℕ, List, [], ◌∷◌, ◌++◌, Bool, true, false, refl, sym, ap, ◌∙◌, subst, inl, inr}
use Rattle.wl_grammar.specs.declared.frame.Frame.{Frame}
use Rattle.wl_grammar.specs.declared.frame.Frame.TheVariants as frame
use Rattle.wl_frames.specs.declared.fault.FrameFault.{FrameFault}
use Rattle.wl_frames.specs.declared.fault.FrameFault.TheVariants.{BadLength, BadVersion, BadKind, BadField, LeftOver, Truncated, Memory, Failed}
use Rattle.wl_grammar.specs.Grammar.{IsBody, body, command, report, report_part, post, hello, answer, snapshot, heard, welcome, pair_welcome, stamped, start, addressed, dead}
use Rattle.wl_frames.specs.Stream.{IsVersion, IsKind, is_envelope, Begins, HasFault}
use Rattle.wl_frames.proofs.Frames.{begins_whole}
use Rattle.wl_frames.proofs.OneFrame.{no_body_begins_another}

-- A body starts with its version and its kind.
record HasKind (bytes : List ℕ) : Type 0 where
  version : ℕ
  kind : ℕ
  fields : List ℕ
  spelled : bytes ≡ version ∷ kind ∷ fields
  is_kind : IsKind version kind

has_kind : (f : Frame) → HasKind (body f)
unfolding body command report report_part post hello answer snapshot heard welcome pair_welcome stamped start addressed dead
has_kind (frame.Command c) = record { version = _; kind = _; fields = _; spelled = refl; is_kind = IsKind.command }
has_kind (frame.Report r) = record { version = _; kind = _; fields = _; spelled = refl; is_kind = IsKind.report }
has_kind (frame.ReportPart r) = record { version = _; kind = _; fields = _; spelled = refl; is_kind = IsKind.report_part }
has_kind (frame.Post p) = record { version = _; kind = _; fields = _; spelled = refl; is_kind = IsKind.post }
has_kind (frame.Hello h) = record { version = _; kind = _; fields = _; spelled = refl; is_kind = IsKind.hello }
has_kind (frame.Answer a) = record { version = _; kind = _; fields = _; spelled = refl; is_kind = IsKind.answer }
has_kind (frame.Snapshot s) = record { version = _; kind = _; fields = _; spelled = refl; is_kind = IsKind.snapshot }
has_kind (frame.Heard h) = record { version = _; kind = _; fields = _; spelled = refl; is_kind = IsKind.heard }
has_kind (frame.Welcome w) = record { version = _; kind = _; fields = _; spelled = refl; is_kind = IsKind.welcome }
has_kind (frame.PairWelcome w) = record { version = _; kind = _; fields = _; spelled = refl; is_kind = IsKind.pair_welcome }
has_kind (frame.Stamped s) = record { version = _; kind = _; fields = _; spelled = refl; is_kind = IsKind.stamped }
has_kind (frame.Start s) = record { version = _; kind = _; fields = _; spelled = refl; is_kind = IsKind.start }
has_kind (frame.Addressed a) = record { version = _; kind = _; fields = _; spelled = refl; is_kind = IsKind.addressed }
has_kind (frame.Dead d) = record { version = _; kind = _; fields = _; spelled = refl; is_kind = IsKind.dead }

has_kind_ahead : (bytes : List ℕ) (f : Frame) (more : List ℕ) → bytes ≡ body f ++ more → HasKind bytes
has_kind_ahead bytes f more e =
    let k = has_kind f in
    record { version = k.version; kind = k.kind; fields = k.fields ++ more; spelled = e ∙ ap (λ (b : List ℕ). b ++ more) k.spelled; is_kind = k.is_kind }

version_is : (version kind : ℕ) → IsKind version kind → IsVersion version
version_is version kind IsKind.report_part = inr refl
version_is version kind IsKind.pair_welcome = inr refl
version_is version kind _ = inl refl

no_version : (bytes : List ℕ) → HasKind bytes → HasFault bytes BadVersion → ⊥
no_version bytes k (version, rest, e, other) =
    let same : k.version ≡ version = cc in
    other (subst IsVersion same (version_is k.version k.kind k.is_kind))

no_kind : (bytes : List ℕ) → HasKind bytes → HasFault bytes BadKind → ⊥
no_kind bytes k (version, kind, rest, e, known, unknown) =
    let same_version : k.version ≡ version = cc in
    let same_kind : k.kind ≡ kind = cc in
    unknown (subst (IsKind version) same_kind (subst (λ (n : ℕ). IsKind n k.kind) same_version k.is_kind))

ends : (b : Bool) (more : List ℕ) → (b ≡ true → more ≡ []) → (b ≡ false → more ≡ []) → more ≡ []
ends true more p q = p refl
ends false more p q = q refl

none_left : (bytes : List ℕ) (f g : Frame) (more : List ℕ) → IsBody bytes g → Begins bytes f more → more ≡ []
none_left bytes f g more p q =
    ends (is_envelope f) more q.inner_to_the_end (λ not_envelope. no_body_begins_another f g more q.well_formed p.well_formed not_envelope (sym p.spelled ∙ q.spelled))

pub no_fault : (bytes : List ℕ) (f : Frame) (d : FrameFault) → IsBody bytes f → HasFault bytes d → ⊥
no_fault bytes f BadVersion p h = no_version bytes (has_kind_ahead bytes f [] (begins_whole bytes f p).spelled) h
no_fault bytes f BadKind p h = no_kind bytes (has_kind_ahead bytes f [] (begins_whole bytes f p).spelled) h
no_fault bytes f BadField p (version, kind, rest, e, known, none) = none f [] (begins_whole bytes f p)
no_fault bytes f LeftOver p (g, more, begins, some) = some (none_left bytes g f more p begins)
no_fault bytes f BadLength p h = h
no_fault bytes f Truncated p h = h
no_fault bytes f Memory p h = h
no_fault bytes f Failed p h = h

-- A body with a faulty field, or with bytes left over, has a known kind.
kind_of_field : (bytes : List ℕ) → HasFault bytes BadField → HasKind bytes
kind_of_field bytes (version, kind, rest, e, known, none) = record { version = version; kind = kind; fields = rest; spelled = e; is_kind = known }

kind_of_left_over : (bytes : List ℕ) → HasFault bytes LeftOver → HasKind bytes
kind_of_left_over bytes (f, more, begins, some) = has_kind_ahead bytes f more begins.spelled

version_or_kind : (bytes : List ℕ) → HasFault bytes BadVersion → HasFault bytes BadKind → ⊥
version_or_kind bytes (version, rest, e, other) (same, kind, fields, f, known, unknown) =
    let is : same ≡ version = cc in
    other (subst IsVersion is known)

field_or_left_over : (bytes : List ℕ) → HasFault bytes BadField → HasFault bytes LeftOver → ⊥
field_or_left_over bytes (version, kind, rest, e, known, none) (f, more, begins, some) = none f more begins

pub one_fault : (bytes : List ℕ) (d e : FrameFault) → HasFault bytes d → HasFault bytes e → d ≡ e
one_fault bytes BadVersion BadVersion h i = refl
one_fault bytes BadVersion BadKind h i = absurd (version_or_kind bytes h i)
one_fault bytes BadVersion BadField h i = absurd (no_version bytes (kind_of_field bytes i) h)
one_fault bytes BadVersion LeftOver h i = absurd (no_version bytes (kind_of_left_over bytes i) h)
one_fault bytes BadKind BadVersion h i = absurd (version_or_kind bytes i h)
one_fault bytes BadKind BadKind h i = refl
one_fault bytes BadKind BadField h i = absurd (no_kind bytes (kind_of_field bytes i) h)
one_fault bytes BadKind LeftOver h i = absurd (no_kind bytes (kind_of_left_over bytes i) h)
one_fault bytes BadField BadVersion h i = absurd (no_version bytes (kind_of_field bytes h) i)
one_fault bytes BadField BadKind h i = absurd (no_kind bytes (kind_of_field bytes h) i)
one_fault bytes BadField BadField h i = refl
one_fault bytes BadField LeftOver h i = absurd (field_or_left_over bytes h i)
one_fault bytes LeftOver BadVersion h i = absurd (no_version bytes (kind_of_left_over bytes h) i)
one_fault bytes LeftOver BadKind h i = absurd (no_kind bytes (kind_of_left_over bytes h) i)
one_fault bytes LeftOver BadField h i = absurd (field_or_left_over bytes i h)
one_fault bytes LeftOver LeftOver h i = refl
one_fault bytes BadLength e h i = absurd h
one_fault bytes Truncated e h i = absurd h
one_fault bytes Memory e h i = absurd h
one_fault bytes Failed e h i = absurd h
one_fault bytes d BadLength h i = absurd i
one_fault bytes d Truncated h i = absurd i
one_fault bytes d Memory h i = absurd i
one_fault bytes d Failed h i = absurd i
