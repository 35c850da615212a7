-- Lemmas on frames: each decoded frame has its encoding, and each encoding is decoded to its frame.
use Rattle.std.proofs.Common.{◌≡◌, ℕ, Bool, true, false, cond, eqb, List, [], ◌∷◌, ◌++◌, length, Option, Some, None, refl, sym, ap, subst, ◌∙◌}
use Rattle.std.specs.Prelude.{⊤}
use Rattle.std.specs.List.{flat_map, AllByRecursion}
use Rattle.std.proofs.lemmas.Bool.{eqb-true}
use Rattle.std.proofs.lemmas.List.{append-nil}
use Rattle.wl_grammar.specs.declared.kinds.TheConstants.{FIRST_VERSION, SECOND_VERSION, COMMAND, REPORT, POST, HELLO, ANSWER, SNAPSHOT, HEARD, WELCOME, STAMPED, START, ADDRESSED, DEAD, REPORT_PART, PAIR_WELCOME}
use Rattle.wl_grammar.specs.declared.frame.Upward.{Upward}
use Rattle.wl_grammar.specs.declared.frame.Upward.TheVariants as up
use Rattle.wl_grammar.specs.declared.frame.Downward.{Downward}
use Rattle.wl_grammar.specs.declared.frame.Downward.TheVariants as down
use Rattle.wl_grammar.specs.declared.frame.Stamped.{Stamped}
use Rattle.wl_grammar.specs.declared.frame.Addressed.{Addressed}
use Rattle.wl_grammar.specs.declared.frame.Frame.{Frame}
use Rattle.wl_grammar.specs.declared.frame.Frame.TheVariants as frame
use Rattle.wl_frames.specs.declared.reading.kind.Kind.{Kind}
use Rattle.wl_frames.specs.declared.reading.kind.Kind.TheVariants as kind
use Rattle.wl_grammar.specs.Grammar.{u16, u32, IsTab, short_text, long_text, operation, entry, snapshot_entry, place, spelled_outcome, command, report, report_part, post, hello, answer, snapshot, heard, welcome, pair_welcome, upward, IsUpward, downward, IsDownward, stamped, IsStamped, start, addressed, IsAddressed, dead, body, IsWellFormed, IsBody}
use Rattle.wl_frames.specs.Stream.{IsKind, command as is_command, report as is_report, post as is_post, hello as is_hello, answer as is_answer, snapshot as is_snapshot, heard as is_heard, welcome as is_welcome, stamped as is_stamped, start as is_start, addressed as is_addressed, dead as is_dead, report_part as is_report_part, pair_welcome as is_pair_welcome, is_envelope, Begins}
use Rattle.wl_frames.specs.Reading.{◌>>=◌, byte_at, first_kinds, second_kinds, kinds_of, kind_at}
use Rattle.wl_frames.specs.Bodies.{inner_kind_at, upward_fields_at, upward_at, stamped_at, downward_fields_at, downward_at, addressed_at, frame_at}
use Rattle.wl_frames.proofs.Forms.{IsBytes, Any, Nothing, Takes, IsForm, bind_some, some_is, then_form, last_form, same_form, whole_form, wrapped, wrapped_again}
use Rattle.wl_frames.proofs.Fields.{value_is, byte_form, tab_form}
use Rattle.wl_frames.proofs.Bodies.{command_form, report_form, report_part_form, post_form, hello_form, answer_form, snapshot_form, heard_form, welcome_form, pair_welcome_form, start_form, dead_form}

-- Versions and kinds

abbrev pub code_of : Kind → ℕ
code_of kind.Command = COMMAND
code_of kind.Report = REPORT
code_of kind.Post = POST
code_of kind.Hello = HELLO
code_of kind.Answer = ANSWER
code_of kind.Snapshot = SNAPSHOT
code_of kind.Heard = HEARD
code_of kind.Welcome = WELCOME
code_of kind.Stamped = STAMPED
code_of kind.Start = START
code_of kind.Addressed = ADDRESSED
code_of kind.Dead = DEAD
code_of kind.ReportPart = REPORT_PART
code_of kind.PairWelcome = PAIR_WELCOME

abbrev pub version_of : Kind → ℕ
version_of kind.ReportPart = SECOND_VERSION
version_of kind.PairWelcome = SECOND_VERSION
version_of _ = FIRST_VERSION

abbrev AreKinds : ℕ → List (ℕ × Kind) → Type 0
AreKinds version table = AllByRecursion (λ e. (version ≡ version_of e.1) × (e.0 ≡ code_of e.1)) table

first_are : AreKinds FIRST_VERSION first_kinds
first_are = (
  (refl, refl),
  (
    (refl, refl),
    (
      (refl, refl),
      (
        (refl, refl),
        (
          (refl, refl),
          (
            (refl, refl),
            ((refl, refl), ((refl, refl), ((refl, refl), ((refl, refl), ((refl, refl), ((refl, refl), tt)))))),
          ),
        ),
      ),
    ),
  ),
)

second_are : AreKinds SECOND_VERSION second_kinds
second_are = ((refl, refl), ((refl, refl), tt))

kinds_by : (version : ℕ) (first second : Bool) → eqb version FIRST_VERSION ≡ first → eqb version SECOND_VERSION ≡ second
    → AreKinds version (cond first first_kinds (cond second second_kinds []))
kinds_by version true second e f =
    subst (λ (n : ℕ). AreKinds n first_kinds) (sym (eqb-true version FIRST_VERSION e)) first_are
kinds_by version false true e f =
    subst (λ (n : ℕ). AreKinds n second_kinds) (sym (eqb-true version SECOND_VERSION f)) second_are
kinds_by version false false e f = tt

kinds_are : (version : ℕ) → AreKinds version (kinds_of version)
kinds_are version = kinds_by version (eqb version FIRST_VERSION) (eqb version SECOND_VERSION) refl refl

pub kind_at-code : (k : Kind) → kind_at (version_of k) (code_of k) ≡ Some k
unfolding kind_at
kind_at-code kind.Command = refl
kind_at-code kind.Report = refl
kind_at-code kind.Post = refl
kind_at-code kind.Hello = refl
kind_at-code kind.Answer = refl
kind_at-code kind.Snapshot = refl
kind_at-code kind.Heard = refl
kind_at-code kind.Welcome = refl
kind_at-code kind.Stamped = refl
kind_at-code kind.Start = refl
kind_at-code kind.Addressed = refl
kind_at-code kind.Dead = refl
kind_at-code kind.ReportPart = refl
kind_at-code kind.PairWelcome = refl

pub from_kind : (version code : ℕ) (k : Kind) → kind_at version code ≡ Some k → (version ≡ version_of k) × (code ≡ code_of k)
unfolding kind_at
from_kind version code k e =
    value_is (λ n k. (version ≡ version_of k) × (n ≡ code_of k)) (kinds_of version) code k (kinds_are version) e

kind_is : (k : Kind) → IsKind (version_of k) (code_of k)
kind_is kind.Command = is_command
kind_is kind.Report = is_report
kind_is kind.Post = is_post
kind_is kind.Hello = is_hello
kind_is kind.Answer = is_answer
kind_is kind.Snapshot = is_snapshot
kind_is kind.Heard = is_heard
kind_is kind.Welcome = is_welcome
kind_is kind.Stamped = is_stamped
kind_is kind.Start = is_start
kind_is kind.Addressed = is_addressed
kind_is kind.Dead = is_dead
kind_is kind.ReportPart = is_report_part
kind_is kind.PairWelcome = is_pair_welcome

pub IsKind-from_kind : (version code : ℕ) (k : Kind) → kind_at version code ≡ Some k → IsKind version code
IsKind-from_kind version code k e =
    let h = from_kind version code k e in
    subst (λ (n : ℕ). IsKind n code) (sym h.0) (subst (IsKind (version_of k)) (sym h.1) (kind_is k))

some_kind : (version code : ℕ) → IsKind version code → (k : Kind) × (kind_at version code ≡ Some k)
unfolding kind_at
some_kind version code is_command = (kind.Command, refl)
some_kind version code is_report = (kind.Report, refl)
some_kind version code is_post = (kind.Post, refl)
some_kind version code is_hello = (kind.Hello, refl)
some_kind version code is_answer = (kind.Answer, refl)
some_kind version code is_snapshot = (kind.Snapshot, refl)
some_kind version code is_heard = (kind.Heard, refl)
some_kind version code is_welcome = (kind.Welcome, refl)
some_kind version code is_stamped = (kind.Stamped, refl)
some_kind version code is_start = (kind.Start, refl)
some_kind version code is_addressed = (kind.Addressed, refl)
some_kind version code is_dead = (kind.Dead, refl)
some_kind version code is_report_part = (kind.ReportPart, refl)
some_kind version code is_pair_welcome = (kind.PairWelcome, refl)

abbrev some_of : {A : Type 0} → A → Option A
some_of x = Some x

abbrev none_of : {A : Type 0} → Option A
none_of = None

pub no_kind : (version code : ℕ) → kind_at version code ≡ None → IsKind version code → ⊥
no_kind version code e is =
    let k = some_kind version code is in
    let same : none_of ≡ some_of k.0 = sym e ∙ k.1 in
    absurd cc

-- Inner bodies

inner_kind_form : IsForm (λ k. version_of k ∷ code_of k ∷ []) (λ k. ⊤) Any inner_kind_at
unfolding inner_kind_at
inner_kind_form = record {
  takes = λ bytes k rest fits e.
      let a = bind_some (byte_at bytes) (λ version. byte_at version.1 >>= λ code. kind_at version.0 code.0 >>= λ k. Some (k, code.1)) (k, rest) e in
      let b = bind_some (byte_at a.0.1) (λ code. kind_at a.0.0 code.0 >>= λ k. Some (k, code.1)) (k, rest) a.2 in
      let v = bind_some (kind_at a.0.0 b.0.0) (λ k. Some (k, b.0.1)) (k, rest) b.2 in
      let one = byte_form.takes bytes a.0.0 a.0.1 fits a.1 in
      let two = byte_form.takes a.0.1 b.0.0 b.0.1 one.rest_fits b.1 in
      let head = from_kind a.0.0 b.0.0 v.0 v.1 in
      subst (λ (z : Kind × List ℕ). Takes (λ k. version_of k ∷ code_of k ∷ []) (λ k. ⊤) Any bytes z.0 z.1) (some_is (v.0, b.0.1) (k, rest) v.2)
      (record {
        parts = one.parts ∙ ap (λ (w : List ℕ). a.0.0 ∷ w) two.parts ∙ ap (λ (n : ℕ). n ∷ b.0.0 ∷ b.0.1) head.0 ∙ ap (λ (n : ℕ). version_of v.0 ∷ n ∷ b.0.1) head.1;
        fits = tt;
        ends = tt;
        rest_fits = two.rest_fits;
      });
  again = λ k rest fits ends. ap (λ (o : Option Kind). o >>= λ k. Some (k, rest)) (kind_at-code k);
}

abbrev up_kind : Upward → Kind
up_kind (up.Command c) = kind.Command
up_kind (up.Report r) = kind.Report
up_kind (up.ReportPart r) = kind.ReportPart

abbrev up_fields : Upward → List ℕ
up_fields (up.Command c) = u32 c.generation ++ u32 c.number ++ operation c.operation
up_fields (up.Report r) = u32 r.generation ++ u32 r.base ++ u16 (length r.entries) ++ flat_map entry r.entries
up_fields (up.ReportPart r) = u32 r.generation ++ u32 r.base ++ u16 r.part ++ u16 r.parts ++ u16 (length r.entries) ++ flat_map entry r.entries

upward_is : (u : Upward) → upward u ≡ version_of (up_kind u) ∷ code_of (up_kind u) ∷ up_fields u
unfolding upward command report report_part
upward_is (up.Command c) = refl
upward_is (up.Report r) = refl
upward_is (up.ReportPart r) = refl

abbrev IsUpwardOf : Kind → Upward → Type 0
IsUpwardOf k u = ((up_kind u ≡ k) × ⊤) × IsUpward u

up_takes : (k : Kind) (bytes : List ℕ) (u : Upward) (rest : List ℕ) → IsBytes bytes → upward_fields_at k bytes ≡ Some (u, rest) → Takes up_fields (IsUpwardOf k) Any bytes u rest
up_takes kind.Command bytes u rest fits e = wrapped (λ c. up.Command c) up_fields (IsUpwardOf kind.Command) command_form (λ c. refl) (λ c h. ((refl, tt), h)) bytes u rest fits e
up_takes kind.Report bytes u rest fits e = wrapped (λ r. up.Report r) up_fields (IsUpwardOf kind.Report) report_form (λ r. refl) (λ r h. ((refl, tt), h)) bytes u rest fits e
up_takes kind.ReportPart bytes u rest fits e = wrapped (λ r. up.ReportPart r) up_fields (IsUpwardOf kind.ReportPart) report_part_form (λ r. refl) (λ r h. ((refl, tt), h)) bytes u rest fits e
up_takes _ bytes u rest fits e = absurd cc

up_again : (u : Upward) (rest : List ℕ) → IsUpward u → upward_fields_at (up_kind u) (up_fields u ++ rest) ≡ Some (u, rest)
up_again (up.Command c) rest h = wrapped_again (λ c. up.Command c) command_form (up_fields (up.Command c)) c rest refl h tt
up_again (up.Report r) rest h = wrapped_again (λ r. up.Report r) report_form (up_fields (up.Report r)) r rest refl h tt
up_again (up.ReportPart r) rest h = wrapped_again (λ r. up.ReportPart r) report_part_form (up_fields (up.ReportPart r)) r rest refl h tt

up_fields_form : (k : Kind) → IsForm up_fields (IsUpwardOf k) Any (upward_fields_at k)
up_fields_form k = record {
  takes = up_takes k;
  again = λ u rest h ends. subst (λ (k : Kind). upward_fields_at k (up_fields u ++ rest) ≡ Some (u, rest)) h.0.0 (up_again u rest h.1);
}

upward_form : IsForm upward IsUpward Nothing upward_at
unfolding upward_at
upward_form =
    let parts : IsForm (λ (u : Upward). (version_of (up_kind u) ∷ code_of (up_kind u) ∷ []) ++ up_fields u) (λ u. ⊤ × (⊤ × IsUpward u)) Nothing upward_at =
    then_form _ up_kind inner_kind_form (λ k. whole_form (up_fields_form k)) in
    same_form parts upward_is (λ u h. h.1.1) (λ u h. (tt, (tt, h)))

stamped_form : IsForm (λ s. u16 s.tab ++ u16 s.partition ++ upward s.inner) IsStamped Nothing stamped_at
unfolding stamped_at
stamped_form =
    let parts : IsForm (λ (s : Stamped). u16 s.tab ++ (u16 s.partition ++ upward s.inner)) (λ s. ⊤ × (IsTab s.tab × (IsTab s.partition × IsUpward s.inner))) Nothing stamped_at =
    then_form _ (λ s. s.tab) tab_form (λ t. then_form _ (λ s. s.partition) tab_form (λ p. last_form (λ s. s.inner) (λ i. record { tab = t; partition = p; inner = i }) upward_form (λ s k. rw (← k.0, ← k.1.0) refl) (λ i. ((refl, (refl, tt)), refl)))) in
    same_form parts
    (λ s. refl)
    (λ s h. record { tab = h.1.0; partition = h.1.1.0; inner = h.1.1.1 })
    (λ s h. (tt, (h.tab, (h.partition, h.inner))))

abbrev down_kind : Downward → Kind
down_kind (down.Hello h) = kind.Hello
down_kind (down.Answer a) = kind.Answer
down_kind (down.Snapshot s) = kind.Snapshot

abbrev down_fields : Downward → List ℕ
down_fields (down.Hello h) = u32 h.generation
down_fields (down.Answer a) = u32 a.generation ++ u32 a.upto ++ u32 a.number ++ spelled_outcome a.outcome
down_fields (down.Snapshot s) = u32 s.generation ++ u32 s.number ++ u16 s.part ++ u16 s.parts ++ u16 (length s.entries) ++ flat_map snapshot_entry s.entries

downward_is : (d : Downward) → downward d ≡ version_of (down_kind d) ∷ code_of (down_kind d) ∷ down_fields d
unfolding downward hello answer snapshot
downward_is (down.Hello h) = refl
downward_is (down.Answer a) = refl
downward_is (down.Snapshot s) = refl

abbrev IsDownwardOf : Kind → Downward → Type 0
IsDownwardOf k d = ((down_kind d ≡ k) × ⊤) × IsDownward d

down_takes : (k : Kind) (bytes : List ℕ) (d : Downward) (rest : List ℕ) → IsBytes bytes → downward_fields_at k bytes ≡ Some (d, rest) → Takes down_fields (IsDownwardOf k) Any bytes d rest
down_takes kind.Hello bytes d rest fits e = wrapped (λ h. down.Hello h) down_fields (IsDownwardOf kind.Hello) hello_form (λ h. refl) (λ x h. ((refl, tt), h)) bytes d rest fits e
down_takes kind.Answer bytes d rest fits e = wrapped (λ a. down.Answer a) down_fields (IsDownwardOf kind.Answer) answer_form (λ a. refl) (λ a h. ((refl, tt), h)) bytes d rest fits e
down_takes kind.Snapshot bytes d rest fits e = wrapped (λ s. down.Snapshot s) down_fields (IsDownwardOf kind.Snapshot) snapshot_form (λ s. refl) (λ s h. ((refl, tt), h)) bytes d rest fits e
down_takes _ bytes d rest fits e = absurd cc

down_again : (d : Downward) (rest : List ℕ) → IsDownward d → downward_fields_at (down_kind d) (down_fields d ++ rest) ≡ Some (d, rest)
down_again (down.Hello x) rest h = wrapped_again (λ h. down.Hello h) hello_form (down_fields (down.Hello x)) x rest refl h tt
down_again (down.Answer a) rest h = wrapped_again (λ a. down.Answer a) answer_form (down_fields (down.Answer a)) a rest refl h tt
down_again (down.Snapshot s) rest h = wrapped_again (λ s. down.Snapshot s) snapshot_form (down_fields (down.Snapshot s)) s rest refl h tt

down_fields_form : (k : Kind) → IsForm down_fields (IsDownwardOf k) Any (downward_fields_at k)
down_fields_form k = record {
  takes = down_takes k;
  again = λ d rest h ends. subst (λ (k : Kind). downward_fields_at k (down_fields d ++ rest) ≡ Some (d, rest)) h.0.0 (down_again d rest h.1);
}

downward_form : IsForm downward IsDownward Nothing downward_at
unfolding downward_at
downward_form =
    let parts : IsForm (λ (d : Downward). (version_of (down_kind d) ∷ code_of (down_kind d) ∷ []) ++ down_fields d) (λ d. ⊤ × (⊤ × IsDownward d)) Nothing downward_at =
    then_form _ down_kind inner_kind_form (λ k. whole_form (down_fields_form k)) in
    same_form parts downward_is (λ d h. h.1.1) (λ d h. (tt, (tt, h)))

addressed_form : IsForm (λ a. u16 a.tab ++ downward a.inner) IsAddressed Nothing addressed_at
unfolding addressed_at
addressed_form =
    let parts : IsForm (λ (a : Addressed). u16 a.tab ++ downward a.inner) (λ a. ⊤ × (IsTab a.tab × IsDownward a.inner)) Nothing addressed_at =
    then_form _ (λ a. a.tab) tab_form (λ t. last_form (λ a. a.inner) (λ i. record { tab = t; inner = i }) downward_form (λ a k. rw (← k.0) refl) (λ i. ((refl, tt), refl))) in
    same_form parts (λ a. refl) (λ a h. record { tab = h.1.0; inner = h.1.1 }) (λ a h. (tt, (h.tab, h.inner)))

-- Frames

abbrev pub kind_of : Frame → Kind
kind_of (frame.Command c) = kind.Command
kind_of (frame.Report r) = kind.Report
kind_of (frame.ReportPart r) = kind.ReportPart
kind_of (frame.Post p) = kind.Post
kind_of (frame.Hello h) = kind.Hello
kind_of (frame.Answer a) = kind.Answer
kind_of (frame.Snapshot s) = kind.Snapshot
kind_of (frame.Heard h) = kind.Heard
kind_of (frame.Welcome w) = kind.Welcome
kind_of (frame.PairWelcome w) = kind.PairWelcome
kind_of (frame.Stamped s) = kind.Stamped
kind_of (frame.Start s) = kind.Start
kind_of (frame.Addressed a) = kind.Addressed
kind_of (frame.Dead d) = kind.Dead

-- The encoded fields of a frame, after its version and its kind.
abbrev pub fields : Frame → List ℕ
fields (frame.Command c) = u32 c.generation ++ u32 c.number ++ operation c.operation
fields (frame.Report r) = u32 r.generation ++ u32 r.base ++ u16 (length r.entries) ++ flat_map entry r.entries
fields (frame.ReportPart r) = u32 r.generation ++ u32 r.base ++ u16 r.part ++ u16 r.parts ++ u16 (length r.entries) ++ flat_map entry r.entries
fields (frame.Post p) = u32 p.number ++ short_text p.channel ++ long_text p.bytes
fields (frame.Hello h) = u32 h.generation
fields (frame.Answer a) = u32 a.generation ++ u32 a.upto ++ u32 a.number ++ spelled_outcome a.outcome
fields (frame.Snapshot s) = u32 s.generation ++ u32 s.number ++ u16 s.part ++ u16 s.parts ++ u16 (length s.entries) ++ flat_map snapshot_entry s.entries
fields (frame.Heard h) = u16 h.source ++ u32 h.number ++ short_text h.channel ++ long_text h.bytes
fields (frame.Welcome w) = u16 w.tab ++ long_text w.origin
fields (frame.PairWelcome w) = u16 w.tab ++ long_text w.top ++ long_text w.own
fields (frame.Stamped s) = u16 s.tab ++ u16 s.partition ++ upward s.inner
fields (frame.Start s) = u32 s.generation ++ u16 (length s.list) ++ flat_map place s.list
fields (frame.Addressed a) = u16 a.tab ++ downward a.inner
fields (frame.Dead d) = u16 d.tab

pub body_is : (f : Frame) → body f ≡ version_of (kind_of f) ∷ code_of (kind_of f) ∷ fields f
unfolding body command report report_part post hello answer snapshot heard welcome pair_welcome stamped start addressed dead
body_is (frame.Command c) = refl
body_is (frame.Report r) = refl
body_is (frame.ReportPart r) = refl
body_is (frame.Post p) = refl
body_is (frame.Hello h) = refl
body_is (frame.Answer a) = refl
body_is (frame.Snapshot s) = refl
body_is (frame.Heard h) = refl
body_is (frame.Welcome w) = refl
body_is (frame.PairWelcome w) = refl
body_is (frame.Stamped s) = refl
body_is (frame.Start s) = refl
body_is (frame.Addressed a) = refl
body_is (frame.Dead d) = refl

-- The bytes that may follow the fields of a kind: none after an inner body, and any otherwise.
abbrev pub Ends : Kind → List ℕ → Type 0
Ends kind.Stamped rest = Nothing rest
Ends kind.Addressed rest = Nothing rest
Ends _ rest = ⊤

pub ends_at_envelope : (f : Frame) (rest : List ℕ) → Ends (kind_of f) rest → is_envelope f ≡ true → rest ≡ []
ends_at_envelope (frame.Stamped s) rest h e = h
ends_at_envelope (frame.Addressed a) rest h e = h
ends_at_envelope _ rest h e = absurd cc

pub Ends-from_envelope : (f : Frame) (rest : List ℕ) → (is_envelope f ≡ true → rest ≡ []) → Ends (kind_of f) rest
Ends-from_envelope (frame.Stamped s) rest h = h refl
Ends-from_envelope (frame.Addressed a) rest h = h refl
Ends-from_envelope _ rest h = tt

abbrev pub IsFrameOf : Kind → Frame → Type 0
IsFrameOf k f = (kind_of f ≡ k) × IsWellFormed f

pub frame_takes : (k : Kind) (bytes : List ℕ) (f : Frame) (rest : List ℕ) → IsBytes bytes → frame_at k bytes ≡ Some (f, rest) → Takes fields (IsFrameOf k) (Ends k) bytes f rest
frame_takes kind.Command bytes f rest fits e = wrapped (λ c. frame.Command c) fields (IsFrameOf kind.Command) command_form (λ c. refl) (λ c h. (refl, h)) bytes f rest fits e
frame_takes kind.Report bytes f rest fits e = wrapped (λ r. frame.Report r) fields (IsFrameOf kind.Report) report_form (λ r. refl) (λ r h. (refl, h)) bytes f rest fits e
frame_takes kind.ReportPart bytes f rest fits e = wrapped (λ r. frame.ReportPart r) fields (IsFrameOf kind.ReportPart) report_part_form (λ r. refl) (λ r h. (refl, h)) bytes f rest fits e
frame_takes kind.Post bytes f rest fits e = wrapped (λ p. frame.Post p) fields (IsFrameOf kind.Post) post_form (λ p. refl) (λ p h. (refl, h)) bytes f rest fits e
frame_takes kind.Hello bytes f rest fits e = wrapped (λ h. frame.Hello h) fields (IsFrameOf kind.Hello) hello_form (λ h. refl) (λ x h. (refl, h)) bytes f rest fits e
frame_takes kind.Answer bytes f rest fits e = wrapped (λ a. frame.Answer a) fields (IsFrameOf kind.Answer) answer_form (λ a. refl) (λ a h. (refl, h)) bytes f rest fits e
frame_takes kind.Snapshot bytes f rest fits e = wrapped (λ s. frame.Snapshot s) fields (IsFrameOf kind.Snapshot) snapshot_form (λ s. refl) (λ s h. (refl, h)) bytes f rest fits e
frame_takes kind.Heard bytes f rest fits e = wrapped (λ h. frame.Heard h) fields (IsFrameOf kind.Heard) heard_form (λ h. refl) (λ x h. (refl, h)) bytes f rest fits e
frame_takes kind.Welcome bytes f rest fits e = wrapped (λ w. frame.Welcome w) fields (IsFrameOf kind.Welcome) welcome_form (λ w. refl) (λ w h. (refl, h)) bytes f rest fits e
frame_takes kind.PairWelcome bytes f rest fits e = wrapped (λ w. frame.PairWelcome w) fields (IsFrameOf kind.PairWelcome) pair_welcome_form (λ w. refl) (λ w h. (refl, h)) bytes f rest fits e
frame_takes kind.Stamped bytes f rest fits e = wrapped (λ s. frame.Stamped s) fields (IsFrameOf kind.Stamped) stamped_form (λ s. refl) (λ s h. (refl, h)) bytes f rest fits e
frame_takes kind.Start bytes f rest fits e = wrapped (λ s. frame.Start s) fields (IsFrameOf kind.Start) start_form (λ s. refl) (λ s h. (refl, h)) bytes f rest fits e
frame_takes kind.Addressed bytes f rest fits e = wrapped (λ a. frame.Addressed a) fields (IsFrameOf kind.Addressed) addressed_form (λ a. refl) (λ a h. (refl, h)) bytes f rest fits e
frame_takes kind.Dead bytes f rest fits e = wrapped (λ d. frame.Dead d) fields (IsFrameOf kind.Dead) dead_form (λ d. refl) (λ d h. (refl, h)) bytes f rest fits e

pub frame_again : (f : Frame) (rest : List ℕ) → IsWellFormed f → Ends (kind_of f) rest → frame_at (kind_of f) (fields f ++ rest) ≡ Some (f, rest)
frame_again (frame.Command c) rest h e = wrapped_again (λ c. frame.Command c) command_form (fields (frame.Command c)) c rest refl h e
frame_again (frame.Report r) rest h e = wrapped_again (λ r. frame.Report r) report_form (fields (frame.Report r)) r rest refl h e
frame_again (frame.ReportPart r) rest h e = wrapped_again (λ r. frame.ReportPart r) report_part_form (fields (frame.ReportPart r)) r rest refl h e
frame_again (frame.Post p) rest h e = wrapped_again (λ p. frame.Post p) post_form (fields (frame.Post p)) p rest refl h e
frame_again (frame.Hello x) rest h e = wrapped_again (λ h. frame.Hello h) hello_form (fields (frame.Hello x)) x rest refl h e
frame_again (frame.Answer a) rest h e = wrapped_again (λ a. frame.Answer a) answer_form (fields (frame.Answer a)) a rest refl h e
frame_again (frame.Snapshot s) rest h e = wrapped_again (λ s. frame.Snapshot s) snapshot_form (fields (frame.Snapshot s)) s rest refl h e
frame_again (frame.Heard x) rest h e = wrapped_again (λ h. frame.Heard h) heard_form (fields (frame.Heard x)) x rest refl h e
frame_again (frame.Welcome w) rest h e = wrapped_again (λ w. frame.Welcome w) welcome_form (fields (frame.Welcome w)) w rest refl h e
frame_again (frame.PairWelcome w) rest h e = wrapped_again (λ w. frame.PairWelcome w) pair_welcome_form (fields (frame.PairWelcome w)) w rest refl h e
frame_again (frame.Stamped s) rest h e = wrapped_again (λ s. frame.Stamped s) stamped_form (fields (frame.Stamped s)) s rest refl h e
frame_again (frame.Start s) rest h e = wrapped_again (λ s. frame.Start s) start_form (fields (frame.Start s)) s rest refl h e
frame_again (frame.Addressed a) rest h e = wrapped_again (λ a. frame.Addressed a) addressed_form (fields (frame.Addressed a)) a rest refl h e
frame_again (frame.Dead d) rest h e = wrapped_again (λ d. frame.Dead d) dead_form (fields (frame.Dead d)) d rest refl h e

-- Bodies

-- The encoding of a decoded frame is at the front of the body.
pub begins : (version code : ℕ) (k : Kind) (bytes : List ℕ) (f : Frame) (rest : List ℕ) → IsBytes bytes → kind_at version code ≡ Some k → frame_at k bytes ≡ Some (f, rest) → Begins (version ∷ code ∷ bytes) f rest
begins version code k bytes f rest fits is e =
    let one = frame_takes k bytes f rest fits e in
    let head = from_kind version code k is in
    let version_is : version ≡ version_of (kind_of f) = head.0 ∙ ap version_of (sym one.fits.0) in
    let code_is : code ≡ code_of (kind_of f) = head.1 ∙ ap code_of (sym one.fits.0) in
    record {
      well_formed = one.fits.1;
      spelled = ap (λ (w : List ℕ). version ∷ code ∷ w) one.parts ∙ ap (λ (n : ℕ). n ∷ code ∷ (fields f ++ rest)) version_is ∙ ap (λ (n : ℕ). version_of (kind_of f) ∷ n ∷ (fields f ++ rest)) code_is ∙ ap (λ (w : List ℕ). w ++ rest) (sym (body_is f));
      inner_to_the_end = ends_at_envelope f rest (subst (λ (k : Kind). Ends k rest) (sym one.fits.0) one.ends);
    }

-- Two equal bodies have equal versions, equal kinds and equal fields.
same_head : (l m n o : ℕ) (x y : List ℕ) → l ∷ m ∷ x ≡ n ∷ o ∷ y → (l ≡ n) × (m ≡ o) × (x ≡ y)
same_head l m n o x y e = (cc, cc, cc)

-- A frame at the front of a body is decoded.
pub begun : (version code : ℕ) (k : Kind) (bytes : List ℕ) (f : Frame) (rest : List ℕ) → kind_at version code ≡ Some k → Begins (version ∷ code ∷ bytes) f rest → frame_at k bytes ≡ Some (f, rest)
begun version code k bytes f rest is b =
    let of_f = kind_of f in
    let head = same_head version code (version_of of_f) (code_of of_f) bytes (fields f ++ rest) (b.spelled ∙ ap (λ (w : List ℕ). w ++ rest) (body_is f)) in
    let kind_is : of_f ≡ k = some_is of_f k (sym (kind_at-code of_f) ∙ ap (kind_at (version_of of_f)) (sym head.1) ∙ ap (λ (n : ℕ). kind_at n code) (sym head.0) ∙ is) in
    ap (frame_at k) head.2 ∙ subst (λ (k : Kind). frame_at k (fields f ++ rest) ≡ Some (f, rest)) kind_is (frame_again f rest b.well_formed (Ends-from_envelope f rest b.inner_to_the_end))

-- A complete body is at its own front, and nothing follows.
pub begins_whole : (bytes : List ℕ) (f : Frame) → IsBody bytes f → Begins bytes f []
begins_whole bytes f p = record { well_formed = p.well_formed; spelled = p.spelled ∙ sym (append-nil (body f)); inner_to_the_end = λ _. refl }

-- A body is the body of only one frame.
pub one_frame : (bytes : List ℕ) (f g : Frame) → IsBody bytes f → IsBody bytes g → f ≡ g
one_frame bytes f g a b =
    let k = kind_of f in
    let whole = version_of k ∷ code_of k ∷ fields f in
    let bytes_are : bytes ≡ whole = a.spelled ∙ body_is f in
    let one : frame_at k (fields f) ≡ some_of (f, []) = begun (version_of k) (code_of k) k (fields f) f [] (kind_at-code k) (begins_whole whole f (record { well_formed = a.well_formed; spelled = sym bytes_are ∙ a.spelled })) in
    let two : frame_at k (fields f) ≡ some_of (g, []) = begun (version_of k) (code_of k) k (fields f) g [] (kind_at-code k) (begins_whole whole g (record { well_formed = b.well_formed; spelled = sym bytes_are ∙ b.spelled })) in
    ap (λ (p : Frame × List ℕ). p.0) (some_is (f, []) (g, []) (sym one ∙ two))
