-- Frames that their derived comparisons report equal are identical.
use Rattle.std.proofs.Common.{◌≡◌, ℕ, Bool, true, false, List, [], ◌∷◌, refl, ap, ap₂}
use mathlib.Core.Bool.{beq}
use Rattle.std.specs.Prelude.{bytes_eq}
use Rattle.std.specs.Cmp.Lexicographic.{pointwise}
use Rattle.std.proofs.lemmas.Bool.{and_parts, eqb-true}
use Rattle.std.proofs.lemmas.Slice.Eq.{bytes_eq-Decides}
use Rattle.wl_draft.specs.declared.mode.Mode.{Mode}
use Rattle.wl_draft.specs.declared.mode.Mode.TheVariants.{Shared, Exclusive}
use Rattle.wl_draft.specs.contracts.mode.ModePartialEq.TheImpl as mode
use Rattle.wl_draft.specs.declared.row.Entry.{Entry}
use Rattle.wl_draft.specs.contracts.row.EntryPartialEq.TheImpl as entry
use Rattle.wl_grammar.specs.declared.frame.Operation.{Operation}
use Rattle.wl_grammar.specs.declared.frame.Operation.TheVariants.{Request, Release, Abort, Query}
use Rattle.wl_grammar.specs.contracts.frame.OperationPartialEq.TheImpl as operation
use Rattle.wl_grammar.specs.declared.frame.Outcome.{Outcome}
use Rattle.wl_grammar.specs.declared.frame.Outcome.TheVariants.{Waiting, Granted, Gone, Taken}
use Rattle.wl_grammar.specs.contracts.frame.OutcomePartialEq.TheImpl as outcome
use Rattle.wl_grammar.specs.declared.frame.Command.{Command}
use Rattle.wl_grammar.specs.contracts.frame.CommandPartialEq.TheImpl as command
use Rattle.wl_grammar.specs.declared.frame.Report.{Report}
use Rattle.wl_grammar.specs.contracts.frame.ReportPartialEq.TheImpl as report
use Rattle.wl_grammar.specs.declared.frame.ReportPart.{ReportPart}
use Rattle.wl_grammar.specs.contracts.frame.ReportPartPartialEq.TheImpl as report_part
use Rattle.wl_grammar.specs.declared.frame.Answer.{Answer}
use Rattle.wl_grammar.specs.contracts.frame.AnswerPartialEq.TheImpl as answer
use Rattle.wl_grammar.specs.declared.frame.SnapshotEntry.{SnapshotEntry}
use Rattle.wl_grammar.specs.contracts.frame.SnapshotEntryPartialEq.TheImpl as row
use Rattle.wl_grammar.specs.declared.frame.Snapshot.{Snapshot}
use Rattle.wl_grammar.specs.contracts.frame.SnapshotPartialEq.TheImpl as snapshot
use Rattle.wl_grammar.specs.declared.frame.Hello.{Hello}
use Rattle.wl_grammar.specs.contracts.frame.HelloPartialEq.TheImpl as hello
use Rattle.wl_grammar.specs.declared.frame.Stamped.{Stamped}
use Rattle.wl_grammar.specs.contracts.frame.StampedPartialEq.TheImpl as stamped
use Rattle.wl_grammar.specs.declared.frame.Addressed.{Addressed}
use Rattle.wl_grammar.specs.contracts.frame.AddressedPartialEq.TheImpl as addressed
use Rattle.wl_grammar.specs.declared.frame.Upward.{Upward}
use Rattle.wl_grammar.specs.declared.frame.Upward.TheVariants as up
use Rattle.wl_grammar.specs.contracts.frame.UpwardPartialEq.TheImpl as upward
use Rattle.wl_grammar.specs.declared.frame.Downward.{Downward}
use Rattle.wl_grammar.specs.declared.frame.Downward.TheVariants as down
use Rattle.wl_grammar.specs.contracts.frame.DownwardPartialEq.TheImpl as downward
use Rattle.wl_draft.proofs.Membership.{apart}

pub names-same : (xs ys : List ℕ) → bytes_eq xs ys ≡ true → xs ≡ ys
names-same xs ys h = (bytes_eq-Decides xs ys).0 h

mode-same : (x y : Mode) → (mode.ghosts).eq x y ≡ true → x ≡ y
mode-same Exclusive Exclusive h = refl
mode-same Shared Shared h = refl
mode-same Exclusive Shared h = apart h refl
mode-same Shared Exclusive h = apart h refl

bool-same : (x y : Bool) → beq x y ≡ true → x ≡ y
bool-same true true h = refl
bool-same false false h = refl
bool-same true false h = apart h refl
bool-same false true h = apart h refl

-- Lists whose items compare equal one by one are identical.
list-same : {X : Type 0} (same : X → X → Bool) (sound : (x y : X) → same x y ≡ true → x ≡ y) (xs ys : List X) → pointwise same xs ys ≡ true → xs ≡ ys
list-same same sound [] [] h = refl
list-same same sound (x ∷ xs) (y ∷ ys) h = ap₂ ◌∷◌ (sound x y (and_parts _ _ h).0) (list-same same sound xs ys (and_parts _ _ h).1)
list-same same sound [] (y ∷ ys) h = apart h refl
list-same same sound (x ∷ xs) [] h = apart h refl

operation-same : (x y : Operation) → (operation.ghosts).eq x y ≡ true → x ≡ y
operation-same (Request m p x) (Request n q y) h =
    let a = and_parts _ _ h in
    let b = and_parts _ _ a.1 in
    λ i. Request (mode-same m n a.0 i) (bool-same p q b.0 i) (names-same x y b.1 i)
operation-same (Release n) (Release o) h = ap Release (eqb-true n o h)
operation-same (Abort n) (Abort o) h = ap Abort (eqb-true n o h)
operation-same Query Query h = refl
operation-same _ _ h = apart h refl

entry-same : (x y : Entry) → (entry.ghosts).eq x y ≡ true → x ≡ y
entry-same x y h =
    let a = and_parts _ _ h in
    let b = and_parts _ _ a.1 in
    let c = and_parts _ _ b.1 in
    λ i. record { number = eqb-true x.number y.number a.0 i; held = bool-same x.held y.held b.0 i; mode = mode-same x.mode y.mode c.0 i; name = names-same x.name y.name c.1 i }

row-same : (x y : SnapshotEntry) → (row.ghosts).eq x y ≡ true → x ≡ y
row-same x y h =
    let a = and_parts _ _ h in
    let b = and_parts _ _ a.1 in
    let c = and_parts _ _ b.1 in
    λ i. record { held = bool-same x.held y.held a.0 i; tab = eqb-true x.tab y.tab b.0 i; mode = mode-same x.mode y.mode c.0 i; name = names-same x.name y.name c.1 i }

command-same : (x y : Command) → (command.ghosts).eq x y ≡ true → x ≡ y
command-same x y h =
    let a = and_parts _ _ h in
    let b = and_parts _ _ a.1 in
    λ i. record { generation = eqb-true x.generation y.generation a.0 i; number = eqb-true x.number y.number b.0 i; operation = operation-same x.operation y.operation b.1 i }

report-same : (x y : Report) → (report.ghosts).eq x y ≡ true → x ≡ y
report-same x y h =
    let a = and_parts _ _ h in
    let b = and_parts _ _ a.1 in
    λ i. record { generation = eqb-true x.generation y.generation a.0 i; base = eqb-true x.base y.base b.0 i; entries = list-same _ entry-same x.entries y.entries b.1 i }

report_part-same : (x y : ReportPart) → (report_part.ghosts).eq x y ≡ true → x ≡ y
report_part-same x y h =
    let a = and_parts _ _ h in
    let b = and_parts _ _ a.1 in
    let c = and_parts _ _ b.1 in
    let d = and_parts _ _ c.1 in
    λ i. record {
      generation = eqb-true x.generation y.generation a.0 i;
      base = eqb-true x.base y.base b.0 i;
      part = eqb-true x.part y.part c.0 i;
      parts = eqb-true x.parts y.parts d.0 i;
      entries = list-same _ entry-same x.entries y.entries d.1 i;
    }

upward-same : (x y : Upward) → (upward.ghosts).eq x y ≡ true → x ≡ y
upward-same (up.Command x) (up.Command y) h = ap up.Command (command-same x y h)
upward-same (up.Report x) (up.Report y) h = ap up.Report (report-same x y h)
upward-same (up.ReportPart x) (up.ReportPart y) h = ap up.ReportPart (report_part-same x y h)
upward-same _ _ h = apart h refl

outcome-same : (x y : Outcome) → (outcome.ghosts).eq x y ≡ true → x ≡ y
outcome-same Waiting Waiting h = refl
outcome-same Granted Granted h = refl
outcome-same Gone Gone h = refl
outcome-same Taken Taken h = refl
outcome-same _ _ h = apart h refl

answer-same : (x y : Answer) → (answer.ghosts).eq x y ≡ true → x ≡ y
answer-same x y h =
    let a = and_parts _ _ h in
    let b = and_parts _ _ a.1 in
    let c = and_parts _ _ b.1 in
    λ i. record { generation = eqb-true x.generation y.generation a.0 i; upto = eqb-true x.upto y.upto b.0 i; number = eqb-true x.number y.number c.0 i; outcome = outcome-same x.outcome y.outcome c.1 i }

snapshot-same : (x y : Snapshot) → (snapshot.ghosts).eq x y ≡ true → x ≡ y
snapshot-same x y h =
    let a = and_parts _ _ h in
    let b = and_parts _ _ a.1 in
    let c = and_parts _ _ b.1 in
    let d = and_parts _ _ c.1 in
    λ i. record { generation = eqb-true x.generation y.generation a.0 i; number = eqb-true x.number y.number b.0 i; part = eqb-true x.part y.part c.0 i; parts = eqb-true x.parts y.parts d.0 i; entries = list-same _ row-same x.entries y.entries d.1 i }

hello-same : (x y : Hello) → (hello.ghosts).eq x y ≡ true → x ≡ y
hello-same x y h = λ i. record { generation = eqb-true x.generation y.generation h i }

downward-same : (x y : Downward) → (downward.ghosts).eq x y ≡ true → x ≡ y
downward-same (down.Hello x) (down.Hello y) h = ap down.Hello (hello-same x y h)
downward-same (down.Answer x) (down.Answer y) h = ap down.Answer (answer-same x y h)
downward-same (down.Snapshot x) (down.Snapshot y) h = ap down.Snapshot (snapshot-same x y h)
downward-same _ _ h = apart h refl

pub stamped-same : (x y : Stamped) → (stamped.ghosts).eq x y ≡ true → x ≡ y
stamped-same x y h =
    let a = and_parts _ _ h in
    let b = and_parts _ _ a.1 in
    λ i. record { tab = eqb-true x.tab y.tab a.0 i; partition = eqb-true x.partition y.partition b.0 i; inner = upward-same x.inner y.inner b.1 i }

pub addressed-same : (x y : Addressed) → (addressed.ghosts).eq x y ≡ true → x ≡ y
addressed-same x y h =
    let a = and_parts _ _ h in
    λ i. record { tab = eqb-true x.tab y.tab a.0 i; inner = downward-same x.inner y.inner a.1 i }
