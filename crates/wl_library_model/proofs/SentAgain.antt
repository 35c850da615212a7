-- A message in the bag compares equal to itself, so it was sent.
use Rattle.std.proofs.Common.{◌≡◌, ℕ, Bool, true, false, List, [], ◌∷◌, refl}
use mathlib.Core.Bool.{beq}
use Rattle.std.specs.Prelude.{◌==◌, bytes_eq}
use Rattle.std.specs.Cmp.Lexicographic.{pointwise}
use Rattle.std.proofs.lemmas.Bool.{and_from, eq-eqb, or_left, or_right}
use Rattle.std.proofs.lemmas.Slice.Eq.{bytes_eq-Decides}
use Rattle.wl_draft.specs.declared.mode.Mode.{Mode}
use Rattle.wl_draft.specs.declared.mode.Mode.TheVariants.{Shared, Exclusive}
use Rattle.wl_draft.specs.contracts.mode.ModePartialEq.TheImpl as mode
use Rattle.wl_draft.specs.declared.row.Entry.{Entry}
use Rattle.wl_draft.specs.contracts.row.EntryPartialEq.TheImpl as entry
use Rattle.wl_draft.specs.Membership.{In, Here, Later}
use Rattle.wl_grammar.specs.declared.frame.Operation.{Operation}
use Rattle.wl_grammar.specs.declared.frame.Operation.TheVariants.{Request, Release, Abort, Query}
use Rattle.wl_grammar.specs.contracts.frame.OperationPartialEq.TheImpl as operation
use Rattle.wl_grammar.specs.declared.frame.Outcome.{Outcome}
use Rattle.wl_grammar.specs.declared.frame.Outcome.TheVariants.{Waiting, Granted, Gone, Taken}
use Rattle.wl_grammar.specs.contracts.frame.OutcomePartialEq.TheImpl as outcome
use Rattle.wl_grammar.specs.declared.frame.Command.{Command}
use Rattle.wl_grammar.specs.contracts.frame.CommandPartialEq.TheImpl as command
use Rattle.wl_grammar.specs.declared.frame.Report.{Report}
use Rattle.wl_grammar.specs.contracts.frame.ReportPartialEq.TheImpl as report
use Rattle.wl_grammar.specs.declared.frame.ReportPart.{ReportPart}
use Rattle.wl_grammar.specs.contracts.frame.ReportPartPartialEq.TheImpl as report_part
use Rattle.wl_grammar.specs.declared.frame.Answer.{Answer}
use Rattle.wl_grammar.specs.contracts.frame.AnswerPartialEq.TheImpl as answer
use Rattle.wl_grammar.specs.declared.frame.SnapshotEntry.{SnapshotEntry}
use Rattle.wl_grammar.specs.contracts.frame.SnapshotEntryPartialEq.TheImpl as row
use Rattle.wl_grammar.specs.declared.frame.Snapshot.{Snapshot}
use Rattle.wl_grammar.specs.contracts.frame.SnapshotPartialEq.TheImpl as snapshot
use Rattle.wl_grammar.specs.declared.frame.Heard.{Heard}
use Rattle.wl_grammar.specs.declared.frame.Upward.{Upward}
use Rattle.wl_grammar.specs.declared.frame.Upward.TheVariants as up
use Rattle.wl_grammar.specs.contracts.frame.UpwardPartialEq.TheImpl as upward
use Rattle.wl_grammar.specs.declared.frame.Downward.{Downward}
use Rattle.wl_grammar.specs.declared.frame.Downward.TheVariants as down
use Rattle.wl_grammar.specs.contracts.frame.DownwardPartialEq.TheImpl as downward
use Rattle.wl_world_messages.specs.declared.message.Sender.{Sender}
use Rattle.wl_world_messages.specs.declared.message.Sender.TheVariants.{Kernel, Broker}
use Rattle.wl_world_messages.specs.declared.message.Message.{Message}
use Rattle.wl_world_messages.specs.declared.message.Message.TheVariants.{Up, Down, Across}
use Rattle.wl_world_messages.specs.Messages.{same_heard, same_sender, same_message, is_sent}

number : (n : ℕ) → (n == n) ≡ true
number n = eq-eqb n n refl

name : (xs : List ℕ) → bytes_eq xs xs ≡ true
name xs = (bytes_eq-Decides xs xs).1 refl

mode-again : (x : Mode) → (mode.ghosts).eq x x ≡ true
mode-again Exclusive = refl
mode-again Shared = refl

bool-again : (x : Bool) → beq x x ≡ true
bool-again true = refl
bool-again false = refl

list-again : {X : Type 0} (same : X → X → Bool) → ((x : X) → same x x ≡ true) → (xs : List X) → pointwise same xs xs ≡ true
list-again same again [] = refl
list-again same again (x ∷ xs) = and_from _ _ (again x) (list-again same again xs)

operation-again : (x : Operation) → (operation.ghosts).eq x x ≡ true
operation-again (Request m p x) = and_from _ _ (mode-again m) (and_from _ _ (bool-again p) (name x))
operation-again (Release n) = number n
operation-again (Abort n) = number n
operation-again Query = refl

entry-again : (x : Entry) → (entry.ghosts).eq x x ≡ true
entry-again x = and_from _ _ (number x.number) (and_from _ _ (bool-again x.held) (and_from _ _ (mode-again x.mode) (name x.name)))

row-again : (x : SnapshotEntry) → (row.ghosts).eq x x ≡ true
row-again x = and_from _ _ (bool-again x.held) (and_from _ _ (number x.tab) (and_from _ _ (mode-again x.mode) (name x.name)))

command-again : (x : Command) → (command.ghosts).eq x x ≡ true
command-again x = and_from _ _ (number x.generation) (and_from _ _ (number x.number) (operation-again x.operation))

report-again : (x : Report) → (report.ghosts).eq x x ≡ true
report-again x = and_from _ _ (number x.generation) (and_from _ _ (number x.base) (list-again _ entry-again x.entries))

report_part-again : (x : ReportPart) → (report_part.ghosts).eq x x ≡ true
report_part-again x = and_from _ _ (number x.generation) (and_from _ _ (number x.base) (and_from _ _ (number x.part) (and_from _ _ (number x.parts) (list-again _ entry-again x.entries))))

upward-again : (x : Upward) → (upward.ghosts).eq x x ≡ true
upward-again (up.Command x) = command-again x
upward-again (up.Report x) = report-again x
upward-again (up.ReportPart x) = report_part-again x

outcome-again : (x : Outcome) → (outcome.ghosts).eq x x ≡ true
outcome-again Waiting = refl
outcome-again Granted = refl
outcome-again Gone = refl
outcome-again Taken = refl

answer-again : (x : Answer) → (answer.ghosts).eq x x ≡ true
answer-again x = and_from _ _ (number x.generation) (and_from _ _ (number x.upto) (and_from _ _ (number x.number) (outcome-again x.outcome)))

snapshot-again : (x : Snapshot) → (snapshot.ghosts).eq x x ≡ true
snapshot-again x = and_from _ _ (number x.generation) (and_from _ _ (number x.number) (and_from _ _ (number x.part) (and_from _ _ (number x.parts) (list-again _ row-again x.entries))))

downward-again : (x : Downward) → (downward.ghosts).eq x x ≡ true
downward-again (down.Hello x) = number x.generation
downward-again (down.Answer x) = answer-again x
downward-again (down.Snapshot x) = snapshot-again x

heard-again : (x : Heard) → same_heard x x ≡ true
heard-again x = and_from _ _ (and_from _ _ (and_from _ _ (number x.source) (number x.number)) (name x.channel)) (name x.bytes)

sender-again : (x : Sender) → same_sender x x ≡ true
sender-again Kernel = refl
sender-again Broker = refl

message-again : (m : Message) → same_message m m ≡ true
message-again (Up x) = and_from _ _ (number x.tab) (and_from _ _ (number x.partition) (upward-again x.inner))
message-again (Down s x) = and_from _ _ (sender-again s) (and_from _ _ (number x.tab) (downward-again x.inner))
message-again (Across t x) = and_from _ _ (number t) (heard-again x)

pub In-is_sent : {m : Message} {bag : List Message} → In m bag → is_sent m bag ≡ true
unfolding is_sent
In-is_sent {m = m} Here = or_left _ _ (message-again m)
In-is_sent (Later i) = or_right _ _ (In-is_sent i)
