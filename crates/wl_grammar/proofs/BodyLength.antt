-- Lengths of the bodies of frames.
use Rattle.std.proofs.Common.{◌≡◌, ℕ, ◌*◌, ◌≤◌, Bool, true, false, List, [], ◌∷◌, length, refl, arith, length-append}
use Rattle.std.specs.List.{flat_map, AllByRecursion}
use Rattle.wl_draft.specs.declared.mode.Mode.{Mode}
use Rattle.wl_draft.specs.declared.mode.Mode.TheVariants.{Shared, Exclusive}
use Rattle.wl_draft.specs.declared.row.Entry.{Entry}
use Rattle.wl_grammar.specs.declared.frame.Operation.{Operation}
use Rattle.wl_grammar.specs.declared.frame.Operation.TheVariants as op
use Rattle.wl_grammar.specs.declared.frame.Outcome.{Outcome}
use Rattle.wl_grammar.specs.declared.frame.Outcome.TheVariants as outcome
use Rattle.wl_grammar.specs.declared.frame.Command.{Command}
use Rattle.wl_grammar.specs.declared.frame.Report.{Report}
use Rattle.wl_grammar.specs.declared.frame.ReportPart.{ReportPart}
use Rattle.wl_grammar.specs.declared.frame.Post.{Post}
use Rattle.wl_grammar.specs.declared.frame.Answer.{Answer}
use Rattle.wl_grammar.specs.declared.frame.SnapshotEntry.{SnapshotEntry}
use Rattle.wl_grammar.specs.declared.frame.Snapshot.{Snapshot}
use Rattle.wl_grammar.specs.declared.frame.Heard.{Heard}
use Rattle.wl_grammar.specs.declared.frame.Upward.{Upward}
use Rattle.wl_grammar.specs.declared.frame.Upward.TheVariants as up
use Rattle.wl_grammar.specs.declared.frame.Downward.{Downward}
use Rattle.wl_grammar.specs.declared.frame.Downward.TheVariants as down
use Rattle.wl_grammar.specs.declared.frame.Frame.{Frame}
use Rattle.wl_grammar.specs.declared.frame.Frame.TheVariants as frame
use Rattle.wl_grammar.specs.Grammar.{spelled_mode, spelled_flag, spelled_held, spelled_outcome, operation, IsOperation, entry, IsEntry, snapshot_entry, IsSnapshotEntry, place, command, IsCommand, report, IsReport, report_part, IsReportPart, post, IsPost, hello, answer, snapshot, IsSnapshot, heard, IsHeard, welcome, pair_welcome, upward, IsUpward, downward, IsDownward, stamped, start, addressed, dead, body, IsWellFormed}
use Rattle.wl_grammar.specs.Lengths.{IsLength}

-- Fields

length-spelled_mode : (mode : Mode) → length (spelled_mode mode) ≡ 1
length-spelled_mode Shared = refl
length-spelled_mode Exclusive = refl

length-spelled_flag : (flag : Bool) → length (spelled_flag flag) ≡ 1
length-spelled_flag false = refl
length-spelled_flag true = refl

length-spelled_held : (held : Bool) → length (spelled_held held) ≡ 1
length-spelled_held false = refl
length-spelled_held true = refl

length-spelled_outcome : (o : Outcome) → length (spelled_outcome o) ≡ 1
length-spelled_outcome outcome.Waiting = refl
length-spelled_outcome outcome.Granted = refl
length-spelled_outcome outcome.Gone = refl
length-spelled_outcome outcome.Taken = refl

operation_within : (o : Operation) → IsOperation o → length (operation o) ≤ 259
operation_within (op.Request mode if_available name) h =
    simp (length-append, length-spelled_mode, length-spelled_flag) (omega (arith, h.0.0))
operation_within (op.Release number) h = omega arith
operation_within (op.Abort number) h = omega arith
operation_within op.Query h = omega arith

-- Lists of entries

-- Entries of at most 262 bytes each take at most 262 bytes times their number.
entries_within : {X : Type 0} (f : X → List ℕ) (IsX : X → Type 0) → ((x : X) → IsX x → length (f x) ≤ 262)
    → (xs : List X) → AllByRecursion IsX xs → length (flat_map f xs) ≤ 262 * length xs
entries_within f IsX each [] h = omega arith
entries_within f IsX each (x ∷ xs) h =
    omega (arith, length-append (f x) (flat_map f xs), each x h.0, entries_within f IsX each xs h.1)

entry_within : (e : Entry) → IsEntry e → length (entry e) ≤ 262
entry_within e h = simp (length-append, length-spelled_held, length-spelled_mode) (omega (arith, h.1.0.0))

snapshot_entry_within : (e : SnapshotEntry) → IsSnapshotEntry e → length (snapshot_entry e) ≤ 262
snapshot_entry_within e h = simp (length-append, length-spelled_held, length-spelled_mode) (omega (arith, h.1.0.0))

length-places : (places : List (ℕ × ℕ)) → length (flat_map place places) ≡ 4 * length places
length-places [] = refl
length-places (p ∷ ps) = omega (arith, length-places ps)

-- Bodies. An inner body leaves room for the fields of the outer one.

abbrev IsShort : ℕ → Type 0
IsShort n = (2 ≤ n) × (n ≤ 60000)

command_length : (c : Command) → IsCommand c → IsShort (length (command c))
unfolding command
command_length c h = let o = operation_within c.operation h.operation in (omega arith, omega arith)

report_length : (r : Report) → IsReport r → IsShort (length (report r))
unfolding report
report_length r h =
    let es = entries_within entry IsEntry entry_within r.entries h.entries in (omega arith, omega (arith, h.count))

report_part_length : (r : ReportPart) → IsReportPart r → IsShort (length (report_part r))
unfolding report_part
report_part_length r h =
    let es = entries_within entry IsEntry entry_within r.entries h.entries in (omega arith, omega (arith, h.count))

post_length : (p : Post) → IsPost p → IsShort (length (post p))
unfolding post
post_length p h =
    (omega arith, simp length-append (omega (arith, h.channel.0, h.bytes.0)))

answer_length : (a : Answer) → IsShort (length (answer a))
unfolding answer
answer_length a = (omega arith, omega (arith, length-spelled_outcome a.outcome))

snapshot_length : (s : Snapshot) → IsSnapshot s → IsShort (length (snapshot s))
unfolding snapshot
snapshot_length s h =
    let es = entries_within snapshot_entry IsSnapshotEntry snapshot_entry_within s.entries h.entries in
    (omega arith, omega (arith, h.count))

heard_length : (x : Heard) → IsHeard x → IsShort (length (heard x))
unfolding heard
heard_length x h =
    (omega arith, simp length-append (omega (arith, h.channel.0, h.bytes.0)))

upward_length : (u : Upward) → IsUpward u → IsShort (length (upward u))
unfolding upward
upward_length (up.Command c) h = command_length c h
upward_length (up.Report r) h = report_length r h
upward_length (up.ReportPart r) h = report_part_length r h

downward_length : (d : Downward) → IsDownward d → IsShort (length (downward d))
unfolding downward hello
downward_length (down.Hello x) h = (omega arith, omega arith)
downward_length (down.Answer a) h = answer_length a
downward_length (down.Snapshot s) h = snapshot_length s h

pub body_length : (f : Frame) → IsWellFormed f → IsLength (length (body f))
unfolding body hello welcome pair_welcome stamped start addressed dead
body_length (frame.Command c) h = let n = command_length c h in (n.0, omega arith)
body_length (frame.Report r) h = let n = report_length r h in (n.0, omega arith)
body_length (frame.ReportPart r) h = let n = report_part_length r h in (n.0, omega arith)
body_length (frame.Post p) h = let n = post_length p h in (n.0, omega arith)
body_length (frame.Hello x) h = (omega arith, omega arith)
body_length (frame.Answer a) h = let n = answer_length a in (n.0, omega arith)
body_length (frame.Snapshot s) h = let n = snapshot_length s h in (n.0, omega arith)
body_length (frame.Heard x) h = let n = heard_length x h in (n.0, omega arith)
body_length (frame.Welcome w) h = (omega arith, omega (arith, h.origin.0))
body_length (frame.PairWelcome w) h = (omega arith, simp length-append (omega (arith, h.top.0, h.own.0)))
body_length (frame.Stamped s) h = let n = upward_length s.inner h.inner in (omega arith, omega arith)
body_length (frame.Start s) h = (omega arith, omega (arith, length-places s.list, h.count))
body_length (frame.Addressed a) h = let n = downward_length a.inner h.inner in (omega arith, omega arith)
body_length (frame.Dead d) h = (omega arith, omega arith)
