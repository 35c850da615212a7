-- The text of messages.
use Rattle.std.specs.Prelude.{ℕ, Bool, true, false, List, ◌++◌, codes, decimal}
use Rattle.std.specs.List.{flat_map}
use Rattle.wl_draft.specs.declared.mode.Mode.{Mode}
use Rattle.wl_draft.specs.declared.row.Entry.{Entry}
use Rattle.wl_grammar.specs.declared.frame.Operation.{Operation}
use Rattle.wl_grammar.specs.declared.frame.Operation.TheVariants.{Request, Release, Abort, Query}
use Rattle.wl_grammar.specs.declared.frame.Outcome.{Outcome}
use Rattle.wl_grammar.specs.declared.frame.Outcome.TheVariants.{Waiting, Granted, Gone, Taken}
use Rattle.wl_grammar.specs.declared.frame.Command.{Command}
use Rattle.wl_grammar.specs.declared.frame.Report.{Report}
use Rattle.wl_grammar.specs.declared.frame.ReportPart.{ReportPart}
use Rattle.wl_grammar.specs.declared.frame.Hello.{Hello}
use Rattle.wl_grammar.specs.declared.frame.Answer.{Answer}
use Rattle.wl_grammar.specs.declared.frame.SnapshotEntry.{SnapshotEntry}
use Rattle.wl_grammar.specs.declared.frame.Snapshot.{Snapshot}
use Rattle.wl_grammar.specs.declared.frame.Heard.{Heard}
use Rattle.wl_grammar.specs.declared.frame.Upward.{Upward}
use Rattle.wl_grammar.specs.declared.frame.Upward.TheVariants as up
use Rattle.wl_grammar.specs.declared.frame.Downward.{Downward}
use Rattle.wl_grammar.specs.declared.frame.Downward.TheVariants as down
use Rattle.wl_script_words.specs.Words.{word_of}
use Rattle.wl_script_words.specs.WordPrinting.{mode_text}

-- Parts of messages

unfoldable pub held_text : Bool → List ℕ
held_text true = codes "held"
held_text false = codes "waiting"

unfoldable pub outcome_text : Outcome → List ℕ
outcome_text Waiting = codes "waiting"
outcome_text Granted = codes "granted"
outcome_text Gone = codes "gone"
outcome_text Taken = codes "taken"

-- The text MODE NAME of a lock.
unfoldable pub lock_text : Mode → List ℕ → List ℕ
lock_text mode name = mode_text mode ++ codes " " ++ word_of name

-- The text `gen G #K` of a command number.
unfoldable pub command_number : ℕ → ℕ → List ℕ
command_number generation number = codes "gen " ++ decimal generation ++ codes " #" ++ decimal number

unfoldable pub part_text : ℕ → ℕ → List ℕ
part_text part parts = codes "part " ++ decimal part ++ codes " of " ++ decimal parts

-- From tabs to the broker

unfoldable pub operation_text : Operation → List ℕ
operation_text (Request mode false name) = codes " request " ++ lock_text mode name
operation_text (Request mode true name) = codes " probe " ++ lock_text mode name
operation_text (Release number) = codes " release " ++ decimal number
operation_text (Abort number) = codes " abort " ++ decimal number
operation_text Query = codes " query"

unfoldable pub command_text : Command → List ℕ
command_text c = command_number c.generation c.number ++ operation_text c.operation

unfoldable pub entry_text : Entry → List ℕ
entry_text e = codes " #" ++ decimal e.number ++ codes " " ++ held_text e.held ++ codes " " ++ lock_text e.mode e.name

unfoldable pub report_text : Report → List ℕ
report_text r = codes "report " ++ decimal r.generation ++ codes " base " ++ decimal r.base ++ flat_map entry_text r.entries

-- The text `report2 G base B part P of Q`, followed by the part's entries.
unfoldable pub report_part_text : ReportPart → List ℕ
report_part_text r =
    codes "report2 " ++ decimal r.generation ++ codes " base " ++ decimal r.base ++ codes " " ++ part_text r.part r.parts ++ flat_map entry_text r.entries

unfoldable pub upward_text : Upward → List ℕ
upward_text (up.Command c) = command_text c
upward_text (up.Report r) = report_text r
upward_text (up.ReportPart r) = report_part_text r

-- To tabs

unfoldable pub hello_text : Hello → List ℕ
hello_text h = codes "hello " ++ decimal h.generation

unfoldable pub answer_text : Answer → List ℕ
answer_text a = command_number a.generation a.number ++ codes " " ++ outcome_text a.outcome ++ codes " upto " ++ decimal a.upto

unfoldable pub row_text : SnapshotEntry → List ℕ
row_text e = codes " " ++ held_text e.held ++ codes " " ++ decimal e.tab ++ codes " " ++ lock_text e.mode e.name

unfoldable pub snapshot_text : Snapshot → List ℕ
snapshot_text s = command_number s.generation s.number ++ codes " " ++ part_text s.part s.parts ++ flat_map row_text s.entries

unfoldable pub downward_text : Downward → List ℕ
downward_text (down.Hello h) = hello_text h
downward_text (down.Answer a) = answer_text a
downward_text (down.Snapshot s) = snapshot_text s

-- Between tabs

unfoldable pub post_text : Heard → List ℕ
post_text h = codes "post " ++ decimal h.number ++ codes " " ++ word_of h.channel ++ codes " " ++ word_of h.bytes
