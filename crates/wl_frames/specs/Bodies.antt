-- Decoding of the fields of each kind of frame, as functions on lists. These are helpers, like
-- those of Reading.
use Rattle.std.specs.Prelude.{ℕ, ◌+◌, ◌==◌, nat_lt, Bool, true, false, not, List, [], ◌∷◌, length, Option, Some, None, if◌then◌else◌}
use Rattle.std.specs.Int.{w16, w32}
use Rattle.wl_limits.specs.declared.frames.TheConstants.{ENTRY_LIMIT, LIST_LIMIT, REPORT_PART_LIMIT}
use Rattle.wl_draft.specs.declared.mode.Mode.{Mode}
use Rattle.wl_draft.specs.declared.row.Entry.{Entry}
use Rattle.wl_grammar.specs.declared.frame.Operation.{Operation}
use Rattle.wl_grammar.specs.declared.frame.Operation.TheVariants as op
use Rattle.wl_grammar.specs.declared.frame.Outcome.{Outcome}
use Rattle.wl_grammar.specs.declared.frame.Outcome.TheVariants as outcome
use Rattle.wl_grammar.specs.declared.frame.Command.{Command}
use Rattle.wl_grammar.specs.declared.frame.Report.{Report}
use Rattle.wl_grammar.specs.declared.frame.ReportPart.{ReportPart}
use Rattle.wl_grammar.specs.declared.frame.Post.{Post}
use Rattle.wl_grammar.specs.declared.frame.Hello.{Hello}
use Rattle.wl_grammar.specs.declared.frame.Answer.{Answer}
use Rattle.wl_grammar.specs.declared.frame.SnapshotEntry.{SnapshotEntry}
use Rattle.wl_grammar.specs.declared.frame.Snapshot.{Snapshot}
use Rattle.wl_grammar.specs.declared.frame.Heard.{Heard}
use Rattle.wl_grammar.specs.declared.frame.Welcome.{Welcome}
use Rattle.wl_grammar.specs.declared.frame.PairWelcome.{PairWelcome}
use Rattle.wl_grammar.specs.declared.frame.Stamped.{Stamped}
use Rattle.wl_grammar.specs.declared.frame.Start.{Start}
use Rattle.wl_grammar.specs.declared.frame.Addressed.{Addressed}
use Rattle.wl_grammar.specs.declared.frame.Dead.{Dead}
use Rattle.wl_grammar.specs.declared.frame.Upward.{Upward}
use Rattle.wl_grammar.specs.declared.frame.Upward.TheVariants as up
use Rattle.wl_grammar.specs.declared.frame.Downward.{Downward}
use Rattle.wl_grammar.specs.declared.frame.Downward.TheVariants as down
use Rattle.wl_grammar.specs.declared.frame.Frame.{Frame}
use Rattle.wl_grammar.specs.declared.frame.Frame.TheVariants as frame
use Rattle.wl_frames.specs.declared.reading.kind.Kind.{Kind}
use Rattle.wl_frames.specs.declared.reading.kind.Kind.TheVariants as kind
use Rattle.wl_frames.specs.Reading.{◌>>=◌, byte_at, number_at, generation_at, tab_at, coded_at, mode_at, flag_at, held_at, channel_at, lock_name_at, data_at, origin_at, list_at, kind_at}

-- Commands

unfoldable pub request_at : List ℕ → Option ((Mode × Bool × List ℕ) × List ℕ)
request_at bytes = do
  mode ← mode_at bytes
  if_available ← flag_at mode.1
  name ← lock_name_at if_available.1
  Some ((mode.0, if_available.0, name.0), name.1)

-- The fields after the code of an operation.
abbrev pub operation_fields_at : ℕ → List ℕ → Option (Operation × List ℕ)
operation_fields_at code bytes =
    if code == 1 then (request_at bytes >>= λ r. Some (op.Request r.0.0 r.0.1 r.0.2, r.1))
    else (if code == 2 then (number_at w32 bytes >>= λ n. Some (op.Release n.0, n.1))
    else (if code == 3 then (number_at w32 bytes >>= λ n. Some (op.Abort n.0, n.1))
    else (if code == 4 then Some (op.Query, bytes) else None)))

unfoldable pub operation_at : List ℕ → Option (Operation × List ℕ)
operation_at bytes = do
  code ← byte_at bytes
  operation_fields_at code.0 code.1

unfoldable pub command_at : List ℕ → Option (Command × List ℕ)
command_at bytes = do
  generation ← generation_at bytes
  number ← number_at w32 generation.1
  operation ← operation_at number.1
  Some (record { generation = generation.0; number = number.0; operation = operation.0 }, operation.1)

-- Reports

unfoldable pub entry_at : List ℕ → Option (Entry × List ℕ)
entry_at bytes = do
  number ← number_at w32 bytes
  held ← held_at number.1
  mode ← mode_at held.1
  name ← lock_name_at mode.1
  Some (record { number = number.0; held = held.0; mode = mode.0; name = name.0 }, name.1)

abbrev pub numbers_rise : ℕ → List Entry → Bool
numbers_rise least [] = true
numbers_rise least (e ∷ es) = if nat_lt e.number least then false else numbers_rise (e.number + 1) es

unfoldable pub rising_entries_at : List ℕ → Option (List Entry × List ℕ)
rising_entries_at bytes = do
  entries ← list_at entry_at ENTRY_LIMIT bytes
  if not (numbers_rise 0 entries.0) then None else Some entries

unfoldable pub report_at : List ℕ → Option (Report × List ℕ)
report_at bytes = do
  generation ← generation_at bytes
  base ← number_at w32 generation.1
  entries ← rising_entries_at base.1
  Some (record { generation = generation.0; base = base.0; entries = entries.0 }, entries.1)

-- Parts, and parts of reports

abbrev pub pair_at : List ℕ → Option ((ℕ × ℕ) × List ℕ)
pair_at bytes = do
  part ← number_at w16 bytes
  parts ← number_at w16 part.1
  Some ((part.0, parts.0), parts.1)

unfoldable pub part_at : List ℕ → Option ((ℕ × ℕ) × List ℕ)
part_at bytes = do
  pair ← pair_at bytes
  if not (nat_lt pair.0.0 pair.0.1) then None else Some pair

-- The index and number of a report's parts. The number is at most REPORT_PART_LIMIT.
unfoldable pub few_parts_at : List ℕ → Option ((ℕ × ℕ) × List ℕ)
few_parts_at bytes = do
  part ← part_at bytes
  if nat_lt REPORT_PART_LIMIT part.0.1 then None else Some part

unfoldable pub report_part_at : List ℕ → Option (ReportPart × List ℕ)
report_part_at bytes = do
  generation ← generation_at bytes
  base ← number_at w32 generation.1
  part ← few_parts_at base.1
  entries ← rising_entries_at part.1
  Some (record { generation = generation.0; base = base.0; part = part.0.0; parts = part.0.1; entries = entries.0 }, entries.1)

-- Posts

unfoldable pub post_at : List ℕ → Option (Post × List ℕ)
post_at bytes = do
  number ← number_at w32 bytes
  channel ← channel_at number.1
  bytes ← data_at channel.1
  Some (record { number = number.0; channel = channel.0; bytes = bytes.0 }, bytes.1)

unfoldable pub heard_at : List ℕ → Option (Heard × List ℕ)
heard_at bytes = do
  source ← tab_at bytes
  number ← number_at w32 source.1
  channel ← channel_at number.1
  bytes ← data_at channel.1
  Some (record { source = source.0; number = number.0; channel = channel.0; bytes = bytes.0 }, bytes.1)

-- Frames from the broker to a tab

unfoldable pub hello_at : List ℕ → Option (Hello × List ℕ)
hello_at bytes = do
  generation ← generation_at bytes
  Some (record { generation = generation.0 }, generation.1)

abbrev pub outcomes : List (ℕ × Outcome)
outcomes = (1, outcome.Waiting) ∷ (2, outcome.Granted) ∷ (3, outcome.Gone) ∷ (4, outcome.Taken) ∷ []

unfoldable pub outcome_at : List ℕ → Option (Outcome × List ℕ)
outcome_at bytes = coded_at outcomes bytes

unfoldable pub answer_at : List ℕ → Option (Answer × List ℕ)
answer_at bytes = do
  generation ← generation_at bytes
  upto ← number_at w32 generation.1
  number ← number_at w32 upto.1
  outcome ← outcome_at number.1
  Some (record { generation = generation.0; upto = upto.0; number = number.0; outcome = outcome.0 }, outcome.1)

unfoldable pub snapshot_entry_at : List ℕ → Option (SnapshotEntry × List ℕ)
snapshot_entry_at bytes = do
  held ← held_at bytes
  tab ← tab_at held.1
  mode ← mode_at tab.1
  name ← lock_name_at mode.1
  Some (record { held = held.0; tab = tab.0; mode = mode.0; name = name.0 }, name.1)

unfoldable pub snapshot_at : List ℕ → Option (Snapshot × List ℕ)
snapshot_at bytes = do
  generation ← generation_at bytes
  number ← number_at w32 generation.1
  part ← part_at number.1
  entries ← list_at snapshot_entry_at ENTRY_LIMIT part.1
  Some (record { generation = generation.0; number = number.0; part = part.0.0; parts = part.0.1; entries = entries.0 }, entries.1)

-- Frames from the kernel

unfoldable pub welcome_at : List ℕ → Option (Welcome × List ℕ)
welcome_at bytes = do
  tab ← tab_at bytes
  origin ← origin_at tab.1
  Some (record { tab = tab.0; origin = origin.0 }, origin.1)

unfoldable pub pair_welcome_at : List ℕ → Option (PairWelcome × List ℕ)
pair_welcome_at bytes = do
  tab ← tab_at bytes
  top ← origin_at tab.1
  own ← origin_at top.1
  Some (record { tab = tab.0; top = top.0; own = own.0 }, own.1)

unfoldable pub place_at : List ℕ → Option ((ℕ × ℕ) × List ℕ)
place_at bytes = do
  tab ← tab_at bytes
  partition ← tab_at tab.1
  Some ((tab.0, partition.0), partition.1)

abbrev pub tabs_rise : ℕ → List (ℕ × ℕ) → Bool
tabs_rise least [] = true
tabs_rise least (p ∷ ps) = if nat_lt p.0 least then false else tabs_rise (p.0 + 1) ps

unfoldable pub rising_places_at : List ℕ → Option (List (ℕ × ℕ) × List ℕ)
rising_places_at bytes = do
  places ← list_at place_at LIST_LIMIT bytes
  if not (tabs_rise 1 places.0) then None else Some places

unfoldable pub start_at : List ℕ → Option (Start × List ℕ)
start_at bytes = do
  generation ← generation_at bytes
  places ← rising_places_at generation.1
  Some (record { generation = generation.0; list = places.0 }, places.1)

unfoldable pub dead_at : List ℕ → Option (Dead × List ℕ)
dead_at bytes = do
  tab ← tab_at bytes
  Some (record { tab = tab.0 }, tab.1)

-- Inner bodies, which extend to the end of the frame

unfoldable pub inner_kind_at : List ℕ → Option (Kind × List ℕ)
inner_kind_at bytes = do
  version ← byte_at bytes
  code ← byte_at version.1
  kind ← kind_at version.0 code.0
  Some (kind, code.1)

-- No bytes are left over.
abbrev pub all_of : {X : Type 0} → X × List ℕ → Option (X × List ℕ)
all_of read = if not (length read.1 == 0) then None else Some read

abbrev pub upward_fields_at : Kind → List ℕ → Option (Upward × List ℕ)
upward_fields_at kind.Command bytes = command_at bytes >>= λ c. Some (up.Command c.0, c.1)
upward_fields_at kind.Report bytes = report_at bytes >>= λ r. Some (up.Report r.0, r.1)
upward_fields_at kind.ReportPart bytes = report_part_at bytes >>= λ r. Some (up.ReportPart r.0, r.1)
upward_fields_at _ bytes = None

unfoldable pub upward_at : List ℕ → Option (Upward × List ℕ)
upward_at bytes = do
  kind ← inner_kind_at bytes
  inner ← upward_fields_at kind.0 kind.1
  all_of inner

unfoldable pub stamped_at : List ℕ → Option (Stamped × List ℕ)
stamped_at bytes = do
  tab ← tab_at bytes
  partition ← tab_at tab.1
  inner ← upward_at partition.1
  Some (record { tab = tab.0; partition = partition.0; inner = inner.0 }, inner.1)

abbrev pub downward_fields_at : Kind → List ℕ → Option (Downward × List ℕ)
downward_fields_at kind.Hello bytes = hello_at bytes >>= λ h. Some (down.Hello h.0, h.1)
downward_fields_at kind.Answer bytes = answer_at bytes >>= λ a. Some (down.Answer a.0, a.1)
downward_fields_at kind.Snapshot bytes = snapshot_at bytes >>= λ s. Some (down.Snapshot s.0, s.1)
downward_fields_at _ bytes = None

unfoldable pub downward_at : List ℕ → Option (Downward × List ℕ)
downward_at bytes = do
  kind ← inner_kind_at bytes
  inner ← downward_fields_at kind.0 kind.1
  all_of inner

unfoldable pub addressed_at : List ℕ → Option (Addressed × List ℕ)
addressed_at bytes = do
  tab ← tab_at bytes
  inner ← downward_at tab.1
  Some (record { tab = tab.0; inner = inner.0 }, inner.1)

-- Frames: the fields of each kind

abbrev pub frame_at : Kind → List ℕ → Option (Frame × List ℕ)
frame_at kind.Command bytes = command_at bytes >>= λ c. Some (frame.Command c.0, c.1)
frame_at kind.Report bytes = report_at bytes >>= λ r. Some (frame.Report r.0, r.1)
frame_at kind.ReportPart bytes = report_part_at bytes >>= λ r. Some (frame.ReportPart r.0, r.1)
frame_at kind.Post bytes = post_at bytes >>= λ p. Some (frame.Post p.0, p.1)
frame_at kind.Hello bytes = hello_at bytes >>= λ h. Some (frame.Hello h.0, h.1)
frame_at kind.Answer bytes = answer_at bytes >>= λ a. Some (frame.Answer a.0, a.1)
frame_at kind.Snapshot bytes = snapshot_at bytes >>= λ s. Some (frame.Snapshot s.0, s.1)
frame_at kind.Heard bytes = heard_at bytes >>= λ h. Some (frame.Heard h.0, h.1)
frame_at kind.Welcome bytes = welcome_at bytes >>= λ w. Some (frame.Welcome w.0, w.1)
frame_at kind.PairWelcome bytes = pair_welcome_at bytes >>= λ w. Some (frame.PairWelcome w.0, w.1)
frame_at kind.Stamped bytes = stamped_at bytes >>= λ s. Some (frame.Stamped s.0, s.1)
frame_at kind.Start bytes = start_at bytes >>= λ s. Some (frame.Start s.0, s.1)
frame_at kind.Addressed bytes = addressed_at bytes >>= λ a. Some (frame.Addressed a.0, a.1)
frame_at kind.Dead bytes = dead_at bytes >>= λ d. Some (frame.Dead d.0, d.1)
