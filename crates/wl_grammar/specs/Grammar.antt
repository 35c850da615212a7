-- Grammar of the frames: the kinds of frames, and the unique encoding of each frame.
use Rattle.std.specs.Prelude.{◌≡◌, ℕ, ◌+◌, ◌^◌, ◌<◌, ◌≤◌, List, [], ◌∷◌, ◌++◌, Bool, true, false, length, All, ⊤}
use Rattle.std.specs.Int.{w16, w32, to_be_bytes}
use Rattle.std.specs.List.{flat_map, AllByRecursion}
use Rattle.std.specs.Str.{IsUtf8, IsAscii}
use Rattle.wl_limits.specs.declared.frames.TheConstants.{ENTRY_LIMIT, LIST_LIMIT, REPORT_PART_LIMIT}
use Rattle.wl_limits.specs.declared.texts.TheConstants.{DATA_LIMIT, NAME_LIMIT, ORIGIN_LIMIT}
use Rattle.wl_draft.specs.declared.mode.Mode.{Mode}
use Rattle.wl_draft.specs.declared.mode.Mode.TheVariants.{Shared, Exclusive}
use Rattle.wl_draft.specs.declared.row.Entry.{Entry}
use Rattle.wl_grammar.specs.declared.kinds.TheConstants.{FIRST_VERSION, SECOND_VERSION, COMMAND, REPORT, POST, HELLO, ANSWER, SNAPSHOT, HEARD, WELCOME, STAMPED, START, ADDRESSED, DEAD, REPORT_PART, PAIR_WELCOME}
use Rattle.wl_grammar.specs.declared.frame.Operation.{Operation}
use Rattle.wl_grammar.specs.declared.frame.Operation.TheVariants as op
use Rattle.wl_grammar.specs.declared.frame.Outcome.{Outcome}
use Rattle.wl_grammar.specs.declared.frame.Outcome.TheVariants as outcome
use Rattle.wl_grammar.specs.declared.frame.Command.{Command}
use Rattle.wl_grammar.specs.declared.frame.Report.{Report}
use Rattle.wl_grammar.specs.declared.frame.ReportPart.{ReportPart}
use Rattle.wl_grammar.specs.declared.frame.Post.{Post}
use Rattle.wl_grammar.specs.declared.frame.Hello.{Hello}
use Rattle.wl_grammar.specs.declared.frame.Answer.{Answer}
use Rattle.wl_grammar.specs.declared.frame.SnapshotEntry.{SnapshotEntry}
use Rattle.wl_grammar.specs.declared.frame.Snapshot.{Snapshot}
use Rattle.wl_grammar.specs.declared.frame.Heard.{Heard}
use Rattle.wl_grammar.specs.declared.frame.Welcome.{Welcome}
use Rattle.wl_grammar.specs.declared.frame.PairWelcome.{PairWelcome}
use Rattle.wl_grammar.specs.declared.frame.Stamped.{Stamped}
use Rattle.wl_grammar.specs.declared.frame.Start.{Start}
use Rattle.wl_grammar.specs.declared.frame.Addressed.{Addressed}
use Rattle.wl_grammar.specs.declared.frame.Dead.{Dead}
use Rattle.wl_grammar.specs.declared.frame.Upward.{Upward}
use Rattle.wl_grammar.specs.declared.frame.Upward.TheVariants as up
use Rattle.wl_grammar.specs.declared.frame.Downward.{Downward}
use Rattle.wl_grammar.specs.declared.frame.Downward.TheVariants as down
use Rattle.wl_grammar.specs.declared.frame.Frame.{Frame}
use Rattle.wl_grammar.specs.declared.frame.Frame.TheVariants as frame

-- Fields: their valid values and their encodings

-- A number is encoded in two or in four bytes, most significant byte first.
abbrev pub u16 : ℕ → List ℕ
u16 n = to_be_bytes w16 n

abbrev pub u32 : ℕ → List ℕ
u32 n = to_be_bytes w32 n

abbrev pub IsU16 : ℕ → Type 0
IsU16 n = n < 2 ^ 16

abbrev pub IsU32 : ℕ → Type 0
IsU32 n = n < 2 ^ 32

-- Generations, tabs and partitions are numbered from 1.
abbrev pub IsGeneration : ℕ → Type 0
IsGeneration n = (1 ≤ n) × IsU32 n

abbrev pub IsTab : ℕ → Type 0
IsTab n = (1 ≤ n) × IsU16 n

abbrev pub spelled_mode : Mode → List ℕ
spelled_mode Shared = 1 ∷ []
spelled_mode Exclusive = 2 ∷ []

-- A flag is 0 or 1. A lock's state is 1 if it is held and 2 if it is waiting.
abbrev pub spelled_flag : Bool → List ℕ
spelled_flag false = 0 ∷ []
spelled_flag true = 1 ∷ []

abbrev pub spelled_held : Bool → List ℕ
spelled_held true = 1 ∷ []
spelled_held false = 2 ∷ []

-- Text or data follows its length, which takes one byte in `short_text` and two bytes in
-- `long_text`.
abbrev pub short_text : List ℕ → List ℕ
short_text bytes = length bytes ∷ bytes

abbrev pub long_text : List ℕ → List ℕ
long_text bytes = u16 (length bytes) ++ bytes

-- A channel's name is UTF-8 text of at most NAME_LIMIT bytes.
abbrev pub IsChannel : List ℕ → Type 0
IsChannel name = (length name ≤ NAME_LIMIT) × IsUtf8 name

-- The first byte is not U+002D.
abbrev pub HasNoDash : List ℕ → Type 0
HasNoDash [] = ⊤
HasNoDash (b ∷ bs) = b ≡ 45 → ⊥

-- A lock's name is valid as a channel's name and does not start with U+002D.
abbrev pub IsLockName : List ℕ → Type 0
IsLockName name = IsChannel name × HasNoDash name

-- The data of a post is at most DATA_LIMIT bytes.
abbrev pub IsData : List ℕ → Type 0
IsData bytes = (length bytes ≤ DATA_LIMIT) × All (λ b. b < 256) bytes

abbrev pub IsOrigin : List ℕ → Type 0
IsOrigin text = (length text ≤ ORIGIN_LIMIT) × IsAscii text

-- Operations and entries

abbrev pub operation : Operation → List ℕ
operation (op.Request mode if_available name) = 1 ∷ spelled_mode mode ++ spelled_flag if_available ++ short_text name
operation (op.Release number) = 2 ∷ u32 number
operation (op.Abort number) = 3 ∷ u32 number
operation op.Query = 4 ∷ []

abbrev pub IsOperation : Operation → Type 0
IsOperation (op.Request mode if_available name) = IsLockName name
IsOperation (op.Release number) = IsU32 number
IsOperation (op.Abort number) = IsU32 number
IsOperation op.Query = ⊤

abbrev pub entry : Entry → List ℕ
entry e = u32 e.number ++ spelled_held e.held ++ spelled_mode e.mode ++ short_text e.name

abbrev pub IsEntry : Entry → Type 0
IsEntry e = IsU32 e.number × IsLockName e.name

-- The numbers of the entries strictly rise, starting at `least` or above.
abbrev pub RiseFrom : ℕ → List Entry → Type 0
RiseFrom least [] = ⊤
RiseFrom least (e ∷ es) = (least ≤ e.number) × RiseFrom (e.number + 1) es

abbrev pub snapshot_entry : SnapshotEntry → List ℕ
snapshot_entry e = spelled_held e.held ++ u16 e.tab ++ spelled_mode e.mode ++ short_text e.name

abbrev pub IsSnapshotEntry : SnapshotEntry → Type 0
IsSnapshotEntry e = IsTab e.tab × IsLockName e.name

-- An entry of a start list is a tab and its partition.
abbrev pub place : ℕ × ℕ → List ℕ
place p = u16 p.0 ++ u16 p.1

abbrev pub IsPlace : ℕ × ℕ → Type 0
IsPlace p = IsTab p.0 × IsTab p.1

-- The tabs of the entries strictly rise, starting at `least` or above.
abbrev pub TabsRiseFrom : ℕ → List (ℕ × ℕ) → Type 0
TabsRiseFrom least [] = ⊤
TabsRiseFrom least (p ∷ ps) = (least ≤ p.0) × TabsRiseFrom (p.0 + 1) ps

abbrev pub spelled_outcome : Outcome → List ℕ
spelled_outcome outcome.Waiting = 1 ∷ []
spelled_outcome outcome.Granted = 2 ∷ []
spelled_outcome outcome.Gone = 3 ∷ []
spelled_outcome outcome.Taken = 4 ∷ []

-- Bodies: the version, the kind, and the fields of that kind

unfoldable pub command : Command → List ℕ
command c = FIRST_VERSION ∷ COMMAND ∷ (u32 c.generation ++ u32 c.number ++ operation c.operation)

pub record IsCommand (c : Command) : Type 0 where
  pub generation : IsGeneration c.generation
  pub number : IsU32 c.number
  pub operation : IsOperation c.operation

unfoldable pub report : Report → List ℕ
report r =
    FIRST_VERSION ∷ REPORT ∷ (u32 r.generation ++ u32 r.base ++ u16 (length r.entries) ++ flat_map entry r.entries)

pub record IsReport (r : Report) : Type 0 where
  pub generation : IsGeneration r.generation
  pub base : IsU32 r.base
  pub count : length r.entries ≤ ENTRY_LIMIT
  pub entries : AllByRecursion IsEntry r.entries
  pub rise : RiseFrom 0 r.entries

-- A report part belongs to version 2.
unfoldable pub report_part : ReportPart → List ℕ
report_part r =
    SECOND_VERSION ∷ REPORT_PART
    ∷ (u32 r.generation ++ u32 r.base ++ u16 r.part ++ u16 r.parts ++ u16 (length r.entries) ++ flat_map entry r.entries)

pub record IsReportPart (r : ReportPart) : Type 0 where
  pub generation : IsGeneration r.generation
  pub base : IsU32 r.base
  pub part : r.part < r.parts
  pub parts : r.parts ≤ REPORT_PART_LIMIT
  pub count : length r.entries ≤ ENTRY_LIMIT
  pub entries : AllByRecursion IsEntry r.entries
  pub rise : RiseFrom 0 r.entries

unfoldable pub post : Post → List ℕ
post p = FIRST_VERSION ∷ POST ∷ (u32 p.number ++ short_text p.channel ++ long_text p.bytes)

pub record IsPost (p : Post) : Type 0 where
  pub number : IsU32 p.number
  pub channel : IsChannel p.channel
  pub bytes : IsData p.bytes

unfoldable pub hello : Hello → List ℕ
hello h = FIRST_VERSION ∷ HELLO ∷ u32 h.generation

abbrev pub IsHello : Hello → Type 0
IsHello h = IsGeneration h.generation

unfoldable pub answer : Answer → List ℕ
answer a = FIRST_VERSION ∷ ANSWER ∷ (u32 a.generation ++ u32 a.upto ++ u32 a.number ++ spelled_outcome a.outcome)

pub record IsAnswer (a : Answer) : Type 0 where
  pub generation : IsGeneration a.generation
  pub upto : IsU32 a.upto
  pub number : IsU32 a.number

unfoldable pub snapshot : Snapshot → List ℕ
snapshot s =
    FIRST_VERSION ∷ SNAPSHOT
    ∷ (u32 s.generation ++ u32 s.number ++ u16 s.part ++ u16 s.parts ++ u16 (length s.entries) ++ flat_map snapshot_entry s.entries)

pub record IsSnapshot (s : Snapshot) : Type 0 where
  pub generation : IsGeneration s.generation
  pub number : IsU32 s.number
  pub part : s.part < s.parts
  pub parts : IsU16 s.parts
  pub count : length s.entries ≤ ENTRY_LIMIT
  pub entries : AllByRecursion IsSnapshotEntry s.entries

unfoldable pub heard : Heard → List ℕ
heard h = FIRST_VERSION ∷ HEARD ∷ (u16 h.source ++ u32 h.number ++ short_text h.channel ++ long_text h.bytes)

pub record IsHeard (h : Heard) : Type 0 where
  pub source : IsTab h.source
  pub number : IsU32 h.number
  pub channel : IsChannel h.channel
  pub bytes : IsData h.bytes

unfoldable pub welcome : Welcome → List ℕ
welcome w = FIRST_VERSION ∷ WELCOME ∷ (u16 w.tab ++ long_text w.origin)

pub record IsWelcome (w : Welcome) : Type 0 where
  pub tab : IsTab w.tab
  pub origin : IsOrigin w.origin

-- The welcome to a page under another top-level origin belongs to version 2.
unfoldable pub pair_welcome : PairWelcome → List ℕ
pair_welcome w = SECOND_VERSION ∷ PAIR_WELCOME ∷ (u16 w.tab ++ long_text w.top ++ long_text w.own)

pub record IsPairWelcome (w : PairWelcome) : Type 0 where
  pub tab : IsTab w.tab
  pub top : IsOrigin w.top
  pub own : IsOrigin w.own

-- A stamped frame carries an `upward` body, and an addressed frame carries a `downward` body.
unfoldable pub upward : Upward → List ℕ
upward (up.Command c) = command c
upward (up.Report r) = report r
upward (up.ReportPart r) = report_part r

abbrev pub IsUpward : Upward → Type 0
IsUpward (up.Command c) = IsCommand c
IsUpward (up.Report r) = IsReport r
IsUpward (up.ReportPart r) = IsReportPart r

unfoldable pub downward : Downward → List ℕ
downward (down.Hello h) = hello h
downward (down.Answer a) = answer a
downward (down.Snapshot s) = snapshot s

abbrev pub IsDownward : Downward → Type 0
IsDownward (down.Hello h) = IsHello h
IsDownward (down.Answer a) = IsAnswer a
IsDownward (down.Snapshot s) = IsSnapshot s

unfoldable pub stamped : Stamped → List ℕ
stamped s = FIRST_VERSION ∷ STAMPED ∷ (u16 s.tab ++ u16 s.partition ++ upward s.inner)

pub record IsStamped (s : Stamped) : Type 0 where
  pub tab : IsTab s.tab
  pub partition : IsTab s.partition
  pub inner : IsUpward s.inner

unfoldable pub start : Start → List ℕ
start s = FIRST_VERSION ∷ START ∷ (u32 s.generation ++ u16 (length s.list) ++ flat_map place s.list)

pub record IsStart (s : Start) : Type 0 where
  pub generation : IsGeneration s.generation
  pub count : length s.list ≤ LIST_LIMIT
  pub places : AllByRecursion IsPlace s.list
  pub rise : TabsRiseFrom 1 s.list

unfoldable pub addressed : Addressed → List ℕ
addressed a = FIRST_VERSION ∷ ADDRESSED ∷ (u16 a.tab ++ downward a.inner)

pub record IsAddressed (a : Addressed) : Type 0 where
  pub tab : IsTab a.tab
  pub inner : IsDownward a.inner

unfoldable pub dead : Dead → List ℕ
dead d = FIRST_VERSION ∷ DEAD ∷ u16 d.tab

abbrev pub IsDead : Dead → Type 0
IsDead d = IsTab d.tab

-- Frames

-- The body of a frame is its version, its kind, and the fields of that kind.
unfoldable pub body : Frame → List ℕ
body (frame.Command c) = command c
body (frame.Report r) = report r
body (frame.ReportPart r) = report_part r
body (frame.Post p) = post p
body (frame.Hello h) = hello h
body (frame.Answer a) = answer a
body (frame.Snapshot s) = snapshot s
body (frame.Heard h) = heard h
body (frame.Welcome w) = welcome w
body (frame.PairWelcome w) = pair_welcome w
body (frame.Stamped s) = stamped s
body (frame.Start s) = start s
body (frame.Addressed a) = addressed a
body (frame.Dead d) = dead d

-- A frame is well-formed if each of its fields has a valid value.
abbrev pub IsWellFormed : Frame → Type 0
IsWellFormed (frame.Command c) = IsCommand c
IsWellFormed (frame.Report r) = IsReport r
IsWellFormed (frame.ReportPart r) = IsReportPart r
IsWellFormed (frame.Post p) = IsPost p
IsWellFormed (frame.Hello h) = IsHello h
IsWellFormed (frame.Answer a) = IsAnswer a
IsWellFormed (frame.Snapshot s) = IsSnapshot s
IsWellFormed (frame.Heard h) = IsHeard h
IsWellFormed (frame.Welcome w) = IsWelcome w
IsWellFormed (frame.PairWelcome w) = IsPairWelcome w
IsWellFormed (frame.Stamped s) = IsStamped s
IsWellFormed (frame.Start s) = IsStart s
IsWellFormed (frame.Addressed a) = IsAddressed a
IsWellFormed (frame.Dead d) = IsDead d

-- The bytes are the body of this well-formed frame.
pub record IsBody (bytes : List ℕ) (f : Frame) : Type 0 where
  pub well_formed : IsWellFormed f
  pub spelled : bytes ≡ body f

-- A frame is sent as the length of its body, in four bytes, followed by the body.
unfoldable pub spelling : Frame → List ℕ
spelling f = u32 (length (body f)) ++ body f
