-- Invariant of a tab's agent, and helper definitions for the contracts of its private functions.
use Rattle.std.specs.Prelude.{◌≡◌, ℕ, ◌+◌, ◌<◌, ◌≤◌, List, [], ◌∷◌, Bool, true, false, ◌&&◌, ◌||◌, ◌==◌, nat_lt, length, get_or, Some, if◌then◌else◌}
use Rattle.std.specs.List.{AllByRecursion}
use Rattle.wl_limits.specs.declared.tabs.TheConstants.{COMMAND_LIMIT}
use Rattle.wl_draft.specs.declared.row.Entry.{Entry}
use Rattle.wl_draft.specs.Tables.{Table, Rises}
use Rattle.wl_grammar.specs.declared.frame.Report.{Report}
use Rattle.wl_grammar.specs.declared.frame.Operation.{Operation}
use Rattle.wl_grammar.specs.declared.frame.Operation.TheVariants.{Request, Query}
use Rattle.wl_grammar.specs.Grammar.{IsU32, IsOperation, IsEntry, RiseFrom}
use Rattle.wl_agent.specs.declared.status.Status.{Status}
use Rattle.wl_agent.specs.declared.status.Status.TheVariants.{Asked, Held, Querying, Whole, Lost}
use Rattle.wl_agent.specs.declared.delivered.Delivered.{Delivered}
use Rattle.wl_agent.specs.declared.delivered.Delivered.TheVariants as told
use Rattle.wl_agent.specs.Tab.{TabState, status_of, reserved_numbers, live_numbers, live_limit, count_of, reserves_number, is_live, is_asked, is_held, is_querying, is_request, mode_of, name_of, carried}

-- Rows of the statuses

-- The rows rise in number, and the counts of live numbers and of reserved numbers are correct.
pub record IsCounted (rows : Table Status) (live kept : ℕ) : Type 0 where
  pub rise : Rises 0 rows
  pub live_is : live ≡ count_of is_live rows
  pub kept_is : kept ≡ count_of reserves_number rows

-- A command can have this status.
abbrev pub can_become : Operation → Status → Bool
can_become (Request mode if_available name) Asked = true
can_become (Request mode if_available name) Held = true
can_become Query (Querying parts) = true
can_become Query (Whole snapshot) = true
can_become Query Lost = true
can_become o s = false

-- The number of the row has been issued, and its command can have the row's status.
abbrev pub Stands : List Operation → ℕ × Status → Type 0
Stands issued row = (row.0 < length issued) × (can_become (get_or issued row.0 Query) row.1 ≡ true)

abbrev pub RowsFit : List Operation → Table Status → Type 0
RowsFit issued rows = AllByRecursion (Stands issued) rows

-- The invariant of a tab between two calls. The list of commands has capacity for `room` commands.
pub record IsAgentInvariant (a : TabState) (room : ℕ) : Type 0 where
  pub limit : a.numbers ≤ COMMAND_LIMIT
  pub numbers : length a.issued + reserved_numbers a ≤ a.numbers
  pub has_room : length a.issued + reserved_numbers a ≤ room
  pub few : live_numbers a ≤ live_limit a.in_parts
  pub rise : Rises 0 a.statuses
  pub rows : RowsFit a.issued a.statuses
  pub acknowledged : a.acknowledged ≤ length a.issued

-- The report is well-formed except for its generation, and has no more entries than the tab's limit
-- of live numbers.
pub record IsValidReport (in_parts : Bool) (report : Report) : Type 0 where
  pub few : length report.entries ≤ live_limit in_parts
  pub base : IsU32 report.base
  pub entries : AllByRecursion IsEntry report.entries
  pub rise : RiseFrom 0 report.entries

-- The report and all commands of the tab are well-formed.
pub record HasValidFrames (in_parts : Bool) (entered : ℕ) (report : Report) (issued : List Operation) : Type 0 where
  pub tellable : IsValidReport in_parts report
  pub generation : report.generation ≡ entered
  pub commands : AllByRecursion IsOperation issued

-- The same lists, computed row by row

abbrev pub reports : Operation → Status → Bool
reports o s = is_held (Some s) || (is_asked (Some s) && is_request o)

abbrev pub entry_at : ℕ → Operation → Status → Entry
entry_at k o s = record { number = k; held = is_held (Some s); mode = mode_of o; name = name_of o }

-- The entries of a report.
abbrev pub entries_of : List Operation → Table Status → List Entry
entries_of issued [] = []
entries_of issued (row ∷ rows) =
    if reports (get_or issued row.0 Query) row.1 then entry_at row.0 (get_or issued row.0 Query) row.1 ∷ entries_of issued rows
    else entries_of issued rows

-- The numbers below a bound that are still asked.
abbrev pub due_below : ℕ → Table Status → List ℕ
due_below n [] = []
due_below n (row ∷ rows) =
    if nat_lt row.0 n && (is_asked (Some row.1) || is_querying (Some row.1)) then row.0 ∷ due_below n rows else due_below n rows

-- Answers

-- The number has a status that this result can change.
abbrev pub CanFollow : Delivered → TabState → Type 0
CanFollow (told.Granted k) a = status_of a k ≡ Some Asked
CanFollow (told.Lost k) a = (is_querying (status_of a k) ≡ true)
CanFollow d a = Unit {0}

-- Entering a generation, in two steps

abbrev pub carried_tab : TabState → TabState
carried_tab a = if a.entered == 0 then a else record a { statuses = carried a.issued a.statuses }

abbrev pub begun : Report → TabState → TabState
begun r a = record a { entered = r.generation; acknowledged = r.base; answered = false; report = r }
