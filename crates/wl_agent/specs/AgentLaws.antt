-- Invariants of a tab over any sequence of calls.
use Rattle.std.specs.Prelude.{◌≡◌, ◌⊎◌, ℕ, ◌+◌, ◌<◌, ◌≤◌, List, [], ◌∷◌, ◌++◌, Bool, ◌&&◌, ◌==◌, nat_lt, length, count_by, is_some, is_none, if◌then◌else◌, ⊤, Option, Some, None}
use Rattle.std.specs.List.{list_any, AllByRecursion}
use Rattle.wl_limits.specs.declared.tabs.TheConstants.{COMMAND_LIMIT}
use Rattle.wl_draft.specs.declared.mode.Mode.{Mode}
use Rattle.wl_grammar.specs.declared.frame.Outcome.TheVariants as outcome
use Rattle.wl_grammar.specs.declared.frame.Snapshot.{Snapshot as Part}
use Rattle.wl_grammar.specs.declared.frame.Frame.{Frame}
use Rattle.wl_grammar.specs.declared.frame.Frame.TheVariants as frame
use Rattle.wl_grammar.specs.Grammar.{RiseFrom}
use Rattle.wl_agent.specs.declared.status.Status.{Status}
use Rattle.wl_agent.specs.declared.status.Status.TheVariants.{Asked, Held, Querying, Whole, Lost}
use Rattle.wl_agent.specs.SnapshotParts.{PartsState, no_parts, with_part, snapshot_of}
use Rattle.wl_agent.specs.Tab.{TabState, born, status_of, is_issued, is_asked, is_reported, ask_refusal, query_refusal, asked, queried, aborted, released, report_of, live_limit, reserved_numbers, live_numbers}
use Rattle.wl_agent.specs.Tokens.{is_pending, is_holding, is_asking, after_query}
use Rattle.wl_agent.specs.Delivery.{has_entered, part_refusal, delivery}

-- A call on a tab: a request or a probe, a query, telling a token the end of its query, an abort, a
-- release, or a frame.
pub data Call : Type 0 where
  Asks : (mode : Mode) (if_available : Bool) (name : List ℕ) → Call
  Queries : Call
  Tells : (k : ℕ) → Call
  Aborts : (k : ℕ) → Call
  Releases : (k : ℕ) → Call
  Hears : (f : Frame) → Call

-- The state after a call. A refused call changes nothing.
abbrev pub step : Call → TabState → TabState
step (Asks mode if_available name) a = if is_some (ask_refusal a name) then a else asked mode if_available name a
step Queries a = if is_some (query_refusal a) then a else queried a
step (Tells k) a = if is_asking a k then after_query k a else a
step (Aborts k) a = if is_pending a k && is_asked (status_of a k) then aborted k a else a
step (Releases k) a = if is_holding a k then released k a else a
step (Hears f) a = (delivery f a).0

abbrev pub steps : List Call → TabState → TabState
steps [] a = a
steps (call ∷ calls) a = steps calls (step call a)

-- A newborn tab after these calls. It may issue `numbers` commands.
abbrev pub reached : Bool → ℕ → ℕ → List Call → TabState
reached in_parts tab numbers calls = steps calls (born in_parts tab numbers)

-- A number that is over stays over.
abbrev pub OverForEver : Type 0
OverForEver = (a : TabState) (calls : List Call) (k : ℕ) → k < length a.issued → status_of a k ≡ None → status_of (steps calls a) k ≡ None

-- The call delivers a Granted answer for this number, of the entered generation.
abbrev pub IsGrant : TabState → ℕ → Call → Type 0
IsGrant a k (Hears (frame.Answer x)) = (0 < a.entered) × (x.generation ≡ a.entered) × (x.number ≡ k) × (x.outcome ≡ outcome.Granted)
IsGrant a k call = ⊥

-- Only a Granted answer makes a number held, and only if the number was asked.
abbrev pub HeldByGrant : Type 0
HeldByGrant =
    (in_parts : Bool) (tab numbers : ℕ) (calls : List Call) (call : Call) (k : ℕ) → numbers ≤ COMMAND_LIMIT →
    status_of (step call (reached in_parts tab numbers calls)) k ≡ Some Held →
    (status_of (reached in_parts tab numbers calls) k ≡ Some Held)
    ⊎ ((status_of (reached in_parts tab numbers calls) k ≡ Some Asked) × IsGrant (reached in_parts tab numbers calls) k call)

-- An abort or a release ends its number at once.
abbrev pub EndedAtOnce : Type 0
EndedAtOnce = (a : TabState) (k : ℕ) → (status_of (aborted k a) k ≡ None) × (status_of (released k a) k ≡ None)

-- The entered generation never decreases, and the report does not change within a generation.
abbrev pub KeepsReport : Type 0
KeepsReport =
    (a : TabState) (call : Call) → (a.entered ≤ (step call a).entered)
    × ((step call a).entered ≡ a.entered → (step call a).report ≡ a.report)

-- The number of acknowledged commands does not decrease within a generation.
abbrev pub AcknowledgedNeverFalls : Type 0
AcknowledgedNeverFalls = (a : TabState) (call : Call) → (step call a).entered ≡ a.entered → a.acknowledged ≤ (step call a).acknowledged

-- A report lists each held lock and each asked request once, by rising number, with numbers below
-- its base.
abbrev pub ReportsLive : Type 0
ReportsLive =
    (a : TabState) (g : ℕ) → RiseFrom 0 (report_of g a).entries
    × AllByRecursion (λ e. e.number < (report_of g a).base) (report_of g a).entries
    × ((k : ℕ) → list_any (λ e. e.number == k) (report_of g a).entries ≡ (is_issued a k && is_reported a k))

-- The issued commands and the reserved numbers stay within the tab's numbers. The live numbers stay
-- within their limit, and the acknowledged count stays within the number of commands issued.
abbrev pub WithinLimits : TabState → Type 0
WithinLimits a =
    (length a.issued + reserved_numbers a ≤ a.numbers) × (live_numbers a ≤ live_limit a.in_parts) × (a.acknowledged ≤ length a.issued)

abbrev pub StaysWithinLimits : Type 0
StaysWithinLimits =
    (in_parts : Bool) (tab numbers : ℕ) (calls : List Call) → numbers ≤ COMMAND_LIMIT → WithinLimits (reached in_parts tab numbers calls)

-- Queries (Web Locks, "query")

-- The snapshot part for number `k` that a call delivers, if the tab takes it: it is of the entered
-- generation, and was missing until this call.
abbrev pub part_taken : ℕ → Call → TabState → List Part
part_taken k (Hears (frame.Snapshot x)) a = if x.number == k && has_entered x.generation a && is_none (part_refusal x a) then x ∷ [] else []
part_taken k call a = []

abbrev pub parts_taken : ℕ → List Call → TabState → List Part
parts_taken k [] a = []
parts_taken k (call ∷ calls) a = part_taken k call a ++ parts_taken k calls (step call a)

-- The parts are the whole answer: they have one generation, and each index below their count occurs
-- once.
pub record AreWhole (parts : List Part) : Type 0 where
  pub generation : ℕ
  pub count : ℕ
  pub some : 0 < count
  pub alike : AllByRecursion (λ x. (x.generation ≡ generation) × (x.parts ≡ count)) parts
  pub each_once : (n : ℕ) → count_by (λ x. x.part == n) parts ≡ (if nat_lt n count then 1 else 0)

-- The parts state after these parts are added to the earlier ones.
abbrev pub gathered : List Part → PartsState → PartsState
gathered [] came = came
gathered (x ∷ xs) came = gathered xs (with_part x came)

-- A query that is still asked or is lost has not received all parts. A whole query has received
-- all, and its snapshot is made of them.
abbrev pub AnsweredBy : Option Status → List Part → Type 0
AnsweredBy (Some (Querying came)) parts = AreWhole parts → ⊥
AnsweredBy (Some Lost) parts = AreWhole parts → ⊥
AnsweredBy (Some (Whole snapshot)) parts = AreWhole parts × (snapshot ≡ snapshot_of (gathered parts no_parts))
AnsweredBy s parts = ⊤

abbrev pub WholeOnceAllCame : Type 0
WholeOnceAllCame =
    (in_parts : Bool) (tab numbers : ℕ) (calls : List Call) (k : ℕ) → numbers ≤ COMMAND_LIMIT →
    AnsweredBy (status_of (reached in_parts tab numbers calls) k) (parts_taken k calls (born in_parts tab numbers))
