-- Well-formedness of all frames that a tab sends.
use Rattle.std.proofs.Common.{◌≡◌, ℕ, zero, suc, ◌+◌, ◌*◌, ◌/◌, ◌<◌, ◌≤◌, Bool, true, false, not, cond, eqb, ltb, List, [], ◌∷◌, ◌++◌, length, map, take, drop, get_or, Some, None, refl, sym, ap, ◌∙◌, subst, arith}
use Rattle.std.proofs.lemmas.Bool.{both_ways, eq-eqb, ltb-false, not-true, not-false}
use Rattle.std.proofs.lemmas.List.{length-take}
use Rattle.std.proofs.lemmas.List.Elements.{All-from_recursion, recursion_from_All, All-append, All-take, All-drop}
use Rattle.std.specs.Str.{IsUtf8}
use Rattle.std.specs.List.{AllByRecursion, range_with_len}
use Rattle.wl_limits.specs.declared.frames.TheConstants.{ENTRY_LIMIT}
use Rattle.wl_limits.specs.declared.texts.TheConstants.{NAME_LIMIT}
use Rattle.wl_draft.specs.declared.row.Entry.{Entry}
use Rattle.wl_draft.specs.Tables.{Table, Rises}
use Rattle.wl_grammar.specs.declared.frame.Operation.{Operation}
use Rattle.wl_grammar.specs.declared.frame.Operation.TheVariants.{Request, Release, Abort, Query}
use Rattle.wl_grammar.specs.declared.frame.Report.{Report}
use Rattle.wl_grammar.specs.declared.frame.Frame.{Frame}
use Rattle.wl_grammar.specs.Grammar.{IsU32, IsGeneration, IsLockName, HasNoDash, IsOperation, IsEntry, RiseFrom, IsWellFormed}
use Rattle.wl_grammar.specs.PartCount.{part_count}
use Rattle.wl_agent.specs.declared.fault.AgentFault.TheVariants.{NotSupported, NameTooLong}
use Rattle.wl_agent.specs.declared.status.Status.{Status}
use Rattle.wl_agent.specs.declared.status.Status.TheVariants.{Asked, Held, Querying, Whole, Lost}
use Rattle.wl_agent.specs.Tab.{TabState, enter, enter_first, enter_later, report_of, upward_frame, report_bodies, ask_refusal, live_refusal, is_supported}
use Rattle.wl_agent.specs.AgentInvariant.{IsAgentInvariant, IsValidReport, HasValidFrames, RowsFit, can_become, reports, entry_at, entries_of}
use Rattle.wl_agent.proofs.Outcomes.{passed}
use Rattle.wl_agent.proofs.ToldReports.{part_frame, told_in_parts, length-entries_of}

-- Commands

-- Issuing one more valid command keeps all commands well-formed.
pub spoken-more : {in_parts : Bool} {entered : ℕ} {report : Report} {issued : List Operation} (o : Operation) (more : List Operation) → HasValidFrames in_parts entered report issued → IsOperation o → more ≡ issued ++ o ∷ [] → HasValidFrames in_parts entered report more
spoken-more {issued = issued} o more s new e =
    let all = recursion_from_All IsOperation (issued ++ o ∷ []) (All-append IsOperation issued (o ∷ []) (All-from_recursion IsOperation issued s.commands) (All-from_recursion IsOperation (o ∷ []) (new, tt))) in
    record { tellable = s.tellable; generation = s.generation; commands = subst (λ os. AllByRecursion IsOperation os) (sym e) all }

-- The command of each number is valid.
pub spoken-at : (issued : List Operation) (k : ℕ) → AllByRecursion IsOperation issued → IsOperation (get_or issued k Query)
spoken-at [] k s = tt
spoken-at (o ∷ os) zero s = s.0
spoken-at (o ∷ os) (suc k) s = spoken-at os k s.1

no_dash : (name : List ℕ) → is_supported name ≡ true → HasNoDash name
no_dash [] e = tt
no_dash (b ∷ bs) e = λ same. both_ways (eqb b 45) (not-true (eqb b 45) e) (eq-eqb b 45 same)

-- A name that a request accepts is a valid lock name.
pub name-spoken : (a : TabState) (name : List ℕ) → ask_refusal a name ≡ None → IsUtf8 name → IsLockName name
name-spoken a name e text =
    let dash = passed (not (is_supported name)) NotSupported (cond (ltb NAME_LIMIT (length name)) (Some NameTooLong) (live_refusal a 2)) e in
    let short = passed (ltb NAME_LIMIT (length name)) NameTooLong (live_refusal a 2) dash.1 in
    ((ltb-false NAME_LIMIT (length name) short.0, text), no_dash name (not-false (is_supported name) dash.0))

-- Entries of a report

asked_name : (o : Operation) (s : Status) (k : ℕ) → can_become o s ≡ true → reports o s ≡ true → IsOperation o → IsU32 k → IsEntry (entry_at k o s)
asked_name (Request mode if_available name) s k c r spoken number = (number, spoken)
asked_name (Release n) Asked k c r spoken number = cc
asked_name (Release n) Held k c r spoken number = cc
asked_name (Release n) (Querying p) k c r spoken number = cc
asked_name (Release n) (Whole p) k c r spoken number = cc
asked_name (Release n) Lost k c r spoken number = cc
asked_name (Abort n) Asked k c r spoken number = cc
asked_name (Abort n) Held k c r spoken number = cc
asked_name (Abort n) (Querying p) k c r spoken number = cc
asked_name (Abort n) (Whole p) k c r spoken number = cc
asked_name (Abort n) Lost k c r spoken number = cc
asked_name Query Asked k c r spoken number = cc
asked_name Query Held k c r spoken number = cc
asked_name Query (Querying p) k c r spoken number = cc
asked_name Query (Whole p) k c r spoken number = cc
asked_name Query Lost k c r spoken number = cc

entry_as : (e : Entry) (rest : List Entry) (b : Bool) → (b ≡ true → IsEntry e) → AllByRecursion IsEntry rest → AllByRecursion IsEntry (cond b (e ∷ rest) rest)
entry_as e rest true first below = (first refl, below)
entry_as e rest false first below = below

entries-spoken : (issued : List Operation) (rows : Table Status) → length issued ≤ 1000000 → AllByRecursion IsOperation issued → RowsFit issued rows → AllByRecursion IsEntry (entries_of issued rows)
entries-spoken issued [] le spoken fit = tt
entries-spoken issued (row ∷ rows) le spoken fit =
    let o = get_or issued row.0 Query in
    let stands = fit.0 in
    entry_as (entry_at row.0 o row.1) (entries_of issued rows) (reports o row.1)
    (λ r. asked_name o row.1 row.0 stands.1 r (spoken-at issued row.0 spoken) (omega (arith, stands.0, le)))
    (entries-spoken issued rows le spoken fit.1)

RiseFrom-from : (least more : ℕ) (es : List Entry) → least ≤ more → RiseFrom more es → RiseFrom least es
RiseFrom-from least more [] le r = tt
RiseFrom-from least more (e ∷ es) le r = (omega (arith, r.0), r.1)

rise_as : (least : ℕ) (e : Entry) (rest : List Entry) (b : Bool) → least ≤ e.number → RiseFrom (e.number + 1) rest → RiseFrom least (cond b (e ∷ rest) rest)
rise_as least e rest true le r = (le, r)
rise_as least e rest false le r = RiseFrom-from least (e.number + 1) rest (omega arith) r

entries-rise : (issued : List Operation) (least : ℕ) (rows : Table Status) → Rises least rows → RiseFrom least (entries_of issued rows)
entries-rise issued least [] r = tt
entries-rise issued least (row ∷ rows) r =
    let o = get_or issued row.0 Query in
    rise_as least (entry_at row.0 o row.1) (entries_of issued rows) (reports o row.1) r.0 (entries-rise issued (row.0 + 1) rows r.1)

-- The report of a later generation is well-formed, except for its generation.
pub tells : (a : TabState) (room g base : ℕ) (entries : List Entry) → IsAgentInvariant a room → AllByRecursion IsOperation a.issued → base ≡ length a.issued → entries ≡ entries_of a.issued a.statuses → IsValidReport a.in_parts (record { generation = g; base = base; entries = entries })
tells a room g base entries t spoken base_is e =
    let R : List Entry → Type 0 = λ es. IsValidReport a.in_parts (record { generation = g; base = base; entries = es }) in
    subst R (sym e) (record {
      few = omega (arith, length-entries_of a.issued a.statuses, t.few);
      base = omega (arith, base_is, t.limit, t.numbers);
      entries = entries-spoken a.issued a.statuses (omega (arith, t.limit, t.numbers)) spoken t.rows;
      rise = entries-rise a.issued 0 a.statuses t.rise;
    })

-- The first report of a life is well-formed, except for its generation.
pub tells-none : (in_parts : Bool) (g : ℕ) (entries : List Entry) → entries ≡ [] → IsValidReport in_parts (record { generation = g; base = 0; entries = entries })
tells-none in_parts g entries e =
    let R : List Entry → Type 0 = λ es. IsValidReport in_parts (record { generation = g; base = 0; entries = es }) in
    subst R (sym e) (record { few = omega arith; base = omega arith; entries = tt; rise = tt })

-- Frames of a report

RiseFrom-take : (n least : ℕ) (es : List Entry) → RiseFrom least es → RiseFrom least (take n es)
RiseFrom-take zero least es r = tt
RiseFrom-take (suc n) least [] r = tt
RiseFrom-take (suc n) least (e ∷ es) r = (r.0, RiseFrom-take n (e.number + 1) es r.1)

RiseFrom-drop : (n least : ℕ) (es : List Entry) → RiseFrom least es → RiseFrom least (drop n es)
RiseFrom-drop zero least es r = r
RiseFrom-drop (suc n) least [] r = tt
RiseFrom-drop (suc n) least (e ∷ es) r =
    RiseFrom-from least (e.number + 1) (drop n es) (omega (arith, r.0)) (RiseFrom-drop n (e.number + 1) es r.1)

few_parts : (n : ℕ) (b : Bool) → n ≤ 1024 → cond b 1 ((n + 63) / 64) ≤ 16
few_parts n true le = omega arith
few_parts n false le = omega arith

part-spoken : (r : Report) (k : ℕ) → IsGeneration r.generation → IsValidReport true r → k < part_count r.entries → IsWellFormed (part_frame r k)
part-spoken r k generation t lt =
    let rest = drop (ENTRY_LIMIT * k) r.entries in
    let spoken = All-take IsEntry ENTRY_LIMIT rest (All-drop IsEntry (ENTRY_LIMIT * k) r.entries (All-from_recursion IsEntry r.entries t.entries)) in
    record {
      generation = generation;
      base = t.base;
      part = lt;
      parts = few_parts (length r.entries) (eqb (length r.entries) 0) t.few;
      count = omega (arith, length-take ENTRY_LIMIT rest);
      entries = recursion_from_All IsEntry (take ENTRY_LIMIT rest) spoken;
      rise = RiseFrom-take ENTRY_LIMIT 0 rest (RiseFrom-drop (ENTRY_LIMIT * k) 0 r.entries t.rise);
    }

all-range : {Y : Type 0} (Q : Y → Type 0) (f : ℕ → Y) (from n : ℕ) → ((k : ℕ) → k < from + n → Q (f k)) → AllByRecursion Q (map f (range_with_len from n))
all-range Q f from zero each = tt
all-range Q f from (suc n) each = (each from (omega arith), all-range Q f (from + 1) n (λ k below. each k (omega arith)))

pub frames-spoken : (in_parts : Bool) (r : Report) → IsGeneration r.generation → IsValidReport in_parts r → AllByRecursion IsWellFormed (map upward_frame (report_bodies in_parts r))
unfolding report_bodies
frames-spoken false r generation t =
    (record { generation = generation; base = t.base; count = t.few; entries = t.entries; rise = t.rise }, tt)
frames-spoken true r generation t =
    subst (λ fs. AllByRecursion IsWellFormed fs) (told_in_parts r) (all-range IsWellFormed (part_frame r) 0 (part_count r.entries) (λ k below. part-spoken r k generation t (omega arith)))

-- Entering a generation

generation_as : (g : ℕ) (a : TabState) (c : Bool) → (cond c (enter_first g a) (enter_later g a)).report.generation ≡ g
unfolding enter_first enter_later report_of
generation_as g a true = refl
generation_as g a false = refl

-- The frames of the report with which the tab enters a generation are well-formed.
pub enters-spoken : (g : ℕ) (a : TabState) (in_parts : Bool) (r : Report) (frames : List Frame) → r ≡ (enter g a).report → IsGeneration g → IsValidReport in_parts r → frames ≡ map upward_frame (report_bodies in_parts r) → AllByRecursion IsWellFormed frames
enters-spoken g a in_parts r frames r_is generation t frames_are =
    let at : r.generation ≡ g = ap (λ (x : Report). x.generation) r_is ∙ generation_as g a (eqb a.entered 0) in
    subst (λ fs. AllByRecursion IsWellFormed fs) (sym frames_are) (frames-spoken in_parts r (subst IsGeneration (sym at) generation) t)

-- The frames of the report are well-formed when they are made again.
pub again-spoken : {in_parts : Bool} {entered : ℕ} {report : Report} {issued : List Operation} (frames : List Frame) → HasValidFrames in_parts entered report issued → IsGeneration entered → frames ≡ map upward_frame (report_bodies in_parts report) → AllByRecursion IsWellFormed frames
again-spoken {in_parts} {entered} {report} frames s generation frames_are =
    subst (λ fs. AllByRecursion IsWellFormed fs) (sym frames_are) (frames-spoken in_parts report (subst IsGeneration (sym s.generation) generation) s.tellable)
