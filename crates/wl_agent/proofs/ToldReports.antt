-- Frames of a report, and the maximum number of its entries.
use Rattle.std.proofs.Common.{◌≡◌, ℕ, ◌+◌, ◌*◌, ◌≤◌, Bool, true, false, cond, eqb, List, [], ◌∷◌, ◌++◌, length, map, take, drop, get_or, Some, refl, sym, ap, ◌∙◌, arith}
use Rattle.std.proofs.lemmas.Simd.{map-map}
use Rattle.std.proofs.lemmas.List.FromFn.{map-range_with_len_more}
use Rattle.std.specs.List.{range_with_len}
use Rattle.wl_limits.specs.declared.frames.TheConstants.{ENTRY_LIMIT}
use Rattle.wl_draft.specs.declared.row.Entry.{Entry}
use Rattle.wl_draft.specs.Tables.{Table}
use Rattle.wl_grammar.specs.declared.frame.Operation.{Operation}
use Rattle.wl_grammar.specs.declared.frame.Operation.TheVariants.{Query}
use Rattle.wl_grammar.specs.declared.frame.Report.{Report}
use Rattle.wl_grammar.specs.declared.frame.Upward.TheVariants as up
use Rattle.wl_grammar.specs.declared.frame.Frame.{Frame}
use Rattle.wl_grammar.specs.declared.frame.Frame.TheVariants as frame
use Rattle.wl_grammar.specs.PartCount.{part_count}
use Rattle.wl_agent.specs.declared.status.Status.{Status}
use Rattle.wl_agent.specs.declared.status.Status.TheVariants.{Asked, Held, Querying, Whole, Lost}
use Rattle.wl_agent.specs.Tab.{TabState, enter, enter_first, enter_later, report_frames, report_bodies, upward_frame, part_of, count_of, is_live}
use Rattle.wl_agent.specs.AgentInvariant.{reports, entry_at, entries_of}
use Rattle.wl_agent.proofs.Rows.{weight, passing-cons}

-- Frames

-- The frame of a part.
abbrev pub part_frame : Report → ℕ → Frame
part_frame r k = frame.ReportPart (part_of r k)

pub told_at_once : (r : Report) → frame.Report r ∷ [] ≡ map upward_frame (report_bodies false r)
unfolding report_bodies
told_at_once r = refl

pub told_in_parts : (r : Report) → map (part_frame r) (range_with_len 0 (part_count r.entries)) ≡ map upward_frame (report_bodies true r)
unfolding report_bodies
told_in_parts r = sym (map-map upward_frame (λ k. up.ReportPart (part_of r k)) (range_with_len 0 (part_count r.entries)))

-- One more part appends its frame.
pub part_more : (r : Report) (k parts : ℕ) (frames : List Frame) (entries rest : List Entry) → frames ≡ map (part_frame r) (range_with_len 0 k) → entries ≡ take ENTRY_LIMIT rest → rest ≡ drop (ENTRY_LIMIT * k) r.entries → parts ≡ part_count r.entries → frames ++ frame.ReportPart (record { generation = r.generation; base = r.base; part = k; parts = parts; entries = entries }) ∷ [] ≡ map (part_frame r) (range_with_len 0 (k + 1))
part_more r k parts frames entries rest made taken left count =
    rw (made, taken, left, count) (sym (map-range_with_len_more (part_frame r) 0 k k (omega arith)))

-- Number of entries

one_at_most : (b : Bool) → cond b 1 0 ≤ 1
one_at_most true = omega arith
one_at_most false = omega arith

reported_lives : (o : Operation) (s : Status) (b : Bool) → reports o s ≡ b → cond b 1 0 ≤ weight is_live (Some s)
reported_lives o Asked b e = one_at_most b
reported_lives o Held b e = one_at_most b
reported_lives o (Querying p) b e = one_at_most b
reported_lives o (Whole p) b e = rw (← e) (omega arith)
reported_lives o Lost b e = rw (← e) (omega arith)

entries_fewer : (issued : List Operation) (row : ℕ × Status) (rest : List Entry) (n : ℕ) (b : Bool) → cond b 1 0 ≤ weight is_live (Some row.1) → length rest ≤ n → length (cond b (entry_at row.0 (get_or issued row.0 Query) row.1 ∷ rest) rest) ≤ weight is_live (Some row.1) + n
entries_fewer issued row rest n true le below = omega arith
entries_fewer issued row rest n false le below = omega arith

-- Each reported number is live.
pub length-entries_of : (issued : List Operation) (rows : Table Status) → length (entries_of issued rows) ≤ count_of is_live rows
length-entries_of issued [] = omega arith
length-entries_of issued (row ∷ rows) =
    let o = get_or issued row.0 Query in
    omega (arith, entries_fewer issued row (entries_of issued rows) (count_of is_live rows) (reports o row.1) (reported_lives o row.1 (reports o row.1) refl) (length-entries_of issued rows), passing-cons is_live row rows)

-- Entering a generation

parts_as : (g : ℕ) (a : TabState) (c : Bool) → (cond c (enter_first g a) (enter_later g a)).in_parts ≡ a.in_parts
unfolding enter_first enter_later
parts_as g a true = refl
parts_as g a false = refl

-- The frames of the new report are those of the tab after entering.
pub enters-frames : (g : ℕ) (a : TabState) (in_parts : Bool) (r : Report) (frames : List Frame) → in_parts ≡ a.in_parts → r ≡ (enter g a).report → frames ≡ map upward_frame (report_bodies in_parts r) → frames ≡ report_frames (enter g a)
enters-frames g a in_parts r frames kind r_is frames_are =
    frames_are ∙ ap (λ (b : Bool). map upward_frame (report_bodies b r)) (kind ∙ sym (parts_as g a (eqb a.entered 0))) ∙ ap (λ (x : Report). map upward_frame (report_bodies (enter g a).in_parts x)) r_is
