-- Content of a report part with its header, and the invariant of the parts kept so far.
use Rattle.std.specs.Prelude.{ℕ, ◌+◌, List, [], ◌∷◌, Bool, false, Option, Some, None, max}
use Rattle.std.specs.List.{list_all}
use Rattle.wl_draft.specs.declared.row.Entry.{Entry}
use Rattle.wl_draft.specs.Tables.{Table, has_row}
use Rattle.wl_broker_reports.specs.declared.heading.PartHeader.{PartHeader}
use Rattle.wl_broker_reports.specs.ReportParts.{Told, Partial, Whole, all_below}

-- The content of a report part with this header and these entries.
abbrev pub told : PartHeader → List Entry → Told
told h entries = record { base = h.base; part = h.part; parts = h.parts; entries = entries; limit = h.limit }

-- The whole report with this header and the entries of all its parts.
abbrev pub joining : PartHeader → List Entry → Whole
joining h entries = record { base = h.base; entries = entries; limit = h.limit }

-- The part is among those kept.
abbrev pub is_kept : ℕ → Option Partial → Bool
is_kept part None = false
is_kept part (Some k) = has_row k.came part

-- The least number above the numbers of all entries.
abbrev pub end_of : List Entry → ℕ
end_of [] = 0
end_of (e ∷ es) = max (e.number + 1) (end_of es)

-- Each entry of each part has a number below the base.
abbrev pub all_in_below : ℕ → Table (List Entry) → Bool
all_in_below base came = list_all (λ row. all_below base row.1) came
