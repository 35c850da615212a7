-- Report of a tab, which may come in parts: its content, the parts kept so far, and the test
-- whether it is whole.
use Rattle.std.specs.Prelude.{ℕ, List, [], Bool, true, false, not, ◌&&◌, ◌==◌, nat_lt, length, filter, Option, Some, None, if◌then◌else◌}
use Rattle.std.specs.List.{list_any, list_all, flat_map}
use Rattle.wl_limits.specs.declared.tabs.TheConstants.{LIVE_LIMIT, LIVE_LIMIT_IN_PARTS}
use Rattle.wl_draft.specs.declared.row.Entry.{Entry}
use Rattle.wl_draft.specs.Tables.{Table, has_row, put}
use Rattle.wl_grammar.specs.declared.frame.Report.{Report}
use Rattle.wl_grammar.specs.declared.frame.ReportPart.{ReportPart}
use Rattle.wl_grammar.specs.declared.frame.Upward.{Upward}
use Rattle.wl_grammar.specs.declared.frame.Upward.TheVariants as up

-- Content of a report part

-- The content of a report or of one part: the base, the index and number of parts, the entries, and
-- the tab's lock limit.
pub record Told : Type 0 where
  pub base : ℕ
  pub part : ℕ
  pub parts : ℕ
  pub entries : List Entry
  pub limit : ℕ

-- A report in a single frame is its only part.
abbrev pub at_once : Report → Told
at_once r = record { base = r.base; part = 0; parts = 1; entries = r.entries; limit = LIVE_LIMIT }

abbrev pub in_part : ReportPart → Told
in_part r = record { base = r.base; part = r.part; parts = r.parts; entries = r.entries; limit = LIVE_LIMIT_IN_PARTS }

abbrev pub content_of : Upward → Option Told
content_of (up.Command c) = None
content_of (up.Report r) = Some (at_once r)
content_of (up.ReportPart r) = Some (in_part r)

abbrev pub has_held : List Entry → Bool
has_held entries = list_any (λ e. e.held) entries

abbrev pub all_below : ℕ → List Entry → Bool
all_below base entries = list_all (λ e. nat_lt e.number base) entries

-- Parts kept so far

-- A report that is not yet whole: the partition stamped on its first part, and the entries of the
-- parts received.
pub record Partial : Type 0 where
  pub partition : ℕ
  pub base : ℕ
  pub parts : ℕ
  pub limit : ℕ
  pub came : Table (List Entry)

-- The partition stamped on the first part of the tab's report.
abbrev pub kept_at : Option Partial → Option ℕ
kept_at None = None
kept_at (Some k) = Some k.partition

abbrev pub without_partial : ℕ → Table Partial → Table Partial
without_partial t ks = filter (λ row. not (row.0 == t)) ks

-- Whether a part fits

-- Each number of the second list is above all numbers of the first.
abbrev pub all_above : List Entry → List Entry → Bool
all_above xs ys = list_all (λ y. list_all (λ x. nat_lt x.number y.number) xs) ys

-- The numbers are above those of a lower part, and below those of a higher part.
abbrev pub is_in_order : Told → ℕ × List Entry → Bool
is_in_order x row =
    if nat_lt row.0 x.part then all_above row.1 x.entries else (if nat_lt x.part row.0 then all_above x.entries row.1 else true)

-- The part belongs to the report whose parts are kept.
abbrev pub fits : Told → Option Partial → Bool
fits x None = true
fits x (Some k) = x.base == k.base && (x.parts == k.parts && (x.limit == k.limit && list_all (is_in_order x) k.came))

-- That part is already kept.
abbrev pub has_part : Told → Option Partial → Bool
has_part x None = false
has_part x (Some k) = has_row k.came x.part

-- One more part, and the whole report

abbrev pub partition_or : ℕ → Option Partial → ℕ
partition_or p None = p
partition_or p (Some k) = k.partition

abbrev pub came_in : Option Partial → Table (List Entry)
came_in None = []
came_in (Some k) = k.came

-- The report with this part added.
unfoldable pub with_told : ℕ → Told → Option Partial → Partial
with_told p x o =
    record { partition = partition_or p o; base = x.base; parts = x.parts; limit = x.limit; came = put x.part x.entries (came_in o) }

abbrev pub is_whole : Partial → Bool
is_whole k = length k.came == k.parts

-- A whole report: no part is missing, and its entries stand in the order of the parts.
pub record Whole : Type 0 where
  pub base : ℕ
  pub entries : List Entry
  pub limit : ℕ

abbrev pub whole_of : Partial → Whole
whole_of k = record { base = k.base; entries = flat_map (λ row. row.1) k.came; limit = k.limit }
