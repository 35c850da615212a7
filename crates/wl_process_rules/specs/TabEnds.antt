-- The table of tabs' processes: rows in ascending order of tabs.
use Rattle.std.specs.Prelude.{ℕ, List, Bool, true, false, Option, Some, None, is_none, filter, filter_map, option_map}
use Rattle.std.specs.Ordering.{nat_cmp}
use Rattle.std.specs.BTreeMap.{insert_entry, is_at}
use Rattle.std.specs.List.{list_any}
use Rattle.std.specs.Map.{lookup, set_value, remove_entry, values_of}

-- A row holds `None` while the tab's process runs, then its status. A tab has no row before its
-- process starts or after its end is reported.
abbrev pub Rows : Type 0
Rows = List (ℕ × Option ℕ)

-- The row of a tab.
abbrev pub known_of : Rows → ℕ → Option (Option ℕ)
known_of rows tab = lookup (is_at (nat_cmp tab)) rows

-- The table after a tab's process started.
abbrev pub with_begun : ℕ → Rows → Rows
with_begun tab rows = insert_entry nat_cmp rows tab None

-- The table after the process of a tab with a row ended.
abbrev pub with_ended : ℕ → ℕ → Rows → Rows
with_ended tab status rows = set_value (is_at (nat_cmp tab)) rows (Some status)

-- The table without a tab's row.
abbrev pub without : ℕ → Rows → Rows
without tab rows = remove_entry (is_at (nat_cmp tab)) rows

-- Whether this is the row of a running process.
abbrev pub runs : Option (Option ℕ) → Bool
runs None = false
runs (Some None) = true
runs (Some (Some status)) = false

-- Whether any process runs.
abbrev pub any_runs : Rows → Bool
any_runs rows = list_any is_none (values_of rows)

-- The rows of running processes.
abbrev pub running : Rows → Rows
running rows = filter (λ row. is_none row.1) rows

-- The tabs whose processes have ended and are not reported, with their statuses.
abbrev pub untold : Rows → List (ℕ × ℕ)
untold rows = filter_map (λ row. option_map (λ status. (row.0, status)) row.1) rows
