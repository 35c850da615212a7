use Rattle.std.proofs.Common.{◌≡◌, ◌||◌, ℕ, List, true, take}
use Rattle.wl_draft.specs.Locks.{is_named}
use Rattle.wl_table_index.specs.NameLines.{line_at, HasLine, is_idle_line}
use Rattle.wl_table_index.proofs.name_lines.Lines.open_all.Given as goal

abbrev pub invariant-loop-row : goal.invariant-loop-row
invariant-loop-row l = record {
  lines : (n : List ℕ) → line_at l.self n ≡ line_at l.initial.self n;
  there : (n : List ℕ) → is_named n (take l.row-index l.rows) ≡ true → HasLine l.self n;
  idle : (n : List ℕ) → is_idle_line l.self n ≡ true → (is_idle_line l.initial.self n || is_named n (take l.row-index l.rows)) ≡ true;
}
