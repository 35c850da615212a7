use Rattle.std.proofs.Common.{◌≡◌, ◌≤◌, ◌||◌, ℕ, List, true, take, unwrap_or}
use Rattle.std.specs.Prelude.{bytes_eq}
use Rattle.std.specs.HashMap as hash
use Rattle.wl_draft.specs.Locks.{is_named}
use Rattle.wl_table_index.specs.NameLines.{line_at, room_at, HasLine, count_named, is_idle_line}
use Rattle.wl_table_index.proofs.name_lines.Lines.reserve_all.Given as goal

abbrev pub invariant-loop-row : goal.invariant-loop-row
invariant-loop-row l = record {
  lines : (n : List ℕ) → line_at l.self n ≡ line_at l.initial.self n;
  kept_lines : (n : List ℕ) → HasLine l.initial.self n → HasLine l.self n;
  counts : (q : List ℕ) → unwrap_or (hash.get_by (λ k. bytes_eq q k.now) l.counts) 0 ≡ count_named q (take l.row-index l.rows);
  room : (q : List ℕ) → count_named q (take l.row-index l.rows) ≤ room_at l.self q;
  idle : (n : List ℕ) → is_idle_line l.self n ≡ true → (is_idle_line l.initial.self n || is_named n (take l.row-index l.rows)) ≡ true;
}
