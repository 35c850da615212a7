-- Line of each name: its holders and its queue.
use Rattle.std.specs.Prelude.{ℕ, ◌+◌, ◌-◌, List, [], ◌∷◌, ◌++◌, count_by, length, Bool, false, ◌&&◌, ◌==◌, IsSome, bytes_eq}
use Rattle.std.specs.Option.{option_map_or}
use Rattle.std.specs.HashMap.{get_by_text}
use Rattle.wl_draft.specs.declared.mode.Mode.{Mode}
use Rattle.wl_draft.specs.declared.mode.Mode.TheVariants.{Shared, Exclusive}
use Rattle.wl_draft.specs.declared.row.Row.{Row}
use Rattle.wl_table_index.specs.OrderNumbers.{without_number}
use Rattle.wl_table_index.specs.declared.name_line.NameLine.{NameLine}
use Rattle.wl_table_index.specs.declared.name_lines.Lines.{Lines}

-- The number of holders of a name in each mode, and the order numbers of its waiting requests, in
-- the order of queueing.
pub record LineState : Type 0 where
  pub shared : ℕ
  pub exclusive : ℕ
  pub queue : List ℕ

abbrev pub nobody : LineState
nobody = record { shared = 0; exclusive = 0; queue = [] }

abbrev pub line_seen : NameLine → LineState
line_seen l = record { shared = l.shared; exclusive = l.exclusive; queue = l.queue.items }

-- A lock in this mode conflicts with no held lock.
abbrev pub lets_in : LineState → Mode → Bool
lets_in s Shared = s.exclusive == 0
lets_in s Exclusive = s.exclusive == 0 && s.shared == 0

abbrev pub with_holder : LineState → Mode → LineState
with_holder s Shared = record { shared = s.shared + 1; exclusive = s.exclusive; queue = s.queue }
with_holder s Exclusive = record { shared = s.shared; exclusive = s.exclusive + 1; queue = s.queue }

abbrev pub with_waiter : LineState → ℕ → LineState
with_waiter s order = record { shared = s.shared; exclusive = s.exclusive; queue = s.queue ++ order ∷ [] }

abbrev pub without_holder : LineState → Mode → LineState
without_holder s Shared = record { shared = s.shared - 1; exclusive = s.exclusive; queue = s.queue }
without_holder s Exclusive = record { shared = s.shared; exclusive = s.exclusive - 1; queue = s.queue }

abbrev pub without_waiter : LineState → ℕ → LineState
without_waiter s order = record { shared = s.shared; exclusive = s.exclusive; queue = without_number order s.queue }

-- The number of requests that can be queued without an allocation.
abbrev pub line_room : NameLine → ℕ
line_room l = l.queue.room

-- The line of a name, which is empty if the name is not stored.
abbrev pub line_at : Lines → List ℕ → LineState
line_at ls name = option_map_or line_seen (get_by_text ls.lines name) nobody

abbrev pub room_at : Lines → List ℕ → ℕ
room_at ls name = option_map_or line_room (get_by_text ls.lines name) 0

abbrev pub HasLine : Lines → List ℕ → Type 0
HasLine ls name = IsSome (get_by_text ls.lines name)

-- The name has no holder and no waiting request.
abbrev pub is_nobody : LineState → Bool
is_nobody s = length s.queue == 0 && s.shared == 0 && s.exclusive == 0

-- The name has a line, but no holder and no waiting request.
abbrev pub is_idle_line : Lines → List ℕ → Bool
is_idle_line ls name = option_map_or (λ l. is_nobody (line_seen l)) (get_by_text ls.lines name) false

-- The number of rows with this name.
abbrev pub count_named : List ℕ → List Row → ℕ
count_named name rows = count_by (λ r. bytes_eq name r.name) rows
