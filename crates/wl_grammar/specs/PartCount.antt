-- Number of parts into which a list of entries is divided.
use Rattle.std.specs.Prelude.{ℕ, List, length, ◌+◌, ◌-◌, ◌/◌, ◌==◌, if◌then◌else◌}
use Rattle.wl_limits.specs.declared.frames.TheConstants.{ENTRY_LIMIT}

-- A list is divided into parts of at most ENTRY_LIMIT entries. An empty list is one part.
abbrev pub part_count : {X : Type 0} → List X → ℕ
part_count entries = if length entries == 0 then 1 else (length entries + (ENTRY_LIMIT - 1)) / ENTRY_LIMIT
