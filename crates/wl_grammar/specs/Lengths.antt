-- Lengths of the bodies of frames.
use Rattle.std.specs.Prelude.{ℕ, ◌≤◌}
use Rattle.wl_limits.specs.declared.frames.TheConstants.{BODY_LIMIT, LEAST_BODY}

-- A body has at least LEAST_BODY and at most BODY_LIMIT bytes.
abbrev pub IsLength : ℕ → Type 0
IsLength n = (LEAST_BODY ≤ n) × (n ≤ BODY_LIMIT)
