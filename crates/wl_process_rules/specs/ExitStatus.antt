-- Exit statuses of processes, as they are reported.
use Rattle.std.specs.Prelude.{ℕ, ◌+◌, min, ℤ, pos, negsuc, nat_lt, if◌then◌else◌}
use Rattle.wl_process_rules.specs.declared.exit_status.TheConstants.{SIGNALLED}

-- A number as a status: itself from 0 to 255, and 255 otherwise.
abbrev pub status_of_number : ℤ → ℕ
status_of_number (pos n) = if nat_lt n 256 then n else 255
status_of_number (negsuc n) = 255

-- The status of a process killed by a signal, as shells report it.
abbrev pub status_of_signal : ℤ → ℕ
status_of_signal signal = min (status_of_number signal + SIGNALLED) 255
