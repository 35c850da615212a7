-- Numbers of the status page, as C programs receive them.
use Rattle.std.specs.Prelude.{ℕ, ◌^◌, ◌-◌, unwrap_or, nat_lt, if◌then◌else◌}
use Rattle.wl_hub.specs.declared.hub.HubStatus.{HubStatus}
use Rattle.wlb_hub.specs.declared.broker.Numbers.{Numbers}

-- A count of more than 32 bits becomes the greatest number.
abbrev pub capped : ℕ → ℕ
capped n = if nat_lt n (2 ^ 32) then n else 2 ^ 32 - 1

-- Generation 0 says that no broker is up.
abbrev pub numbers_of : HubStatus → Numbers
numbers_of s = record {
  generation = unwrap_or s.generation 0;
  living = capped s.living;
  untold = capped s.untold;
  outputs = s.outputs;
}
