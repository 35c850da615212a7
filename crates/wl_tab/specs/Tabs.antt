-- Tabs by their rows, and the settling of tokens.
use Rattle.std.specs.Prelude.{ℕ, Bool, true, false, not, filter, Option, Some, None}
use Rattle.wl_broadcast.specs.Channels.{ChannelState, no_channels}
use Rattle.wl_agent.specs.declared.status.Status.{Status}
use Rattle.wl_agent.specs.declared.status.Status.TheVariants as status
use Rattle.wl_agent.specs.Tab.{TabState, newborn}
use Rattle.wl_limits.specs.declared.tabs.TheConstants.{COMMAND_LIMIT}

-- The state in a tab's row. A tab that was never opened has the state of a newly opened one.
abbrev pub tab_in : ℕ → Option TabState → TabState
tab_in t None = newborn t COMMAND_LIMIT
tab_in t (Some a) = a

abbrev pub channels_in : ℕ → Option ChannelState → ChannelState
channels_in t None = no_channels t
channels_in t (Some c) = c

-- The query is complete or lost. Its token is settled at once, which makes its number over.
abbrev pub is_told : Status → Bool
is_told (status.Whole snapshot) = true
is_told status.Lost = true
is_told s = false

unfoldable pub told : TabState → TabState
told a = record a { statuses = filter (λ row. not (is_told row.1)) a.statuses }
