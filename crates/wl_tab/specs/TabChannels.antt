-- Channels of a tab by number, and the stored tokens of the open ones.
use Rattle.std.specs.Prelude.{◌≡◌, ℕ, ◌+◌, List, ◌==◌, nat_lt, length, map, position, option_map, Option, Some, None, Result, Ok, Err, if◌then◌else◌}
use Rattle.wl_broadcast.specs.Channels.{ChannelState, is_open_at, post_refusal}
use Rattle.wl_broadcast.specs.OpenObjects.{open_from}
use Rattle.wl_broadcast.specs.Owned.{Owned}
use Rattle.wl_tab.specs.declared.channels.ChannelRefusal.{ChannelRefusal}
use Rattle.wl_tab.specs.declared.channels.ChannelRefusal.TheVariants.{NoChannel, Closed, Fault}

-- The reason for which a call on a channel number is refused, before the call's own refusals.
abbrev pub number_refusal : ℕ → ChannelState → Option ChannelRefusal
number_refusal k c = if nat_lt k (length c.objects) then (if is_open_at c.objects k then None else Some Closed) else Some NoChannel

abbrev pub refusal_or : Option ChannelRefusal → Option ChannelRefusal → Option ChannelRefusal
refusal_or (Some refusal) later = Some refusal
refusal_or None later = later

-- The reason for which a post on a channel number is refused, apart from out of memory.
abbrev pub posting_refusal : ℕ → List ℕ → ChannelState → Option ChannelRefusal
posting_refusal k bytes c = refusal_or (number_refusal k c) (option_map Fault (post_refusal c.tab k bytes c))

-- Stored tokens

abbrev pub channel_of : ℕ → ℕ → Owned
channel_of tab k = record { tab = tab; number = k }

-- The open channels, oldest first.
abbrev pub open_channels : ChannelState → List Owned
open_channels c = map (channel_of c.tab) (open_from 0 c.objects)

-- The number of channels opened, if this one was opened last.
abbrev pub opened_until : Option ℕ → ℕ
opened_until None = 0
opened_until (Some k) = k + 1

pub record IsNumbered (c : ChannelState) (latest : Option ℕ) (kept : List Owned) : Type 0 where
  pub tokens : kept ≡ open_channels c
  pub count : length c.objects ≡ opened_until latest

-- Index of a stored channel

abbrev pub found_at : Option ℕ → Result ℕ ChannelRefusal
found_at (Some place) = Ok place
found_at None = Err Closed

-- The index of the open channel with this number, if there is one.
abbrev pub place_in : ℕ → Option ℕ → List Owned → Result ℕ ChannelRefusal
place_in k latest kept = if nat_lt k (opened_until latest) then found_at (position (λ channel. channel.number == k) kept) else Err NoChannel
