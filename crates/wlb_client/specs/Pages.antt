-- Pages after calls, and events as C programs receive them.
use Rattle.std.specs.Prelude.{◌≡◌, ◌≤◌, ◌^◌, ◌+◌, ◌-◌, ℕ, List, ◌∷◌, Bool, true, false, nat_lt, length, take, Option, Some, None, option_map, slice_get, if◌then◌else◌}
use Rattle.wl_draft.specs.declared.mode.Mode.{Mode}
use Rattle.wl_draft.specs.declared.mode.Mode.TheVariants.{Shared, Exclusive}
use Rattle.wl_agent.specs.declared.snapshot.LockInfo.{LockInfo}
use Rattle.wl_agent.specs.declared.snapshot.Snapshot.{Snapshot}
use Rattle.wl_broadcast.specs.declared.letter.Hearing.{Hearing}
use Rattle.wl_broadcast.specs.declared.letter.Hearing.TheVariants as hearing
use Rattle.wl_world_messages.specs.declared.effect.Effect.{Effect}
use Rattle.wl_world_messages.specs.declared.effect.Effect.TheVariants as effect
use Rattle.wl_world_messages.specs.declared.effect.Ended.{Ended}
use Rattle.wl_world_messages.specs.declared.effect.Ended.TheVariants as ended
use Rattle.wl_client.specs.Client.{ClientState, new_client, with_channels}
use Rattle.wl_broadcast.specs.Channels.{opened, read_at}
use Rattle.wl_broadcast.specs.declared.letter.Letter.{Letter}
use Rattle.wl_client.specs.declared.client.Event.{Event}
use Rattle.wl_client.specs.declared.client.Event.TheVariants as event
use Rattle.wlb_client.specs.declared.page.Page.{Page}
use Rattle.wlb_client.specs.declared.events.Happening.{Happening}
use Rattle.wlb_client.specs.declared.events.Entry.{Entry}
use Rattle.wlb_client.specs.declared.events.TheConstants.{WLB_WELCOMED, WLB_ENTERED, WLB_GRANTED, WLB_WAITING, WLB_NOT_AVAILABLE, WLB_LOST, WLB_ANSWERED, WLB_POSTED, WLB_OTHER}

-- Calls

abbrev pub new_page : Page
new_page = record { client = new_client; last = None }

-- A call changes the client, and keeps the last event.
abbrev pub on_client : (ClientState → ClientState) → Page → Page
on_client f p = record p { client = f p.client }

abbrev pub mode_of : Bool → Mode
mode_of true = Shared
mode_of false = Exclusive

abbrev pub opens : List ℕ → ClientState → ClientState
opens name c = with_channels (opened name c.channels) c

abbrev pub reads : ℕ → ClientState → ClientState
reads k c = with_channels (read_at k c.channels) c

-- The buffer begins with the bytes, or with as many of them as it has room for.
pub record IsCopied (bytes buffer : List ℕ) (n : ℕ) : Type 0 where
  pub front : take n buffer ≡ take n bytes
  pub whole : length bytes ≤ length buffer → n ≡ length bytes

-- The post's source and its data are written.
abbrev pub IsWritten : Option Letter → ℕ → List ℕ → ℕ → Type 0
IsWritten None source buffer n = ⊥
IsWritten (Some l) source buffer n = (source ≡ l.source) × IsCopied l.bytes buffer n

-- Events

-- A count of more than 32 bits becomes the greatest number.
abbrev pub capped : ℕ → ℕ
capped n = if nat_lt n (2 ^ 32) then n else 2 ^ 32 - 1

abbrev pub happens : ℕ → ℕ → ℕ → Happening
happens kind number count = record { kind = kind; number = number; count = capped count }

abbrev pub happening_of_effect : Effect → Happening
happening_of_effect (effect.Entered g ends) = happens WLB_ENTERED g (length ends)
happening_of_effect (effect.Granted n) = happens WLB_GRANTED n 0
happening_of_effect (effect.Waiting n) = happens WLB_WAITING n 0
happening_of_effect (effect.Null n) = happens WLB_NOT_AVAILABLE n 0
happening_of_effect (effect.Lost n) = happens WLB_LOST n 0
happening_of_effect (effect.Whole n s) = happens WLB_ANSWERED n (length s.held + length s.pending)
happening_of_effect e = happens WLB_OTHER 0 0

abbrev pub happening_of_hearing : Hearing → Happening
happening_of_hearing (hearing.New took full) = happens WLB_POSTED 0 (length took)
happening_of_hearing hearing.Old = happens WLB_OTHER 0 0

abbrev pub happening_of : Event → Happening
happening_of (event.Welcomed tab) = happens WLB_WELCOMED tab 0
happening_of (event.Told e) = happening_of_effect e
happening_of (event.Heard h) = happening_of_hearing h

-- The oldest event is taken, and becomes the last one.
pub record IsTaken (old new : Page) (happened : Happening) : Type 0 where
  pub taken : Event
  pub oldest : old.client ≡ record new.client { events = taken ∷ new.client.events }
  pub last : new.last ≡ Some taken
  pub told : happened ≡ happening_of taken

-- Items

abbrev pub ended_number : Ended → ℕ
ended_number (ended.Null n) = n
ended_number (ended.Lost n) = n

abbrev pub item_at : ℕ → Option Event → Option ℕ
item_at k (Some (event.Told (effect.Entered g ends))) = option_map ended_number (slice_get ends k)
item_at k (Some (event.Heard (hearing.New took full))) = option_map capped (slice_get took k)
item_at k e = None

-- Held locks come before pending requests. An entry is a lock, and whether it is held.
abbrev pub entry_of : ℕ → Snapshot → Option (LockInfo × Bool)
entry_of k s =
    if nat_lt k (length s.held) then option_map (λ l. (l, true)) (slice_get s.held k)
    else option_map (λ l. (l, false)) (slice_get s.pending (k - length s.held))

abbrev pub entry_at : ℕ → Option Event → Option (LockInfo × Bool)
entry_at k (Some (event.Told (effect.Whole n s))) = entry_of k s
entry_at k e = None

-- The entry and its name are written.
pub record IsEntry (l : LockInfo) (held : Bool) (entry : Entry) (name : List ℕ) (n : ℕ) : Type 0 where
  pub tab : entry.tab ≡ l.tab
  pub mode : mode_of entry.shared ≡ l.mode
  pub is_held : entry.held ≡ held
  pub named : take n name ≡ l.name

abbrev pub IsEntryWritten : Option (LockInfo × Bool) → Entry → List ℕ → ℕ → Type 0
IsEntryWritten None entry name n = ⊥
IsEntryWritten (Some l) entry name n = IsEntry l.0 l.1 entry name n
