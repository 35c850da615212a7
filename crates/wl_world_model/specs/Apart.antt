-- The part of a world that belongs to one partition (RFC 6454, section 3), and the events of a list that concern it.
use Rattle.std.specs.Prelude.{◌≡◌, ℕ, List, [], ◌∷◌, Bool, false, not, ◌&&◌, ◌||◌, filter, Option, Some, None, is_some, if◌then◌else◌}
use Rattle.wl_draft.specs.Tables.{Table}
use Rattle.wl_origin.specs.Order.{Pair, pair_eq}
use Rattle.wl_broker.specs.Broker.{BrokerState}
use Rattle.wl_kernel.specs.Kernel.{KernelState, OpenedTab, is_of, open_refusal, start_refusal, may_stop}
use Rattle.wl_kernel.specs.Kernel.{tab_of as opened_tab}
use Rattle.wl_world_messages.specs.declared.message.Message.{Message}
use Rattle.wl_world_messages.specs.declared.message.Message.TheVariants.{Up, Down, Across}
use Rattle.wl_world_model.specs.declared.event.Event.{Event}
use Rattle.wl_world_model.specs.declared.event.Event.TheVariants as event
use Rattle.wl_world_model.specs.World.{WorldState, empty_world, after_event, run}

-- The part of a world that belongs to a partition

abbrev pub was_opened_in : Pair → Option OpenedTab → Bool
was_opened_in p None = false
was_opened_in p (Some o) = is_of p o

-- Whether the tab was opened in the partition.
unfoldable pub is_in : Pair → KernelState → ℕ → Bool
is_in p k t = was_opened_in p (opened_tab k t)

-- The rows whose number passes the test `mine`.
abbrev pub only : {X : Type 0} → (ℕ → Bool) → Table X → Table X
only mine rows = filter (λ row. mine row.0) rows

-- The tab that a message concerns: its recipient, or its sender if it is for the broker.
abbrev pub tab_at : Message → ℕ
tab_at (Up s) = s.tab
tab_at (Down sender x) = x.tab
tab_at (Across t x) = t

-- The messages to and from these tabs.
abbrev pub mail : (ℕ → Bool) → List Message → List Message
mail mine bag = filter (λ m. mine (tab_at m)) bag

-- The kernel with only those tabs that were opened in the partition.
abbrev pub kernel_for : Pair → KernelState → KernelState
kernel_for p k = record k { opened = filter (is_of p) k.opened }

-- The broker with only the state of these tabs. A partition has the number of the first tab opened in it, so
-- its lock manager is stored under one of these tabs.
abbrev pub broker_for : (ℕ → Bool) → BrokerState → BrokerState
broker_for mine b = record { generation = b.generation; listed = only mine b.listed; seats = only mine b.seats; managers = only mine b.managers; partial = only mine b.partial }

abbrev pub up_for : (ℕ → Bool) → Option BrokerState → Option BrokerState
up_for mine None = None
up_for mine (Some b) = Some (broker_for mine b)

abbrev pub world_for : (ℕ → Bool) → Pair → WorldState → WorldState
world_for mine p w =
    record {
      tabs = only mine w.tabs;
      channels = only mine w.channels;
      kernel = kernel_for p w.kernel;
      broker = up_for mine w.broker;
      bag = mail mine w.bag;
      corrupt = filter mine w.corrupt;
    }

-- The world as one partition sees it: its tabs with their locks, channels, messages and broker state, whether
-- a broker is up, and the generation.
abbrev pub part : Pair → WorldState → WorldState
part p w = world_for (is_in p w.kernel) p w

-- The world contains only the partition's part.
abbrev pub IsAlone : Pair → WorldState → Type 0
IsAlone p v = part p v ≡ v

-- The partition sees no difference between the two worlds.
abbrev pub Agrees : Pair → WorldState → WorldState → Type 0
Agrees p w v = part p v ≡ part p w

-- Events that concern a partition

-- Whether a Stop takes effect.
abbrev pub stops_now : WorldState → Option BrokerState → Bool
stops_now w None = false
stops_now w (Some b) = may_stop w.kernel

-- Whether a Start takes effect.
abbrev pub starts_now : WorldState → List ℕ → Option BrokerState → Bool
starts_now w ts None = not (is_some (start_refusal ts w.kernel))
starts_now w ts (Some b) = false

-- An Open that names a tab of the partition, or one that is accepted and names the partition.
abbrev pub is_own_open : Pair → WorldState → ℕ → Pair → Bool
is_own_open p w t q = is_in p w.kernel t || (not (is_some (open_refusal t q w.kernel)) && pair_eq q p)

abbrev pub when : Bool → Event → Option Event
when b e = if b then Some e else None

-- The projection of one event to the partition: the event itself, a start with a shorter list, or nothing.
abbrev pub kept : Pair → WorldState → Event → Option Event
kept p w (event.Open t q) = when (is_own_open p w t q) (event.Open t q)
kept p w (event.OpenTwo t q) = when (is_own_open p w t q) (event.OpenTwo t q)
kept p w (event.Ask t mode name) = when (is_in p w.kernel t) (event.Ask t mode name)
kept p w (event.Probe t mode name) = when (is_in p w.kernel t) (event.Probe t mode name)
kept p w (event.Query t) = when (is_in p w.kernel t) (event.Query t)
kept p w (event.Abort t k) = when (is_in p w.kernel t) (event.Abort t k)
kept p w (event.Release t k) = when (is_in p w.kernel t) (event.Release t k)
kept p w (event.Resend t) = when (is_in p w.kernel t) (event.Resend t)
kept p w (event.Channel t name) = when (is_in p w.kernel t) (event.Channel t name)
kept p w (event.Post t k bytes) = when (is_in p w.kernel t) (event.Post t k bytes)
kept p w (event.Read t k) = when (is_in p w.kernel t) (event.Read t k)
kept p w (event.Close t k) = when (is_in p w.kernel t) (event.Close t k)
kept p w (event.Deliver m) = when (is_in p w.kernel (tab_at m)) (event.Deliver m)
kept p w (event.Kill t) = when (is_in p w.kernel t) (event.Kill t)
kept p w (event.Tell t) = when (is_in p w.kernel t) (event.Tell t)
kept p w event.Stop = when (stops_now w w.broker) event.Stop
kept p w (event.Start ts) = when (starts_now w ts w.broker) (event.Start (filter (is_in p w.kernel) ts))
kept p w (event.Hello t) = when (is_in p w.kernel t) (event.Hello t)
kept p w (event.Corrupt t) = when (is_in p w.kernel t) (event.Corrupt t)
kept p w (event.Forge t x) = when (is_in p w.kernel t) (event.Forge t x)

abbrev pub followed_by : Option Event → List Event → List Event
followed_by None es = es
followed_by (Some e) es = e ∷ es

-- The projection of a list of events to a partition.
abbrev pub projected : Pair → WorldState → List Event → List Event
projected p w [] = []
projected p w (e ∷ es) = followed_by (kept p w e) (projected p (after_event w e) es)

-- The world after the projected event, if the projection keeps one.
abbrev pub happens_if : Option Event → WorldState → WorldState
happens_if None v = v
happens_if (Some e) v = after_event v e

-- The laws, for one event after any list and for whole lists. They do not assume that an Open is accepted.
-- The kernel may refuse one because too many tabs of other partitions live. The projection keeps the Open of
-- a new tab only if the kernel accepted it.

-- An event that the projection drops leaves the partition's part unchanged.
abbrev pub LeavesAlone : Pair → WorldState → Event → Type 0
LeavesAlone p w e = kept p w e ≡ None → Agrees p w (after_event w e)

-- An event that the projection keeps has the same effect in every world that contains only this partition and agrees on it.
abbrev pub DoesAlike : Pair → WorldState → Event → Type 0
DoesAlike p w e =
    (d : Event) (v : WorldState) → kept p w e ≡ Some d → IsAlone p v → Agrees p w v → IsAlone p (after_event v d) × Agrees p (after_event w e) (after_event v d)

abbrev pub DroppedLeavesAlone : Type 0
DroppedLeavesAlone = (p : Pair) (events : List Event) (e : Event) → LeavesAlone p (run events empty_world) e

abbrev pub KeptDoesAlike : Type 0
KeptDoesAlike = (p : Pair) (events : List Event) (e : Event) → DoesAlike p (run events empty_world) e

-- After the whole list, the partition's part is the world after the projected list.
abbrev pub RunsApart : List Event → WorldState → Type 0
RunsApart events w = (p : Pair) → part p w ≡ run (projected p empty_world events) empty_world

abbrev pub RunsApartForAll : Type 0
RunsApartForAll = (events : List Event) → RunsApart events (run events empty_world)
