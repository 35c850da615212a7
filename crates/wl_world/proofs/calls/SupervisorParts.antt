-- Supervisor: it changes in the same way as the world's kernel and broker.
use Rattle.std.proofs.Common.{◌≡◌, ℕ, List, [], Bool, not, is_some, true, false, cond, map, Option, Some, None, Result, Ok, Err, OnOk, refl}
use Rattle.wl_origin.specs.Order.{Pair}
use Rattle.wl_draft.specs.Tables.{Table}
use Rattle.wl_broadcast.specs.Channels.{ChannelState}
use Rattle.wl_agent.specs.Tab.{TabState}
use Rattle.wl_broker.specs.Broker.{BrokerState}
use Rattle.wl_kernel.specs.Kernel.{open_refusal, opened, may_stop, stopped}
use Rattle.wl_world_messages.specs.declared.message.Message.{Message}
use Rattle.wl_supervised_broker.specs.SupervisedStates.{SupervisedState, changed, frames_of}
use Rattle.wl_supervised_broker.specs.Changes.{Change}
use Rattle.wl_world_model.specs.World.{with_kernel as kernel_deed, WorldState, from_broker, supervised, unchanged, if_allowed, with_rows, opens_as, stops}
use Rattle.wl_world.specs.Components.{world_of}

-- A fact that always holds also holds after a success.
pub always : {X E P : Type 0} (r : Result X E) → P → OnOk r P
always (Ok x) p = p
always (Err e) p = tt

-- Opening and killing

pub opens-silent : (i : Bool) (w : WorldState) (t : ℕ) (p : Pair) → (opens_as i w t p).sends ≡ []
opens-silent i w t p = elim (open_refusal t p w.kernel) as (λ o. (if_allowed (not (is_some o)) w (kernel_deed (opened t p w.kernel) (with_rows i t w))).sends ≡ []) [ None ↦ refl | Some f ↦ refl ]

-- Changes of the kernel and its broker

pub changed-world : (ts : Table TabState) (cs : Table ChannelState) (s : SupervisedState) (bag : List Message) (corrupt : List ℕ) (c : Change) → world_of ts cs (changed c s) bag corrupt ≡ (supervised (world_of ts cs s bag corrupt) c).world
changed-world ts cs s bag corrupt c =
    let w = world_of ts cs s bag corrupt in
    elim c.happens as (λ h. world_of ts cs (cond h (record { kernel = c.kernel; broker = c.broker }) s) bag corrupt ≡ (if_allowed h w (record { world = record w { kernel = c.kernel; broker = c.broker }; sends = map from_broker c.frames })).world) [ true ↦ refl | false ↦ refl ]

pub changed-sends : (w : WorldState) (c : Change) → map from_broker (frames_of c) ≡ (supervised w c).sends
changed-sends w c =
    elim c.happens as (λ h. map from_broker (cond h c.frames []) ≡ (if_allowed h w (record { world = record w { kernel = c.kernel; broker = c.broker }; sends = map from_broker c.frames })).sends) [ true ↦ refl | false ↦ refl ]

pub stops-silent : (w : WorldState) (o : Option BrokerState) → (stops w o).sends ≡ []
stops-silent w None = refl
stops-silent w (Some b) = elim (may_stop w.kernel) as (λ m. (if_allowed m w (unchanged (record w { kernel = stopped w.kernel; broker = None }))).sends ≡ []) [ true ↦ refl | false ↦ refl ]
