-- Limits on tabs that were taken over, and the honesty of all others.
use Rattle.std.specs.Prelude.{◌≡◌, ◌≢◌, ◌⊎◌, ℕ, List, Some}
use Rattle.wl_draft.specs.Locks.{Locks, settle}
use Rattle.wl_grammar.specs.declared.frame.Stamped.{Stamped}
use Rattle.wl_broker.specs.Broker.{BrokerState, manager_of}
use Rattle.wl_broker.specs.BrokerLaws.{SameOfOthers}
use Rattle.wl_world_messages.specs.declared.message.Message.TheVariants.{Up}
use Rattle.wl_draft.specs.Membership.{In}
use Rattle.wl_world_model.specs.declared.event.Event.{Event}
use Rattle.wl_world_model.specs.declared.event.Event.TheVariants as event
use Rattle.wl_world_model.specs.World.{WorldState, empty_world, after_event, run}
use Rattle.wl_world_model.specs.Holdings.{IsHonest}

-- The step adds or removes locks of one tab in its partition, and may then settle. Other tabs' locks keep
-- their order, and other partitions do not change.
pub record MovesOwnAlone (t p : ℕ) (old new : BrokerState) : Type 0 where
  pub elsewhere : (q : ℕ) → q ≢ p → manager_of new q ≡ manager_of old q
  pub between : Locks
  pub others : SameOfOthers t (manager_of old p) between
  pub here : (manager_of new p ≡ between) ⊎ (manager_of new p ≡ settle between)

-- A message that arrives at the broker moves its own tab's locks alone, in any world, forged or not.
abbrev pub TakesOwnAlone : Type 0
TakesOwnAlone =
    (w : WorldState) (s : Stamped) (old new : BrokerState) → w.broker ≡ Some old → (after_event w (event.Deliver (Up s))).broker ≡ Some new
    → MovesOwnAlone s.tab s.partition old new

-- The same fact for one event, between the world before it and the world after it.
abbrev pub MovesOwnAloneBetween : WorldState → Event → WorldState → Type 0
MovesOwnAloneBetween v e w =
    (s : Stamped) (old new : BrokerState) → e ≡ event.Deliver (Up s) → v.broker ≡ Some old → w.broker ≡ Some new
    → MovesOwnAlone s.tab s.partition old new

-- A tab that no event names as taken over is honest.
abbrev pub HonestIfUnnamed : List Event → WorldState → Type 0
HonestIfUnnamed events w = (t : ℕ) → (In (event.Corrupt t) events → ⊥) → IsHonest w t

abbrev pub HonestUnlessNamed : Type 0
HonestUnlessNamed = (events : List Event) → HonestIfUnnamed events (run events empty_world)

-- A tab that is honest after more events was honest before them.
abbrev pub HonestBefore : Type 0
HonestBefore = (events more : List Event) (t : ℕ) → IsHonest (run more (run events empty_world)) t → IsHonest (run events empty_world) t
