-- The laws of the world, stated of the library: exclusion, own locks, the order of commands, and separate partitions.
use Rattle.std.specs.Prelude.{◌≡◌, ℕ, ◌<◌, List, [], ◌∷◌, ◌++◌, Bool, true, false, length, drop, Option, Some}
use Rattle.wl_origin.specs.Order.{Pair}
use Rattle.wl_draft.specs.declared.mode.Mode.{Mode}
use Rattle.wl_draft.specs.declared.mode.Mode.TheVariants.{Shared}
use Rattle.wl_grammar.specs.declared.frame.Operation.{Operation}
use Rattle.wl_grammar.specs.declared.frame.Operation.TheVariants.{Request}
use Rattle.wl_agent.specs.declared.status.Status.TheVariants.{Held}
use Rattle.wl_agent.specs.Tab.{status_of, operation_of, mode_of, name_of}
use Rattle.wl_broker.specs.Broker.{BrokerState, manager_of}
use Rattle.wl_kernel.specs.Kernel.{tab_of as opened_tab}
use Rattle.wl_world_model.specs.World.{WorldState, empty_world, tab_of, run}
use Rattle.wl_world_model.specs.Apart.{projected}
use Rattle.wl_world_model.specs.Holdings.{partition_in, Differ, NotEnded}
use Rattle.wl_world_model.specs.Orders.{picked, of_partition, of_tab, commands_of, base_of, numbered, managed, IsPrefix}
use Rattle.wl_library_model.specs.Library.{Library, Step, Asks, new_library, step, run_steps, client_of, lives, is_taken}
use Rattle.wl_library_model.specs.Events.{events}
use Rattle.wl_library_model.specs.Simulation.{AreLocksOf}

-- The tab lives, its client was welcomed, and it holds the lock with this number by its own account.
pub record IsHolding (l : Library) (t k : ℕ) : Type 0 where
  pub living : lives l t ≡ true
  pub welcomed : (client_of l t).is_welcomed ≡ true
  pub held : status_of (client_of l t).locks k ≡ Some Held

-- The tab was never taken over.
abbrev pub IsHonest : Library → ℕ → Type 0
IsHonest l t = is_taken l t ≡ false

-- The name and the mode of the lock that the client requested as this number.
abbrev pub name_at : Library → ℕ → ℕ → List ℕ
name_at l t k = name_of (operation_of (client_of l t).locks k)

abbrev pub mode_at : Library → ℕ → ℕ → Mode
mode_at l t k = mode_of (operation_of (client_of l t).locks k)

-- The partition in which the hub opened the tab.
abbrev pub partition_at : Library → ℕ → Option Pair
partition_at l t = partition_in (opened_tab l.hub.supervised.kernel t)

-- Two different locks of one name, held by clients of honest tabs of one partition, are both shared (Web Locks,
-- "LockMode").
abbrev pub Exclusion : Library → Type 0
Exclusion l =
    (t k u j : ℕ) → IsHonest l t → IsHonest l u → IsHolding l t k → IsHolding l u j → Differ t k u j →
    partition_at l t ≡ partition_at l u →
    name_at l t k ≡ name_at l u j → (mode_at l t k ≡ Shared) × (mode_at l u j ≡ Shared)

-- One of the steps requested a lock, and by it the client issued exactly the command `o` as its number `k`.
pub record WasAskedBy (steps : List Step) (t k : ℕ) (o : Operation) : Type 0 where
  pub before : List Step
  pub later : List Step
  pub mode : Mode
  pub if_available : Bool
  pub name : List ℕ
  pub split : steps ≡ before ++ Asks t mode if_available name ∷ later
  pub asked : o ≡ Request mode if_available name
  pub numbered : length (client_of (run_steps before new_library) t).locks.issued ≡ k
  pub issued :
      (client_of (step (Asks t mode if_available name) (run_steps before new_library)) t).locks.issued
      ≡ (client_of (run_steps before new_library) t).locks.issued ++ o ∷ []

-- Each lock that a client holds was requested by a call of that client, with this mode and name, and got this number. The
-- client has neither released nor aborted it.
abbrev pub Own : List Step → Library → Type 0
Own steps l =
    (t k : ℕ) → IsHolding l t k →
    (k < length (client_of l t).locks.issued) × WasAskedBy steps t k (operation_of (client_of l t).locks k) × NotEnded (client_of l t).locks.issued k

-- The broker of a generation takes the commands of an honest tab's client in order, from its report's base on, each once.
abbrev pub CommandsInOrder : List Step → Library → Type 0
CommandsInOrder steps l =
    (g p t : ℕ) → IsHonest l t → (client_of l t).is_welcomed ≡ true →
    let mine = of_tab t (of_partition p (picked g (events steps)).items) in
    IsPrefix (commands_of mine) (numbered (base_of mine) (drop (base_of mine) (client_of l t).locks.issued))

-- The hub's broker has the locks that the draft's commands make of the taken list.
abbrev pub ManagerIsFold : List Step → Library → Type 0
ManagerIsFold steps l =
    (g p : ℕ) (b : BrokerState) → l.hub.supervised.broker ≡ Some b → b.generation ≡ g →
    manager_of b p ≡ managed p (picked g (events steps)).listed (of_partition p (picked g (events steps)).items)

-- What the events about a partition alone make of the empty world.
abbrev pub alone : Pair → List Step → WorldState
alone p steps = run (projected p empty_world (events steps)) empty_world

-- The locks of a partition are those of the run of its own events: the locks of each client, and those that the broker
-- has under the number of the partition, which is one of its tabs' numbers (RFC 6454, section 3).
pub record Apart (steps : List Step) (l : Library) : Type 0 where
  pub clients :
      (p : Pair) (t : ℕ) → partition_at l t ≡ Some p → (client_of l t).is_welcomed ≡ true →
      AreLocksOf (client_of l t).locks (tab_of (alone p steps) t)
  pub broker :
      (p : Pair) (t : ℕ) (b : BrokerState) → partition_at l t ≡ Some p → l.hub.supervised.broker ≡ Some b →
      (c : BrokerState) × ((alone p steps).broker ≡ Some c) × (manager_of c t ≡ manager_of b t)

-- The laws, over every list of steps

abbrev pub ExclusionForAll : Type 0
ExclusionForAll = (steps : List Step) → Exclusion (run_steps steps new_library)

abbrev pub OwnForAll : Type 0
OwnForAll = (steps : List Step) → Own steps (run_steps steps new_library)

abbrev pub CommandsInOrderForAll : Type 0
CommandsInOrderForAll = (steps : List Step) → CommandsInOrder steps (run_steps steps new_library)

abbrev pub ManagerIsFoldForAll : Type 0
ManagerIsFoldForAll = (steps : List Step) → ManagerIsFold steps (run_steps steps new_library)

abbrev pub ApartForAll : Type 0
ApartForAll = (steps : List Step) → Apart steps (run_steps steps new_library)
