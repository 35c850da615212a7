-- The locks that tabs hold by their own account, and the laws Exclusion and Own about them.
use Rattle.std.specs.Prelude.{◌≡◌, ◌⊎◌, ℕ, List, [], ◌∷◌, ◌++◌, Bool, true, false, ◌<◌, length, Option, Some, None, if◌then◌else◌}
use Rattle.wl_origin.specs.Order.{Pair}
use Rattle.wl_draft.specs.declared.mode.Mode.{Mode}
use Rattle.wl_draft.specs.declared.mode.Mode.TheVariants.{Shared}
use Rattle.wl_grammar.specs.declared.frame.Operation.{Operation}
use Rattle.wl_grammar.specs.declared.frame.Operation.TheVariants.{Request, Release, Abort}
use Rattle.wl_agent.specs.declared.status.Status.TheVariants.{Held}
use Rattle.wl_agent.specs.Tab.{status_of, operation_of, mode_of, name_of}
use Rattle.wl_kernel.specs.Kernel.{OpenedTab}
use Rattle.wl_kernel.specs.Kernel.{tab_of as opened_tab}
use Rattle.wl_draft.specs.Membership.{In}
use Rattle.wl_world_model.specs.declared.event.Event.{Event}
use Rattle.wl_world_model.specs.declared.event.Event.TheVariants as event
use Rattle.wl_world_model.specs.World.{WorldState, tab_of, lives, is_corrupt, empty_world, after_event, run}

-- The tab lives and its own status for number `k` is `Held`.
abbrev pub IsHolding : WorldState → ℕ → ℕ → Type 0
IsHolding w t k = (lives w t ≡ true) × (status_of (tab_of w t) k ≡ Some Held)

-- The tab was never taken over.
abbrev pub IsHonest : WorldState → ℕ → Type 0
IsHonest w t = is_corrupt w t ≡ false

-- The name of the lock requested by command `k`.
abbrev pub name_at : WorldState → ℕ → ℕ → List ℕ
name_at w t k = name_of (operation_of (tab_of w t) k)

-- The mode of the lock requested by command `k`.
abbrev pub mode_at : WorldState → ℕ → ℕ → Mode
mode_at w t k = mode_of (operation_of (tab_of w t) k)

-- The partition in which a tab was opened.
abbrev pub partition_in : Option OpenedTab → Option Pair
partition_in None = None
partition_in (Some o) = Some o.partition

abbrev pub partition_at : WorldState → ℕ → Option Pair
partition_at w t = partition_in (opened_tab w.kernel t)

-- The pairs of tab and number are different.
abbrev pub Differ : ℕ → ℕ → ℕ → ℕ → Type 0
Differ t k u j = (t ≡ u) × (k ≡ j) → ⊥

-- Mutual exclusion: two different locks of one name, held by honest tabs of one partition, are both shared
-- (Web Locks, "LockMode").
abbrev pub Exclusion : WorldState → Type 0
Exclusion w =
    (t k u j : ℕ) → IsHonest w t → IsHonest w u → IsHolding w t k → IsHolding w u j → Differ t k u j → partition_at w t ≡ partition_at w u →
    name_at w t k ≡ name_at w u j → (mode_at w t k ≡ Shared) × (mode_at w u j ≡ Shared)

-- Own

-- The event by which tab `t` requests a lock.
abbrev pub asking : ℕ → Mode → Bool → List ℕ → Event
asking t mode if_available name = if if_available then event.Probe t mode name else event.Ask t mode name

-- One of the events requested a lock, and by it the tab issued exactly the command `o` as its number `k`.
pub record WasAsked (events : List Event) (t k : ℕ) (o : Operation) : Type 0 where
  pub before : List Event
  pub later : List Event
  pub mode : Mode
  pub if_available : Bool
  pub name : List ℕ
  pub split : events ≡ before ++ asking t mode if_available name ∷ later
  pub asked : o ≡ Request mode if_available name
  pub numbered : length (tab_of (run before empty_world) t).issued ≡ k
  pub issued :
      (tab_of (after_event (run before empty_world) (asking t mode if_available name)) t).issued ≡ (tab_of (run before empty_world) t).issued ++ o ∷ []

-- No command in the list releases or aborts number `k`.
abbrev pub NotEnded : List Operation → ℕ → Type 0
NotEnded issued k = (In (Release k) issued ⊎ In (Abort k) issued) → ⊥

-- Each lock held by a tab, honest or not, was requested by an event of that tab. The event had this name and
-- mode and got this number. The tab has neither released nor aborted the lock.
abbrev pub Own : List Event → WorldState → Type 0
Own events w =
    (t k : ℕ) → IsHolding w t k →
    (k < length (tab_of w t).issued) × WasAsked events t k (operation_of (tab_of w t) k) × NotEnded (tab_of w t).issued k

-- The laws, over every list of events

abbrev pub ExclusionForAll : Type 0
ExclusionForAll = (events : List Event) → Exclusion (run events empty_world)

abbrev pub OwnForAll : Type 0
OwnForAll = (events : List Event) → Own events (run events empty_world)
