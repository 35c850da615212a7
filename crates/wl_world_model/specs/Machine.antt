-- A run as the program keeps it: the events, the world after them, and the locks held in it.
use Rattle.std.specs.Prelude.{◌≡◌, ◌⊎◌, ℕ, ◌<◌, List, [], ◌∷◌}
use Rattle.std.specs.List.{AllByRecursion, flat_map}
use Rattle.wl_kernel.specs.Kernel.{living_tabs}
use Rattle.wl_draft.specs.Membership.{In}
use Rattle.wl_tab.specs.declared.holding.Holding.{Holding}
use Rattle.wl_tab.specs.TabTokens.{holdings_of}
use Rattle.wl_world_model.specs.declared.event.Event.{Event}
use Rattle.wl_world_model.specs.World.{WorldState, tab_of}
use Rattle.wl_world_model.specs.Holdings.{IsHolding, mode_at, name_at}

pub record Machine : Type 0 where
  pub events : List Event
  pub world : WorldState

-- The locks of all living tabs, by tab and then by number.
abbrev pub held_by_living : WorldState → List Holding
held_by_living w = flat_map (λ t. holdings_of (tab_of w t)) (living_tabs w.kernel)

-- Holdings, characterised without the list

-- The lock with number `k` of tab `t`.
abbrev pub holding_of : WorldState → ℕ → ℕ → Holding
holding_of w t k = record { tab = t; number = k; mode = mode_at w t k; name = name_at w t k }

-- Holdings are ordered by tab, and for one tab by number.
abbrev pub IsBefore : Holding → Holding → Type 0
IsBefore x y = (x.tab < y.tab) ⊎ ((x.tab ≡ y.tab) × (x.number < y.number))

-- Each holding is before all that follow it, so none occurs twice.
abbrev pub AreOrdered : List Holding → Type 0
AreOrdered [] = Unit {0}
AreOrdered (x ∷ xs) = AllByRecursion (IsBefore x) xs × AreOrdered xs

-- The list contains each lock that a living tab holds, and no other.
pub record AreHoldings (w : WorldState) (holdings : List Holding) : Type 0 where
  pub whole : (t k : ℕ) → IsHolding w t k → In (holding_of w t k) holdings
  pub held : (x : Holding) → In x holdings → IsHolding w x.tab x.number × (x ≡ holding_of w x.tab x.number)
  pub ordered : AreOrdered holdings
