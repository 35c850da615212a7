-- The consequences of the rule for the parcels of an outbox, at any moment.
use Rattle.std.specs.Prelude.{◌≡◌, ℕ, List, [], ◌++◌, All}
use Rattle.wl_outbox.specs.declared.rule.Role.TheVariants.{Taking}
use Rattle.wl_outbox.specs.declared.rule.View.{View}
use Rattle.wl_outbox.specs.Merge.{IsMerge}
use Rattle.wl_outbox.specs.Parcels.{Packed}
use Rattle.wl_outbox.specs.OutboxRule.{Knows, put_by, IsForTabOf, IsOrderly}

-- The parcels taken, followed by those in the queue, are a merge of the passes' puts.
abbrev pub TakesInOrder : Type 0
TakesInOrder = (items : List Packed) (views : List View) (taker : ℕ) (v : View) → IsOrderly items views → Knows views taker v → v.role ≡ Taking
    → IsMerge (v.parcels ++ items) (put_by views)

-- At most one pass takes.
abbrev pub OnePassTakes : Type 0
OnePassTakes = (items : List Packed) (views : List View) (i j : ℕ) (v w : View) → IsOrderly items views → Knows views i v → Knows views j w
    → v.role ≡ Taking → w.role ≡ Taking → i ≡ j

-- All parcels taken or queued are for the tab that each pass knows.
abbrev pub AllForOneTab : Type 0
AllForOneTab = (items : List Packed) (views : List View) (taker pass : ℕ) (v w : View) → IsOrderly items views → Knows views taker v → v.role ≡ Taking
    → Knows views pass w → All (IsForTabOf w) (v.parcels ++ items)

-- If the queue is empty, the parcels taken are a merge of all puts.
abbrev pub AllArrived : Type 0
AllArrived = (views : List View) (taker : ℕ) (v : View) → IsOrderly [] views → Knows views taker v → v.role ≡ Taking
    → IsMerge v.parcels (put_by views)
