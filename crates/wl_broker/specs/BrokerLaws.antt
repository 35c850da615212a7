-- Laws of messages and deaths: the parts of the broker's state that they change, and those that
-- they keep.
use Rattle.std.specs.Prelude.{◌≡◌, ◌≢◌, ◌⊎◌, ℕ, ◌+◌, ◌<◌, List, [], ◌∷◌, ◌++◌, ◌==◌, true, false, filter, Option, Some, None, if◌then◌else◌}
use Rattle.wl_draft.specs.declared.row.Row.{Row}
use Rattle.wl_draft.specs.Locks.{Locks, conflict, settle, held_of, without_client}
use Rattle.wl_grammar.specs.declared.frame.Stamped.{Stamped}
use Rattle.wl_grammar.specs.declared.frame.Addressed.{Addressed}
use Rattle.wl_grammar.specs.declared.frame.Upward.{Upward}
use Rattle.wl_grammar.specs.declared.frame.Upward.TheVariants as up
use Rattle.wl_grammar.specs.Grammar.{TabsRiseFrom}
use Rattle.wl_broker_reports.specs.ReportParts.{Told, content_of, with_told, is_whole, whole_of}
use Rattle.wl_broker.specs.Broker.{BrokerState, Does, taking, death_step, is_active, place_of, manager_of, seat_of, partial_of, next_of}

-- Each tab is listed once.
abbrev pub IsListedOnce : BrokerState → Type 0
IsListedOnce b = TabsRiseFrom 1 b.listed

-- One partition at a time

-- The locks of the partition are unchanged, and so is whether it is active.
pub record LeavesAlone (q : ℕ) (old new : BrokerState) : Type 0 where
  pub manager : manager_of new q ≡ manager_of old q
  pub active : is_active new q ≡ is_active old q

-- A message changes only its own partition.
abbrev pub TakesInOnePartition : BrokerState → Stamped → Type 0
TakesInOnePartition b s =
    (after : BrokerState) (outs : List Addressed) (q : ℕ) → taking b s ≡ Does after outs → q ≢ s.partition → LeavesAlone q b after

-- A death changes only the tab's own partition.
abbrev pub BuriesInOnePartition : BrokerState → ℕ → Type 0
BuriesInOnePartition b t = (q : ℕ) → place_of b t ≢ Some q → LeavesAlone q b (death_step b t).0

-- Recovery

-- The locks that a report states as held, if this is the last missing part of the report.
abbrev pub told_held : BrokerState → ℕ → ℕ → Option Told → List Row
told_held b t p None = []
told_held b t p (Some x) =
    let k = with_told p x (partial_of b t) in if is_whole k then held_of t (whole_of k).entries else []

abbrev pub reported_held : BrokerState → Stamped → List Row
reported_held b s = told_held b s.tab s.partition (content_of s.inner)

-- In a partition that is not active nothing is granted: the broker sends nothing, and adds only
-- locks reported as held.
abbrev pub GrantsNothingWhileRecovering : BrokerState → Stamped → Type 0
GrantsNothingWhileRecovering b s =
    (after : BrokerState) (outs : List Addressed) → taking b s ≡ Does after outs → is_active after s.partition ≡ false
    → (outs ≡ []) × ((manager_of after s.partition).held ≡ (manager_of b s.partition).held ++ reported_held b s)

abbrev pub BuriesInSilenceWhileRecovering : BrokerState → ℕ → Type 0
BuriesInSilenceWhileRecovering b t =
    (p : ℕ) → place_of b t ≡ Some p → is_active (death_step b t).0 p ≡ false → (death_step b t).1 ≡ []

-- An active partition stays active.
abbrev pub StaysActive : BrokerState → Stamped → Type 0
StaysActive b s =
    (after : BrokerState) (outs : List Addressed) (q : ℕ) → taking b s ≡ Does after outs → is_active b q ≡ true → is_active after q ≡ true

-- The broker with only the listed tabs of this partition.
abbrev pub listing_only : ℕ → BrokerState → BrokerState
listing_only p b = record b { listed = filter (λ x. x.1 == p) b.listed }

-- A partition waits only for its own tabs: it is active if and only if it is active with no other
-- tabs listed.
abbrev pub WaitsForItsOwn : BrokerState → ℕ → Type 0
WaitsForItsOwn b p = is_active b p ≡ is_active (listing_only p b) p

-- Ownership of locks

-- The locks of other clients are the same, in the same order.
pub record SameOfOthers (client : ℕ) (m n : Locks) : Type 0 where
  pub held : without_client client n.held ≡ without_client client m.held
  pub waiting : without_client client n.waiting ≡ without_client client m.waiting

-- A message adds or removes only locks of its own tab. Other locks change only by settling.
abbrev pub MovesItsOwn : BrokerState → Stamped → Type 0
MovesItsOwn b s =
    (after : BrokerState) (outs : List Addressed) → taking b s ≡ Does after outs
    → (m : Locks) × SameOfOthers s.tab (manager_of b s.partition) m
    × ((manager_of after s.partition ≡ m) ⊎ (manager_of after s.partition ≡ settle m))

-- Compatible locks

-- No two of the locks have the same name and conflicting modes.
abbrev pub AreCompatible : List Row → Type 0
AreCompatible rows =
    (front middle back : List Row) (r s : Row) → rows ≡ front ++ r ∷ (middle ++ s ∷ back) → r.name ≡ s.name → conflict r.mode s.mode ≡ false

-- Held locks conflict only if they already conflicted, or conflicted when they were reported.
abbrev pub KeepsCompatible : BrokerState → Stamped → Type 0
KeepsCompatible b s =
    (after : BrokerState) (outs : List Addressed) → taking b s ≡ Does after outs
    → AreCompatible ((manager_of b s.partition).held ++ reported_held b s) → AreCompatible (manager_of after s.partition).held

-- Reports in parts

-- A message does not change the parts kept of other tabs' reports.
abbrev pub LeavesPartsOfOthers : BrokerState → Stamped → Type 0
LeavesPartsOfOthers b s =
    (after : BrokerState) (outs : List Addressed) (t : ℕ) → taking b s ≡ Does after outs → t ≢ s.tab → partial_of after t ≡ partial_of b t

-- Command numbers

-- When a tab joins, its next number is the base of its report. A part that is kept changes no seat.
abbrev pub JoinsAtBase : BrokerState → Stamped → BrokerState → ℕ → Type 0
JoinsAtBase b s after base = (next_of after s.tab ≡ base) ⊎ (seat_of after s.tab ≡ seat_of b s.tab)

-- A new command raises the next number by one. A repeated command changes nothing.
abbrev pub NumbersOf : BrokerState → Stamped → BrokerState → Upward → Type 0
NumbersOf b s after (up.Report r) = JoinsAtBase b s after r.base
NumbersOf b s after (up.ReportPart r) = JoinsAtBase b s after r.base
NumbersOf b s after (up.Command c) =
    ((c.number ≡ next_of b s.tab) × (next_of after s.tab ≡ next_of b s.tab + 1)) ⊎ ((c.number < next_of b s.tab) × (after ≡ b))

pub record Numbers (b : BrokerState) (s : Stamped) (after : BrokerState) : Type 0 where
  pub own : NumbersOf b s after s.inner
  pub others : (t : ℕ) → t ≢ s.tab → seat_of after t ≡ seat_of b t

abbrev pub CountsCommands : BrokerState → Stamped → Type 0
CountsCommands b s = (after : BrokerState) (outs : List Addressed) → taking b s ≡ Does after outs → Numbers b s after
