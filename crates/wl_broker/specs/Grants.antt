-- Laws of active partitions. They are settled after each message and each death, and each new grant
-- is sent once.
use Rattle.std.specs.Prelude.{◌≡◌, ◌≢◌, ◌⊎◌, ℕ, List, [], ◌++◌, true, false, Option, Some, None}
use Rattle.std.specs.List.{AllByRecursion}
use Rattle.wl_draft.specs.declared.row.Row.{Row}
use Rattle.wl_draft.specs.Locks.{Locks, settle, without, without_client}
use Rattle.wl_draft.specs.Settling.{IsSettled, Merges}
use Rattle.wl_grammar.specs.declared.frame.Stamped.{Stamped}
use Rattle.wl_grammar.specs.declared.frame.Addressed.{Addressed}
use Rattle.wl_grammar.specs.declared.frame.Upward.{Upward}
use Rattle.wl_grammar.specs.declared.frame.Upward.TheVariants as up
use Rattle.wl_grammar.specs.declared.frame.Downward.{Downward}
use Rattle.wl_grammar.specs.declared.frame.Downward.TheVariants as down
use Rattle.wl_broker.specs.Broker.{BrokerState, started, Does, taking, death_step, is_active, is_dead, place_of, manager_of, seat_of, grants_to}
use Rattle.wl_broker.specs.BrokerLaws.{IsListedOnce, SameOfOthers}

-- Active partitions are settled

-- No grantable request is waiting in an active partition.
abbrev pub AreSettled : BrokerState → Type 0
AreSettled b = (p : ℕ) → is_active b p ≡ true → IsSettled (manager_of b p)

abbrev pub StartsSettled : ℕ → List (ℕ × ℕ) → Type 0
StartsSettled g listed = AreSettled (started g listed)

abbrev pub TakesSettled : BrokerState → Stamped → Type 0
TakesSettled b s =
    (after : BrokerState) (outs : List Addressed) → IsListedOnce b → AreSettled b → taking b s ≡ Does after outs → AreSettled after

abbrev pub BuriesSettled : BrokerState → ℕ → Type 0
BuriesSettled b t = IsListedOnce b → AreSettled b → AreSettled (death_step b t).0

-- Deaths

-- The locks in `n` are those in `m` without the client's, in the same order.
pub record TakesOut (client : ℕ) (m n : Locks) : Type 0 where
  pub held : n.held ≡ without_client client m.held
  pub waiting : n.waiting ≡ without_client client m.waiting

-- A death removes all locks of the tab and no others. Other locks change only by settling.
abbrev pub BuriesItsOwn : BrokerState → ℕ → Type 0
BuriesItsOwn b t =
    (p : ℕ) → is_dead (seat_of b t) ≡ false → place_of b t ≡ Some p
    → (m : Locks) × TakesOut t (manager_of b p) m × ((manager_of (death_step b t).0 p ≡ m) ⊎ (manager_of (death_step b t).0 p ≡ settle m))

-- A second report of a death changes nothing.
abbrev pub BuriesOnce : BrokerState → ℕ → Type 0
BuriesOnce b t = is_dead (seat_of b t) ≡ true → death_step b t ≡ (b, [])

-- An active partition stays active when a tab dies.
abbrev pub BuriesActive : BrokerState → ℕ → Type 0
BuriesActive b t = (p : ℕ) → is_active b p ≡ true → is_active (death_step b t).0 p ≡ true

-- Frames sent

-- Each waiting request is granted or keeps waiting, in order. Granted locks follow the locks held
-- before.
pub record Grants (m n : Locks) (granted : List Row) : Type 0 where
  pub parts : Merges granted n.waiting m.waiting
  pub behind : n.held ≡ m.held ++ granted

-- The number of the command that the frame answers.
abbrev pub answered_in : Downward → Option ℕ
answered_in (down.Hello h) = None
answered_in (down.Answer a) = Some a.number
answered_in (down.Snapshot s) = Some s.number

abbrev pub IsTo : ℕ → ℕ → Addressed → Type 0
IsTo t n x = (x.tab ≡ t) × (answered_in x.inner ≡ Some n)

-- A command is answered to its tab with its number. A report is not answered.
abbrev pub IsOwnAnswer : ℕ → Upward → List Addressed → Type 0
IsOwnAnswer t (up.Command c) outs = (outs ≢ []) × AllByRecursion (IsTo t c.number) outs
IsOwnAnswer t (up.Report r) outs = outs ≡ []
IsOwnAnswer t (up.ReportPart r) outs = outs ≡ []

-- A command's own grant is sent by its answer.
abbrev pub to_tell : ℕ → Upward → List Row → List Row
to_tell t (up.Command c) rows = without t c.number rows
to_tell t (up.Report r) rows = rows
to_tell t (up.ReportPart r) rows = rows

-- The message adds or removes only locks of its own tab, and then some requests are granted. The
-- broker sends the sender's answer, and then one grant for each of these requests.
pub record TellsGrants (b : BrokerState) (s : Stamped) (after : BrokerState) (outs : List Addressed) : Type 0 where
  pub own : List Addressed
  pub locks : Locks
  pub granted : List Row
  pub answer : IsOwnAnswer s.tab s.inner own
  pub moved : SameOfOthers s.tab (manager_of b s.partition) locks
  pub newly_granted : Grants locks (manager_of after s.partition) granted
  pub sent : outs ≡ own ++ grants_to after (to_tell s.tab s.inner granted)

abbrev pub TakesTelling : BrokerState → Stamped → Type 0
TakesTelling b s =
    (after : BrokerState) (outs : List Addressed) → taking b s ≡ Does after outs → is_active after s.partition ≡ true → TellsGrants b s after outs

-- The death removes only locks of the dead tab, and then some requests are granted. The broker
-- sends one grant for each of them.
pub record TellsOfDeath (b : BrokerState) (t p : ℕ) (after : BrokerState) (outs : List Addressed) : Type 0 where
  pub locks : Locks
  pub granted : List Row
  pub gone : TakesOut t (manager_of b p) locks
  pub newly_granted : Grants locks (manager_of after p) granted
  pub sent : outs ≡ grants_to after granted

abbrev pub BuriesTelling : BrokerState → ℕ → Type 0
BuriesTelling b t =
    (p : ℕ) → is_dead (seat_of b t) ≡ false → place_of b t ≡ Some p → is_active (death_step b t).0 p ≡ true
    → TellsOfDeath b t p (death_step b t).0 (death_step b t).1
