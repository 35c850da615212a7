-- Invariant of the broker's stored state, and helper definitions for the contracts of its private
-- functions.
use Rattle.std.specs.Prelude.{◌≡◌, ◌⊎◌, ℕ, ◌+◌, List, [], ◌∷◌, map, Bool, true, false, not, ◌&&◌, ◌||◌, ◌==◌, nat_lt, Option, Some, None, IsSome, if◌then◌else◌}
use Rattle.std.specs.List.{list_all}
use Rattle.wl_draft.specs.declared.row.Row.{Row}
use Rattle.wl_draft.specs.declared.row.Grant.{Grant}
use Rattle.wl_draft.specs.Tables.{Table, at, find, Rises}
use Rattle.wl_draft.specs.Locks.{Locks, no_locks}
use Rattle.wl_grammar.specs.Grammar.{TabsRiseFrom}
use Rattle.wl_grammar.specs.declared.frame.Addressed.{Addressed}
use Rattle.wl_grammar.specs.declared.frame.Outcome.TheVariants.{Granted}
use Rattle.wl_broker_reports.specs.ReportParts.{Partial}
use Rattle.wl_broker.specs.declared.seat.TabSeat.{TabSeat}
use Rattle.wl_broker.specs.declared.seat.TabSeat.TheVariants.{Joined, Dead}
use Rattle.wl_broker.specs.declared.answers.TabAnswer.{TabAnswer}
use Rattle.wl_broker.specs.Broker.{BrokerState, seat_of, has_arrived, listed_at, next_in, answer_of}

-- Partitions

-- A partition has its locks, and is active if each of its listed tabs has arrived.
pub record PartitionState : Type 0 where
  pub locks : Locks
  pub is_active : Bool

abbrev pub state_of : Locks → Bool → PartitionState
state_of m b = record { locks = m; is_active = b }

abbrev pub no_partition : PartitionState
no_partition = state_of no_locks false

abbrev pub row_or : Option PartitionState → PartitionState
row_or None = no_partition
row_or (Some s) = s

-- The grant is for this pair.
abbrev pub is_grant_of : ℕ → ℕ → Grant → Bool
is_grant_of client number g = g.client == client && g.number == number

-- Invariants

-- Each listed tab of the partition has arrived.
abbrev pub all_arrived : List (ℕ × ℕ) → Table TabSeat → ℕ → Bool
all_arrived listed seats p = list_all (λ x. not (x.1 == p) || has_arrived (find seats x.0)) listed

-- The number of listed tabs of the partition that have not arrived.
abbrev pub missing_in : List (ℕ × ℕ) → Table TabSeat → ℕ → ℕ
missing_in [] seats p = 0
missing_in (x ∷ xs) seats p = (if x.1 == p && not (has_arrived (find seats x.0)) then 1 else 0) + missing_in xs seats p

-- The partition under which a tab is listed, as long as it has not arrived.
abbrev pub awaited_at : Option TabSeat → Option ℕ → Option ℕ
awaited_at None place = place
awaited_at (Some s) place = None

-- One for this partition, and zero for any other.
abbrev pub one_at : Option ℕ → ℕ → ℕ
one_at None p = 0
one_at (Some q) p = if q == p then 1 else 0

-- The number of commands of a tab that were taken in the partition.
abbrev pub taken_in : Option TabSeat → ℕ → ℕ
taken_in None p = 0
taken_in (Some (Joined q next limit)) p = if q == p then next else 0
taken_in (Some Dead) p = 0

-- The lock was requested by a command that was taken in the partition.
abbrev pub was_taken : Table TabSeat → ℕ → Row → Bool
was_taken seats p r = nat_lt r.number (taken_in (find seats r.client) p)

abbrev pub AllRows : (Row → Bool) → Locks → Type 0
AllRows test m = (list_all test m.held ≡ true) × (list_all test m.waiting ≡ true)

pub record IsPartition (listed : List (ℕ × ℕ)) (seats : Table TabSeat) (p : ℕ) (s : PartitionState) : Type 0 where
  pub active : s.is_active ≡ all_arrived listed seats p
  pub numbers : AllRows (was_taken seats p) s.locks

pub record IsConsistent (listed : List (ℕ × ℕ)) (seats : Table TabSeat) (partitions : Table PartitionState) : Type 0 where
  pub listed_once : TabsRiseFrom 1 listed
  pub rise : Rises 0 partitions
  pub each : (p : ℕ) (s : PartitionState) → find partitions p ≡ Some s → IsPartition listed seats p s
  pub seated : (t p next limit : ℕ) → find seats t ≡ Some (Joined p next limit) → IsSome (find partitions p)

-- The table counts, for each partition, the listed tabs that have not arrived.
abbrev pub AreCounts : List (ℕ × ℕ) → Table TabSeat → Table ℕ → Type 0
AreCounts listed seats missing = (p : ℕ) → at 0 missing p ≡ missing_in listed seats p

-- No part is kept of a tab that has arrived.
pub record AwaitsParts (seats : Table TabSeat) (partial : Table Partial) : Type 0 where
  pub rise : Rises 0 partial
  pub not_come : (t : ℕ) (s : TabSeat) → find seats t ≡ Some s → find partial t ≡ None

-- Frames to send

-- The number of spare buffers, and the number of frames for which each has capacity.
pub record RoomsState : Type 0 where
  pub lists : ℕ
  pub frames : ℕ

abbrev pub no_rooms : RoomsState
no_rooms = record { lists = 0; frames = 0 }

-- The answer to a tab, if there is one.
abbrev pub replied : ℕ → Option TabAnswer → List Addressed
replied g None = []
replied g (Some r) = answer_of g r.upto r.tab r.number r.outcome ∷ []

-- The frame of a grant. It states how many commands of the tab were taken.
abbrev pub grant_of : ℕ → Table TabSeat → Grant → Addressed
grant_of g seats x = answer_of g (next_in (find seats x.client)) x.client x.number Granted

-- State of the definition

abbrev pub broker_of : ℕ → List (ℕ × ℕ) → Table TabSeat → Table PartitionState → Table Partial → BrokerState
broker_of g listed seats partitions partial =
    record { generation = g; listed = listed; seats = seats; managers = map (λ x. (x.0, x.1.locks)) partitions; partial = partial }

-- The partition of a tab that dies: it has joined there, or it has not arrived and is listed there.
abbrev pub Had : BrokerState → ℕ → ℕ → Type 0
Had b t p = ((n l : ℕ) × (seat_of b t ≡ Some (Joined p n l))) ⊎ ((seat_of b t ≡ None) × (listed_at t b.listed ≡ Some p))
