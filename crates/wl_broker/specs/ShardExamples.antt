-- Worked examples with two shards: one of the odd partitions, and one of the even partitions.
use Rattle.std.specs.Prelude.{◌≡◌, ℕ, List, [], ◌∷◌, true, false}
use Rattle.wl_draft.specs.declared.mode.Mode.TheVariants.{Exclusive}
use Rattle.wl_draft.specs.Locks.{row_of}
use Rattle.wl_grammar.specs.declared.frame.Operation.TheVariants.{Request}
use Rattle.wl_grammar.specs.declared.frame.Outcome.TheVariants.{Granted}
use Rattle.wl_grammar.specs.declared.frame.Stamped.{Stamped}
use Rattle.wl_grammar.specs.declared.frame.Upward.TheVariants as up
use Rattle.wl_broker.specs.declared.seat.TabSeat.TheVariants.{Joined, Dead}
use Rattle.wl_broker.specs.declared.dropped.Dropped.TheVariants.{Misplaced}
use Rattle.wl_broker.specs.Broker.{BrokerState, Drops, taking, death_step}
use Rattle.wl_broker.specs.Events.{Event, Comes, Dies}
use Rattle.wl_broker.specs.BrokerExamples.{a, answer}
use Rattle.wl_broker.specs.Shards.{is_of, seen_at, stands_once, places, one_broker, shard_broker, sent_by_shards}

-- Abbreviations

-- Tab `t` of partition `p` reports no locks.
abbrev pub reports : ℕ → ℕ → Stamped
reports t p = record { tab = t; partition = p; inner = up.Report (record { generation = 1; base = 0; entries = [] }) }

-- Tab `t` of partition `p` requests the lock `a`.
abbrev pub asks : ℕ → ℕ → Stamped
asks t p = record { tab = t; partition = p; inner = up.Command (record { generation = 1; number = 0; operation = Request Exclusive false a }) }

-- Two shards

-- Tabs 1 and 2 are listed. Tabs 3 and 4 join later.
abbrev pub listed : List (ℕ × ℕ)
listed = (1, 1) ∷ (2, 2) ∷ []

-- All four tabs request the same name, two in each partition. Tab 4, which waits behind tab 2,
-- dies.
abbrev pub events : List Event
events =
    Comes (reports 1 1) ∷ Comes (reports 2 2) ∷ Comes (reports 3 1) ∷ Comes (asks 1 1) ∷ Comes (reports 4 2) ∷ Comes (asks 2 2)
    ∷ Comes (asks 3 1) ∷ Comes (asks 4 2) ∷ Dies 4 ∷ []

-- The resulting states of the two shards. The dead tab is in both.
abbrev pub odd : BrokerState
odd =
    record {
      generation = 1;
      listed = (1, 1) ∷ [];
      seats = (1, Joined 1 1 64) ∷ (3, Joined 1 1 64) ∷ (4, Dead) ∷ [];
      managers = (1, record { held = row_of 1 0 a Exclusive ∷ []; waiting = row_of 3 0 a Exclusive ∷ [] }) ∷ [];
      partial = [];
    }

abbrev pub even : BrokerState
even =
    record {
      generation = 1;
      listed = (2, 2) ∷ [];
      seats = (2, Joined 2 1 64) ∷ (4, Dead) ∷ [];
      managers = (2, record { held = row_of 2 0 a Exclusive ∷ []; waiting = [] }) ∷ [];
      partial = [];
    }

abbrev pub TwoShards : Type 0
TwoShards =
    (stands_once (places listed events) ≡ true)
    × (seen_at (is_of 2 1) (one_broker 1 listed events) ≡ odd)
    × (shard_broker (is_of 2 1) 1 listed events ≡ odd)
    × (seen_at (is_of 2 0) (one_broker 1 listed events) ≡ even)
    × (shard_broker (is_of 2 0) 1 listed events ≡ even)

-- The death of tab 1 then grants the lock to tab 3. Only the odd shard sends that grant.
abbrev pub DeathInOneShard : Type 0
DeathInOneShard =
    ((death_step (one_broker 1 listed events) 1).1 ≡ answer 1 3 0 1 Granted ∷ [])
    × ((death_step (shard_broker (is_of 2 1) 1 listed events) 1).1 ≡ answer 1 3 0 1 Granted ∷ [])
    × ((death_step (shard_broker (is_of 2 0) 1 listed events) 1).1 ≡ [])
    × (sent_by_shards 2 1 listed events 1 ≡ answer 1 3 0 1 Granted ∷ [])

-- A tab under two partitions

-- Tab 3 joins under partition 1, and reports again under partition 2.
abbrev pub twice : List Event
twice = Comes (reports 3 1) ∷ Comes (reports 3 2) ∷ []

-- The single broker drops the second report. The even shard lets the tab join, since it does not
-- know the first report.
abbrev pub UnderTwoPartitions : Type 0
UnderTwoPartitions =
    (stands_once (places [] twice) ≡ false)
    × (taking (one_broker 1 [] (Comes (reports 3 1) ∷ [])) (reports 3 2) ≡ Drops Misplaced)
    × ((seen_at (is_of 2 0) (one_broker 1 [] twice)).seats ≡ [])
    × ((shard_broker (is_of 2 0) 1 [] twice).seats ≡ (3, Joined 2 0 64) ∷ [])
