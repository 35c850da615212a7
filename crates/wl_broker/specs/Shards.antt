-- Broker in shards. Each partition belongs to one shard, and each shard has its own broker, which
-- knows only its partitions.
use Rattle.std.specs.Prelude.{◌≡◌, ℕ, ◌<◌, ◌%◌, List, [], ◌∷◌, ◌++◌, Bool, true, false, not, ◌||◌, ◌==◌, filter, Option, Some, None, IsPermutation, if◌then◌else◌}
use Rattle.std.specs.List.{list_all, range_with_len, flat_map}
use Rattle.wl_grammar.specs.declared.frame.Stamped.{Stamped}
use Rattle.wl_grammar.specs.declared.frame.Addressed.{Addressed}
use Rattle.wl_broker.specs.declared.seat.TabSeat.{TabSeat}
use Rattle.wl_broker.specs.declared.seat.TabSeat.TheVariants.{Joined, Dead}
use Rattle.wl_broker.specs.Broker.{BrokerState, started, hellos, place_of, Taking, Drops, Does, taking, death_step}
use Rattle.wl_broker.specs.Events.{Event, Comes, Dies, run}

-- Contents of a shard

abbrev pub shard_of : ℕ → ℕ → ℕ
shard_of shards p = p % shards

-- The partition belongs to the shard.
abbrev pub is_of : ℕ → ℕ → ℕ → Bool
is_of shards s p = shard_of shards p == s

-- The listed tabs of these partitions.
abbrev pub listed_of : (ℕ → Bool) → List (ℕ × ℕ) → List (ℕ × ℕ)
listed_of mine listed = filter (λ x. mine x.1) listed

-- An event concerns these partitions if it is a message of one of them, or any death.
abbrev pub is_for : (ℕ → Bool) → Event → Bool
is_for mine (Comes s) = mine s.partition
is_for mine (Dies t) = true

abbrev pub events_of : (ℕ → Bool) → List Event → List Event
events_of mine events = filter (is_for mine) events

-- A seat is visible in these partitions if its tab joined in one of them or is dead.
abbrev pub is_seen : (ℕ → Bool) → TabSeat → Bool
is_seen mine (Joined partition next limit) = mine partition
is_seen mine Dead = true

-- The part of a broker's state that belongs to these partitions, and the dead tabs.
abbrev pub seen_at : (ℕ → Bool) → BrokerState → BrokerState
seen_at mine b =
    record {
      generation = b.generation;
      listed = listed_of mine b.listed;
      seats = filter (λ row. is_seen mine row.1) b.seats;
      managers = filter (λ row. mine row.0) b.managers;
      partial = filter (λ row. mine row.1.partition) b.partial;
    }

-- The message is dropped for the same reason, or the same frames are sent and the visible state is
-- the same.
abbrev pub taking_at : (ℕ → Bool) → Taking → Taking
taking_at mine (Drops reason) = Drops reason
taking_at mine (Does after outs) = Does (seen_at mine after) outs

-- The partition of a tab is among these.
abbrev pub stands_in : (ℕ → Bool) → Option ℕ → Bool
stands_in mine None = false
stands_in mine (Some p) = mine p

-- Each tab has one partition

-- The tab of a message, and the partition stamped on it.
abbrev pub named_by : Event → List (ℕ × ℕ)
named_by (Comes s) = (s.tab, s.partition) ∷ []
named_by (Dies t) = []

abbrev pub places : List (ℕ × ℕ) → List Event → List (ℕ × ℕ)
places listed events = listed ++ flat_map named_by events

-- No tab occurs with two partitions.
abbrev pub stands_once : List (ℕ × ℕ) → Bool
stands_once xs = list_all (λ x. list_all (λ y. not (x.0 == y.0) || x.1 == y.1) xs) xs

abbrev pub StandsOnce : List (ℕ × ℕ) → List Event → Type 0
StandsOnce listed events = stands_once (places listed events) ≡ true

-- The single broker, and those of the shards

abbrev pub one_broker : ℕ → List (ℕ × ℕ) → List Event → BrokerState
one_broker g listed events = run (started g listed) events

-- The broker of the shard starts with the list's entries of these partitions, and receives only
-- their events.
abbrev pub shard_broker : (ℕ → Bool) → ℕ → List (ℕ × ℕ) → List Event → BrokerState
shard_broker mine g listed events = run (started g (listed_of mine listed)) (events_of mine events)

-- The part of the single broker's state that belongs to a shard is the state of the shard's broker.
abbrev pub SeenAtEachShard : Type 0
SeenAtEachShard =
    (shards s g : ℕ) (listed : List (ℕ × ℕ)) (events : List Event) → StandsOnce listed events
    → seen_at (is_of shards s) (one_broker g listed events) ≡ shard_broker (is_of shards s) g listed events

-- The shard of a message's partition takes the message as the single broker does.
abbrev pub AnsweredByItsShard : Type 0
AnsweredByItsShard =
    (shards g : ℕ) (listed : List (ℕ × ℕ)) (before : List Event) (m : Stamped) (after : List Event)
    → StandsOnce listed (before ++ Comes m ∷ after)
    → let mine = is_of shards (shard_of shards m.partition) in
    taking (shard_broker mine g listed before) m ≡ taking_at mine (taking (one_broker g listed before) m)

-- The frames that the shards send when a tab dies, by rising shard.
abbrev pub sent_by_shards : ℕ → ℕ → List (ℕ × ℕ) → List Event → ℕ → List Addressed
sent_by_shards shards g listed events t =
    flat_map (λ s. (death_step (shard_broker (is_of shards s) g listed events) t).1) (range_with_len 0 shards)

-- Together these are the frames that the single broker sends.
abbrev pub DeathsSentByShards : Type 0
DeathsSentByShards =
    (shards g : ℕ) (listed : List (ℕ × ℕ)) (before : List Event) (t : ℕ) (after : List Event)
    → 0 < shards → StandsOnce listed (before ++ Dies t ∷ after)
    → sent_by_shards shards g listed before t ≡ (death_step (one_broker g listed before) t).1

-- The shard of the dead tab's partition sends all of them, and each other shard sends nothing.
abbrev pub DeathsSentByOneShard : Type 0
DeathsSentByOneShard =
    (shards s g : ℕ) (listed : List (ℕ × ℕ)) (before : List Event) (t : ℕ) (after : List Event)
    → StandsOnce listed (before ++ Dies t ∷ after)
    → let b = one_broker g listed before in
    let mine = is_of shards s in
    (death_step (shard_broker mine g listed before) t).1 ≡ (if stands_in mine (place_of b t) then (death_step b t).1 else [])

-- The hellos of the shards, by rising shard, are those of the single broker in another order.
abbrev pub HellosOfShards : Type 0
HellosOfShards =
    (shards g : ℕ) (listed : List (ℕ × ℕ)) → 0 < shards
    → IsPermutation (hellos g listed) (flat_map (λ s. hellos g (listed_of (is_of shards s) listed)) (range_with_len 0 shards))

-- Shards without a common order

abbrev pub deaths_in : List Event → List ℕ
deaths_in [] = []
deaths_in (Comes s ∷ es) = deaths_in es
deaths_in (Dies t ∷ es) = t ∷ deaths_in es

-- Each shard received messages of its own partitions, and all deaths in the same order.
pub record AreOfShards (shards : ℕ) (died : List ℕ) (given : ℕ → List Event) : Type 0 where
  pub own : (s : ℕ) → s < shards → list_all (is_for (is_of shards s)) (given s) ≡ true
  pub deaths : (s : ℕ) → s < shards → deaths_in (given s) ≡ died

-- Then a single list of events gives each shard its own events. It may order messages of different
-- shards in any way.
abbrev pub InOneOrder : Type 0
InOneOrder =
    (shards : ℕ) (listed : List (ℕ × ℕ)) (died : List ℕ) (given : ℕ → List Event) → AreOfShards shards died given
    → StandsOnce listed (flat_map given (range_with_len 0 shards))
    → (events : List Event) × StandsOnce listed events × ((s : ℕ) → s < shards → events_of (is_of shards s) events ≡ given s)
