-- A sharded broker: the parameters of a run, the shard of each work, and a lane's receipts by
-- shard.
use Rattle.std.specs.Prelude.{◌≡◌, ◌<◌, ◌+◌, ◌==◌, ℕ, zero, suc, List, [], ◌∷◌, ◌++◌, length, map, slice_index_or, if◌then◌else◌, ◌≤◌, Option, None, Some, vec_capacity, Bool, Result}
use Rattle.wl_broker.specs.Broker.{BrokerState, started, hellos}
use Rattle.wl_broker.specs.Shards.{shard_of, is_of, listed_of}
use Rattle.wl_grammar.specs.declared.frame.Addressed.{Addressed}
use Rattle.wl_locked.specs.declared.event.BookEvent.{BookEvent}
use Rattle.wl_locked.specs.declared.event.BookEvent.TheVariants.{Take, Dead}
use Rattle.wl_locked.specs.declared.work.Work.{Work}
use Rattle.wl_locked.specs.declared.brokers.OpenParameters.{OpenParameters}
use Rattle.wl_locked.specs.declared.receipt.Receipt.{Receipt}
use Rattle.wl_locked.specs.declared.receipt.Step.{Step}
use Rattle.wl_locked.specs.declared.receipt.CloseFault.{CloseFault}
use Rattle.wl_locked.specs.declared.gathering.Gathering.{Gathering}
use Rattle.wl_locked.specs.Receipts.{total}
use Rattle.wl_locked.specs.Closing.{IsHistory, IsFault, IsCompared}

-- The parameters of a run: the generation, the start list, the numbers of shards and lanes, and the
-- step limit of each shard.
pub record Run : Type 0 where
  pub generation : ℕ
  pub listed : List (ℕ × ℕ)
  pub shards : ℕ
  pub lanes : ℕ
  pub limit : ℕ

-- Helper: the run that starts with these parameters.
abbrev pub IsRun : Run → OpenParameters → Type 0
IsRun run b =
    (run.generation ≡ b.generation) × (run.listed ≡ b.list.now) × (run.shards ≡ b.shards) × (run.limit ≡ b.limit)

-- A message belongs to the shard of its partition, and a death to every shard.
abbrev pub Belongs : ℕ → ℕ → BookEvent → Type 0
Belongs shards shard (Take message) = shard_of shards message.partition ≡ shard
Belongs shards shard (Dead tab) = Unit {0}

-- The work's shard exists, and the event belongs to it.
abbrev pub IsDealt : ℕ → Work → Type 0
IsDealt shards work = (work.shard < shards) × Belongs shards work.shard work.event

-- One work for a tab's death in each shard below `shard`, in ascending order.
abbrev pub deaths_below : ℕ → ℕ → List Work
deaths_below tab zero = []
deaths_below tab (suc shard) = deaths_below tab shard ++ record { shard = shard; event = Dead tab } ∷ []

-- The works of an event: one in its shard for a message, one in each shard for a death.
abbrev pub works_of : ℕ → BookEvent → List Work
works_of shards (Take message) = record { shard = shard_of shards message.partition; event = Take message } ∷ []
works_of shards (Dead tab) = deaths_below tab shards

-- The opening state of a shard's broker: started with the shard's part of the start list.
abbrev pub opening_of : Run → ℕ → BrokerState
opening_of run shard = started run.generation (listed_of (is_of run.shards shard) run.listed)

-- The hellos of a shard.
abbrev pub hellos_of : Run → ℕ → List Addressed
hellos_of run shard = hellos run.generation (listed_of (is_of run.shards shard) run.listed)

-- The hellos of all shards below `shard`, in ascending order of shards.
abbrev pub hellos_below : Run → ℕ → List Addressed
hellos_below run zero = []
hellos_below run (suc shard) = hellos_below run shard ++ hellos_of run shard

-- A lane's receipts of one shard.
abbrev pub receipts_of : ℕ → List (List Receipt) → List Receipt
receipts_of shard lane = slice_index_or lane shard []

-- The receipts of one shard in each lane.
abbrev pub receipts_in : ℕ → List (List (List Receipt)) → List (List Receipt)
receipts_in shard lanes = map (receipts_of shard) lanes

-- Helper: the lane with one more receipt at the end of a shard.
abbrev pub with_receipt : ℕ → Receipt → List (List Receipt) → List (List Receipt)
with_receipt shard receipt [] = []
with_receipt zero receipt (rs ∷ lane) = (rs ++ receipt ∷ []) ∷ lane
with_receipt (suc shard) receipt (rs ∷ lane) = rs ∷ with_receipt shard receipt lane

-- The lane has one more receipt at the end of its shard, and the same receipts of all other shards.
abbrev pub KeepsIn : ℕ → Receipt → List (List Receipt) → List (List Receipt) → Type 0
KeepsIn shard receipt old new = (s : ℕ) → receipts_of s new ≡ receipts_of s old ++ (if shard == s then receipt ∷ [] else [])

-- Helper: each amount raised by the number of the lane's receipts of that shard.
abbrev pub raised : List ℕ → List (List Receipt) → List ℕ
raised [] lane = []
raised (n ∷ ns) [] = n ∷ ns
raised (n ∷ ns) (rs ∷ lane) = (n + length rs) ∷ raised ns lane

-- A valid history of the shard, made of the lanes' receipts of it.
abbrev pub IsShardHistory : Run → List (List (List Receipt)) → ℕ → List Step → Type 0
IsShardHistory run lanes shard history = IsHistory (opening_of run shard) run.limit (receipts_in shard lanes) history

abbrev pub IsShardFault : Run → List (List (List Receipt)) → ℕ → CloseFault → Type 0
IsShardFault run lanes shard fault = IsFault (opening_of run shard) run.limit run.lanes (receipts_in shard lanes) fault

-- Helper: the collection has room for the histories to come. Without a fault it has one history for
-- each shard so far.
pub record IsRoomy (shard : ℕ) (g : Gathering) : Type 0 where
  pub room : g.shards ≤ vec_capacity g.histories
  pub some : g.fault ≡ None → shard ≤ g.shards → length g.histories.items ≡ shard
  pub all : g.fault ≡ None → g.shards ≤ shard → length g.histories.items ≡ g.shards

-- The collected result: the histories of the first shards, or the lowest shard with a fault. Every
-- lower shard has a valid history.
abbrev pub IsGatheredAs : Run → List (List (List Receipt)) → List (List Step) → Option (ℕ × CloseFault) → Type 0
IsGatheredAs run lanes histories None = (shard : ℕ) → shard < length histories → IsShardHistory run lanes shard (slice_index_or histories shard [])
IsGatheredAs run lanes histories (Some e) =
    (e.0 < run.shards) × IsShardFault run lanes e.0 e.1 × ((shard : ℕ) → shard < e.0 → (history : List Step) × IsShardHistory run lanes shard history)

abbrev pub IsGathered : Run → List (List (List Receipt)) → Gathering → Type 0
IsGathered run lanes g = IsGatheredAs run lanes g.histories.items g.fault

-- Helper: the result of comparing a shard's history with the lanes' receipts, and the sum of all
-- shares of its ledger.
pub record IsEnding (run : Run) (lanes : List (List (List Receipt))) (shard : ℕ) (steps : List Step) (compared : Result Bool ℕ) (counted parts amount : ℕ) : Type 0 where
  pub same : IsCompared (opening_of run shard) run.limit (receipts_in shard lanes) steps compared counted
  pub all : parts ≡ length lanes
  pub sum : amount ≡ total (receipts_in shard lanes)
