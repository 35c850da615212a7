-- Jobs that run the lanes of a sharded broker. Each job's lane keeps the receipts of its steps.
use Rattle.std.specs.Prelude.{◌≡◌, ◌<◌, ℕ, List, length, slice_index_or, Option, None, Some}
use Rattle.wl_locked.specs.declared.work.Work.{Work}
use Rattle.wl_locked.specs.Sharding.{receipts_of}
use Rattle.wl_workers.specs.declared.lane_threads.Job.{Job}
use Rattle.wl_workers.specs.declared.lanes.LaneEnd.{LaneEnd}
use Rattle.wl_workers.specs.Lane.{PutOut, RunsLane}

module _ {J I O : Type 0} (given : I → Option (List (Option Work))) (put_out : O → Option (List PutOut)) where
  -- A job's lane was run: its new receipts follow the old ones, and its end is recorded.
  abbrev pub RunsJob : Job J I O → Job J I O → Type 0
  RunsJob old new =
      (end : LaneEnd) × (new.end ≡ Some end)
      × RunsLane (given old.intake) (given new.intake) None None (λ shard. Some (receipts_of shard old.lane)) (λ shard. Some (receipts_of shard new.lane)) (put_out old.outlet) (put_out new.outlet) end

  -- Every job's lane was run.
  abbrev pub RunsJobs : List (Job J I O) → List (Job J I O) → Type 0
  RunsJobs olds news = (i : ℕ) (d : Job J I O) → i < length olds → RunsJob (slice_index_or olds i d) (slice_index_or news i d)

-- Every job's intake deals its works to `shards` shards.
abbrev pub DealTo : {J I O : Type 0} → (I → ℕ) → ℕ → List (Job J I O) → Type 0
DealTo {J} {I} {O} shards_of shards jobs = (i : ℕ) (d : Job J I O) → i < length jobs → shards_of (slice_index_or jobs i d).intake ≡ shards
