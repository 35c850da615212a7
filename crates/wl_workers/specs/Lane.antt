-- A lane: the relation between the works given to it, its desk's answers and the frames it sends.
use Rattle.std.specs.Prelude.{◌≡◌, ◌≢◌, ◌⊎◌, ◌+◌, ◌==◌, ℕ, Bool, true, List, [], ◌∷◌, ◌++◌, length, map, Option, None, Some, Result, Ok, Err, if◌then◌else◌}
use Rattle.std.specs.List.{AllByRecursion, flat_map}
use Rattle.wl_grammar.specs.declared.frame.Addressed.{Addressed}
use Rattle.wl_grammar.specs.declared.frame.Frame.{Frame}
use Rattle.wl_grammar.specs.declared.frame.Frame.TheVariants as frame
use Rattle.wl_locked.specs.declared.work.Work.{Work}
use Rattle.wl_locked.specs.declared.event.Reply.{Reply}
use Rattle.wl_locked.specs.declared.event.Reply.TheVariants.{Outs, Dropped}
use Rattle.wl_locked.specs.declared.receipt.Receipt.{Receipt}
use Rattle.wl_locked.specs.declared.receipt.NotStepped.{NotStepped}
use Rattle.wl_locked.specs.declared.receipt.NotStepped.TheVariants.{GenerationSpent}
use Rattle.wl_workers.specs.declared.lanes.OutletFault.{OutletFault}
use Rattle.wl_workers.specs.declared.lanes.LaneEndCause.{LaneEndCause}
use Rattle.wl_workers.specs.declared.lanes.LaneEndCause.TheVariants as cause
use Rattle.wl_workers.specs.declared.lanes.LaneEnd.{LaneEnd}
use Rattle.wl_workers.specs.declared.lanes.TheConstants.{EVENT_LIMIT}
use Rattle.wl_workers.specs.CallRecords.{RecordGrows}

-- A work with the desk's answer to it.
abbrev pub Answered : Type 0
Answered = Work × Result Receipt NotStepped

-- A frame with the outlet's result for it.
abbrev pub PutOut : Type 0
PutOut = Frame × Result (Unit {0}) OutletFault

abbrev pub as_frames : List Addressed → List Frame
as_frames outs = map (λ out. frame.Addressed out) outs

-- The frames that a reply sends.
abbrev pub frames_of : Reply → List Frame
frames_of (Outs outs) = as_frames outs
frames_of (Dropped reason) = []

-- The frames that an answer sends. An event that made no step sends none.
abbrev pub sent_by : Answered → List Frame
sent_by (event, Ok receipt) = frames_of receipt.reply
sent_by (event, Err e) = []

abbrev pub all_put : List Frame → List PutOut
all_put frames = map (λ f. (f, Ok tt)) frames

-- The receipts that an answer adds to a shard: one if the event made a step in that shard, else
-- none.
abbrev pub receipt_in : ℕ → Answered → List Receipt
receipt_in shard (event, Ok receipt) = if event.shard == shard then receipt ∷ [] else []
receipt_in shard (event, Err e) = []

-- 1 if the event made a step, else 0.
abbrev pub step_of : Answered → ℕ
step_of (event, Ok receipt) = 1
step_of (event, Err e) = 0

abbrev pub steps_of : List Answered → ℕ
steps_of [] = 0
steps_of (a ∷ all) = step_of a + steps_of all

-- The outlet took a prefix of the frames and refused the next one.
pub record PutsUpTo (before after : Option (List PutOut)) (frames : List Frame) (fault : OutletFault) : Type 0 where
  pub front : List Frame
  pub refused : Frame
  pub rest : List Frame
  pub are : frames ≡ front ++ refused ∷ rest
  pub put : RecordGrows before after (all_put front ++ (refused, Err fault) ∷ [])

-- The frames of a step were not all sent, for this cause.
abbrev pub IsUnsent : LaneEndCause → Option (List PutOut) → Option (List PutOut) → Reply → Type 0
IsUnsent cause.Ended before after reply = ⊥
IsUnsent cause.Spent before after reply = ⊥
IsUnsent cause.Shut before after reply = after ≡ before
IsUnsent cause.Outlet before after reply = (fault : OutletFault) × PutsUpTo before after (frames_of reply) fault

abbrev pub IsUnspent : Answered → Type 0
IsUnspent (event, r) = r ≢ Err GenerationSpent

-- The results of the intake after the last event.
abbrev pub last_given : LaneEndCause → List (Option Work)
last_given cause.Ended = None ∷ []
last_given cause.Spent = []
last_given cause.Shut = []
last_given cause.Outlet = []

-- `last` is the last answer, and no answer before it reported a spent generation.
pub record EndsWith (answers front : List Answered) (last : Answered) : Type 0 where
  pub are : answers ≡ front ++ last ∷ []
  pub unspent : AllByRecursion IsUnspent front

-- The frames given to the outlet, by the cause of the lane's end.
abbrev pub EndsBy : LaneEndCause → List Answered → List PutOut → Type 0
-- All frames of all steps were sent, and the intake has ended.
EndsBy cause.Ended answers put = AllByRecursion IsUnspent answers × (put ≡ all_put (flat_map sent_by answers))
-- All frames of all steps were sent, and the last event met a spent generation or the lane reached
-- `EVENT_LIMIT`.
EndsBy cause.Spent answers put =
    (put ≡ all_put (flat_map sent_by answers))
    × (((front : List Answered) × (event : Work) × EndsWith answers front (event, Err GenerationSpent))
    ⊎ (AllByRecursion IsUnspent answers × (length answers ≡ EVENT_LIMIT)))
-- The gate did not let the last step pass.
EndsBy cause.Shut answers put =
    (front : List Answered) × (event : Work) × (receipt : Receipt) × EndsWith answers front (event, Ok receipt) × (put ≡ all_put (flat_map sent_by front))
-- The outlet refused a frame of the last step.
EndsBy cause.Outlet answers put =
    (front : List Answered) × (event : Work) × (receipt : Receipt) × EndsWith answers front (event, Ok receipt)
    × ((fault : OutletFault) × (some : List Frame) × (refused : Frame) × (rest : List Frame) × (frames_of receipt.reply ≡ some ++ refused ∷ rest)
    × (put ≡ all_put (flat_map sent_by front) ++ (all_put some ++ (refused, Err fault) ∷ [])))

-- A run of a lane. The desk took the intake's works in order, each once, and kept their receipts by
-- shard. The frames of the steps were sent in order, up to the named end.
pub record RunsLane (given_before given_after : Option (List (Option Work))) (answered_before answered_after : Option (List Answered)) (kept_before kept_after : ℕ → Option (List Receipt)) (put_before put_after : Option (List PutOut)) (end : LaneEnd) : Type 0 where
  pub answers : List Answered
  pub put : List PutOut
  pub given : RecordGrows given_before given_after (map (λ a. Some a.0) answers ++ last_given end.why)
  pub answered : RecordGrows answered_before answered_after answers
  pub kept : (shard : ℕ) → RecordGrows (kept_before shard) (kept_after shard) (flat_map (receipt_in shard) answers)
  pub put_out : RecordGrows put_before put_after put
  pub steps : end.steps ≡ steps_of answers
  pub ends : EndsBy end.why answers put

-- A lane that its gate never lets pass makes no step, or ends with its first one.
abbrev pub IsLet : Bool → LaneEnd → Type 0
IsLet lets end = (lets ≡ true) ⊎ (end.steps ≡ 0) ⊎ ((end.steps ≡ 1) × (end.why ≡ cause.Shut))

-- Helper: the state of a lane that goes on.
pub record GoesOn (given_before given_now : Option (List (Option Work))) (answered_before answered_now : Option (List Answered)) (kept_before kept_now : ℕ → Option (List Receipt)) (put_before put_now : Option (List PutOut)) (seen steps : ℕ) : Type 0 where
  pub answers : List Answered
  pub unspent : AllByRecursion IsUnspent answers
  pub given : RecordGrows given_before given_now (map (λ a. Some a.0) answers)
  pub answered : RecordGrows answered_before answered_now answers
  pub kept : (shard : ℕ) → RecordGrows (kept_before shard) (kept_now shard) (flat_map (receipt_in shard) answers)
  pub put_out : RecordGrows put_before put_now (all_put (flat_map sent_by answers))
  pub counts : steps ≡ steps_of answers
  pub length_is : length answers ≡ seen
