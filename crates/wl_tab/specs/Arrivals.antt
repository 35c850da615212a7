-- Replies to frames that arrive at a tab.
use Rattle.std.specs.Prelude.{ℕ, List, [], ◌∷◌, ◌==◌, Option, Some, if◌then◌else◌}
use Rattle.wl_draft.specs.Tables.{Table}
use Rattle.wl_grammar.specs.declared.frame.Frame.{Frame}
use Rattle.wl_grammar.specs.declared.frame.Frame.TheVariants as frame
use Rattle.wl_grammar.specs.declared.frame.Operation.{Operation}
use Rattle.wl_agent.specs.declared.delivered.Delivered.{Delivered}
use Rattle.wl_agent.specs.declared.delivered.Delivered.TheVariants as told
use Rattle.wl_agent.specs.declared.snapshot.Snapshot.{Snapshot}
use Rattle.wl_agent.specs.declared.status.Status.{Status}
use Rattle.wl_agent.specs.declared.status.Status.TheVariants.{Whole}
use Rattle.wl_agent.specs.SnapshotParts.{no_parts, snapshot_of}
use Rattle.wl_agent.specs.Tab.{TabState, status_of, is_querying, is_asked_probe}
use Rattle.wl_agent.specs.Delivery.{delivery}
use Rattle.wl_world_messages.specs.declared.effect.Effect.{Effect}
use Rattle.wl_world_messages.specs.declared.effect.Effect.TheVariants as said
use Rattle.wl_world_messages.specs.declared.effect.Ended.{Ended}
use Rattle.wl_world_messages.specs.declared.effect.Ended.TheVariants as ended
use Rattle.wl_world_messages.specs.declared.effect.Reason.TheVariants as reason

-- The numbers that entering a generation ends, by rising number. Asked probes get null, and asked queries are lost.
abbrev pub ended_in : List Operation → Table Status → List Ended
ended_in issued [] = []
ended_in issued (row ∷ rows) =
    if is_asked_probe issued row then ended.Null row.0 ∷ ended_in issued rows
    else if is_querying (Some row.1) then ended.Lost row.0 ∷ ended_in issued rows
    else ended_in issued rows

-- The first generation of a tab's life ends no numbers.
abbrev pub ended_by_entering : TabState → List Ended
ended_by_entering a = if a.entered == 0 then [] else ended_in a.issued a.statuses

abbrev pub snapshot_in : Option Status → Snapshot
snapshot_in (Some (Whole snapshot)) = snapshot
snapshot_in s = snapshot_of no_parts

-- The generation of a hello.
abbrev pub generation_in : Frame → ℕ
generation_in (frame.Hello x) = x.generation
generation_in f = 0

-- The index of a snapshot part.
abbrev pub part_in : Frame → ℕ
part_in (frame.Snapshot x) = x.part
part_in f = 0

-- The part count of a snapshot.
abbrev pub parts_in : Frame → ℕ
parts_in (frame.Snapshot x) = x.parts
parts_in f = 0

-- The reply to a frame, from the agent's delivery result. `ends` lists the numbers that entering ended.
-- `whole` gives the reply for a complete query.
abbrev pub said_of_told : Frame → List Ended → (ℕ → Effect) → Delivered → Effect
said_of_told f ends whole (told.Entered reports) = said.Entered (generation_in f) ends
said_of_told f ends whole (told.Granted k) = said.Granted k
said_of_told f ends whole (told.Waiting k) = said.Waiting k
said_of_told f ends whole (told.Null k) = said.Null k
said_of_told f ends whole (told.Lost k) = said.Lost k
said_of_told f ends whole (told.Taken k) = said.Taken k
said_of_told f ends whole (told.Part k) = said.Part (part_in f) (parts_in f)
said_of_told f ends whole (told.Whole k) = whole k
said_of_told f ends whole (told.Dropped u) = said.Dropped (reason.AtTab u)

-- The reply to a frame, from the tab's states before and after it.
abbrev pub told_said : Frame → TabState → TabState → Delivered → Effect
told_said f before after d = said_of_told f (ended_by_entering before) (λ k. said.Whole k (snapshot_in (status_of after k))) d

unfoldable pub arrival : Frame → TabState → Effect
arrival f a = let d = delivery f a in told_said f a d.0 d.1
