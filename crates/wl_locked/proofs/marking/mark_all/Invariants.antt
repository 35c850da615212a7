use Rattle.std.proofs.Common.{◌≡◌, ℕ, List, Bool, length, map, drop}
use Rattle.wl_locked.specs.Marks.{AreMarked, AreRefused}
use Rattle.wl_locked.proofs.marking.mark_all.Given as goal

-- A property of the remaining lanes extends to all lanes.
abbrev pub invariant-loop-lane : goal.invariant-loop-lane
invariant-loop-lane g l =
    let of = g.L.ShardReceipts.kept l.shard in
    record {
      lengths : length l.marks ≡ length l.steps;
      marked : (out : List Bool) → AreMarked l.steps (map of (drop l.lane-index l.lanes)) l.marks out → AreMarked l.steps (map of l.lanes) l.initial.marks out;
      refused : (p : ℕ) → AreRefused l.steps (map of (drop l.lane-index l.lanes)) l.marks p → AreRefused l.steps (map of l.lanes) l.initial.marks p;
    }
