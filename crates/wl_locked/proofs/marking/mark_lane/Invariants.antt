use Rattle.std.proofs.Common.{◌≡◌, ℕ, List, Bool, length, drop}
use Rattle.wl_locked.specs.Marks.{IsMarked, IsRefused}
use Rattle.wl_locked.proofs.marking.mark_lane.Given as goal

-- A property of the remaining receipts extends to all receipts.
abbrev pub invariant-loop-receipt : goal.invariant-loop-receipt
invariant-loop-receipt l =
    record {
      lengths : length l.marks ≡ length l.steps;
      marked : (out : List Bool) → IsMarked l.steps l.least (drop l.receipt-index l.receipts) l.marks out → IsMarked l.steps 0 l.receipts l.initial.marks out;
      refused : (p : ℕ) → IsRefused l.steps l.least (drop l.receipt-index l.receipts) l.marks p → IsRefused l.steps 0 l.receipts l.initial.marks p;
    }
