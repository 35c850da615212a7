use Rattle.std.proofs.Common.{◌≡◌, ◌≤◌, ◌<◌, ◌+◌, ◌^◌, ◌++◌, length, vec_len, vec_capacity}
use Rattle.wl_draft.specs.Locks.{grants, newly_granted, settle}
use Rattle.wl_table_index.specs.Index.{IsIndexed, IsLean, locks_in}
use Rattle.wl_table_index.specs.Nexts.{AreCandidates}
use Rattle.wl_table_index.proofs.index.Index.settle.Given as goal

abbrev pub invariant-loop-order : goal.invariant-loop-order
invariant-loop-order l = record {
  indexed : IsIndexed l.self;
  small : l.self.next + length l.self.waiting.items < 2 ^ 64;
  room : vec_len l.granted + length l.self.waiting.items ≤ vec_capacity l.granted;
  candidates : AreCandidates l.candidates.items l.self.held.items l.self.waiting.items;
  settled : settle (locks_in l.self.held.items l.self.waiting.items) ≡ settle (locks_in l.initial.self.held.items l.initial.self.waiting.items);
  newly_granted : l.granted.items ++ grants (newly_granted (locks_in l.self.held.items l.self.waiting.items)) ≡ l.initial.granted.items ++ grants (newly_granted (locks_in l.initial.self.held.items l.initial.self.waiting.items));
  lean : IsLean l.initial.self → IsLean l.self;
}

abbrev pub decreases-loop-order : goal.decreases-loop-order
decreases-loop-order l = length l.candidates.items + length l.self.waiting.items + length l.self.waiting.items
