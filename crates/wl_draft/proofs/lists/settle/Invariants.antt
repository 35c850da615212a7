use Rattle.std.proofs.Common.{◌≡◌, ◌+◌, ◌-◌, ◌≤◌, [], ◌++◌, take, drop, vec_len, vec_capacity}
use Rattle.wl_draft.specs.Locks.{granted, left_waiting, grants}
use Rattle.wl_draft.proofs.lists.settle.Given as goal

abbrev pub invariant-loop-index : goal.invariant-loop-index
invariant-loop-index l = record {
  within : l.index ≤ vec_len l.waiting;
  held_room : vec_len l.held + vec_len l.waiting ≤ vec_capacity l.held;
  newly_room : vec_len l.newly_granted + vec_len l.waiting ≤ vec_capacity l.newly_granted;
  held : l.held.items ++ granted l.held.items (take l.index l.waiting.items) (drop l.index l.waiting.items) ≡ l.initial.held.items ++ granted l.initial.held.items [] l.initial.waiting.items;
  waiting : left_waiting l.held.items (take l.index l.waiting.items) (drop l.index l.waiting.items) ≡ left_waiting l.initial.held.items [] l.initial.waiting.items;
  newly_granted : l.newly_granted.items ++ grants (granted l.held.items (take l.index l.waiting.items) (drop l.index l.waiting.items)) ≡ l.initial.newly_granted.items ++ grants (granted l.initial.held.items [] l.initial.waiting.items);
}

abbrev pub decreases-loop-index : goal.decreases-loop-index
decreases-loop-index l = vec_len l.waiting - l.index
