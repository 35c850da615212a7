use Rattle.std.proofs.Common.{◌≡◌, ◌≤◌, ◌+◌, ◌++◌, [], true, length}
use Rattle.std.specs.Prelude.{◌==◌, ◌||◌}
use Rattle.std.specs.Vec.Iter.{into_iter_items}
use Rattle.wl_draft.specs.Locks.{is_named}
use Rattle.wl_table_index.specs.OrderNumbers.{values_in}
use Rattle.wl_table_index.specs.Index.{IsIndexed, IsLeanBut, HasRoom, are_of}
use Rattle.wl_table_index.specs.Nexts.{AreCandidates}
use Rattle.wl_table_index.proofs.index.Index.put_all.Given as goal

abbrev pub invariant-loop-row : goal.invariant-loop-row
invariant-loop-row l = record {
  indexed : IsIndexed l.self;
  room : HasRoom l.self l.client (into_iter_items l.row-iterator) l.waiting.items;
  mine : are_of l.client (into_iter_items l.row-iterator) ≡ true;
  next : l.self.next + length (into_iter_items l.row-iterator) ≡ l.initial.self.next + length l.fn.held.items;
  held : values_in l.self.held.items ++ into_iter_items l.row-iterator ≡ values_in l.initial.self.held.items ++ l.fn.held.items;
  kept : l.self.waiting.items ≡ l.initial.self.waiting.items;
  candidates : AreCandidates l.candidates.items l.self.held.items l.self.waiting.items;
  lean : IsLeanBut l.initial.self (λ n. is_named n l.fn.held.items || is_named n l.fn.waiting.items) (λ c. l.client == c) → IsLeanBut l.self (λ n. is_named n (into_iter_items l.row-iterator) || is_named n l.waiting.items) (λ c. l.client == c);
}

abbrev pub invariant-loop-row-2 : goal.invariant-loop-row-2
invariant-loop-row-2 l = record {
  indexed : IsIndexed l.self;
  room : HasRoom l.self l.client [] (into_iter_items l.row-iterator);
  mine : are_of l.client (into_iter_items l.row-iterator) ≡ true;
  next : l.self.next + length (into_iter_items l.row-iterator) ≡ l.initial.self.next + length l.fn.waiting.items;
  candidates_room : length (into_iter_items l.row-iterator) ≤ l.candidates.room;
  waiting : values_in l.self.waiting.items ++ into_iter_items l.row-iterator ≡ values_in l.initial.self.waiting.items ++ l.fn.waiting.items;
  kept : l.self.held.items ≡ l.initial.self.held.items;
  candidates : AreCandidates l.candidates.items l.self.held.items l.self.waiting.items;
  lean : IsLeanBut l.initial.self (λ n. is_named n l.fn.waiting.items) (λ c. l.client == c) → IsLeanBut l.self (λ n. is_named n (into_iter_items l.row-iterator)) (λ c. l.client == c);
}
