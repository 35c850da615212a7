use Rattle.std.proofs.Common.{◌≡◌, ◌≤◌, ◌+◌, length, true}
use Rattle.std.specs.Prelude.{false, ◌==◌}
use Rattle.wl_table_index.specs.Clients.{count_at}
use Rattle.wl_table_index.specs.Index.{IsIndexed, IsLeanBut}
use Rattle.wl_table_index.specs.Nexts.{left_by, AreCandidates}
use Rattle.wl_table_index.proofs.index.Index.remove_all.Given as goal

abbrev pub invariant-loop-place : goal.invariant-loop-place
invariant-loop-place l = record {
  indexed : IsIndexed l.self;
  room : count_at l.self.clients l.client ≤ l.candidates.room;
  candidates : AreCandidates l.candidates.items l.self.held.items l.self.waiting.items;
  held : left_by l.client l.removal true l.self.held.items ≡ left_by l.client l.removal true l.initial.self.held.items;
  waiting : left_by l.client l.removal false l.self.waiting.items ≡ left_by l.client l.removal false l.initial.self.waiting.items;
  next : l.self.next ≡ l.initial.self.next;
  fewer : length l.self.waiting.items ≤ length l.initial.self.waiting.items;
  lean : IsLeanBut l.initial.self (λ n. false) (λ c. l.client == c) → IsLeanBut l.self (λ n. false) (λ c. l.client == c);
}

abbrev pub decreases-loop-place : goal.decreases-loop-place
decreases-loop-place l = length l.self.held.items + length l.self.waiting.items
