use Rattle.std.proofs.Common.{◌≡◌, ◌≤◌, [], length}
use Rattle.std.specs.List.{AllByRecursion}
use Rattle.std.specs.Vec.{vec_len, vec_capacity}
use Rattle.wl_broker.proofs.spare_buffers.empty_lists.Given as goal

abbrev pub invariant-loop : goal.invariant-loop
invariant-loop l =
    AllByRecursion (λ v. (v.items ≡ []) × (vec_len v ≡ 0) × (l.frames ≤ vec_capacity v)) l.all.items
    × (length l.all.items ≡ l.counter) × (vec_len l.all ≡ l.counter) × (vec_capacity l.all ≡ l.lists)
