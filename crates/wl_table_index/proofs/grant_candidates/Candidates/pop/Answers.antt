use Rattle.std.proofs.Common.{◌≡◌, ◌≤◌, ℕ, Bool, true, false, ◌||◌, List, [], ◌∷◌, arith}
use Rattle.std.specs.Prelude.{map, ◌==◌}
use Rattle.std.specs.Ordering.{nat_cmp, is_lt}
use Rattle.std.specs.BinaryHeap.{IsUpperBound}
use Rattle.std.specs.declared.cmp.Reverse.{Reverse}
use Rattle.std.proofs.lemmas.Bool.Decides.{nat_tests}
use Rattle.std.proofs.lemmas.List.Sorted.{IsPermutation-map}
use Rattle.wl_table_index.specs.Nexts.{is_among}
use Rattle.wl_table_index.proofs.CandidateLemmas.{among-permutation}
use Rattle.wl_table_index.proofs.grant_candidates.Candidates.pop.Goals as goal

least-step : (x y k : ℕ) (b : Bool) → is_lt (nat_cmp y x) ≡ false → (b ≡ true → x ≤ k) → (y == k || b) ≡ true → x ≤ k
least-step x y k b above below e = grind (arith, nat_tests)

none-among : (x k : ℕ) → false ≡ true → x ≤ k
none-among x k e = cc

least-among : (x : Reverse ℕ) (ys : List (Reverse ℕ)) (k : ℕ) → IsUpperBound (λ a b. nat_cmp b.0 a.0) x ys → is_among k (map (λ o. o.0) ys) ≡ true → x.0 ≤ k
least-among x [] k u e = none-among x.0 k e
least-among x (y ∷ ys) k u e =
    least-step x.0 y.0 k (is_among k (map (λ o. o.0) ys)) u.0 (least-among x ys k u.1) e

pub returns-clause-items : goal.returns-clause-items
returns-clause-items c = λ k.
    rw (← c.self.view_is) (among-permutation k _ _ (IsPermutation-map (λ o. o.0) _ _ c.in_ok-order.ensures.permutation))

pub returns-clause-least : goal.returns-clause-least
returns-clause-least c = λ k e. least-among c.in_ok-order.field-0 _ k (c.in_ok-order.ensures.below_top c.self.invariant) e
