use Rattle.std.proofs.Common.{◌≡◌, ◌∙◌, ◌++◌, ◌∷◌, [], subst, List, ℕ, sym, ap, append_assoc, append-nil}
use Rattle.std.specs.Prelude.{IsPermutation}
use Rattle.std.specs.Map.{keys_of}
use Rattle.std.proofs.lemmas.List.Sorted.{IsNonDecreasingBy-from_sort}
use Rattle.slab.specs.Slab.{entries}
use Rattle.wl_table_index.specs.Slots.{rows_in}
use Rattle.wl_table_index.proofs.OrderLemmas.{rising-ordered}
use Rattle.wl_table_index.proofs.SlotLemmas.{distinct-slab}
use Rattle.wl_table_index.proofs.SortLemmas.{sorted-orders}
use Rattle.wl_table_index.proofs.rows.Rows.orders.Goals as goal

pub loop-stored-preserved : goal.loop-stored-preserved
loop-stored-preserved c =
    let l = c.loop-stored in
    let rest = c.next.new.self in
    ap (λ xs. xs ++ keys_of (rows_in rest)) c.in_ok-push.ensures.items ∙ append_assoc l.orders.items (c.in-Some.stored.now.order ∷ []) (keys_of (rows_in rest)) ∙ ap (λ es. l.orders.items ++ keys_of (rows_in es)) (sym c.in-Some.ensures.steps) ∙ l.invariant

pub returns-clause-rising : goal.returns-clause-rising
returns-clause-rising c = rw (← c.self.view_is) (rising-ordered (rows_in (entries c.self.inside.rows)))

pub returns-clause-orders : goal.returns-clause-orders
returns-clause-orders c =
    let l = c.loop-stored in
    let es = rows_in (entries c.self.inside.rows) in
    let all : l.orders.items ≡ keys_of es = sym (append-nil l.orders.items) ∙ ap (λ rest. l.orders.items ++ keys_of (rows_in rest)) (sym c.in-None.ensures.steps.0) ∙ l.invariant ∙ ap (λ rest. keys_of (rows_in rest)) (c.into_iter-stored-iterator.ensures.into_iter_gives ∙ c.iter-stored-items.ensures.rest) in
    let P : List ℕ → Type 0 = λ ks. IsPermutation ks c.sort_unstable.new.self.items in
    rw (← c.self.view_is) (sorted-orders es c.sort_unstable.new.self.items (distinct-slab c.self.inside.rows c.self.invariant) (subst P all c.sort_unstable.ensures.permutation) (IsNonDecreasingBy-from_sort (λ x. x) c.sort_unstable.new.self.items c.sort_unstable.ensures.sorted))
