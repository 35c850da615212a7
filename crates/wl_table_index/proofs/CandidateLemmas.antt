-- Candidates for granting: each grantable request stays among them.
use Rattle.std.proofs.Common.{append_assoc, ◌≡◌, ℕ, ◌+◌, ◌<◌, ◌≤◌, Bool, true, false, ◌&&◌, ◌||◌, not, cond, List, [], ◌∷◌, ◌++◌, Option, Some, None, refl, sym, ap, ◌∙◌, arith}
use Rattle.std.specs.Prelude.{◌==◌, bytes_eq, count_by, IsPermutation}
use Rattle.std.specs.List.{list_any}
use Rattle.std.specs.Option.{option_map_or}
use Rattle.std.proofs.lemmas.Bool.Decides.{nat_tests}
use Rattle.std.proofs.lemmas.List.Folds.{list_all-append}
use Rattle.std.proofs.lemmas.List.Sorted.{sum_by-IsPermutation}
use Rattle.wl_draft.specs.declared.mode.Mode.{Mode}
use Rattle.wl_draft.specs.declared.row.Row.{Row}
use Rattle.wl_draft.specs.Tables.{Table, find}
use Rattle.wl_draft.specs.Locks.{is_free, is_grantable, is_pair, grantable_behind}
use Rattle.wl_table_index.specs.OrderNumbers.{values_in, is_rising, without_order}
use Rattle.wl_table_index.specs.Nexts.{first_named, first_pair, if_free, next_in, is_number, is_next, is_among, AreCandidates, AreOthers}
use Rattle.wl_table_index.proofs.Stuck.{AreStuck}
use Rattle.wl_table_index.proofs.WithoutLemmas.{count-one}
use Rattle.wl_table_index.proofs.NextLemmas.{IsGrant, next-split, next-row, next-at, stuck-nexts, stuck-rows, grantable-next, append-cons, rising-apart, find-split, not-true, next-stuck_step, text-same, text-self}
use Rattle.wl_table_index.proofs.RemovalLemmas.{if-without, first-without}

-- Numbers in another order

any-count_step : {X : Type 0} (t : X → Bool) (x : X) (xs : List X) → list_any t xs ≡ not (count_by t xs == 0) → count_by t (x ∷ xs) ≡ cond (t x) 1 0 + count_by t xs → list_any t (x ∷ xs) ≡ not (count_by t (x ∷ xs) == 0)
any-count_step t x xs below one = grind (arith, nat_tests)

any-count : {X : Type 0} (t : X → Bool) (xs : List X) → list_any t xs ≡ not (count_by t xs == 0)
any-count t [] = refl
any-count t (x ∷ xs) = any-count_step t x xs (any-count t xs) (count-one t x xs)

pub among-permutation : (k : ℕ) (xs ys : List ℕ) → IsPermutation xs ys → is_among k xs ≡ is_among k ys
among-permutation k xs ys p =
    any-count (λ j. j == k) xs ∙ ap (λ n. not (n == 0)) (sym (sum_by-IsPermutation (λ j. cond (j == k) 1 0) xs ys p)) ∙ sym (any-count (λ j. j == k) ys)

-- Adding a number

pub pushed-here : (order k : ℕ) (b : Bool) → order ≡ k → (order == k || b) ≡ true
pushed-here order k b e = grind (arith, nat_tests)

pub pushed-kept : (order k : ℕ) (b : Bool) → b ≡ true → (order == k || b) ≡ true
pushed-kept order k b e = grind (arith, nat_tests)

-- Least candidate

false-true : false ≡ true → ⊥
false-true e = cc

-- If there is no candidate, no waiting request is grantable.
pub no-candidates : (held waiting : Table Row) → AreCandidates [] held waiting → AreStuck (values_in held) [] (values_in waiting)
no-candidates held waiting all =
    stuck-nexts held waiting (λ name. next-stuck_step held waiting (next_in name held waiting) (λ k e. false-true (all name k e)))

number-is : (o : Option ℕ) (k : ℕ) → is_number o k ≡ true → o ≡ Some k
number-is None k e = cc
number-is (Some j) k e =
    let same : j ≡ k = grind (arith, nat_tests) in
    ap (λ (i : ℕ). Some i) same

-- The number belongs to a grantable request.
record IsFound (held waiting : Table Row) (order : ℕ) : Type 0 where
  row : Row
  next : is_number (next_in row.name held waiting) order ≡ true

found-step : (held waiting : Table Row) (order : ℕ) (o : Option Row) → option_map_or (λ (r : Row). is_number (next_in r.name held waiting) order) o false ≡ true → IsFound held waiting order
found-step held waiting order None e = absurd (false-true e)
found-step held waiting order (Some r) e = record { row = r; next = e }

too-late : (order k : ℕ) → order ≤ k → k < order → ⊥
too-late order k l m = omega (arith, l, m)

-- If the least candidate is grantable, it is the first grantable request.
pub next-grant : (orders : List ℕ) (held waiting : Table Row) (order : ℕ) → is_rising waiting ≡ true → AreCandidates orders held waiting → ((k : ℕ) → is_among k orders ≡ true → order ≤ k) → is_next order held waiting ≡ true → IsGrant held waiting order
next-grant orders held waiting order rise all least e =
    let i = found-step held waiting order (find waiting order) e in
    let n = next-split i.row.name held waiting order (number-is (next_in i.row.name held waiting) order i.next) in
    record {
      front = n.front;
      back = n.back;
      row = n.row;
      split = n.split;
      stuck = stuck-rows held [] n.front (λ f b p s. not-true (is_grantable (values_in held) (values_in f) p.1) (λ g.
          let whole : waiting ≡ f ++ p ∷ (b ++ (order, n.row) ∷ n.back) = n.split ∙ ap (λ x. x ++ (order, n.row) ∷ n.back) s ∙ append-cons f b ((order, n.row) ∷ n.back) p in
          let rise' : is_rising (f ++ p ∷ (b ++ (order, n.row) ∷ n.back)) ≡ true = ap is_rising (sym whole) ∙ rise in
          let next : next_in p.1.name held waiting ≡ Some p.0 = ap (λ w. next_in p.1.name held w) whole ∙ grantable-next held f (b ++ (order, n.row) ∷ n.back) p g in
          too-late order p.0 (least p.0 (all p.1.name p.0 next)) (rising-apart p (order, n.row) f b n.back rise')));
      free = n.free;
    }

-- Removing a candidate

popped-step : (o k : ℕ) (b : Bool) → (o == k || b) ≡ true → (o == k) ≡ false → b ≡ true
popped-step o k b e f = grind (arith, nat_tests)

pub others-popped : (orders rest : List ℕ) (held waiting : Table Row) (order : ℕ) → AreCandidates orders held waiting → ((k : ℕ) → is_among k orders ≡ (order == k || is_among k rest)) → AreOthers order rest held waiting
others-popped orders rest held waiting order all popped =
    λ name k e f. popped-step order k (is_among k rest) (sym (popped k) ∙ all name k e) f

least-step : (o k : ℕ) (b : Bool) → (b ≡ true → o ≤ k) → (o == k || b) ≡ true → o ≤ k
least-step o k true below e = below refl
least-step o k false below e = grind (arith, nat_tests)

pub least-popped : (orders rest : List ℕ) (order : ℕ) → ((k : ℕ) → is_among k orders ≡ (order == k || is_among k rest)) → ((k : ℕ) → is_among k rest ≡ true → order ≤ k) → (k : ℕ) → is_among k orders ≡ true → order ≤ k
least-popped orders rest order popped least k e =
    least-step order k (is_among k rest) (least k) (sym (popped k) ∙ e)

same-number : (j k : ℕ) → (j == k) ≡ true → j ≡ k
same-number j k e = grind (arith, nat_tests)

self-number : (k : ℕ) → is_number (Some k) k ≡ true
self-number k = grind (arith, nat_tests)

-- The next request of a name is grantable.
next-is : (name : List ℕ) (held waiting : Table Row) (k : ℕ) → is_rising waiting ≡ true → next_in name held waiting ≡ Some k → is_next k held waiting ≡ true
next-is name held waiting k rise e =
    let i = next-row name held waiting k rise e in
    ap (λ o. option_map_or (λ (r : Row). is_number (next_in r.name held waiting) k) o false) i.found ∙ ap (λ n. is_number (next_in n held waiting) k) i.named ∙ ap (λ o. is_number o k) e ∙ self-number k

true-false : (b : Bool) → b ≡ true → b ≡ false → ⊥
true-false b e f = cc

passed-step : (orders : List ℕ) (held waiting : Table Row) (order : ℕ) (name : List ℕ) (k : ℕ) (b : Bool) → (order == k) ≡ b → is_rising waiting ≡ true → is_next order held waiting ≡ false → next_in name held waiting ≡ Some k → ((order == k) ≡ false → is_among k orders ≡ true) → is_among k orders ≡ true
passed-step orders held waiting order name k true s rise not e others =
    let n : is_next order held waiting ≡ true = ap (λ j. is_next j held waiting) (same-number order k s) ∙ next-is name held waiting k rise e in
    absurd (true-false (is_next order held waiting) n not)
passed-step orders held waiting order name k false s rise not e others = others s

-- Removing a candidate that is not grantable keeps all grantable requests among the candidates.
pub candidates-passed : (orders : List ℕ) (held waiting : Table Row) (order : ℕ) → is_rising waiting ≡ true → is_next order held waiting ≡ false → AreOthers order orders held waiting → AreCandidates orders held waiting
candidates-passed orders held waiting order rise not others =
    λ name k e. passed-step orders held waiting order name k (order == k) refl rise not e (others name k e)

-- Removing a row, and adding the front request of its name

not-named : (r row : Row) (name : List ℕ) → r ≡ row → row.name ≡ name → bytes_eq r.name name ≡ false → ⊥
not-named r row name s n e =
    let same : r.name ≡ name = ap (λ (x : Row). x.name) s ∙ n in
    true-false (bytes_eq r.name name) (rw same (text-self name)) e

some-row : (a b : Row) → Some a ≡ Some b → a ≡ b
some-row a b e = cc

taken-other : (orders : List ℕ) (held waiting : Table Row) (order : ℕ) (r : Row) (name : List ℕ) (k : ℕ) (b : Bool) → (order == k) ≡ b → is_rising waiting ≡ true → find waiting order ≡ Some r → bytes_eq r.name name ≡ false → next_in name held waiting ≡ Some k → ((order == k) ≡ false → is_among k orders ≡ true) → is_among k orders ≡ true
taken-other orders held waiting order r name k true s rise f n e others =
    let i = next-row name held waiting k rise e in
    let same : r ≡ i.row = some-row r i.row (sym f ∙ ap (λ j. find waiting j) (same-number order k s) ∙ i.found) in
    absurd (not-named r i.row name same i.named n)
taken-other orders held waiting order r name k false s rise f n e others = others s

taken-step : (orders after : List ℕ) (held waiting : Table Row) (order : ℕ) (r : Row) (name : List ℕ) (k : ℕ) (b : Bool) → bytes_eq r.name name ≡ b → is_rising waiting ≡ true → find waiting order ≡ Some r → AreOthers order orders held waiting → ((j : ℕ) → is_among j orders ≡ true → is_among j after ≡ true) → ((j : ℕ) → next_in r.name held (without_order order waiting) ≡ Some j → is_among j after ≡ true) → next_in name held (without_order order waiting) ≡ Some k → is_among k after ≡ true
taken-step orders after held waiting order r name k true n rise f others kept front e =
    front k (ap (λ x. next_in x held (without_order order waiting)) (text-same r.name name n) ∙ e)
taken-step orders after held waiting order r name k false n rise f others kept front e =
    let before : next_in name held waiting ≡ Some k = ap (λ o. if_free name held o) (sym (first-without name order r waiting n rise f)) ∙ e in
    kept k (taken-other orders held waiting order r name k (order == k) refl rise f n before (others name k before))

pub candidates-taken : (orders after : List ℕ) (held waiting : Table Row) (order : ℕ) (r : Row) → is_rising waiting ≡ true → find waiting order ≡ Some r → AreOthers order orders held waiting → ((j : ℕ) → is_among j orders ≡ true → is_among j after ≡ true) → ((j : ℕ) → next_in r.name held (without_order order waiting) ≡ Some j → is_among j after ≡ true) → AreCandidates after held (without_order order waiting)
candidates-taken orders after held waiting order r rise f others kept front =
    λ name k e. taken-step orders after held waiting order r name k (bytes_eq r.name name) refl rise f others kept front e

let_go-step : (orders after : List ℕ) (held waiting : Table Row) (order : ℕ) (r : Row) (name : List ℕ) (k : ℕ) (b : Bool) → bytes_eq r.name name ≡ b → is_rising held ≡ true → find held order ≡ Some r → AreCandidates orders held waiting → ((j : ℕ) → is_among j orders ≡ true → is_among j after ≡ true) → ((j : ℕ) → next_in r.name (without_order order held) waiting ≡ Some j → is_among j after ≡ true) → next_in name (without_order order held) waiting ≡ Some k → is_among k after ≡ true
let_go-step orders after held waiting order r name k true n rise f all kept front e =
    front k (ap (λ x. next_in x (without_order order held) waiting) (text-same r.name name n) ∙ e)
let_go-step orders after held waiting order r name k false n rise f all kept front e =
    kept k (all name k (sym (if-without name order r held (first_named name waiting) n rise f) ∙ e))

pub candidates-remove_holder : (orders after : List ℕ) (held waiting : Table Row) (order : ℕ) (r : Row) → is_rising held ≡ true → find held order ≡ Some r → AreCandidates orders held waiting → ((j : ℕ) → is_among j orders ≡ true → is_among j after ≡ true) → ((j : ℕ) → next_in r.name (without_order order held) waiting ≡ Some j → is_among j after ≡ true) → AreCandidates after (without_order order held) waiting
candidates-remove_holder orders after held waiting order r rise f all kept front =
    λ name k e. let_go-step orders after held waiting order r name k (bytes_eq r.name name) refl rise f all kept front e

pub others-all : (orders : List ℕ) (held waiting : Table Row) (order : ℕ) → AreCandidates orders held waiting → AreOthers order orders held waiting
others-all orders held waiting order all = λ name k e f. all name k e

-- Appending a row

both-free : (a b : Bool) (x k : ℕ) → cond (a && b) (Some x) None ≡ Some k → cond a (Some x) None ≡ Some k
both-free true true x k e = e
both-free true false x k e = cc
both-free false b x k e = e

free-more : (name : List ℕ) (mode : Mode) (held : Table Row) (order : ℕ) (r : Row) (x k : ℕ) → cond (is_free name mode (values_in (held ++ (order, r) ∷ []))) (Some x) None ≡ Some k → cond (is_free name mode (values_in held)) (Some x) None ≡ Some k
free-more name mode held order r x k e =
    both-free (is_free name mode (values_in held)) (is_free name mode (r ∷ [])) x k (ap (λ (b : Bool). cond b (Some x) None) (sym (ap (λ rs. is_free name mode rs) (values-last held order r) ∙ list_all-append _ (values_in held) (r ∷ []))) ∙ e)
  where
    values-last : (held : Table Row) (order : ℕ) (r : Row) → values_in (held ++ (order, r) ∷ []) ≡ values_in held ++ r ∷ []
    values-last [] order r = refl
    values-last (p ∷ ps) order r = ap (λ xs. p.1 ∷ xs) (values-last ps order r)

held-step : (name : List ℕ) (held : Table Row) (order : ℕ) (r : Row) (k : ℕ) (o : Option (ℕ × Row)) → if_free name (held ++ (order, r) ∷ []) o ≡ Some k → if_free name held o ≡ Some k
held-step name held order r k None e = e
held-step name held order r k (Some p) e = free-more name p.1.mode held order r p.0 k e

-- One more held lock makes no request grantable.
pub candidates-held : (orders : List ℕ) (held waiting : Table Row) (order : ℕ) (r : Row) → AreCandidates orders held waiting → AreCandidates orders (held ++ (order, r) ∷ []) waiting
candidates-held orders held waiting order r all =
    λ name k e. all name k (held-step name held order r k (first_named name waiting) e)

first-last_some : (name : List ℕ) (q : ℕ × Row) (p : ℕ × Row) (ps : Table Row) → (first_named name ps ≡ Some q → first_named name (ps ++ p ∷ []) ≡ Some q) → (f : ℕ × Row) → first_named name (f ∷ ps) ≡ Some q → first_named name ((f ∷ ps) ++ p ∷ []) ≡ Some q
first-last_some name q p ps below f e = grind (arith, nat_tests)

first-some : (name : List ℕ) (q p : ℕ × Row) (ps : Table Row) → first_named name ps ≡ Some q → first_named name (ps ++ p ∷ []) ≡ Some q
first-some name q p [] e = cc
first-some name q p (f ∷ ps) e = first-last_some name q p ps (first-some name q p ps) f e

first-last_none : (name : List ℕ) (p : ℕ × Row) (ps : Table Row) → (first_named name ps ≡ None → first_named name (ps ++ p ∷ []) ≡ first_named name (p ∷ [])) → (f : ℕ × Row) → first_named name (f ∷ ps) ≡ None → first_named name ((f ∷ ps) ++ p ∷ []) ≡ first_named name (p ∷ [])
first-last_none name p ps below f e = grind (arith, nat_tests)

first-none : (name : List ℕ) (p : ℕ × Row) (ps : Table Row) → first_named name ps ≡ None → first_named name (ps ++ p ∷ []) ≡ first_named name (p ∷ [])
first-none name p [] e = refl
first-none name p (f ∷ ps) e = first-last_none name p ps (first-none name p ps) f e

only-number : (b d : Bool) (name : List ℕ) (held : Table Row) (p : ℕ × Row) (k : ℕ) → if_free name held (cond b (Some p) None) ≡ Some k → is_free name p.1.mode (values_in held) ≡ d → p.0 ≡ k
only-number true true name held p k e f = grind (arith, nat_tests)
only-number true false name held p k e f = grind (arith, nat_tests)
only-number false d name held p k e f = cc

queued-step : (orders after : List ℕ) (held waiting : Table Row) (order : ℕ) (r : Row) (name : List ℕ) (k : ℕ) (o : Option (ℕ × Row)) → first_named name waiting ≡ o → AreCandidates orders held waiting → ((j : ℕ) → is_among j orders ≡ true → is_among j after ≡ true) → is_among order after ≡ true → next_in name held (waiting ++ (order, r) ∷ []) ≡ Some k → is_among k after ≡ true
queued-step orders after held waiting order r name k None f all kept here e =
    let only = only-number (bytes_eq r.name name) (is_free name r.mode (values_in held)) name held (order, r) k (ap (λ o. if_free name held o) (sym (first-none name (order, r) waiting f)) ∙ e) refl in
    ap (λ j. is_among j after) (sym only) ∙ here
queued-step orders after held waiting order r name k (Some q) f all kept here e =
    kept k (all name k (ap (λ o. if_free name held o) (f ∙ sym (first-some name q (order, r) waiting f)) ∙ e))

-- One more request becomes a candidate itself.
pub candidates-queued : (orders after : List ℕ) (held waiting : Table Row) (order : ℕ) (r : Row) → AreCandidates orders held waiting → ((j : ℕ) → is_among j orders ≡ true → is_among j after ≡ true) → is_among order after ≡ true → AreCandidates after held (waiting ++ (order, r) ∷ [])
candidates-queued orders after held waiting order r all kept here =
    λ name k e. queued-step orders after held waiting order r name k (first_named name waiting) refl all kept here e

-- A pair is grantable, depending on the place of its first request

place-true : (client number : ℕ) (p : ℕ × Row) (ps : Table Row) → is_pair client number p.1 ≡ true → first_pair client number (p ∷ ps) ≡ Some p.0
place-true client number p ps e = rw e refl

place-false : (client number : ℕ) (p : ℕ × Row) (ps : Table Row) → is_pair client number p.1 ≡ false → first_pair client number (p ∷ ps) ≡ first_pair client number ps
place-false client number p ps e = rw e refl

abbrev next_first : ℕ → ℕ → Table Row → Table Row → Table Row → Bool
next_first client number held waiting rest = option_map_or (λ o. is_next o held waiting) (first_pair client number rest) false

is-next_here : (held front back : Table Row) (p : ℕ × Row) → is_rising (front ++ p ∷ back) ≡ true → is_next p.0 held (front ++ p ∷ back) ≡ is_grantable (values_in held) (values_in front) p.1
is-next_here held front back p rise =
    ap (λ o. option_map_or (λ (r : Row). is_number (next_in r.name held (front ++ p ∷ back)) p.0) o false) (find-split p.0 p.1 front back rise) ∙ sym (next-at held front back p.0 p.1 rise)

grantable-step : (client number : ℕ) (held front : Table Row) (p : ℕ × Row) (ps : Table Row) (b : Bool) → is_pair client number p.1 ≡ b → is_rising (front ++ p ∷ ps) ≡ true → grantable_behind (values_in held) (values_in (front ++ p ∷ [])) client number (values_in ps) ≡ next_first client number held ((front ++ p ∷ []) ++ ps) ps → grantable_behind (values_in held) (values_in front) client number (values_in (p ∷ ps)) ≡ next_first client number held (front ++ p ∷ ps) (p ∷ ps)
grantable-step client number held front p ps true e rise below =
    (rw e refl) ∙ sym (is-next_here held front ps p rise) ∙ ap (λ o. option_map_or (λ k. is_next k held (front ++ p ∷ ps)) o false) (sym (place-true client number p ps e))
grantable-step client number held front p ps false e rise below =
    (rw e (ap (λ rs. grantable_behind (values_in held) rs client number (values_in ps)) (sym (values-last' front p)))) ∙ below ∙ ap (λ w. next_first client number held w ps) (append_assoc front (p ∷ []) ps) ∙ ap (λ o. option_map_or (λ k. is_next k held (front ++ p ∷ ps)) o false) (sym (place-false client number p ps e))
  where
    values-last' : (front : Table Row) (p : ℕ × Row) → values_in (front ++ p ∷ []) ≡ values_in front ++ p.1 ∷ []
    values-last' [] p = refl
    values-last' (f ∷ fs) p = ap (λ xs. f.1 ∷ xs) (values-last' fs p)

pub grantable-first : (client number : ℕ) (held front rest : Table Row) → is_rising (front ++ rest) ≡ true → grantable_behind (values_in held) (values_in front) client number (values_in rest) ≡ option_map_or (λ o. is_next o held (front ++ rest)) (first_pair client number rest) false
grantable-first client number held front [] rise = refl
grantable-first client number held front (p ∷ ps) rise =
    grantable-step client number held front p ps (is_pair client number p.1) refl rise (grantable-first client number held (front ++ p ∷ []) ps (ap is_rising (append_assoc front (p ∷ []) ps) ∙ rise))
