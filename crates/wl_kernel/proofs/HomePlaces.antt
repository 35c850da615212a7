-- Indexes of the partitions' homes, after a home is written and after one is added.
use Rattle.std.proofs.Common.{◌≡◌, ◌≢◌, ℕ, zero, suc, ◌+◌, ◌<◌, Bool, true, false, cond, eqb, List, [], ◌∷◌, ◌++◌, length, set, slice_get, Option, Some, None, option_map, refl, sym, ap, ◌∙◌, subst, arith}
use Rattle.std.proofs.lemmas.Bool.Decides.{nat_tests}
use Rattle.std.specs.declared.cmp.Ordering.{Ordering}
use Rattle.std.specs.declared.cmp.Ordering.TheVariants.{Less, Equal, Greater}
use Rattle.std.specs.Ordering.{is_eq, match_ordering}
use Rattle.std.specs.List.{AllByRecursion}
use Rattle.std.specs.BTreeMap.{insert_entry, is_at}
use Rattle.wl_origin.specs.Order.{Pair, pair_eq, pair_cmp}
use Rattle.wl_origin.specs.Ties.{pairs_tied}
use Rattle.wl_origin.proofs.OrderLemmas.{pair_eq-decides}
use Rattle.wl_kernel.specs.Kernel.{insert_sorted}
use Rattle.wl_kernel.specs.TableIndexes.{HomeTable, home_place, home_at, home_of, partition_in, partition_at, AreHomePlaces, HasOneMore, SetsHome, joined, left}

-- Equal partitions

pub same_key : (p q : Pair) → is_eq (pair_cmp p q) ≡ pair_eq p q
same_key p q = sym (pairs_tied.ties p q)

pub one_partition : (p q : Pair) → pair_eq p q ≡ true → p ≡ q
one_partition p q e = (pair_eq-decides p q).0 e

pub same_partition : (p : Pair) → pair_eq p p ≡ true
same_partition p = (pair_eq-decides p p).1 refl

apart : (p q : Pair) → pair_eq p q ≡ false → p ≢ q
apart p q other same = let e : pair_eq p q ≡ true = (pair_eq-decides p q).1 same in cc

-- The entries

abbrev AreBelow : ℕ → List (Pair × ℕ) → Type 0
AreBelow n es = AllByRecursion (λ e. e.1 < n) es

within_by : (b : Bool) (m n i : ℕ) (rest : Option ℕ) → m < n → (rest ≡ Some i → i < n) → cond b (Some m) rest ≡ Some i → i < n
within_by true m n i rest lt below at = let e : m ≡ i = cc in subst (λ j. j < n) e lt
within_by false m n i rest lt below at = below at

pub place_within : (p : Pair) (n : ℕ) (es : List (Pair × ℕ)) (i : ℕ) → AreBelow n es → home_place es p ≡ Some i → i < n
place_within p n [] i all at = cc
place_within p n (e ∷ es) i all at = within_by (is_at (pair_cmp p) e.0) e.1 n i (home_place es p) all.0 (place_within p n es i all.1) at

one_more : (m n : ℕ) → m < n → m < n + 1
one_more m n lt = omega arith

below_more : (n : ℕ) (es : List (Pair × ℕ)) → AreBelow n es → AreBelow (n + 1) es
below_more n [] all = tt
below_more n (e ∷ es) all = (one_more e.1 n all.0, below_more n es all.1)

last_below : (n : ℕ) → n < n + 1
last_below n = omega arith

below-insert_by : (o : Ordering) (p : Pair) (n : ℕ) (e : Pair × ℕ) (es rest : List (Pair × ℕ)) → AreBelow n (e ∷ es) → AreBelow (n + 1) rest
    → AreBelow (n + 1) (match_ordering o ((p, n) ∷ e ∷ es) ((e.0, n) ∷ es) (e ∷ rest))
below-insert_by Less p n e es rest all more = (last_below n, below_more n (e ∷ es) all)
below-insert_by Equal p n e es rest all more = (last_below n, below_more n es all.1)
below-insert_by Greater p n e es rest all more = (one_more e.1 n all.0, more)

below-insert : (p : Pair) (n : ℕ) (es : List (Pair × ℕ)) → AreBelow n es → AreBelow (n + 1) (insert_entry pair_cmp es p n)
below-insert p n [] all = (last_below n, tt)
below-insert p n (e ∷ es) all = below-insert_by (pair_cmp p e.0) p n e es (insert_entry pair_cmp es p n) all (below-insert p n es all.1)

partition_in-insert_later : (p : Pair) (n i : ℕ) (e : Pair × ℕ) (es rest : List (Pair × ℕ)) → e.1 < n → partition_in rest i ≡ cond (eqb n i) p (partition_in es i)
    → partition_in (e ∷ rest) i ≡ cond (eqb n i) p (partition_in (e ∷ es) i)
partition_in-insert_later p n i e es rest lt below = grind (arith, nat_tests)

partition_in-insert_by : (o : Ordering) (p : Pair) (n i : ℕ) (e : Pair × ℕ) (es rest : List (Pair × ℕ)) (place : Option ℕ) → e.1 < n → cond (is_eq o) (Some e.1) place ≡ None
    → (place ≡ None → partition_in rest i ≡ cond (eqb n i) p (partition_in es i))
    → partition_in (match_ordering o ((p, n) ∷ e ∷ es) ((e.0, n) ∷ es) (e ∷ rest)) i ≡ cond (eqb n i) p (partition_in (e ∷ es) i)
partition_in-insert_by Less p n i e es rest place lt new below = refl
partition_in-insert_by Equal p n i e es rest place lt new below = cc
partition_in-insert_by Greater p n i e es rest place lt new below = partition_in-insert_later p n i e es rest lt (below new)

-- The home of a new partition is appended to all others.
pub partition_in-insert : (p : Pair) (n : ℕ) (es : List (Pair × ℕ)) (i : ℕ) → AreBelow n es → home_place es p ≡ None
    → partition_in (insert_entry pair_cmp es p n) i ≡ cond (eqb n i) p (partition_in es i)
partition_in-insert p n [] i all new = refl
partition_in-insert p n (e ∷ es) i all new =
    partition_in-insert_by (pair_cmp p e.0) p n i e es (insert_entry pair_cmp es p n) (home_place es p) all.0 new (partition_in-insert p n es i all.1)

-- One more home

placed_anew : (p : Pair) (n : ℕ) (es more : List (Pair × ℕ)) → HasOneMore p n es more → (q : Pair) → home_place more q ≡ cond (pair_eq p q) (Some n) (home_place es q)
placed_anew p n es more m q = m.places q ∙ ap (λ b. cond b (Some n) (home_place es q)) (same_key p q)

named_anew : (p : Pair) (n : ℕ) (es more : List (Pair × ℕ)) → AreBelow n es → HasOneMore p n es more → (i : ℕ) → partition_in more i ≡ cond (eqb n i) p (partition_in es i)
named_anew p n es more all m i = ap (λ xs. partition_in xs i) m.entries ∙ partition_in-insert p n es i all m.new

is_last : (n i : ℕ) → n ≡ i → eqb n i ≡ true
is_last n i e = grind (arith, nat_tests)

is_earlier : (n i : ℕ) → i < n → eqb n i ≡ false
is_earlier n i lt = grind (arith, nat_tests)

from_last : (n i : ℕ) → eqb n i ≡ true → n ≡ i
from_last n i e = grind (arith, nat_tests)

not_last : (n i : ℕ) → i < n + 1 → eqb n i ≡ false → i < n
not_last n i lt e = grind (arith, nat_tests)

own_by : (p q : Pair) (n i : ℕ) (es more : List (Pair × ℕ)) → AreHomePlaces es n → HasOneMore p n es more → (b : Bool) → pair_eq p q ≡ b
    → cond b (Some n) (home_place es q) ≡ Some i → partition_in more i ≡ q
own_by p q n i es more places m true e at =
    let last : n ≡ i = cc in
    named_anew p n es more places.below m i ∙ ap (λ b. cond b p (partition_in es i)) (is_last n i last) ∙ one_partition p q e
own_by p q n i es more places m false e at =
    named_anew p n es more places.below m i ∙ ap (λ b. cond b p (partition_in es i)) (is_earlier n i (place_within q n es i places.below at)) ∙ places.own q i at

earlier_by : (p q : Pair) (n i : ℕ) (es : List (Pair × ℕ)) → home_place es p ≡ None → home_place es q ≡ Some i → (b : Bool) → pair_eq p q ≡ b → cond b (Some n) (home_place es q) ≡ Some i
earlier_by p q n i es new at true e = let same = one_partition p q e in cc
earlier_by p q n i es new at false e = at

there_by : (p : Pair) (n i : ℕ) (es more : List (Pair × ℕ)) → AreHomePlaces es n → HasOneMore p n es more → i < n + 1 → (b : Bool) → eqb n i ≡ b
    → home_place more (cond b p (partition_in es i)) ≡ Some i
there_by p n i es more places m lt true e =
    placed_anew p n es more m p ∙ ap (λ b. cond b (Some n) (home_place es p)) (same_partition p) ∙ ap Some (from_last n i e)
there_by p n i es more places m lt false e =
    let q = partition_in es i in
    placed_anew p n es more m q ∙ earlier_by p q n i es m.new (places.there i (not_last n i lt e)) (pair_eq p q) refl

pub places-push : (p : Pair) (n : ℕ) (es more : List (Pair × ℕ)) → AreHomePlaces es n → HasOneMore p n es more → AreHomePlaces more (n + 1)
places-push p n es more places m = record {
  below = subst (AreBelow (n + 1)) (sym m.entries) (below-insert p n es places.below);
  own = λ q i at. own_by p q n i es more places m (pair_eq p q) refl (sym (placed_anew p n es more m q) ∙ at);
  there = λ i lt. ap (home_place more) (named_anew p n es more places.below m i) ∙ there_by p n i es more places m lt (eqb n i) refl;
}

pub partition_kept : (p : Pair) (n i : ℕ) (es more : List (Pair × ℕ)) → AreHomePlaces es n → HasOneMore p n es more → i < n → partition_in more i ≡ partition_in es i
partition_kept p n i es more places m lt = named_anew p n es more places.below m i ∙ ap (λ b. cond b p (partition_in es i)) (is_earlier n i lt)

pub partition_last : (p : Pair) (n : ℕ) (es more : List (Pair × ℕ)) → AreHomePlaces es n → HasOneMore p n es more → partition_in more n ≡ p
partition_last p n es more places m = named_anew p n es more places.below m n ∙ ap (λ b. cond b p (partition_in es n)) (is_last n n refl)

slice_get-push_last : {X : Type 0} (xs : List X) (x : X) → slice_get (xs ++ x ∷ []) (length xs) ≡ Some x
slice_get-push_last [] x = refl
slice_get-push_last (y ∷ ys) x = slice_get-push_last ys x

slice_get-push : {X : Type 0} (xs : List X) (x : X) (i : ℕ) → i < length xs → slice_get (xs ++ x ∷ []) i ≡ slice_get xs i
slice_get-push [] x i lt = absurd (omega arith)
slice_get-push (y ∷ ys) x zero lt = refl
slice_get-push (y ∷ ys) x (suc i) lt = slice_get-push ys x i (omega arith)

home_at-push : (homes : List (ℕ × List ℕ)) (w : ℕ × List ℕ) (place : Option ℕ) → ((i : ℕ) → place ≡ Some i → i < length homes) → home_at (homes ++ w ∷ []) place ≡ home_at homes place
home_at-push homes w None within = refl
home_at-push homes w (Some i) within = slice_get-push homes w i (within i refl)

home-push_by : (h : HomeTable) (w : ℕ × List ℕ) (p q : Pair) → AreHomePlaces h.places (length h.homes) → (b : Bool)
    → home_at (h.homes ++ w ∷ []) (cond b (Some (length h.homes)) (home_place h.places q)) ≡ cond b (Some w) (home_of h q)
home-push_by h w p q places true = slice_get-push_last h.homes w
home-push_by h w p q places false = home_at-push h.homes w (home_place h.places q) (λ i at. place_within q (length h.homes) h.places i places.below at)

pub home-push : (h k : HomeTable) (w : ℕ × List ℕ) (p : Pair) → AreHomePlaces h.places (length h.homes) → k.homes ≡ h.homes ++ w ∷ [] → HasOneMore p (length h.homes) h.places k.places
    → SetsHome h k p (Some w)
home-push h k w p places behind m q =
    ap (λ homes. home_at homes (home_place k.places q)) behind
    ∙ ap (home_at (h.homes ++ w ∷ [])) (placed_anew p (length h.homes) h.places k.places m q)
    ∙ home-push_by h w p q places (pair_eq p q)

-- A home is written

slice_get-set_same : {X : Type 0} (xs : List X) (i : ℕ) (x : X) → i < length xs → slice_get (set xs i x) i ≡ Some x
slice_get-set_same [] i x lt = absurd (omega arith)
slice_get-set_same (y ∷ ys) zero x lt = refl
slice_get-set_same (y ∷ ys) (suc i) x lt = slice_get-set_same ys i x (omega arith)

slice_get-set_other : {X : Type 0} (xs : List X) (i j : ℕ) (x : X) → i ≢ j → slice_get (set xs i x) j ≡ slice_get xs j
slice_get-set_other [] i j x other = refl
slice_get-set_other (y ∷ ys) zero zero x other = absurd (other refl)
slice_get-set_other (y ∷ ys) zero (suc j) x other = refl
slice_get-set_other (y ∷ ys) (suc i) zero x other = refl
slice_get-set_other (y ∷ ys) (suc i) (suc j) x other = slice_get-set_other ys i j x (λ e. other (ap suc e))

home_at-set : (homes : List (ℕ × List ℕ)) (i : ℕ) (w : ℕ × List ℕ) (place : Option ℕ) → place ≢ Some i → home_at (set homes i w) place ≡ home_at homes place
home_at-set homes i w None other = refl
home_at-set homes i w (Some j) other = slice_get-set_other homes i j w (λ e. other (ap Some (sym e)))

home-set_by : (h : HomeTable) (i : ℕ) (w : ℕ × List ℕ) (q : Pair) → AreHomePlaces h.places (length h.homes) → i < length h.homes → (b : Bool) → pair_eq (partition_at h i) q ≡ b
    → home_at (set h.homes i w) (home_place h.places q) ≡ cond b (Some w) (home_of h q)
home-set_by h i w q places lt true e =
    ap (λ r. home_at (set h.homes i w) (home_place h.places r)) (sym (one_partition (partition_at h i) q e))
    ∙ ap (home_at (set h.homes i w)) (places.there i lt) ∙ slice_get-set_same h.homes i w lt
home-set_by h i w q places lt false e =
    home_at-set h.homes i w (home_place h.places q) (λ at. apart (partition_at h i) q e (places.own q i at))

pub home-set : (h : HomeTable) (i : ℕ) (w : ℕ × List ℕ) → AreHomePlaces h.places (length h.homes) → i < length h.homes
    → SetsHome h (record h { homes = set h.homes i w }) (partition_at h i) (Some w)
home-set h i w places lt q = home-set_by h i w q places lt (pair_eq (partition_at h i) q) refl

-- A tab joins a partition that has a home.
pub home-join : (h : HomeTable) (p : Pair) (t i : ℕ) (x w : ℕ × List ℕ) → AreHomePlaces h.places (length h.homes) → home_place h.places p ≡ Some i → slice_get h.homes i ≡ Some x
    → w ≡ (x.0, insert_sorted t x.1) → SetsHome h (record h { homes = set h.homes i w }) p (Some (joined t (home_of h p)))
home-join h p t i x w places at there more =
    let lt = place_within p (length h.homes) h.places i places.below at in
    let now : w ≡ joined t (home_of h p) = more ∙ ap (joined t) (sym (ap (home_at h.homes) at ∙ there)) in
    subst (λ (v : ℕ × List ℕ). SetsHome h (record h { homes = set h.homes i w }) p (Some v)) now
    (subst (λ (q : Pair). SetsHome h (record h { homes = set h.homes i w }) q (Some w)) (places.own p i at) (home-set h i w places lt))

-- A tab joins a partition that has no home.
pub home-found : (h k : HomeTable) (p : Pair) (t : ℕ) → AreHomePlaces h.places (length h.homes) → k.homes ≡ h.homes ++ (t, t ∷ []) ∷ []
    → HasOneMore p (length h.homes) h.places k.places → SetsHome h k p (Some (joined t (home_of h p)))
home-found h k p t places behind m =
    subst (λ o. SetsHome h k p (Some (joined t (home_at h.homes o)))) (sym m.new) (home-push h k (t, t ∷ []) p places behind m)

-- A tab leaves its partition.
pub home-leave : (h : HomeTable) (t i : ℕ) (x w : ℕ × List ℕ) → AreHomePlaces h.places (length h.homes) → i < length h.homes → slice_get h.homes i ≡ Some x → w ≡ left t x
    → SetsHome h (record h { homes = set h.homes i w }) (partition_at h i) (option_map (left t) (home_of h (partition_at h i)))
home-leave h t i x w places lt there less =
    let now : Some w ≡ option_map (left t) (home_of h (partition_at h i)) =
    ap Some less ∙ ap (option_map (left t)) (sym (ap (home_at h.homes) (places.there i lt) ∙ there)) in
    subst (SetsHome h (record h { homes = set h.homes i w }) (partition_at h i)) now (home-set h i w places lt)

-- A home that was written is found.
pub home-set_at : (h k : HomeTable) (p : Pair) (w : ℕ × List ℕ) → SetsHome h k p (Some w) → home_of k p ≡ Some w
home-set_at h k p w written = written p ∙ ap (λ b. cond b (Some w) (home_of h p)) (same_partition p)
