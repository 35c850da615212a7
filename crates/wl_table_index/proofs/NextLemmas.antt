-- Next request to grant. The index finds it, and it is the first grantable request.
use Rattle.std.proofs.Common.{append_assoc, append-nil, ◌≡◌, ℕ, ◌<◌, Bool, true, false, ◌&&◌, not, cond, List, [], ◌∷◌, ◌++◌, Option, Some, None, refl, sym, ap, ◌∙◌, arith}
use Rattle.std.specs.Prelude.{bytes_eq, filter, slice_get}
use Rattle.std.proofs.lemmas.Bool.Decides.{nat_tests}
use Rattle.std.proofs.lemmas.List.{map-append}
use Rattle.std.proofs.lemmas.Slice.Eq.{bytes_eq-Decides}
use Rattle.wl_draft.specs.declared.row.Row.{Row}
use Rattle.wl_draft.specs.Tables.{Table, find}
use Rattle.wl_draft.specs.Locks.{is_named, is_free, is_grantable, newly_granted, settle}
use Rattle.wl_table_index.specs.OrderNumbers.{values_in, orders_in, is_above, is_rising, without_order}
use Rattle.wl_table_index.specs.NameLines.{lets_in}
use Rattle.wl_table_index.proofs.Stuck.{AreStuck}
use Rattle.wl_table_index.specs.Index.{line_of, locks_in}
use Rattle.wl_table_index.specs.Nexts.{first_named, if_free, next_in, is_number}
use Rattle.wl_table_index.proofs.OrderLemmas.{find-above}
use Rattle.wl_table_index.proofs.SettleLemmas.{newly-first, settle-first}
use Rattle.wl_table_index.proofs.WithoutLemmas.{without-above}
use Rattle.wl_table_index.proofs.IndexLemmas.{free-line}

-- Requests that the index finds

abbrev front_number : Option (ℕ × Row) → Option ℕ
front_number None = None
front_number (Some p) = Some p.0

first-front_step : (name : List ℕ) (p : ℕ × Row) (ps : Table Row) → slice_get (orders_in (filter (λ (q : ℕ × Row). bytes_eq q.1.name name) ps)) 0 ≡ front_number (first_named name ps) → (b : Bool) → bytes_eq p.1.name name ≡ b → slice_get (orders_in (filter (λ (q : ℕ × Row). bytes_eq q.1.name name) (p ∷ ps))) 0 ≡ front_number (first_named name (p ∷ ps))
first-front_step name p ps below true e = rw e refl
first-front_step name p ps below false e = rw e below

first-front : (name : List ℕ) (ps : Table Row) → slice_get (orders_in (filter (λ (q : ℕ × Row). bytes_eq q.1.name name) ps)) 0 ≡ front_number (first_named name ps)
first-front name [] = refl
first-front name (p ∷ ps) = first-front_step name p ps (first-front name ps) (bytes_eq p.1.name name) refl

first-find_step : (name : List ℕ) (p q : ℕ × Row) (ps : Table Row) → (is_rising ps ≡ true → first_named name ps ≡ Some q → find ps q.0 ≡ Some q.1) → (is_above p.0 ps ≡ true → find ps p.0 ≡ None) → is_rising (p ∷ ps) ≡ true → first_named name (p ∷ ps) ≡ Some q → find (p ∷ ps) q.0 ≡ Some q.1
first-find_step name p q ps below above r f = grind (arith, nat_tests)

no_first : (q : ℕ × Row) → None ≡ Some q → ⊥
no_first q e = cc

first-find : (name : List ℕ) (q : ℕ × Row) (ps : Table Row) → is_rising ps ≡ true → first_named name ps ≡ Some q → find ps q.0 ≡ Some q.1
first-find name q [] r f = absurd (no_first q f)
first-find name q (p ∷ ps) r f =
    first-find_step name p q ps (first-find name q ps) (find-above p.0 ps) r f

front-none : (name : List ℕ) (held : Table Row) (o : Option (ℕ × Row)) → None ≡ front_number o → if_free name held o ≡ None
front-none name held None e = refl
front-none name held (Some p) e = cc

pub next-none : (name : List ℕ) (held waiting : Table Row) → None ≡ slice_get (line_of name held waiting).queue 0 → next_in name held waiting ≡ None
next-none name held waiting e =
    front-none name held (first_named name waiting) (e ∙ first-front name waiting)

some-front : (name : List ℕ) (held waiting : Table Row) (order : ℕ) (r : Row) (o : Option (ℕ × Row)) → ((q : ℕ × Row) → o ≡ Some q → find waiting q.0 ≡ Some q.1) → Some order ≡ front_number o → find waiting order ≡ Some r → if_free name held o ≡ cond (is_free name r.mode (values_in held)) (Some order) None
some-front name held waiting order r None found e f = cc
some-front name held waiting order r (Some q) found e f =
    let w = found q refl in
    grind (arith, nat_tests)

pub next-some : (name : List ℕ) (held waiting : Table Row) (order : ℕ) (r : Row) → is_rising waiting ≡ true → Some order ≡ slice_get (line_of name held waiting).queue 0 → find waiting order ≡ Some r → next_in name held waiting ≡ cond (lets_in (line_of name held waiting) r.mode) (Some order) None
next-some name held waiting order r rise e f =
    some-front name held waiting order r (first_named name waiting) (λ q g. first-find name q waiting rise g) (e ∙ first-front name waiting) f ∙ ap (λ b. cond b (Some order) None) (free-line name r.mode held waiting)

absent-front : (waiting : Table Row) (order : ℕ) (o : Option (ℕ × Row)) → ((q : ℕ × Row) → o ≡ Some q → find waiting q.0 ≡ Some q.1) → Some order ≡ front_number o → find waiting order ≡ None → ⊥
absent-front waiting order None found e f = cc
absent-front waiting order (Some q) found e f =
    let w = found q refl in
    grind (arith, nat_tests)

pub next-absent : (name : List ℕ) (held waiting : Table Row) (order : ℕ) → is_rising waiting ≡ true → Some order ≡ slice_get (line_of name held waiting).queue 0 → find waiting order ≡ None → ⊥
next-absent name held waiting order rise e f =
    absent-front waiting order (first_named name waiting) (λ q g. first-find name q waiting rise g) (e ∙ first-front name waiting) f

-- A request is grantable if and only if it is the next of its name

pub text-same : (a b : List ℕ) → bytes_eq a b ≡ true → a ≡ b
text-same a b e = (bytes_eq-Decides a b).0 e

pub text-self : (a : List ℕ) → bytes_eq a a ≡ true
text-self a = (bytes_eq-Decides a a).1 refl

passed-over_step : (name : List ℕ) (p : ℕ × Row) (front back : Table Row) → (is_named name (values_in front) ≡ false → first_named name (front ++ back) ≡ first_named name back) → is_named name (values_in (p ∷ front)) ≡ false → first_named name ((p ∷ front) ++ back) ≡ first_named name back
passed-over_step name p front back below e = grind (arith, nat_tests)

passed-over : (name : List ℕ) (front back : Table Row) → is_named name (values_in front) ≡ false → first_named name (front ++ back) ≡ first_named name back
passed-over name [] back e = refl
passed-over name (p ∷ front) back e = passed-over_step name p front back (passed-over name front back) e

both-parts : (a b : Bool) → (not a && b) ≡ true → (a ≡ false) × (b ≡ true)
both-parts true b e = cc
both-parts false b e = (refl, e)

grantable-parts : (held front : Table Row) (r : Row) → is_grantable (values_in held) (values_in front) r ≡ true → (is_named r.name (values_in front) ≡ false) × (is_free r.name r.mode (values_in held) ≡ true)
unfolding is_grantable
grantable-parts held front r e =
    both-parts (is_named r.name (values_in front)) (is_free r.name r.mode (values_in held)) e

pub grantable-next : (held front back : Table Row) (p : ℕ × Row) → is_grantable (values_in held) (values_in front) p.1 ≡ true → next_in p.1.name held (front ++ p ∷ back) ≡ Some p.0
grantable-next held front back p e =
    let parts = grantable-parts held front p.1 e in
    ap (λ o. if_free p.1.name held o) (passed-over p.1.name front (p ∷ back) parts.0) ∙ (rw (text-self p.1.name, parts.1) refl)

-- The position of the first row with a given name.
pub record IsFirst (name : List ℕ) (ps : Table Row) (q : ℕ × Row) : Type 0 where
  pub front : Table Row
  pub back : Table Row
  pub split : ps ≡ front ++ q ∷ back
  pub none : is_named name (values_in front) ≡ false
  pub named : bytes_eq q.1.name name ≡ true

first-split_step : (name : List ℕ) (p q : ℕ × Row) (ps : Table Row) (b : Bool) → bytes_eq p.1.name name ≡ b → first_named name (p ∷ ps) ≡ Some q → (first_named name ps ≡ Some q → IsFirst name ps q) → IsFirst name (p ∷ ps) q
first-split_step name p q ps true e f below =
    let same : p ≡ q = grind (arith, nat_tests) in
    record { front = []; back = ps; split = ap (λ x. x ∷ ps) same; none = refl; named = rw (sym same) e }
first-split_step name p q ps false e f below =
    let rest : first_named name ps ≡ Some q = rw e at f in
    let i = below rest in
    record { front = p ∷ i.front; back = i.back; split = ap (λ xs. p ∷ xs) i.split; none = rw e i.none; named = i.named }

pub first-split : (name : List ℕ) (q : ℕ × Row) (ps : Table Row) → first_named name ps ≡ Some q → IsFirst name ps q
first-split name q [] f = absurd (no_first q f)
first-split name q (p ∷ ps) f =
    first-split_step name p q ps (bytes_eq p.1.name name) refl f (first-split name q ps)

-- The position of the next request of a name.
pub record IsNext (held waiting : Table Row) (order : ℕ) : Type 0 where
  pub front : Table Row
  pub back : Table Row
  pub row : Row
  pub split : waiting ≡ front ++ (order, row) ∷ back
  pub free : is_grantable (values_in held) (values_in front) row ≡ true

free-number : (name : List ℕ) (held : Table Row) (p : ℕ × Row) (order : ℕ) → if_free name held (Some p) ≡ Some order → (is_free name p.1.mode (values_in held) ≡ true) × (p.0 ≡ order)
free-number name held p order e = (grind (arith, nat_tests), grind (arith, nat_tests))

grantable-row : (held front : Table Row) (r : Row) → is_named r.name (values_in front) ≡ false → is_free r.name r.mode (values_in held) ≡ true → is_grantable (values_in held) (values_in front) r ≡ true
unfolding is_grantable
grantable-row held front r a b = rw (a, b) refl

none_number : (order : ℕ) → None ≡ Some order → ⊥
none_number order e = cc

next-split_step : (name : List ℕ) (held waiting : Table Row) (order : ℕ) (o : Option (ℕ × Row)) → first_named name waiting ≡ o → if_free name held o ≡ Some order → IsNext held waiting order
next-split_step name held waiting order None f e = absurd (none_number order e)
next-split_step name held waiting order (Some q) f e =
    let i = first-split name q waiting f in
    let g = free-number name held q order e in
    let same : q.1.name ≡ name = text-same q.1.name name i.named in
    let pair : q ≡ (order, q.1) = ap (λ (k : ℕ). (k, q.1)) g.1 in
    record {
      front = i.front;
      back = i.back;
      row = q.1;
      split = i.split ∙ ap (λ x. i.front ++ x ∷ i.back) pair;
      free = grantable-row held i.front q.1 (ap (λ n. is_named n (values_in i.front)) same ∙ i.none) (ap (λ n. is_free n q.1.mode (values_in held)) same ∙ g.0);
    }

pub next-split : (name : List ℕ) (held waiting : Table Row) (order : ℕ) → next_in name held waiting ≡ Some order → IsNext held waiting order
next-split name held waiting order e =
    next-split_step name held waiting order (first_named name waiting) refl e

-- The next request of a name, found by its order number.
pub record IsNextRow (name : List ℕ) (waiting : Table Row) (order : ℕ) : Type 0 where
  pub row : Row
  pub found : find waiting order ≡ Some row
  pub named : row.name ≡ name

next-row_step : (name : List ℕ) (held waiting : Table Row) (order : ℕ) (o : Option (ℕ × Row)) → first_named name waiting ≡ o → is_rising waiting ≡ true → if_free name held o ≡ Some order → IsNextRow name waiting order
next-row_step name held waiting order None f rise e = absurd (none_number order e)
next-row_step name held waiting order (Some q) f rise e =
    let i = first-split name q waiting f in
    let g = free-number name held q order e in
    record {
      row = q.1;
      found = ap (λ k. find waiting k) (sym g.1) ∙ first-find name q waiting rise f;
      named = text-same q.1.name name i.named;
    }

pub next-row : (name : List ℕ) (held waiting : Table Row) (order : ℕ) → is_rising waiting ≡ true → next_in name held waiting ≡ Some order → IsNextRow name waiting order
next-row name held waiting order rise e =
    next-row_step name held waiting order (first_named name waiting) refl rise e

front-of_step : (name : List ℕ) (held : Table Row) (order k : ℕ) (o : Option (ℕ × Row)) → Some order ≡ front_number o → if_free name held o ≡ Some k → order ≡ k
front-of_step name held order k None f e = cc
front-of_step name held order k (Some q) f e =
    let g = free-number name held q k e in
    cc

-- The next request of a name is the first one that waits for it.
pub front-of : (name : List ℕ) (held waiting : Table Row) (order k : ℕ) → Some order ≡ slice_get (line_of name held waiting).queue 0 → next_in name held waiting ≡ Some k → order ≡ k
front-of name held waiting order k f e =
    front-of_step name held order k (first_named name waiting) (f ∙ first-front name waiting) e

next-front_step : (name : List ℕ) (held waiting : Table Row) (k : ℕ) (o : Option ℕ) → o ≡ slice_get (line_of name held waiting).queue 0 → next_in name held waiting ≡ Some k → o ≡ Some k
next-front_step name held waiting k None f e =
    absurd (no-next k (sym (next-none name held waiting f) ∙ e))
  where
    no-next : (k : ℕ) → None ≡ Some k → ⊥
    no-next k e = cc
next-front_step name held waiting k (Some order) f e = ap (λ j. Some j) (front-of name held waiting order k f e)

pub next-front : (name : List ℕ) (held waiting : Table Row) (k : ℕ) → next_in name held waiting ≡ Some k → slice_get (line_of name held waiting).queue 0 ≡ Some k
next-front name held waiting k e = next-front_step name held waiting k _ refl e

-- Requests that are not grantable

pub append-cons : {X : Type 0} (xs ys zs : List X) (x : X) → (xs ++ x ∷ ys) ++ zs ≡ xs ++ x ∷ (ys ++ zs)
append-cons xs ys zs x = append_assoc xs (x ∷ ys) zs

pub stuck-rows : (held ahead rows : Table Row) → ((front back : Table Row) (p : ℕ × Row) → rows ≡ front ++ p ∷ back → is_grantable (values_in held) (values_in (ahead ++ front)) p.1 ≡ false) → AreStuck (values_in held) (values_in ahead) (values_in rows)
stuck-rows held ahead [] f = tt
stuck-rows held ahead (p ∷ ps) f =
    let here : is_grantable (values_in held) (values_in (ahead ++ [])) p.1 ≡ false = f [] ps p refl in
    let rest : AreStuck (values_in held) (values_in (ahead ++ p ∷ [])) (values_in ps) = stuck-rows held (ahead ++ p ∷ []) ps (λ front back q e. rw append_assoc (f (p ∷ front) back q (ap (λ qs. p ∷ qs) e))) in
    (rw append-nil at here, rw map-append at rest)

pub not-true : (b : Bool) → (b ≡ true → ⊥) → b ≡ false
not-true true f = absurd (f refl)
not-true false f = refl

some-none : (k : ℕ) → Some k ≡ None → ⊥
some-none k e = cc

-- If no name has a next request, no waiting request is grantable.
pub stuck-nexts : (held waiting : Table Row) → ((name : List ℕ) → next_in name held waiting ≡ None) → AreStuck (values_in held) [] (values_in waiting)
stuck-nexts held waiting f =
    stuck-rows held [] waiting (λ front back p e. not-true (is_grantable (values_in held) (values_in front) p.1) (λ g. some-none p.0 (sym (ap (λ w. next_in p.1.name held w) e ∙ grantable-next held front back p g) ∙ f p.1.name)))

pub next-stuck_step : (held waiting : Table Row) (o : Option ℕ) → ((k : ℕ) → o ≡ Some k → ⊥) → o ≡ None
next-stuck_step held waiting None f = refl
next-stuck_step held waiting (Some k) f = absurd (f k refl)

-- Rows with different order numbers

rising-apart_step : (p q : ℕ × Row) (f : ℕ × Row) (front back end : Table Row) → (is_rising (front ++ p ∷ (back ++ q ∷ end)) ≡ true → p.0 < q.0) → is_rising ((f ∷ front) ++ p ∷ (back ++ q ∷ end)) ≡ true → p.0 < q.0
rising-apart_step p q f front back end below r = below (grind (arith, nat_tests))

above-apart_step : (k : ℕ) (b q : ℕ × Row) (back end : Table Row) → (is_above k (back ++ q ∷ end) ≡ true → k < q.0) → is_above k (b ∷ (back ++ q ∷ end)) ≡ true → k < q.0
above-apart_step k b q back end below a = below (grind (arith, nat_tests))

above-here : (k : ℕ) (q : ℕ × Row) (end : Table Row) → is_above k (q ∷ end) ≡ true → k < q.0
above-here k q end a = grind (arith, nat_tests)

above-apart : (k : ℕ) (q : ℕ × Row) (back end : Table Row) → is_above k (back ++ q ∷ end) ≡ true → k < q.0
above-apart k q [] end a = above-here k q end a
above-apart k q (b ∷ back) end a = above-apart_step k b q back end (above-apart k q back end) a

rising-head : (p : ℕ × Row) (ps : Table Row) → is_rising (p ∷ ps) ≡ true → is_above p.0 ps ≡ true
rising-head p ps r = grind (arith, nat_tests)

pub rising-apart : (p q : ℕ × Row) (front back end : Table Row) → is_rising (front ++ p ∷ (back ++ q ∷ end)) ≡ true → p.0 < q.0
rising-apart p q [] back end r = above-apart p.0 q back end (rising-head p (back ++ q ∷ end) r)
rising-apart p q (f ∷ front) back end r = rising-apart_step p q f front back end (rising-apart p q front back end) r

-- First grantable request

-- The position of a grantable request with no grantable request in front of it.
pub record IsGrant (held waiting : Table Row) (order : ℕ) : Type 0 where
  pub front : Table Row
  pub back : Table Row
  pub row : Row
  pub split : waiting ≡ front ++ (order, row) ∷ back
  pub stuck : AreStuck (values_in held) [] (values_in front)
  pub free : is_grantable (values_in held) (values_in front) row ≡ true

-- One grant

pub values-append : (front back : Table Row) → values_in (front ++ back) ≡ values_in front ++ values_in back
values-append [] back = refl
values-append (p ∷ ps) back = ap (λ xs. p.1 ∷ xs) (values-append ps back)

find-split_step : (order : ℕ) (r : Row) (f : ℕ × Row) (front back : Table Row) → (is_rising (front ++ (order, r) ∷ back) ≡ true → find (front ++ (order, r) ∷ back) order ≡ Some r) → (is_above f.0 (front ++ (order, r) ∷ back) ≡ true → f.0 < order) → is_rising ((f ∷ front) ++ (order, r) ∷ back) ≡ true → find ((f ∷ front) ++ (order, r) ∷ back) order ≡ Some r
find-split_step order r f front back below above rise = grind (arith, nat_tests)

find-split_here : (order : ℕ) (r : Row) (back : Table Row) → find ((order, r) ∷ back) order ≡ Some r
find-split_here order r back = grind (arith, nat_tests)

pub find-split : (order : ℕ) (r : Row) (front back : Table Row) → is_rising (front ++ (order, r) ∷ back) ≡ true → find (front ++ (order, r) ∷ back) order ≡ Some r
find-split order r [] back rise = find-split_here order r back
find-split order r (f ∷ front) back rise =
    find-split_step order r f front back (find-split order r front back) (above-apart f.0 (order, r) front back) rise

without-split_step : (order : ℕ) (r : Row) (f : ℕ × Row) (front back : Table Row) → (is_rising (front ++ (order, r) ∷ back) ≡ true → without_order order (front ++ (order, r) ∷ back) ≡ front ++ back) → (is_above f.0 (front ++ (order, r) ∷ back) ≡ true → f.0 < order) → is_rising ((f ∷ front) ++ (order, r) ∷ back) ≡ true → without_order order ((f ∷ front) ++ (order, r) ∷ back) ≡ (f ∷ front) ++ back
without-split_step order r f front back below above rise = grind (arith, nat_tests)

without-split_here : (order : ℕ) (r : Row) (back : Table Row) → (is_above order back ≡ true → without_order order back ≡ back) → is_rising ((order, r) ∷ back) ≡ true → without_order order ((order, r) ∷ back) ≡ back
without-split_here order r back same rise = grind (arith, nat_tests)

pub without-split : (order : ℕ) (r : Row) (front back : Table Row) → is_rising (front ++ (order, r) ∷ back) ≡ true → without_order order (front ++ (order, r) ∷ back) ≡ front ++ back
without-split order r [] back rise = without-split_here order r back (without-above order back) rise
without-split order r (f ∷ front) back rise =
    without-split_step order r f front back (without-split order r front back) (above-apart f.0 (order, r) front back) rise

pub grant-find : (held waiting : Table Row) (order : ℕ) (g : IsGrant held waiting order) → is_rising waiting ≡ true → find waiting order ≡ Some g.row
grant-find held waiting order g rise =
    ap (λ w. find w order) g.split ∙ find-split order g.row g.front g.back (ap is_rising (sym g.split) ∙ rise)

grant-left : (held waiting : Table Row) (order : ℕ) (g : IsGrant held waiting order) → is_rising waiting ≡ true → without_order order waiting ≡ g.front ++ g.back
grant-left held waiting order g rise =
    ap (λ w. without_order order w) g.split ∙ without-split order g.row g.front g.back (ap is_rising (sym g.split) ∙ rise)

after-grant : (held waiting : Table Row) (order k : ℕ) (g : IsGrant held waiting order) → is_rising waiting ≡ true → locks_in (held ++ (k, g.row) ∷ []) (without_order order waiting) ≡ record { held = values_in held ++ g.row ∷ []; waiting = values_in g.front ++ values_in g.back }
after-grant held waiting order k g rise =
    ap (λ w. locks_in (held ++ (k, g.row) ∷ []) w) (grant-left held waiting order g rise) ∙ ap (λ h. record { held = h; waiting = values_in (g.front ++ g.back) }) (values-append held ((k, g.row) ∷ [])) ∙ ap (λ v. record { held = values_in held ++ g.row ∷ []; waiting = v }) (values-append g.front g.back)

pub grant-newly_granted : (held waiting : Table Row) (order k : ℕ) (g : IsGrant held waiting order) → is_rising waiting ≡ true → newly_granted (locks_in held waiting) ≡ g.row ∷ newly_granted (locks_in (held ++ (k, g.row) ∷ []) (without_order order waiting))
grant-newly_granted held waiting order k g rise =
    ap (λ w. newly_granted (locks_in held w)) g.split ∙ ap (λ v. newly_granted (record { held = values_in held; waiting = v })) (values-append g.front ((order, g.row) ∷ g.back)) ∙ newly-first (values_in held) (values_in g.front) (values_in g.back) g.row g.stuck g.free ∙ ap (λ m. g.row ∷ newly_granted m) (sym (after-grant held waiting order k g rise))

pub grant-settle : (held waiting : Table Row) (order k : ℕ) (g : IsGrant held waiting order) → is_rising waiting ≡ true → settle (locks_in held waiting) ≡ settle (locks_in (held ++ (k, g.row) ∷ []) (without_order order waiting))
grant-settle held waiting order k g rise =
    ap (λ w. settle (locks_in held w)) g.split ∙ ap (λ v. settle (record { held = values_in held; waiting = v })) (values-append g.front ((order, g.row) ∷ g.back)) ∙ settle-first (values_in held) (values_in g.front) (values_in g.back) g.row g.stuck g.free ∙ ap (λ m. settle m) (sym (after-grant held waiting order k g rise))

-- Whether a request is grantable, by its order number

-- A row with this name comes before the order number.
pub record IsEarlier (name : List ℕ) (rows : Table Row) (order : ℕ) : Type 0 where
  pub row : ℕ × Row
  pub first : first_named name rows ≡ Some row
  pub before : row.0 < order

not-both : false ≡ true → ⊥
not-both e = cc

pub rising-rest : (p : ℕ × Row) (ps : Table Row) → is_rising (p ∷ ps) ≡ true → is_rising ps ≡ true
rising-rest p ps r = grind (arith, nat_tests)

earlier-step : (name : List ℕ) (order : ℕ) (r : Row) (f : ℕ × Row) (front back : Table Row) (b : Bool) → bytes_eq f.1.name name ≡ b → is_named name (values_in (f ∷ front)) ≡ true → is_rising ((f ∷ front) ++ (order, r) ∷ back) ≡ true → (is_named name (values_in front) ≡ true → is_rising (front ++ (order, r) ∷ back) ≡ true → IsEarlier name (front ++ (order, r) ∷ back) order) → IsEarlier name ((f ∷ front) ++ (order, r) ∷ back) order
earlier-step name order r f front back true e n rise below = record {
  row = f;
  first = rw e refl;
  before = above-apart f.0 (order, r) front back (rising-head f (front ++ (order, r) ∷ back) rise);
}
earlier-step name order r f front back false e n rise below =
    let n' : is_named name (values_in front) ≡ true = rw e at n in
    let i = below n' (rising-rest f (front ++ (order, r) ∷ back) rise) in
    record { row = i.row; first = rw e i.first; before = i.before }

earlier : (name : List ℕ) (order : ℕ) (r : Row) (front back : Table Row) → is_named name (values_in front) ≡ true → is_rising (front ++ (order, r) ∷ back) ≡ true → IsEarlier name (front ++ (order, r) ∷ back) order
earlier name order r [] back n rise = absurd (not-both n)
earlier name order r (f ∷ front) back n rise =
    earlier-step name order r f front back (bytes_eq f.1.name name) refl n rise (earlier name order r front back)

number-before : (order : ℕ) (k : ℕ) (b : Bool) → k < order → is_number (cond b (Some k) None) order ≡ false
number-before order k true l = grind (arith, nat_tests)
number-before order k false l = refl

number-here : (order : ℕ) (b : Bool) → is_number (cond b (Some order) None) order ≡ b
number-here order true = grind (arith, nat_tests)
number-here order false = refl

grantable-not : (held front : Table Row) (r : Row) → is_named r.name (values_in front) ≡ true → is_grantable (values_in held) (values_in front) r ≡ false
unfolding is_grantable
grantable-not held front r e = rw e refl

grantable-alone : (held front : Table Row) (r : Row) → is_named r.name (values_in front) ≡ false → is_grantable (values_in held) (values_in front) r ≡ is_free r.name r.mode (values_in held)
unfolding is_grantable
grantable-alone held front r e = rw e refl

next-at_step : (held front back : Table Row) (order : ℕ) (r : Row) (b : Bool) → is_named r.name (values_in front) ≡ b → is_rising (front ++ (order, r) ∷ back) ≡ true → is_grantable (values_in held) (values_in front) r ≡ is_number (next_in r.name held (front ++ (order, r) ∷ back)) order
next-at_step held front back order r true e rise =
    let i = earlier r.name order r front back e rise in
    grantable-not held front r e ∙ sym (ap (λ o. is_number (if_free r.name held o) order) i.first ∙ number-before order i.row.0 (is_free r.name i.row.1.mode (values_in held)) i.before)
next-at_step held front back order r false e rise =
    let here : first_named r.name ((order, r) ∷ back) ≡ Some (order, r) = rw (text-self r.name) refl in
    grantable-alone held front r e ∙ sym (ap (λ o. is_number (if_free r.name held o) order) (passed-over r.name front ((order, r) ∷ back) e ∙ here) ∙ number-here order (is_free r.name r.mode (values_in held)))

-- A request is grantable if and only if it is the next of its name.
pub next-at : (held front back : Table Row) (order : ℕ) (r : Row) → is_rising (front ++ (order, r) ∷ back) ≡ true → is_grantable (values_in held) (values_in front) r ≡ is_number (next_in r.name held (front ++ (order, r) ∷ back)) order
next-at held front back order r rise =
    next-at_step held front back order r (is_named r.name (values_in front)) refl rise
