-- Places of a client's entries, and the rows that they stand for.
use Rattle.std.proofs.Common.{rules, ◌≡◌, ℕ, ◌+◌, ◌<◌, ◌≤◌, Bool, true, false, not, ◌&&◌, ◌||◌, cond, eqb, List, [], ◌∷◌, ◌++◌, Option, Some, None, length, suc, refl, sym, ap, ◌∙◌, arith}
use Rattle.std.specs.Prelude.{◌==◌, nat_lt, nat_eq, is_some, IsSome, count_by}
use Rattle.std.specs.Option.{option_map_or}
use Rattle.std.specs.HashMap.{get}
use Rattle.std.proofs.lemmas.Bool.Decides.{nat_tests}
use Rattle.wl_draft.specs.declared.row.Row.{Row}
use Rattle.wl_draft.specs.declared.row.Standing.{Standing}
use Rattle.wl_draft.specs.declared.row.Standing.TheVariants.{Held, Waiting, Absent}
use Rattle.wl_draft.specs.Tables.{Table, find}
use Rattle.wl_draft.specs.Locks.{is_pair, has_pair, standing}
use Rattle.wl_table_index.specs.declared.holdings.Removal.{Removal}
use Rattle.wl_table_index.specs.declared.holdings.Place.{Place}
use Rattle.wl_table_index.specs.declared.holdings.Holdings.{Holdings}
use Rattle.wl_table_index.specs.declared.clients.Clients.{Clients}
use Rattle.wl_table_index.specs.declared.index.Index.{Index}
use Rattle.wl_table_index.specs.OrderNumbers.{values_in, is_above, is_below, is_rising, without_order}
use Rattle.wl_table_index.specs.Clients.{has_place, has_place_at, has_number_at, count_at, takes, IsLeast, IsStanding}
use Rattle.wl_table_index.specs.Index.{IsIndexed, is_entry, count_rows, locks_in}
use Rattle.wl_table_index.specs.Nexts.{is_taken, left_by, first_pair}
use Rattle.wl_table_index.proofs.HoldingLemmas.{has-latest, no-truth, number-self, same-order}
use Rattle.wl_table_index.proofs.OrderLemmas.{find-above, find-last, find-without}
use Rattle.wl_table_index.proofs.WithoutLemmas.{count-one, count-without, filter-without, length-without}

-- Rows of a pair after a row is added or removed

find-below_step : (k : ℕ) (p : ℕ × Row) (ps : Table Row) → (is_below ps k ≡ true → find ps k ≡ None) → is_below (p ∷ ps) k ≡ true → find (p ∷ ps) k ≡ None
find-below_step k p ps below b = grind (arith, nat_tests)

find-below : (k : ℕ) (ps : Table Row) → is_below ps k ≡ true → find ps k ≡ None
find-below k [] b = refl
find-below k (p ∷ ps) b = find-below_step k p ps (find-below k ps) b

pushed-step : (client number j order : ℕ) (r : Row) (o : Option Row) (b : Bool) → (order == j) ≡ b → (b ≡ true → o ≡ None) → ((r.client == client && r.number == number && order == j) || is_entry client number o) ≡ is_entry client number (cond (order == j) (Some r) o)
pushed-step client number j order r o true e n = rw (e, n refl) (both-true (r.client == client) (r.number == number))
  where
    both-true : (a b : Bool) → ((a && b && true) || false) ≡ (a && b)
    both-true true true = refl
    both-true true false = refl
    both-true false b = refl
pushed-step client number j order r o false e n = rw e (both-false (r.client == client) (r.number == number) (is_entry client number o))
  where
    both-false : (a b c : Bool) → ((a && b && false) || c) ≡ c
    both-false true true c = refl
    both-false true false c = refl
    both-false false b c = refl

pub entry-pushed : (client number j order : ℕ) (r : Row) (ps : Table Row) → is_below ps order ≡ true → ((r.client == client && r.number == number && order == j) || is_entry client number (find ps j)) ≡ is_entry client number (find (ps ++ (order, r) ∷ []) j)
entry-pushed client number j order r ps b =
    pushed-step client number j order r (find ps j) (order == j) refl (λ e. ap (λ k. find ps k) (sym (same-order order j e)) ∙ find-below order ps b) ∙ ap (λ o. is_entry client number o) (sym (find-last order r ps j b))

removed-step : (client number j order : ℕ) (r : Row) (o : Option Row) (b : Bool) → (order == j) ≡ b → (b ≡ true → o ≡ Some r) → (not (r.client == client && r.number == number && order == j) && is_entry client number o) ≡ is_entry client number (cond (order == j) None o)
removed-step client number j order r o true e n = rw (e, n refl) (both-true (r.client == client) (r.number == number))
  where
    both-true : (a b : Bool) → (not (a && b && true) && (a && b)) ≡ false
    both-true true true = refl
    both-true true false = refl
    both-true false b = refl
removed-step client number j order r o false e n = rw e (both-false (r.client == client) (r.number == number) (is_entry client number o))
  where
    both-false : (a b c : Bool) → (not (a && b && false) && c) ≡ c
    both-false true true c = refl
    both-false true false c = refl
    both-false false b c = refl

pub entry-removed : (client number j order : ℕ) (r : Row) (ps : Table Row) → find ps order ≡ Some r → (not (r.client == client && r.number == number && order == j) && is_entry client number (find ps j)) ≡ is_entry client number (find (without_order order ps) j)
entry-removed client number j order r ps f =
    removed-step client number j order r (find ps j) (order == j) refl (λ e. ap (λ k. find ps k) (sym (same-order order j e)) ∙ f) ∙ ap (λ o. is_entry client number o) (sym (find-without order ps j))

pub other-added : (a d : Bool) → ((a && false) || d) ≡ d
other-added true d = refl
other-added false d = refl

pub other-dropped : (a d : Bool) → (not (a && false) && d) ≡ d
other-dropped true d = refl
other-dropped false d = refl

-- The row of a pair

pub record IsRow (client number : ℕ) (rows : Table Row) (order : ℕ) : Type 0 where
  pub row : Row
  pub found : find rows order ≡ Some row
  pub mine : row.client ≡ client
  pub is_mine : (row.client == client) ≡ true
  pub named : row.number ≡ number

pub pair-self : (r : Row) → is_pair r.client r.number r ≡ true
pair-self r = grind (arith, nat_tests)

first-part : (a b : Bool) → (a && b) ≡ true → a ≡ true
first-part true b e = refl
first-part false b e = e

second-part : (a b : Bool) → (a && b) ≡ true → b ≡ true
second-part true b e = e
second-part false b e = cc

row-of_step : (client number : ℕ) (rows : Table Row) (order : ℕ) (o : Option Row) → find rows order ≡ o → is_entry client number o ≡ true → IsRow client number rows order
row-of_step client number rows order None f e = absurd (no-truth e)
row-of_step client number rows order (Some r) f e = record {
  row = r;
  found = f;
  mine = same-order r.client client (first-part _ _ e);
  is_mine = first-part _ _ e;
  named = same-order r.number number (second-part (r.client == client) (r.number == number) e);
}

pub row-of : (client number : ℕ) (rows : Table Row) (order : ℕ) → is_entry client number (find rows order) ≡ true → IsRow client number rows order
row-of client number rows order e = row-of_step client number rows order (find rows order) refl e

pub none-there : (o : Option Row) → IsSome o → None ≡ o → ⊥
none-there (Some r) h e = cc
none-there None h e = cc

pub row-there : (r : Row) (o : Option Row) → o ≡ Some r → IsSome o
row-there r (Some q) e = search rules
row-there r None e = absurd (none-some r e)
  where
    none-some : (r : Row) → None ≡ Some r → ⊥
    none-some r e = cc

-- A client without rows

entry-none_step : (client number order : ℕ) (p : ℕ × Row) (ps : Table Row) → count_rows client (p ∷ ps) ≡ cond (p.1.client == client) 1 0 + count_rows client ps → (count_rows client ps ≡ 0 → is_entry client number (find ps order) ≡ false) → count_rows client (p ∷ ps) ≡ 0 → is_entry client number (find (p ∷ ps) order) ≡ false
entry-none_step client number order p ps one below e = grind (arith, nat_tests)

pub entry-none : (client number order : ℕ) (ps : Table Row) → count_rows client ps ≡ 0 → is_entry client number (find ps order) ≡ false
entry-none client number order [] e = refl
entry-none client number order (p ∷ ps) e =
    entry-none_step client number order p ps (count-one (λ (q : ℕ × Row). q.1.client == client) p ps) (entry-none client number order ps) e

no-sum : (a b : ℕ) → a + b ≡ 0 → (a ≡ 0) × (b ≡ 0)
no-sum a b e = (omega arith, omega arith)

-- A client without entries has no place.
pub no-places : (t : Index) (client : ℕ) → IsIndexed t → count_at t.clients client ≡ 0 → (number order : ℕ) (b : Bool) → has_place_at t.clients client number order b ≡ false
no-places t client i e number order true =
    i.held_places client number order ∙ entry-none client number order t.held.items (no-sum _ _ (sym (i.counts client) ∙ e)).0
no-places t client i e number order false =
    i.waiting_places client number order ∙ entry-none client number order t.waiting.items (no-sum _ _ (sym (i.counts client) ∙ e)).1

-- The same places agree with the same rows.
pub indexed-same : (t : Index) (cs : Clients) → ((c n o : ℕ) (b : Bool) → has_place_at cs c n o b ≡ has_place_at t.clients c n o b) → ((c : ℕ) → count_at cs c ≡ count_at t.clients c) → IsIndexed t → IsIndexed (record t { clients = cs })
indexed-same t cs places count i = record {
  held_rise = i.held_rise;
  waiting_rise = i.waiting_rise;
  held_below = i.held_below;
  waiting_below = i.waiting_below;
  lines = i.lines;
  held_places = λ c n o. places c n o true ∙ i.held_places c n o;
  waiting_places = λ c n o. places c n o false ∙ i.waiting_places c n o;
  counts = λ c. count c ∙ i.counts c;
  room = i.room;
}

-- Rows that no lookup finds

rising-parts : (p : ℕ × Row) (ps : Table Row) → is_rising (p ∷ ps) ≡ true → (is_above p.0 ps ≡ true) × (is_rising ps ≡ true)
rising-parts p ps r = (grind (arith, nat_tests), grind (arith, nat_tests))

entry-here : (client number : ℕ) (p : ℕ × Row) (ps : Table Row) → is_entry client number (find (p ∷ ps) p.0) ≡ is_pair client number p.1
entry-here client number p ps = rw (number-self p.0) refl

later-step : (client number order : ℕ) (p : ℕ × Row) (ps : Table Row) (b : Bool) → (p.0 == order) ≡ b → find ps p.0 ≡ None → is_entry client number (find ps order) ≡ true → find (p ∷ ps) order ≡ find ps order
later-step client number order p ps true e none f =
    let n : find ps order ≡ None = ap (λ k. find ps k) (sym (same-order p.0 order e)) ∙ none in
    absurd (no-truth (sym (ap (λ o. is_entry client number o) n) ∙ f))
later-step client number order p ps false e none f = rw e refl

entry-later : (client number order : ℕ) (p : ℕ × Row) (ps : Table Row) → is_above p.0 ps ≡ true → is_entry client number (find ps order) ≡ true → is_entry client number (find (p ∷ ps) order) ≡ true
entry-later client number order p ps above f =
    ap (λ o. is_entry client number o) (later-step client number order p ps (p.0 == order) refl (find-above p.0 ps above) f) ∙ f

not-so : (b : Bool) → (b ≡ true → false ≡ true) → b ≡ false
not-so true f = sym (f refl)
not-so false f = refl

-- If a table has no such entry at an order number, neither has its rest.
none-later : (client number order : ℕ) (p : ℕ × Row) (ps : Table Row) → is_above p.0 ps ≡ true → is_entry client number (find (p ∷ ps) order) ≡ false → is_entry client number (find ps order) ≡ false
none-later client number order p ps above e =
    not-so (is_entry client number (find ps order)) (λ f. sym e ∙ entry-later client number order p ps above f)

-- Standing of a pair

entry-pair_step : (client number order : ℕ) (p : ℕ × Row) (ps : Table Row) → (is_entry client number (find ps order) ≡ true → has_pair client number (values_in ps) ≡ true) → is_entry client number (find (p ∷ ps) order) ≡ true → has_pair client number (values_in (p ∷ ps)) ≡ true
entry-pair_step client number order p ps below e = grind (arith, nat_tests)

pub entry-pair : (client number order : ℕ) (ps : Table Row) → is_entry client number (find ps order) ≡ true → has_pair client number (values_in ps) ≡ true
entry-pair client number order [] e = e
entry-pair client number order (p ∷ ps) e = entry-pair_step client number order p ps (entry-pair client number order ps) e

pair-none : (client number : ℕ) (ps : Table Row) → is_rising ps ≡ true → ((order : ℕ) → is_entry client number (find ps order) ≡ false) → has_pair client number (values_in ps) ≡ false
pair-none client number [] rise none = refl
pair-none client number (p ∷ ps) rise none =
    let r = rising-parts p ps rise in
    let here : is_pair client number p.1 ≡ false = sym (entry-here client number p ps) ∙ none p.0 in
    let rest : has_pair client number (values_in ps) ≡ false = pair-none client number ps r.1 (λ order. none-later client number order p ps r.0 (none order)) in
    rw here rest

pub standing-of : (t : Index) (client number : ℕ) (s : Standing) → IsIndexed t → IsStanding (has_place_at t.clients client number) s → standing (locks_in t.held.items t.waiting.items) client number ≡ s
standing-of t client number Held i s =
    let h = entry-pair client number s.0 t.held.items (sym (i.held_places client number s.0) ∙ s.1) in
    rw h refl
standing-of t client number Waiting i s =
    let h = pair-none client number t.held.items i.held_rise (λ o. sym (i.held_places client number o) ∙ s.0 o) in
    let w = entry-pair client number s.1.0 t.waiting.items (sym (i.waiting_places client number s.1.0) ∙ s.1.1) in
    rw (h, w) refl
standing-of t client number Absent i s =
    let h = pair-none client number t.held.items i.held_rise (λ o. sym (i.held_places client number o) ∙ s.0 o) in
    let w = pair-none client number t.waiting.items i.waiting_rise (λ o. sym (i.waiting_places client number o) ∙ s.1 o) in
    rw (h, w) refl

-- An absent pair has no place.

absent-step : (held waiting : Table Row) (client number order : ℕ) (b : Bool) → standing (locks_in held waiting) client number ≡ Absent → is_entry client number (find (cond b held waiting) order) ≡ true → false ≡ true
absent-step held waiting client number order true s e =
    let h = entry-pair client number order held e in
    let k : standing (locks_in held waiting) client number ≡ Held = rw h refl in
    absurd (no (sym k ∙ s))
  where
    no : Held ≡ Absent → ⊥
    no e = cc
absent-step held waiting client number order false s e =
    let w = entry-pair client number order waiting e in
    let k : standing (locks_in held waiting) client number ≡ cond (has_pair client number (values_in held)) Held Waiting = rw w refl in
    absurd (no (has_pair client number (values_in held)) (sym k ∙ s))
  where
    no : (h : Bool) → cond h Held Waiting ≡ Absent → ⊥
    no true e = cc
    no false e = cc

place-row : (t : Index) (client number order : ℕ) (b : Bool) → IsIndexed t → has_place_at t.clients client number order b ≡ true → is_entry client number (find (cond b t.held.items t.waiting.items) order) ≡ true
place-row t client number order true i e = sym (i.held_places client number order) ∙ e
place-row t client number order false i e = sym (i.waiting_places client number order) ∙ e

number-place : (o : Option Holdings) (number : ℕ) → option_map_or (λ h. is_some (get nat_eq h.places number)) o false ≡ true → (p : Place) × (option_map_or (λ h. has_place h number p.order p.is_held) o false ≡ true)
number-place None number e = absurd (no-truth e)
number-place (Some h) number e = latest (get nat_eq h.places number) refl e
  where
    latest : (o : Option Place) → get nat_eq h.places number ≡ o → is_some o ≡ true → (p : Place) × (has_place h number p.order p.is_held ≡ true)
    latest None f e = absurd (no-truth e)
    latest (Some p) f e = (p, has-latest h number p f)

pub number-absent : (t : Index) (client number : ℕ) → IsIndexed t → standing (locks_in t.held.items t.waiting.items) client number ≡ Absent → has_number_at t.clients client number ≡ false
number-absent t client number i s =
    not-so (has_number_at t.clients client number) (λ e.
    let p = number-place (get nat_eq t.clients.clients client) number e in
    absent-step t.held.items t.waiting.items client number p.0.order p.0.is_held s (place-row t client number p.0.order p.0.is_held i p.1))

-- First request of a pair

at-most : (a b : ℕ) → a ≤ b → b ≤ a → a ≡ b
at-most a b l m = omega arith

above-find_step : (k order : ℕ) (p : ℕ × Row) (ps : Table Row) (client number : ℕ) → (is_above k ps ≡ true → is_entry client number (find ps order) ≡ true → k < order) → is_above k (p ∷ ps) ≡ true → is_entry client number (find (p ∷ ps) order) ≡ true → k < order
above-find_step k order p ps client number below a e = grind (arith, nat_tests)

above-find : (k order : ℕ) (ps : Table Row) (client number : ℕ) → is_above k ps ≡ true → is_entry client number (find ps order) ≡ true → k < order
above-find k order [] client number a e = absurd (no-truth e)
above-find k order (p ∷ ps) client number a e = above-find_step k order p ps client number (above-find k order ps client number) a e

not-below_step : (order : ℕ) (p : ℕ × Row) (ps : Table Row) (client number : ℕ) → (is_entry client number (find ps order) ≡ true → p.0 < order) → is_entry client number (find (p ∷ ps) order) ≡ true → p.0 ≤ order
not-below_step order p ps client number above e = grind (arith, nat_tests)

other-step : (order : ℕ) (p : ℕ × Row) (ps : Table Row) (client number : ℕ) → is_pair client number p.1 ≡ false → is_entry client number (find (p ∷ ps) order) ≡ true → is_entry client number (find ps order) ≡ true
other-step order p ps client number n e = grind (arith, nat_tests)

first-step : (client number o : ℕ) (p : ℕ × Row) (ps : Table Row) (b : Bool) → is_pair client number p.1 ≡ b → is_rising (p ∷ ps) ≡ true → (is_entry client number (find ps o) ≡ true → ((k : ℕ) → is_entry client number (find ps k) ≡ true → o ≤ k) → first_pair client number ps ≡ Some o) → is_entry client number (find (p ∷ ps) o) ≡ true → ((k : ℕ) → is_entry client number (find (p ∷ ps) k) ≡ true → o ≤ k) → first_pair client number (p ∷ ps) ≡ Some o
first-step client number o p ps true e rise below f least =
    let r = rising-parts p ps rise in
    let a : p.0 ≤ o = not-below_step o p ps client number (above-find p.0 o ps client number r.0) f in
    rw e (ap (λ k. Some k) (at-most p.0 o a (least p.0 (entry-here client number p ps ∙ e))))
first-step client number o p ps false e rise below f least =
    let r = rising-parts p ps rise in
    rw e (below (other-step o p ps client number e f) (λ k g. least k (entry-later client number k p ps r.0 g)))

first-some : (client number o : ℕ) (ps : Table Row) → is_rising ps ≡ true → is_entry client number (find ps o) ≡ true → ((k : ℕ) → is_entry client number (find ps k) ≡ true → o ≤ k) → first_pair client number ps ≡ Some o
first-some client number o [] rise f least = absurd (no-truth f)
first-some client number o (p ∷ ps) rise f least =
    first-step client number o p ps (is_pair client number p.1) refl rise (first-some client number o ps (rising-parts p ps rise).1) f least

first-none : (client number : ℕ) (ps : Table Row) → is_rising ps ≡ true → ((k : ℕ) → is_entry client number (find ps k) ≡ false) → first_pair client number ps ≡ None
first-none client number [] rise none = refl
first-none client number (p ∷ ps) rise none =
    let r = rising-parts p ps rise in
    let here : is_pair client number p.1 ≡ false = sym (entry-here client number p ps) ∙ none p.0 in
    rw here (first-none client number ps r.1 (λ order. none-later client number order p ps r.0 (none order)))

pub first-of : (t : Index) (client number : ℕ) (o : Option ℕ) → IsIndexed t → IsLeast (λ k. has_place_at t.clients client number k false) o → first_pair client number t.waiting.items ≡ o
first-of t client number None i l =
    first-none client number t.waiting.items i.waiting_rise (λ k. sym (i.waiting_places client number k) ∙ l k)
first-of t client number (Some o) i l =
    first-some client number o t.waiting.items i.waiting_rise (sym (i.waiting_places client number o) ∙ l.0) (λ k e. l.1 k (i.waiting_places client number k ∙ e))

-- Rows that a command removes

-- The client has one row more in a list before such a row is removed from it.
pub one-fewer : (client number : ℕ) (rows : Table Row) (order : ℕ) → is_rising rows ≡ true → is_entry client number (find rows order) ≡ true → count_rows client (without_order order rows) + 1 ≡ count_rows client rows
one-fewer client number rows order rise e =
    let r = row-of client number rows order e in
    rw r.is_mine at (count-without (λ (p : ℕ × Row). p.1.client == client) order r.row rows rise r.found)

pub length-fewer : (client number : ℕ) (rows : Table Row) (order : ℕ) → is_rising rows ≡ true → is_entry client number (find rows order) ≡ true → suc (length (without_order order rows)) ≡ length rows
length-fewer client number rows order rise e =
    let r = row-of client number rows order e in
    length-without order r.row rows rise r.found

taken-step : (a b : Bool) → (b ≡ true → a ≡ false) → (a && b) ≡ false
taken-step true true f = f refl
taken-step true false f = refl
taken-step false b f = refl

pair-client : (client : ℕ) (r : Row) → is_pair client r.number r ≡ false → (r.client == client) ≡ false
pair-client client r e = grind (arith, nat_tests)

-- If no place is left, no row has to be removed.
pub none-left : (client : ℕ) (removal : Removal) (held : Bool) (rows : Table Row) → is_rising rows ≡ true → ((number order : ℕ) → takes removal held number ≡ true → is_entry client number (find rows order) ≡ false) → left_by client removal held rows ≡ rows
none-left client removal held [] rise none = refl
none-left client removal held (p ∷ ps) rise none =
    let r = rising-parts p ps rise in
    let here : is_taken client removal held p.1 ≡ false = taken-step (p.1.client == client) (takes removal held p.1.number) (λ t. pair-client client p.1 (sym (entry-here client p.1.number p ps) ∙ none p.1.number p.0 t)) in
    rw here (ap (λ qs. p ∷ qs) (none-left client removal held ps r.1 (λ number order t. none-later client number order p ps r.0 (none number order t))))

-- Removing one of the rows first does not change the result.
pub one-left : (client number : ℕ) (removal : Removal) (held : Bool) (rows : Table Row) (order : ℕ) → is_rising rows ≡ true → is_entry client number (find rows order) ≡ true → takes removal held number ≡ true → left_by client removal held (without_order order rows) ≡ left_by client removal held rows
one-left client number removal held rows order rise e t =
    let r = row-of client number rows order e in
    let s : takes removal held r.row.number ≡ true = ap (λ n. takes removal held n) r.named ∙ t in
    filter-without (λ (p : ℕ × Row). not (is_taken client removal held p.1)) order r.row rows (gone (r.row.client == client) (takes removal held r.row.number) r.is_mine s) rise r.found
  where
    gone : (a b : Bool) → a ≡ true → b ≡ true → not (a && b) ≡ false
    gone a b e f = rw (e, f) refl
