-- Agreement of a table's index with its two lists.
use Rattle.std.proofs.Common.{append-nil, ◌≡◌, ℕ, ◌+◌, ◌<◌, ◌≤◌, Bool, true, false, ◌&&◌, not, cond, List, [], ◌∷◌, ◌++◌, length, refl, sym, ap, ◌∙◌, arith}
use Rattle.std.specs.Prelude.{◌==◌, bytes_eq, filter, map, count_by}
use Rattle.std.proofs.lemmas.Bool.Decides.{nat_tests}
use Rattle.std.proofs.lemmas.List.{map-append}
use Rattle.std.proofs.lemmas.List.Elements.{filter-append}
use Rattle.std.proofs.lemmas.List.Sums.{sum_by-cons}
use Rattle.wl_draft.specs.declared.mode.Mode.{Mode}
use Rattle.wl_draft.specs.declared.mode.Mode.TheVariants.{Shared, Exclusive}
use Rattle.wl_draft.specs.declared.row.Row.{Row}
use Rattle.wl_draft.specs.Tables.{Table}
use Rattle.wl_draft.specs.Locks.{probed, queued, is_named, is_free, is_grantable, live}
use Rattle.wl_table_index.specs.OrderNumbers.{values_in, orders_in, is_below}
use Rattle.wl_table_index.specs.NameLines.{LineState, lets_in, with_holder, with_waiter}
use Rattle.wl_table_index.specs.Index.{line_of, count_rows, locks_in, is_shared, is_exclusive}

-- Number of a client's entries

pub count-cons : {X : Type 0} (t : X → Bool) (x : X) (xs : List X) → count_by t (x ∷ xs) ≡ cond (t x) 1 0 + count_by t xs
count-cons t x xs = sum_by-cons (λ y. cond (t y) 1 0) x xs

count-map : {X Y : Type 0} (t : Y → Bool) (f : X → Y) (xs : List X) → count_by t (map f xs) ≡ count_by (λ x. t (f x)) xs
count-map t f [] = refl
count-map t f (x ∷ xs) =
    count-cons t (f x) (map f xs) ∙ ap (λ n. cond (t (f x)) 1 0 + n) (count-map t f xs) ∙ sym (count-cons (λ y. t (f y)) x xs)

pub live-counts : (held waiting : Table Row) (client : ℕ) → live (locks_in held waiting) client ≡ count_rows client held + count_rows client waiting
live-counts held waiting client =
    rw (count-map (λ (r : Row). r.client == client) (λ (p : ℕ × Row). p.1) held, count-map (λ (r : Row). r.client == client) (λ (p : ℕ × Row). p.1) waiting) refl

-- Line of a name

named-queue_step : (name : List ℕ) (p : ℕ × Row) (ps : Table Row) → is_named name (values_in ps) ≡ not (length (orders_in (filter (λ (q : ℕ × Row). bytes_eq q.1.name name) ps)) == 0) → is_named name (values_in (p ∷ ps)) ≡ not (length (orders_in (filter (λ (q : ℕ × Row). bytes_eq q.1.name name) (p ∷ ps))) == 0)
named-queue_step name p ps below = grind (arith, nat_tests)

pub named-queue : (name : List ℕ) (rows : Table Row) → is_named name (values_in rows) ≡ not (length (orders_in (filter (λ (q : ℕ × Row). bytes_eq q.1.name name) rows)) == 0)
named-queue name [] = refl
named-queue name (p ∷ ps) = named-queue_step name p ps (named-queue name ps)

free-shared_step : (name : List ℕ) (p : ℕ × Row) (ps : Table Row) (mode : Mode) → p.1.mode ≡ mode → is_free name Shared (values_in ps) ≡ (count_by (λ (q : ℕ × Row). bytes_eq q.1.name name && is_exclusive q.1.mode) ps == 0) → is_free name Shared (values_in (p ∷ ps)) ≡ (count_by (λ (q : ℕ × Row). bytes_eq q.1.name name && is_exclusive q.1.mode) (p ∷ ps) == 0)
free-shared_step name p ps Shared e below =
    grind (arith, nat_tests, count-cons (λ (q : ℕ × Row). bytes_eq q.1.name name && is_exclusive q.1.mode) p ps)
free-shared_step name p ps Exclusive e below =
    grind (arith, nat_tests, count-cons (λ (q : ℕ × Row). bytes_eq q.1.name name && is_exclusive q.1.mode) p ps)

free-shared : (name : List ℕ) (rows : Table Row) → is_free name Shared (values_in rows) ≡ (count_by (λ (q : ℕ × Row). bytes_eq q.1.name name && is_exclusive q.1.mode) rows == 0)
free-shared name [] = refl
free-shared name (p ∷ ps) = free-shared_step name p ps p.1.mode refl (free-shared name ps)

free-exclusive_step : (name : List ℕ) (p : ℕ × Row) (ps : Table Row) (mode : Mode) → p.1.mode ≡ mode → is_free name Exclusive (values_in ps) ≡ (count_by (λ (q : ℕ × Row). bytes_eq q.1.name name && is_exclusive q.1.mode) ps == 0 && count_by (λ (q : ℕ × Row). bytes_eq q.1.name name && is_shared q.1.mode) ps == 0) → is_free name Exclusive (values_in (p ∷ ps)) ≡ (count_by (λ (q : ℕ × Row). bytes_eq q.1.name name && is_exclusive q.1.mode) (p ∷ ps) == 0 && count_by (λ (q : ℕ × Row). bytes_eq q.1.name name && is_shared q.1.mode) (p ∷ ps) == 0)
free-exclusive_step name p ps Shared e below =
    grind (arith, nat_tests, count-cons (λ (q : ℕ × Row). bytes_eq q.1.name name && is_exclusive q.1.mode) p ps, count-cons (λ (q : ℕ × Row). bytes_eq q.1.name name && is_shared q.1.mode) p ps)
free-exclusive_step name p ps Exclusive e below =
    grind (arith, nat_tests, count-cons (λ (q : ℕ × Row). bytes_eq q.1.name name && is_exclusive q.1.mode) p ps, count-cons (λ (q : ℕ × Row). bytes_eq q.1.name name && is_shared q.1.mode) p ps)

free-exclusive : (name : List ℕ) (rows : Table Row) → is_free name Exclusive (values_in rows) ≡ (count_by (λ (q : ℕ × Row). bytes_eq q.1.name name && is_exclusive q.1.mode) rows == 0 && count_by (λ (q : ℕ × Row). bytes_eq q.1.name name && is_shared q.1.mode) rows == 0)
free-exclusive name [] = refl
free-exclusive name (p ∷ ps) = free-exclusive_step name p ps p.1.mode refl (free-exclusive name ps)

-- A line determines whether a row with its name conflicts with no held lock.
pub free-line : (name : List ℕ) (mode : Mode) (held waiting : Table Row) → is_free name mode (values_in held) ≡ lets_in (line_of name held waiting) mode
free-line name Shared held waiting = free-shared name held
free-line name Exclusive held waiting = free-exclusive name held

pub grantable-line : (held waiting : Table Row) (r : Row) → is_grantable (values_in held) (values_in waiting) r ≡ (length (line_of r.name held waiting).queue == 0 && lets_in (line_of r.name held waiting) r.mode)
unfolding is_grantable
grantable-line held waiting r =
    rw (named-queue r.name waiting, free-line r.name r.mode held waiting) (grind (arith, nat_tests))

-- One more lock

pub count-last : {X : Type 0} (t : X → Bool) (x : X) (xs : List X) → count_by t (xs ++ x ∷ []) ≡ count_by t xs + cond (t x) 1 0
count-last t x [] = grind (arith, count-cons t x [])
count-last t x (y ∷ ys) =
    grind (arith, count-cons t y ys, count-cons t y (ys ++ x ∷ []), count-last t x ys)

line-held_step : (b : Bool) (s e more : ℕ) (queue : List ℕ) (mode : Mode) → cond b (with_holder (record { shared = s; exclusive = e; queue = queue }) mode) (record { shared = s; exclusive = e; queue = queue }) ≡ record { shared = s + cond (b && is_shared mode) 1 0; exclusive = e + cond (b && is_exclusive mode) 1 0; queue = queue }
line-held_step true s e more queue Shared = grind arith
line-held_step true s e more queue Exclusive = grind arith
line-held_step false s e more queue mode = grind arith

pub line-held : (name : List ℕ) (held waiting : Table Row) (order : ℕ) (r : Row) → cond (bytes_eq r.name name) (with_holder (line_of name held waiting) r.mode) (line_of name held waiting) ≡ line_of name (held ++ (order, r) ∷ []) waiting
line-held name held waiting order r =
    line-held_step (bytes_eq r.name name) _ _ 0 _ r.mode ∙ sym (rw (count-last (λ (p : ℕ × Row). bytes_eq p.1.name name && is_shared p.1.mode) (order, r) held, count-last (λ (p : ℕ × Row). bytes_eq p.1.name name && is_exclusive p.1.mode) (order, r) held) refl)

counts-length_step : (name : List ℕ) (p : ℕ × Row) (ps waiting : Table Row) (mode : Mode) → p.1.mode ≡ mode → (line_of name ps waiting).shared + (line_of name ps waiting).exclusive ≤ length ps → (line_of name (p ∷ ps) waiting).shared + (line_of name (p ∷ ps) waiting).exclusive ≤ length (p ∷ ps)
counts-length_step name p ps waiting Shared e below =
    grind (arith, nat_tests, count-cons (λ (q : ℕ × Row). bytes_eq q.1.name name && is_exclusive q.1.mode) p ps, count-cons (λ (q : ℕ × Row). bytes_eq q.1.name name && is_shared q.1.mode) p ps)
counts-length_step name p ps waiting Exclusive e below =
    grind (arith, nat_tests, count-cons (λ (q : ℕ × Row). bytes_eq q.1.name name && is_exclusive q.1.mode) p ps, count-cons (λ (q : ℕ × Row). bytes_eq q.1.name name && is_shared q.1.mode) p ps)

pub counts-length : (name : List ℕ) (held waiting : Table Row) → (line_of name held waiting).shared + (line_of name held waiting).exclusive ≤ length held
counts-length name [] waiting = omega arith
counts-length name (p ∷ ps) waiting = counts-length_step name p ps waiting p.1.mode refl (counts-length name ps waiting)

count-within_step : (client : ℕ) (p : ℕ × Row) (ps : Table Row) → count_rows client (p ∷ ps) ≡ cond (p.1.client == client) 1 0 + count_rows client ps → count_rows client ps ≤ length ps → count_rows client (p ∷ ps) ≤ length (p ∷ ps)
count-within_step client p ps one below = grind (arith, nat_tests)

pub count-within : (client : ℕ) (rows : Table Row) → count_rows client rows ≤ length rows
count-within client [] = omega arith
count-within client (p ∷ ps) = count-within_step client p ps (count-cons (λ (q : ℕ × Row). q.1.client == client) p ps) (count-within client ps)

below-more_step : {X : Type 0} (j k : ℕ) (p : ℕ × X) (ps : Table X) → j ≤ k → (is_below ps j ≡ true → is_below ps k ≡ true) → is_below (p ∷ ps) j ≡ true → is_below (p ∷ ps) k ≡ true
below-more_step j k p ps l below b = grind (arith, nat_tests)

pub below-more : {X : Type 0} (j k : ℕ) (ps : Table X) → j ≤ k → is_below ps j ≡ true → is_below ps k ≡ true
below-more j k [] l b = refl
below-more j k (p ∷ ps) l b = below-more_step j k p ps l (below-more j k ps l) b

below-last_step : {X : Type 0} (j k : ℕ) (x : X) (p : ℕ × X) (ps : Table X) → j < k → (is_below ps j ≡ true → is_below (ps ++ (j, x) ∷ []) k ≡ true) → is_below (p ∷ ps) j ≡ true → is_below ((p ∷ ps) ++ (j, x) ∷ []) k ≡ true
below-last_step j k x p ps l below b = grind (arith, nat_tests)

pub below-last : {X : Type 0} (j k : ℕ) (x : X) (ps : Table X) → j < k → is_below ps j ≡ true → is_below (ps ++ (j, x) ∷ []) k ≡ true
below-last j k x [] l b = grind (arith, nat_tests)
below-last j k x (p ∷ ps) l b = below-last_step j k x p ps l (below-last j k x ps l) b

pub probed-free : (held waiting : Table Row) (order : ℕ) (r : Row) → is_grantable (values_in held) (values_in waiting) r ≡ true → locks_in (held ++ (order, r) ∷ []) waiting ≡ probed r (locks_in held waiting)
unfolding probed
probed-free held waiting order r e = rw (e, map-append) refl

pub probed-stuck : (held waiting : Table Row) (r : Row) → is_grantable (values_in held) (values_in waiting) r ≡ false → locks_in held waiting ≡ probed r (locks_in held waiting)
unfolding probed
probed-stuck held waiting r e = rw e refl

pub grantable-index : (held waiting : Table Row) (s : LineState) (r : Row) → s ≡ line_of r.name held waiting → is_grantable (values_in held) (values_in waiting) r ≡ (length s.queue == 0 && lets_in s r.mode)
grantable-index held waiting s r e = rw e (grantable-line held waiting r)

pub grantable-known : (held waiting : Table Row) (s : LineState) (r : Row) (b known : Bool) → s ≡ line_of r.name held waiting → b ≡ (length s.queue == 0 && lets_in s r.mode) → b ≡ known → is_grantable (values_in held) (values_in waiting) r ≡ known
grantable-known held waiting s r b known e next k = grantable-index held waiting s r e ∙ sym next ∙ k

-- One more request

line-queued_step : (b : Bool) (s e : ℕ) (queue : List ℕ) (p : ℕ × Row) → cond b (with_waiter (record { shared = s; exclusive = e; queue = queue }) p.0) (record { shared = s; exclusive = e; queue = queue }) ≡ record { shared = s; exclusive = e; queue = queue ++ orders_in (cond b (p ∷ []) []) }
line-queued_step true s e queue p = refl
line-queued_step false s e queue p = rw append-nil refl

pub line-queued : (name : List ℕ) (held waiting : Table Row) (order : ℕ) (r : Row) → cond (bytes_eq r.name name) (with_waiter (line_of name held waiting) order) (line_of name held waiting) ≡ line_of name held (waiting ++ (order, r) ∷ [])
line-queued name held waiting order r =
    line-queued_step (bytes_eq r.name name) _ _ _ (order, r) ∙ sym (rw (filter-append, map-append) refl)

pub length-queued : (waiting : Table Row) (order : ℕ) (r : Row) → length (waiting ++ (order, r) ∷ []) ≡ length waiting + 1
length-queued [] order r = refl
length-queued (p ∷ ps) order r = grind (arith, length-queued ps order r)

-- The draft's terms

pub queued-in : (held waiting : Table Row) (order : ℕ) (r : Row) → locks_in held (waiting ++ (order, r) ∷ []) ≡ queued r (locks_in held waiting)
unfolding queued
queued-in held waiting order r = rw map-append refl
