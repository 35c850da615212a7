-- Index of a table after a row is removed, and the capacity that is left.
use Rattle.std.proofs.Common.{◌≡◌, ℕ, ◌+◌, ◌<◌, ◌≤◌, suc, Bool, true, false, ◌&&◌, cond, eqb, List, [], ◌∷◌, Option, Some, None, length, length-append, refl, sym, ap, ◌∙◌, arith}
use Rattle.std.specs.Prelude.{◌==◌, bytes_eq, filter, map, IsSome}
use Rattle.std.proofs.Common.{rules}
use Rattle.std.specs.Option.{option_map_or}
use Rattle.std.proofs.lemmas.Bool.Decides.{nat_tests}
use Rattle.wl_draft.specs.declared.mode.Mode.{Mode}
use Rattle.wl_draft.specs.declared.mode.Mode.TheVariants.{Shared, Exclusive}
use Rattle.wl_draft.specs.declared.row.Row.{Row}
use Rattle.wl_draft.specs.Tables.{Table, find}
use Rattle.wl_table_index.specs.OrderNumbers.{orders_in, is_below, is_above, is_rising, without_order, without_number}
use Rattle.wl_table_index.specs.NameLines.{nobody, line_seen, line_room, without_holder, without_waiter}
use Rattle.wl_table_index.specs.declared.name_line.NameLine.{NameLine}
use Rattle.wl_table_index.specs.Index.{line_of, is_shared, is_exclusive}
use Rattle.std.proofs.lemmas.Slice.Eq.{bytes_eq-Decides}
use Rattle.wl_table_index.proofs.WithoutLemmas.{without-above, count-without, filter-without, orders-without}

-- Capacity

pub has-line : (o : Option NameLine) → (length (option_map_or line_seen o nobody).queue ≡ 0 → ⊥) → IsSome o
has-line (Some x) f = search rules
has-line None f = absurd (f refl)

-- Removing a lock

held-count_true : (s e s' e' : ℕ) (mode : Mode) (queue : List ℕ) → s' + cond (is_shared mode) 1 0 ≡ s → e' + cond (is_exclusive mode) 1 0 ≡ e → without_holder (record { shared = s; exclusive = e; queue = queue }) mode ≡ record { shared = s'; exclusive = e'; queue = queue }
held-count_true s e s' e' Shared queue h k = grind arith
held-count_true s e s' e' Exclusive queue h k = grind arith

held-count : (b : Bool) (s e s' e' : ℕ) (mode : Mode) (queue : List ℕ) → s' + cond (b && is_shared mode) 1 0 ≡ s → e' + cond (b && is_exclusive mode) 1 0 ≡ e → cond b (without_holder (record { shared = s; exclusive = e; queue = queue }) mode) (record { shared = s; exclusive = e; queue = queue }) ≡ record { shared = s'; exclusive = e'; queue = queue }
held-count true s e s' e' mode queue h k = held-count_true s e s' e' mode queue h k
held-count false s e s' e' mode queue h k = grind arith

pub line-remove_holder : (name : List ℕ) (held waiting : Table Row) (order : ℕ) (r : Row) → is_rising held ≡ true → find held order ≡ Some r → cond (bytes_eq r.name name) (without_holder (line_of name held waiting) r.mode) (line_of name held waiting) ≡ line_of name (without_order order held) waiting
line-remove_holder name held waiting order r rise f =
    held-count (bytes_eq r.name name) _ _ _ _ r.mode _ (count-without (λ (p : ℕ × Row). bytes_eq p.1.name name && is_shared p.1.mode) order r held rise f) (count-without (λ (p : ℕ × Row). bytes_eq p.1.name name && is_exclusive p.1.mode) order r held rise f)

queue-without : (name : List ℕ) (order : ℕ) (r : Row) (ps : Table Row) (b : Bool) → bytes_eq r.name name ≡ b → is_rising ps ≡ true → find ps order ≡ Some r → orders_in (filter (λ (p : ℕ × Row). bytes_eq p.1.name name) (without_order order ps)) ≡ cond b (without_number order (orders_in (filter (λ (p : ℕ × Row). bytes_eq p.1.name name) ps))) (orders_in (filter (λ (p : ℕ × Row). bytes_eq p.1.name name) ps))
queue-without name order r ps true e rise f = orders-without (λ (p : ℕ × Row). bytes_eq p.1.name name) order ps
queue-without name order r ps false e rise f =
    ap (λ qs. orders_in qs) (filter-without (λ (p : ℕ × Row). bytes_eq p.1.name name) order r ps e rise f)

cond_queue : (b : Bool) (s e : ℕ) (queue : List ℕ) (order : ℕ) → cond b (without_waiter (record { shared = s; exclusive = e; queue = queue }) order) (record { shared = s; exclusive = e; queue = queue }) ≡ record { shared = s; exclusive = e; queue = cond b (without_number order queue) queue }
cond_queue true s e queue order = refl
cond_queue false s e queue order = refl

pub line-take_out : (name : List ℕ) (held waiting : Table Row) (order : ℕ) (r : Row) → is_rising waiting ≡ true → find waiting order ≡ Some r → cond (bytes_eq r.name name) (without_waiter (line_of name held waiting) order) (line_of name held waiting) ≡ line_of name held (without_order order waiting)
line-take_out name held waiting order r rise f =
    cond_queue (bytes_eq r.name name) _ _ _ order ∙ ap (λ q. record { shared = (line_of name held waiting).shared; exclusive = (line_of name held waiting).exclusive; queue = q }) (sym (queue-without name order r waiting (bytes_eq r.name name) refl rise f))

-- A waiting request, and its line

line-named_step : (order : ℕ) (r : Row) (p : ℕ × Row) (ps : Table Row) → (p.0 ≡ order → p.1 ≡ r → bytes_eq p.1.name r.name ≡ true) → (find ps order ≡ Some r → length (orders_in (filter (λ (q : ℕ × Row). bytes_eq q.1.name r.name) ps)) ≡ 0 → ⊥) → find (p ∷ ps) order ≡ Some r → length (orders_in (filter (λ (q : ℕ × Row). bytes_eq q.1.name r.name) (p ∷ ps))) ≡ 0 → ⊥
line-named_step order r p ps at below f e = grind (arith, nat_tests)

no_request : (order : ℕ) (r : Row) → None ≡ Some r → ⊥
no_request order r e = cc

named-self : (p r : Row) → p ≡ r → bytes_eq p.name r.name ≡ true
named-self p r e = (bytes_eq-Decides p.name r.name).1 (ap (λ x. x.name) e)

pub line-named : (order : ℕ) (r : Row) (ps : Table Row) → find ps order ≡ Some r → length (orders_in (filter (λ (q : ℕ × Row). bytes_eq q.1.name r.name) ps)) ≡ 0 → ⊥
line-named order r [] f e = no_request order r f
line-named order r (p ∷ ps) f e =
    line-named_step order r p ps (λ a b. named-self p.1 r b) (line-named order r ps) f e

-- Capacity of a line

no_room : 0 < 0 → ⊥
no_room l = omega (arith, l)

pub room-line : (o : Option NameLine) → 0 < option_map_or line_room o 0 → IsSome o
room-line (Some x) l = search rules
room-line None l = absurd (no_room l)
