-- Rows in slots: an order number tells the slot of its row, so the slots determine the list.
use Rattle.std.proofs.Common.{◌≡◌, ◌⊎◌, inl, inr, ℕ, ◌+◌, ◌<◌, ◌^◌, zero, suc, true, false, Bool, cond, List, [], ◌∷◌, ◌++◌, Option, Some, None, length, get_or, refl, sym, ap, ◌∙◌, arith}
use Rattle.std.specs.Prelude.{nat_eq}
use Rattle.std.specs.Map.{lookup, keys_of}
use Rattle.std.specs.List.{IsDistinct, AllByRecursion}
use Rattle.std.proofs.lemmas.Bool.{cases_eq}
use Rattle.std.proofs.lemmas.Bool.Decides.{nat_tests}
use Rattle.std.proofs.lemmas.List.{length-map}
use Rattle.slab.specs.Slab.{Slab, get, entries, entries_from, slab_len, Updates}
use Rattle.slab.proofs.SlabLemmas.{length-entries}
use Rattle.wl_draft.specs.Tables.{find}
use Rattle.wl_draft.specs.declared.row.Row.{Row}
use Rattle.wl_table_index.specs.OrderNumbers.{ordered, is_below, without_order, order_at, slot_of}
use Rattle.wl_table_index.specs.Slots.{rows_in, AreInSlots}
use Rattle.wl_table_index.specs.declared.rows.StoredRow.{StoredRow}
use Rattle.wl_table_index.proofs.OrderLemmas.{find-ordered, length-ordered, ordered-push, ordered-remove}

-- The slot of an order number

pub slot-at : (turn slot : ℕ) → slot < 2 ^ 64 → slot_of (order_at turn slot) ≡ slot
unfolding slot_of
slot-at turn slot l = omega arith

same-number : (j k : ℕ) → nat_eq j k ≡ true → j ≡ k
same-number j k e = grind (arith, nat_tests)

apart_step : (j k : ℕ) (b : Bool) → nat_eq j k ≡ b → (slot_of j ≡ slot_of k → ⊥) → b ≡ false
apart_step j k true e f = absurd (f (ap slot_of (same-number j k e)))
apart_step j k false e f = refl

apart : (j k : ℕ) → (slot_of j ≡ slot_of k → ⊥) → nat_eq j k ≡ false
apart j k f = apart_step j k (nat_eq j k) refl f

-- Rows of consecutive slots, from a given key on

abbrev AreFrom : ℕ → List (Option StoredRow) → Type 0
AreFrom first slots = (i : ℕ) (s : StoredRow) → get_or slots i None ≡ Some s → slot_of s.order ≡ first + i

later : (first : ℕ) (slot : Option StoredRow) (slots : List (Option StoredRow)) → AreFrom first (slot ∷ slots) → AreFrom (first + 1) slots
later first slot slots a = λ i s e. omega (arith, a (suc i) s e)

abbrev pub row_at : ℕ → Option StoredRow → Option Row
row_at k None = None
row_at k (Some s) = cond (nat_eq s.order k) (Some s.row) None

lookup-skip : (k j : ℕ) (r : Row) (ps : List (ℕ × Row)) → nat_eq k j ≡ false → lookup (nat_eq k) ((j, r) ∷ ps) ≡ lookup (nat_eq k) ps
lookup-skip k j r ps e = rw e refl

lookup-here : (k j : ℕ) (r : Row) (ps : List (ℕ × Row)) → lookup (nat_eq k) ps ≡ None → lookup (nat_eq k) ((j, r) ∷ ps) ≡ cond (nat_eq j k) (Some r) None
lookup-here k j r ps e = grind (arith, nat_tests)

lookup-before : (k first : ℕ) (slots : List (Option StoredRow)) → AreFrom first slots → slot_of k < first → lookup (nat_eq k) (rows_in (entries_from first slots)) ≡ None
lookup-before k first [] a l = refl
lookup-before k first (None ∷ rest) a l = lookup-before k (first + 1) rest (later first None rest a) (omega (arith, l))
lookup-before k first (Some s ∷ rest) a l =
    let slot = a 0 s refl in
    lookup-skip k s.order s.row (rows_in (entries_from (first + 1) rest)) (apart k s.order (λ e. omega (arith, e, slot, l))) ∙ lookup-before k (first + 1) rest (later first (Some s) rest a) (omega (arith, l))

lookup-slots : (k first at : ℕ) (slots : List (Option StoredRow)) → AreFrom first slots → slot_of k ≡ first + at → lookup (nat_eq k) (rows_in (entries_from first slots)) ≡ row_at k (get_or slots at None)
lookup-slots k first at [] a e = refl
lookup-slots k first zero (None ∷ rest) a e = lookup-before k (first + 1) rest (later first None rest a) (omega (arith, e))
lookup-slots k first (suc at) (None ∷ rest) a e = lookup-slots k (first + 1) at rest (later first None rest a) (omega (arith, e))
lookup-slots k first zero (Some s ∷ rest) a e =
    lookup-here k s.order s.row (rows_in (entries_from (first + 1) rest)) (lookup-before k (first + 1) rest (later first (Some s) rest a) (omega (arith, e)))
lookup-slots k first (suc at) (Some s ∷ rest) a e =
    let slot = a 0 s refl in
    lookup-skip k s.order s.row (rows_in (entries_from (first + 1) rest)) (apart k s.order (λ f. omega (arith, e, f, slot))) ∙ lookup-slots k (first + 1) at rest (later first (Some s) rest a) (omega (arith, e))

from-zero : (rows : Slab StoredRow) → AreInSlots rows → AreFrom 0 rows.slots
from-zero rows a = λ i s e. omega (arith, a i s e)

lookup-slab : (rows : Slab StoredRow) (k : ℕ) → AreInSlots rows → lookup (nat_eq k) (rows_in (entries rows)) ≡ row_at k (get rows (slot_of k))
lookup-slab rows k a = lookup-slots k 0 (slot_of k) rows.slots (from-zero rows a) (omega arith)

pub find-slab : (rows : Slab StoredRow) (k : ℕ) → AreInSlots rows → find (ordered (rows_in (entries rows))) k ≡ row_at k (get rows (slot_of k))
find-slab rows k a = find-ordered (rows_in (entries rows)) k ∙ lookup-slab rows k a

-- Number of rows

all-apart : (k first : ℕ) (slots : List (Option StoredRow)) → AreFrom first slots → slot_of k < first → AllByRecursion (λ j. nat_eq k j ≡ false) (keys_of (rows_in (entries_from first slots)))
all-apart k first [] a l = tt
all-apart k first (None ∷ rest) a l = all-apart k (first + 1) rest (later first None rest a) (omega (arith, l))
all-apart k first (Some s ∷ rest) a l =
    let slot = a 0 s refl in
    (apart k s.order (λ e. omega (arith, e, slot, l)), all-apart k (first + 1) rest (later first (Some s) rest a) (omega (arith, l)))

distinct-slots : (first : ℕ) (slots : List (Option StoredRow)) → AreFrom first slots → IsDistinct nat_eq (keys_of (rows_in (entries_from first slots)))
unfolding IsDistinct
distinct-slots first [] a = tt
distinct-slots first (None ∷ rest) a = distinct-slots (first + 1) rest (later first None rest a)
distinct-slots first (Some s ∷ rest) a =
    let slot = a 0 s refl in
    (all-apart s.order (first + 1) rest (later first (Some s) rest a) (omega (arith, slot)), distinct-slots (first + 1) rest (later first (Some s) rest a))

pub distinct-slab : (rows : Slab StoredRow) → AreInSlots rows → IsDistinct nat_eq (keys_of (rows_in (entries rows)))
distinct-slab rows a = distinct-slots 0 rows.slots (from-zero rows a)

pub length-slab : (rows : Slab StoredRow) → AreInSlots rows → length (ordered (rows_in (entries rows))) ≡ slab_len rows
length-slab rows a =
    length-ordered (rows_in (entries rows)) (distinct-slab rows a) ∙ length-map (entries rows) (λ (p : ℕ × StoredRow). (p.1.order, p.1.row)) ∙ length-entries rows

-- Appending a row

pub row-same : (s t : StoredRow) → Some s ≡ Some t → s.order ≡ t.order
row-same s t e = cc

in-slots_step : (new : Slab StoredRow) (k slot : ℕ) (o : Option StoredRow) (t : StoredRow) → slot_of k ≡ slot → get new slot ≡ o → ((u : StoredRow) → o ≡ Some u → u.order ≡ k) → get new slot ≡ Some t → slot_of t.order ≡ slot
in-slots_step new k slot o t e f is g = ap slot_of (is t (sym f ∙ g)) ∙ e

pub slots-updated : (old new : Slab StoredRow) (k slot : ℕ) (o : Option StoredRow) → AreInSlots old → slot_of k ≡ slot → Updates old new slot o → ((u : StoredRow) → o ≡ Some u → u.order ≡ k) → AreInSlots new
slots-updated old new k slot o a e u is = λ i t f. elim (cases_eq i slot) [
  | inl same ↦ in-slots_step new k i o t (e ∙ sym same) (ap (get new) same ∙ u.changed) is f
  | inr other ↦ a i t (sym (u.others i other) ∙ f)
]

at-same : (k : ℕ) (o : Option StoredRow) → (o ≡ None) ⊎ ((s : StoredRow) × (o ≡ Some s) × (s.order ≡ k)) → (j : ℕ) → row_at j o ≡ cond (nat_eq k j) (row_at j o) None
at-same k o (inl n) j = rw n (same_cond (nat_eq k j) None)
  where
    same_cond : (b : Bool) (r : Option Row) → r ≡ cond b r r
    same_cond true r = refl
    same_cond false r = refl
at-same k o (inr s) j = rw (s.1, s.2) (twice (nat_eq k j) s.0.row)
  where
    twice : (b : Bool) (r : Row) → cond b (Some r) None ≡ cond b (cond b (Some r) None) None
    twice true r = refl
    twice false r = refl

-- The rows after a slot has been changed. What it had, and what it has, is of one order number.
pub lookup-updated : (old new : Slab StoredRow) (k slot : ℕ) (was is : Option StoredRow) → AreInSlots old → AreInSlots new → slot_of k ≡ slot → Updates old new slot is → get old slot ≡ was → (was ≡ None) ⊎ ((s : StoredRow) × (was ≡ Some s) × (s.order ≡ k)) → (is ≡ None) ⊎ ((s : StoredRow) × (is ≡ Some s) × (s.order ≡ k)) → (j : ℕ) → lookup (nat_eq j) (rows_in (entries new)) ≡ cond (nat_eq k j) (row_at k is) (lookup (nat_eq j) (rows_in (entries old)))
lookup-updated old new k slot was is a b e u w before after j =
    rw (lookup-slab new j b, lookup-slab old j a) (elim (cases_eq (slot_of j) slot) [
      | inl same ↦ rw (ap (get new) same ∙ u.changed, ap (get old) same ∙ w) (here (nat_eq k j) refl)
      | inr other ↦ rw (u.others (slot_of j) other, apart k j (λ f. other (sym f ∙ e))) refl
    ])
  where
    here : (b : Bool) → nat_eq k j ≡ b → row_at j is ≡ cond (nat_eq k j) (row_at k is) (row_at j was)
    here true f = rw f (ap (λ i. row_at i is) (sym (same-number k j f)))
    here false f = rw f (at-same k is after j ∙ rw f (sym (at-same k was before j ∙ rw f refl)))

pub pushed-slab : (old new : Slab StoredRow) (s : StoredRow) (slot : ℕ) → AreInSlots old → slot_of s.order ≡ slot → get old slot ≡ None → Updates old new slot (Some s) → is_below (ordered (rows_in (entries old))) s.order ≡ true → ordered (rows_in (entries new)) ≡ ordered (rows_in (entries old)) ++ (s.order, s.row) ∷ []
pushed-slab old new s slot a e n u below =
    let b : AreInSlots new = slots-updated old new s.order slot (Some s) a e u (λ t f. sym (row-same s t f)) in
    ordered-push (rows_in (entries old)) (rows_in (entries new)) s.order s.row below (λ j. lookup-updated old new s.order slot None (Some s) a b e u n (inl refl) (inr (s, refl, refl)) j ∙ ap (λ o. cond (nat_eq s.order j) o (lookup (nat_eq j) (rows_in (entries old)))) (self s))
  where
    self : (s : StoredRow) → row_at s.order (Some s) ≡ Some s.row
    self s = grind (arith, nat_tests)

-- Removing a row

pub removed-slab : (old new : Slab StoredRow) (s : StoredRow) (k slot : ℕ) → AreInSlots old → slot_of k ≡ slot → get old slot ≡ Some s → s.order ≡ k → Updates old new slot None → ordered (rows_in (entries new)) ≡ without_order k (ordered (rows_in (entries old)))
removed-slab old new s k slot a e w o u =
    let b : AreInSlots new = slots-updated old new k slot None a e u (λ t f. absurd (none_row t f)) in
    ordered-remove (rows_in (entries old)) (rows_in (entries new)) k (λ j. lookup-updated old new k slot (Some s) None a b e u w (inr (s, refl, o)) (inl refl) j)
  where
    none_row : (t : StoredRow) → None ≡ Some t → ⊥
    none_row t f = cc
