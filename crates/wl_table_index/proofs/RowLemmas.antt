-- A row in its slot.
use Rattle.std.proofs.Common.{◌≡◌, ℕ, true, false, Bool, cond, Option, Some, None, refl, sym, ap, ◌∙◌, arith}
use Rattle.std.specs.Prelude.{nat_eq, is_none}
use Rattle.std.proofs.lemmas.Bool.Decides.{nat_tests}
use Rattle.slab.specs.Slab.{Slab, get, entries}
use Rattle.wl_draft.specs.Tables.{find}
use Rattle.wl_draft.specs.declared.row.Row.{Row}
use Rattle.wl_table_index.specs.OrderNumbers.{ordered, slot_of}
use Rattle.wl_table_index.specs.Slots.{rows_in, AreInSlots}
use Rattle.wl_table_index.specs.declared.rows.StoredRow.{StoredRow}
use Rattle.wl_table_index.proofs.SlotLemmas.{find-slab, row_at}

same_test : (j k : ℕ) → j ≡ k → nat_eq j k ≡ true
same_test j k e = grind (arith, nat_tests)

other_test : (j k : ℕ) → (j ≡ k → ⊥) → nat_eq j k ≡ false
other_test j k f = grind (arith, nat_tests)

test_same : (j k : ℕ) → nat_eq j k ≡ true → j ≡ k
test_same j k e = grind (arith, nat_tests)

find-slot : (rows : Slab StoredRow) (k slot : ℕ) (o : Option StoredRow) → AreInSlots rows → slot ≡ slot_of k → o ≡ get rows slot → find (ordered (rows_in (entries rows))) k ≡ row_at k o
find-slot rows k slot o a e g = find-slab rows k a ∙ ap (λ i. row_at k (get rows i)) (sym e) ∙ ap (row_at k) (sym g)

pub found-row : (rows : Slab StoredRow) (k slot : ℕ) (s : StoredRow) → AreInSlots rows → slot ≡ slot_of k → Some s ≡ get rows slot → s.order ≡ k → Some s.row ≡ find (ordered (rows_in (entries rows))) k
found-row rows k slot s a e g o = sym (find-slot rows k slot (Some s) a e g ∙ rw (same_test s.order k o) refl)

pub other-row : (rows : Slab StoredRow) (k slot : ℕ) (s : StoredRow) → AreInSlots rows → slot ≡ slot_of k → Some s ≡ get rows slot → (s.order ≡ k → ⊥) → None ≡ find (ordered (rows_in (entries rows))) k
other-row rows k slot s a e g o = sym (find-slot rows k slot (Some s) a e g ∙ rw (other_test s.order k o) refl)

pub no-row : (rows : Slab StoredRow) (k slot : ℕ) → AreInSlots rows → slot ≡ slot_of k → None ≡ get rows slot → None ≡ find (ordered (rows_in (entries rows))) k
no-row rows k slot a e g = sym (find-slot rows k slot None a e g)

row-order_step : (k : ℕ) (s : StoredRow) (b : Bool) → nat_eq s.order k ≡ b → is_none (cond {A = Option Row} b (Some s.row) None) ≡ false → s.order ≡ k
row-order_step k s true e f = test_same s.order k e
row-order_step k s false e f = cc

-- A slot that is not empty, of a number that has a row, has that row.
pub row-order : (rows : Slab StoredRow) (k slot : ℕ) (s : StoredRow) → AreInSlots rows → slot ≡ slot_of k → Some s ≡ get rows slot → is_none (find (ordered (rows_in (entries rows))) k) ≡ false → s.order ≡ k
row-order rows k slot s a e g n =
    row-order_step k s (nat_eq s.order k) refl (ap is_none (sym (find-slot rows k slot (Some s) a e g)) ∙ n)

pub row-there : (rows : Slab StoredRow) (k slot : ℕ) → AreInSlots rows → slot ≡ slot_of k → None ≡ get rows slot → is_none (find (ordered (rows_in (entries rows))) k) ≡ false → ⊥
row-there rows k slot a e g n = not_none (ap is_none (sym (find-slot rows k slot None a e g)) ∙ n)
  where
    not_none : true ≡ false → ⊥
    not_none e = cc
