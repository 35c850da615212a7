-- Effect of writes through a `BTreeMap` on a table.
use Rattle.std.proofs.Common.{◌≡◌, ℕ, true, ltb, [], ◌∷◌, Some, None, IsSome, is_some, refl, sym, ap, ◌∙◌, arith}
use Rattle.std.proofs.lemmas.Bool.Decides.{nat_tests}
use Rattle.std.proofs.lemmas.Map.{lookup-none}
use Rattle.std.proofs.lemmas.Map.Entries.{none_below_head}
use Rattle.std.proofs.lemmas.Map.Keys.{sorted_tail}
use Rattle.std.specs.Cmp.{nat_cmp_total}
use Rattle.std.specs.Ordering.{nat_cmp}
use Rattle.std.specs.declared.cmp.Ordering.TheVariants.{Less}
use Rattle.std.specs.BTreeMap.{is_at, insert_entry}
use Rattle.std.specs.Map.{lookup, set_value, keys_of}
use Rattle.std.specs.List.Sorted.{IsStrictlySortedBy}
use Rattle.wl_draft.specs.Tables.{Table, find, put}
use Rattle.wl_draft.proofs.TableLemmas.{lookup-find, insert_entry-put}

-- Overwriting a row

less_from_ltb : (k q : ℕ) → ltb k q ≡ true → nat_cmp k q ≡ Less
less_from_ltb k q e = rw e refl

-- A number below the first row has no row.
find-below : {X : Type 0} (k : ℕ) (p : ℕ × X) (ps : Table X) → IsStrictlySortedBy nat_cmp (keys_of (p ∷ ps)) → ltb k p.0 ≡ true → find (p ∷ ps) k ≡ None
find-below k p ps o e =
    sym (lookup-find (p ∷ ps) k) ∙ lookup-none (is_at (nat_cmp k)) (p ∷ ps) (none_below_head nat_cmp_total k p ps o (less_from_ltb k p.0 e))

set_value-put_step : {X : Type 0} (k : ℕ) (w : X) (p : ℕ × X) (ps : Table X) → (ltb k p.0 ≡ true → find (p ∷ ps) k ≡ None) → IsSome (find (p ∷ ps) k) → (IsSome (find ps k) → set_value (is_at (nat_cmp k)) ps w ≡ put k w ps) → set_value (is_at (nat_cmp k)) (p ∷ ps) w ≡ put k w (p ∷ ps)
set_value-put_step k w p ps low there below = grind (arith, nat_tests)

pub set_value-put : {X : Type 0} (k : ℕ) (w : X) (ps : Table X) → IsStrictlySortedBy nat_cmp (keys_of ps) → IsSome (find ps k) → set_value (is_at (nat_cmp k)) ps w ≡ put k w ps
set_value-put k w [] o there = cc
set_value-put k w (p ∷ ps) o there =
    set_value-put_step k w p ps (find-below k p ps o) there (set_value-put k w ps (sorted_tail nat_cmp p.0 (keys_of ps) o))

-- Result of a write

-- A write through the reference that a look-up returned is a `put`.
pub written : {X : Type 0} (k : ℕ) (w x : X) (ps qs : Table X) → IsStrictlySortedBy nat_cmp (keys_of ps) → Some x ≡ lookup (is_at (nat_cmp k)) ps → qs ≡ set_value (is_at (nat_cmp k)) ps w → qs ≡ put k w ps
written k w x ps qs o e h = h ∙ set_value-put k w ps o (ap is_some (sym (lookup-find ps k) ∙ sym e))

-- An `insert` is a `put`.
pub inserted : {X : Type 0} (k : ℕ) (w x : X) (ps qs rs : Table X) → rs ≡ insert_entry nat_cmp qs k w → qs ≡ ps → w ≡ x → rs ≡ put k x ps
inserted k w x ps qs rs e same v = e ∙ insert_entry-put k w qs ∙ ap (λ ts. put k w ts) same ∙ ap (λ y. put k y ps) v
