-- Tables of tabs as the entries of a `BTreeMap`: lookup of an existing row, and writing it.
use Rattle.std.proofs.Common.{◌≡◌, ⊎_elim, ℕ, ◌+◌, ◌≤◌, Bool, true, false, cond, [], ◌∷◌, Some, None, is_some, refl, sym, ap, ◌∙◌, subst, arith}
use Rattle.std.proofs.lemmas.Bool.{cases_eq}
use Rattle.std.proofs.lemmas.Map.Keys.{IsStrictlyIncreasing-from_sorted, sorted_tail}
use Rattle.std.specs.Ordering.{nat_cmp}
use Rattle.std.specs.BTreeMap.{is_at}
use Rattle.std.specs.Map.{lookup, set_value, keys_of}
use Rattle.std.specs.List.Sorted.{IsStrictlySortedBy}
use Rattle.wl_draft.specs.Tables.{Table, find, put, Rises}
use Rattle.wl_draft.proofs.TableLemmas.{lookup-find, find-put_same, find-put_other}
use Rattle.wl_draft.proofs.RisingTables.{written_same}
use Rattle.wl_agent.proofs.Rows.{written}

-- Sorted keys rise from row to row.
rises_from : {X : Type 0} (least : ℕ) (p : ℕ × X) (ps : Table X) → least ≤ p.0 → IsStrictlySortedBy nat_cmp (keys_of (p ∷ ps)) → Rises least (p ∷ ps)
rises_from least p [] low o = (low, tt)
rises_from least p (q ∷ ps) low o =
    (low, rises_from (p.0 + 1) q ps (omega (arith, IsStrictlyIncreasing-from_sorted (keys_of (p ∷ q ∷ ps)) o 0 (omega arith))) (sorted_tail nat_cmp p.0 (keys_of (q ∷ ps)) o))

rises : {X : Type 0} (es : Table X) → IsStrictlySortedBy nat_cmp (keys_of es) → Rises 0 es
rises [] o = tt
rises (p ∷ ps) o = rises_from 0 p ps (omega arith) o

pub find_there : {X : Type 0} {x : X} (k : ℕ) (es : Table X) → Some x ≡ lookup (is_at (nat_cmp k)) es → find es k ≡ Some x
find_there k es e = sym (lookup-find es k) ∙ sym e

pub find_absent : {X : Type 0} (k : ℕ) (es : Table X) → None ≡ lookup (is_at (nat_cmp k)) es → find es k ≡ None
find_absent k es e = sym (lookup-find es k) ∙ sym e

-- Writing an existing row puts it into the table.
pub written_as : {X : Type 0} {w x : X} (k : ℕ) (y : X) (es : Table X) {qs : Table X} → IsStrictlySortedBy nat_cmp (keys_of es) → Some x ≡ lookup (is_at (nat_cmp k)) es → qs ≡ set_value (is_at (nat_cmp k)) es w → w ≡ y → qs ≡ put k y es
written_as k y es o e h v = written k _ _ es _ (rises es o) e h ∙ ap (λ z. put k z es) v

-- Writing an existing row adds and removes no row.
pub written_rows : {X : Type 0} {x : X} (k : ℕ) (w : X) (es : Table X) {qs : Table X} → IsStrictlySortedBy nat_cmp (keys_of es) → Some x ≡ lookup (is_at (nat_cmp k)) es → qs ≡ set_value (is_at (nat_cmp k)) es w → (t : ℕ) → is_some (find qs t) ≡ is_some (find es t)
written_rows k w es o e h t =
    ap (λ zs. is_some (find zs t)) (written_as k w es o e h refl)
    ∙ ⊎_elim
    (λ s. subst (λ z. is_some (find (put k w es) z) ≡ is_some (find es z)) s (ap is_some (find-put_same k w es) ∙ sym (ap is_some (find_there k es e))))
    (λ n. ap is_some (find-put_other k w es t (λ z. n (sym z))))
    (cases_eq k t)

-- Writing an existing row replaces it or leaves it as it is.
pub written_if : {X : Type 0} {w x : X} (k : ℕ) (y : X) (b : Bool) (es : Table X) {qs : Table X} → IsStrictlySortedBy nat_cmp (keys_of es) → Some x ≡ lookup (is_at (nat_cmp k)) es → qs ≡ set_value (is_at (nat_cmp k)) es w → w ≡ cond b y x → qs ≡ cond b (put k y es) es
written_if k y true es o e h v = written_as k y es o e h v
written_if k y false es o e h v = written_same k _ _ es _ e h v
