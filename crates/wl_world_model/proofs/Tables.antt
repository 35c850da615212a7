-- Lookups in a table.
use Rattle.std.proofs.Common.{◌≢◌, ⊎_elim, ℕ, Option, Some, sym, subst}
use Rattle.std.proofs.lemmas.Bool.{cases_eq}
use Rattle.wl_draft.specs.Tables.{Table, find, put}
use Rattle.wl_draft.proofs.TableLemmas.{find-put_same, find-put_other}

-- A property holds of every lookup if it holds of the new value at its number and of all other lookups.
pub each_found : {X : Type 0} (P : ℕ → Option X → Type 0) (k : ℕ) (x : X) (ps : Table X) → P k (Some x) → ((j : ℕ) → k ≢ j → P j (find ps j)) → (j : ℕ) → P j (find (put k x ps) j)
each_found P k x ps now elsewhere j = ⊎_elim
    (λ e. subst (λ z. P z (find (put k x ps) z)) e (subst (P k) (sym (find-put_same k x ps)) now))
    (λ n. subst (P j) (sym (find-put_other k x ps j (λ e. n (sym e)))) (elsewhere j n))
    (cases_eq k j)
