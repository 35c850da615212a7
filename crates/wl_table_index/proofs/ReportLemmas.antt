-- Rows of a client's report.
use Rattle.std.proofs.Common.{◌≡◌, ℕ, ◌+◌, suc, Bool, true, false, ◌&&◌, not, List, [], ◌∷◌, ◌++◌, length, refl, ap, ◌∙◌, arith}
use Rattle.std.specs.Prelude.{filter, ◌==◌}
use Rattle.std.proofs.lemmas.Bool.Decides.{nat_tests}
use Rattle.wl_draft.specs.declared.row.Row.{Row}
use Rattle.wl_draft.specs.declared.row.Entry.{Entry}
use Rattle.wl_draft.specs.Tables.{Table}
use Rattle.wl_draft.specs.Locks.{rows_of, held_of, waiting_of, restored}
use Rattle.wl_table_index.specs.OrderNumbers.{values_in}
use Rattle.wl_table_index.specs.Index.{locks_in, are_of}

mine-step : (client : ℕ) (b : Bool) → b ≡ true → (client == client && b) ≡ true
mine-step client b e = grind (arith, nat_tests)

rows-mine : (client : ℕ) (entries : List Entry) → are_of client (rows_of client entries) ≡ true
rows-mine client [] = refl
rows-mine client (e ∷ es) = mine-step client (are_of client (rows_of client es)) (rows-mine client es)

pub held-mine : (client : ℕ) (entries : List Entry) (rows : List Row) → rows ≡ held_of client entries → are_of client rows ≡ true
held-mine client entries rows e = ap (λ rs. are_of client rs) e ∙ rows-mine client (filter (λ x. x.held) entries)

pub waiting-mine : (client : ℕ) (entries : List Entry) (rows : List Row) → rows ≡ waiting_of client entries → are_of client rows ≡ true
waiting-mine client entries rows e = ap (λ rs. are_of client rs) e ∙ rows-mine client (filter (λ x. not x.held) entries)

length-step : (e : Entry) (es : List Entry) (b : Bool) → e.held ≡ b → length (filter (λ (x : Entry). x.held) es) + length (filter (λ (x : Entry). not x.held) es) ≡ length es → length (filter (λ (x : Entry). x.held) (e ∷ es)) + length (filter (λ (x : Entry). not x.held) (e ∷ es)) ≡ length (e ∷ es)
length-step e es true h below = rw h (omega (arith, below))
length-step e es false h below = rw h (omega (arith, below))

split-length : (es : List Entry) → length (filter (λ (x : Entry). x.held) es) + length (filter (λ (x : Entry). not x.held) es) ≡ length es
split-length [] = refl
split-length (e ∷ es) = length-step e es e.held refl (split-length es)

rows-length : (client : ℕ) (es : List Entry) → length (rows_of client es) ≡ length es
rows-length client [] = refl
rows-length client (e ∷ es) = ap suc (rows-length client es)

-- Each entry of a report becomes one row.
pub entries-length : (client : ℕ) (entries : List Entry) (held waiting : List Row) → held ≡ held_of client entries → waiting ≡ waiting_of client entries → length held + length waiting ≡ length entries
entries-length client entries held waiting h w =
    omega (arith, ap (λ rs. length rs) h, ap (λ rs. length rs) w, rows-length client (filter (λ (x : Entry). x.held) entries), rows-length client (filter (λ (x : Entry). not x.held) entries), split-length entries)

values-same : (rows : Table Row) → length (values_in rows) ≡ length rows
values-same [] = refl
values-same (p ∷ ps) = ap suc (values-same ps)

length-both : (xs ys : List Row) → length (xs ++ ys) ≡ length xs + length ys
length-both [] ys = omega arith
length-both (x ∷ xs) ys = omega (arith, length-both xs ys)

pub values-length : (new old : Table Row) (more : List Row) → values_in new ≡ values_in old ++ more → length new ≡ length old + length more
values-length new old more e =
    omega (arith, values-same new, values-same old, ap (λ vs. length vs) e, length-both (values_in old) more)

pub restored-in : (client : ℕ) (entries : List Entry) (held waiting newly_held newly_waiting : Table Row) → values_in newly_held ≡ values_in held ++ held_of client entries → values_in newly_waiting ≡ values_in waiting ++ waiting_of client entries → locks_in newly_held newly_waiting ≡ restored client entries (locks_in held waiting)
unfolding restored
restored-in client entries held waiting newly_held newly_waiting h w =
    ap (λ vs. record { held = vs; waiting = values_in newly_waiting }) h ∙ ap (λ vs. record { held = values_in held ++ held_of client entries; waiting = vs }) w
