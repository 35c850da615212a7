-- Removal of rows, one by one.
use Rattle.std.proofs.Common.{◌≡◌, ℕ, Bool, true, false, ◌&&◌, not, cond, List, [], ◌∷◌, Option, Some, None, refl, sym, ap, ◌∙◌, arith}
use Rattle.std.specs.Prelude.{◌==◌, bytes_eq}
use Rattle.std.proofs.lemmas.Bool.Decides.{nat_tests}
use Rattle.wl_draft.specs.declared.mode.Mode.{Mode}
use Rattle.wl_draft.specs.declared.row.Row.{Row}
use Rattle.wl_draft.specs.Tables.{Table, find}
use Rattle.wl_draft.specs.Locks.{is_free, without, without_client, released, aborted, ended}
use Rattle.wl_table_index.specs.OrderNumbers.{values_in, is_above, is_rising, without_order}
use Rattle.wl_table_index.specs.declared.holdings.Removal.TheVariants.{Release, Abort, End}
use Rattle.wl_table_index.specs.Index.{locks_in}
use Rattle.wl_table_index.specs.Nexts.{first_named, if_free, left_by}
use Rattle.wl_table_index.proofs.WithoutLemmas.{without-above}

-- No request of another name becomes grantable

free-without_step : (name : List ℕ) (mode : Mode) (order : ℕ) (r : Row) (p : ℕ × Row) (ps : Table Row) → (p.1 ≡ r → bytes_eq p.1.name name ≡ false) → (is_rising ps ≡ true → find ps order ≡ Some r → is_free name mode (values_in (without_order order ps)) ≡ is_free name mode (values_in ps)) → (is_above p.0 ps ≡ true → without_order p.0 ps ≡ ps) → is_rising (p ∷ ps) ≡ true → find (p ∷ ps) order ≡ Some r → is_free name mode (values_in (without_order order (p ∷ ps))) ≡ is_free name mode (values_in (p ∷ ps))
free-without_step name mode order r p ps other below same rise f = grind (arith, nat_tests)

name-other : (name : List ℕ) (p r : Row) → bytes_eq r.name name ≡ false → p ≡ r → bytes_eq p.name name ≡ false
name-other name p r e s = ap (λ x. bytes_eq x.name name) s ∙ e

free-without : (name : List ℕ) (mode : Mode) (order : ℕ) (r : Row) (ps : Table Row) → bytes_eq r.name name ≡ false → is_rising ps ≡ true → find ps order ≡ Some r → is_free name mode (values_in (without_order order ps)) ≡ is_free name mode (values_in ps)
free-without name mode order r [] e rise f = refl
free-without name mode order r (p ∷ ps) e rise f =
    free-without_step name mode order r p ps (name-other name p.1 r e) (free-without name mode order r ps e) (without-above p.0 ps) rise f

pub if-without : (name : List ℕ) (order : ℕ) (r : Row) (held : Table Row) (o : Option (ℕ × Row)) → bytes_eq r.name name ≡ false → is_rising held ≡ true → find held order ≡ Some r → if_free name (without_order order held) o ≡ if_free name held o
if-without name order r held None e rise f = refl
if-without name order r held (Some p) e rise f =
    ap (λ b. cond b (Some p.0) None) (free-without name p.1.mode order r held e rise f)

first-without_step : (name : List ℕ) (order : ℕ) (r : Row) (p : ℕ × Row) (ps : Table Row) → (p.1 ≡ r → bytes_eq p.1.name name ≡ false) → (is_rising ps ≡ true → find ps order ≡ Some r → first_named name (without_order order ps) ≡ first_named name ps) → (is_above p.0 ps ≡ true → without_order p.0 ps ≡ ps) → is_rising (p ∷ ps) ≡ true → find (p ∷ ps) order ≡ Some r → first_named name (without_order order (p ∷ ps)) ≡ first_named name (p ∷ ps)
first-without_step name order r p ps other below same rise f = grind (arith, nat_tests)

pub first-without : (name : List ℕ) (order : ℕ) (r : Row) (ps : Table Row) → bytes_eq r.name name ≡ false → is_rising ps ≡ true → find ps order ≡ Some r → first_named name (without_order order ps) ≡ first_named name ps
first-without name order r [] e rise f = refl
first-without name order r (p ∷ ps) e rise f =
    first-without_step name order r p ps (name-other name p.1 r e) (first-without name order r ps e) (without-above p.0 ps) rise f

-- The draft's terms

values-pair_step : (client number : ℕ) (p : ℕ × Row) (ps : Table Row) → values_in (left_by client (Abort number) true ps) ≡ without client number (values_in ps) → values_in (left_by client (Abort number) true (p ∷ ps)) ≡ without client number (values_in (p ∷ ps))
values-pair_step client number p ps below = grind (arith, nat_tests)

values-pair : (client number : ℕ) (ps : Table Row) → values_in (left_by client (Abort number) true ps) ≡ without client number (values_in ps)
values-pair client number [] = refl
values-pair client number (p ∷ ps) = values-pair_step client number p ps (values-pair client number ps)

values-client_step : (client : ℕ) (p : ℕ × Row) (ps : Table Row) → values_in (left_by client End true ps) ≡ without_client client (values_in ps) → values_in (left_by client End true (p ∷ ps)) ≡ without_client client (values_in (p ∷ ps))
values-client_step client p ps below = grind (arith, nat_tests)

values-client : (client : ℕ) (ps : Table Row) → values_in (left_by client End true ps) ≡ without_client client (values_in ps)
values-client client [] = refl
values-client client (p ∷ ps) = values-client_step client p ps (values-client client ps)

waiting-left_step : (client number : ℕ) (p : ℕ × Row) (ps : Table Row) → left_by client (Release number) false ps ≡ ps → left_by client (Release number) false (p ∷ ps) ≡ p ∷ ps
waiting-left_step client number p ps below = grind (arith, nat_tests)

waiting-left : (client number : ℕ) (ps : Table Row) → left_by client (Release number) false ps ≡ ps
waiting-left client number [] = refl
waiting-left client number (p ∷ ps) = waiting-left_step client number p ps (waiting-left client number ps)

pub released-in : (client number : ℕ) (held waiting : Table Row) → locks_in (left_by client (Release number) true held) (left_by client (Release number) false waiting) ≡ released client number (locks_in held waiting)
unfolding released
released-in client number held waiting =
    ap (λ h. record { held = h; waiting = values_in (left_by client (Release number) false waiting) }) (values-pair client number held) ∙ ap (λ w. record { held = without client number (values_in held); waiting = values_in w }) (waiting-left client number waiting)

pub aborted-in : (client number : ℕ) (held waiting : Table Row) → locks_in (left_by client (Abort number) true held) (left_by client (Abort number) false waiting) ≡ aborted client number (locks_in held waiting)
unfolding aborted
aborted-in client number held waiting =
    ap (λ h. record { held = h; waiting = values_in (left_by client (Abort number) false waiting) }) (values-pair client number held) ∙ ap (λ v. record { held = without client number (values_in held); waiting = v }) (values-pair client number waiting)

pub ended-in : (client : ℕ) (held waiting : Table Row) → locks_in (left_by client End true held) (left_by client End false waiting) ≡ ended client (locks_in held waiting)
unfolding ended
ended-in client held waiting =
    ap (λ h. record { held = h; waiting = values_in (left_by client End false waiting) }) (values-client client held) ∙ ap (λ v. record { held = without_client client (values_in held); waiting = v }) (values-client client waiting)
