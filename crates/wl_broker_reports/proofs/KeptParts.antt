-- Lemmas on the parts kept, when one more part is added.
use Rattle.std.proofs.Common.{◌≡◌, ℕ, ◌+◌, Bool, true, false, eqb, List, [], ◌∷◌, length, Option, Some, None, refl, sym, ap, ◌∙◌, subst, append-nil, arith}
use Rattle.std.specs.List.{flat_map}
use Rattle.std.proofs.lemmas.Bool.{and_parts, and_from, eqb-true}
use Rattle.std.proofs.lemmas.Bool.Decides.{nat_tests}
use Rattle.std.proofs.lemmas.List.Folds.{list_all-append}
use Rattle.wl_draft.specs.declared.row.Entry.{Entry}
use Rattle.wl_draft.specs.Tables.{Table, has_row, put}
use Rattle.wl_broker_reports.specs.declared.heading.PartHeader.{PartHeader}
use Rattle.wl_broker_reports.specs.ReportParts.{Partial, Told, all_below, fits, has_part, came_in, with_told, is_whole, whole_of}
use Rattle.wl_broker_reports.specs.PartialReports.{told, joining, is_kept, all_in_below}

-- One more part

pub with_told-more : (p : ℕ) (x : Told) (k : Partial) → fits x (Some k) ≡ true → record k { came = put x.part x.entries k.came } ≡ with_told p x (Some k)
unfolding with_told
with_told-more p x k e =
    let base = and_parts _ _ e in
    let parts = and_parts _ _ base.1 in
    let limit = and_parts _ _ parts.1 in
    let b : x.base ≡ k.base = eqb-true _ _ base.0 in
    let c : x.parts ≡ k.parts = eqb-true _ _ parts.0 in
    let d : x.limit ≡ k.limit = eqb-true _ _ limit.0 in
    rw (b, c, d) refl

pub with_told-first : (p : ℕ) (x : Told) → record { partition = p; base = x.base; parts = x.parts; limit = x.limit; came = put x.part x.entries [] } ≡ with_told p x None
unfolding with_told
with_told-first p x = refl

-- The report has the base of the part added last.
pub with_told-base : (p : ℕ) (x : Told) (o : Option Partial) → (with_told p x o).base ≡ x.base
unfolding with_told
with_told-base p x o = refl

pub same_base : (x : Told) (k : Partial) → fits x (Some k) ≡ true → x.base ≡ k.base
same_base x k e = eqb-true _ _ (and_parts _ _ e).0

length-put_as : {X : Type 0} (k : ℕ) (x : X) (p : ℕ × X) (ps : Table X) → (has_row ps k ≡ false → length (put k x ps) ≡ length ps + 1) → has_row (p ∷ ps) k ≡ false → length (put k x (p ∷ ps)) ≡ length (p ∷ ps) + 1
length-put_as k x p ps below e = grind (arith, nat_tests)

length-put : {X : Type 0} (k : ℕ) (x : X) (ps : Table X) → has_row ps k ≡ false → length (put k x ps) ≡ length ps + 1
length-put k x [] e = refl
length-put k x (p ∷ ps) e = length-put_as k x p ps (length-put k x ps) e

-- A part is already there if and only if it is kept.
pub there-kept : (x : Told) (o : Option Partial) → has_part x o ≡ is_kept x.part o
there-kept x None = refl
there-kept x (Some k) = refl

missing-row : (x : Told) (o : Option Partial) → has_part x o ≡ false → has_row (came_in o) x.part ≡ false
missing-row x None e = refl
missing-row x (Some k) e = e

-- A report is whole with this part if and only if all other parts are kept.
pub last-whole : (p : ℕ) (x : Told) (o : Option Partial) (b : Bool) → has_part x o ≡ false → b ≡ eqb (length (came_in o) + 1) x.parts → is_whole (with_told p x o) ≡ b
unfolding with_told
last-whole p x o b missing e =
    ap (λ n. eqb n x.parts) (length-put x.part x.entries (came_in o) (missing-row x o missing)) ∙ sym e

-- The whole report

pub whole-one : (p : ℕ) (h : PartHeader) (entries : List Entry) → whole_of (with_told p (told h entries) None) ≡ joining h entries
unfolding with_told
whole-one p h entries = ap (λ es. joining h es) (append-nil entries)

pub whole-more : (p : ℕ) (h : PartHeader) (entries items : List Entry) (k : Partial) → items ≡ flat_map (λ row. row.1) (put h.part entries k.came) → whole_of (with_told p (told h entries) (Some k)) ≡ joining h items
unfolding with_told
whole-more p h entries items k e = ap (λ es. joining h es) (sym e)

-- Numbers below the base

all_in_below-put_as : (base part : ℕ) (entries : List Entry) (p : ℕ × List Entry) (ps : Table (List Entry)) → all_below base entries ≡ true → (all_in_below base ps ≡ true → all_in_below base (put part entries ps) ≡ true) → all_in_below base (p ∷ ps) ≡ true → all_in_below base (put part entries (p ∷ ps)) ≡ true
all_in_below-put_as base part entries p ps new below e = grind (arith, nat_tests)

pub all_in_below-put : (base part : ℕ) (entries : List Entry) (ps : Table (List Entry)) → all_below base entries ≡ true → all_in_below base ps ≡ true → all_in_below base (put part entries ps) ≡ true
all_in_below-put base part entries [] new e = and_from _ _ new refl
all_in_below-put base part entries (p ∷ ps) new e =
    all_in_below-put_as base part entries p ps new (all_in_below-put base part entries ps new) e

pub all_below-flat : (base : ℕ) (ps : Table (List Entry)) → all_in_below base ps ≡ true → all_below base (flat_map (λ row. row.1) ps) ≡ true
all_below-flat base [] e = refl
all_below-flat base (p ∷ ps) e =
    let both = and_parts _ _ e in
    list_all-append _ p.1 _ ∙ and_from _ _ both.0 (all_below-flat base ps both.1)

-- The numbers of all parts are below the base of the last part.
pub below-more : (h : PartHeader) (entries items : List Entry) (k : Partial) → fits (told h entries) (Some k) ≡ true → all_below h.base entries ≡ true → all_in_below k.base k.came ≡ true → items ≡ flat_map (λ row. row.1) (put h.part entries k.came) → all_below h.base items ≡ true
below-more h entries items k fitting below rest e =
    let rest_here = subst (λ n. all_in_below n k.came ≡ true) (sym (same_base (told h entries) k fitting)) rest in
    ap (λ es. all_below h.base es) e ∙ all_below-flat h.base (put h.part entries k.came) (all_in_below-put h.base h.part entries k.came below rest_here)
