-- Reports in parts: the contents of each part, and their union.
use Rattle.std.proofs.Common.{◌≡◌, ◌≢◌, ◌⊎◌, inl, inr, ⊎_elim, ℕ, zero, suc, ◌+◌, ◌*◌, ◌/◌, ◌<◌, ◌≤◌, Bool, true, false, cond, not, Option, Some, None, List, [], ◌∷◌, ◌++◌, length, filter, take, drop, refl, sym, ap, ap₂, ◌∙◌, subst, arith, append-nil}
use Rattle.std.specs.Prelude.{◌==◌, nat_lt, if◌then◌else◌}
use Rattle.std.specs.List.{range_with_len, flat_map}
use Rattle.std.proofs.Math.Nat.{lt-div-mul-add}
use Rattle.std.proofs.Math.ListN.{drop_of_length-le}
use Rattle.std.proofs.Math.Seq.{drop-nil}
use Rattle.std.proofs.lemmas.Bool.{and_from, eqb-true, ne_eqb, cond-false, cases_eq}
use Rattle.std.proofs.lemmas.List.{take-append-drop}
use Rattle.std.proofs.lemmas.List.Folds.{list_all-append}
use Rattle.wl_draft.specs.declared.row.Entry.{Entry}
use Rattle.wl_draft.specs.Tables.{Table, find, put, Rises}
use Rattle.wl_draft.proofs.RisingTables.{Rises-put}
use Rattle.wl_grammar.specs.declared.frame.Command.{Command}
use Rattle.wl_grammar.specs.declared.frame.Report.{Report}
use Rattle.wl_grammar.specs.declared.frame.Upward.{Upward}
use Rattle.wl_grammar.specs.declared.frame.Upward.TheVariants as up
use Rattle.wl_broker_reports.specs.ReportParts.{Partial, Told, all_below, fits, at_once, in_part, content_of, came_in, with_told, is_whole, whole_of}
use Rattle.wl_broker_reports.proofs.KeptParts.{same_base}
use Rattle.wl_grammar.specs.Generation.{generation_of}
use Rattle.wl_agent.specs.Tab.{part_of, report_bodies}
use Rattle.wl_draft.specs.Membership.{In, Here, Later}
use Rattle.wl_draft.proofs.Membership.{either, In-nil, In-cons_cases, In-head, In-one, In-map_cases}
use Rattle.wl_grammar.specs.PartCount.{part_count}

-- Lists and tables

pub In-range : (from n k : ℕ) → In k (range_with_len from n) → k < from + n
In-range from zero k i = absurd (In-nil i)
In-range from (suc n) k i = ⊎_elim
    (λ e. let same : k ≡ from = e in omega arith)
    (λ j. let lt : k < (from + 1) + n = In-range (from + 1) n k j in omega arith)
    (In-cons_cases i)

In-put_cases : {X : Type 0} (k : ℕ) (x : X) (ps : Table X) (row : ℕ × X) → In row (put k x ps) → (row ≡ (k, x)) ⊎ In row ps
In-put_cases k x [] row = λ i. inl (In-one i)
In-put_cases k x (p ∷ ps) row =
    either (λ zs. In row zs → (row ≡ (k, x)) ⊎ In row (p ∷ ps)) (p.0 == k) ((k, x) ∷ ps) (cond (nat_lt k p.0) ((k, x) ∷ p ∷ ps) (p ∷ put k x ps))
    (λ _ i. ⊎_elim (λ e. inl e) (λ j. inr (Later j)) (In-cons_cases i))
    (λ _. either (λ zs. In row zs → (row ≡ (k, x)) ⊎ In row (p ∷ ps)) (nat_lt k p.0) ((k, x) ∷ p ∷ ps) (p ∷ put k x ps)
    (λ _ i. ⊎_elim (λ e. inl e) (λ j. inr j) (In-cons_cases i))
    (λ _ i. ⊎_elim (λ e. inr (In-head e)) (λ j. ⊎_elim (λ e. inl e) (λ h. inr (Later h)) (In-put_cases k x ps row j)) (In-cons_cases i)))

-- The parts of a report

-- The number of parts of a report.
abbrev pub part_total : Bool → Report → ℕ
part_total in_parts r = if in_parts then part_count r.entries else 1

abbrev pub chunk : Bool → Report → ℕ → List Entry
chunk in_parts r k = if in_parts then take 64 (drop (64 * k) r.entries) else r.entries

pub record IsPartOf (in_parts : Bool) (r : Report) (x : Told) : Type 0 where
  pub base : x.base ≡ r.base
  pub parts : x.parts ≡ part_total in_parts r
  pub within : x.part < part_total in_parts r
  pub entries : x.entries ≡ chunk in_parts r x.part

some-told : (x y : Told) → Some x ≡ Some y → x ≡ y
some-told x y e = cc

pub body-told : (in_parts : Bool) (r : Report) (u : Upward) (x : Told) → In u (report_bodies in_parts r) → content_of u ≡ Some x → (generation_of u ≡ r.generation) × IsPartOf in_parts r x
unfolding report_bodies
body-told true r u x j e =
    let o = In-map_cases (λ k. up.ReportPart (part_of r k)) (range_with_len 0 (part_count r.entries)) j in
    let lt : o.0 < 0 + part_count r.entries = In-range 0 (part_count r.entries) o.0 o.1 in
    let same = some-told (in_part (part_of r o.0)) x (ap content_of (sym o.2) ∙ e) in
    (ap generation_of o.2, subst (IsPartOf true r) same (record { base = refl; parts = refl; within = omega arith; entries = refl }))
body-told false r u x j e =
    let o : u ≡ up.Report r = In-one j in
    let same = some-told (at_once r) x (ap content_of (sym o) ∙ e) in
    (ap generation_of o, subst (IsPartOf false r) same (record { base = refl; parts = refl; within = omega arith; entries = refl }))

pub no-command : (in_parts : Bool) (r : Report) (c : Command) → In (up.Command c) (report_bodies in_parts r) → ⊥
unfolding report_bodies
no-command true r c j = let o = In-map_cases (λ k. up.ReportPart (part_of r k)) (range_with_len 0 (part_count r.entries)) j in let e : up.Command c ≡ up.ReportPart (part_of r o.0) = o.2 in cc
no-command false r c j = let e : up.Command c ≡ up.Report r = In-one j in cc

-- Stored parts

-- The stored parts belong to the report.
pub record HasParts (in_parts : Bool) (r : Report) (k : Partial) : Type 0 where
  pub rise : Rises 0 k.came
  pub parts : k.parts ≡ part_total in_parts r
  pub each : (n : ℕ) (es : List Entry) → In (n, es) k.came → (n < part_total in_parts r) × (es ≡ chunk in_parts r n)

came-rise : (in_parts : Bool) (r : Report) (o : Option Partial) → ((k : Partial) → o ≡ Some k → HasParts in_parts r k) → Rises 0 (came_in o)
came-rise i r None f = tt
came-rise i r (Some k) f = (f k refl).rise

came-each : (in_parts : Bool) (r : Report) (o : Option Partial) → ((k : Partial) → o ≡ Some k → HasParts in_parts r k) → (n : ℕ) (es : List Entry) → In (n, es) (came_in o) → (n < part_total in_parts r) × (es ≡ chunk in_parts r n)
came-each i r None f n es j = absurd (In-nil j)
came-each i r (Some k) f n es j = (f k refl).each n es j

pub with_told-HasParts : (in_parts : Bool) (r : Report) (p : ℕ) (x : Told) (o : Option Partial) → IsPartOf in_parts r x → ((k : Partial) → o ≡ Some k → HasParts in_parts r k) → HasParts in_parts r (with_told p x o)
unfolding with_told
with_told-HasParts i r p x o is f = record {
  rise = Rises-put 0 x.part x.entries (came_in o) (omega arith) (came-rise i r o f);
  parts = is.parts;
  each = λ n es j. ⊎_elim
      (λ e. let number : n ≡ x.part = ap (λ (z : ℕ × List Entry). z.0) e in
      (subst (λ z. z < part_total i r) (sym number) is.within, ap (λ (z : ℕ × List Entry). z.1) e ∙ is.entries ∙ ap (chunk i r) (sym number)))
      (λ h. came-each i r o f n es h)
      (In-put_cases x.part x.entries (came_in o) (n, es) j);
}

-- Numbers below the base

-- Each number in these parts is below the base.
abbrev pub AllBelow : ℕ → Table (List Entry) → Type 0
AllBelow base rows = (n : ℕ) (es : List Entry) → In (n, es) rows → all_below base es ≡ true

came-below : (x : Told) (o : Option Partial) → fits x o ≡ true → ((k : Partial) → o ≡ Some k → AllBelow k.base k.came) → AllBelow x.base (came_in o)
came-below x None e f n es i = absurd (In-nil i)
came-below x (Some k) e f n es i = subst (λ b. all_below b es ≡ true) (sym (same_base x k e)) (f k refl n es i)

pub with_told-below : (p : ℕ) (x : Told) (o : Option Partial) → all_below x.base x.entries ≡ true → fits x o ≡ true → ((k : Partial) → o ≡ Some k → AllBelow k.base k.came) → AllBelow (with_told p x o).base (with_told p x o).came
unfolding with_told
with_told-below p x o now e f n es i = ⊎_elim
    (λ s. subst (λ z. all_below x.base z ≡ true) (sym (ap (λ (z : ℕ × List Entry). z.1) s)) now)
    (λ j. came-below x o e f n es j)
    (In-put_cases x.part x.entries (came_in o) (n, es) i)

pub below-all : (base : ℕ) (rows : Table (List Entry)) → AllBelow base rows → all_below base (flat_map (λ row. row.1) rows) ≡ true
below-all base [] f = refl
below-all base (row ∷ rows) f =
    list_all-append (λ (e : Entry). nat_lt e.number base) row.1 (flat_map (λ (r : ℕ × List Entry). r.1) rows)
    ∙ and_from _ _ (f row.0 row.1 Here) (below-all base rows (λ n es i. f n es (Later i)))

-- All parts together

rises-few : (rows : Table (List Entry)) (a b : ℕ) → Rises a rows → a ≤ b → ((m : ℕ) (es : List Entry) → In (m, es) rows → m < b) → a + length rows ≤ b
rises-few [] a b r le f = omega arith
rises-few (row ∷ rows) a b r le f =
    let lt : row.0 < b = f row.0 row.1 Here in
    let ih : row.0 + 1 + length rows ≤ b = rises-few rows (row.0 + 1) b r.1 (omega arith) (λ m es i. f m es (Later i)) in
    omega (arith, r.0)

-- `n` rising numbers below a bound of `n` are all numbers below it.
came-all : (f : ℕ → List Entry) (rows : Table (List Entry)) (from n : ℕ) → Rises from rows → ((m : ℕ) (es : List Entry) → In (m, es) rows → (m < from + n) × (es ≡ f m)) → length rows ≡ n
    → flat_map (λ row. row.1) rows ≡ flat_map f (range_with_len from n)
came-all f [] from zero r e l = refl
came-all f [] from (suc n) r e l = absurd (omega (arith, l))
came-all f (row ∷ rows) from zero r e l = absurd (omega (arith, l))
came-all f (row ∷ rows) from (suc n) r e l =
    let o = e row.0 row.1 Here in
    let lt : row.0 < from + suc n = o.0 in
    let few : row.0 + 1 + length rows ≤ from + suc n = rises-few rows (row.0 + 1) (from + suc n) r.1 (omega arith) (λ m es i. (e m es (Later i)).0) in
    let count : length rows ≡ n = omega (arith, l) in
    let first : row.0 ≡ from = omega (arith, r.0) in
    ap₂ ◌++◌ (o.1 ∙ ap f first)
    (came-all f rows (from + 1) n (subst (λ z. Rises (z + 1) rows) first r.1) (λ m es i. let q = e m es (Later i) in let h : m < from + suc n = q.0 in (omega arith, q.1)) count)

drop-twice : (n : ℕ) (es : List Entry) → drop 64 (drop n es) ≡ drop (n + 64) es
drop-twice zero es = refl
drop-twice (suc n) [] = sym (drop-nil (suc n + 64))
drop-twice (suc n) (e ∷ es) = let more : suc (n + 64) ≡ suc n + 64 = omega arith in drop-twice n es ∙ ap (λ z. drop z (e ∷ es)) more

further : (es : List Entry) (from : ℕ) → drop (64 * (from + 1)) es ≡ drop 64 (drop (64 * from) es)
further es from = let e : 64 * (from + 1) ≡ 64 * from + 64 = omega arith in ap (λ z. drop z es) e ∙ sym (drop-twice (64 * from) es)

chunks-from : (es : List Entry) (n from : ℕ) → length es ≤ 64 * (from + n) → flat_map (λ k. take 64 (drop (64 * k) es)) (range_with_len from n) ≡ drop (64 * from) es
chunks-from es zero from le = sym (drop_of_length-le es (omega arith))
chunks-from es (suc n) from le =
    ap (λ zs. take 64 (drop (64 * from) es) ++ zs) (chunks-from es n (from + 1) (omega arith) ∙ further es from) ∙ take-append-drop 64 (drop (64 * from) es)

enough : (es : List Entry) → length es ≤ 64 * (0 + part_count es)
enough es =
    either (λ q. length es ≤ 64 * (0 + q)) (length es == 0) 1 ((length es + 63) / 64)
    (λ e. let none : length es ≡ 0 = eqb-true (length es) 0 e in omega arith)
    (λ _. go (length es) ((length es + 63) / 64) (lt-div-mul-add {a = length es + 63} {b = 64} (omega arith)))
  where
    go : (n q : ℕ) → n + 63 < q * 64 + 64 → n ≤ 64 * (0 + q)
    go n q h = omega arith

chunks-all : (in_parts : Bool) (r : Report) → flat_map (chunk in_parts r) (range_with_len 0 (part_total in_parts r)) ≡ r.entries
chunks-all true r = chunks-from r.entries (part_count r.entries) 0 (enough r.entries)
chunks-all false r = append-nil r.entries

-- If no part is missing, the entries of the parts in order are the report's entries.
pub whole-entries : (in_parts : Bool) (r : Report) (k : Partial) → HasParts in_parts r k → is_whole k ≡ true → (whole_of k).entries ≡ r.entries
whole-entries i r k h w =
    came-all (chunk i r) k.came 0 (part_total i r) h.rise (λ m es j. let q = h.each m es j in let lt : m < part_total i r = q.0 in (omega arith, q.1)) (eqb-true _ _ w ∙ h.parts)
    ∙ chunks-all i r

-- A table without the row of one number

abbrev but : {X : Type 0} → ℕ → Table X → Table X
but t ps = filter (λ row. not (row.0 == t)) ps

-- The removed number is not found.
pub find-but_gone : {X : Type 0} (t : ℕ) (ps : Table X) → find (filter (λ row. not (row.0 == t)) ps) t ≡ None
find-but_gone t [] = refl
find-but_gone t (p ∷ ps) = step (p.0 == t) refl (find-but_gone t ps)
  where
    step : (c : Bool) → (p.0 == t) ≡ c → find (but t ps) t ≡ None → find (cond (not c) (p ∷ but t ps) (but t ps)) t ≡ None
    step true e ih = ih
    step false e ih = cond-false _ (Some p.1) (find (but t ps) t) e ∙ ih

pub find-but_other : {X : Type 0} (t u : ℕ) (ps : Table X) → t ≢ u → find (filter (λ row. not (row.0 == t)) ps) u ≡ find ps u
find-but_other t u [] n = refl
find-but_other t u (p ∷ ps) n = step (p.0 == t) refl (find-but_other t u ps n)
  where
    step : (c : Bool) → (p.0 == t) ≡ c → find (but t ps) u ≡ find ps u → find (cond (not c) (p ∷ but t ps) (but t ps)) u ≡ cond (p.0 == u) (Some p.1) (find ps u)
    step true e ih = ih ∙ sym (cond-false _ (Some p.1) (find ps u) (ne_eqb p.0 u (λ s. n (sym (eqb-true p.0 t e) ∙ s))))
    step false e ih = ap (λ o. cond (p.0 == u) (Some p.1) o) ih

-- A value found after the removal was found before.
pub find-without : {X : Type 0} (t u : ℕ) (x : X) (ps : Table X) → find (filter (λ row. not (row.0 == t)) ps) u ≡ Some x → find ps u ≡ Some x
find-without {X} t u x ps h = ⊎_elim
    (λ e. absurd (none-some x (sym (subst (λ v. find (filter (λ (row : ℕ × X). not (row.0 == t)) ps) v ≡ None) e (find-but_gone t ps)) ∙ h)))
    (λ n. sym (find-but_other t u ps n) ∙ h)
    (cases_eq t u)
  where
    none-some : (x : X) → None ≡ Some x → ⊥
    none-some x e = cc
