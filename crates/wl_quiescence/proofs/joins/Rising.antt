-- The entries of each report rise in number, so that the parts of a report fit each other.
use Rattle.std.proofs.Common.{◌≡◌, ⊎_elim, ℕ, zero, suc, ◌+◌, ◌*◌, ◌<◌, ◌≤◌, Bool, true, false, ◌&&◌, cond, List, [], ◌∷◌, map, filter, take, drop, length, refl, sym, ap, ap₂, ◌∙◌, subst, arith, Option, Some, None}
use Rattle.std.specs.Prelude.{◌==◌, nat_lt}
use Rattle.std.specs.List.{list_all, range_with_len}
use Rattle.std.proofs.lemmas.Bool.{and_from, lt-ltb, ltb-true, eq-eqb}
use Rattle.wl_draft.specs.Membership.{In, Here, Later}
use Rattle.wl_draft.specs.declared.row.Entry.{Entry}
use Rattle.wl_draft.proofs.Membership.{either, In-nil, In-cons_cases}
use Rattle.wl_grammar.specs.Grammar.{RiseFrom}
use Rattle.wl_grammar.specs.declared.frame.Report.{Report}
use Rattle.wl_broker_reports.specs.ReportParts.{Partial, Told, fits, all_above, all_below, is_in_order}
use Rattle.wl_agent.specs.Tab.{TabState, entry_of, is_reported, report_of}
use Rattle.wl_world_model.specs.declared.event.Event.{Event}
use Rattle.wl_world_model.specs.World.{empty_world, tab_of, run}
use Rattle.wl_world_model.proofs.exclusion.ToldParts.{chunk, part_total, IsPartOf, HasParts}
use Rattle.wl_library_model.proofs.Links.{In-take, In-drop}
use Rattle.wl_quiescence.proofs.calls.Reports.{run-reported}

-- Rising entries

rise-less : (least more : ℕ) (es : List Entry) → least ≤ more → RiseFrom more es → RiseFrom least es
rise-less least more [] le r = tt
rise-less least more (e ∷ es) le r = (let lo = r.0 in omega (arith, le, lo), r.1)

rise-In : (least : ℕ) (es : List Entry) (e : Entry) → RiseFrom least es → In e es → least ≤ e.number
rise-In least [] e r i = absurd (In-nil i)
rise-In least (x ∷ xs) e r i =
    let lo = r.0 in
    ⊎_elim (λ s. let n = ap (λ (z : Entry). z.number) s in omega (arith, lo, n)) (λ j. let h = rise-In (x.number + 1) xs e r.1 j in omega (arith, lo, h)) (In-cons_cases i)

entries-rise : (a : TabState) (q : ℕ → Bool) (least n : ℕ) → RiseFrom least (map (entry_of a) (filter q (range_with_len least n)))
entries-rise a q least zero = tt
entries-rise a q least (suc n) =
    let ks = filter q (range_with_len (least + 1) n) in
    let h = entries-rise a q (least + 1) n in
    either (λ zs. RiseFrom least (map (entry_of a) zs)) (q least) (least ∷ ks) ks (λ _. (omega arith, h)) (λ _. rise-less least (least + 1) (map (entry_of a) ks) (omega arith) h)

-- Entries in front have smaller numbers.
front-less : (n m least : ℕ) (es : List Entry) (x y : Entry) → RiseFrom least es → n ≤ m → In x (take n es) → In y (drop m es) → x.number < y.number
front-less zero m least es x y r le i j = absurd (In-nil i)
front-less (suc n) m least [] x y r le i j = absurd (In-nil i)
front-less (suc n) zero least (e ∷ es) x y r le i j = absurd (omega (arith, le))
front-less (suc n) (suc m) least (e ∷ es) x y r le i j =
    ⊎_elim
    (λ s. let h = rise-In (e.number + 1) es y r.1 (In-drop m es j) in let k = ap (λ (z : Entry). z.number) s in omega (arith, h, k))
    (λ k. front-less n m (e.number + 1) es x y r.1 (omega (arith, le)) k j)
    (In-cons_cases i)

-- `c` entries behind the first `n`, and entries behind the first `m`.
apart-less : (n c m least : ℕ) (es : List Entry) (x y : Entry) → RiseFrom least es → n + c ≤ m → In x (take c (drop n es)) → In y (drop m es) → x.number < y.number
apart-less zero c m least es x y r le i j = front-less c m least es x y r (omega (arith, le)) i j
apart-less (suc n) c m least [] x y r le i j = absurd (In-nil (In-take c [] i))
apart-less (suc n) c zero least (e ∷ es) x y r le i j = absurd (omega (arith, le))
apart-less (suc n) c (suc m) least (e ∷ es) x y r le i j = apart-less n c m (e.number + 1) es x y r.1 (omega (arith, le)) i j

all-true : {X : Type 0} (p : X → Bool) (xs : List X) → ((x : X) → In x xs → p x ≡ true) → list_all p xs ≡ true
all-true p [] f = refl
all-true p (x ∷ xs) f = and_from (p x) (list_all p xs) (f x Here) (all-true p xs (λ z i. f z (Later i)))

all-above : (xs ys : List Entry) → ((x y : Entry) → In x xs → In y ys → x.number < y.number) → all_above xs ys ≡ true
all-above xs ys f =
    all-true (λ y. list_all (λ x. nat_lt x.number y.number) xs) ys (λ y j. all-true (λ x. nat_lt x.number y.number) xs (λ x i. lt-ltb x.number y.number (f x y i j)))

-- Parts of a report

ordered : (i : Bool) (r : Report) (n m : ℕ) → RiseFrom 0 r.entries → n < m → m < part_total i r → all_above (chunk i r n) (chunk i r m) ≡ true
ordered true r n m rise lt top = all-above (chunk true r n) (chunk true r m) (λ x y i j. apart-less (64 * n) 64 (64 * m) 0 r.entries x y rise (omega (arith, lt)) i (In-take 64 (drop (64 * m) r.entries) j))
ordered false r n m rise lt top = absurd (omega (arith, lt, top))

in-order : (i : Bool) (r : Report) (x : Told) (row : ℕ × List Entry) → RiseFrom 0 r.entries → IsPartOf i r x → row.0 < part_total i r → row.1 ≡ chunk i r row.0 → is_in_order x row ≡ true
in-order i r x row rise is lt e =
    either (λ z. z ≡ true) (nat_lt row.0 x.part) (all_above row.1 x.entries) (cond (nat_lt x.part row.0) (all_above x.entries row.1) true)
    (λ y. ap₂ all_above e is.entries ∙ ordered i r row.0 x.part rise (ltb-true row.0 x.part y) is.within)
    (λ _. either (λ z. z ≡ true) (nat_lt x.part row.0) (all_above x.entries row.1) true (λ y. ap₂ all_above is.entries e ∙ ordered i r x.part row.0 rise (ltb-true x.part row.0 y) lt) (λ _. refl))

chunk-In : (i : Bool) (r : Report) (n : ℕ) (e : Entry) → In e (chunk i r n) → In e r.entries
chunk-In true r n e i = In-drop (64 * n) r.entries (In-take 64 (drop (64 * n) r.entries) i)
chunk-In false r n e i = i

pub part-In : (i : Bool) (r : Report) (x : Told) (e : Entry) → IsPartOf i r x → In e x.entries → In e r.entries
part-In i r x e is j = chunk-In i r x.part e (subst (In e) is.entries j)

-- The numbers of a report part are below the report's base, and the part fits the stored parts of its report.
pub part-fits : (i : Bool) (r : Report) (x : Told) (o : Option Partial) → RiseFrom 0 r.entries → ((e : Entry) → In e r.entries → e.number < r.base) → IsPartOf i r x
    → ((k : Partial) → o ≡ Some k → HasParts i r k × (k.base ≡ r.base) × (k.limit ≡ x.limit)) → (all_below x.base x.entries && fits x o) ≡ true
part-fits i r x o rise below is kept =
    and_from (all_below x.base x.entries) (fits x o)
    (all-true (λ e. nat_lt e.number x.base) x.entries (λ e j. let lt = below e (part-In i r x e is j) in let b = is.base in lt-ltb e.number x.base (omega (arith, lt, b))))
    (fitting o kept)
  where
    fitting : (o : Option Partial) → ((k : Partial) → o ≡ Some k → HasParts i r k × (k.base ≡ r.base) × (k.limit ≡ x.limit)) → fits x o ≡ true
    fitting None f = refl
    fitting (Some k) f =
        let h = f k refl in
        and_from (x.base == k.base) _ (eq-eqb x.base k.base (is.base ∙ sym h.1))
        (and_from (x.parts == k.parts) _ (eq-eqb x.parts k.parts (is.parts ∙ sym h.0.parts))
        (and_from (x.limit == k.limit) _ (eq-eqb x.limit k.limit (sym h.2))
        (all-true (is_in_order x) k.came (λ row j. let z = h.0.each row.0 row.1 j in in-order i r x row rise is z.0 z.1))))

-- All reports

report-rising : (g : ℕ) (a : TabState) → RiseFrom 0 (report_of g a).entries
unfolding report_of
report-rising g a = entries-rise a (is_reported a) 0 (length a.issued)

pub run-rising : (es : List Event) (t : ℕ) → RiseFrom 0 (tab_of (run es empty_world) t).report.entries
run-rising es = run-reported (λ r. RiseFrom 0 r.entries) (λ g. tt) report-rising es
