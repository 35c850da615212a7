-- Parts of a snapshot received so far, and the test whether any is missing.
use Rattle.std.proofs.Common.{◌≡◌, ◌⊎◌, inl, inr, ⊎_elim, ℕ, ◌+◌, ◌<◌, ◌≤◌, ◌==◌, Bool, true, false, cond, not, ◌&&◌, ◌||◌, eqb, ltb, List, [], ◌∷◌, ◌++◌, length, count_by, is_some, refl, sym, ap, ◌∙◌, subst, arith}
use Rattle.std.specs.List.{AllByRecursion}
use Rattle.std.proofs.lemmas.List.Sums.{sum_by-cons, sum_by_push}
use Rattle.std.proofs.lemmas.Bool.{false≢true, and_parts, or_cases, cases_lt, cases_Bool, eq-eqb, ne_eqb, eqb-true, lt-ltb, ltb-true}
use Rattle.wl_draft.specs.Tables.{Table, has_row, put, Rises}
use Rattle.wl_draft.proofs.TableLemmas.{has_row-find, has_row-put}
use Rattle.wl_draft.proofs.RisingTables.{Rises-put, find_below}
use Rattle.wl_grammar.specs.declared.frame.Snapshot.{Snapshot as Part}
use Rattle.wl_agent.specs.SnapshotParts.{PartsState, no_parts, fits, with_part, is_whole}
use Rattle.wl_agent.specs.AgentLaws.{AreWhole, gathered}
use Rattle.wl_agent.proofs.Rows.{AllRows-put}

-- Tables whose numbers are below a bound

abbrev pub AreBelow : {X : Type 0} → ℕ → Table X → Type 0
AreBelow c rows = AllByRecursion (λ row. row.0 < c) rows

few : {X : Type 0} (c l : ℕ) (rows : Table X) → Rises l rows → AreBelow c rows → l ≤ c → l + length rows ≤ c
few c l [] rise below le = omega (arith, le)
few c l (p ∷ ps) rise below le =
    let more = few c (p.0 + 1) ps rise.1 below.1 (omega (arith, below.0)) in
    omega (arith, more, rise.0)

at_first : (b r : Bool) → b ≡ true → (b || r) ≡ true
at_first b r e = ap (λ c. c || r) e

behind : (b r : Bool) → r ≡ true → (b || r) ≡ true
behind true r e = refl
behind false r e = e

-- A table with as many rows as there are numbers has a row for each number.
full-has : {X : Type 0} (c l : ℕ) (rows : Table X) → Rises l rows → AreBelow c rows → l + length rows ≡ c → (n : ℕ) → l ≤ n → n < c → has_row rows n ≡ true
full-has c l [] rise below full n low high = absurd (omega (arith, full, low, high))
full-has c l (p ∷ ps) rise below full n low high =
    let more = few c (p.0 + 1) ps rise.1 below.1 (omega (arith, below.0)) in
    ⊎_elim
    (λ later. behind (eqb p.0 n) (has_row ps n) (full-has c (p.0 + 1) ps rise.1 below.1 (omega (arith, more, rise.0, full)) n (omega (arith, later)) high))
    (λ here. at_first (eqb p.0 n) (has_row ps n) (eq-eqb p.0 n (omega (arith, more, rise.0, full, low, here))))
    (cases_lt p.0 n)

below_none : {X : Type 0} (k l : ℕ) (rows : Table X) → Rises l rows → k < l → has_row rows k ≡ false
below_none k l rows rise lt = has_row-find rows k ∙ ap is_some (find_below k l rows rise lt)

-- A table with a row for each number has at least as many rows as there are numbers.
has-full : {X : Type 0} (c l : ℕ) (rows : Table X) → Rises l rows → ((n : ℕ) → l ≤ n → n < c → has_row rows n ≡ true) → c ≤ l + length rows
has-full c l [] rise has = ⊎_elim (λ lt. absurd (false≢true (has l (omega arith) lt))) (λ ge. omega (arith, ge)) (cases_lt l c)
has-full c l (p ∷ ps) rise has = ⊎_elim (λ lt. ⊎_elim
    (λ here. let at : p.0 ≡ l = eqb-true p.0 l here in
    let more = has-full c (p.0 + 1) ps rise.1 (λ n low high. rest n (omega (arith, low)) (has n (omega (arith, low, at)) high)) in
    omega (arith, more, at))
    (λ later. absurd (false≢true (sym (below_none l (p.0 + 1) ps rise.1 (omega (arith, rise.0))) ∙ later)))
    (or_cases (eqb p.0 l) (has_row ps l) (has l (omega arith) lt)))
    (λ ge. omega (arith, ge)) (cases_lt l c)
  where
    rest : (n : ℕ) → p.0 < n → (eqb p.0 n || has_row ps n) ≡ true → has_row ps n ≡ true
    rest n lt e = ⊎_elim (λ same. absurd (let at = eqb-true p.0 n same in omega (arith, at, lt))) (λ there. there) (or_cases (eqb p.0 n) (has_row ps n) e)

beyond_none : {X : Type 0} (c : ℕ) (rows : Table X) → AreBelow c rows → (n : ℕ) → c ≤ n → has_row rows n ≡ false
beyond_none c [] below n le = refl
beyond_none c (p ∷ ps) below n le =
    ap (λ b. b || has_row ps n) (ne_eqb p.0 n (λ same. omega (arith, same, below.0, le))) ∙ beyond_none c ps below.1 n le

-- Parts received

-- The parts received for a query that is still asked.
pub record Collects (g : ℕ) (came : PartsState) (xs : List Part) : Type 0 where
  pub gathers : came ≡ gathered xs no_parts
  pub alike : AllByRecursion (λ (x : Part). (x.generation ≡ g) × (x.parts ≡ came.count)) xs
  pub rows : (n : ℕ) → count_by (λ (x : Part). x.part == n) xs ≡ cond (has_row came.came n) 1 0
  pub rise : Rises 0 came.came
  pub below : AreBelow came.count came.came

pub nothing_came : (g : ℕ) → Collects g no_parts []
nothing_came g = record { gathers = refl; alike = tt; rows = λ n. refl; rise = tt; below = tt }

abbrev one_if : Bool → ℕ
one_if b = cond b 1 0

one_is_some : (b c : Bool) → one_if b ≡ one_if c → c ≡ true → b ≡ true
one_is_some true c e is = refl
one_is_some false true e is = absurd (omega (arith, e))
one_is_some false false e is = is

-- If a part is missing, the parts are not the whole answer.
pub not_yet : (g : ℕ) (came : PartsState) (xs : List Part) → Collects g came xs → (xs ≡ []) ⊎ (is_whole came ≡ false) → AreWhole xs → ⊥
not_yet g came [] h missing w = absurd (omega (arith, w.each_once 0 ∙ ap (λ b. cond b 1 0) (lt-ltb 0 w.count w.some)))
not_yet g came (x ∷ xs) h (inl none) w = cc
not_yet g came (x ∷ xs) h (inr missing) w =
    let count : came.count ≡ w.count = sym h.alike.0.1 ∙ w.alike.0.1 in
    let least = has-full came.count 0 came.came h.rise (λ n low high. one_is_some (has_row came.came n) (ltb n w.count) (sym (h.rows n) ∙ w.each_once n) (lt-ltb n w.count (omega (arith, high, count)))) in
    let most = few came.count 0 came.came h.rise h.below (omega arith) in
    false≢true (sym missing ∙ eq-eqb (length came.came) came.count (omega (arith, least, most)))

-- One more part

gathered-more : (xs : List Part) (x : Part) (came : PartsState) → gathered (xs ++ x ∷ []) came ≡ with_part x (gathered xs came)
gathered-more [] x came = refl
gathered-more (y ∷ ys) x came = gathered-more ys x (with_part y came)

counted-more : (n : ℕ) (x : Part) (xs : List Part) → count_by (λ (y : Part). y.part == n) (xs ++ x ∷ []) ≡ count_by (λ (y : Part). y.part == n) xs + cond (eqb x.part n) 1 0
counted-more n x xs = sum_by_push (λ (y : Part). cond (eqb y.part n) 1 0) xs x

all-more : {X : Type 0} (P : X → Type 0) (xs : List X) (x : X) → AllByRecursion P xs → P x → AllByRecursion P (xs ++ x ∷ [])
all-more P [] x all one = (one, tt)
all-more P (y ∷ ys) x all one = (all.0, all-more P ys x all.1 one)

-- A list in which no index occurs is empty.
uncounted : (xs : List Part) → ((n : ℕ) → count_by (λ (x : Part). x.part == n) xs ≡ 0) → xs ≡ []
uncounted [] none = refl
uncounted (x ∷ xs) none =
    let rest = count_by (λ (y : Part). y.part == x.part) xs in
    absurd (omega (arith, sym (none x.part) ∙ sum_by-cons (λ (y : Part). cond (eqb y.part x.part) 1 0) x xs ∙ ap (λ b. cond b 1 0 + rest) (eq-eqb x.part x.part refl)))

-- The part fits those received: there are none, or their number of parts is the same.
abbrev Fitting : Part → PartsState → Type 0
Fitting x came = ((came.came ≡ []) ⊎ (x.parts ≡ came.count)) × (x.part < x.parts) × (has_row came.came x.part ≡ false)

empty : {X : Type 0} (xs : List X) → length xs ≡ 0 → xs ≡ []
empty [] e = refl
empty (x ∷ xs) e = absurd (omega (arith, e))

not_there : (b : Bool) → not b ≡ true → b ≡ false
not_there true e = cc
not_there false e = refl

fitting : (x : Part) (came : PartsState) → fits x came ≡ true → Fitting x came
fitting x came e =
    let all = and_parts ((eqb (length came.came) 0 || eqb x.parts came.count) && ltb x.part x.parts) (not (has_row came.came x.part)) e in
    let first = and_parts (eqb (length came.came) 0 || eqb x.parts came.count) (ltb x.part x.parts) all.0 in (
      ⊎_elim (λ none. inl (empty came.came (eqb-true (length came.came) 0 none))) (λ same. inr (eqb-true x.parts came.count same)) (or_cases (eqb (length came.came) 0) (eqb x.parts came.count) first.0),
      ltb-true x.part x.parts first.1,
      not_there (has_row came.came x.part) all.1,
    )

alike-more : (g : ℕ) (x : Part) (came : PartsState) (xs : List Part) → Collects g came xs → (came.came ≡ []) ⊎ (x.parts ≡ came.count) → AllByRecursion (λ (y : Part). (y.generation ≡ g) × (y.parts ≡ x.parts)) xs
alike-more g x came xs h (inl none) =
    let no_rows : (n : ℕ) → count_by (λ (y : Part). y.part == n) xs ≡ 0 = λ n. h.rows n ∙ ap (λ rows. cond (has_row rows n) 1 0) none in
    subst (AllByRecursion (λ (y : Part). (y.generation ≡ g) × (y.parts ≡ x.parts))) (sym (uncounted xs no_rows)) tt
alike-more g x came xs h (inr same) = subst (λ m. AllByRecursion (λ (y : Part). (y.generation ≡ g) × (y.parts ≡ m)) xs) (sym same) h.alike

below-more : (x : Part) (came : PartsState) → AreBelow came.count came.came → (came.came ≡ []) ⊎ (x.parts ≡ came.count) → AreBelow x.parts came.came
below-more x came below (inl none) = subst (AreBelow x.parts) (sym none) tt
below-more x came below (inr same) = subst (λ m. AreBelow m came.came) (sym same) below

row-more : (b r : Bool) (n : ℕ) → n ≡ cond r 1 0 → (b ≡ true → r ≡ false) → n + cond b 1 0 ≡ cond (b || r) 1 0
row-more true r n e new = let none : n ≡ 0 = e ∙ ap (λ c. cond c 1 0) (new refl) in omega (arith, none)
row-more false r n e new = omega (arith, e)

pub one_more : (g : ℕ) (x : Part) (came : PartsState) (xs : List Part) → Collects g came xs → fits x came ≡ true → x.generation ≡ g → Collects g (with_part x came) (xs ++ x ∷ [])
unfolding with_part
one_more g x came xs h fit same =
    let f = fitting x came fit in
    record {
      gathers = ap (with_part x) h.gathers ∙ sym (gathered-more xs x no_parts);
      alike = all-more (λ (y : Part). (y.generation ≡ g) × (y.parts ≡ x.parts)) xs x (alike-more g x came xs h f.0) (same, refl);
      rows = λ n. counted-more n x xs
          ∙ row-more (eqb x.part n) (has_row came.came n) (count_by (λ (y : Part). y.part == n) xs) (h.rows n) (λ at. ap (has_row came.came) (sym (eqb-true x.part n at)) ∙ f.2)
          ∙ ap (λ b. cond b 1 0) (sym (has_row-put x.part x.entries came.came n));
      rise = Rises-put 0 x.part x.entries came.came (omega arith) h.rise;
      below = AllRows-put (λ row. row.0 < x.parts) x.part x.entries came.came f.1 (below-more x came h.below f.0);
    }

-- If none is missing after this part, the parts are the whole answer.
pub all_came : (g : ℕ) (x : Part) (came : PartsState) (xs : List Part) → Collects g (with_part x came) (xs ++ x ∷ []) → x.part < x.parts → is_whole (with_part x came) ≡ true → AreWhole (xs ++ x ∷ [])
unfolding with_part
all_came g x came xs h fit whole =
    let rows = put x.part x.entries came.came in
    let full = eqb-true (length rows) x.parts whole in
    record {
      generation = g;
      count = x.parts;
      some = omega (arith, fit);
      alike = h.alike;
      each_once = λ n. h.rows n ∙ ap (λ b. cond b 1 0) (⊎_elim
          (λ lt. full-has x.parts 0 rows h.rise h.below (omega (arith, full)) n (omega arith) lt ∙ sym (lt-ltb n x.parts lt))
          (λ ge. beyond_none x.parts rows h.below n ge ∙ sym (not_below n x.parts ge))
          (cases_lt n x.parts));
    }
  where
    not_below : (n c : ℕ) → c ≤ n → ltb n c ≡ false
    not_below n c le = ⊎_elim (λ lt. absurd (let less = ltb-true n c lt in omega (arith, less, le))) (λ not. not) (cases_Bool (ltb n c))

pub fits_below : (x : Part) (came : PartsState) → fits x came ≡ true → x.part < x.parts
fits_below x came e = (fitting x came e).1
