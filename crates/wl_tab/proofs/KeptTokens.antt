-- Stored tokens by number, and their changes when a command is issued or ended.
use Rattle.std.proofs.Common.{◌≡◌, ℕ, zero, suc, ◌+◌, ◌<◌, Bool, true, false, not, ◌||◌, cond, eqb, List, [], ◌∷◌, ◌++◌, length, filter, map, get_or, Option, Some, None, refl, sym, ap, ◌∙◌, subst, arith, length-append}
use Rattle.std.proofs.lemmas.Bool.{eq-eqb, ne_eqb, eqb-true, le-ltb}
use Rattle.std.proofs.lemmas.List.{map-append}
use Rattle.std.proofs.lemmas.List.Quantifiers.{position-Some}
use Rattle.std.proofs.Math.ListN.{get_or-append}
use Rattle.std.proofs.Math.Seq.{get_or-append_seam}
use Rattle.std.specs.List.{position, remove, list_any, filter_map, cons_option}
use Rattle.wl_draft.specs.Tables.{Table, find, put, Rises, without_row}
use Rattle.wl_draft.proofs.RisingTables.{Rises-put, Rises-filter}
use Rattle.wl_grammar.specs.declared.frame.Operation.{Operation}
use Rattle.wl_grammar.specs.declared.frame.Operation.TheVariants.{Request, Query}
use Rattle.wl_agent.specs.declared.status.Status.{Status}
use Rattle.wl_agent.specs.declared.status.Status.TheVariants.{Asked, Held, Querying, Whole, Lost}
use Rattle.wl_agent.specs.declared.token.Token.TheVariants as token
use Rattle.wl_agent.specs.Issued.{Issued}
use Rattle.wl_agent.specs.SnapshotParts.{no_parts}
use Rattle.wl_draft.specs.declared.mode.Mode.{Mode}
use Rattle.wl_agent.specs.Tab.{TabState, asked, queried, status_of, is_probe, issue, finish, operation_of, is_held, mode_of, name_of}
use Rattle.wl_agent.specs.AgentInvariant.{RowsFit, Stands, can_become}
use Rattle.wl_agent.proofs.Rows.{AllRows-put, AllRows-filter, AllRows-weaker}
use Rattle.wl_tab.specs.declared.locks.live_command.LiveCommand.{LiveCommand}
use Rattle.wl_tab.specs.Tabs.{is_told}
use Rattle.wl_tab.specs.declared.holding.Holding.{Holding}
use Rattle.wl_tab.specs.TabTokens.{kept_as, token_for, kept_for, IsKept, number_of, holding_at, holding_by, holding_in, holdings_of}
use Rattle.wl_tab.proofs.Positions.{RisesBy, at_least, position-none, remove-place}

-- Numbers

number_as : (tab k : ℕ) (o : Operation) (s : Status) → number_of (token_for tab o k s) ≡ k
number_as tab k o Asked = elim (is_probe o) as (λ b. number_of (cond b (token.Probe (record { tab = tab; number = k })) (token.Pending (record { tab = tab; number = k }))) ≡ k) [ true ↦ refl | false ↦ refl ]
number_as tab k o Held = refl
number_as tab k o (Querying p) = refl
number_as tab k o (Whole s) = refl
number_as tab k o Lost = refl

abbrev pub number : LiveCommand → ℕ
number x = number_of x.token

number-kept : (tab : ℕ) (issued : List Operation) (row : ℕ × Status) → number (kept_for tab issued row) ≡ row.0
number-kept tab issued row = number_as tab row.0 (get_or issued row.0 Query) row.1

kept-rises : (tab : ℕ) (issued : List Operation) (least : ℕ) (rows : Table Status) → Rises least rows → RisesBy number least (map (kept_for tab issued) rows)
kept-rises tab issued least [] r = tt
kept-rises tab issued least (row ∷ rows) r =
    let e = number-kept tab issued row in
    (omega (arith, e, r.0), subst (λ n. RisesBy number (n + 1) (map (kept_for tab issued) rows)) (sym e) (kept-rises tab issued (row.0 + 1) rows r.1))

without-kept_as : (k : ℕ) (x : LiveCommand) (row : ℕ × Status) (xs : List LiveCommand) (tab : ℕ) (issued : List Operation) (rows : Table Status) (b : Bool) → x ≡ kept_for tab issued row → xs ≡ map (kept_for tab issued) rows → cond b (x ∷ xs) xs ≡ map (kept_for tab issued) (cond b (row ∷ rows) rows)
without-kept_as k x row xs tab issued rows true e es = cc
without-kept_as k x row xs tab issued rows false e es = es

without-kept : (k tab : ℕ) (issued : List Operation) (rows : Table Status) → filter (λ x. not (eqb (number x) k)) (map (kept_for tab issued) rows) ≡ map (kept_for tab issued) (without_row k rows)
without-kept k tab issued [] = refl
without-kept k tab issued (row ∷ rows) =
    let rest = filter (λ (x : LiveCommand). not (eqb (number x) k)) (map (kept_for tab issued) rows) in
    ap (λ n. cond (not (eqb n k)) (kept_for tab issued row ∷ rest) rest) (number-kept tab issued row)
    ∙ without-kept_as k (kept_for tab issued row) row rest tab issued (without_row k rows) (not (eqb row.0 k)) refl (without-kept k tab issued rows)

-- The token of a number

-- A stored token agrees with the status of its number.
pub record Stood (tab k : ℕ) (issued : List Operation) (rows : Table Status) (x : LiveCommand) : Type 0 where
  pub status : Status
  pub here : find rows k ≡ Some status
  pub kept : x ≡ kept_for tab issued (k, status)

stood_first : (tab k : ℕ) (issued : List Operation) (row : ℕ × Status) (rows : Table Status) → row.0 ≡ k → Stood tab k issued (row ∷ rows) (kept_for tab issued row)
stood_first tab k issued row rows e = record {
  status = row.1;
  here = ap (λ b. cond b (Some row.1) (find rows k)) (eq-eqb row.0 k e);
  kept = ap (λ n. kept_for tab issued (n, row.1)) e;
}

stood_later : (tab k : ℕ) (issued : List Operation) (row : ℕ × Status) (rows : Table Status) (x : LiveCommand) → row.0 < k → Stood tab k issued rows x → Stood tab k issued (row ∷ rows) x
stood_later tab k issued row rows x low s = record {
  status = s.status;
  here = ap (λ b. cond b (Some row.1) (find rows k)) (ne_eqb row.0 k (λ e. omega arith)) ∙ s.here;
  kept = s.kept;
}

stood : (tab k least : ℕ) (issued : List Operation) (rows : Table Status) (i : ℕ) (d : LiveCommand) → Rises least rows → i < length (map (kept_for tab issued) rows) → number (get_or (map (kept_for tab issued) rows) i d) ≡ k → Stood tab k issued rows (get_or (map (kept_for tab issued) rows) i d)
stood tab k least issued [] i d r h e = absurd (omega arith)
stood tab k least issued (row ∷ rows) zero d r h e = stood_first tab k issued row rows (sym (number-kept tab issued row) ∙ e)
stood tab k least issued (row ∷ rows) (suc i) d r h e =
    let low : row.0 < k = omega (arith, e, at_least number (row.0 + 1) (map (kept_for tab issued) rows) i d (kept-rises tab issued (row.0 + 1) rows r.1) (omega arith)) in
    stood_later tab k issued row rows _ low (stood tab k (row.0 + 1) issued rows i d r.1 (omega arith) e)

none_as : (k : ℕ) (row : ℕ × Status) (rows : Table Status) (b : Bool) (xs : List LiveCommand) → (b || list_any (λ x. eqb (number x) k) xs) ≡ false → (list_any (λ x. eqb (number x) k) xs ≡ false → find rows k ≡ None) → cond b (Some row.1) (find rows k) ≡ None
none_as k row rows true xs e below = cc
none_as k row rows false xs e below = below e

none-kept : (tab k : ℕ) (issued : List Operation) (rows : Table Status) → list_any (λ x. eqb (number x) k) (map (kept_for tab issued) rows) ≡ false → find rows k ≡ None
none-kept tab k issued [] e = refl
none-kept tab k issued (row ∷ rows) e =
    let xs = map (kept_for tab issued) rows in
    none_as k row rows (eqb row.0 k) xs (ap (λ n. eqb n k || list_any (λ x. eqb (number x) k) xs) (sym (number-kept tab issued row)) ∙ e) (none-kept tab k issued rows)

abbrev is_at : ℕ → LiveCommand → Bool
is_at k x = eqb (number x) k

-- Facts about a number that was found among the stored tokens.
pub record Found (a : TabState) (kept : List LiveCommand) (k place : ℕ) : Type 0 where
  pub within : place < length kept
  pub rest : remove kept place ≡ map (kept_for a.tab a.issued) (without_row k a.statuses)
  pub stands : (d : LiveCommand) → Stood a.tab k a.issued a.statuses (get_or kept place d)

pub found : (a : TabState) (tab entered : ℕ) (kept xs : List LiveCommand) (k place : ℕ) (d : LiveCommand) (o : Option ℕ) → IsKept a tab entered kept → xs ≡ kept → o ≡ position (is_at k) xs → o ≡ Some place → Found a kept k place
found a tab entered kept xs k place d o is same at here =
    let there : position (is_at k) kept ≡ Some place = ap (position (is_at k)) (sym same) ∙ sym at ∙ here in
    let p = position-Some (is_at k) kept place d there in
    let rises : RisesBy number 0 kept = subst (RisesBy number 0) (sym is.tokens) (kept-rises a.tab a.issued 0 a.statuses is.rise) in
    record {
      within = p.0;
      rest = remove-place number k 0 kept place d rises p.0 (eqb-true _ k p.1) ∙ ap (filter (λ x. not (is_at k x))) is.tokens ∙ without-kept k a.tab a.issued a.statuses;
      stands = λ e. stands_at e there;
    }
  where
    stands_at : (e : LiveCommand) → position (is_at k) kept ≡ Some place → Stood a.tab k a.issued a.statuses (get_or kept place e)
    stands_at e there =
        let p = position-Some (is_at k) kept place e there in
        let P : List LiveCommand → Type 0 = λ ks. place < length ks → number (get_or ks place e) ≡ k → Stood a.tab k a.issued a.statuses (get_or ks place e) in
        subst P (sym is.tokens) (stood a.tab k 0 a.issued a.statuses place e is.rise) p.0 (eqb-true _ k p.1)

pub nowhere : (a : TabState) (tab entered : ℕ) (kept xs : List LiveCommand) (k : ℕ) (o : Option ℕ) → IsKept a tab entered kept → xs ≡ kept → o ≡ position (is_at k) xs → o ≡ None → status_of a k ≡ None
nowhere a tab entered kept xs k o is same at here =
    let there : position (is_at k) kept ≡ None = ap (position (is_at k)) (sym same) ∙ sym at ∙ here in
    none-kept a.tab k a.issued a.statuses (ap (list_any (is_at k)) (sym is.tokens) ∙ position-none (is_at k) kept there)

-- One more command

more_stand : (issued : List Operation) (o : Operation) (row : ℕ × Status) → Stands issued row → Stands (issued ++ o ∷ []) row
more_stand issued o row stands =
    (omega (arith, stands.0, length-append issued (o ∷ [])), ap (λ x. can_become x row.1) (get_or-append issued (o ∷ []) Query row.0 stands.0) ∙ stands.1)

rows_more : (issued : List Operation) (o : Operation) (rows : Table Status) → RowsFit issued rows → RowsFit (issued ++ o ∷ []) rows
rows_more issued o rows fit = AllRows-weaker (Stands issued) (Stands (issued ++ o ∷ [])) (more_stand issued o) rows fit

kept-more : (tab : ℕ) (issued : List Operation) (o : Operation) (rows : Table Status) → RowsFit issued rows → map (kept_for tab issued) rows ≡ map (kept_for tab (issued ++ o ∷ [])) rows
kept-more tab issued o [] fit = refl
kept-more tab issued o (row ∷ rows) fit =
    let same = get_or-append issued (o ∷ []) Query row.0 fit.0.0 in
    let first : kept_for tab issued row ≡ kept_for tab (issued ++ o ∷ []) row = ap (λ (x : Operation). record { operation = x; token = token_for tab x row.0 row.1 }) (sym same) in
    ap (λ x. x ∷ map (kept_for tab issued) rows) first ∙ ap (λ xs. kept_for tab (issued ++ o ∷ []) row ∷ xs) (kept-more tab issued o rows fit.1)

behind_as : (n : ℕ) (s : Status) (row : ℕ × Status) (rows : Table Status) → row.0 < n → put n s rows ≡ rows ++ (n, s) ∷ [] → put n s (row ∷ rows) ≡ row ∷ (rows ++ (n, s) ∷ [])
behind_as n s row rows low below =
    let other = ne_eqb row.0 n (λ e. omega arith) in
    let later = le-ltb n row.0 (omega arith) in
    rw (other, later) (ap (λ rs. row ∷ rs) below)

put-behind : (issued : List Operation) (s : Status) (rows : Table Status) → RowsFit issued rows → put (length issued) s rows ≡ rows ++ (length issued, s) ∷ []
put-behind issued s [] fit = refl
put-behind issued s (row ∷ rows) fit = behind_as (length issued) s row rows fit.0.0 (put-behind issued s rows fit.1)

-- A command is issued, and its token is stored after all others.
pub kept-issue : (a b : TabState) (tab entered : ℕ) (kept xs : List LiveCommand) (o : Operation) (s : Status) (x : LiveCommand) → IsKept a tab entered kept → can_become o s ≡ true → is_told s ≡ false → xs ≡ kept ++ x ∷ [] → x ≡ kept_as o (token_for a.tab o (length a.issued) s) → b ≡ issue o s a → IsKept b tab entered xs
unfolding issue
kept-issue a b tab entered kept xs o s x is fits untold xs_are x_is b_is =
    let issued = a.issued ++ o ∷ [] in
    let n = length a.issued in
    let seam : get_or issued n Query ≡ o = get_or-append_seam a.issued o [] Query in
    let last : x ≡ kept_for a.tab issued (n, s) = x_is ∙ ap (λ (p : Operation). kept_as p (token_for a.tab p n s)) (sym seam) in
    let rows : put n s a.statuses ≡ a.statuses ++ (n, s) ∷ [] = put-behind a.issued s a.statuses is.rows in
    let stands : Stands issued (n, s) = (omega (arith, length-append a.issued (o ∷ [])), ap (λ p. can_become p s) seam ∙ fits) in
    subst (λ (c : TabState). IsKept c tab entered xs) (sym b_is) (record {
      tokens = xs_are ∙ ap (λ ks. ks ++ x ∷ []) (is.tokens ∙ kept-more a.tab a.issued o a.statuses is.rows) ∙ ap (λ y. map (kept_for a.tab issued) a.statuses ++ y ∷ []) last ∙ sym (ap (map (kept_for a.tab issued)) rows ∙ map-append (kept_for a.tab issued) a.statuses ((n, s) ∷ []));
      owner = is.owner;
      generation = is.generation;
      rise = Rises-put 0 n s a.statuses (omega arith) is.rise;
      rows = AllRows-put (Stands issued) n s a.statuses stands (rows_more a.issued o a.statuses is.rows);
      untold = AllRows-put (λ row. is_told row.1 ≡ false) n s a.statuses untold is.untold;
    })

-- A command ends a number, and its token is removed.
pub kept-finish : (a b : TabState) (tab entered : ℕ) (kept xs : List LiveCommand) (o : Operation) (k place : ℕ) → IsKept a tab entered kept → Found a kept k place → xs ≡ remove kept place → b ≡ finish o k a → IsKept b tab entered xs
unfolding finish
kept-finish a b tab entered kept xs o k place is f xs_are b_is =
    let rows = without_row k a.statuses in
    let fit : RowsFit a.issued rows = AllRows-filter (Stands a.issued) _ a.statuses is.rows in
    subst (λ (c : TabState). IsKept c tab entered xs) (sym b_is) (record {
      tokens = xs_are ∙ f.rest ∙ kept-more a.tab a.issued o rows fit;
      owner = is.owner;
      generation = is.generation;
      rise = Rises-filter _ 0 a.statuses is.rise;
      rows = rows_more a.issued o rows fit;
      untold = AllRows-filter (λ row. is_told row.1 ≡ false) _ a.statuses is.untold;
    })

-- Holdings

holds_as : (tab k : ℕ) (o : Operation) (s : Status) (rest : List Holding) → can_become o s ≡ true → cons_option (holding_by tab o (token_for tab o k s)) rest ≡ cond (is_held (Some s)) (record { tab = tab; number = k; mode = mode_of o; name = name_of o } ∷ rest) rest
holds_as tab k (Request m true n) Asked rest fits = refl
holds_as tab k (Request m false n) Asked rest fits = refl
holds_as tab k (Request m b n) Held rest fits = refl
holds_as tab k Query (Querying p) rest fits = refl
holds_as tab k Query (Whole s) rest fits = refl
holds_as tab k Query Lost rest fits = refl
holds_as tab k o s rest fits = let bad : ⊥ = cc in absurd bad

map_as : (f : ℕ × Status → Holding) (row : ℕ × Status) (rows : Table Status) (b : Bool) → map f (cond b (row ∷ rows) rows) ≡ cond b (f row ∷ map f rows) (map f rows)
map_as f row rows true = refl
map_as f row rows false = refl

holds-in : (a : TabState) (rows : Table Status) → RowsFit a.issued rows → filter_map (holding_in a.tab) (map (kept_for a.tab a.issued) rows) ≡ map (λ row. holding_at a row.0) (filter (λ row. is_held (Some row.1)) rows)
holds-in a [] fit = refl
holds-in a (row ∷ rows) fit =
    let hold : ℕ × Status → Holding = λ row. holding_at a row.0 in
    ap (cons_option (holding_by a.tab (operation_of a row.0) (token_for a.tab (operation_of a row.0) row.0 row.1))) (holds-in a rows fit.1)
    ∙ holds_as a.tab row.0 (operation_of a row.0) row.1 (map hold (filter (λ r. is_held (Some r.1)) rows)) fit.0.1
    ∙ sym (map_as hold row (filter (λ r. is_held (Some r.1)) rows) (is_held (Some row.1)))

-- The stored tokens give the locks that the tab holds.
pub holds-kept : (a : TabState) (tab entered : ℕ) (kept : List LiveCommand) → IsKept a tab entered kept → filter_map (holding_in tab) kept ≡ holdings_of a
holds-kept a tab entered kept is =
    ap (λ t. filter_map (holding_in t) kept) is.owner ∙ ap (filter_map (holding_in a.tab)) is.tokens ∙ holds-in a a.statuses is.rows

-- Issued requests, probes and queries

pub kept-requested : (a b : TabState) (tab entered : ℕ) (kept xs : List LiveCommand) (o : Operation) (p : Issued) (mode : Mode) (name bytes : List ℕ) → IsKept a tab entered kept → xs ≡ kept ++ kept_as o (token.Pending p) ∷ [] → o ≡ Request mode false name → bytes ≡ name → p.tab ≡ a.tab → p.number ≡ length a.issued → b ≡ asked mode false bytes a → IsKept b tab entered xs
kept-requested a b tab entered kept xs o p mode name bytes is xs_are o_is bytes_are owner number_is b_is =
    let whole : Operation = Request mode false bytes in
    let p_is : p ≡ record { tab = a.tab; number = length a.issued } = ap (λ (t : ℕ). record { tab = t; number = p.number }) owner ∙ ap (λ (n : ℕ). record { tab = a.tab; number = n }) number_is in
    let x_is : kept_as o (token.Pending p) ≡ kept_as whole (token_for a.tab whole (length a.issued) Asked) = ap (λ (q : Operation). kept_as q (token.Pending p)) (o_is ∙ ap (Request mode false) (sym bytes_are)) ∙ ap (λ (q : Issued). kept_as whole (token.Pending q)) p_is in
    kept-issue a b tab entered kept xs whole Asked (kept_as o (token.Pending p)) is refl refl xs_are x_is b_is

pub kept-probed : (a b : TabState) (tab entered : ℕ) (kept xs : List LiveCommand) (o : Operation) (p : Issued) (mode : Mode) (name bytes : List ℕ) → IsKept a tab entered kept → xs ≡ kept ++ kept_as o (token.Probe p) ∷ [] → o ≡ Request mode true name → bytes ≡ name → p.tab ≡ a.tab → p.number ≡ length a.issued → b ≡ asked mode true bytes a → IsKept b tab entered xs
kept-probed a b tab entered kept xs o p mode name bytes is xs_are o_is bytes_are owner number_is b_is =
    let whole : Operation = Request mode true bytes in
    let p_is : p ≡ record { tab = a.tab; number = length a.issued } = ap (λ (t : ℕ). record { tab = t; number = p.number }) owner ∙ ap (λ (n : ℕ). record { tab = a.tab; number = n }) number_is in
    let x_is : kept_as o (token.Probe p) ≡ kept_as whole (token_for a.tab whole (length a.issued) Asked) = ap (λ (q : Operation). kept_as q (token.Probe p)) (o_is ∙ ap (Request mode true) (sym bytes_are)) ∙ ap (λ (q : Issued). kept_as whole (token.Probe q)) p_is in
    kept-issue a b tab entered kept xs whole Asked (kept_as o (token.Probe p)) is refl refl xs_are x_is b_is

pub kept-queried : (a b : TabState) (tab entered : ℕ) (kept xs : List LiveCommand) (q : Issued) → IsKept a tab entered kept → xs ≡ kept ++ kept_as Query (token.Asking q) ∷ [] → q.tab ≡ a.tab → q.number ≡ length a.issued → b ≡ queried a → IsKept b tab entered xs
kept-queried a b tab entered kept xs q is xs_are owner number_is b_is =
    let q_is : q ≡ record { tab = a.tab; number = length a.issued } = ap (λ (t : ℕ). record { tab = t; number = q.number }) owner ∙ ap (λ (n : ℕ). record { tab = a.tab; number = n }) number_is in
    kept-issue a b tab entered kept xs Query (Querying no_parts) (kept_as Query (token.Asking q)) is refl refl xs_are (ap (λ (r : Issued). kept_as Query (token.Asking r)) q_is) b_is

-- The element at an index

pub stood-at : (a : TabState) (kept : List LiveCommand) (k place : ℕ) (x : LiveCommand) → Found a kept k place → x ≡ get_or kept place x → Stood a.tab k a.issued a.statuses x
stood-at a kept k place x f e = subst (λ (y : LiveCommand). Stood a.tab k a.issued a.statuses y) (sym e) (f.stands x)

same_status : (o : Option Status) (s t : Status) → o ≡ Some s → o ≡ Some t → s ≡ t
same_status o s t e f = cc

pub stood-same : (tab k : ℕ) (issued : List Operation) (rows : Table Status) (x y : LiveCommand) → Stood tab k issued rows x → Stood tab k issued rows y → x ≡ y
stood-same tab k issued rows x y s t =
    s.kept ∙ ap (λ (w : Status). kept_for tab issued (k, w)) (same_status (find rows k) s.status t.status s.here t.here) ∙ sym t.kept
