-- Rows that advance one by one to their next status, together with their stored tokens.
use Rattle.std.proofs.Common.{◌≡◌, ℕ, ◌+◌, ◌<◌, ◌≤◌, Bool, true, false, not, cond, eqb, ltb, List, [], ◌∷◌, ◌++◌, length, filter, map, fold, get_or, Option, Some, None, refl, sym, ap, ◌∙◌, arith}
use Rattle.std.proofs.lemmas.Bool.{eq-eqb, eqb-true, lt-ltb}
use Rattle.std.proofs.lemmas.List.{append-nil, append_assoc}
use Rattle.std.specs.List.{AllByRecursion}
use Rattle.wl_draft.specs.Tables.{Table, find, Rises, without_row}
use Rattle.wl_draft.proofs.RisingTables.{Rises-from, find_below, without_none}
use Rattle.wl_grammar.specs.declared.frame.Operation.{Operation}
use Rattle.wl_grammar.specs.declared.frame.Operation.TheVariants.{Request, Release, Abort, Query}
use Rattle.wl_agent.specs.declared.snapshot.Snapshot.{Snapshot}
use Rattle.wl_agent.specs.declared.status.Status.{Status}
use Rattle.wl_agent.specs.declared.status.Status.TheVariants.{Asked, Held, Querying, Whole, Lost}
use Rattle.wl_agent.specs.declared.token.Token.TheVariants as token
use Rattle.wl_agent.specs.Issued.{Issued}
use Rattle.wl_agent.specs.SnapshotParts.{PartsState}
use Rattle.wl_agent.specs.Tab.{TabState, status_of, operation_of, is_probe, ended, is_querying}
use Rattle.wl_agent.specs.Tokens.{is_own, is_asking, result_of_query_answer, told_by_status, after_query}
use Rattle.wl_agent.specs.AgentInvariant.{RowsFit, Stands, can_become}
use Rattle.wl_tab.specs.declared.locks.live_command.LiveCommand.{LiveCommand}
use Rattle.wl_tab.specs.Tabs.{is_told, told}
use Rattle.wl_tab.specs.TabTokens.{token_for, kept_as, kept_for}
use Rattle.wl_tab.specs.declared.locks.settling.Settlement.{Settlement}
use Rattle.wl_tab.specs.declared.locks.settling.Settlement.TheVariants as fate
use Rattle.wl_tab.specs.Telling.{Run, tell_next, told_run, with_fate, fate_of, fate_by_query, after_telling}

-- Changes of a row

abbrev pub Moves : Operation → Status → Option Status → Type 0
Moves o Asked None = (is_probe o ≡ true)
Moves o Asked (Some Asked) = Unit {0}
Moves o Asked (Some Held) = Unit {0}
Moves o Held (Some Held) = Unit {0}
Moves o (Querying p) (Some (Querying q)) = Unit {0}
Moves o (Querying p) (Some (Whole s)) = Unit {0}
Moves o (Querying p) (Some Lost) = Unit {0}
Moves o s next = ⊥

abbrev pub add_row : ℕ → Option Status → Table Status → Table Status
add_row k None rows = rows
add_row k (Some s) rows = (k, s) ∷ rows

-- The rows, each advanced to its next status.
abbrev pub advance : (ℕ × Status → Option Status) → Table Status → Table Status
advance next [] = []
advance next (row ∷ rows) = add_row row.0 (next row) (advance next rows)

rises_added : (least k : ℕ) (o : Option Status) (rows : Table Status) → least ≤ k → Rises (k + 1) rows → Rises least (add_row k o rows)
rises_added least k None rows le r = Rises-from least (k + 1) rows (omega arith) r
rises_added least k (Some s) rows le r = (le, r)

pub advance-rises : (next : ℕ × Status → Option Status) (least : ℕ) (rows : Table Status) → Rises least rows → Rises least (advance next rows)
advance-rises next least [] r = tt
advance-rises next least (row ∷ rows) r = rises_added least row.0 (next row) (advance next rows) r.0 (advance-rises next (row.0 + 1) rows r.1)

-- Case analysis over the ways in which a row may advance.
pub moved : (o : Operation) (P : Status → Option Status → Type 0) → (is_probe o ≡ true → P Asked None) → P Asked (Some Asked) → P Asked (Some Held) → P Held (Some Held) → ((p q : PartsState) → P (Querying p) (Some (Querying q))) → ((p : PartsState) (s : Snapshot) → P (Querying p) (Some (Whole s))) → ((p : PartsState) → P (Querying p) (Some Lost)) → (s : Status) (n : Option Status) → Moves o s n → P s n
moved o P refuses stays grants holds comes completes loses Asked None m = refuses m
moved o P refuses stays grants holds comes completes loses Asked (Some Asked) m = stays
moved o P refuses stays grants holds comes completes loses Asked (Some Held) m = grants
moved o P refuses stays grants holds comes completes loses Held (Some Held) m = holds
moved o P refuses stays grants holds comes completes loses (Querying p) (Some (Querying q)) m = comes p q
moved o P refuses stays grants holds comes completes loses (Querying p) (Some (Whole s)) m = completes p s
moved o P refuses stays grants holds comes completes loses (Querying p) (Some Lost) m = loses p
moved o P refuses stays grants holds comes completes loses s n m = absurd m

abbrev fits_on : Operation → Option Status → Bool
fits_on o None = true
fits_on o (Some t) = can_become o t

held_too : (o : Operation) → can_become o Asked ≡ true → can_become o Held ≡ true
held_too (Request m p n) e = refl
held_too (Release n) e = cc
held_too (Abort n) e = cc
held_too Query e = cc

whole_too : (o : Operation) (p : PartsState) (s : Snapshot) → can_become o (Querying p) ≡ true → can_become o (Whole s) ≡ true
whole_too (Request m b n) p s e = cc
whole_too (Release n) p s e = cc
whole_too (Abort n) p s e = cc
whole_too Query p s e = refl

asked_too : (o : Operation) (p q : PartsState) → can_become o (Querying p) ≡ true → can_become o (Querying q) ≡ true
asked_too (Request m b n) p q e = cc
asked_too (Release n) p q e = cc
asked_too (Abort n) p q e = cc
asked_too Query p q e = refl

lost_too : (o : Operation) (p : PartsState) → can_become o (Querying p) ≡ true → can_become o Lost ≡ true
lost_too (Request m b n) p e = cc
lost_too (Release n) p e = cc
lost_too (Abort n) p e = cc
lost_too Query p e = refl

becomes_fit : (o : Operation) (s : Status) (n : Option Status) → Moves o s n → can_become o s ≡ true → fits_on o n ≡ true
becomes_fit o s n m = moved o (λ s n. can_become o s ≡ true → fits_on o n ≡ true) (λ p e. refl) (λ e. e) (held_too o) (λ e. e) (asked_too o) (whole_too o) (lost_too o) s n m

fits_added : (issued : List Operation) (k : ℕ) (s : Status) (o : Option Status) (rows : Table Status) → Stands issued (k, s) → Moves (get_or issued k Query) s o → RowsFit issued rows → RowsFit issued (add_row k o rows)
fits_added issued k s None rows stands moves fit = fit
fits_added issued k s (Some t) rows stands moves fit = ((stands.0, becomes_fit (get_or issued k Query) s (Some t) moves stands.1), fit)

abbrev pub AllMove : List Operation → (ℕ × Status → Option Status) → Table Status → Type 0
AllMove issued next rows = AllByRecursion (λ row. Moves (get_or issued row.0 Query) row.1 (next row)) rows

pub advance-fits : (issued : List Operation) (next : ℕ × Status → Option Status) (rows : Table Status) → RowsFit issued rows → AllMove issued next rows → RowsFit issued (advance next rows)
advance-fits issued next [] fit moves = tt
advance-fits issued next (row ∷ rows) fit moves = fits_added issued row.0 row.1 (next row) (advance next rows) fit.0 moves.0 (advance-fits issued next rows fit.1 moves.1)

-- Rows before a number

abbrev Before : ℕ → Table Status → Type 0
Before k rows = AllByRecursion (λ row. row.0 < k) rows

find_behind_as : (k : ℕ) (row : ℕ × Status) (D X : Table Status) (b : Bool) → eqb row.0 k ≡ b → row.0 < k → find (D ++ X) k ≡ find X k → cond b (Some row.1) (find (D ++ X) k) ≡ find X k
find_behind_as k row D X true e low below = absurd (omega (arith, eqb-true row.0 k e))
find_behind_as k row D X false e low below = below

find_behind : (k : ℕ) (D X : Table Status) → Before k D → find (D ++ X) k ≡ find X k
find_behind k [] X before = refl
find_behind k (row ∷ D) X before = find_behind_as k row D X (eqb row.0 k) refl before.0 (find_behind k D X before.1)

without_behind_as : (k : ℕ) (row : ℕ × Status) (D X : Table Status) (b : Bool) → eqb row.0 k ≡ b → row.0 < k → without_row k (D ++ X) ≡ D ++ without_row k X → cond (not b) (row ∷ without_row k (D ++ X)) (without_row k (D ++ X)) ≡ row ∷ (D ++ without_row k X)
without_behind_as k row D X true e low below = absurd (omega (arith, eqb-true row.0 k e))
without_behind_as k row D X false e low below = ap (λ rows. row ∷ rows) below

without_behind : (k : ℕ) (D X : Table Status) → Before k D → without_row k (D ++ X) ≡ D ++ without_row k X
without_behind k [] X before = refl
without_behind k (row ∷ D) X before = without_behind_as k row D X (eqb row.0 k) refl before.0 (without_behind k D X before.1)

find_here : (k : ℕ) (o : Option Status) (rows : Table Status) → Rises (k + 1) rows → find (add_row k o rows) k ≡ o
find_here k None rows r = find_below k (k + 1) rows r (omega arith)
find_here k (Some s) rows r = ap (λ b. cond b (Some s) (find rows k)) (eq-eqb k k refl)

without_here : (k : ℕ) (s : Status) (rows : Table Status) → Rises (k + 1) rows → without_row k ((k, s) ∷ rows) ≡ rows
without_here k s rows r =
    let same = eq-eqb k k refl in
    let none = without_none k rows (find_below k (k + 1) rows r (omega arith)) in
    ap (λ b. cond (not b) ((k, s) ∷ without_row k rows) (without_row k rows)) same ∙ none

before_more : (k m : ℕ) (D : Table Status) → k ≤ m → Before k D → Before m D
before_more k m [] le before = tt
before_more k m (row ∷ D) le before = (omega (arith, before.0), before_more k m D le before.1)

before_push : (k : ℕ) (s : Status) (D : Table Status) → Before k D → Before (k + 1) (D ++ (k, s) ∷ [])
before_push k s [] before = (omega arith, tt)
before_push k s (row ∷ D) before = (omega (arith, before.0), before_push k s D before.1)

-- One token is settled

abbrev pub with_rows : Table Status → TabState → TabState
with_rows rows a = record a { statuses = rows }

abbrev pub run_with : TabState → List LiveCommand → Option Snapshot → Run
run_with a kept snapshot = record { agent = a; kept = kept; snapshot = snapshot }

abbrev pub whole_or : Status → Option Snapshot → Option Snapshot
whole_or (Whole s) w = Some s
whole_or s w = w

-- The run after settling the token of a number that advanced to this status.
abbrev pub advanced : ℕ → Operation → Option Status → Run → Run
advanced k o None run = run
advanced k o (Some s) run =
    cond (is_told s) (record { agent = ended k run.agent; kept = run.kept; snapshot = whole_or s run.snapshot })
    (record { agent = run.agent; kept = run.kept ++ kept_as o (token_for run.agent.tab o k s) ∷ []; snapshot = run.snapshot })

-- Settling the token of a number advances the run.
abbrev Tells : Run → ℕ → Operation → Status → Option Status → Type 0
Tells run k o s n =
    can_become o s ≡ true → status_of run.agent k ≡ n → tell_next run (kept_as o (token_for run.agent.tab o k s)) ≡ advanced k o n run

tells_null : (run : Run) (k : ℕ) (o : Operation) → operation_of run.agent k ≡ o → eqb run.agent.tab run.agent.tab ≡ true → is_probe o ≡ true → Tells run k o Asked None
tells_null run k (Request m true n) op own p fits st = rw (own, op, st) refl
tells_null run k (Request m false n) op own p fits st = cc
tells_null run k (Release n) op own p fits st = cc
tells_null run k (Abort n) op own p fits st = cc
tells_null run k Query op own p fits st = cc

tells_waiting : (run : Run) (k : ℕ) (o : Operation) → operation_of run.agent k ≡ o → eqb run.agent.tab run.agent.tab ≡ true → Tells run k o Asked (Some Asked)
tells_waiting run k (Request m true n) op own fits st = rw (own, op, st) refl
tells_waiting run k (Request m false n) op own fits st = rw (own, op, st) refl
tells_waiting run k (Release n) op own fits st = cc
tells_waiting run k (Abort n) op own fits st = cc
tells_waiting run k Query op own fits st = cc

tells_granted : (run : Run) (k : ℕ) (o : Operation) → operation_of run.agent k ≡ o → eqb run.agent.tab run.agent.tab ≡ true → Tells run k o Asked (Some Held)
tells_granted run k (Request m true n) op own fits st = rw (own, op, st) refl
tells_granted run k (Request m false n) op own fits st = rw (own, op, st) refl
tells_granted run k (Release n) op own fits st = cc
tells_granted run k (Abort n) op own fits st = cc
tells_granted run k Query op own fits st = cc

-- The query of a number belongs to the tab as long as the number has a status.
asks_own : (a : TabState) (k : ℕ) (s : Status) → operation_of a k ≡ Query → eqb a.tab a.tab ≡ true → ltb k (length a.issued) ≡ true → status_of a k ≡ Some s → is_own is_asking a a.tab k ≡ true
asks_own a k s op own issued st = rw (own, issued, op, st) refl

-- Settling a query's token.
tells_query : (run : Run) (k : ℕ) (s : Status) → operation_of run.agent k ≡ Query → eqb run.agent.tab run.agent.tab ≡ true → ltb k (length run.agent.issued) ≡ true → status_of run.agent k ≡ Some s → tell_next run (kept_as Query (token.Asking (record { tab = run.agent.tab; number = k }))) ≡ with_fate (run_with (cond (is_querying (Some s)) run.agent (ended k run.agent)) run.kept run.snapshot) (kept_as Query (token.HeldLock (record { tab = run.agent.tab; number = k }))) (fate_by_query (told_by_status (Some s) (record { tab = run.agent.tab; number = k })))
tells_query run k s op own issued st =
    let q : Issued = record { tab = run.agent.tab; number = k } in
    let mine = asks_own run.agent k s op own issued st in
    let fate_is : fate_of run.agent (token.Asking q) ≡ fate_by_query (told_by_status (Some s) q) = ap (λ b. cond b (fate_by_query (result_of_query_answer run.agent q)) (fate.Stays (token.Asking q))) mine ∙ ap (λ (o : Option Status). fate_by_query (told_by_status o q)) st in
    let left_is : after_telling (token.Asking q) run.agent ≡ cond (is_querying (Some s)) run.agent (ended k run.agent) = ap (λ b. cond b (after_query k run.agent) run.agent) mine ∙ ap (λ (o : Option Status). cond (is_querying o) run.agent (ended k run.agent)) st in
    ap (with_fate run (kept_as Query (token.Asking q))) fate_is ∙ moved_on (fate_by_query (told_by_status (Some s) q)) q left_is
  where
    moved_on : (f : Settlement) (q : Issued) → after_telling (token.Asking q) run.agent ≡ cond (is_querying (Some s)) run.agent (ended k run.agent) → with_fate run (kept_as Query (token.Asking q)) f ≡ with_fate (run_with (cond (is_querying (Some s)) run.agent (ended k run.agent)) run.kept run.snapshot) (kept_as Query (token.HeldLock (record { tab = run.agent.tab; number = k }))) f
    moved_on (fate.Stays t) q e = ap (λ (a : TabState). run_with a (run.kept ++ kept_as Query t ∷ []) run.snapshot) e
    moved_on fate.Over q e = ap (λ (a : TabState). run_with a run.kept run.snapshot) e
    moved_on (fate.Whole w) q e = ap (λ (a : TabState). run_with a run.kept (Some w)) e

tells_part : (run : Run) (k : ℕ) (o : Operation) (p q : PartsState) → operation_of run.agent k ≡ o → eqb run.agent.tab run.agent.tab ≡ true → ltb k (length run.agent.issued) ≡ true → Tells run k o (Querying p) (Some (Querying q))
tells_part run k (Request m b n) p q op own issued fits st = cc
tells_part run k (Release n) p q op own issued fits st = cc
tells_part run k (Abort n) p q op own issued fits st = cc
tells_part run k Query p q op own issued fits st = tells_query run k (Querying q) op own issued st

tells_whole : (run : Run) (k : ℕ) (o : Operation) (p : PartsState) (s : Snapshot) → operation_of run.agent k ≡ o → eqb run.agent.tab run.agent.tab ≡ true → ltb k (length run.agent.issued) ≡ true → Tells run k o (Querying p) (Some (Whole s))
tells_whole run k (Request m b n) p s op own issued fits st = cc
tells_whole run k (Release n) p s op own issued fits st = cc
tells_whole run k (Abort n) p s op own issued fits st = cc
tells_whole run k Query p s op own issued fits st = tells_query run k (Whole s) op own issued st

tells_lost : (run : Run) (k : ℕ) (o : Operation) (p : PartsState) → operation_of run.agent k ≡ o → eqb run.agent.tab run.agent.tab ≡ true → ltb k (length run.agent.issued) ≡ true → Tells run k o (Querying p) (Some Lost)
tells_lost run k (Request m b n) p op own issued fits st = cc
tells_lost run k (Release n) p op own issued fits st = cc
tells_lost run k (Abort n) p op own issued fits st = cc
tells_lost run k Query p op own issued fits st = tells_query run k Lost op own issued st

tells : (run : Run) (k : ℕ) (o : Operation) → operation_of run.agent k ≡ o → k < length run.agent.issued → (s : Status) (n : Option Status) → Moves o s n → Tells run k o s n
tells run k o op below s n moves =
    let own = eq-eqb run.agent.tab run.agent.tab refl in
    let issued = lt-ltb k (length run.agent.issued) below in
    moved o (Tells run k o) (tells_null run k o op own) (tells_waiting run k o op own) (tells_granted run k o op own) (λ fits st. refl) (λ p q. tells_part run k o p q op own issued) (λ p s. tells_whole run k o p s op own issued) (λ p. tells_lost run k o p op own issued) s n moves

-- All tokens are settled

-- The last complete snapshot among the rows.
abbrev pub last_whole : Table Status → Option Snapshot → Option Snapshot
last_whole [] w = w
last_whole (row ∷ rows) w = last_whole rows (whole_or row.1 w)

abbrev pub untold : Table Status → Table Status
untold rows = filter (λ row. not (is_told row.1)) rows

-- The run after the tokens of the rows `X` are settled too. The rows `D` come before them.
abbrev finished : Table Status → Table Status → Run → Run
finished D X run = record {
  agent = record run.agent { statuses = D ++ untold X };
  kept = run.kept ++ map (kept_for run.agent.tab run.agent.issued) (untold X);
  snapshot = last_whole X run.snapshot;
}

abbrev RunsOn : (ℕ × Status → Option Status) → Table Status → Type 0
RunsOn next R =
    (m : ℕ) (D : Table Status) (run : Run) → run.agent.statuses ≡ D ++ advance next R → Before m D → Rises m R → RowsFit run.agent.issued R → AllMove run.agent.issued next R →
    fold tell_next run (map (kept_for run.agent.tab run.agent.issued) R) ≡ finished D (advance next R) run

runs_none : (D : Table Status) (run : Run) → run.agent.statuses ≡ D ++ [] → run ≡ finished D [] run
runs_none D run e =
    ap (λ (rows : Table Status). run_with (with_rows rows run.agent) run.kept run.snapshot) e
    ∙ ap (λ (ks : List LiveCommand). run_with (with_rows (D ++ []) run.agent) ks run.snapshot) (sym (append-nil run.kept))

-- A token stays.
stays_on : (D X : Table Status) (row : ℕ × Status) (run : Run) (x : LiveCommand) (ks : List LiveCommand) (w : Option Snapshot) → run_with (with_rows ((D ++ row ∷ []) ++ X) run.agent) ((run.kept ++ x ∷ []) ++ ks) w ≡ run_with (with_rows (D ++ row ∷ X) run.agent) (run.kept ++ x ∷ ks) w
stays_on D X row run x ks w = simp append_assoc

stays_as : (next : ℕ × Status → Option Status) (R D : Table Status) (k m : ℕ) (s : Status) (run : Run) → RunsOn next R → run.agent.statuses ≡ D ++ (k, s) ∷ advance next R → Before m D → m ≤ k → Rises (k + 1) R → RowsFit run.agent.issued R → AllMove run.agent.issued next R → fold tell_next (run_with run.agent (run.kept ++ kept_for run.agent.tab run.agent.issued (k, s) ∷ []) run.snapshot) (map (kept_for run.agent.tab run.agent.issued) R) ≡ run_with (with_rows (D ++ (k, s) ∷ untold (advance next R)) run.agent) (run.kept ++ kept_for run.agent.tab run.agent.issued (k, s) ∷ map (kept_for run.agent.tab run.agent.issued) (untold (advance next R))) (last_whole (advance next R) run.snapshot)
stays_as next R D k m s run on e before le r fit moves =
    let x = kept_for run.agent.tab run.agent.issued (k, s) in
    let next_run = run_with run.agent (run.kept ++ x ∷ []) run.snapshot in
    let rows : run.agent.statuses ≡ (D ++ (k, s) ∷ []) ++ advance next R = e ∙ simp append_assoc in
    on (k + 1) (D ++ (k, s) ∷ []) next_run rows (before_push k s D (before_more m k D le before)) r fit moves
    ∙ stays_on D (untold (advance next R)) (k, s) run x (map (kept_for run.agent.tab run.agent.issued) (untold (advance next R))) (last_whole (advance next R) run.snapshot)

-- A query is settled.
told_as : (next : ℕ × Status → Option Status) (R D : Table Status) (k m : ℕ) (s : Status) (w : Option Snapshot) (run : Run) → RunsOn next R → run.agent.statuses ≡ D ++ (k, s) ∷ advance next R → Before m D → m ≤ k → Rises (k + 1) R → RowsFit run.agent.issued R → AllMove run.agent.issued next R → fold tell_next (run_with (ended k run.agent) run.kept w) (map (kept_for run.agent.tab run.agent.issued) R) ≡ run_with (with_rows (D ++ untold (advance next R)) run.agent) (run.kept ++ map (kept_for run.agent.tab run.agent.issued) (untold (advance next R))) (last_whole (advance next R) w)
unfolding ended
told_as next R D k m s w run on e before le r fit moves =
    let low = before_more m k D le before in
    let rows : without_row k run.agent.statuses ≡ D ++ advance next R = ap (without_row k) e ∙ without_behind k D ((k, s) ∷ advance next R) low ∙ ap (λ rs. D ++ rs) (without_here k s (advance next R) (advance-rises next (k + 1) R r)) in
    on (k + 1) D (run_with (ended k run.agent) run.kept w) rows (before_more m (k + 1) D (omega arith) before) r fit moves

runs_as : (next : ℕ × Status → Option Status) (R D : Table Status) (k m : ℕ) (n : Option Status) (run : Run) → RunsOn next R → run.agent.statuses ≡ D ++ add_row k n (advance next R) → Before m D → m ≤ k → Rises (k + 1) R → RowsFit run.agent.issued R → AllMove run.agent.issued next R → fold tell_next (advanced k (get_or run.agent.issued k Query) n run) (map (kept_for run.agent.tab run.agent.issued) R) ≡ finished D (add_row k n (advance next R)) run
runs_as next R D k m None run on e before le r fit moves = on (k + 1) D run e (before_more m (k + 1) D (omega arith) before) r fit moves
runs_as next R D k m (Some Asked) run on e before le r fit moves = stays_as next R D k m Asked run on e before le r fit moves
runs_as next R D k m (Some Held) run on e before le r fit moves = stays_as next R D k m Held run on e before le r fit moves
runs_as next R D k m (Some (Querying p)) run on e before le r fit moves = stays_as next R D k m (Querying p) run on e before le r fit moves
runs_as next R D k m (Some (Whole s)) run on e before le r fit moves = told_as next R D k m (Whole s) (Some s) run on e before le r fit moves
runs_as next R D k m (Some Lost) run on e before le r fit moves = told_as next R D k m Lost run.snapshot run on e before le r fit moves

runs : (next : ℕ × Status → Option Status) (R : Table Status) → RunsOn next R
runs next [] m D run e before r fit moves = runs_none D run e
runs next (row ∷ R) m D run e before r fit moves =
    let k = row.0 in
    let n = next row in
    let o = get_or run.agent.issued k Query in
    let X = advance next R in
    let low : Before k D = before_more m k D r.0 before in
    let here : status_of run.agent k ≡ n = ap (λ (rows : Table Status). find rows k) e ∙ find_behind k D (add_row k n X) low ∙ find_here k n X (advance-rises next (k + 1) R r.1) in
    let step = tells run k o refl fit.0.0 row.1 n moves.0 fit.0.1 here in
    ap (λ (x : Run). fold tell_next x (map (kept_for run.agent.tab run.agent.issued) R)) step
    ∙ runs_as next R D k m n run (runs next R) e before r.0 r.1 fit.1 moves.1

-- If all rows have advanced, the run settles all tokens.
pub run-advanced : (next : ℕ × Status → Option Status) (table : Table Status) (b : TabState) → b.statuses ≡ advance next table → Rises 0 table → RowsFit b.issued table → AllMove b.issued next table → told_run b (map (kept_for b.tab b.issued) table) ≡ run_with (told b) (map (kept_for b.tab b.issued) (untold b.statuses)) (last_whole b.statuses None)
unfolding told_run told
run-advanced next table b e r fit moves =
    runs next table 0 [] (run_with b [] None) e tt r fit moves
    ∙ ap (λ (X : Table Status). run_with (with_rows (untold X) b) (map (kept_for b.tab b.issued) (untold X)) (last_whole X None)) (sym e)
