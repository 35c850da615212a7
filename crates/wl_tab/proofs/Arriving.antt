-- Changes of a tab's rows when a frame arrives: each row advances to its next status.
use Rattle.std.proofs.Common.{◌≡◌, ℕ, ◌+◌, ◌<◌, Bool, true, false, not, cond, eqb, ltb, List, [], ◌∷◌, filter, map, get_or, Option, Some, None, is_some, refl, sym, ap, ◌∙◌, subst, arith}
use Rattle.std.proofs.lemmas.Bool.{ne_eqb, eqb-true, ltb-true}
use Rattle.wl_draft.specs.Tables.{Table, find, put, Rises, without_row}
use Rattle.wl_draft.proofs.Membership.{either}
use Rattle.wl_draft.proofs.RisingTables.{find_below}
use Rattle.wl_grammar.specs.declared.frame.Operation.{Operation}
use Rattle.wl_grammar.specs.declared.frame.Operation.TheVariants.{Request, Release, Abort, Query}
use Rattle.wl_grammar.specs.declared.frame.Outcome.{Outcome}
use Rattle.wl_grammar.specs.declared.frame.Outcome.TheVariants as outcome
use Rattle.wl_grammar.specs.declared.frame.Answer.{Answer}
use Rattle.wl_grammar.specs.declared.frame.Snapshot.{Snapshot as Part}
use Rattle.wl_grammar.specs.declared.frame.Frame.{Frame}
use Rattle.wl_agent.specs.declared.delivered.Delivered.{Delivered}
use Rattle.wl_agent.specs.declared.delivered.Delivered.TheVariants as told
use Rattle.wl_agent.specs.declared.drop_reason.DropReason.TheVariants as unheard
use Rattle.wl_agent.specs.declared.snapshot.Snapshot.{Snapshot}
use Rattle.wl_agent.specs.declared.status.Status.{Status}
use Rattle.wl_agent.specs.declared.status.Status.TheVariants.{Asked, Held, Querying, Whole, Lost}
use Rattle.wl_agent.specs.SnapshotParts.{PartsState, with_part, is_whole, snapshot_of}
use Rattle.wl_agent.specs.Tab.{TabState, status_of, operation_of, is_issued, is_querying, is_probe, is_asked_probe, unless_asked, carried, ended, enter_first, enter_later}
use Rattle.wl_agent.specs.Delivery.{delivery, noted, becomes, told_by_answer, result_of_answer, result_of_lock_answer, result_of_asked_lock_answer, result_of_end_answer, result_of_query_answer, result_of_asked_query_answer, after_answer, after_part, part_refusal, parts_of, with_part_come}
use Rattle.wl_agent.proofs.Cases.{delivered_as, Fits, told_fits}
use Rattle.wl_agent.proofs.Deliveries.{not-refused}
use Rattle.wl_tab.specs.Tabs.{is_told}
use Rattle.wl_tab.specs.TabTokens.{NoneTold}
use Rattle.wl_tab.proofs.Advancing.{Moves, AllMove, advance, add_row}

-- The rows of a tab have advanced by `next`.
pub record Advances (a b : TabState) : Type 0 where
  pub next : ℕ × Status → Option Status
  pub statuses : b.statuses ≡ advance next a.statuses
  pub moves : AllMove a.issued next a.statuses
  pub issued : b.issued ≡ a.issued
  pub tab : b.tab ≡ a.tab

-- Nothing changes

stays_so : (o : Operation) (s : Status) → is_told s ≡ false → Moves o s (Some s)
stays_so o Asked e = tt
stays_so o Held e = tt
stays_so o (Querying p) e = tt
stays_so o (Whole s) e = let bad : ⊥ = cc in absurd bad
stays_so o Lost e = let bad : ⊥ = cc in absurd bad

abbrev stay : ℕ × Status → Option Status
stay row = Some row.1

same_rows : (rows : Table Status) → rows ≡ advance stay rows
same_rows [] = refl
same_rows (row ∷ rows) = ap (λ rs. row ∷ rs) (same_rows rows)

same_moves : (issued : List Operation) (rows : Table Status) → NoneTold rows → AllMove issued stay rows
same_moves issued [] none = tt
same_moves issued (row ∷ rows) none = (stays_so (get_or issued row.0 Query) row.1 none.0, same_moves issued rows none.1)

pub same-advances : (a b : TabState) → NoneTold a.statuses → b.statuses ≡ a.statuses → b.issued ≡ a.issued → b.tab ≡ a.tab → Advances a b
same-advances a b none e issued tab = record {
  next = stay;
  statuses = e ∙ same_rows a.statuses;
  moves = same_moves a.issued a.statuses none;
  issued = issued;
  tab = tab;
}

-- One number changes

abbrev at_number : ℕ → Option Status → ℕ × Status → Option Status
at_number k n row = cond (eqb row.0 k) n (Some row.1)

untouched_as : (k : ℕ) (n : Option Status) (row : ℕ × Status) (rows rest : Table Status) (b : Bool) → eqb row.0 k ≡ b → k < row.0 → rows ≡ rest → row ∷ rows ≡ add_row row.0 (cond b n (Some row.1)) rest
untouched_as k n row rows rest true e low same = absurd (omega (arith, eqb-true row.0 k e))
untouched_as k n row rows rest false e low same = ap (λ rs. row ∷ rs) same

untouched : (k least : ℕ) (n : Option Status) (rows : Table Status) → Rises least rows → k < least → rows ≡ advance (at_number k n) rows
untouched k least n [] r low = refl
untouched k least n (row ∷ rows) r low = untouched_as k n row rows _ (eqb row.0 k) refl (omega (arith, r.0)) (untouched k (row.0 + 1) n rows r.1 (omega (arith, r.0)))

ended_as : (k : ℕ) (row : ℕ × Status) (rows rest : Table Status) (b : Bool) → rows ≡ rest → cond (not b) (row ∷ rows) rows ≡ add_row row.0 (cond b None (Some row.1)) rest
ended_as k row rows rest true same = same
ended_as k row rows rest false same = ap (λ rs. row ∷ rs) same

ended_rows : (k : ℕ) (rows : Table Status) → without_row k rows ≡ advance (at_number k None) rows
ended_rows k [] = refl
ended_rows k (row ∷ rows) = ended_as k row (without_row k rows) _ (eqb row.0 k) (ended_rows k rows)

nothing : {A : Type 0} (o : Option Status) (s : Status) → o ≡ None → o ≡ Some s → A
nothing o s none some = let bad : ⊥ = cc in absurd bad

put_later : (k : ℕ) (t s : Status) (row : ℕ × Status) (rows rest : Table Status) (c : Bool) → ltb k row.0 ≡ c → Rises (row.0 + 1) rows → find rows k ≡ Some s → put k t rows ≡ rest → cond c ((k, t) ∷ row ∷ rows) (row ∷ put k t rows) ≡ row ∷ rest
put_later k t s row rows rest true low r found same = nothing (find rows k) s (find_below k (row.0 + 1) rows r (omega (arith, ltb-true k row.0 low))) found
put_later k t s row rows rest false low r found same = ap (λ rs. row ∷ rs) same

put_as : (k : ℕ) (t s : Status) (row : ℕ × Status) (rows : Table Status) (b : Bool) → eqb row.0 k ≡ b → Rises (row.0 + 1) rows → cond b (Some row.1) (find rows k) ≡ Some s → (find rows k ≡ Some s → put k t rows ≡ advance (at_number k (Some t)) rows) → cond b ((k, t) ∷ rows) (cond (ltb k row.0) ((k, t) ∷ row ∷ rows) (row ∷ put k t rows)) ≡ add_row row.0 (cond b (Some t) (Some row.1)) (advance (at_number k (Some t)) rows)
put_as k t s row rows true e r found below =
    let same = eqb-true row.0 k e in
    ap (λ (n : ℕ). (n, t) ∷ rows) (sym same) ∙ ap (λ rs. (row.0, t) ∷ rs) (untouched k (row.0 + 1) (Some t) rows r (omega (arith, same)))
put_as k t s row rows false e r found below = put_later k t s row rows _ (ltb k row.0) refl r found (below found)

put_rows : (k least : ℕ) (t s : Status) (rows : Table Status) → Rises least rows → find rows k ≡ Some s → put k t rows ≡ advance (at_number k (Some t)) rows
put_rows k least t s [] r found = let bad : ⊥ = cc in absurd bad
put_rows k least t s (row ∷ rows) r found = put_as k t s row rows (eqb row.0 k) refl r.1 found (put_rows k (row.0 + 1) t s rows r.1)

moves_as : (issued : List Operation) (k : ℕ) (n : Option Status) (s : Status) (row : ℕ × Status) (o : Option Status) (b : Bool) → eqb row.0 k ≡ b → cond b (Some row.1) o ≡ Some s → Moves (get_or issued k Query) s n → is_told row.1 ≡ false → Moves (get_or issued row.0 Query) row.1 (cond b n (Some row.1))
moves_as issued k n s row o true e found moves untold =
    let same = eqb-true row.0 k e in
    let status : row.1 ≡ s = cc in
    subst (λ (i : ℕ). Moves (get_or issued i Query) row.1 n) (sym same) (subst (λ (t : Status). Moves (get_or issued k Query) t n) (sym status) moves)
moves_as issued k n s row o false e found moves untold = stays_so (get_or issued row.0 Query) row.1 untold

-- If the number has no row left, all other rows stay as they are.
others_move : (issued : List Operation) (k least : ℕ) (n : Option Status) (rows : Table Status) → Rises least rows → k < least → NoneTold rows → AllMove issued (at_number k n) rows
others_move issued k least n [] r low none = tt
others_move issued k least n (row ∷ rows) r low none =
    let other = ne_eqb row.0 k (λ e. omega (arith, r.0)) in
    (subst (λ (b : Bool). Moves (get_or issued row.0 Query) row.1 (cond b n (Some row.1))) (sym other) (stays_so (get_or issued row.0 Query) row.1 none.0), others_move issued k (row.0 + 1) n rows r.1 (omega (arith, r.0)) none.1)

rest_moves : (issued : List Operation) (k : ℕ) (n : Option Status) (s : Status) (row : ℕ × Status) (rows : Table Status) (b : Bool) → eqb row.0 k ≡ b → cond b (Some row.1) (find rows k) ≡ Some s → Rises (row.0 + 1) rows → NoneTold rows → (find rows k ≡ Some s → AllMove issued (at_number k n) rows) → AllMove issued (at_number k n) rows
rest_moves issued k n s row rows true e found r none below = others_move issued k (row.0 + 1) n rows r (omega (arith, eqb-true row.0 k e)) none
rest_moves issued k n s row rows false e found r none below = below found

number_moves : (issued : List Operation) (k least : ℕ) (n : Option Status) (s : Status) (rows : Table Status) → Rises least rows → find rows k ≡ Some s → Moves (get_or issued k Query) s n → NoneTold rows → AllMove issued (at_number k n) rows
number_moves issued k least n s [] r found moves none = tt
number_moves issued k least n s (row ∷ rows) r found moves none =
    (moves_as issued k n s row (find rows k) (eqb row.0 k) refl found moves none.0, rest_moves issued k n s row rows (eqb row.0 k) refl found r.1 none.1 (λ here. number_moves issued k (row.0 + 1) n s rows r.1 here moves none.1))

pub becomes-advances : (a : TabState) (k : ℕ) (s t : Status) → Rises 0 a.statuses → NoneTold a.statuses → status_of a k ≡ Some s → Moves (operation_of a k) s (Some t) → Advances a (becomes k t a)
unfolding becomes
becomes-advances a k s t rise none found moves = record {
  next = at_number k (Some t);
  statuses = put_rows k 0 t s a.statuses rise found;
  moves = number_moves a.issued k 0 (Some t) s a.statuses rise found moves none;
  issued = refl;
  tab = refl;
}

pub ended-advances : (a : TabState) (k : ℕ) → Rises 0 a.statuses → NoneTold a.statuses → status_of a k ≡ Some Asked → is_probe (operation_of a k) ≡ true → Advances a (ended k a)
unfolding ended
ended-advances a k rise none found probe = record {
  next = at_number k None;
  statuses = ended_rows k a.statuses;
  moves = number_moves a.issued k 0 None Asked a.statuses rise found probe none;
  issued = refl;
  tab = refl;
}

-- Entering

abbrev enters_row : List Operation → ℕ × Status → Option Status
enters_row issued row = cond (is_asked_probe issued row) None (Some (unless_asked row.1))

carried_as : (issued : List Operation) (row : ℕ × Status) (rows rest : Table Status) (b : Bool) → is_asked_probe issued row ≡ b → carried issued rows ≡ rest → carried issued (row ∷ rows) ≡ add_row row.0 (cond b None (Some (unless_asked row.1))) rest
carried_as issued row rows rest true e same = ap (λ b. map (λ (r : ℕ × Status). (r.0, unless_asked r.1)) (cond (not b) (row ∷ filter (λ r. not (is_asked_probe issued r)) rows) (filter (λ r. not (is_asked_probe issued r)) rows))) e ∙ same
carried_as issued row rows rest false e same = ap (λ b. map (λ (r : ℕ × Status). (r.0, unless_asked r.1)) (cond (not b) (row ∷ filter (λ r. not (is_asked_probe issued r)) rows) (filter (λ r. not (is_asked_probe issued r)) rows))) e ∙ ap (λ rs. (row.0, unless_asked row.1) ∷ rs) same

carried_rows : (issued : List Operation) (rows : Table Status) → carried issued rows ≡ advance (enters_row issued) rows
carried_rows issued [] = refl
carried_rows issued (row ∷ rows) = carried_as issued row rows _ (is_asked_probe issued row) refl (carried_rows issued rows)

enters_asked : (o : Operation) (b : Bool) → is_probe o ≡ b → Moves o Asked (cond b None (Some Asked))
enters_asked o true e = e
enters_asked o false e = tt

enters_so : (issued : List Operation) (k : ℕ) (s : Status) → is_told s ≡ false → Moves (get_or issued k Query) s (enters_row issued (k, s))
enters_so issued k Asked e = enters_asked (get_or issued k Query) (is_probe (get_or issued k Query)) refl
enters_so issued k Held e = tt
enters_so issued k (Querying p) e = tt
enters_so issued k (Whole s) e = let bad : ⊥ = cc in absurd bad
enters_so issued k Lost e = let bad : ⊥ = cc in absurd bad

carried_moves : (issued : List Operation) (rows : Table Status) → NoneTold rows → AllMove issued (enters_row issued) rows
carried_moves issued [] none = tt
carried_moves issued (row ∷ rows) none = (enters_so issued row.0 row.1 none.0, carried_moves issued rows none.1)

enters-later : (a : TabState) (g : ℕ) → NoneTold a.statuses → Advances a (enter_later g a)
unfolding enter_later
enters-later a g none = record {
  next = enters_row a.issued;
  statuses = carried_rows a.issued a.statuses;
  moves = carried_moves a.issued a.statuses none;
  issued = refl;
  tab = refl;
}

enters-first : (a : TabState) (g : ℕ) → NoneTold a.statuses → Advances a (enter_first g a)
unfolding enter_first
enters-first a g none = same-advances a (enter_first g a) none refl refl refl

-- Answers

-- A probe that gets null was asked. An answer causes no entering and completes no snapshot.
abbrev pub AnswerFits : Answer → TabState → Delivered → Type 0
AnswerFits x a (told.Null k) = (status_of a k ≡ Some Asked) × (is_probe (operation_of a k) ≡ true)
AnswerFits x a (told.Whole k) = ⊥
AnswerFits x a (told.Entered report) = ⊥
AnswerFits x a d = Unit {0}

null_asked : (x : Answer) (a : TabState) (b : Bool) (o : Outcome) → status_of a x.number ≡ Some Asked → is_probe (operation_of a x.number) ≡ b → AnswerFits x a (result_of_asked_lock_answer x.number b o)
null_asked x a b outcome.Granted s p = tt
null_asked x a true outcome.Waiting s p = tt
null_asked x a false outcome.Waiting s p = tt
null_asked x a true outcome.Gone s p = (s, p)
null_asked x a false outcome.Gone s p = tt
null_asked x a b outcome.Taken s p = tt

null_lock : (x : Answer) (a : TabState) (b : Bool) (s : Option Status) → status_of a x.number ≡ s → is_probe (operation_of a x.number) ≡ b → AnswerFits x a (result_of_lock_answer x.number b s x.outcome)
null_lock x a b None e p = tt
null_lock x a b (Some Asked) e p = null_asked x a b x.outcome e p
null_lock x a b (Some Held) e p = tt
null_lock x a b (Some (Querying q)) e p = tt
null_lock x a b (Some (Whole q)) e p = tt
null_lock x a b (Some Lost) e p = tt

null_end : (x : Answer) (a : TabState) (o : Outcome) → AnswerFits x a (result_of_end_answer x.number o)
null_end x a outcome.Granted = tt
null_end x a outcome.Waiting = tt
null_end x a outcome.Gone = tt
null_end x a outcome.Taken = tt

null_asked_query : (x : Answer) (a : TabState) (o : Outcome) → AnswerFits x a (result_of_asked_query_answer x.number o)
null_asked_query x a outcome.Granted = tt
null_asked_query x a outcome.Waiting = tt
null_asked_query x a outcome.Gone = tt
null_asked_query x a outcome.Taken = tt

null_query : (x : Answer) (a : TabState) (s : Option Status) → AnswerFits x a (result_of_query_answer x.number s x.outcome)
null_query x a None = tt
null_query x a (Some Asked) = tt
null_query x a (Some Held) = tt
null_query x a (Some (Querying p)) = null_asked_query x a x.outcome
null_query x a (Some (Whole p)) = tt
null_query x a (Some Lost) = tt

null_command : (x : Answer) (a : TabState) (o : Operation) → operation_of a x.number ≡ o → AnswerFits x a (result_of_answer x.number o (status_of a x.number) x.outcome)
null_command x a (Request mode b name) e = null_lock x a b (status_of a x.number) refl (ap is_probe e)
null_command x a (Release n) e = null_end x a x.outcome
null_command x a (Abort n) e = null_end x a x.outcome
null_command x a Query e = null_query x a (status_of a x.number)

pub null_fits : (x : Answer) (a : TabState) → AnswerFits x a (told_by_answer x a)
null_fits x a =
    either (AnswerFits x a) (is_issued a x.number) (result_of_answer x.number (operation_of a x.number) (status_of a x.number) x.outcome) (told.Dropped unheard.Odd) (λ e. null_command x a (operation_of a x.number) refl) (λ e. tt)

lost_moves : (o : Operation) (s : Option Status) → is_querying s ≡ true → (t : Status) × (s ≡ Some t) × Moves o t (Some Lost) × ((p : PartsState) → Moves o t (Some (Querying p))) × ((w : Snapshot) → Moves o t (Some (Whole w)))
lost_moves o None e = let bad : ⊥ = cc in absurd bad
lost_moves o (Some Asked) e = let bad : ⊥ = cc in absurd bad
lost_moves o (Some Held) e = let bad : ⊥ = cc in absurd bad
lost_moves o (Some (Querying p)) e = (Querying p, refl, tt, λ q. tt, λ w. tt)
lost_moves o (Some (Whole w)) e = let bad : ⊥ = cc in absurd bad
lost_moves o (Some Lost) e = let bad : ⊥ = cc in absurd bad

answered : (x : Answer) (a : TabState) (d : Delivered) → Fits x a d → AnswerFits x a d → Rises 0 a.statuses → NoneTold a.statuses → Advances a (after_answer d a)
answered x a (told.Granted k) f n rise none = becomes-advances a k Asked Held rise none f.2 tt
answered x a (told.Lost k) f n rise none =
    let q = lost_moves (operation_of a k) (status_of a k) f.1 in
    becomes-advances a k q.0 Lost rise none q.1 q.2
answered x a (told.Null k) f n rise none = ended-advances a k rise none n.0 n.1
answered x a (told.Whole k) f n rise none = absurd n
answered x a (told.Entered report) f n rise none = absurd n
answered x a d f n rise none = same-advances a a none refl refl refl

come_moves : (o : Operation) (t : Status) (x : Part) (parts : PartsState) (b : Bool) → ((p : PartsState) → Moves o t (Some (Querying p))) → ((w : Snapshot) → Moves o t (Some (Whole w))) → Moves o t (Some (cond b (Whole (snapshot_of (with_part x parts))) (Querying (with_part x parts))))
come_moves o t x parts true part whole = whole (snapshot_of (with_part x parts))
come_moves o t x parts false part whole = part (with_part x parts)

none_of : {X : Type 0} (o : Option X) → is_some o ≡ false → o ≡ None
none_of None e = refl
none_of (Some x) e = cc

came : (x : Part) (a : TabState) → Rises 0 a.statuses → NoneTold a.statuses → Advances a (after_part x a)
came x a rise none =
    let parts = parts_of (status_of a x.number) in
    either (Advances a) (is_some (part_refusal x a)) a (becomes x.number (with_part_come x parts) a) (λ e. same-advances a a none refl refl refl) (λ e.
    let q = lost_moves (operation_of a x.number) (status_of a x.number) (not-refused x a (none_of (part_refusal x a) e)) in
    becomes-advances a x.number q.0 (with_part_come x parts) rise none q.1 (come_moves (operation_of a x.number) q.0 x parts (is_whole (with_part x parts)) q.3 q.4))

noted-advances : (upto : ℕ) (a b : TabState) → Advances a b → Advances a (noted upto b)
unfolding noted
noted-advances upto a b d = record { next = d.next; statuses = d.statuses; moves = d.moves; issued = d.issued; tab = d.tab }

pub delivered-advances : (f : Frame) (a : TabState) → Rises 0 a.statuses → NoneTold a.statuses → Advances a (delivery f a).0
delivered-advances f a rise none =
    delivered_as (Advances a) f a (same-advances a a none refl refl refl)
    (λ x e up. either (Advances a) (eqb a.entered 0) (enter_first x.generation a) (enter_later x.generation a) (λ z. enters-first a x.generation none) (λ z. enters-later a x.generation none))
    (λ x e same. noted-advances x.upto a _ (answered x a (told_by_answer x a) (told_fits x a) (null_fits x a) rise none))
    (λ x e same. noted-advances (x.number + 1) a _ (came x a rise none))
