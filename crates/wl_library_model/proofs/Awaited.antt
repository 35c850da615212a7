-- Numbers whose answer a tab waits for: a frame that arrives makes none of them awaited again.
use Rattle.std.proofs.Common.{◌≡◌, ⊎_elim, ℕ, Bool, true, false, not, ◌&&◌, List, [], ◌∷◌, filter, Option, Some, None, is_some, refl, sym, ap, ◌∙◌}
use Rattle.std.specs.Prelude.{◌==◌}
use Rattle.std.proofs.lemmas.Bool.{not-true}
use Rattle.wl_draft.specs.Tables.{Table, find, put, Rises}
use Rattle.wl_draft.specs.Membership.{In, Here, Later}
use Rattle.wl_draft.proofs.Membership.{apart, either, In-map_cases, In-filter_cases}
use Rattle.wl_draft.proofs.RisingTables.{find-In, In-find, put-cases}
use Rattle.wl_grammar.specs.declared.frame.Operation.{Operation}
use Rattle.wl_grammar.specs.declared.frame.Snapshot.{Snapshot as Part}
use Rattle.wl_agent.specs.declared.drop_reason.DropReason.TheVariants as unheard
use Rattle.wl_agent.specs.declared.delivered.Delivered.{Delivered}
use Rattle.wl_agent.specs.declared.delivered.Delivered.TheVariants as heard
use Rattle.wl_agent.specs.declared.status.Status.{Status}
use Rattle.wl_agent.specs.declared.status.Status.TheVariants.{Asked, Held, Querying, Whole, Lost}
use Rattle.wl_agent.specs.Tab.{TabState, status_of, operation_of, is_issued, is_query, ended, is_asked_probe, unless_asked, carried}
use Rattle.wl_agent.specs.Delivery.{becomes, asking_refusal, part_refusal, parts_of, with_part_come, after_answer, after_part}
use Rattle.wl_tab.specs.Tabs.{is_told, told}
use Rattle.wl_world_model.proofs.Tables.{each_found}
use Rattle.wl_world_model.proofs.exclusion.HeardNumbers.{find-filter}
use Rattle.wl_library_model.specs.Simulation.{is_awaited}

-- Each number that is awaited in the first table is awaited in the second.
abbrev pub Fewer : Table Status → Table Status → Type 0
Fewer new old = (k : ℕ) → is_awaited (find new k) ≡ true → is_awaited (find old k) ≡ true

awaited-some : (o : Option Status) → is_awaited o ≡ true → (s : Status) × (o ≡ Some s)
awaited-some None e = apart e refl
awaited-some (Some s) e = (s, refl)

pub filtered-fewer : (test : ℕ × Status → Bool) (rows : Table Status) → Rises 0 rows → Fewer (filter test rows) rows
filtered-fewer test rows r k e =
    let o = awaited-some (find (filter test rows) k) e in
    ap is_awaited ((find-filter test rows r k o.0 o.1).0 ∙ sym o.1) ∙ e

pub put-fewer : (n : ℕ) (s : Status) (rows : Table Status) → (is_awaited (Some s) ≡ true → is_awaited (find rows n) ≡ true) → Fewer (put n s rows) rows
put-fewer n s rows f = each_found (λ k o. is_awaited o ≡ true → is_awaited (find rows k) ≡ true) n s rows f (λ k d e. e)

awaited-unless : (s : Status) → is_awaited (Some (unless_asked s)) ≡ true → is_awaited (Some s) ≡ true
awaited-unless Asked e = refl
awaited-unless Held e = e
awaited-unless (Querying parts) e = refl
awaited-unless (Whole snapshot) e = e
awaited-unless Lost e = e

pub carried-fewer : (issued : List Operation) (rows : Table Status) → Rises 0 rows → Fewer (carried issued rows) rows
carried-fewer issued rows r k e =
    let o = awaited-some (find (carried issued rows) k) e in
    let i = find-In (carried issued rows) k o.0 o.1 in
    let m = In-map_cases (λ row. (row.0, unless_asked row.1)) (filter (λ row. not (is_asked_probe issued row)) rows) i in
    let j = (In-filter_cases (λ row. not (is_asked_probe issued row)) rows m.1).0 in
    let same : o.0 ≡ unless_asked m.0.1 = ap (λ z. z.1) m.2 in
    let number : k ≡ m.0.0 = ap (λ z. z.0) m.2 in
    let found : find rows k ≡ Some m.0.1 = ap (find rows) number ∙ In-find 0 m.0.0 m.0.1 rows r j in
    ap is_awaited found ∙ awaited-unless m.0.1 (ap (λ z. is_awaited (Some z)) (sym same) ∙ (ap is_awaited (sym o.1) ∙ e))

pub Fewer-trans : (x y z : Table Status) → Fewer x y → Fewer y z → Fewer x z
Fewer-trans x y z f g k e = g k (f k e)

-- An answer

pub becomes-fewer : (n : ℕ) (s : Status) (a : TabState) → is_awaited (Some s) ≡ false → Fewer (becomes n s a).statuses a.statuses
unfolding becomes
becomes-fewer n s a e = put-fewer n s a.statuses (λ f. apart f e)

ended-fewer : (n : ℕ) (a : TabState) → Rises 0 a.statuses → Fewer (ended n a).statuses a.statuses
unfolding ended
ended-fewer n a r = filtered-fewer (λ row. not (row.0 == n)) a.statuses r

pub answer-fewer : (d : Delivered) (a : TabState) → Rises 0 a.statuses → Fewer (after_answer d a).statuses a.statuses
answer-fewer (heard.Granted k) a r = becomes-fewer k Held a refl
answer-fewer (heard.Null k) a r = ended-fewer k a r
answer-fewer (heard.Lost k) a r = becomes-fewer k Lost a refl
answer-fewer d a r = λ k e. e

-- A part of a snapshot

asking-awaited : (x : Part) (s : Option Status) → is_some (asking_refusal x s) ≡ false → is_awaited s ≡ true
asking-awaited x (Some (Querying parts)) e = refl
asking-awaited x s e = apart refl e

refused-awaited : (x : Part) (a : TabState) → is_some (part_refusal x a) ≡ false → is_awaited (status_of a x.number) ≡ true
refused-awaited x a =
    either (λ z. is_some z ≡ false → is_awaited (status_of a x.number) ≡ true) (is_issued a x.number && is_query (operation_of a x.number)) (asking_refusal x (status_of a x.number)) (Some unheard.Odd)
    (λ _. asking-awaited x (status_of a x.number))
    (λ _ e. apart refl e)

pub part-fewer : (x : Part) (a : TabState) → Fewer (after_part x a).statuses a.statuses
unfolding becomes
part-fewer x a =
    either (λ y. Fewer y.statuses a.statuses) (is_some (part_refusal x a)) a (becomes x.number (with_part_come x (parts_of (status_of a x.number))) a)
    (λ _ k e. e)
    (λ n. put-fewer x.number (with_part_come x (parts_of (status_of a x.number))) a.statuses (λ _. refused-awaited x a n))

-- The end of a query

pub told-fewer : (a : TabState) → Rises 0 a.statuses → Fewer (told a).statuses a.statuses
unfolding told
told-fewer a r = filtered-fewer (λ row. not (is_told row.1)) a.statuses r

-- No query of the table is complete or lost.
abbrev pub NoneTold : Table Status → Type 0
NoneTold rows = (row : ℕ × Status) → In row rows → is_told row.1 ≡ false

pub told-none : (a : TabState) → NoneTold (told a).statuses
unfolding told
told-none a row i = not-true _ (In-filter_cases (λ row. not (is_told row.1)) a.statuses i).1

filter-all : {X : Type 0} (test : X → Bool) (xs : List X) → ((x : X) → In x xs → test x ≡ true) → filter test xs ≡ xs
filter-all test [] f = refl
filter-all test (x ∷ xs) f =
    either (λ zs. zs ≡ x ∷ xs) (test x) (x ∷ filter test xs) (filter test xs)
    (λ _. ap (λ zs. x ∷ zs) (filter-all test xs (λ y i. f y (Later i))))
    (λ e. apart (f x Here) e)

-- Nothing is told twice.
pub told-same : (a : TabState) → NoneTold a.statuses → told a ≡ a
unfolding told
told-same a none = ap (λ z. record a { statuses = z }) (filter-all (λ row. not (is_told row.1)) a.statuses (λ row i. ap not (none row i)))

pub none_told-put : (k : ℕ) (s : Status) (rows : Table Status) → is_told s ≡ false → NoneTold rows → NoneTold (put k s rows)
none_told-put k s rows e none row i = ⊎_elim (λ same. ap (λ (z : ℕ × Status). is_told z.1) same ∙ e) (λ j. none row j) (put-cases k s rows i)

pub none_told-filter : (test : ℕ × Status → Bool) (rows : Table Status) → NoneTold rows → NoneTold (filter test rows)
none_told-filter test rows none row i = none row (In-filter_cases test rows i).0
