-- Effects of an arriving frame on a tab's numbers.
use Rattle.std.proofs.Common.{◌≡◌, ◌≢◌, ◌⊎◌, inl, inr, ℕ, Bool, true, false, not, List, filter, Option, Some, None, is_some, refl, sym, ap, ◌∙◌, arith}
use Rattle.std.specs.Prelude.{◌==◌}
use Rattle.std.proofs.lemmas.Bool.{eq-eqb, not-true}
use Rattle.wl_draft.specs.Tables.{Table, find, Rises, without_row}
use Rattle.wl_draft.proofs.RisingTables.{Rises-put, find-In, Rises-filter, Rises-map, In-find}
use Rattle.wl_grammar.specs.declared.frame.Operation.{Operation}
use Rattle.wl_grammar.specs.declared.frame.Operation.TheVariants.{Request, Release, Abort, Query}
use Rattle.wl_grammar.specs.declared.frame.Outcome.{Outcome}
use Rattle.wl_grammar.specs.declared.frame.Outcome.TheVariants as outcome
use Rattle.wl_grammar.specs.declared.frame.Answer.{Answer}
use Rattle.wl_grammar.specs.declared.frame.Snapshot.{Snapshot as Part}
use Rattle.wl_agent.specs.declared.drop_reason.DropReason.TheVariants as unheard
use Rattle.wl_agent.specs.declared.delivered.Delivered.TheVariants as heard
use Rattle.wl_agent.specs.declared.status.Status.{Status}
use Rattle.wl_agent.specs.declared.status.Status.TheVariants.{Asked, Held, Querying, Whole, Lost}
use Rattle.wl_agent.specs.SnapshotParts.{PartsState, with_part, is_whole, snapshot_of}
use Rattle.wl_agent.specs.Tab.{TabState, status_of, operation_of, is_issued, is_held, reserves_number, ended, is_asked_probe, unless_asked, carried}
use Rattle.wl_agent.specs.Delivery.{noted, becomes, result_of_asked_lock_answer, result_of_lock_answer, result_of_end_answer, result_of_asked_query_answer, result_of_query_answer, result_of_answer, told_by_answer, part_refusal, parts_of, with_part_come, after_answer, after_part}
use Rattle.wl_draft.proofs.Membership.{apart, either, In-map_cases, In-filter_cases}
use Rattle.wl_tab.specs.Tabs.{is_told, told}
use Rattle.wl_world_model.proofs.Tables.{each_found}
use Rattle.wl_world_model.proofs.exclusion.Invariant.{Alive}

-- Tables by rising number

pub find-filter : {X : Type 0} (test : ℕ × X → Bool) (ps : Table X) → Rises 0 ps → (k : ℕ) (x : X) → find (filter test ps) k ≡ Some x → (find ps k ≡ Some x) × (test (k, x) ≡ true)
find-filter test ps r k x e =
    let o = In-filter_cases test ps (find-In (filter test ps) k x e) in
    (In-find 0 k x ps r o.0, o.1)

-- A number that is alive afterwards was alive before

-- Each number that is asked or held in the first table is so in the second.
abbrev pub Fewer : Table Status → Table Status → Type 0
Fewer new old = (k : ℕ) (s : Status) → find new k ≡ Some s → reserves_number (Some s) ≡ true → find old k ≡ Some s

alive_from : (o : Option Status) → reserves_number o ≡ true → (s : Status) × (o ≡ Some s) × (reserves_number (Some s) ≡ true)
alive_from None e = apart e refl
alive_from (Some s) e = (s, refl, e)

pub held_from : (o : Option Status) → is_held o ≡ true → o ≡ Some Held
held_from None e = apart e refl
held_from (Some Held) e = refl
held_from (Some s) e = apart e refl

pub Fewer-alive : (new old : Table Status) → Fewer new old → (k : ℕ) → Alive (find new k) → Alive (find old k)
Fewer-alive new old f k a = let o = alive_from (find new k) a in ap reserves_number (f k o.0 o.1 o.2) ∙ o.2

pub Fewer-held : (new old : Table Status) → Fewer new old → (k : ℕ) → is_held (find new k) ≡ true → is_held (find old k) ≡ true
Fewer-held new old f k h = ap is_held (f k Held (held_from (find new k) h) refl)

pub filtered-fewer : (test : ℕ × Status → Bool) (rows : Table Status) → Rises 0 rows → Fewer (filter test rows) rows
filtered-fewer test rows r k s e l = (find-filter test rows r k s e).0

pub without_row-fewer : (n : ℕ) (rows : Table Status) → Rises 0 rows → (k : ℕ) → Alive (find (without_row n rows) k) → Alive (find rows k) × (k ≢ n)
without_row-fewer n rows r k a =
    let o = alive_from (find (without_row n rows) k) a in
    let f = find-filter (λ row. not (row.0 == n)) rows r k o.0 o.1 in
    (ap reserves_number f.0 ∙ o.2, λ e. apart (eq-eqb k n e) (not-true _ f.1))

unless-same : (s : Status) → reserves_number (Some (unless_asked s)) ≡ true → unless_asked s ≡ s
unless-same Asked e = refl
unless-same Held e = refl
unless-same (Querying parts) e = apart e refl
unless-same (Whole snapshot) e = refl
unless-same Lost e = refl

pub carried-fewer : (issued : List Operation) (rows : Table Status) → Rises 0 rows → Fewer (carried issued rows) rows
carried-fewer issued rows r k s e l =
    let i = find-In (carried issued rows) k s e in
    let o = In-map_cases (λ row. (row.0, unless_asked row.1)) (filter (λ row. not (is_asked_probe issued row)) rows) i in
    let j = (In-filter_cases (λ row. not (is_asked_probe issued row)) rows o.1).0 in
    let same : s ≡ unless_asked o.0.1 = ap (λ z. z.1) o.2 in
    let number : k ≡ o.0.0 = ap (λ z. z.0) o.2 in
    ap (find rows) number ∙ (In-find 0 o.0.0 o.0.1 rows r j ∙ ap Some (sym (unless-same o.0.1 (ap (λ z. reserves_number (Some z)) (sym same) ∙ l)) ∙ sym same))

pub carried-rises : (issued : List Operation) (rows : Table Status) → Rises 0 rows → Rises 0 (carried issued rows)
carried-rises issued rows r = Rises-map (λ p. unless_asked p.1) 0 _ (Rises-filter (λ row. not (is_asked_probe issued row)) 0 rows r)

pub told-fewer : (rows : Table Status) → Rises 0 rows → Fewer (filter (λ row. not (is_told row.1)) rows) rows
told-fewer rows r = filtered-fewer (λ row. not (is_told row.1)) rows r

pub Fewer-trans : (x y z : Table Status) → Fewer x y → Fewer y z → Fewer x z
Fewer-trans x y z f g k s e l = g k s (f k s e l) l

-- A tab takes a frame of its generation

pub record LiveCommand (a y : TabState) (Granted : ℕ → Type 0) : Type 0 where
  pub entered : y.entered ≡ a.entered
  pub report : y.report ≡ a.report
  pub in_parts : y.in_parts ≡ a.in_parts
  pub issued : y.issued ≡ a.issued
  pub rises : Rises 0 y.statuses
  pub alive : (k : ℕ) → Alive (status_of y k) → Alive (status_of a k)
  pub held : (k : ℕ) → is_held (status_of y k) ≡ true → (is_held (status_of a k) ≡ true) ⊎ Granted k

pub same-kept : (a : TabState) (G : ℕ → Type 0) → Rises 0 a.statuses → LiveCommand a a G
same-kept a G r = record { entered = refl; report = refl; in_parts = refl; issued = refl; rises = r; alive = λ k l. l; held = λ k h. inl h }

pub told-kept : (a y : TabState) (G : ℕ → Type 0) → LiveCommand a y G → LiveCommand a (told y) G
unfolding told
told-kept a y G c = record {
  entered = c.entered;
  report = c.report;
  in_parts = c.in_parts;
  issued = c.issued;
  rises = Rises-filter (λ row. not (is_told row.1)) 0 y.statuses c.rises;
  alive = λ k l. c.alive k (Fewer-alive (filter (λ row. not (is_told row.1)) y.statuses) y.statuses (told-fewer y.statuses c.rises) k l);
  held = λ k h. c.held k (Fewer-held (filter (λ row. not (is_told row.1)) y.statuses) y.statuses (told-fewer y.statuses c.rises) k h);
}

pub noted-kept : (upto : ℕ) (a y : TabState) (G : ℕ → Type 0) → LiveCommand a y G → LiveCommand a (noted upto y) G
unfolding noted
noted-kept upto a y G c = record { entered = c.entered; report = c.report; in_parts = c.in_parts; issued = c.issued; rises = c.rises; alive = c.alive; held = c.held }

becomes-kept : (n : ℕ) (s : Status) (a : TabState) (G : ℕ → Type 0) → Rises 0 a.statuses → (Alive (Some s) → Alive (status_of a n)) → (is_held (Some s) ≡ true → G n) → LiveCommand a (becomes n s a) G
unfolding becomes
becomes-kept n s a G r l h = record {
  entered = refl;
  report = refl;
  in_parts = refl;
  issued = refl;
  rises = Rises-put 0 n s a.statuses (omega arith) r;
  alive = each_found (λ k o. Alive o → Alive (status_of a k)) n s a.statuses l (λ k d e. e);
  held = each_found (λ k o. is_held o ≡ true → (is_held (status_of a k) ≡ true) ⊎ G k) n s a.statuses (λ e. inr (h e)) (λ k d e. inl e);
}

ended-kept : (n : ℕ) (a : TabState) (G : ℕ → Type 0) → Rises 0 a.statuses → LiveCommand a (ended n a) G
unfolding ended
ended-kept n a G r = record {
  entered = refl;
  report = refl;
  in_parts = refl;
  issued = refl;
  rises = Rises-filter (λ row. not (row.0 == n)) 0 a.statuses r;
  alive = λ k l. (without_row-fewer n a.statuses r k l).0;
  held = λ k h. inl (Fewer-held (without_row n a.statuses) a.statuses (filtered-fewer (λ row. not (row.0 == n)) a.statuses r) k h);
}

-- An answer

module _ (a : TabState) (r : Rises 0 a.statuses) (k : ℕ) where
  abbrev Granting : Outcome → ℕ → Type 0
  Granting o j = (k ≡ j) × (o ≡ outcome.Granted)

  asked-kept : (if_available : Bool) (o : Outcome) → status_of a k ≡ Some Asked → LiveCommand a (after_answer (result_of_asked_lock_answer k if_available o) a) (Granting o)
  asked-kept b outcome.Granted e = becomes-kept k Held a (Granting outcome.Granted) r (λ _. ap reserves_number e) (λ _. (refl, refl))
  asked-kept b outcome.Waiting e = either (λ d. LiveCommand a (after_answer d a) (Granting outcome.Waiting)) b (heard.Dropped unheard.Odd) (heard.Waiting k) (λ _. same-kept a _ r) (λ _. same-kept a _ r)
  asked-kept b outcome.Gone e = either (λ d. LiveCommand a (after_answer d a) (Granting outcome.Gone)) b (heard.Null k) (heard.Dropped unheard.Odd) (λ _. ended-kept k a _ r) (λ _. same-kept a _ r)
  asked-kept b outcome.Taken e = same-kept a _ r

  lock-kept : (if_available : Bool) (s : Option Status) (o : Outcome) → status_of a k ≡ s → LiveCommand a (after_answer (result_of_lock_answer k if_available s o) a) (Granting o)
  lock-kept b (Some Asked) o e = asked-kept b o e
  lock-kept b (Some Held) o e = same-kept a _ r
  lock-kept b s o e = same-kept a _ r

  end-kept : (o : Outcome) → LiveCommand a (after_answer (result_of_end_answer k o) a) (Granting o)
  end-kept outcome.Taken = same-kept a _ r
  end-kept o = same-kept a _ r

  asked_query-kept : (o : Outcome) → LiveCommand a (after_answer (result_of_asked_query_answer k o) a) (Granting o)
  asked_query-kept outcome.Gone = becomes-kept k Lost a _ r (λ l. apart l refl) (λ h. apart h refl)
  asked_query-kept o = same-kept a _ r

  query-kept : (s : Option Status) (o : Outcome) → LiveCommand a (after_answer (result_of_query_answer k s o) a) (Granting o)
  query-kept (Some (Querying parts)) o = asked_query-kept o
  query-kept s o = same-kept a _ r

  command-kept : (c : Operation) (s : Option Status) (o : Outcome) → status_of a k ≡ s → LiveCommand a (after_answer (result_of_answer k c s o) a) (Granting o)
  command-kept (Request mode if_available name) s o e = lock-kept if_available s o e
  command-kept (Release number) s o e = end-kept o
  command-kept (Abort number) s o e = end-kept o
  command-kept Query s o e = query-kept s o

pub answer-kept : (x : Answer) (a : TabState) → Rises 0 a.statuses → LiveCommand a (after_answer (told_by_answer x a) a) (λ j. (x.number ≡ j) × (x.outcome ≡ outcome.Granted))
answer-kept x a r =
    either (λ d. LiveCommand a (after_answer d a) (λ j. (x.number ≡ j) × (x.outcome ≡ outcome.Granted))) (is_issued a x.number)
    (result_of_answer x.number (operation_of a x.number) (status_of a x.number) x.outcome) (heard.Dropped unheard.Odd)
    (λ _. command-kept a r x.number (operation_of a x.number) (status_of a x.number) x.outcome refl)
    (λ _. same-kept a _ r)

-- A part of a snapshot

part-over : (x : Part) (parts : PartsState) → reserves_number (Some (with_part_come x parts)) ≡ false
part-over x parts =
    either (λ s. reserves_number (Some s) ≡ false) (is_whole (with_part x parts)) (Whole (snapshot_of (with_part x parts))) (Querying (with_part x parts)) (λ _. refl) (λ _. refl)

part-unheld : (x : Part) (parts : PartsState) → is_held (Some (with_part_come x parts)) ≡ false
part-unheld x parts =
    either (λ s. is_held (Some s) ≡ false) (is_whole (with_part x parts)) (Whole (snapshot_of (with_part x parts))) (Querying (with_part x parts)) (λ _. refl) (λ _. refl)

pub part-kept : (x : Part) (a : TabState) (G : ℕ → Type 0) → Rises 0 a.statuses → LiveCommand a (after_part x a) G
part-kept x a G r =
    either (λ y. LiveCommand a y G) (is_some (part_refusal x a)) a (becomes x.number (with_part_come x (parts_of (status_of a x.number))) a)
    (λ _. same-kept a G r)
    (λ _. becomes-kept x.number (with_part_come x (parts_of (status_of a x.number))) a G r (λ l. apart l (part-over x _)) (λ h. apart h (part-unheld x _)))
