-- What an answer does to a tab's locks.
use Rattle.std.proofs.Common.{◌≡◌, ◌≢◌, ◌⊎◌, inl, inr, ℕ, ◌+◌, ◌<◌, Bool, true, false, not, ◌||◌, cond, List, [], ◌∷◌, length, filter, Option, Some, None, refl, sym, ap, ◌∙◌, arith}
use Rattle.std.specs.Prelude.{◌==◌, if◌then◌else◌}
use Rattle.std.proofs.lemmas.Bool.{eq-eqb, ne_eqb, eqb-true, lt-ltb, false_from_ne_true}
use Rattle.wl_draft.specs.Tables.{Table, find, without_row, Rises}
use Rattle.wl_draft.proofs.Membership.{apart, either}
use Rattle.wl_draft.proofs.TableLemmas.{find-put_same, find-put_other}
use Rattle.wl_draft.proofs.RisingTables.{Rises-put, Rises-filter, find_below, find-without}
use Rattle.wl_grammar.specs.declared.frame.Answer.{Answer}
use Rattle.wl_grammar.specs.declared.frame.Operation.{Operation}
use Rattle.wl_grammar.specs.declared.frame.Operation.TheVariants.{Request, Release, Abort, Query}
use Rattle.wl_grammar.specs.declared.frame.Outcome.{Outcome}
use Rattle.wl_grammar.specs.declared.frame.Outcome.TheVariants.{Granted, Waiting, Gone, Taken}
use Rattle.wl_broker.specs.Broker.{is_lock}
use Rattle.wl_agent.specs.declared.status.Status.{Status}
use Rattle.wl_agent.specs.declared.status.Status.TheVariants.{Asked, Held, Querying, Whole, Lost}
use Rattle.wl_agent.specs.declared.delivered.Delivered.{Delivered}
use Rattle.wl_agent.specs.declared.delivered.Delivered.TheVariants as heard
use Rattle.wl_agent.specs.declared.drop_reason.DropReason.TheVariants as unheard
use Rattle.wl_agent.specs.Tab.{TabState, status_of, operation_of, is_asked, is_querying, is_issued, reserves_number, ended}
use Rattle.wl_agent.specs.Delivery.{becomes, after_answer, result_of_asked_lock_answer, result_of_lock_answer, result_of_end_answer, result_of_asked_query_answer, result_of_query_answer, result_of_answer, told_by_answer}
use Rattle.wl_tab.specs.Tabs.{is_told, told}
use Rattle.wl_library_model.proofs.Awaited.{NoneTold, told-same}
use Rattle.wl_quiescence.proofs.rest.Invariant.{IsAlive, ends_wait}

abbrev pub is_waited : Option Status → Bool
is_waited s = is_asked s || is_querying s

-- A status without a query that is told.
abbrev pub untold : Option Status → Option Status
untold None = None
untold (Some s) = if is_told s then None else Some s

pub find-untold : (m : ℕ) (rows : Table Status) (k : ℕ) → Rises m rows → find (filter (λ row. not (is_told row.1)) rows) k ≡ untold (find rows k)
find-untold m [] k r = refl
find-untold m (p ∷ ps) k r = go (is_told p.1) (p.0 == k) refl refl (find-untold (p.0 + 1) ps k r.1)
  where
    F : Table Status
    F = filter (λ row. not (is_told row.1)) ps

    go : (c d : Bool) → is_told p.1 ≡ c → (p.0 == k) ≡ d → find (filter (λ row. not (is_told row.1)) ps) k ≡ untold (find ps k)
        → find (cond (not c) (p ∷ filter (λ row. not (is_told row.1)) ps) (filter (λ row. not (is_told row.1)) ps)) k ≡ untold (cond d (Some p.1) (find ps k))
    go true true e f ih =
        let none : find ps k ≡ None = find_below k (p.0 + 1) ps r.1 (let s : p.0 ≡ k = eqb-true p.0 k f in omega (arith, s)) in
        ih ∙ (ap untold none ∙ ap (λ z. let o : Option Status = cond z None (Some p.1) in o) (sym e))
    go true false e f ih = ih
    go false true e f ih = ap (λ z. cond z (Some p.1) (find (filter (λ row. not (is_told row.1)) ps) k)) f ∙ ap (λ z. let o : Option Status = cond z None (Some p.1) in o) (sym e)
    go false false e f ih = ap (λ z. cond z (Some p.1) (find (filter (λ row. not (is_told row.1)) ps) k)) f ∙ ih

pub status-told : (y : TabState) (k : ℕ) → Rises 0 y.statuses → status_of (told y) k ≡ untold (status_of y k)
unfolding told
status-told y k r = find-untold 0 y.statuses k r

pub status-untold : (a : TabState) (k : ℕ) → Rises 0 a.statuses → NoneTold a.statuses → untold (status_of a k) ≡ status_of a k
status-untold a k r n = sym (status-told a k r) ∙ ap (λ z. status_of z k) (told-same a n)

-- The statuses after the answer, before the end of a query is told.
pub record Answers (o : Outcome) (k : ℕ) (a y : TabState) : Type 0 where
  pub rises : Rises 0 y.statuses
  pub entered : y.entered ≡ a.entered
  pub issued : y.issued ≡ a.issued
  pub acknowledged : y.acknowledged ≡ a.acknowledged
  pub others : (j : ℕ) → j ≢ k → status_of y j ≡ status_of a j
  pub here :
      ((status_of y k ≡ status_of a k) × (ends_wait (operation_of a k) o ≡ true → is_waited (status_of a k) ≡ false))
      ⊎ ((is_waited (untold (status_of y k)) ≡ false) × ((reserves_number (untold (status_of y k)) ≡ true) ⊎ (IsAlive a k → (o ≡ Gone) × (is_asked (status_of a k) ≡ true))))

same-answers : (o : Outcome) (k : ℕ) (a : TabState) → Rises 0 a.statuses → (ends_wait (operation_of a k) o ≡ true → is_waited (status_of a k) ≡ false) → Answers o k a a
same-answers o k a r f = record { rises = r; entered = refl; issued = refl; acknowledged = refl; others = λ j d. refl; here = inl (refl, f) }

module _ (a : TabState) (r : Rises 0 a.statuses) (k : ℕ) where
  -- An answer that ends no wait.
  abbrev Keeps : Operation → Outcome → Delivered → Type 0
  Keeps c o d = operation_of a k ≡ c → Answers o k a (after_answer d a)

  idle : (c : Operation) (o : Outcome) → (ends_wait c o ≡ true → is_waited (status_of a k) ≡ false) → operation_of a k ≡ c → Answers o k a a
  idle c o f e = same-answers o k a r (λ z. f (sym (ap (λ y. ends_wait y o) e) ∙ z))

  becomes-held : (o : Outcome) → Answers o k a (becomes k Held a)
  unfolding becomes
  becomes-held o = record {
    rises = Rises-put 0 k Held a.statuses (omega arith) r;
    entered = refl;
    issued = refl;
    acknowledged = refl;
    others = λ j d. find-put_other k Held a.statuses j d;
    here = inr (ap (λ z. is_waited (untold z)) (find-put_same k Held a.statuses), inl (ap (λ z. reserves_number (untold z)) (find-put_same k Held a.statuses)));
  }

  becomes-lost : (o : Outcome) → (IsAlive a k → (o ≡ Gone) × (is_asked (status_of a k) ≡ true)) → Answers o k a (becomes k Lost a)
  unfolding becomes
  becomes-lost o f = record {
    rises = Rises-put 0 k Lost a.statuses (omega arith) r;
    entered = refl;
    issued = refl;
    acknowledged = refl;
    others = λ j d. find-put_other k Lost a.statuses j d;
    here = inr (ap (λ z. is_waited (untold z)) (find-put_same k Lost a.statuses), inr f);
  }

  is-ended : (o : Outcome) → (IsAlive a k → (o ≡ Gone) × (is_asked (status_of a k) ≡ true)) → Answers o k a (ended k a)
  unfolding ended
  is-ended o f =
      let none : find (without_row k a.statuses) k ≡ None = find-without k k a.statuses ∙ ap (λ z. let s : Option Status = cond z None (find a.statuses k) in s) (eq-eqb k k refl) in
      record {
        rises = Rises-filter (λ row. not (row.0 == k)) 0 a.statuses r;
        entered = refl;
        issued = refl;
        acknowledged = refl;
        others = λ j d. find-without k j a.statuses ∙ ap (λ z. let s : Option Status = cond z None (find a.statuses j) in s) (ne_eqb k j (λ e. d (sym e)));
        here = inr (ap (λ z. is_waited (untold z)) none, inr f);
      }

  no-wait : (s : Option Status) → status_of a k ≡ s → is_waited s ≡ false → is_waited (status_of a k) ≡ false
  no-wait s e n = ap is_waited e ∙ n

  asked-answers : (c : Operation) (b : Bool) (o : Outcome) → is_asked (status_of a k) ≡ true → ((o ≡ Gone → b ≡ ends_wait c o)) → (o ≡ Waiting → ends_wait c o ≡ false) → (o ≡ Taken → ends_wait c o ≡ false) → Keeps c o (result_of_asked_lock_answer k b o)
  asked-answers c b Granted y g w t e = becomes-held Granted
  asked-answers c b Waiting y g w t e = either (λ d. Answers Waiting k a (after_answer d a)) b (heard.Dropped unheard.Odd) (heard.Waiting k) (λ _. idle c Waiting (λ z. apart z (w refl)) e) (λ _. idle c Waiting (λ z. apart z (w refl)) e)
  asked-answers c b Gone y g w t e = either (λ d. Answers Gone k a (after_answer d a)) b (heard.Null k) (heard.Dropped unheard.Odd) (λ _. is-ended Gone (λ _. (refl, y))) (λ n. idle c Gone (λ z. apart z (sym (g refl) ∙ n)) e)
  asked-answers c b Taken y g w t e = idle c Taken (λ z. apart z (t refl)) e

  lock-answers : (c : Operation) (b : Bool) (s : Option Status) (o : Outcome) → status_of a k ≡ s → (is_querying s ≡ false) → (o ≡ Gone → b ≡ ends_wait c o) → (o ≡ Waiting → ends_wait c o ≡ false) → (o ≡ Taken → ends_wait c o ≡ false)
      → Keeps c o (result_of_lock_answer k b s o)
  lock-answers c b (Some Asked) o is q g w t = asked-answers c b o (ap is_asked is) g w t
  lock-answers c b (Some Held) o is q g w t = idle c o (λ _. no-wait (Some Held) is refl)
  lock-answers c b (Some (Querying ps)) o is q g w t = apart refl q
  lock-answers c b (Some (Whole x)) o is q g w t = idle c o (λ _. no-wait (Some (Whole x)) is refl)
  lock-answers c b (Some Lost) o is q g w t = idle c o (λ _. no-wait (Some Lost) is refl)
  lock-answers c b None o is q g w t = idle c o (λ _. no-wait None is refl)

  end-answers : (c : Operation) (o : Outcome) → (ends_wait c o ≡ false) → Keeps c o (result_of_end_answer k o)
  end-answers c Taken n = idle c Taken (λ z. apart z n)
  end-answers c o n = idle c o (λ z. apart z n)

  asked_query-answers : (ps : Status) (o : Outcome) → status_of a k ≡ Some ps → reserves_number (Some ps) ≡ false → Keeps Query o (result_of_asked_query_answer k o)
  asked_query-answers s Gone is n e = becomes-lost Gone (λ l. apart l (ap reserves_number is ∙ n))
  asked_query-answers s o is n e = idle Query o (λ z. apart z refl) e

  query-answers : (s : Option Status) (o : Outcome) → status_of a k ≡ s → is_asked s ≡ false → Keeps Query o (result_of_query_answer k s o)
  query-answers (Some (Querying ps)) o is q = asked_query-answers (Querying ps) o is refl
  query-answers (Some Asked) o is q = apart refl q
  query-answers (Some Held) o is q = idle Query o (λ _. no-wait (Some Held) is refl)
  query-answers (Some (Whole x)) o is q = idle Query o (λ _. no-wait (Some (Whole x)) is refl)
  query-answers (Some Lost) o is q = idle Query o (λ _. no-wait (Some Lost) is refl)
  query-answers None o is q = idle Query o (λ _. no-wait None is refl)

  command-answers : (c : Operation) (o : Outcome) → operation_of a k ≡ c → (is_asked (status_of a k) ≡ true → is_lock c ≡ true) → (is_querying (status_of a k) ≡ true → c ≡ Query)
      → Answers o k a (after_answer (result_of_answer k c (status_of a k) o) a)
  command-answers (Request m b x) o e f q =
      lock-answers (Request m b x) b (status_of a k) o refl (false_from_ne_true _ (λ y. other m b x (q y))) (λ s. sym (ap (ends_wait (Request m b x)) s)) (λ s. ap (ends_wait (Request m b x)) s) (λ s. ap (ends_wait (Request m b x)) s) e
    where
      other : (m' : _) (b' : Bool) (x' : List ℕ) → Request m' b' x' ≡ Query → ⊥
      other m' b' x' z = cc
  command-answers (Release j) o e f q = end-answers (Release j) o refl e
  command-answers (Abort j) o e f q = end-answers (Abort j) o refl e
  command-answers Query o e f q = query-answers (status_of a k) o refl (false_from_ne_true _ (λ y. apart (f y) refl)) e

-- The answer of a tab's generation.
pub answer-answers : (x : Answer) (a : TabState) → Rises 0 a.statuses → (is_asked (status_of a x.number) ≡ true → is_lock (operation_of a x.number) ≡ true) → (is_querying (status_of a x.number) ≡ true → operation_of a x.number ≡ Query)
    → (is_waited (status_of a x.number) ≡ true → x.number < length a.issued) → Answers x.outcome x.number a (after_answer (told_by_answer x a) a)
answer-answers x a r f q lt =
    either (λ d. Answers x.outcome x.number a (after_answer d a)) (is_issued a x.number) (result_of_answer x.number (operation_of a x.number) (status_of a x.number) x.outcome) (heard.Dropped unheard.Odd)
    (λ _. command-answers a r x.number (operation_of a x.number) x.outcome refl f q)
    (λ n. same-answers x.outcome x.number a r (λ _. false_from_ne_true _ (λ y. apart (lt-ltb x.number (length a.issued) (lt y)) n)))
