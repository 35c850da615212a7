-- A tab's report lists locks, and as waiting it lists requests. A tab keeps the commands that it has issued.
use Rattle.std.proofs.Common.{◌≡◌, ⊎_elim, ℕ, ◌+◌, ◌<◌, ◌≤◌, Bool, true, false, ◌&&◌, List, [], ◌∷◌, ◌++◌, filter, length, get_or, is_some, refl, sym, ap, ◌∙◌, subst, arith, le_refl, length-append}
use Rattle.std.specs.Prelude.{◌==◌, nat_lt}
use Rattle.std.proofs.lemmas.List.{get_or_append_left}
use Rattle.std.proofs.lemmas.Bool.{and_parts, or_cases}
use Rattle.wl_draft.specs.Membership.{In}
use Rattle.wl_draft.proofs.Membership.{apart, either, In-nil, In-cons_cases, In-map_cases, In-filter_cases}
use Rattle.wl_draft.proofs.RisingTables.{find-In}
use Rattle.wl_draft.specs.declared.row.Entry.{Entry}
use Rattle.wl_grammar.specs.declared.frame.Frame.{Frame}
use Rattle.wl_grammar.specs.declared.frame.Frame.TheVariants as frame
use Rattle.wl_grammar.specs.declared.frame.Operation.{Operation}
use Rattle.wl_grammar.specs.declared.frame.Operation.TheVariants.{Request, Release, Abort, Query}
use Rattle.wl_grammar.specs.declared.frame.Snapshot.{Snapshot as Part}
use Rattle.wl_limits.specs.declared.tabs.TheConstants.{COMMAND_LIMIT}
use Rattle.wl_broker.specs.Broker.{is_lock}
use Rattle.wl_agent.specs.declared.delivered.Delivered.{Delivered}
use Rattle.wl_agent.specs.declared.delivered.Delivered.TheVariants as heard
use Rattle.wl_agent.specs.declared.status.Status.{Status}
use Rattle.wl_agent.specs.declared.status.Status.TheVariants.{Asked, Held, Querying}
use Rattle.wl_agent.specs.SnapshotParts.{no_parts}
use Rattle.wl_agent.specs.Tab.{TabState, status_of, operation_of, is_asked, is_held, is_querying, is_request, is_reported, entry_of, report_of, numbers_of, ask_refusal, query_refusal, asked, queried, aborted, released, issue, finish, ended, enter, enter_first, enter_later}
use Rattle.wl_agent.specs.Tokens.{is_pending, is_holding, is_asking, after_query}
use Rattle.wl_agent.specs.Delivery.{noted, becomes as becomes_status, after_answer, after_part, told_by_answer, part_refusal, parts_of, with_part_come, has_entered, delivery}
use Rattle.wl_agent.specs.AgentLaws.{Call, Asks, Queries, Tells, Aborts, Releases, Hears, step as call_step}
use Rattle.wl_agent.specs.AgentInvariant.{Stands, RowsFit, IsAgentInvariant, can_become}
use Rattle.wl_agent.proofs.Limits.{Tidy, tidy_step, tidy_born}
use Rattle.wl_tab.specs.Tabs.{told}
use Rattle.wl_quiescence.proofs.rest.Served.{held-is}
use Rattle.wl_world_model.specs.declared.event.Event.{Event}
use Rattle.wl_world_model.specs.World.{empty_world, tab_of, run}
use Rattle.wl_quiescence.proofs.calls.Reports.{range-from, answer-report, part-report, noted-report}
use Rattle.wl_quiescence.proofs.facts.Issued.{tidy-told}
use Rattle.wl_quiescence.proofs.facts.Tabs.{OneCall, Stays, Calls, Heard, run-tabs}

-- Commands

-- The commands that the first tab has issued are the second one's, too.
pub record Grows (a b : TabState) : Type 0 where
  pub more : length a.issued ≤ length b.issued
  pub same : (k : ℕ) → k < length a.issued → operation_of b k ≡ operation_of a k

grows-same : (a b : TabState) → b.issued ≡ a.issued → Grows a b
grows-same a b e = record { more = let n = ap length e in omega (arith, n); same = λ k lt. ap (λ xs. get_or xs k Query) e }

grows-one : (a b : TabState) (o : Operation) → b.issued ≡ a.issued ++ o ∷ [] → Grows a b
grows-one a b o e = record {
  more = let n = ap length e ∙ length-append a.issued (o ∷ []) in omega (arith, n);
  same = λ k lt. ap (λ xs. get_or xs k Query) e ∙ get_or_append_left a.issued (o ∷ []) Query k lt;
}

issue-grows : (o : Operation) (s : Status) (a : TabState) → Grows a (issue o s a)
unfolding issue
issue-grows o s a = grows-one a (issue o s a) o refl

finish-grows : (o : Operation) (k : ℕ) (a : TabState) → Grows a (finish o k a)
unfolding finish
finish-grows o k a = grows-one a (finish o k a) o refl

ended-issued : (k : ℕ) (a : TabState) → (ended k a).issued ≡ a.issued
unfolding ended
ended-issued k a = refl

enter-issued : (g : ℕ) (a : TabState) → (enter g a).issued ≡ a.issued
unfolding enter_first enter_later
enter-issued g a = either (λ z. z.issued ≡ a.issued) (a.entered == 0) (enter_first g a) (enter_later g a) (λ _. refl) (λ _. refl)

answer-issued : (d : Delivered) (a : TabState) → (after_answer d a).issued ≡ a.issued
unfolding becomes_status ended
answer-issued (heard.Granted k) a = refl
answer-issued (heard.Null k) a = refl
answer-issued (heard.Lost k) a = refl
answer-issued d a = refl

part-issued : (x : Part) (a : TabState) → (after_part x a).issued ≡ a.issued
unfolding becomes_status
part-issued x a = either (λ z. z.issued ≡ a.issued) (is_some (part_refusal x a)) a (becomes_status x.number (with_part_come x (parts_of (status_of a x.number))) a) (λ _. refl) (λ _. refl)

noted-issued : (upto : ℕ) (a : TabState) → (noted upto a).issued ≡ a.issued
unfolding noted
noted-issued upto a = refl

pub delivery-issued : (f : Frame) (a : TabState) → (delivery f a).0.issued ≡ a.issued
unfolding delivery
delivery-issued (frame.Hello x) a = either {A = TabState × Delivered} (λ o. o.0.issued ≡ a.issued) (nat_lt a.entered x.generation) _ _ (λ _. enter-issued x.generation a) (λ _. refl)
delivery-issued (frame.Answer x) a =
    either {A = TabState × Delivered} (λ o. o.0.issued ≡ a.issued) (has_entered x.generation a) _ _
    (λ _. noted-issued x.upto (after_answer (told_by_answer x a) a) ∙ answer-issued (told_by_answer x a) a) (λ _. refl)
delivery-issued (frame.Snapshot x) a =
    either {A = TabState × Delivered} (λ o. o.0.issued ≡ a.issued) (has_entered x.generation a) _ _
    (λ _. noted-issued (x.number + 1) (after_part x a) ∙ part-issued x a) (λ _. refl)
delivery-issued f a = refl

pub told-issued : (a : TabState) → (told a).issued ≡ a.issued
unfolding told
told-issued a = refl

call-grows : (x : Call) (a : TabState) → Grows a (call_step x a)
call-grows (Asks mode b name) a = either (Grows a) (is_some (ask_refusal a name)) a (asked mode b name a) (λ _. grows-same a a refl) (λ _. issue-grows (Request mode b name) Asked a)
call-grows Queries a = either (Grows a) (is_some (query_refusal a)) a (queried a) (λ _. grows-same a a refl) (λ _. issue-grows Query (Querying no_parts) a)
call-grows (Tells k) a =
    either (Grows a) (is_asking a k) (after_query k a) a
    (λ _. either (Grows a) (is_querying (status_of a k)) a (ended k a) (λ _. grows-same a a refl) (λ _. grows-same a (ended k a) (ended-issued k a))) (λ _. grows-same a a refl)
call-grows (Aborts k) a = either (Grows a) (is_pending a k && is_asked (status_of a k)) (aborted k a) a (λ _. finish-grows (Abort k) k a) (λ _. grows-same a a refl)
call-grows (Releases k) a = either (Grows a) (is_holding a k) (released k a) a (λ _. finish-grows (Release k) k a) (λ _. grows-same a a refl)
call-grows (Hears f) a = grows-same a (delivery f a).0 (delivery-issued f a)

pub one-grows : (lives : Bool) (a b : TabState) → OneCall lives a b → Grows a b
one-grows lives a b Stays = grows-same a a refl
one-grows lives a b (Calls lv x) = call-grows x a
one-grows lives a b (Heard lv f) = grows-same a _ (told-issued (delivery f a).0 ∙ delivery-issued f a)

-- Reports

-- Each entry of the report is of a lock that was issued, and each that waits is of a request.
abbrev pub TellsLocks : TabState → Type 0
TellsLocks a = (e : Entry) → In e a.report.entries → (e.number < length a.issued) × (is_lock (operation_of a e.number) ≡ true) × (e.held ≡ false → is_request (operation_of a e.number) ≡ true)

row-fits : (issued : List Operation) (rows : List (ℕ × Status)) (k : ℕ) (s : Status) → RowsFit issued rows → In (k, s) rows → Stands issued (k, s)
row-fits issued [] k s x i = absurd (In-nil i)
row-fits issued (r ∷ rows) k s x i = ⊎_elim (λ e. subst (Stands issued) (sym e) x.0) (λ j. row-fits issued rows k s x.1 j) (In-cons_cases i)

held-lock : (o : Operation) → can_become o Held ≡ true → is_lock o ≡ true
held-lock (Request m b n) e = refl
held-lock (Release k) e = apart e refl
held-lock (Abort k) e = apart e refl
held-lock Query e = apart e refl

request-lock : (o : Operation) → is_request o ≡ true → is_lock o ≡ true
request-lock (Request m b n) e = refl
request-lock (Release k) e = apart e refl
request-lock (Abort k) e = apart e refl
request-lock Query e = apart e refl

-- What is reported is held, or asked as a request.
held-or : (a : TabState) (n : ℕ) → IsAgentInvariant a n → (k : ℕ) → is_reported a k ≡ true → (is_lock (operation_of a k) ≡ true) × (is_held (status_of a k) ≡ false → is_request (operation_of a k) ≡ true)
held-or a n t k e = ⊎_elim
    (λ h. (held-lock (operation_of a k) (row-fits a.issued a.statuses k Held t.rows (find-In a.statuses k Held (held-is (status_of a k) h))).1, λ f. apart h f))
    (λ q. let p = and_parts (is_asked (status_of a k)) (is_request (operation_of a k)) q in (request-lock (operation_of a k) p.1, λ _. p.1))
    (or_cases (is_held (status_of a k)) _ e)

report-tells : (g : ℕ) (a : TabState) (n : ℕ) → IsAgentInvariant a n → (e : Entry) → In e (report_of g a).entries
    → (e.number < length a.issued) × (is_lock (operation_of a e.number) ≡ true) × (e.held ≡ false → is_request (operation_of a e.number) ≡ true)
unfolding report_of
report-tells g a n t e i =
    let y = In-map_cases (entry_of a) (filter (is_reported a) (numbers_of a)) i in
    let c = In-filter_cases (is_reported a) (numbers_of a) y.1 in
    let r = range-from 0 (length a.issued) y.0 c.0 in
    let h = held-or a n t y.0 c.1 in
    let lt : y.0 < length a.issued = let z = r.1 in omega (arith, z) in
    subst (λ (z : Entry). (z.number < length a.issued) × (is_lock (operation_of a z.number) ≡ true) × (z.held ≡ false → is_request (operation_of a z.number) ≡ true)) (sym y.2) (lt, h.0, h.1)

tells-on : (a b : TabState) → b.report ≡ a.report → Grows a b → TellsLocks a → TellsLocks b
tells-on a b e g x y i =
    let o = x y (subst (λ z. In y z.entries) e i) in
    let s = g.same y.number o.0 in
    let le = g.more in let lt = o.0 in (omega (arith, le, lt), ap is_lock s ∙ o.1, λ f. ap is_request s ∙ o.2 f)

issue-tells : (o : Operation) (s : Status) (a : TabState) → TellsLocks a → TellsLocks (issue o s a)
unfolding issue
issue-tells o s a h = tells-on a (issue o s a) refl (issue-grows o s a) h

finish-tells : (o : Operation) (k : ℕ) (a : TabState) → TellsLocks a → TellsLocks (finish o k a)
unfolding finish
finish-tells o k a h = tells-on a (finish o k a) refl (finish-grows o k a) h

ended-tells : (k : ℕ) (a : TabState) → TellsLocks a → TellsLocks (ended k a)
unfolding ended
ended-tells k a h = h

enter-tells : (g n : ℕ) (a : TabState) → IsAgentInvariant a n → TellsLocks (enter g a)
unfolding enter_first enter_later
enter-tells g n a t = either TellsLocks (a.entered == 0) (enter_first g a) (enter_later g a) (λ _ e i. absurd (In-nil i)) (λ _ e i. report-tells g a n t e i)

delivery-tells : (f : Frame) (a : TabState) (n : ℕ) → IsAgentInvariant a n → TellsLocks a → TellsLocks (delivery f a).0
unfolding delivery
delivery-tells (frame.Hello x) a n t h = either {A = TabState × Delivered} (λ o. TellsLocks o.0) (nat_lt a.entered x.generation) _ _ (λ _. enter-tells x.generation n a t) (λ _. h)
delivery-tells (frame.Answer x) a n t h =
    let b = noted x.upto (after_answer (told_by_answer x a) a) in
    either {A = TabState × Delivered} (λ o. TellsLocks o.0) (has_entered x.generation a) _ _
    (λ _. tells-on a b (noted-report x.upto (after_answer (told_by_answer x a) a) ∙ answer-report (told_by_answer x a) a) (grows-same a b (noted-issued x.upto (after_answer (told_by_answer x a) a) ∙ answer-issued (told_by_answer x a) a)) h) (λ _. h)
delivery-tells (frame.Snapshot x) a n t h =
    let b = noted (x.number + 1) (after_part x a) in
    either {A = TabState × Delivered} (λ o. TellsLocks o.0) (has_entered x.generation a) _ _
    (λ _. tells-on a b (noted-report (x.number + 1) (after_part x a) ∙ part-report x a) (grows-same a b (noted-issued (x.number + 1) (after_part x a) ∙ part-issued x a)) h) (λ _. h)
delivery-tells f a n t h = h

told-tells : (a : TabState) → TellsLocks a → TellsLocks (told a)
unfolding told
told-tells a h = h

call-tells : (x : Call) (a : TabState) (n : ℕ) → IsAgentInvariant a n → TellsLocks a → TellsLocks (call_step x a)
call-tells (Asks mode b name) a n t h = either TellsLocks (is_some (ask_refusal a name)) a (asked mode b name a) (λ _. h) (λ _. issue-tells (Request mode b name) Asked a h)
call-tells Queries a n t h = either TellsLocks (is_some (query_refusal a)) a (queried a) (λ _. h) (λ _. issue-tells Query (Querying no_parts) a h)
call-tells (Tells k) a n t h =
    either TellsLocks (is_asking a k) (after_query k a) a (λ _. either TellsLocks (is_querying (status_of a k)) a (ended k a) (λ _. h) (λ _. ended-tells k a h)) (λ _. h)
call-tells (Aborts k) a n t h = either TellsLocks (is_pending a k && is_asked (status_of a k)) (aborted k a) a (λ _. finish-tells (Abort k) k a h) (λ _. h)
call-tells (Releases k) a n t h = either TellsLocks (is_holding a k) (released k a) a (λ _. finish-tells (Release k) k a h) (λ _. h)
call-tells (Hears f) a n t h = delivery-tells f a n t h

pub run-tells : (es : List Event) (t : ℕ) → TellsLocks (tab_of (run es empty_world) t)
run-tells es t =
    (run-tabs (λ t a. Tidy COMMAND_LIMIT a × TellsLocks a)
    (λ w. record {
      born = λ i t n. (tidy_born i t COMMAND_LIMIT (le_refl 1000000), λ e i. absurd (In-nil i));
      calls = λ t lv x h. (tidy_step COMMAND_LIMIT x (tab_of w t) h.0, call-tells x (tab_of w t) COMMAND_LIMIT h.0.1 h.1);
      hears = λ t lv f h. (tidy-told _ (tidy_step COMMAND_LIMIT (Hears f) (tab_of w t) h.0), told-tells _ (delivery-tells f (tab_of w t) COMMAND_LIMIT h.0.1 h.1));
    })
    es t).1
