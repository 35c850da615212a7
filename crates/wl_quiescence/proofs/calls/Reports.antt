-- Each report of a tab has its numbers once, below its base.
use Rattle.std.proofs.Common.{◌≡◌, ℕ, ◌+◌, Bool, ◌&&◌, List, [], ◌∷◌, length, is_some, refl, sym, ap, ◌∙◌, subst}
use Rattle.std.specs.Prelude.{◌==◌, nat_lt}
use Rattle.wl_draft.specs.Membership.{In}
use Rattle.wl_draft.proofs.Membership.{either}
use Rattle.wl_grammar.specs.declared.frame.Frame.{Frame}
use Rattle.wl_grammar.specs.declared.frame.Frame.TheVariants as frame
use Rattle.wl_grammar.specs.declared.frame.Operation.{Operation}
use Rattle.wl_grammar.specs.declared.frame.Operation.TheVariants.{Request, Release, Abort, Query}
use Rattle.wl_grammar.specs.declared.frame.Report.{Report}
use Rattle.wl_grammar.specs.declared.frame.Snapshot.{Snapshot as Part}
use Rattle.wl_agent.specs.declared.delivered.Delivered.{Delivered}
use Rattle.wl_agent.specs.declared.delivered.Delivered.TheVariants as heard
use Rattle.wl_agent.specs.declared.status.Status.{Status}
use Rattle.wl_agent.specs.declared.status.Status.TheVariants.{Asked, Querying}
use Rattle.wl_agent.specs.SnapshotParts.{no_parts}
use Rattle.wl_agent.specs.Tab.{TabState, status_of, is_asked, is_querying, ask_refusal, query_refusal, asked, queried, aborted, released, issue, finish, ended, enter, enter_first, enter_later}
use Rattle.wl_agent.specs.Tokens.{is_pending, is_holding, is_asking, after_query}
use Rattle.wl_agent.specs.AgentLaws.{Call, Asks, Queries, Tells, Aborts, Releases, Hears, step as call_step}
use Rattle.wl_quiescence.proofs.facts.Tabs.{KeptByTab, run-tabs}
use Rattle.wl_agent.specs.Delivery.{noted, becomes as becomes_status, after_answer, after_part, told_by_answer, part_refusal, parts_of, with_part_come, has_entered, delivery}
use Rattle.wl_tab.specs.Tabs.{told}
use Rattle.wl_world_model.specs.declared.event.Event.{Event}
use Rattle.wl_world_model.specs.World.{WorldState, empty_world, tab_of, run}
use Rattle.std.proofs.Common.{⊎_elim, ◌<◌, ◌≤◌, suc, zero, map, filter, arith}
use Rattle.std.specs.List.{range_with_len}
use Rattle.wl_draft.specs.declared.row.Entry.{Entry}
use Rattle.wl_draft.proofs.Membership.{In-nil, In-cons_cases, In-map_cases, In-filter_cases}
use Rattle.wl_agent.specs.Tab.{is_reported, entry_of, report_of, numbers_of}
use Rattle.wl_quiescence.proofs.calls.Room.{Once, OnceBelow}
use Rattle.wl_quiescence.proofs.calls.Once.{Reports}

pub answer-report : (d : Delivered) (a : TabState) → (after_answer d a).report ≡ a.report
unfolding becomes_status ended
answer-report (heard.Granted k) a = refl
answer-report (heard.Null k) a = refl
answer-report (heard.Lost k) a = refl
answer-report d a = refl

pub part-report : (x : Part) (a : TabState) → (after_part x a).report ≡ a.report
unfolding becomes_status
part-report x a =
    either (λ z. z.report ≡ a.report) (is_some (part_refusal x a)) a (becomes_status x.number (with_part_come x (parts_of (status_of a x.number))) a) (λ _. refl) (λ _. refl)

pub noted-report : (upto : ℕ) (a : TabState) → (noted upto a).report ≡ a.report
unfolding noted
noted-report upto a = refl

-- A property of the report that a tab makes when it enters a generation, and of an empty one, is true of all reports.
module _ (R : Report → Type 0) (first : (g : ℕ) → R (record { generation = g; base = 0; entries = [] })) (later : (g : ℕ) (a : TabState) → R (report_of g a)) where
  abbrev Has : TabState → Type 0
  Has a = R a.report

  same-has : (a b : TabState) → b.report ≡ a.report → Has a → Has b
  same-has a b e f = subst R (sym e) f

  enter-has : (g : ℕ) (a : TabState) → Has a → Has (enter g a)
  unfolding enter_first enter_later
  enter-has g a f = either Has (a.entered == 0) (enter_first g a) (enter_later g a) (λ _. first g) (λ _. later g a)

  delivery-has : (f : Frame) (a : TabState) → Has a → Has (delivery f a).0
  unfolding delivery
  delivery-has (frame.Hello x) a h =
      either {A = TabState × Delivered} (λ o. Has o.0) (nat_lt a.entered x.generation) _ _ (λ _. enter-has x.generation a h) (λ _. h)
  delivery-has (frame.Answer x) a h =
      either {A = TabState × Delivered} (λ o. Has o.0) (has_entered x.generation a) _ _
      (λ _. same-has a (noted x.upto (after_answer (told_by_answer x a) a)) (noted-report x.upto (after_answer (told_by_answer x a) a) ∙ answer-report (told_by_answer x a) a) h) (λ _. h)
  delivery-has (frame.Snapshot x) a h =
      either {A = TabState × Delivered} (λ o. Has o.0) (has_entered x.generation a) _ _
      (λ _. same-has a (noted (x.number + 1) (after_part x a)) (noted-report (x.number + 1) (after_part x a) ∙ part-report x a) h) (λ _. h)
  delivery-has f a h = h

  told-has : (a : TabState) → Has a → Has (told a)
  unfolding told
  told-has a h = h

  issue-has : (o : Operation) (s : Status) (a : TabState) → Has a → Has (issue o s a)
  unfolding issue
  issue-has o s a h = h

  finish-has : (o : Operation) (k : ℕ) (a : TabState) → Has a → Has (finish o k a)
  unfolding finish
  finish-has o k a h = h

  ended-has : (k : ℕ) (a : TabState) → Has a → Has (ended k a)
  unfolding ended
  ended-has k a h = h

  call-has : (x : Call) (a : TabState) → Has a → Has (call_step x a)
  call-has (Asks mode b name) a h = either Has (is_some (ask_refusal a name)) a (asked mode b name a) (λ _. h) (λ _. issue-has (Request mode b name) Asked a h)
  call-has Queries a h = either Has (is_some (query_refusal a)) a (queried a) (λ _. h) (λ _. issue-has Query (Querying no_parts) a h)
  call-has (Tells k) a h =
      either Has (is_asking a k) (after_query k a) a (λ _. either Has (is_querying (status_of a k)) a (ended k a) (λ _. h) (λ _. ended-has k a h)) (λ _. h)
  call-has (Aborts k) a h = either Has (is_pending a k && is_asked (status_of a k)) (aborted k a) a (λ _. finish-has (Abort k) k a h) (λ _. h)
  call-has (Releases k) a h = either Has (is_holding a k) (released k a) a (λ _. finish-has (Release k) k a h) (λ _. h)
  call-has (Hears f) a h = delivery-has f a h

  has-kept : (w : WorldState) → KeptByTab w (λ t a. Has a)
  has-kept w = record { born = λ i t n. first 0; calls = λ t lv x h. call-has x (tab_of w t) h; hears = λ t lv f h. told-has _ (call-has (Hears f) (tab_of w t) h) }

  pub run-reported : (es : List Event) (t : ℕ) → R (tab_of (run es empty_world) t).report
  run-reported es = run-tabs (λ t a. Has a) has-kept es

-- The numbers of the tab that are reported rise.
pub range-from : (j n k : ℕ) → In k (range_with_len j n) → (j ≤ k) × (k < j + n)
range-from j zero k i = absurd (In-nil i)
range-from j (suc n) k i = ⊎_elim (λ e. (omega (arith, e), omega (arith, e))) (λ h. let b = range-from (j + 1) n k h in (omega (arith, b), omega (arith, b))) (In-cons_cases i)

reported-once : (a : TabState) (q : ℕ → Bool) (j n : ℕ) → Once (map (λ (e : Entry). e.number) (map (entry_of a) (filter q (range_with_len j n))))
reported-once a q j zero = tt
reported-once a q j (suc n) =
    either (λ zs. Once (map (λ (e : Entry). e.number) (map (entry_of a) zs))) (q j) (j ∷ filter q (range_with_len (j + 1) n)) (filter q (range_with_len (j + 1) n))
    (λ _. ((λ i. let b = among (filter q (range_with_len (j + 1) n)) j i in let r = range-from (j + 1) n j (In-filter_cases q (range_with_len (j + 1) n) b).0 in let le = r.0 in omega (arith, le)), reported-once a q (j + 1) n))
    (λ _. reported-once a q (j + 1) n)
  where
    among : (ks : List ℕ) (k : ℕ) → In k (map (λ (e : Entry). e.number) (map (entry_of a) ks)) → In k ks
    among ks k i =
        let x = In-map_cases (λ (e : Entry). e.number) (map (entry_of a) ks) i in
        let y = In-map_cases (entry_of a) ks x.1 in
        subst (λ z. In z ks) (sym (x.2 ∙ ap (λ (e : Entry). e.number) y.2)) y.1

report-fine : (g : ℕ) (a : TabState) → OnceBelow (report_of g a).base (map (λ (e : Entry). e.number) (report_of g a).entries)
unfolding report_of
report-fine g a = (
  reported-once a (is_reported a) 0 (length a.issued),
  λ k i.
      let x = In-map_cases (λ (e : Entry). e.number) (map (entry_of a) (filter (is_reported a) (numbers_of a))) i in
      let y = In-map_cases (entry_of a) (filter (is_reported a) (numbers_of a)) x.1 in
      let r = range-from 0 (length a.issued) y.0 (In-filter_cases (is_reported a) (numbers_of a) y.1).0 in
      let e : k ≡ y.0 = x.2 ∙ ap (λ (e : Entry). e.number) y.2 in let lt = r.1 in omega (arith, e, lt),
)

pub run-reports : (es : List Event) → Reports (run es empty_world)
run-reports es = run-reported (λ r. OnceBelow r.base (map (λ (e : Entry). e.number) r.entries)) (λ g. (tt, λ k i. absurd (In-nil i))) report-fine es
