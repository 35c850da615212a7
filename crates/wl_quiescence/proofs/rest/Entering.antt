-- The report of a tab that enters a generation tells of all its locks and requests, and of nothing else.
use Rattle.std.proofs.Common.{◌≡◌, inl, ⊎_elim, ℕ, suc, zero, ◌+◌, ◌<◌, ◌≤◌, true, false, not, ◌&&◌, ◌||◌, length, filter, get_or, Option, Some, None, refl, sym, ap, ◌∙◌, subst, arith}
use Rattle.std.specs.List.{range_with_len}
use Rattle.std.specs.Prelude.{◌==◌}
use Rattle.std.proofs.lemmas.Bool.{cases_eq, not-true, not_from_false}
use Rattle.wl_draft.specs.Tables.{Table, find, Rises}
use Rattle.wl_draft.specs.Membership.{In, Here, Later}
use Rattle.wl_draft.proofs.Membership.{apart, either, In-nil, In-map, In-map_cases, In-filter, In-filter_cases}
use Rattle.wl_draft.proofs.RisingTables.{Rises-filter, Rises-map, find-In, In-find}
use Rattle.wl_grammar.specs.declared.frame.Operation.{Operation}
use Rattle.wl_grammar.specs.declared.frame.Operation.TheVariants.{Request, Release, Abort, Query}
use Rattle.wl_broker.specs.Broker.{is_lock}
use Rattle.wl_agent.specs.declared.status.Status.{Status}
use Rattle.wl_agent.specs.declared.status.Status.TheVariants.{Asked, Held, Querying, Whole, Lost}
use Rattle.wl_agent.specs.Tab.{TabState, operation_of, numbers_of, is_asked, is_held, is_request, is_probe, reserves_number, is_reported, entry_of, report_of, is_asked_probe, unless_asked, carried, enter, enter_first, enter_later}
use Rattle.wl_tab.specs.Tabs.{is_told, told}
use Rattle.wl_world_model.proofs.exclusion.Invariant.{SoundTab}
use Rattle.wl_world_model.proofs.exclusion.HeardNumbers.{find-filter}
use Rattle.wl_quiescence.proofs.rest.Invariant.{IsReported}

-- A status that is asked or held.
pub record AliveAs (o : Option Status) : Type 0 where
  pub status : Status
  pub is : o ≡ Some status
  pub alive : reserves_number (Some status) ≡ true

pub alive-as : (o : Option Status) → reserves_number o ≡ true → AliveAs o
alive-as None e = apart e refl
alive-as (Some s) e = record { status = s; is = refl; alive = e }

alive-same : (s : Status) → reserves_number (Some (unless_asked s)) ≡ true → unless_asked s ≡ s
alive-same Asked e = refl
alive-same Held e = refl
alive-same (Querying ps) e = apart e refl
alive-same (Whole s) e = refl
alive-same Lost e = refl

pub kept-same : (s : Status) → reserves_number (Some s) ≡ true → (unless_asked s ≡ s) × (is_told s ≡ false)
kept-same Asked e = (refl, refl)
kept-same Held e = (refl, refl)
kept-same (Querying ps) e = apart e refl
kept-same (Whole s) e = apart e refl
kept-same Lost e = apart e refl

-- A lock that is held, or asked and no probe, is reported.
lock-reported : (s : Status) (o : Operation) → reserves_number (Some s) ≡ true → is_lock o ≡ true → (is_asked (Some s) && is_probe o) ≡ false → (is_held (Some s) || (is_asked (Some s) && is_request o)) ≡ true
lock-reported Held o e l n = refl
lock-reported Asked (Request m true x) e l n = apart refl n
lock-reported Asked (Request m false x) e l n = refl
lock-reported Asked (Release k) e l n = apart l refl
lock-reported Asked (Abort k) e l n = apart l refl
lock-reported Asked Query e l n = apart l refl
lock-reported (Querying ps) o e l n = apart e refl
lock-reported (Whole s) o e l n = apart e refl
lock-reported Lost o e l n = apart e refl

-- What is reported is asked or held, and no asked probe.
reported-alive : (x : Option Status) (o : Operation) → (is_held x || (is_asked x && is_request o)) ≡ true → (reserves_number x ≡ true) × ((is_asked x && is_probe o) ≡ false)
reported-alive None o e = apart e refl
reported-alive (Some Held) o e = (refl, refl)
reported-alive (Some Asked) (Request m true x) e = apart e refl
reported-alive (Some Asked) (Request m false x) e = (refl, refl)
reported-alive (Some Asked) (Release k) e = apart e refl
reported-alive (Some Asked) (Abort k) e = apart e refl
reported-alive (Some Asked) Query e = apart e refl
reported-alive (Some (Querying ps)) o e = apart e refl
reported-alive (Some (Whole s)) o e = apart e refl
reported-alive (Some Lost) o e = apart e refl

In-range : (from n k : ℕ) → from ≤ k → k < from + n → In k (range_with_len from n)
In-range from zero k le lt = absurd (omega arith)
In-range from (suc n) k le lt = ⊎_elim
    (λ e. subst (λ z. In z (range_with_len from (suc n))) e Here)
    (λ d. let more : from + 1 ≤ k = omega arith in Later (In-range (from + 1) n k more (omega arith)))
    (cases_eq from k)

module _ (t g : ℕ) (a : TabState) (sound : SoundTab t a) where
  abbrev kept_rows : Table Status
  kept_rows = filter (λ row. not (is_told row.1)) (carried a.issued a.statuses)

  rises : Rises 0 (carried a.issued a.statuses)
  rises = Rises-map (λ row. unless_asked row.1) 0 (filter (λ row. not (is_asked_probe a.issued row)) a.statuses) (Rises-filter (λ row. not (is_asked_probe a.issued row)) 0 a.statuses sound.rises)

  -- A number that is alive after entering was so before, and is reported.
  before : (k : ℕ) → reserves_number (find kept_rows k) ≡ true → (find kept_rows k ≡ find a.statuses k) × (is_reported a k ≡ true) × (k < length a.issued)
  before k e =
      let o = alive-as (find kept_rows k) e in
      let f = (find-filter (λ row. not (is_told row.1)) (carried a.issued a.statuses) rises k o.status o.is).0 in
      let i = find-In (carried a.issued a.statuses) k o.status f in
      let m = In-map_cases (λ row. (row.0, unless_asked row.1)) (filter (λ row. not (is_asked_probe a.issued row)) a.statuses) i in
      let c = In-filter_cases (λ row. not (is_asked_probe a.issued row)) a.statuses m.1 in
      let number : k ≡ m.0.0 = ap (λ z. z.0) m.2 in
      let status : o.status ≡ unless_asked m.0.1 = ap (λ z. z.1) m.2 in
      let same : o.status ≡ m.0.1 = status ∙ alive-same m.0.1 (subst (λ z. reserves_number (Some z) ≡ true) status o.alive) in
      let was : find a.statuses k ≡ Some o.status = ap (find a.statuses) number ∙ (In-find 0 m.0.0 m.0.1 a.statuses sound.rises c.0 ∙ ap (λ z. Some z) (sym same)) in
      let alive : reserves_number (find a.statuses k) ≡ true = ap reserves_number was ∙ o.alive in
      let probe : (is_asked (Some o.status) && is_probe (operation_of a k)) ≡ false =
      subst (λ z. (is_asked (Some z) && is_probe (operation_of a k)) ≡ false) (sym same)
      (subst (λ n. (is_asked (Some m.0.1) && is_probe (get_or a.issued n Query)) ≡ false) (sym number) (not-true _ c.1)) in (
        o.is ∙ sym was,
        subst (λ z. (is_held z || (is_asked z && is_request (operation_of a k))) ≡ true) (sym was) (lock-reported o.status (operation_of a k) o.alive (sound.lock k alive) probe),
        sound.issued k alive,
      )

  -- A number that is reported is alive after entering.
  after : (k : ℕ) → is_reported a k ≡ true → reserves_number (find kept_rows k) ≡ true
  after k e =
      let r = reported-alive (find a.statuses k) (operation_of a k) e in
      let o = alive-as (find a.statuses k) r.0 in
      let s = kept-same o.status o.alive in
      let probe : (is_asked (Some o.status) && is_probe (operation_of a k)) ≡ false = subst (λ z. (is_asked z && is_probe (operation_of a k)) ≡ false) o.is r.1 in
      let i = In-map (λ (row : ℕ × Status). (row.0, unless_asked row.1)) (In-filter (λ row. not (is_asked_probe a.issued row)) a.statuses (find-In a.statuses k o.status o.is) (not_from_false _ probe)) in
      let j : In (k, o.status) (carried a.issued a.statuses) = subst (λ z. In (k, z) (carried a.issued a.statuses)) s.0 i in
      let n = In-filter (λ row. not (is_told row.1)) (carried a.issued a.statuses) j (not_from_false _ s.1) in
      ap reserves_number (In-find 0 k o.status kept_rows (Rises-filter (λ row. not (is_told row.1)) 0 (carried a.issued a.statuses) rises) n) ∙ o.alive

  later-reported : IsReported (told (enter_later g a))
  unfolding enter_later told report_of
  later-reported = record {
    told = λ k lt e.
        let b = before k e in (
          entry_of a k,
          In-map (entry_of a) (In-filter (is_reported a) (numbers_of a) (In-range 0 (length a.issued) k (omega arith) (omega (arith, b.2))) b.1),
          refl,
          ap is_held (sym b.0),
        );
    alive = λ e i.
        let o = In-map_cases (entry_of a) (filter (is_reported a) (numbers_of a)) i in
        inl (subst (λ z. reserves_number (find kept_rows z) ≡ true) (sym (ap (λ z. z.number) o.2)) (after o.0 (In-filter_cases (is_reported a) (numbers_of a) o.1).1));
    answered = refl;
    acknowledged = refl;
  }

  first-reported : IsReported (told (enter_first g a))
  unfolding enter_first told
  first-reported = record { told = λ k lt e. absurd (omega (arith, lt)); alive = λ e i. absurd (In-nil i); answered = refl; acknowledged = refl }

  pub enter-reported : IsReported (told (enter g a))
  enter-reported = either (λ (z : TabState). IsReported (told z)) (a.entered == 0) (enter_first g a) (enter_later g a) (λ _. first-reported) (λ _. later-reported)
