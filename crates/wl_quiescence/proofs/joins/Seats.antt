-- The broker takes a tab's report: the clauses of a joined tab hold.
use Rattle.std.proofs.Common.{◌≡◌, ◌⊎◌, inl, inr, ⊎_elim, ℕ, ◌+◌, ◌<◌, true, false, not, ◌||◌, List, map, Option, Some, None, refl, sym, ap, ◌∙◌, subst, arith}
use Rattle.std.proofs.lemmas.Bool.{or_cases, or_right, not_from_false}
use Rattle.wl_draft.specs.declared.row.Row.{Row}
use Rattle.wl_draft.specs.declared.row.Entry.{Entry}
use Rattle.wl_draft.specs.Locks.{Locks, row_of, has_pair, restored}
use Rattle.wl_draft.specs.Membership.{In}
use Rattle.wl_draft.proofs.Membership.{apart, In-map, In-filter, In-append_right}
use Rattle.wl_grammar.specs.declared.frame.Addressed.{Addressed}
use Rattle.wl_grammar.specs.declared.frame.Frame.{Frame}
use Rattle.wl_grammar.specs.declared.frame.Outcome.TheVariants.{Granted}
use Rattle.wl_broker_reports.specs.ReportParts.{Partial, Told, Whole, with_told, is_whole, whole_of}
use Rattle.wl_broker_reports.proofs.KeptParts.{with_told-base}
use Rattle.wl_broker.specs.declared.seat.TabSeat.TheVariants.{Joined}
use Rattle.wl_broker.specs.Broker.{BrokerState, partial_of, manager_of, next_in, next_of, limit_in, limit_of, is_lock, with_seat, newly_at, answer_to}
use Rattle.wl_broker.specs.Grants.{Grants}
use Rattle.wl_broker.proofs.Counting.{seat_of-settled_at}
use Rattle.wl_broker.proofs.Takings.{after_report, told_by_report}
use Rattle.wl_agent.specs.declared.status.Status.{Status}
use Rattle.wl_agent.specs.declared.status.Status.TheVariants.{Asked, Held, Querying, Whole as WholeAnswer, Lost}
use Rattle.wl_agent.specs.Tab.{TabState, status_of, operation_of, is_asked, is_held, is_querying, is_request, live_limit}
use Rattle.wl_hub.specs.Hub.{from_broker}
use Rattle.wl_world_model.proofs.exclusion.ToldParts.{IsPartOf, HasParts, with_told-HasParts, whole-entries}
use Rattle.wl_world_model.proofs.order.Standings.{has_pair-from}
use Rattle.wl_quiescence.proofs.rest.Invariant.{View, outputs_to, IsReported, numbers_at, numbered_from, HasKept}
use Rattle.wl_quiescence.proofs.hub.Rows.{Within, within-In, within-length, within-from, within-trans, grants-within, grants-waiting, grants-stands}
use Rattle.wl_quiescence.proofs.hub.Moves.{grown, Waits, grant-comes}
use Rattle.wl_quiescence.proofs.hub.Others.{sent-In, settled-Grants}
use Rattle.wl_quiescence.proofs.calls.Once.{restored-within}
use Rattle.wl_quiescence.proofs.client.Queries.{AreQueries}
use Rattle.wl_quiescence.proofs.facts.Reported.{TellsLocks}
use Rattle.wl_quiescence.proofs.joins.Ready.{reported_numbers, IsReady}

asked-free : (o : Option Status) → is_asked o ≡ true → (is_held o ≡ false) × ((is_asked o || is_held o) ≡ true)
asked-free None e = apart e refl
asked-free (Some Asked) e = (refl, refl)
asked-free (Some Held) e = apart e refl
asked-free (Some (Querying ps)) e = apart e refl
asked-free (Some (WholeAnswer s)) e = apart e refl
asked-free (Some Lost) e = apart e refl

-- Facts of a tab whose report the broker takes.
pub record MayJoin (a : TabState) (t p : ℕ) (b : BrokerState) (y : Told) : Type 0 where
  pub reported : IsReported a
  pub ready : IsReady a
  pub queries : AreQueries a
  pub tells : TellsLocks a
  pub part : IsPartOf a.in_parts a.report y
  pub limit : y.limit ≡ live_limit a.in_parts
  pub stored : (k : Partial) → partial_of b t ≡ Some k → HasParts a.in_parts a.report k
  pub rowless : (r : Row) → In r (manager_of b p).held ⊎ In r (manager_of b p).waiting → r.client ≡ t → ⊥

module _ (v : View) (fs : List Frame) (es : List ℕ) (t : ℕ) (b : BrokerState) (y : Told) (x : MayJoin v.client.locks t v.place b y) (whole : is_whole (with_told v.place y (partial_of b t)) ≡ true) where
  abbrev a : TabState
  a = v.client.locks

  abbrev told : Whole
  told = whole_of (with_told v.place y (partial_of b t))

  abbrev seated : BrokerState
  seated = with_seat t (Joined v.place told.base told.limit) b

  abbrev with_report : Locks
  with_report = restored t told.entries (manager_of b v.place)

  abbrev c : BrokerState
  c = after_report b t v.place told

  abbrev outs : List Addressed
  outs = told_by_report b t v.place told

  abbrev more : List Frame
  more = outputs_to t (from_broker outs)

  entries : told.entries ≡ a.report.entries
  entries = whole-entries a.in_parts a.report _ (with_told-HasParts a.in_parts a.report v.place y (partial_of b t) x.part x.stored) whole

  next : next_of c t ≡ a.report.base
  next = ap next_in (seat_of-settled_at b t (Joined v.place told.base told.limit) v.place with_report) ∙ (with_told-base v.place y (partial_of b t) ∙ x.part.base)

  limit : limit_of c t ≡ live_limit a.in_parts
  unfolding with_told
  limit = ap limit_in (seat_of-settled_at b t (Joined v.place told.base told.limit) v.place with_report) ∙ x.limit

  grants : Grants with_report (manager_of c v.place) (newly_at seated v.place with_report)
  grants = settled-Grants seated v.place with_report

  -- The report lists each asked request as waiting.
  waits : (k : ℕ) → k < a.report.base → is_asked (status_of a k) ≡ true → (is_request (operation_of a k) ≡ true) × (has_pair t k with_report.waiting ≡ true)
  unfolding restored
  waits k lt e =
      let f = asked-free (status_of a k) e in
      let o = x.reported.told k lt f.1 in
      let free : o.0.held ≡ false = o.3 ∙ f.0 in
      let i : In o.0 told.entries = subst (In o.0) (sym entries) o.1 in (
        subst (λ z. is_request (operation_of a z) ≡ true) o.2 ((x.tells o.0 o.1).2 free),
        has_pair-from t k with_report.waiting (row_of t o.0.number o.0.name o.0.mode)
            (In-append_right (manager_of b v.place).waiting (In-map (λ (e : Entry). row_of t e.number e.name e.mode) (In-filter (λ (e : Entry). not e.held) told.entries i (not_from_false _ free)))) refl o.2,
      )

  within : Within (numbers_at (manager_of c v.place) t) (reported_numbers a)
  within =
      within-trans _ _ _ (grants-within t with_report (manager_of c v.place) (newly_at seated v.place with_report) grants)
      (subst (λ z. Within (numbers_at with_report t) (map (λ (e : Entry). e.number) z)) entries (restored-within t told.entries (manager_of b v.place) x.rowless))

  within_from : (m : ℕ) → Within (numbered_from a (next_of c t) m (numbers_at (manager_of c v.place) t)) (numbered_from a a.report.base m (reported_numbers a))
  within_from m = subst (λ z. Within (numbered_from a z m (numbers_at (manager_of c v.place) t)) (numbered_from a a.report.base m (reported_numbers a))) (sym next) (within-from a a.report.base m _ _ within)

  waits-now : (k : ℕ) → k < a.report.base → is_asked (status_of a k) ≡ true → Waits (grown v fs more es) t c k
  waits-now k lt e =
      let w = waits k lt e in
      ⊎_elim (λ i. inl (w.0, i))
      (λ o. inr (inl (grant-comes v fs more es c.generation k w.0 (
        _,
        sent-In t outs (answer_to c o.0.client o.0.number Granted) (In-map (λ (r : Row). answer_to c r.client r.number Granted) o.1) o.2,
        refl,
        o.3,
        refl,
      ))))
      (grants-waiting t k with_report (manager_of c v.place) (newly_at seated v.place with_report) grants w.1)

  -- The clauses of the joined tab.
  pub joined-kept : HasKept (grown v fs more es) t c a
  joined-kept = record {
    acknowledged = let e = x.reported.acknowledged in let n = next in omega (arith, e, n);
    issued = let le = x.queries.low in let n = next in omega (arith, le, n);
    queried = λ k e. (x.queries.queries k e).0;
    awaited = λ k lt e.
        let low : k < a.report.base = let n = next in omega (arith, lt, n) in
        ⊎_elim (λ y. waits-now k low y) (λ y. let le = (x.queries.queries k y).2 in absurd (omega (arith, le, low))) (or_cases (is_asked (status_of a k)) (is_querying (status_of a k)) e);
    stands = λ k lt e r.
        let low : k < a.report.base = let n = next in omega (arith, lt, n) in
        grants-stands t k with_report (manager_of c v.place) (newly_at seated v.place with_report) grants
        (or_right (has_pair t k with_report.held) (has_pair t k with_report.waiting) (waits k low e).1);
    own = λ k m e i. x.ready.own x.reported.answered k m (let n = next in omega (arith, e, n)) (within-In _ _ (within_from m) i);
    room = λ m lt l.
        let h = x.ready.room x.reported.answered m (let n = next in omega (arith, lt, n)) (subst (λ z. is_lock (operation_of a (z + m)) ≡ true) next l) in
        let le = within-length _ _ (within_from m) in
        let e = limit in
        omega (arith, h, le, e);
  }
