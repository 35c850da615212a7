-- The broker performs a command: the clauses of its tab stay.
use Rattle.std.proofs.Common.{◌≡◌, ◌≢◌, ◌⊎◌, inl, inr, ⊎_elim, ℕ, suc, ◌+◌, ◌<◌, ◌≤◌, Bool, true, false, ◌||◌, cond, List, [], ◌∷◌, length, map, Some, refl, sym, ap, ◌∙◌, subst, arith}
use Rattle.std.specs.Prelude.{nat_lt}
use Rattle.std.specs.List.{range_with_len}
use Rattle.std.proofs.lemmas.Bool.{cases_Bool, cases_eq, or_cases, false_from_ne_true}
use Rattle.wl_limits.specs.declared.frames.TheConstants.{SNAPSHOT_PART_LIMIT}
use Rattle.wl_draft.specs.declared.row.Row.{Row}
use Rattle.wl_draft.specs.declared.row.Standing.TheVariants as standing
use Rattle.wl_draft.specs.Locks.{Locks, has_pair, without, standing as standing_of}
use Rattle.wl_draft.specs.Membership.{In}
use Rattle.wl_draft.proofs.Membership.{apart, either, In-one, In-map, In-map_cases, In-head, In-append_left, In-append_right, In-append_cases}
use Rattle.wl_grammar.specs.declared.frame.Operation.{Operation}
use Rattle.wl_grammar.specs.declared.frame.Operation.TheVariants.{Request, Release, Abort, Query}
use Rattle.wl_grammar.specs.declared.frame.Outcome.TheVariants.{Granted, Gone}
use Rattle.wl_grammar.specs.declared.frame.Addressed.{Addressed}
use Rattle.wl_grammar.specs.declared.frame.Answer.{Answer}
use Rattle.wl_grammar.specs.declared.frame.Snapshot.{Snapshot as Part}
use Rattle.wl_grammar.specs.declared.frame.Downward.{Downward}
use Rattle.wl_grammar.specs.declared.frame.Downward.TheVariants as down
use Rattle.wl_grammar.specs.declared.frame.Frame.{Frame}
use Rattle.wl_grammar.specs.declared.frame.Frame.TheVariants as frame
use Rattle.wl_grammar.specs.PartCount.{part_count}
use Rattle.wl_broker.specs.declared.seat.TabSeat.TheVariants.{Joined}
use Rattle.wl_broker.specs.Broker.{BrokerState, seat_of, manager_of, next_in, next_of, limit_in, limit_of, is_joined, is_lock, with_seat, newly_at, drafted, outcome_of, answer_of, answer_to, grants_to, part_of, snapshot_entries, first_answer, later_answer}
use Rattle.wl_broker.specs.Grants.{Grants, IsTo, answered_in}
use Rattle.wl_broker.proofs.Counting.{seat_of-settled_at}
use Rattle.wl_broker.proofs.Takings.{after_command, told_by_command}
use Rattle.wl_agent.specs.declared.status.Status.TheVariants.{Querying}
use Rattle.wl_agent.specs.SnapshotParts.{no_parts}
use Rattle.wl_agent.specs.Tab.{TabState, status_of, operation_of, is_asked, is_querying, is_request}
use Rattle.wl_kernel.specs.Routes.{frame_of}
use Rattle.wl_hub.specs.Hub.{from_broker}
use Rattle.wl_world_model.proofs.exclusion.HeldAfterSettling.{without-keeps, has_pair-true}
use Rattle.wl_world_model.proofs.order.Standings.{has_pair-from}
use Rattle.wl_quiescence.proofs.rest.Invariant.{View, Says, items_of, outputs_to, ends_wait, ends_at, AnswerComes, SnapshotComes, parts_in, numbered_after, numbered_from, numbers_at, HasKept}
use Rattle.wl_quiescence.proofs.hub.Rows.{Within, within-In, within-length, within-from, within-trans, grants-within, stands_at, grants-waiting, grants-stands}
use Rattle.wl_quiescence.proofs.hub.Moves.{grown, Waits, Goes, Lacks, GrantIn, waits-grown, grant-comes}
use Rattle.wl_quiescence.proofs.hub.Others.{sent-cases, sent-In, settled-Grants, settled-generation, merged-right}
use Rattle.wl_quiescence.proofs.hub.Drafted.{drafted-within, drafted-waiting, drafted-stands-at, request-stands, waiting-before}

-- What is known of a tab that has joined, beside the clauses of `HasKept`.
pub record KnowsTab (v : View) (t : ℕ) (b : BrokerState) : Type 0 where
  pub base : v.client.locks.report.base ≤ next_of b t
  pub asks : (k : ℕ) → is_asked (status_of v.client.locks k) ≡ true → is_lock (operation_of v.client.locks k) ≡ true
  pub unended : (j k : ℕ) → is_asked (status_of v.client.locks k) ≡ true → j < length v.client.locks.issued → ends_at k (operation_of v.client.locks j) ≡ true → ⊥
  pub querying : (k : ℕ) → is_querying (status_of v.client.locks k) ≡ true → operation_of v.client.locks k ≡ Query
  -- Only a request waits at the broker.
  pub probes : (k : ℕ) → is_request (operation_of v.client.locks k) ≡ false → has_pair t k (manager_of b v.place).waiting ≡ false
  -- What the next command releases does not wait at the broker.
  pub released :
      (j : ℕ) → next_of b t < length v.client.locks.issued → operation_of v.client.locks (next_of b t) ≡ Release j →
      has_pair t j (manager_of b v.place).waiting ≡ false
  -- Of a query that the broker has not taken, no part came or comes.
  pub unheard :
      (k : ℕ) → next_of b t ≤ k → is_querying (status_of v.client.locks k) ≡ true →
      (status_of v.client.locks k ≡ Some (Querying no_parts)) × (parts_in b.generation k v.down no_parts ≡ no_parts)

-- Answers

-- The answer to a command that was taken ends the wait, or the request waits.
pub answered : (w : View) (t n : ℕ) (c : BrokerState) (o : Operation) → operation_of w.client.locks n ≡ o → (is_lock o ≡ true) ⊎ (o ≡ Query)
    → (is_request o ≡ true → stands_at (manager_of c w.place) t n ≡ true) → (is_request o ≡ false → has_pair t n (manager_of c w.place).waiting ≡ false)
    → In (frame_of (later_answer c t w.place n o).inner) w.down → Waits w t c n
answered w t n c (Request mode true name) e l stands probes i =
    let m = manager_of c w.place in
    let h = has_pair t n m.held in
    let x = has_pair t n m.waiting in
    let f = λ (a d : Bool). ends_wait (Request mode true name) (outcome_of (cond a standing.Held (cond d standing.Waiting standing.Absent))) in
    let comes : f h x ≡ true → Waits w t c n = λ y. inr (inl (_, i, refl, refl, ap (λ z. ends_wait z (outcome_of (standing_of m t n))) e ∙ y)) in
    ⊎_elim (λ y. comes (ap (λ z. f z x) y)) (λ y. comes (ap (λ z. f z x) y ∙ ap (f false) (probes refl))) (cases_Bool h)
answered w t n c (Request mode false name) e l stands probes i =
    let m = manager_of c w.place in
    let h = has_pair t n m.held in
    let x = has_pair t n m.waiting in
    let f = λ (a d : Bool). ends_wait (Request mode false name) (outcome_of (cond a standing.Held (cond d standing.Waiting standing.Absent))) in
    let comes : f h x ≡ true → Waits w t c n = λ y. inr (inl (_, i, refl, refl, ap (λ z. ends_wait z (outcome_of (standing_of m t n))) e ∙ y)) in
    ⊎_elim (λ y. comes (ap (λ z. f z x) y)) (λ y. inl (ap is_request e, y)) (or_cases h x (stands refl))
answered w t n c (Release j) e l stands probes i = absurd (⊎_elim (λ y. apart y refl) (λ y. release-query j y) l)
  where
    release-query : (j : ℕ) → Release j ≡ Query → ⊥
    release-query j y = cc
answered w t n c (Abort j) e l stands probes i = absurd (⊎_elim (λ y. apart y refl) (λ y. abort-query j y) l)
  where
    abort-query : (j : ℕ) → Abort j ≡ Query → ⊥
    abort-query j y = cc
answered w t n c Query e l stands probes i = inr (inl (_, i, refl, refl, ap (λ z. ends_wait z Gone) e))

-- The first answers are to the command.
pub first-to : (c : BrokerState) (t p n : ℕ) (o : Operation) (x : Addressed) → In x (first_answer c t p n o) → IsTo t n x
first-to c t p n (Request mode if_available name) x i = subst (IsTo t n) (sym (In-one i)) (refl, refl)
first-to c t p n (Release j) x i = subst (IsTo t n) (sym (In-one i)) (refl, refl)
first-to c t p n (Abort j) x i = subst (IsTo t n) (sym (In-one i)) (refl, refl)
first-to c t p n Query x i =
    let es = snapshot_entries (manager_of c p) in
    either (λ zs. In x zs → IsTo t n x) (nat_lt SNAPSHOT_PART_LIMIT (part_count es)) (answer_of c.generation (next_of c t) t n Gone ∷ []) (map (part_of c.generation t n es) (range_with_len 0 (part_count es)))
    (λ _ j. subst (IsTo t n) (sym (In-one j)) (refl, refl))
    (λ _ j. let o = In-map_cases (part_of c.generation t n es) (range_with_len 0 (part_count es)) j in subst (IsTo t n) (sym o.2) (refl, refl)) i

pub snapshot-number : (d : Downward) (x : Part) (n : ℕ) → frame.Snapshot x ≡ frame_of d → answered_in d ≡ Some n → x.number ≡ n
snapshot-number (down.Hello h) x n e f = cc
snapshot-number (down.Answer a) x n e f = cc
snapshot-number (down.Snapshot s) x n e f = cc

pub snapshot-grant : (x : Part) (a : Answer) → frame.Snapshot x ≡ frame.Answer a → ⊥
snapshot-grant x a e = cc

module _ (v : View) (us : List Frame) (es : List ℕ) (t : ℕ) (b : BrokerState) (known : KnowsTab v t b) (kept : HasKept v t b v.client.locks) (joined : is_joined (seat_of b t) ≡ true)
    (issued : next_of b t < length v.client.locks.issued) where
  abbrev a : TabState
  a = v.client.locks

  abbrev o : Operation
  o = operation_of a (next_of b t)

  abbrev seated : BrokerState
  seated = with_seat t (Joined v.place (next_of b t + 1) (limit_of b t)) b

  abbrev m : Locks
  m = drafted t (next_of b t) (operation_of a (next_of b t)) (manager_of b v.place)

  -- The broker after the command, and what it sends.
  abbrev pub performed : BrokerState
  performed = after_command b t v.place (next_of b t) (operation_of v.client.locks (next_of b t))

  abbrev pub performed_outs : List Addressed
  performed_outs = told_by_command b t v.place (next_of b t) (operation_of v.client.locks (next_of b t))

  abbrev more : List Frame
  more = outputs_to t (from_broker performed_outs)

  abbrev after : View
  after = grown v us more es

  seat : seat_of performed t ≡ Some (Joined v.place (next_of b t + 1) (limit_of b t))
  seat = seat_of-settled_at b t (Joined v.place (next_of b t + 1) (limit_of b t)) v.place m

  next : next_of performed t ≡ next_of b t + 1
  next = ap next_in seat

  limit : limit_of performed t ≡ limit_of b t
  limit = ap limit_in seat

  same : performed.generation ≡ b.generation
  same = settled-generation seated v.place m

  grants : Grants m (manager_of performed v.place) (newly_at seated v.place m)
  grants = settled-Grants seated v.place m

  lacks : (k : ℕ) → k ≢ next_of b t → Lacks k more
  lacks k d x i e =
      let y = sent-cases t performed_outs (frame.Snapshot x) i in
      ⊎_elim
      (λ j. d (sym e ∙ snapshot-number y.0.inner x (next_of b t) y.3 (first-to performed t v.place (next_of b t) o y.0 j).1))
      (λ j. let r = In-map_cases (λ (r : Row). answer_to performed r.client r.number Granted) (without t (next_of b t) (newly_at seated v.place m)) j in
      snapshot-grant x _ (y.3 ∙ ap (λ (z : Addressed). frame_of z.inner) r.2))
      (In-append_cases (first_answer performed t v.place (next_of b t) o) (grants_to performed (without t (next_of b t) (newly_at seated v.place m))) y.1)

  grant : (k : ℕ) → k ≢ next_of b t → (r : Row) → In r (newly_at seated v.place m) → r.client ≡ t → r.number ≡ k → GrantIn b.generation k more
  grant k d r i c e = (
    _,
    sent-In t performed_outs (answer_to performed r.client r.number Granted)
        (In-append_right (first_answer performed t v.place (next_of b t) o) (In-map (λ (r : Row). answer_to performed r.client r.number Granted) (without-keeps t (next_of b t) (newly_at seated v.place m) i (λ f. d (sym e ∙ f.1))))) c,
    same,
    e,
    refl,
  )

  -- A number below the command's own.
  below : (goes : Goes v es t b performed) (k : ℕ) → k ≢ next_of b t → (In (Says k) (items_of b.generation v) → In (Says k) (items_of b.generation after)) → (is_asked (status_of a k) || is_querying (status_of a k)) ≡ true
      → Waits v t b k → Waits after t performed k
  below goes k d said e w =
      waits-grown v us more es t b performed k goes (lacks k d)
      (λ r x. ⊎_elim (λ y. inl (r, y))
      (λ q. inr (inl (subst (λ z. AnswerComes z after k) (sym same) (grant-comes v us more es b.generation k r (grant k d q.0 q.1 q.2 q.3)))))
      (grants-waiting t k m (manager_of performed v.place) (newly_at seated v.place m) grants
      (drafted-waiting t (next_of b t) k o (manager_of b v.place)
      (false_from_ne_true _ (λ y. ⊎_elim (λ z. known.unended (next_of b t) k z issued y) (λ z. apart r (ap is_request (known.querying k z))) (or_cases (is_asked (status_of a k)) (is_querying (status_of a k)) e))) x)))
      (λ i. inr (inr (inr (inr (subst (λ z. In (Says k) (items_of z after)) (sym same) (said i))))))
      w

  -- The command's own number.
  here : ((x : is_querying (status_of a (next_of b t)) ≡ true) → SnapshotComes performed.generation after (next_of b t) ⊎ AnswerComes performed.generation after (next_of b t))
      → (is_asked (status_of a (next_of b t)) || is_querying (status_of a (next_of b t))) ≡ true → Waits after t performed (next_of b t)
  here query e =
      ⊎_elim
      (λ y.
      let lock = known.asks (next_of b t) y in
      answered after t (next_of b t) performed o refl (inl lock)
      (λ r. grants-stands t (next_of b t) m (manager_of performed v.place) (newly_at seated v.place m) grants (request-stands t (next_of b t) o (manager_of b v.place) r))
      (λ r. never r)
      (In-append_right v.down (sent-In t performed_outs (later_answer performed t v.place (next_of b t) o) (In-append_left _ (first-lock o lock)) refl)))
      (λ y. ⊎_elim (λ z. inr (inr (inl z))) (λ z. inr (inl z)) (query y))
      (or_cases (is_asked (status_of a (next_of b t))) (is_querying (status_of a (next_of b t))) e)
    where
      first-lock : (q : Operation) → is_lock q ≡ true → In (later_answer performed t v.place (next_of b t) q) (first_answer performed t v.place (next_of b t) q)
      first-lock (Request mode if_available name) l = In-head refl
      first-lock (Release j) l = apart l refl
      first-lock (Abort j) l = apart l refl
      first-lock Query l = apart l refl

      never : is_request (operation_of a (next_of b t)) ≡ false → has_pair t (next_of b t) (manager_of performed v.place).waiting ≡ false
      never r =
          let w = waiting-before t (next_of b t) (next_of b t) o (manager_of b v.place) r (known.probes (next_of b t) r) in
          false_from_ne_true _ (λ y. let q = has_pair-true t (next_of b t) (manager_of performed v.place).waiting y in apart (has_pair-from t (next_of b t) m.waiting q.0 (merged-right grants.parts q.1) q.2 q.3) w)

  within : Within (numbers_at (manager_of performed v.place) t) (numbered_after (operation_of a (next_of b t)) (next_of b t) (numbers_at (manager_of b v.place) t))
  within = within-trans (numbers_at (manager_of performed v.place) t) (numbers_at m t) (numbered_after (operation_of a (next_of b t)) (next_of b t) (numbers_at (manager_of b v.place) t))
      (grants-within t m (manager_of performed v.place) (newly_at seated v.place m) grants) (drafted-within t (next_of b t) o (manager_of b v.place) (λ j e. known.released j issued e))

  later : (k : ℕ) → Within (numbered_from a (next_of b t + 1) k (numbers_at (manager_of performed v.place) t)) (numbered_from a (next_of b t) (suc k) (numbers_at (manager_of b v.place) t))
  later k = within-from a (next_of b t + 1) k (numbers_at (manager_of performed v.place) t) (numbered_after (operation_of a (next_of b t)) (next_of b t) (numbers_at (manager_of b v.place) t)) within

  pub performed-kept : Goes v es t b performed
      → ((k : ℕ) → k ≢ next_of b t → In (Says k) (items_of b.generation v) → In (Says k) (items_of b.generation after))
      → ((x : is_querying (status_of a (next_of b t)) ≡ true) → SnapshotComes performed.generation after (next_of b t) ⊎ AnswerComes performed.generation after (next_of b t))
      → HasKept after t performed a
  performed-kept goes said query =
      record {
        acknowledged = let le = kept.acknowledged in omega (arith, le, next);
        issued = omega (arith, issued, next);
        queried = kept.queried;
        awaited = λ k lt e. ⊎_elim
            (λ f. subst (Waits after t performed) (sym f) (here query (subst (λ z. (is_asked (status_of a z) || is_querying (status_of a z)) ≡ true) f e)))
            (λ d. below goes k d (said k d) e (kept.awaited k (omega (arith, lt, next, d)) e)) (cases_eq k (next_of b t));
        stands = λ k lt e r. ⊎_elim
            (λ f. subst (λ z. stands_at (manager_of performed v.place) t z ≡ true) (sym f)
            (grants-stands t (next_of b t) m (manager_of performed v.place) (newly_at seated v.place m) grants (request-stands t (next_of b t) o (manager_of b v.place) (ap (λ z. is_request (operation_of a z)) (sym f) ∙ r))))
            (λ d. grants-stands t k m (manager_of performed v.place) (newly_at seated v.place m) grants
            (drafted-stands-at t (next_of b t) k o (manager_of b v.place) (false_from_ne_true _ (λ y. known.unended (next_of b t) k e issued y)) (kept.stands k (omega (arith, lt, next, d)) e r)))
            (cases_eq k (next_of b t));
        own = λ k q e i. kept.own k (suc q) (omega (arith, e, next))
            (within-In _ _ (later q) (subst (λ z. In k (numbered_from a z q (numbers_at (manager_of performed v.place) t))) next i));
        room = λ q lt l.
            let same-place : next_of performed t + q ≡ next_of b t + suc q = omega (arith, next) in
            let x = kept.room (suc q) (omega (arith, lt, same-place)) (subst (λ z. is_lock (operation_of a z) ≡ true) same-place l) in
            let le = within-length _ _ (later q) in
            subst (λ z. length (numbered_from a z q (numbers_at (manager_of performed v.place) t)) < limit_of performed t) (sym next)
            (subst (λ z. length (numbered_from a (next_of b t + 1) q (numbers_at (manager_of performed v.place) t)) < z) (sym limit) (omega (arith, x, le)));
      }
