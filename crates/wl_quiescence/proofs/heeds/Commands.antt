-- What the broker sends to the tab whose message it takes agrees with it.
use Rattle.std.proofs.Common.{◌≡◌, ◌≢◌, ◌⊎◌, inl, inr, ⊎_elim, ℕ, zero, suc, ◌+◌, ◌<◌, ◌≤◌, true, false, ◌&&◌, ◌||◌, cond, List, [], ◌∷◌, ◌++◌, length, map, filter, Some, refl, sym, ap, ap₂, ◌∙◌, subst, arith, take, drop, ◌*◌}
use Rattle.std.specs.Prelude.{◌==◌, if◌then◌else◌, nat_lt}
use Rattle.std.specs.List.{range_with_len}
use Rattle.std.proofs.lemmas.Bool.{cases_eq, eq-eqb, eqb-true, ne_eqb, or_left, or_right, lt-ltb}
use Rattle.std.proofs.lemmas.List.{map-append}
use Rattle.wl_limits.specs.declared.frames.TheConstants.{ENTRY_LIMIT, SNAPSHOT_PART_LIMIT}
use Rattle.wl_draft.specs.declared.row.Row.{Row}
use Rattle.wl_draft.specs.declared.row.Standing.TheVariants as standing
use Rattle.wl_draft.specs.Locks.{Locks, has_pair, without, released, aborted}
use Rattle.wl_draft.specs.Tables.{Table, has_row}
use Rattle.wl_draft.specs.Membership.{In}
use Rattle.wl_draft.proofs.Membership.{apart, either, In-one, In-cons_cases, In-map_cases, In-filter_cases, In-append_cases}
use Rattle.wl_grammar.specs.declared.frame.Addressed.{Addressed}
use Rattle.wl_grammar.specs.declared.frame.Answer.{Answer}
use Rattle.wl_grammar.specs.declared.frame.Operation.{Operation}
use Rattle.wl_grammar.specs.declared.frame.Operation.TheVariants.{Request, Release, Abort, Query}
use Rattle.wl_grammar.specs.declared.frame.Outcome.TheVariants.{Granted, Waiting, Gone, Taken}
use Rattle.wl_grammar.specs.declared.frame.Snapshot.{Snapshot as Part}
use Rattle.wl_grammar.specs.declared.frame.SnapshotEntry.{SnapshotEntry}
use Rattle.wl_grammar.specs.declared.frame.Frame.{Frame}
use Rattle.wl_grammar.specs.declared.frame.Frame.TheVariants as frame
use Rattle.wl_grammar.specs.PartCount.{part_count}
use Rattle.wl_broker.specs.declared.seat.TabSeat.TheVariants.{Joined}
use Rattle.wl_broker.specs.Broker.{BrokerState, next_in, next_of, limit_of, manager_of, with_seat, newly_at, drafted, outcome_of, outcome_at, answer_of, grants_to, part_of, snapshot_entries, first_answer, later_answer}
use Rattle.wl_broker.proofs.Counting.{seat_of-settled_at}
use Rattle.wl_broker.proofs.Takings.{after_command, told_by_command}
use Rattle.wl_agent.specs.declared.status.Status.TheVariants.{Querying}
use Rattle.wl_agent.specs.SnapshotParts.{PartsState, no_parts, with_part}
use Rattle.wl_agent.specs.Tab.{status_of, is_asked, is_querying}
use Rattle.wl_hub.specs.Hub.{from_broker}
use Rattle.wl_kernel.specs.Routes.{frame_of}
use Rattle.wl_world_model.proofs.order.Standings.{has_pair-from}
use Rattle.wl_quiescence.proofs.rest.Invariant.{View, outputs_to, parts_in, numbers_at}
use Rattle.wl_quiescence.proofs.rest.Restarts.{outputs-append}
use Rattle.wl_quiescence.proofs.client.Kept.{AllFit, Heeds}
use Rattle.wl_quiescence.proofs.calls.Once.{both-fewer, fewer-weight}
use Rattle.wl_quiescence.proofs.hub.Rows.{within-In, grants-within, stands_at}
use Rattle.wl_quiescence.proofs.hub.Others.{sent-cases, settled-Grants, settled-generation}
use Rattle.wl_quiescence.proofs.hub.Drafted.{drafted-within}
use Rattle.wl_quiescence.proofs.hub.Performed.{first-to, snapshot-grant, snapshot-number}
use Rattle.wl_quiescence.proofs.hub.Snapshot.{AreBelow, put-last, sent}
use Rattle.wl_quiescence.proofs.heeds.Agrees.{fit-both, fit-lacks, parts-away, Tells, Agrees, answer-same, AreTaken, grants-tell, grants-quiet}

-- Numbers

-- A number at the broker is held or waits.
numbers-stand : (m : Locks) (t n : ℕ) → In n (numbers_at m t) → stands_at m t n ≡ true
numbers-stand m t n i =
    let a = In-map_cases (λ (r : Row). r.number) (filter (λ (r : Row). r.client == t) (m.held ++ m.waiting)) i in
    let f = In-filter_cases (λ (r : Row). r.client == t) (m.held ++ m.waiting) a.1 in
    let client = eqb-true a.0.client t f.1 in
    ⊎_elim
    (λ j. or_left (has_pair t n m.held) (has_pair t n m.waiting) (has_pair-from t n m.held a.0 j client (sym a.2)))
    (λ j. or_right (has_pair t n m.held) (has_pair t n m.waiting) (has_pair-from t n m.waiting a.0 j client (sym a.2)))
    (In-append_cases m.held m.waiting f.0)

-- A lock that the broker says is gone is not there.
later-gone : (m : Locks) (t n : ℕ) (o : Operation) → outcome_at m t n o ≡ Gone → (o ≡ Query → ⊥) → In n (numbers_at m t) → ⊥
later-gone m t n (Request mode if_available name) gone other i = by (has_pair t n m.held) (has_pair t n m.waiting) (numbers-stand m t n i) gone
  where
    by : (a d : _) → (a || d) ≡ true → outcome_of (cond a standing.Held (cond d standing.Waiting standing.Absent)) ≡ Gone → ⊥
    by true d e g = granted g
      where
        granted : Granted ≡ Gone → ⊥
        granted e = cc
    by false true e g = waiting g
      where
        waiting : Waiting ≡ Gone → ⊥
        waiting e = cc
    by false false e g = apart e refl
later-gone m t n (Release j) gone other i = taken gone
  where
    taken : Taken ≡ Gone → ⊥
    taken e = cc
later-gone m t n (Abort j) gone other i = taken gone
  where
    taken : Taken ≡ Gone → ⊥
    taken e = cc
later-gone m t n Query gone other i = other refl

-- The answer to a command that was taken
pub later-tells : (v : View) (t n : ℕ) (c : BrokerState) (o : Operation) (x : Answer) → n < next_of c t
    → (o ≡ Query → is_asked (status_of v.client.locks n) ≡ true → In n (numbers_at (manager_of c v.place) t) → ⊥) → frame.Answer x ≡ frame_of (later_answer c t v.place n o).inner → Tells v t c x
later-tells v t n c o x lt query e =
    let same = answer-same x _ e in
    let upto : x.upto ≡ next_of c t = ap (λ (z : Answer). z.upto) same in
    let number : x.number ≡ n = ap (λ (z : Answer). z.number) same in (
      omega (arith, upto),
      omega (arith, number, lt),
      λ gone asked i.
          let j = subst (λ z. In z (numbers_at (manager_of c v.place) t)) number i in
          later-gone (manager_of c v.place) t n o (sym (ap (λ (z : Answer). z.outcome) same) ∙ gone) (λ q. query q (subst (λ z. is_asked (status_of v.client.locks z) ≡ true) number asked) j) j,
    )

-- Numbers below the command's are at the broker before.
drafted-before : (t n k : ℕ) (o : Operation) (m : Locks) → k ≢ n → In k (numbers_at (drafted t n o m) t) → In k (numbers_at m t)
unfolding released aborted
drafted-before t n k (Request mode b name) m d i = ⊎_elim (λ e. absurd (d e)) (λ j. j) (In-cons_cases (within-In _ _ (drafted-within t n (Request mode b name) m (λ j e. absurd (other j e))) i))
  where
    other : (j : ℕ) → Request mode b name ≡ Release j → ⊥
    other j e = cc
drafted-before t n k (Release j) m d i = within-In _ _ (both-fewer t m (released t j m) (λ p. fewer-weight p t _ m.held) (λ p. omega arith)) i
drafted-before t n k (Abort j) m d i = within-In _ _ (both-fewer t m (aborted t j m) (λ p. fewer-weight p t _ m.held) (λ p. fewer-weight p t _ m.waiting)) i
drafted-before t n k Query m d i = i

-- Snapshots

none-below : (j : ℕ) (ps : Table (List SnapshotEntry)) → AreBelow j ps → has_row ps j ≡ false
unfolding AreBelow
none-below j [] h = refl
none-below j (p ∷ ps) h = let lt = h.0 in ap (λ z. z || has_row ps j) (ne_eqb p.0 j (λ e. omega (arith, e, lt))) ∙ none-below j ps h.1

module _ (g t n : ℕ) (es : List SnapshotEntry) where
  -- The parts from `j` on fit one after another.
  parts-fit : (len j : ℕ) (ps : PartsState) → AreBelow j ps.came → (length ps.came ≡ 0) ⊎ (ps.count ≡ part_count es) → j + len ≤ part_count es → AllFit g n (sent g t n es j len) ps
  unfolding with_part
  parts-fit zero j ps h all le = tt
  parts-fit (suc len) j ps h all le =
      let x : Part = record { generation = g; number = n; part = j; parts = part_count es; entries = take ENTRY_LIMIT (drop (ENTRY_LIMIT * j) es) } in
      let rest = sent g t n es (j + 1) len in
      let o = put-last j x.entries ps.came h in
      let a : sent g t n es j (suc len) ≡ frame.Snapshot x ∷ rest = ap (λ b. map (λ (o : ℕ × Frame). o.1) (cond b ((t, frame.Snapshot x) ∷ filter (λ (o : ℕ × Frame). o.0 == t) (from_broker (map (part_of g t n es) (range_with_len (j + 1) len)))) (filter (λ (o : ℕ × Frame). o.0 == t) (from_broker (map (part_of g t n es) (range_with_len (j + 1) len)))))) (eq-eqb t t refl) in
      let here : ((g == g) && (n == n)) ≡ true = ap₂ (λ c d. c && d) (eq-eqb g g refl) (eq-eqb n n refl) in
      let count : (length ps.came == 0 || x.parts == ps.count) ≡ true = ⊎_elim (λ e. or_left (length ps.came == 0) (x.parts == ps.count) (eq-eqb (length ps.came) 0 e)) (λ e. or_right (length ps.came == 0) (x.parts == ps.count) (eq-eqb x.parts ps.count (sym e))) all in
      let low : nat_lt x.part x.parts ≡ true = lt-ltb x.part x.parts (omega (arith, le)) in
      let new : has_row ps.came x.part ≡ false = none-below j ps.came h in
      subst (λ zs. AllFit g n zs ps) (sym a) (
        (λ _. rw count (rw low (rw new refl))),
        subst (λ b. AllFit g n rest (if b then with_part x ps else ps)) (sym here) (parts-fit len (j + 1) (with_part x ps) o.1 (inr refl) (omega (arith, le))),
      )

-- A frame that is no part of a snapshot, alone
one-quiet : (t : ℕ) (o : Addressed) → ((x : Part) → frame.Snapshot x ≡ frame_of o.inner → ⊥) → (x : Part) → In (frame.Snapshot x) (outputs_to t (from_broker (o ∷ []))) → ⊥
one-quiet t o plain x i = let s = sent-cases t (o ∷ []) (frame.Snapshot x) i in plain x (s.3 ∙ ap (λ (z : Addressed). frame_of z.inner) (In-one s.1))

-- The first answer's parts fit, and no other frame has a part.
first-fit : (g t p n : ℕ) (o : Operation) (c : BrokerState) → c.generation ≡ g → AllFit g n (outputs_to t (from_broker (first_answer c t p n o))) no_parts
unfolding AreBelow
first-fit g t p n (Request mode b name) c e = fit-lacks g n (outputs_to t (from_broker (first_answer c t p n (Request mode b name)))) no_parts (λ x i _. one-quiet t (later_answer c t p n (Request mode b name)) (λ y e. snapshot-grant y _ e) x i)
first-fit g t p n (Release j) c e = fit-lacks g n (outputs_to t (from_broker (first_answer c t p n (Release j)))) no_parts (λ x i _. one-quiet t (later_answer c t p n (Release j)) (λ y e. snapshot-grant y _ e) x i)
first-fit g t p n (Abort j) c e = fit-lacks g n (outputs_to t (from_broker (first_answer c t p n (Abort j)))) no_parts (λ x i _. one-quiet t (later_answer c t p n (Abort j)) (λ y e. snapshot-grant y _ e) x i)
first-fit g t p n Query c e =
    let es = snapshot_entries (manager_of c p) in
    let gone = answer_of c.generation (next_of c t) t n Gone in
    either (λ zs. AllFit g n (outputs_to t (from_broker zs)) no_parts) (nat_lt SNAPSHOT_PART_LIMIT (part_count es)) (gone ∷ []) (map (part_of c.generation t n es) (range_with_len 0 (part_count es)))
    (λ _. fit-lacks g n (outputs_to t (from_broker (gone ∷ []))) no_parts (λ x i _. one-quiet t gone (λ y e. snapshot-grant y _ e) x i))
    (λ _. subst (λ z. AllFit g n (sent z t n es 0 (part_count es)) no_parts) (sym e) (parts-fit g t n es (part_count es) 0 no_parts tt (inl refl) (omega arith)))

-- A command that is taken in turn

-- A part that the broker sends has the number of the command.
first-part : (c : BrokerState) (t p n : ℕ) (o : Operation) (rows : List Row) (x : Part) → In (frame.Snapshot x) (outputs_to t (from_broker (first_answer c t p n o ++ grants_to c rows))) → x.number ≡ n
first-part c t p n o rows x i =
    let s = sent-cases t (first_answer c t p n o ++ grants_to c rows) (frame.Snapshot x) i in
    ⊎_elim (λ j. snapshot-number s.0.inner x n s.3 (first-to c t p n o s.0 j).1) (λ j. absurd (grants-quiet c rows s.0 j x s.3)) (In-append_cases (first_answer c t p n o) (grants_to c rows) s.1)

module _ (v : View) (t : ℕ) (b : BrokerState) (o : Operation) (n : ℕ) (turn : n ≡ next_of b t) where
  abbrev seated : BrokerState
  seated = with_seat t (Joined v.place (n + 1) (limit_of b t)) b

  abbrev m : Locks
  m = drafted t n o (manager_of b v.place)

  abbrev c : BrokerState
  c = after_command b t v.place n o

  abbrev pub rows_told : List Row
  rows_told = without t n (newly_at (with_seat t (Joined v.place (n + 1) (limit_of b t)) b) v.place (drafted t n o (manager_of b v.place)))

  next : next_of c t ≡ n + 1
  next = ap next_in (seat_of-settled_at b t (Joined v.place (n + 1) (limit_of b t)) v.place m)

  drafts : (k : ℕ) → In k (numbers_at (manager_of c v.place) t) → In k (numbers_at m t)
  drafts k i = within-In _ _ (grants-within t m (manager_of c v.place) (newly_at seated v.place m) (settled-Grants seated v.place m)) i

  first-tells : ((k : ℕ) → In k (numbers_at (manager_of b v.place) t) → k < n) → (x : Answer) (z : Addressed) → In z (first_answer c t v.place n o) → frame.Answer x ≡ frame_of z.inner → Tells v t c x
  first-tells below x z i e = by o refl i
    where
      low : n < next_of c t
      low = let e = next in omega (arith, e)

      later : (p : Operation) → o ≡ p → (p ≡ Query → ⊥) → z ≡ later_answer c t v.place n p → Tells v t c x
      later p q other j = later-tells v t n c p x low (λ s. absurd (other s)) (e ∙ ap (λ (y : Addressed). frame_of y.inner) j)

      absent : o ≡ Query → In n (numbers_at (manager_of c v.place) t) → ⊥
      absent q i = let lt = below n (subst (λ p. In n (numbers_at (drafted t n p (manager_of b v.place)) t)) q (drafts n i)) in omega (arith, lt)

      by : (p : Operation) → o ≡ p → In z (first_answer c t v.place n p) → Tells v t c x
      by (Request mode b name) q j = later (Request mode b name) q (other mode b name) (In-one j)
        where
          other : (mode : _) (b : _) (name : List ℕ) → Request mode b name ≡ Query → ⊥
          other mode b name e = cc
      by (Release k) q j = later (Release k) q (other k) (In-one j)
        where
          other : (k : ℕ) → Release k ≡ Query → ⊥
          other k e = cc
      by (Abort k) q j = later (Abort k) q (other k) (In-one j)
        where
          other : (k : ℕ) → Abort k ≡ Query → ⊥
          other k e = cc
      by Query q i =
          let es = snapshot_entries (manager_of c v.place) in
          either (λ zs. In z zs → Tells v t c x) (nat_lt SNAPSHOT_PART_LIMIT (part_count es)) (answer_of c.generation (next_of c t) t n Gone ∷ []) (map (part_of c.generation t n es) (range_with_len 0 (part_count es)))
          (λ _ j. later-tells v t n c Query x low (λ _ _ i. absent q i) (e ∙ ap (λ (y : Addressed). frame_of y.inner) (In-one j)))
          (λ _ j. let r = In-map_cases (part_of c.generation t n es) (range_with_len 0 (part_count es)) j in absurd (part-answer _ x (sym (e ∙ ap (λ (y : Addressed). frame_of y.inner) r.2)))) i
        where
          part-answer : (y : Part) (x : Answer) → frame.Snapshot y ≡ frame.Answer x → ⊥
          part-answer y x e = cc

  pub performs-agrees : ((k : ℕ) → In k (numbers_at (manager_of b v.place) t) → k < n) → AreTaken c t rows_told → v.client.locks.entered ≡ b.generation → Heeds v t b
      → Agrees v (outputs_to t (from_broker (told_by_command b t v.place n o))) t b c
  performs-agrees below low entered heeds =
      let e = next in
      let generation : c.generation ≡ b.generation = settled-generation seated v.place m in
      let outs = told_by_command b t v.place n o in
      let more = outputs_to t (from_broker outs) in
      record {
        generation = generation;
        next = omega (arith, e, turn);
        numbers = λ k lt i. drafted-before t n k o (manager_of b v.place) (λ f. omega (arith, f, lt, turn)) (drafts k i);
        answers = λ x i.
            let s = sent-cases t outs (frame.Answer x) i in
            ⊎_elim (λ j. first-tells below x s.0 j s.3) (λ j. grants-tell v t c rows_told low s.0 j s.2 x s.3) (In-append_cases (first_answer c t v.place n o) (grants_to c rows_told) s.1);
        snapshots = λ x i. let q = first-part c t v.place n o rows_told x i in omega (arith, q, e);
        fit = λ k ps q. ⊎_elim
            (λ f. subst (λ z. AllFit b.generation z more (parts_in b.generation z v.down ps)) (sym f) (here ps (subst (λ z. status_of v.client.locks z ≡ Some (Querying ps)) f q) low heeds entered))
            (λ d. fit-lacks b.generation k more (parts_in b.generation k v.down ps) (λ x i f. d (sym f ∙ first-part c t v.place n o rows_told x i)))
            (cases_eq k n);
      }
    where
      parts-same : (p q : PartsState) → Some (Querying p) ≡ Some (Querying q) → p ≡ q
      parts-same p q s = cc

      here : (ps : PartsState) → status_of v.client.locks n ≡ Some (Querying ps) → AreTaken c t rows_told → Heeds v t b → v.client.locks.entered ≡ b.generation
          → AllFit b.generation n (outputs_to t (from_broker (told_by_command b t v.place n o))) (parts_in b.generation n v.down ps)
      here ps q low heeds entered =
          let none : ps ≡ no_parts = parts-same ps no_parts (sym q ∙ heeds.unheard entered n (omega (arith, turn)) (ap is_querying q)) in
          let away : parts_in b.generation n v.down no_parts ≡ no_parts = parts-away b.generation n v.down no_parts (λ x i g f. let lt = heeds.snapshots x i g in omega (arith, lt, f, turn)) in
          let xs = first_answer c t v.place n o in
          let gs = grants_to c rows_told in
          let A = outputs_to t (from_broker xs) in
          let B = outputs_to t (from_broker gs) in
          let split : outputs_to t (from_broker (xs ++ gs)) ≡ A ++ B = ap (outputs_to t) (map-append (λ (a : Addressed). (a.tab, frame_of a.inner)) xs gs) ∙ outputs-append t (from_broker xs) (from_broker gs) in
          subst (λ z. AllFit b.generation n (outputs_to t (from_broker (xs ++ gs))) z) (sym (ap (parts_in b.generation n v.down) none ∙ away))
          (subst (λ zs. AllFit b.generation n zs no_parts) (sym split)
          (fit-both b.generation n A B no_parts (first-fit b.generation t v.place n o c (settled-generation seated v.place m))
          (λ x i _. let s = sent-cases t gs (frame.Snapshot x) i in grants-quiet c rows_told s.0 s.1 x s.3)))

-- A command that was taken before
pub repeats-agrees : (v : View) (t : ℕ) (b : BrokerState) (o : Operation) (n : ℕ) → n < next_of b t
    → (o ≡ Query → is_asked (status_of v.client.locks n) ≡ true → In n (numbers_at (manager_of b v.place) t) → ⊥)
    → Agrees v (outputs_to t (from_broker (later_answer b t v.place n o ∷ []))) t b b
repeats-agrees v t b o n lt query =
    let outs = later_answer b t v.place n o ∷ [] in
    let quiet : (x : Part) → In (frame.Snapshot x) (outputs_to t (from_broker outs)) → ⊥ = λ x i.
    one-quiet t (later_answer b t v.place n o) (λ y e. snapshot-grant y _ e) x i in
    record {
      generation = refl;
      next = omega arith;
      numbers = λ k _ i. i;
      answers = λ x i. let s = sent-cases t outs (frame.Answer x) i in later-tells v t n b o x lt query (s.3 ∙ ap (λ (z : Addressed). frame_of z.inner) (In-one s.1));
      snapshots = λ x i. absurd (quiet x i);
      fit = λ k ps e. fit-lacks b.generation k (outputs_to t (from_broker outs)) (parts_in b.generation k v.down ps) (λ x i _. quiet x i);
    }

-- A tab that had not joined: only grants are sent.
pub grants-agree : (v : View) (t : ℕ) (b c : BrokerState) (rows : List Row) → c.generation ≡ b.generation → next_of b t ≡ 0 → AreTaken c t rows → Agrees v (outputs_to t (from_broker (grants_to c rows))) t b c
grants-agree v t b c rows generation first low =
    let quiet : (x : Part) → In (frame.Snapshot x) (outputs_to t (from_broker (grants_to c rows))) → ⊥ = λ x i.
    (let s = sent-cases t (grants_to c rows) (frame.Snapshot x) i in grants-quiet c rows s.0 s.1 x s.3) in
    record {
      generation = generation;
      next = omega (arith, first);
      numbers = λ k lt _. absurd (omega (arith, lt, first));
      answers = λ x i. let s = sent-cases t (grants_to c rows) (frame.Answer x) i in grants-tell v t c rows low s.0 s.1 s.2 x s.3;
      snapshots = λ x i. absurd (quiet x i);
      fit = λ k ps e. fit-lacks b.generation k (outputs_to t (from_broker (grants_to c rows))) (parts_in b.generation k v.down ps) (λ x i _. quiet x i);
    }
