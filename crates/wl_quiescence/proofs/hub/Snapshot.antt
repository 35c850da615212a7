-- The parts of a snapshot that the broker sends are all.
use Rattle.std.proofs.Common.{◌≡◌, ◌⊎◌, inl, inr, ⊎_elim, ℕ, zero, suc, ◌+◌, ◌<◌, true, ◌&&◌, cond, List, [], ◌∷◌, ◌++◌, length, map, filter, Some, refl, sym, ap, ap₂, ◌∙◌, subst, arith, le_refl, take, drop, ◌*◌, ◌/◌}
use Rattle.std.specs.Prelude.{◌==◌, if◌then◌else◌, nat_lt}
use Rattle.std.specs.List.{range_with_len}
use Rattle.std.proofs.lemmas.Bool.{cases_Bool, eq-eqb, eqb-true, eqb-false, ltb-true}
use Rattle.std.proofs.lemmas.List.{map-append}
use Rattle.wl_limits.specs.declared.frames.TheConstants.{ENTRY_LIMIT, SNAPSHOT_PART_LIMIT}
use Rattle.wl_draft.specs.declared.row.Row.{Row}
use Rattle.wl_draft.specs.Tables.{Table, put}
use Rattle.wl_draft.specs.Membership.{In, Here}
use Rattle.wl_draft.proofs.Membership.{either, In-map, In-map_cases, In-append_left, In-append_right}
use Rattle.wl_grammar.specs.declared.frame.Operation.TheVariants.{Query}
use Rattle.wl_grammar.specs.declared.frame.Outcome.TheVariants.{Granted, Gone}
use Rattle.wl_grammar.specs.declared.frame.Addressed.{Addressed}
use Rattle.wl_grammar.specs.declared.frame.Snapshot.{Snapshot as Part}
use Rattle.wl_grammar.specs.declared.frame.SnapshotEntry.{SnapshotEntry}
use Rattle.wl_grammar.specs.declared.frame.Frame.{Frame}
use Rattle.wl_grammar.specs.declared.frame.Frame.TheVariants as frame
use Rattle.wl_grammar.specs.PartCount.{part_count}
use Rattle.wl_broker.specs.Broker.{BrokerState, manager_of, next_of, answer_of, answer_to, grants_to, part_of, snapshot_entries, first_answer}
use Rattle.wl_broker.proofs.Takings.{after_command, told_by_command}
use Rattle.wl_agent.specs.SnapshotParts.{PartsState, no_parts, with_part, is_whole as is_whole_snapshot}
use Rattle.wl_agent.specs.Tab.{status_of, operation_of, is_querying}
use Rattle.wl_agent.specs.declared.status.Status.TheVariants.{Querying}
use Rattle.wl_kernel.specs.Routes.{frame_of}
use Rattle.wl_hub.specs.Hub.{from_broker}
use Rattle.wl_quiescence.proofs.rest.Invariant.{View, outputs_to, ends_wait, AnswerComes, SnapshotComes, parts_in}
use Rattle.wl_quiescence.proofs.rest.Restarts.{outputs-append}
use Rattle.wl_quiescence.proofs.hub.Moves.{grown, Lacks, parts-append, parts-none}
use Rattle.wl_quiescence.proofs.hub.Others.{sent-cases, sent-In, settled-generation}
use Rattle.wl_quiescence.proofs.hub.Performed.{KnowsTab, snapshot-grant}

-- All rows are below the number.
unfoldable pub AreBelow : ℕ → Table (List SnapshotEntry) → Type 0
AreBelow j [] = Unit {0}
AreBelow j (p ∷ ps) = (p.0 < j) × AreBelow j ps

below-more : (j : ℕ) (ps : Table (List SnapshotEntry)) → AreBelow j ps → AreBelow (j + 1) ps
unfolding AreBelow
below-more j [] h = tt
below-more j (p ∷ ps) h = let lt = h.0 in (omega (arith, lt), below-more j ps h.1)

pub put-last : (j : ℕ) (x : List SnapshotEntry) (ps : Table (List SnapshotEntry)) → AreBelow j ps → (length (put j x ps) ≡ length ps + 1) × AreBelow (j + 1) (put j x ps)
unfolding AreBelow
put-last j x [] h = (refl, (omega arith, tt))
put-last j x (p ∷ ps) h =
    let lt = h.0 in
    let o = put-last j x ps h.1 in
    let P = λ (zs : Table (List SnapshotEntry)). (length zs ≡ length (p ∷ ps) + 1) × AreBelow (j + 1) zs in
    let e = o.0 in
    either P (p.0 == j) ((j, x) ∷ ps) _ (λ y. let f = eqb-true p.0 j y in absurd (omega (arith, lt, f)))
    (λ _. either P (nat_lt j p.0) ((j, x) ∷ p ∷ ps) (p ∷ put j x ps) (λ y. let up : j < p.0 = ltb-true j p.0 y in absurd (omega (arith, lt, up)))
    (λ _. (omega (arith, e), (omega (arith, lt), o.1))))

-- What the parts from `j` on leave.
pub record IsGrown (j len n : ℕ) (old new : PartsState) : Type 0 where
  pub length-came : length new.came ≡ length old.came + len
  pub count : (0 < len) ⊎ (old.count ≡ n) → new.count ≡ n

module _ (g t n : ℕ) (es : List SnapshotEntry) where
  abbrev pub sent : ℕ → ℕ → List Frame
  sent j len = outputs_to t (from_broker (map (part_of g t n es) (range_with_len j len)))

  parts-come : (len j : ℕ) (ps : PartsState) → AreBelow j ps.came → IsGrown j len (part_count es) ps (parts_in g n (sent j len) ps)
  unfolding with_part
  parts-come zero j ps h = record { length-came = omega arith; count = λ o. ⊎_elim (λ lt. absurd (omega (arith, lt))) (λ e. e) o }
  parts-come (suc len) j ps h =
      let x : Part = record { generation = g; number = n; part = j; parts = part_count es; entries = take ENTRY_LIMIT (drop (ENTRY_LIMIT * j) es) } in
      let rest = sent (j + 1) len in
      let more = with_part x ps in
      let o = put-last j x.entries ps.came h in
      let i = parts-come len (j + 1) more o.1 in
      let a : sent j (suc len) ≡ frame.Snapshot x ∷ rest = ap (λ b. map (λ (o : ℕ × Frame). o.1) (cond b ((t, frame.Snapshot x) ∷ filter (λ (o : ℕ × Frame). o.0 == t) (from_broker (map (part_of g t n es) (range_with_len (j + 1) len)))) (filter (λ (o : ℕ × Frame). o.0 == t) (from_broker (map (part_of g t n es) (range_with_len (j + 1) len)))))) (eq-eqb t t refl) in
      let b : parts_in g n (frame.Snapshot x ∷ rest) ps ≡ parts_in g n rest more = ap₂ (λ c d. parts_in g n rest (if c && d then with_part x ps else ps)) (eq-eqb g g refl) (eq-eqb n n refl) in
      let e = i.length-came in
      let f = o.0 in
      subst (IsGrown j (suc len) (part_count es) ps) (sym (ap (λ zs. parts_in g n zs ps) a ∙ b))
      (record { length-came = omega (arith, e, f); count = λ _. i.count (inr refl) })

some-parts : (es : List SnapshotEntry) → 0 < part_count es
some-parts es = ⊎_elim
    (λ y. subst (λ z. 0 < z) (sym (ap (λ b. cond b 1 ((length es + 63) / 64)) y)) (omega arith))
    (λ y. let d = eqb-false (length es) 0 y in subst (λ z. 0 < z) (sym (ap (λ b. cond b 1 ((length es + 63) / 64)) y)) (omega (arith, d)))
    (cases_Bool (length es == 0))

first-In : (m : ℕ) → 0 < m → In 0 (range_with_len 0 m)
first-In zero lt = absurd (omega (arith, lt))
first-In (suc m) lt = Here

-- What comes to the tab of a query that is taken.
abbrev Comes : View → List Frame → List ℕ → ℕ → ℕ → BrokerState → List Addressed → Type 0
Comes v us es t n c outs =
    let w = grown v us (outputs_to t (from_broker outs)) es in SnapshotComes c.generation w n ⊎ AnswerComes c.generation w n

query-answer : (v : View) (us : List Frame) (es : List ℕ) (t n : ℕ) (c : BrokerState) (g p : ℕ) (rows : List Row) → c.generation ≡ g → operation_of v.client.locks n ≡ Query → status_of v.client.locks n ≡ Some (Querying no_parts)
    → parts_in g n v.down no_parts ≡ no_parts → Comes v us es t n c (first_answer c t p n Query ++ grants_to c rows)
unfolding AreBelow
query-answer v us es t n c g p rows same op status none =
    let xs = snapshot_entries (manager_of c p) in
    let gs = grants_to c rows in
    let none-now : parts_in c.generation n v.down no_parts ≡ no_parts = subst (λ z. parts_in z n v.down no_parts ≡ no_parts) (sym same) none in
    either (λ zs. Comes v us es t n c (zs ++ gs)) (nat_lt SNAPSHOT_PART_LIMIT (part_count xs)) (answer_of c.generation (next_of c t) t n Gone ∷ []) (map (part_of c.generation t n xs) (range_with_len 0 (part_count xs)))
    (λ _. inr (_, In-append_right v.down (sent-In t (answer_of c.generation (next_of c t) t n Gone ∷ gs) (answer_of c.generation (next_of c t) t n Gone) Here refl), refl, refl, ap (λ z. ends_wait z Gone) op))
    (λ _.
    let ps = map (part_of c.generation t n xs) (range_with_len 0 (part_count xs)) in
    let some = some-parts xs in
    let i : In (part_of c.generation t n xs 0) ps = In-map (part_of c.generation t n xs) (first-In (part_count xs) some) in
    let B = outputs_to t (from_broker gs) in
    let A = outputs_to t (from_broker ps) in
    let split : outputs_to t (from_broker (ps ++ gs)) ≡ A ++ B = ap (outputs_to t) (map-append (λ (a : Addressed). (a.tab, frame_of a.inner)) ps gs) ∙ outputs-append t (from_broker ps) (from_broker gs) in
    let lacks : Lacks n B = λ x j _.
    (let y = sent-cases t gs (frame.Snapshot x) j in let r = In-map_cases (λ (r : Row). answer_to c r.client r.number Granted) rows y.1 in snapshot-grant x _ (y.3 ∙ ap (λ (z : Addressed). frame_of z.inner) r.2)) in
    let grows = parts-come c.generation t n xs (part_count xs) 0 no_parts tt in
    let all : parts_in c.generation n (v.down ++ outputs_to t (from_broker (ps ++ gs))) no_parts ≡ parts_in c.generation n A no_parts =
    parts-append c.generation n v.down (outputs_to t (from_broker (ps ++ gs))) no_parts
    ∙ (ap (λ z. parts_in c.generation n (outputs_to t (from_broker (ps ++ gs))) z) none-now
    ∙ (ap (λ z. parts_in c.generation n z no_parts) split ∙ (parts-append c.generation n A B no_parts ∙ parts-none c.generation n B (parts_in c.generation n A no_parts) lacks))) in
    let e = grows.length-came in
    let f = grows.count (inl some) in
    inl (
      no_parts,
      status,
      (_, In-append_right v.down (sent-In t (ps ++ gs) (part_of c.generation t n xs 0) (In-append_left gs i) refl), refl, refl),
      ap is_whole_snapshot all ∙ eq-eqb _ _ (omega (arith, e, f)),
    ))

-- The query that the broker takes next is answered.
pub query-comes : (v : View) (us : List Frame) (es : List ℕ) (t : ℕ) (b : BrokerState) → KnowsTab v t b → is_querying (status_of v.client.locks (next_of b t)) ≡ true
    → Comes v us es t (next_of b t) (after_command b t v.place (next_of b t) (operation_of v.client.locks (next_of b t))) (told_by_command b t v.place (next_of b t) (operation_of v.client.locks (next_of b t)))
query-comes v us es t b known q =
    let n = next_of b t in
    let op = known.querying (next_of b t) q in
    let h = known.unheard (next_of b t) (le_refl (next_of b t)) q in
    subst (λ o. Comes v us es t (next_of b t) (after_command b t v.place (next_of b t) o) (told_by_command b t v.place (next_of b t) o)) (sym op)
    (query-answer v us es t (next_of b t) (after_command b t v.place (next_of b t) Query) b.generation v.place _ (settled-generation _ v.place _) op h.0 h.1)
