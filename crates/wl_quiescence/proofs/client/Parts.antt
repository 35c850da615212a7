-- A client handles a part of a snapshot: the step keeps the invariant.
use Rattle.std.proofs.Common.{◌≡◌, ◌≢◌, ◌⊎◌, inl, inr, ⊎_elim, ℕ, ◌+◌, ◌<◌, ◌≤◌, Bool, true, false, not, ◌&&◌, cond, List, [], ◌∷◌, length, Option, Some, None, is_some, refl, sym, ap, ◌∙◌, subst, arith}
use Rattle.std.specs.Prelude.{◌==◌, nat_lt, nat_le, if◌then◌else◌}
use Rattle.std.proofs.lemmas.Bool.{cases_Bool, cases_eq, eq-eqb, ne_eqb, eqb-true, lt-ltb, and_parts, and_from, or_cases, or_left, or_right}
use Rattle.wl_draft.specs.Tables.{Rises, has_row}
use Rattle.wl_draft.specs.Membership.{In, Here, Later as Behind}
use Rattle.wl_draft.proofs.Membership.{apart, either, In-cons_cases}
use Rattle.wl_draft.proofs.TableLemmas.{find-put_same, find-put_other}
use Rattle.wl_grammar.specs.declared.frame.Answer.{Answer}
use Rattle.wl_grammar.specs.declared.frame.Snapshot.{Snapshot as Part}
use Rattle.wl_grammar.specs.declared.frame.Frame.{Frame}
use Rattle.wl_grammar.specs.declared.frame.Frame.TheVariants as frame
use Rattle.wl_grammar.specs.declared.frame.Operation.TheVariants.{Query}
use Rattle.wl_broker.specs.Broker.{BrokerState, seat_of, is_joined, next_of}
use Rattle.wl_agent.specs.declared.status.Status.{Status}
use Rattle.wl_agent.specs.declared.status.Status.TheVariants.{Asked, Held, Querying, Whole, Lost}
use Rattle.wl_agent.specs.declared.delivered.Delivered.{Delivered}
use Rattle.wl_agent.specs.declared.delivered.Delivered.TheVariants as heard
use Rattle.wl_agent.specs.declared.drop_reason.DropReason.{DropReason}
use Rattle.wl_agent.specs.declared.drop_reason.DropReason.TheVariants as unheard
use Rattle.wl_agent.specs.SnapshotParts.{PartsState, fits, with_part, is_whole, snapshot_of}
use Rattle.wl_agent.specs.Tab.{TabState, status_of, operation_of, is_asked, is_querying, is_query, is_issued, reserves_number}
use Rattle.wl_agent.specs.Delivery.{noted, becomes, asking_refusal, part_refusal, parts_of, with_part_come, told_by_come, told_unless, told_by_part, after_part, has_entered, of_other, delivery}
use Rattle.wl_tab.specs.Tabs.{told}
use Rattle.wl_tab.specs.Arrivals.{arrival, told_said}
use Rattle.wl_client.specs.Client.{after_told, is_entering}
use Rattle.wl_world_model.specs.World.{WorldState}
use Rattle.wl_world_model.proofs.exclusion.Invariant.{SoundTab}
use Rattle.wl_world_model.proofs.exclusion.HeardNumbers.{part-kept}
use Rattle.wl_library_model.specs.Library.{Library, ClientAdvances, client_of, runs, step}
use Rattle.wl_library_model.proofs.Awaited.{NoneTold, told-same}
use Rattle.wl_library_model.proofs.Carried.{Sim}
use Rattle.wl_quiescence.proofs.rest.Invariant.{View, view, hello, parts_in, ends_wait, AnswerComes, SnapshotComes, HasKept, IsAlive, Serves, IsResting}
use Rattle.wl_quiescence.proofs.client.Hears.{is_waited, untold, status-told, status-untold}
use Rattle.wl_quiescence.proofs.client.Kept.{AllFit, Heeds, Follows, heard_view, operation-same, follows-serves}
use Rattle.wl_quiescence.proofs.client.Frames.{behind, heard-rests, quiet, said-quiet, other-quiet, client-sound, client-none, joined-entered, other-generation, unheard-serves, old-serves}

-- The locks after a part of the tab's generation
abbrev pub snapped_by : Part → TabState → TabState
snapped_by x a = told (noted (x.number + 1) (after_part x a))

-- More parts are on their way to a snapshot that is not whole.
more-parts : (g k : ℕ) (fs : List Frame) (ps : PartsState) → is_whole (parts_in g k fs ps) ≡ true → is_whole ps ≡ false
    → (x : Part) × In (frame.Snapshot x) fs × (x.generation ≡ g) × (x.number ≡ k)
more-parts g k [] ps w n = apart w n
more-parts g k (frame.Snapshot x ∷ fs) ps w n = ⊎_elim
    (λ y. let h = and_parts (x.generation == g) (x.number == k) y in (x, Here, eqb-true _ _ h.0, eqb-true _ _ h.1))
    (λ m. let o = more-parts g k fs ps (ap (λ z. is_whole (parts_in g k fs (cond z (with_part x ps) ps))) (sym m) ∙ w) n in (o.0, Behind o.1, o.2, o.3))
    (cases_Bool ((x.generation == g) && (x.number == k)))
more-parts g k (f ∷ fs) ps w n = let o = more-parts g k fs ps w n in (o.0, Behind o.1, o.2, o.3)

-- What became of the number of the part
abbrev pub PartNow : Part → TabState → TabState → Type 0
PartNow x a c =
    ((status_of c x.number ≡ status_of a x.number) × (is_querying (status_of a x.number) ≡ false))
    ⊎ ((ps : PartsState) × (status_of a x.number ≡ Some (Querying ps))
    × ((status_of c x.number ≡ None) ⊎ ((status_of c x.number ≡ Some (Querying (with_part x ps))) × (is_whole (with_part x ps) ≡ false))))

not-querying : (x : Part) (s : Option Status) → is_querying s ≡ false → is_some (asking_refusal x s) ≡ true
not-querying x (Some (Querying ps)) n = apart refl n
not-querying x (Some Asked) n = refl
not-querying x (Some Held) n = refl
not-querying x (Some (Whole z)) n = refl
not-querying x (Some Lost) n = refl
not-querying x None n = refl

querying-as : (s : Option Status) → is_querying s ≡ true → (ps : PartsState) × (s ≡ Some (Querying ps))
querying-as (Some (Querying ps)) e = (ps, refl)
querying-as s e = apart e refl

-- A part that fits is taken.
fitting : (x : Part) (a : TabState) (ps : PartsState) → status_of a x.number ≡ Some (Querying ps) → x.number < length a.issued → operation_of a x.number ≡ Query → fits x ps ≡ true → is_some (part_refusal x a) ≡ false
fitting x a ps e lt q f =
    let own : (is_issued a x.number && is_query (operation_of a x.number)) ≡ true = and_from _ _ (lt-ltb x.number (length a.issued) lt) (ap is_query q) in
    ap (λ z. is_some (cond z (asking_refusal x (status_of a x.number)) (Some unheard.Odd))) own
    ∙ (ap (λ z. is_some (asking_refusal x z)) e ∙ ap (λ z. let o : Option DropReason = cond z None (if has_row ps.came x.part then Some unheard.Twice else Some unheard.Odd) in is_some o) f)

taken-part : (x : Part) (a : TabState) (ps : PartsState) → status_of a x.number ≡ Some (Querying ps) → is_some (part_refusal x a) ≡ false → after_part x a ≡ becomes x.number (with_part_come x ps) a
taken-part x a ps e n =
    ap (λ z. cond z a (becomes x.number (with_part_come x (parts_of (status_of a x.number))) a)) n ∙ ap (λ z. becomes x.number (with_part_come x (parts_of z)) a) e

refused-part : (x : Part) (a : TabState) → is_querying (status_of a x.number) ≡ false → after_part x a ≡ a
refused-part x a n =
    either (λ o. cond (is_some o) a (becomes x.number (with_part_come x (parts_of (status_of a x.number))) a) ≡ a) (is_issued a x.number && is_query (operation_of a x.number)) (asking_refusal x (status_of a x.number)) (Some unheard.Odd)
    (λ _. ap (λ z. cond z a (becomes x.number (with_part_come x (parts_of (status_of a x.number))) a)) (not-querying x (status_of a x.number) n))
    (λ _. refl)

pub snapped-entered : (x : Part) (a : TabState) → Rises 0 a.statuses → (snapped_by x a).entered ≡ a.entered
unfolding noted told
snapped-entered x a r = (part-kept x a (λ k. ⊥) r).entered

module _ (v : View) (t : ℕ) (b : BrokerState) (x : Part) (rest : List Frame) (down : v.down ≡ frame.Snapshot x ∷ rest) (now : x.generation ≡ b.generation) (sound : SoundTab t v.client.locks) (none : NoneTold v.client.locks.statuses) (heeds : Heeds v t b) where
  abbrev a : TabState
  a = v.client.locks

  abbrev y : TabState
  y = after_part x a

  abbrev c : TabState
  c = snapped_by x a

  y-rises : Rises 0 y.statuses
  y-rises = (part-kept x a (λ k. ⊥) sound.rises).rises

  status-now : (j : ℕ) → status_of c j ≡ untold (status_of y j)
  unfolding noted
  status-now j = status-told (noted (x.number + 1) y) j y-rises

  -- The number is below those that the broker has taken.
  below : x.number < next_of b t
  below = heeds.snapshots x (subst (In (frame.Snapshot x)) (sym down) Here) now

  module _ (kept : HasKept v t b a) where
    issued-below : x.number < length a.issued
    issued-below = let le : next_of b t ≤ length a.issued = kept.issued in let lt = below in omega (arith, le, lt)

    fits-now : (ps : PartsState) → status_of a x.number ≡ Some (Querying ps) → fits x ps ≡ true
    fits-now ps e = (subst (λ z. AllFit b.generation x.number z ps) down (heeds.fit x.number ps e)).0 (and_from _ _ (eq-eqb x.generation b.generation now) (eq-eqb x.number x.number refl))

    y-taken : (ps : PartsState) → status_of a x.number ≡ Some (Querying ps) → y ≡ becomes x.number (with_part_come x ps) a
    y-taken ps e = taken-part x a ps e (fitting x a ps e issued-below (heeds.queries x.number (ap is_querying e)) (fits-now ps e))

    other-now : (j : ℕ) → j ≢ x.number → status_of c j ≡ status_of a j
    unfolding becomes
    other-now j d = ⊎_elim
        (λ q. let o = querying-as (status_of a x.number) q in
        status-now j ∙ (ap (λ (z : TabState). untold (status_of z j)) (y-taken o.0 o.1) ∙ (ap untold (find-put_other x.number (with_part_come x o.0) a.statuses j d) ∙ status-untold a j sound.rises none)))
        (λ n. status-now j ∙ (ap (λ (z : TabState). untold (status_of z j)) (refused-part x a n) ∙ status-untold a j sound.rises none))
        (cases_Bool (is_querying (status_of a x.number)))

    here-now : PartNow x a c
    unfolding becomes
    here-now = ⊎_elim
        (λ q. let o = querying-as (status_of a x.number) q in
        let put : status_of c x.number ≡ untold (Some (with_part_come x o.0)) =
        status-now x.number ∙ (ap (λ (z : TabState). untold (status_of z x.number)) (y-taken o.0 o.1) ∙ ap untold (find-put_same x.number (with_part_come x o.0) a.statuses)) in
        inr (
          o.0,
          o.1,
          ⊎_elim
              (λ w. inl (put ∙ ap (λ z. untold (Some (cond z (Whole (snapshot_of (with_part x o.0))) (Querying (with_part x o.0))))) w))
              (λ w. inr (put ∙ ap (λ z. untold (Some (cond z (Whole (snapshot_of (with_part x o.0))) (Querying (with_part x o.0))))) w, w))
              (cases_Bool (is_whole (with_part x o.0))),
        ))
        (λ n. inl (status-now x.number ∙ (ap (λ (z : TabState). untold (status_of z x.number)) (refused-part x a n) ∙ status-untold a x.number sound.rises none), n))
        (cases_Bool (is_querying (status_of a x.number)))

    -- By the number of the part, or another.
    pub by_number : (P : ℕ → Type 0) → (PartNow x a c → P x.number) → ((j : ℕ) → j ≢ x.number → status_of c j ≡ status_of a j → P j) → (j : ℕ) → P j
    by_number P f g j = ⊎_elim (λ e. subst P (sym e) (f here-now)) (λ d. g j d (other-now j d)) (cases_eq j x.number)

    issued-now : c.issued ≡ a.issued
    unfolding noted told
    issued-now = (part-kept x a (λ k. ⊥) sound.rises).issued

    low-now : c.acknowledged ≤ next_of b t
    unfolding noted told becomes
    low-now =
        let lt = below in let n : ℕ = x.number in
        let old : y.acknowledged ≡ a.acknowledged = either (λ (z : TabState). z.acknowledged ≡ a.acknowledged) (is_some (part_refusal x a)) a (becomes x.number (with_part_come x (parts_of (status_of a x.number))) a) (λ _. refl) (λ _. refl) in
        either (λ z. z ≤ next_of b t) (nat_lt y.acknowledged (x.number + 1) && nat_le (x.number + 1) (length y.issued)) (x.number + 1) y.acknowledged
        (λ _. omega (arith, lt)) (λ _. subst (λ z. z ≤ next_of b t) (sym old) kept.acknowledged)

    pub asked-now : (j : ℕ) → is_asked (status_of c j) ≡ true → is_asked (status_of a j) ≡ true
    asked-now = by_number (λ j. is_asked (status_of c j) ≡ true → is_asked (status_of a j) ≡ true)
        (λ p u. ⊎_elim (λ o. ap is_asked (sym o.0) ∙ u) (λ o. ⊎_elim (λ z. apart (ap is_asked (sym z) ∙ u) refl) (λ z. apart (ap is_asked (sym z.0) ∙ u) refl) o.2) p)
        (λ j d e u. ap is_asked (sym e) ∙ u)

    queried-now : (j : ℕ) → is_querying (status_of c j) ≡ true → is_querying (status_of a j) ≡ true
    queried-now = by_number (λ j. is_querying (status_of c j) ≡ true → is_querying (status_of a j) ≡ true)
        (λ p u. ⊎_elim (λ o. ap is_querying (sym o.0) ∙ u) (λ o. ap is_querying o.1) p)
        (λ j d e u. ap is_querying (sym e) ∙ u)

    alive-now : (j : ℕ) → IsAlive a j → IsAlive c j
    alive-now = by_number (λ j. IsAlive a j → IsAlive c j)
        (λ p u. ⊎_elim (λ o. ap reserves_number o.0 ∙ u) (λ o. apart (ap reserves_number (sym o.1) ∙ u) refl) p)
        (λ j d e u. ap reserves_number e ∙ u)

    answer-now : (j : ℕ) → AnswerComes b.generation v j → AnswerComes b.generation (heard_view v rest c) j
    answer-now j o = (
      o.0,
      ⊎_elim (λ e. absurd (no-answer o.0 x e)) (λ i. i) (In-cons_cases (subst (In (frame.Answer o.0)) down o.1)),
      o.2,
      o.3,
      ap (λ z. ends_wait z o.0.outcome) (operation-same a c j issued-now) ∙ o.4,
    )
      where
        no-answer : (z : Answer) (p : Part) → frame.Answer z ≡ frame.Snapshot p → ⊥
        no-answer z p e = cc

    whole-before : (j : ℕ) (ps : PartsState) → is_whole (parts_in b.generation j v.down ps) ≡ true
        → is_whole (parts_in b.generation j rest (if (x.generation == b.generation) && (x.number == j) then with_part x ps else ps)) ≡ true
    whole-before j ps w = ap (λ z. is_whole (parts_in b.generation j z ps)) (sym down) ∙ w

    snapshot-other : (j : ℕ) → j ≢ x.number → status_of c j ≡ status_of a j → SnapshotComes b.generation v j → SnapshotComes b.generation (heard_view v rest c) j
    snapshot-other j d e o = (
      o.0,
      e ∙ o.1,
      (o.2.0, ⊎_elim (λ s. absurd (d (sym (o.2.3) ∙ ap (λ (z : Part). z.number) (part-same o.2.0 x s)))) (λ i. i) (In-cons_cases (subst (In (frame.Snapshot o.2.0)) down o.2.1)), o.2.2, o.2.3),
      ap (λ z. is_whole (parts_in b.generation j rest (cond z (with_part x o.0) o.0))) (sym (and-no (x.generation == b.generation) (ne_eqb x.number j (λ s. d (sym s))))) ∙ whole-before j o.0 o.3,
    )
      where
        part-same : (p q : Part) → frame.Snapshot p ≡ frame.Snapshot q → p ≡ q
        part-same p q s = cc

        and-no : (u : Bool) {z : Bool} → z ≡ false → (u && z) ≡ false
        and-no true e = e
        and-no false e = refl

    snapshot-here : PartNow x a c → is_waited (status_of c x.number) ≡ true → SnapshotComes b.generation v x.number → SnapshotComes b.generation (heard_view v rest c) x.number
    snapshot-here p u o = ⊎_elim
        (λ h. apart (ap is_querying o.1) h.1)
        (λ h. ⊎_elim
        (λ z. apart (ap is_waited (sym z) ∙ u) refl)
        (λ z.
        let same : h.0 ≡ o.0 = ps-same h.0 o.0 (sym h.1 ∙ o.1) in
        let hit : ((x.generation == b.generation) && (x.number == x.number)) ≡ true = and_from _ _ (eq-eqb x.generation b.generation now) (eq-eqb x.number x.number refl) in
        let w : is_whole (parts_in b.generation x.number rest (with_part x h.0)) ≡ true =
        ap (λ q. is_whole (parts_in b.generation x.number rest (with_part x q))) same
        ∙ (ap (λ q. is_whole (parts_in b.generation x.number rest (cond q (with_part x o.0) o.0))) (sym hit) ∙ whole-before x.number o.0 o.3) in
        (with_part x h.0, z.0, more-parts b.generation x.number rest (with_part x h.0) w z.1, w))
        h.2)
        p
      where
        ps-same : (p q : PartsState) → Some (Querying p) ≡ Some (Querying q) → p ≡ q
        ps-same p q s = cc

    pub part-follows : Follows v t b rest c
    part-follows = record {
      issued = issued-now;
      low = low-now;
      asked = asked-now;
      queried = queried-now;
      waited = λ j u. ⊎_elim (λ z. or_left _ _ (asked-now j z)) (λ z. or_right (is_asked (status_of a j)) _ (queried-now j z)) (or_cases _ _ u);
      answered = λ j _ _ o. answer-now j o;
      snapshot = λ j _. by_number (λ j. is_waited (status_of c j) ≡ true → SnapshotComes b.generation v j → SnapshotComes b.generation (heard_view v rest c) j)
          snapshot-here (λ j d e u o. snapshot-other j d e o) j;
      alive = λ j _. alive-now j;
    }

  -- The tab has joined, since a part comes to it.
  pub part-serves : Serves v t b → Serves (heard_view v rest c) t b
  part-serves s =
      let joined : is_joined (seat_of b t) ≡ true = s.answers (frame.Snapshot x) (subst (In (frame.Snapshot x)) (sym down) Here) (eq-eqb x.generation b.generation now) in
      follows-serves v t b (frame.Snapshot x) rest c down (no-hello x) (snapped-entered x a sound.rises) (λ j. part-follows (s.kept j)) (λ _ n. apart joined n) s
    where
      no-hello : (z : Part) → hello b.generation ≡ frame.Snapshot z → ⊥
      no-hello z e = cc

-- The step

part-quiet : (x : Part) (a : TabState) → is_entering (arrival (frame.Snapshot x) a) ≡ false
unfolding arrival delivery
part-quiet x a =
    either {A = TabState × Delivered} (λ z. is_entering (told_said (frame.Snapshot x) a z.0 z.1) ≡ false) (has_entered x.generation a) (noted (x.number + 1) (after_part x a), told_by_part x a) (a, of_other x.generation a)
    (λ _. said-quiet (frame.Snapshot x) a (noted (x.number + 1) (after_part x a)) (told_by_part x a) (unless-quiet (part_refusal x a) (parts_of (status_of a x.number))))
    (λ _. said-quiet (frame.Snapshot x) a a (of_other x.generation a) (other-quiet x.generation a))
  where
    unless-quiet : (o : Option DropReason) (ps : PartsState) → quiet (told_unless o (told_by_come x ps)) ≡ true
    unless-quiet (Some r) ps = refl
    unless-quiet None ps = either (λ d. quiet d ≡ true) (is_whole (with_part x ps)) (heard.Whole x.number) (heard.Part x.number) (λ _. refl) (λ _. refl)

pub part-other : (x : Part) (a : TabState) → has_entered x.generation a ≡ false → NoneTold a.statuses → told (delivery (frame.Snapshot x) a).0 ≡ a
unfolding delivery
part-other x a n none = ap (λ z. let o : TabState × Delivered = cond z (noted (x.number + 1) (after_part x a), told_by_part x a) (a, of_other x.generation a) in told o.0) n ∙ told-same a none

pub part-own : (x : Part) (a : TabState) → has_entered x.generation a ≡ true → told (delivery (frame.Snapshot x) a).0 ≡ snapped_by x a
unfolding delivery
part-own x a y = ap (λ z. let o : TabState × Delivered = cond z (noted (x.number + 1) (after_part x a), told_by_part x a) (a, of_other x.generation a) in told o.0) y

-- The client handles a part of a snapshot.
pub snapshot-rests : (l : Library) (w : WorldState) (t : ℕ) (x : Part) (fs : List Frame) → Sim l w → (client_of l t).arrived ≡ frame.Snapshot x ∷ fs → (client_of l t).is_welcomed ≡ true
    → ((b : BrokerState) → runs l t ≡ true → l.hub.supervised.broker ≡ Some b → Heeds (view l t) t b) → IsResting l → IsResting (step (ClientAdvances t) l)
snapshot-rests l w t x fs s a y heeds rest =
    let o = (client_of l t).locks in
    let none = client-none l w t s y in
    let sound = client-sound l w t s y in
    ⊎_elim
    (λ e.
    let h = and_parts (x.generation == o.entered) (not (o.entered == 0)) e in
    let same : x.generation ≡ o.entered = eqb-true x.generation o.entered h.0 in
    let now : (snapped_by x o).entered ≡ o.entered = snapped-entered x o sound.rises in
    heard-rests l t (frame.Snapshot x) fs (snapped_by x o) a y (ap (λ z. after_told (arrival (frame.Snapshot x) o) z (record (client_of l t) { arrived = fs })) (part-own x o e)) (part-quiet x o) now
    (λ b r up down v. ⊎_elim
    (λ g. part-serves (view l t) t b x (behind l t fs) down (same ∙ g) sound none (heeds b r up) v)
    (λ d. old-serves (view l t) t b (frame.Snapshot x) (behind l t fs) (snapped_by x o) down (no-hello b.generation x) now d (joined-entered l w t s y b r up) v)
    (cases_eq o.entered b.generation))
    rest)
    (λ e.
    heard-rests l t (frame.Snapshot x) fs o a y (ap (λ z. after_told (arrival (frame.Snapshot x) o) z (record (client_of l t) { arrived = fs })) (part-other x o e none)) (part-quiet x o) refl
    (λ b r up down v. unheard-serves (view l t) t b (frame.Snapshot x) (behind l t fs) down (no-hello b.generation x)
    (other-generation l w t s y b r up x.generation e (λ g. v.answers (frame.Snapshot x) (subst (In (frame.Snapshot x)) (sym down) Here) (eq-eqb x.generation b.generation g)))
    v)
    rest)
    (cases_Bool (has_entered x.generation o))
  where
    no-hello : (g : ℕ) (z : Part) → hello g ≡ frame.Snapshot z → ⊥
    no-hello g z e = cc
