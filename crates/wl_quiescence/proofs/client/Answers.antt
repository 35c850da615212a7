-- A client handles an answer: the step keeps the invariant.
use Rattle.std.proofs.Common.{◌≡◌, ◌≢◌, ⊎_elim, ℕ, ◌<◌, ◌≤◌, true, ◌&&◌, List, ◌∷◌, length, sym, ap, ◌∙◌, subst}
use Rattle.std.specs.Prelude.{◌==◌, nat_lt, nat_le}
use Rattle.std.proofs.lemmas.Bool.{cases_eq, eq-eqb, or_cases, or_left, or_right}
use Rattle.wl_draft.specs.Tables.{Rises}
use Rattle.wl_draft.specs.Membership.{In, Here}
use Rattle.wl_draft.proofs.Membership.{apart, either, In-cons_cases}
use Rattle.wl_grammar.specs.declared.frame.Answer.{Answer}
use Rattle.wl_grammar.specs.declared.frame.Snapshot.{Snapshot as Part}
use Rattle.wl_grammar.specs.declared.frame.Frame.{Frame}
use Rattle.wl_grammar.specs.declared.frame.Frame.TheVariants as frame
use Rattle.wl_grammar.specs.declared.frame.Outcome.TheVariants.{Gone}
use Rattle.wl_broker.specs.Broker.{BrokerState, seat_of, is_joined, next_of, manager_of}
use Rattle.wl_agent.specs.Tab.{TabState, status_of, operation_of, is_asked, is_querying, reserves_number}
use Rattle.wl_agent.specs.Delivery.{noted, after_answer, told_by_answer}
use Rattle.wl_tab.specs.Tabs.{told}
use Rattle.wl_world_model.proofs.exclusion.Invariant.{SoundTab}
use Rattle.wl_world_model.proofs.exclusion.HeardNumbers.{answer-kept}
use Rattle.wl_library_model.proofs.Awaited.{NoneTold}
use Rattle.wl_quiescence.proofs.rest.Invariant.{View, hello, parts_in, ends_wait, AnswerComes, SnapshotComes, HasKept, IsAlive, numbers_at, Serves}
use Rattle.wl_quiescence.proofs.client.Hears.{is_waited, untold, status-told, status-untold, Answers, answer-answers}
use Rattle.wl_quiescence.proofs.client.Kept.{Heeds, Follows, heard_view, operation-same, follows-serves}

-- The locks after an answer of the tab's generation
abbrev pub answered_by : Answer → TabState → TabState
answered_by x a = told (noted x.upto (after_answer (told_by_answer x a) a))

pub answered-entered : (x : Answer) (a : TabState) → Rises 0 a.statuses → (answered_by x a).entered ≡ a.entered
unfolding noted told
answered-entered x a r = (answer-kept x a r).entered

module _ (v : View) (t : ℕ) (b : BrokerState) (x : Answer) (rest : List Frame) (down : v.down ≡ frame.Answer x ∷ rest) (now : x.generation ≡ b.generation) (sound : SoundTab t v.client.locks) (none : NoneTold v.client.locks.statuses) (heeds : Heeds v t b) where
  abbrev a : TabState
  a = v.client.locks

  abbrev y : TabState
  y = after_answer (told_by_answer x a) a

  abbrev c : TabState
  c = answered_by x a

  module _ (kept : HasKept v t b a) where
    answers : Answers x.outcome x.number a y
    answers = answer-answers x a sound.rises
        (λ e. sound.lock x.number (or_left _ _ e))
        (heeds.queries x.number)
        (λ e. ⊎_elim (λ z. sound.issued x.number (or_left _ _ z)) (λ z. kept.queried x.number z) (or_cases _ _ e))

    status-now : (j : ℕ) → status_of c j ≡ untold (status_of y j)
    unfolding noted
    status-now j = status-told (noted x.upto y) j answers.rises

    other-now : (j : ℕ) → j ≢ x.number → status_of c j ≡ status_of a j
    other-now j d = status-now j ∙ (ap untold (answers.others j d) ∙ status-untold a j sound.rises none)

    here-now : status_of y x.number ≡ status_of a x.number → status_of c x.number ≡ status_of a x.number
    here-now e = status-now x.number ∙ (ap untold e ∙ status-untold a x.number sound.rises none)

    pub still : (j : ℕ) → is_waited (status_of c j) ≡ true → (status_of c j ≡ status_of a j) × (j ≡ x.number → ends_wait (operation_of a j) x.outcome ≡ true → ⊥)
    still j w = ⊎_elim
        (λ e. subst (λ z. is_waited (status_of c z) ≡ true → (status_of c z ≡ status_of a z) × (z ≡ x.number → ends_wait (operation_of a z) x.outcome ≡ true → ⊥)) (sym e)
        (λ u. ⊎_elim
        (λ o. (here-now o.0, λ _ ends. apart (ap is_waited (sym (here-now o.0)) ∙ u) (o.1 ends)))
        (λ o. apart (ap is_waited (sym (status-now x.number)) ∙ u) o.0)
        answers.here) w)
        (λ d. (other-now j d, λ e. absurd (d e)))
        (cases_eq j x.number)

    tells : (x.upto ≤ next_of b t) × (x.number < next_of b t) × (x.outcome ≡ Gone → is_asked (status_of a x.number) ≡ true → In x.number (numbers_at (manager_of b v.place) t) → ⊥)
    tells = heeds.answers x (subst (In (frame.Answer x)) (sym down) Here) now

    alive-now : (j : ℕ) → (j < next_of b t → In j (numbers_at (manager_of b v.place) t)) → IsAlive a j → IsAlive c j
    alive-now j at l = ⊎_elim
        (λ e. subst (λ z. (z < next_of b t → In z (numbers_at (manager_of b v.place) t)) → IsAlive a z → IsAlive c z) (sym e)
        (λ at' l'. ⊎_elim
        (λ o. ap reserves_number (here-now o.0) ∙ l')
        (λ o. ⊎_elim (λ r. ap reserves_number (status-now x.number) ∙ r) (λ g. let gone = g l' in absurd (tells.2 gone.0 gone.1 (at' tells.1))) o.1)
        answers.here) at l)
        (λ d. ap reserves_number (other-now j d) ∙ l)
        (cases_eq j x.number)

    low-now : c.acknowledged ≤ next_of b t
    unfolding noted told
    low-now =
        let up : x.upto ≤ next_of b t = tells.0 in
        either (λ z. z ≤ next_of b t) (nat_lt y.acknowledged x.upto && nat_le x.upto (length y.issued)) x.upto y.acknowledged
        (λ _. up) (λ _. subst (λ z. z ≤ next_of b t) (sym answers.acknowledged) kept.acknowledged)

    issued-now : c.issued ≡ a.issued
    unfolding noted told
    issued-now = answers.issued

    answer-now : (j : ℕ) → is_waited (status_of c j) ≡ true → AnswerComes b.generation v j → AnswerComes b.generation (heard_view v rest c) j
    answer-now j w o = ⊎_elim
        (λ e. let same = answer-same o.0 x e in absurd ((still j w).1 (sym o.3 ∙ ap (λ (z : Answer). z.number) same) (ap (λ (z : Answer). ends_wait (operation_of a j) z.outcome) (sym same) ∙ o.4)))
        (λ i. (o.0, i, o.2, o.3, ap (λ z. ends_wait z o.0.outcome) (operation-same a c j issued-now) ∙ o.4))
        (In-cons_cases (subst (In (frame.Answer o.0)) down o.1))
      where
        answer-same : (y z : Answer) → frame.Answer y ≡ frame.Answer z → y ≡ z
        answer-same y z e = cc

    snapshot-now : (j : ℕ) → is_waited (status_of c j) ≡ true → SnapshotComes b.generation v j → SnapshotComes b.generation (heard_view v rest c) j
    snapshot-now j w o = (
      o.0,
      (still j w).0 ∙ o.1,
      (o.2.0, ⊎_elim (λ e. absurd (no-part o.2.0 x e)) (λ i. i) (In-cons_cases (subst (In (frame.Snapshot o.2.0)) down o.2.1)), o.2.2, o.2.3),
      subst (λ z. (let q = parts_in b.generation j z o.0 in length q.came == q.count) ≡ true) down o.3,
    )
      where
        no-part : (p : Part) (z : Answer) → frame.Snapshot p ≡ frame.Answer z → ⊥
        no-part p z e = cc

    pub answer-follows : Follows v t b rest c
    answer-follows = record {
      issued = issued-now;
      low = low-now;
      asked = λ j e. ap is_asked (sym (still j (or_left _ _ e)).0) ∙ e;
      queried = λ j e. ap is_querying (sym (still j (or_right (is_asked (status_of c j)) _ e)).0) ∙ e;
      waited = λ j e. ap is_waited (sym (still j e).0) ∙ e;
      answered = λ j _ w o. answer-now j w o;
      snapshot = λ j _ w o. snapshot-now j w o;
      alive = alive-now;
    }

  -- The tab has joined, since it is answered.
  pub answer-serves : Serves v t b → Serves (heard_view v rest c) t b
  answer-serves s =
      let joined : is_joined (seat_of b t) ≡ true = s.answers (frame.Answer x) (subst (In (frame.Answer x)) (sym down) Here) (eq-eqb x.generation b.generation now) in
      follows-serves v t b (frame.Answer x) rest c down (no-hello x) (answered-entered x a sound.rises) (λ j. answer-follows (s.kept j)) (λ _ n. apart joined n) s
    where
      no-hello : (z : Answer) → hello b.generation ≡ frame.Answer z → ⊥
      no-hello z e = cc
