-- The client's handling of a frame keeps it that what comes from the broker agrees with it.
use Rattle.std.proofs.Common.{◌≡◌, ◌≢◌, ⊎_elim, ℕ, ◌≤◌, true, false, not, List, ◌∷◌, Some, sym, ap, ◌∙◌, subst, arith}
use Rattle.std.specs.Prelude.{◌==◌}
use Rattle.std.proofs.lemmas.Bool.{cases_Bool, cases_eq, eq-eqb, eqb-true, and_parts, or_left, or_right, false_from_ne_true}
use Rattle.wl_draft.specs.Membership.{In, Here, Later as Behind}
use Rattle.wl_grammar.specs.declared.frame.Answer.{Answer}
use Rattle.wl_grammar.specs.declared.frame.Snapshot.{Snapshot as Part}
use Rattle.wl_grammar.specs.declared.frame.Frame.{Frame}
use Rattle.wl_grammar.specs.declared.frame.Frame.TheVariants as frame
use Rattle.wl_broker.specs.Broker.{BrokerState, next_of}
use Rattle.wl_agent.specs.declared.status.Status.TheVariants.{Querying}
use Rattle.wl_agent.specs.SnapshotParts.{PartsState, no_parts}
use Rattle.wl_agent.specs.Tab.{TabState, status_of, is_asked, is_querying}
use Rattle.wl_agent.specs.Delivery.{delivery, has_entered}
use Rattle.wl_tab.specs.Tabs.{told}
use Rattle.wl_world_model.specs.World.{WorldState}
use Rattle.wl_library_model.specs.Library.{Library, client_of, runs}
use Rattle.wl_library_model.proofs.Carried.{Sim}
use Rattle.wl_quiescence.proofs.rest.Invariant.{view, is_answer_in, Serves, IsResting}
use Rattle.wl_quiescence.proofs.client.Kept.{AllFit, Heeds}
use Rattle.wl_quiescence.proofs.client.Hears.{is_waited}
use Rattle.wl_quiescence.proofs.client.Answers.{answered_by, answered-entered, still}
use Rattle.wl_quiescence.proofs.client.Frames.{behind, client-sound, client-none, joined-entered, other-generation, answer-other, answer-own}
use Rattle.wl_quiescence.proofs.client.Parts.{snapped_by, snapped-entered, part-other, part-own, by_number, asked-now}
use Rattle.wl_quiescence.proofs.client.Others.{first-down}
use Rattle.wl_quiescence.proofs.client.Heeds.{answer-fit, part-fit, fit-skip, fit-none}

-- What comes behind the frame agrees with the locks afterwards.
pub record FitsBehind (l : Library) (t : ℕ) (fs : List Frame) (b : BrokerState) (c : TabState) : Type 0 where
  pub fit : (k : ℕ) (ps : PartsState) → status_of c k ≡ Some (Querying ps) → AllFit b.generation k (behind l t fs) ps
  -- An answered number that is asked was asked before.
  pub asked :
      (x : Answer) → In (frame.Answer x) (behind l t fs) → x.generation ≡ b.generation → is_asked (status_of c x.number) ≡ true →
      is_asked (status_of (client_of l t).locks x.number) ≡ true
  pub unheard : c.entered ≡ b.generation → (k : ℕ) → next_of b t ≤ k → is_querying (status_of c k) ≡ true → status_of c k ≡ Some (Querying no_parts)

module _ (l : Library) (w : WorldState) (t : ℕ) (s : Sim l w) (x : IsResting l) (y : (client_of l t).is_welcomed ≡ true) (b : BrokerState) (r : runs l t ≡ true) (up : l.hub.supervised.broker ≡ Some b) (heeds : Heeds (view l t) t b) where
  abbrev locks : TabState
  locks = (client_of l t).locks

  serves : Serves (view l t) t b
  serves = x.serving b t up r

  -- The locks are as they were, and the frame is no answer of the broker that is up.
  pub same-behind : (f : Frame) (fs : List Frame) → (client_of l t).arrived ≡ f ∷ fs → is_answer_in b.generation f ≡ false → FitsBehind l t fs b locks
  same-behind f fs a n = record {
    fit = λ k ps e. fit-skip b.generation k f (behind l t fs) ps n (subst (λ z. AllFit b.generation k z ps) (first-down l t f fs a) (heeds.fit k ps e));
    asked = λ x i g e. e;
    unheard = heeds.unheard;
  }

  -- The tab was in another generation than the broker's, so no answer of the broker comes.
  pub other-behind : (f : Frame) (fs : List Frame) (c : TabState) → (client_of l t).arrived ≡ f ∷ fs → locks.entered ≢ b.generation
      → (c.entered ≡ b.generation → (k : ℕ) → is_querying (status_of c k) ≡ true → status_of c k ≡ Some (Querying no_parts)) → FitsBehind l t fs b c
  other-behind f fs c a d u =
      let none : (g : Frame) → In g (behind l t fs) → is_answer_in b.generation g ≡ true → ⊥ = λ g i q.
      d (joined-entered l w t s y b r up (serves.answers g (subst (In g) (sym (first-down l t f fs a)) (Behind i)) q)) in
      record {
        fit = λ k ps e. fit-none b.generation k (behind l t fs) ps (λ g i. false_from_ne_true _ (none g i));
        asked = λ x i g e. absurd (none (frame.Answer x) i (eq-eqb x.generation b.generation g));
        unheard = λ e k le q. u e k q;
      }

  pub answer-behind : (z : Answer) (fs : List Frame) → (client_of l t).arrived ≡ frame.Answer z ∷ fs → FitsBehind l t fs b (told (delivery (frame.Answer z) locks).0)
  answer-behind z fs a =
      let down = first-down l t (frame.Answer z) fs a in
      let none = client-none l w t s y in
      ⊎_elim
      (λ e. subst (FitsBehind l t fs b) (sym (answer-own z locks e))
      (let same : z.generation ≡ locks.entered = eqb-true z.generation locks.entered (and_parts (z.generation == locks.entered) (not (locks.entered == 0)) e).0 in
      let sound = client-sound l w t s y in
      ⊎_elim
      (λ g. let now : z.generation ≡ b.generation = same ∙ g in
      let kept = serves.kept (serves.answers (frame.Answer z) (subst (In (frame.Answer z)) (sym down) Here) (eq-eqb z.generation b.generation now)) in
      let now_as : (k : ℕ) → is_waited (status_of (answered_by z locks) k) ≡ true → status_of (answered_by z locks) k ≡ status_of locks k = λ k q.
      (still (view l t) t b z (behind l t fs) down now sound none heeds kept k q).0 in
      record {
        fit = answer-fit (view l t) t b z (behind l t fs) down now sound none heeds kept;
        asked = λ x i q e. ap is_asked (sym (now_as x.number (or_left _ _ e))) ∙ e;
        unheard = λ _ k le q. let e = now_as k (or_right (is_asked (status_of (answered_by z locks) k)) _ q) in e ∙ heeds.unheard g k le (ap is_querying (sym e) ∙ q);
      })
      (λ d. other-behind (frame.Answer z) fs (answered_by z locks) a d (λ e. absurd (d (sym (answered-entered z locks sound.rises) ∙ e))))
      (cases_eq locks.entered b.generation)))
      (λ e. subst (FitsBehind l t fs b) (sym (answer-other z locks e none))
      (same-behind (frame.Answer z) fs a (other-generation l w t s y b r up z.generation e (λ g. serves.answers (frame.Answer z) (subst (In (frame.Answer z)) (sym down) Here) (eq-eqb z.generation b.generation g)))))
      (cases_Bool (has_entered z.generation locks))

  pub part-behind : (z : Part) (fs : List Frame) → (client_of l t).arrived ≡ frame.Snapshot z ∷ fs → FitsBehind l t fs b (told (delivery (frame.Snapshot z) locks).0)
  part-behind z fs a =
      let down = first-down l t (frame.Snapshot z) fs a in
      let none = client-none l w t s y in
      ⊎_elim
      (λ e. subst (FitsBehind l t fs b) (sym (part-own z locks e))
      (let same : z.generation ≡ locks.entered = eqb-true z.generation locks.entered (and_parts (z.generation == locks.entered) (not (locks.entered == 0)) e).0 in
      let sound = client-sound l w t s y in
      ⊎_elim
      (λ g. let now : z.generation ≡ b.generation = same ∙ g in
      let kept = serves.kept (serves.answers (frame.Snapshot z) (subst (In (frame.Snapshot z)) (sym down) Here) (eq-eqb z.generation b.generation now)) in
      let low = heeds.snapshots z (subst (In (frame.Snapshot z)) (sym down) Here) now in
      record {
        fit = part-fit (view l t) t b z (behind l t fs) down now sound none heeds kept;
        asked = λ x i q e. asked-now (view l t) t b z (behind l t fs) down now sound none heeds kept x.number e;
        unheard = λ _. by_number (view l t) t b z (behind l t fs) down now sound none heeds kept
            (λ k. next_of b t ≤ k → is_querying (status_of (snapped_by z locks) k) ≡ true → status_of (snapped_by z locks) k ≡ Some (Querying no_parts))
            (λ _ le. absurd (omega (arith, low, le)))
            (λ k d e le q. e ∙ heeds.unheard g k le (ap is_querying (sym e) ∙ q));
      })
      (λ d. other-behind (frame.Snapshot z) fs (snapped_by z locks) a d (λ e. absurd (d (sym (snapped-entered z locks sound.rises) ∙ e))))
      (cases_eq locks.entered b.generation)))
      (λ e. subst (FitsBehind l t fs b) (sym (part-other z locks e none))
      (same-behind (frame.Snapshot z) fs a (other-generation l w t s y b r up z.generation e (λ g. serves.answers (frame.Snapshot z) (subst (In (frame.Snapshot z)) (sym down) Here) (eq-eqb z.generation b.generation g)))))
      (cases_Bool (has_entered z.generation locks))
