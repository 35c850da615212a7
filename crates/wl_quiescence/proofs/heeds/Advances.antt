-- The step `HubAdvances` keeps it that what comes down to a client agrees with the broker.
use Rattle.std.proofs.Common.{◌≡◌, ◌≢◌, ℕ, zero, suc, Bool, true, false, not, cond, List, [], ◌∷◌, ◌++◌, map, Option, Some, None, is_some, refl, sym, ap, ◌∙◌, subst, arith, append-nil}
use Rattle.std.proofs.lemmas.Bool.{ne_eqb, and_parts, not-true}
use Rattle.wl_draft.specs.Membership.{In, Here}
use Rattle.wl_draft.proofs.Membership.{apart, either, by_test, In-nil}
use Rattle.wl_grammar.specs.declared.frame.Stamped.{Stamped}
use Rattle.wl_grammar.specs.declared.frame.Upward.{Upward}
use Rattle.wl_grammar.specs.declared.frame.Upward.TheVariants as up
use Rattle.wl_grammar.specs.declared.frame.Frame.{Frame}
use Rattle.wl_grammar.specs.declared.frame.Frame.TheVariants as frame
use Rattle.wl_broker.specs.Broker.{BrokerState, taking, death_step}
use Rattle.wl_broker.proofs.Takings.{burial-Buries}
use Rattle.wl_agent.specs.Tab.{upward_frame}
use Rattle.wl_kernel.specs.Kernel.{KernelState, is_living, is_opened, partition_number}
use Rattle.wl_kernel.specs.Routes.{tab_refusal, stamped, heard_of, hearers}
use Rattle.wl_kernel.specs.declared.fault.RouteFault.{RouteFault}
use Rattle.wl_kernel.specs.declared.routes.Routed.TheVariants.{Broker, Tabs}
use Rattle.wl_supervised_broker.specs.SupervisedStates.{SupervisedState, is_active_for, changed, frames_of}
use Rattle.wl_supervised_broker.specs.Changes.{is_dead as is_dead_tab, death_change, message_change}
use Rattle.wl_hub.specs.Early.{greeted_next}
use Rattle.wl_hub.specs.Hub.{HubState, from_broker, frame_step, routed_step, stepped, with_verdict, greeted, postponing, advanced, after_first, after_greeting, after_told}
use Rattle.wl_library_model.specs.Library.{Library, HubAdvances, runs, lives, is_taken, with_hub, step}
use Rattle.wl_library_model.proofs.ProgressHub.{upward-routed}
use Rattle.wl_quiescence.proofs.rest.Invariant.{view, hello, outputs_to, is_answer_in, IsResting}
use Rattle.wl_quiescence.proofs.rest.Broker.{after_taking}
use Rattle.wl_quiescence.proofs.client.Kept.{IsHeeding}
use Rattle.wl_quiescence.proofs.hub.Sender.{outs_of}
use Rattle.wl_quiescence.proofs.hub.Steps.{hello-only}
use Rattle.wl_quiescence.proofs.hub.Commands.{change-of, frames-are}
use Rattle.wl_quiescence.proofs.hub.Plain.{posted-plain}
use Rattle.wl_quiescence.proofs.Reached.{IsReached}
use Rattle.wl_quiescence.proofs.OfEach.{OfEach, AreLocks}
use Rattle.wl_quiescence.proofs.heeds.Agrees.{plain-agrees, hub-heeds}
use Rattle.wl_quiescence.proofs.heeds.Taken.{message-agrees, buried-agrees}

pub no-broker : (l : Library) → l.hub.supervised.broker ≡ None → IsHeeding l
no-broker l e b t up r = absurd (none-some b (sym e ∙ up))
  where
    none-some : (b : BrokerState) → None ≡ Some b → ⊥
    none-some b e = cc

-- The kernel refuses a tab's frame.
refused-routed : (t : ℕ) (u : Upward) (s : SupervisedState) (x : RouteFault) → tab_refusal s.kernel t ≡ Some x → frame_step t (upward_frame u) s ≡ routed_step (Tabs []) s
refused-routed t (up.Command c) s x e = ap (λ o. cond (is_some o) (routed_step (Tabs []) s) (routed_step (Broker (stamped s.kernel t (up.Command c))) s)) e
refused-routed t (up.Report r) s x e = ap (λ o. cond (is_some o) (routed_step (Tabs []) s) (routed_step (Broker (stamped s.kernel t (up.Report r))) s)) e
refused-routed t (up.ReportPart r) s x e = ap (λ o. cond (is_some o) (routed_step (Tabs []) s) (routed_step (Broker (stamped s.kernel t (up.ReportPart r))) s)) e

module _ (l : Library) (x : IsReached l) (resting : IsResting l) (locks : OfEach l (AreLocks l)) (heeding : IsHeeding l) where
  abbrev k : KernelState
  k = l.hub.supervised.kernel

  abbrev s : ℕ
  s = l.hub.sender

  -- The hub afterwards is that of a run.
  abbrev Heeding : HubState → Type 0
  Heeding h = IsReached (with_hub h l) → IsHeeding (with_hub h l)

  -- The broker stays, and sends no answer.
  plain-heeds : (h : HubState) (sent : List (ℕ × Frame)) → h.supervised ≡ l.hub.supervised → h.outputs ≡ l.hub.outputs ++ sent → ((t g : ℕ) (f : Frame) → In f (outputs_to t sent) → is_answer_in g f ≡ false) → Heeding h
  plain-heeds h sent same outs plain y = go l.hub.supervised.broker refl
    where
      go : (o : Option BrokerState) → l.hub.supervised.broker ≡ o → IsHeeding (with_hub h l)
      go None e = no-broker (with_hub h l) (ap (λ z. z.broker) same ∙ e)
      go (Some b) e =
          hub-heeds l h b b sent (record { kernel = ap (λ z. z.kernel) same; before = e; after = ap (λ z. z.broker) same ∙ e; outputs = outs })
          (λ t r q. plain-agrees (view l t) (outputs_to t sent) t b (λ f g i. plain t g f i)) heeding

  -- A message for the broker
  module _ (u : Upward) (fs : List Frame) (arrived : l.hub.arrived ≡ upward_frame u ∷ fs) where
    abbrev st : Stamped
    st = record { tab = l.hub.sender; partition = partition_number l.hub.supervised.kernel l.hub.sender; inner = u }

    abbrev h : HubState
    h = let r = routed_step (Broker (stamped l.hub.supervised.kernel l.hub.sender u)) l.hub.supervised in with_verdict r.verdict l.hub.sender (stepped r (record l.hub { arrived = fs }))

    taken-heeds : (o : Option BrokerState) → l.hub.supervised.broker ≡ o → Heeding h
    taken-heeds None e y = no-broker (with_hub h l) (ap (λ z. (changed (message_change st k z) l.hub.supervised).broker) e ∙ e)
    taken-heeds (Some b) e y =
        let o = taking b st in
        let supervised : h.supervised ≡ record { kernel = k; broker = Some (after_taking b o) } = ap (λ z. changed (message_change st k z) l.hub.supervised) e ∙ change-of l.hub.supervised b o e in
        let sent : from_broker (frames_of (message_change st k l.hub.supervised.broker)) ≡ from_broker (outs_of o) = ap (λ z. from_broker (frames_of (message_change st k z))) e ∙ ap from_broker (frames-are k o) in
        hub-heeds l h b (after_taking b o) (from_broker (outs_of o))
        (record { kernel = ap (λ z. z.kernel) supervised; before = e; after = ap (λ z. z.broker) supervised; outputs = ap (λ z. l.hub.outputs ++ z) sent })
        (λ t r q. message-agrees l x resting locks heeding b e u (subst (In (upward_frame u)) (sym arrived) Here) o refl (with_hub h l) y (ap (λ z. z.broker) supervised) t r q) heeding

    routed-heeds : (o : Option RouteFault) → tab_refusal k s ≡ o → Heeding (after_first l.hub (upward_frame u ∷ fs))
    routed-heeds None e =
        subst Heeding (sym (ap (λ z. with_verdict z.verdict s (stepped z (record l.hub { arrived = fs }))) (upward-routed s u l.hub.supervised e))) (taken-heeds l.hub.supervised.broker refl)
    routed-heeds (Some f) e =
        subst Heeding (sym (ap (λ z. with_verdict z.verdict s (stepped z (record l.hub { arrived = fs }))) (refused-routed s u l.hub.supervised f e)))
        (plain-heeds (let r = routed_step (Tabs []) l.hub.supervised in with_verdict r.verdict s (stepped r (record l.hub { arrived = fs }))) [] refl refl (λ t g f i. absurd (In-nil i)))

    message-heeds : Heeding (after_first l.hub (upward_frame u ∷ fs))
    message-heeds = routed-heeds (tab_refusal k s) refl

  first-heeds : (fs : List Frame) → l.hub.arrived ≡ fs → Heeding (after_first l.hub fs)
  first-heeds [] arrived = λ _. heeding
  first-heeds (frame.Command c ∷ fs) arrived = message-heeds (up.Command c) fs arrived
  first-heeds (frame.Report r ∷ fs) arrived = message-heeds (up.Report r) fs arrived
  first-heeds (frame.ReportPart r ∷ fs) arrived = message-heeds (up.ReportPart r) fs arrived
  first-heeds (frame.Post p ∷ fs) arrived =
      let heard = map (λ n. (n, heard_of s p)) (hearers s k) in
      by_test (λ z. Heeding (let r = cond z (routed_step (Tabs []) l.hub.supervised) (routed_step (Tabs heard) l.hub.supervised) in with_verdict r.verdict s (stepped r (record l.hub { arrived = fs })))) (is_some (tab_refusal k s))
      (λ _. plain-heeds (let r = routed_step (Tabs []) l.hub.supervised in with_verdict r.verdict s (stepped r (record l.hub { arrived = fs }))) [] refl refl (λ t g f i. absurd (In-nil i)))
      (λ _. plain-heeds (let r = routed_step (Tabs heard) l.hub.supervised in with_verdict r.verdict s (stepped r (record l.hub { arrived = fs }))) heard refl refl (λ t g f i. posted-plain t s g p (hearers s k) f i))
  first-heeds (f ∷ fs) arrived = plain-heeds (after_first l.hub (f ∷ fs)) [] refl refl (λ t g f i. absurd (In-nil i))

  -- A greeting, or a frame
  greeting-heeds : (n : ℕ) (ts : List ℕ) → Heeding (after_greeting l.hub (greeted_next n ts))
  greeting-heeds zero ts = first-heeds l.hub.arrived refl
  greeting-heeds (suc n) [] = subst (λ z. Heeding (after_greeting l.hub (cond z None None))) (sym (ne_eqb (suc n) 0 (λ e. omega (arith, e)))) (first-heeds l.hub.arrived refl)
  greeting-heeds (suc n) (u ∷ us) =
      let sent : List (ℕ × Frame) = (u, hello l.hub.supervised.kernel.generation) ∷ [] in
      subst (λ z. Heeding (after_greeting l.hub (cond z None (Some u)))) (sym (ne_eqb (suc n) 0 (λ e. omega (arith, e))))
      (either Heeding (is_active_for u l.hub.supervised) (greeted u l.hub) (postponing l.hub)
      (λ _. plain-heeds (greeted u l.hub) sent refl refl (λ t g f i. ap (is_answer_in g) (hello-only t u l.hub.supervised.kernel.generation f i)))
      (λ _. plain-heeds (postponing l.hub) [] refl (sym (append-nil l.hub.outputs)) (λ t g f i. absurd (In-nil i))))

  -- The death of a tab
  module _ (b : BrokerState) (u : ℕ) (us : List ℕ) (has : l.hub.supervised.broker ≡ Some b) where
    abbrev told_hub : HubState
    told_hub = after_told l.hub (u ∷ us)

    happens : (z : Bool) → is_dead_tab k u ≡ z → death_change u k l.hub.supervised.broker ≡ record { happens = z; kernel = l.hub.supervised.kernel; broker = Some (death_step b u).0; frames = (death_step b u).1 }
    happens z e = ap (death_change u k) has ∙ ap (λ d. record { happens = d; kernel = l.hub.supervised.kernel; broker = Some (death_step b u).0; frames = (death_step b u).1 }) e

    by_death : (z : Bool) → is_dead_tab k u ≡ z → Heeding told_hub
    by_death true e y =
        let c = (death_step b u).0 in
        let outs = (death_step b u).1 in
        let is : told_hub.supervised ≡ record { kernel = k; broker = Some c } = ap (λ d. changed d l.hub.supervised) (happens true e) in
        let gone : (t : ℕ) → runs l t ≡ true → t ≢ u = λ t r f. apart (subst (λ z. is_living k z ≡ true) f (and_parts (lives l t) (not (is_taken l t)) r).0) (not-true _ (and_parts (is_opened k u) (not (is_living k u)) e).1) in
        hub-heeds l told_hub b c (from_broker outs)
        (record { kernel = ap (λ z. z.kernel) is; before = has; after = ap (λ z. z.broker) is; outputs = ap (λ d. l.hub.outputs ++ from_broker (frames_of d)) (happens true e) })
        (λ t r q. buried-agrees l x resting locks heeding b has u t (gone t r) c outs (burial-Buries b u) (with_hub told_hub l) y (ap (λ z. z.broker) is) q) heeding
    by_death false e y =
        plain-heeds told_hub [] (ap (λ d. changed d l.hub.supervised) (happens false e)) (ap (λ d. l.hub.outputs ++ from_broker (frames_of d)) (happens false e)) (λ t g f i. absurd (In-nil i)) y

    death-heeds : Heeding (after_told l.hub (u ∷ us))
    death-heeds = by_death (is_dead_tab k u) refl

  told-heeds : (b : BrokerState) (us : List ℕ) → l.hub.supervised.broker ≡ Some b → Heeding (after_told l.hub us)
  told-heeds b [] has = greeting-heeds l.hub.greetings l.hub.early
  told-heeds b (u ∷ us) has = death-heeds b u us has

  pub hub_advance-heeds : IsReached (step HubAdvances l) → IsHeeding (step HubAdvances l)
  unfolding step
  hub_advance-heeds = go l.hub.supervised.broker refl
    where
      go : (o : Option BrokerState) → l.hub.supervised.broker ≡ o → Heeding (advanced l.hub)
      go None e = subst (λ z. Heeding (cond (is_some z) (after_told l.hub l.hub.untold) (after_first l.hub l.hub.arrived))) (sym e) (first-heeds l.hub.arrived refl)
      go (Some b) e = subst (λ z. Heeding (cond (is_some z) (after_told l.hub l.hub.untold) (after_first l.hub l.hub.arrived))) (sym e) (told-heeds b l.hub.untold e)
