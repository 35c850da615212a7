-- The step `HubAdvances`, from its cases.
use Rattle.std.proofs.Common.{◌≡◌, ℕ, zero, suc, true, cond, List, [], ◌∷◌, ◌++◌, map, Option, Some, None, is_some, refl, sym, ap, ◌∙◌, subst, arith}
use Rattle.std.proofs.lemmas.Bool.{ne_eqb}
use Rattle.wl_draft.proofs.Membership.{either, In-nil}
use Rattle.wl_grammar.specs.declared.frame.Command.{Command}
use Rattle.wl_grammar.specs.declared.frame.Stamped.{Stamped}
use Rattle.wl_grammar.specs.declared.frame.Upward.{Upward}
use Rattle.wl_grammar.specs.declared.frame.Upward.TheVariants as up
use Rattle.wl_grammar.specs.declared.frame.Frame.{Frame}
use Rattle.wl_grammar.specs.declared.frame.Frame.TheVariants as frame
use Rattle.wl_broker_reports.specs.ReportParts.{Told, content_of, at_once, in_part}
use Rattle.wl_broker.specs.Broker.{BrokerState, seat_of, is_joined, taking}
use Rattle.wl_broker.specs.BrokerLaws.{IsListedOnce}
use Rattle.wl_agent.specs.Tab.{upward_frame}
use Rattle.wl_kernel.specs.Kernel.{is_living, partition_number}
use Rattle.wl_kernel.specs.Kernel.{tab_of as opened_tab}
use Rattle.wl_kernel.specs.Routes.{tab_refusal, stamped, heard_of, hearers}
use Rattle.wl_kernel.specs.declared.routes.Routed.TheVariants.{Broker, Tabs}
use Rattle.wl_supervised_broker.specs.Changes.{message_change}
use Rattle.wl_supervised_broker.specs.SupervisedStates.{is_active_for, changed, frames_of, after_message}
use Rattle.wl_supervised_broker.specs.Supervising.{message_effect}
use Rattle.wl_hub.specs.Early.{greeted_next, noted, verdict_of}
use Rattle.wl_hub.specs.Hub.{HubState, from_broker, routed_step, stepped, with_verdict, greeted, postponing, advanced, after_first, after_greeting, after_told}
use Rattle.wl_world_model.proofs.exclusion.CoverExcludes.{living_opened}
use Rattle.wl_library_model.specs.Library.{Library, HubAdvances, runs, with_hub, step}
use Rattle.wl_library_model.proofs.ProgressHub.{unrefused, upward-routed}
use Rattle.wl_quiescence.proofs.rest.Invariant.{view, outputs_to, Serves, IsResting}
use Rattle.wl_quiescence.proofs.rest.Broker.{after_taking}
use Rattle.wl_quiescence.proofs.hub.Performed.{KnowsTab}
use Rattle.wl_quiescence.proofs.hub.Moves.{grown}
use Rattle.wl_quiescence.proofs.hub.Sender.{IsSaidBy, outs_of}
use Rattle.wl_quiescence.proofs.hub.Steps.{greeted-rests}
use Rattle.wl_quiescence.proofs.hub.Postponed.{postponed-rests}
use Rattle.wl_quiescence.proofs.hub.Deaths.{IsUntold, told-rests}
use Rattle.wl_quiescence.proofs.hub.Commands.{command-rests}
use Rattle.wl_quiescence.proofs.hub.Reporting.{report-rests, part-rests}
use Rattle.wl_quiescence.proofs.hub.Plain.{plain-rests, posted-plain}

-- What is said of the sender of a report or a part of one, after the hub has handled it.
abbrev pub ServesSender : Library → BrokerState → Upward → List Frame → Type 0
ServesSender l b u fs =
    let k = l.hub.supervised.kernel in
    let s = l.hub.sender in
    let m : Stamped = record { tab = s; partition = partition_number k s; inner = u } in
    let early = (noted (verdict_of (is_active_for s (after_message m l.hub.supervised)) (message_effect m l.hub.supervised.broker)) s l.hub.early l.hub.greetings).0 in
    Serves (grown (view l s) (fs ++ (l.lines s).up) (outputs_to s (from_broker (outs_of (taking b m)))) early) s (after_taking b (taking b m))

-- What the step takes beside the invariant.
pub record MayAdvance (l : Library) : Type 0 where
  pub current : (b : BrokerState) → l.hub.supervised.broker ≡ Some b → b.generation ≡ l.hub.supervised.kernel.generation
  pub once : (b : BrokerState) → l.hub.supervised.broker ≡ Some b → IsListedOnce b
  pub living : (f : Frame) (fs : List Frame) → l.hub.arrived ≡ f ∷ fs → is_living l.hub.supervised.kernel l.hub.sender ≡ true
  pub untold : (b : BrokerState) (u : ℕ) (us : List ℕ) → l.hub.supervised.broker ≡ Some b → l.hub.untold ≡ u ∷ us → IsUntold l b u
  pub knows :
      (b : BrokerState) (x : Command) (fs : List Frame) → l.hub.supervised.broker ≡ Some b → l.hub.arrived ≡ frame.Command x ∷ fs → runs l l.hub.sender ≡ true →
      (is_joined (seat_of b l.hub.sender) ≡ true → KnowsTab (view l l.hub.sender) l.hub.sender b) × IsSaidBy (view l l.hub.sender) l.hub.sender b x
  pub told :
      (b : BrokerState) (u : Upward) (y : Told) (fs : List Frame) → l.hub.supervised.broker ≡ Some b → content_of u ≡ Some y → l.hub.arrived ≡ upward_frame u ∷ fs → runs l l.hub.sender ≡ true →
      ServesSender l b u fs

none-some : (b : BrokerState) → None ≡ Some b → ⊥
none-some b e = cc

module _ (l : Library) (may : MayAdvance l) (resting : IsResting l) where
  -- A message for a broker that is down.
  silent-rests : (u : Upward) (f : Frame) (fs : List Frame) → f ≡ upward_frame u → l.hub.supervised.broker ≡ None → l.hub.arrived ≡ f ∷ fs → IsResting (with_hub (after_first l.hub (f ∷ fs)) l)
  silent-rests u f fs e down arrived =
      let k = l.hub.supervised.kernel in
      let s = l.hub.sender in
      let lv = may.living f fs arrived in
      let st : Stamped = record { tab = s; partition = partition_number k s; inner = u } in
      let r = routed_step (Broker (stamped k s u)) l.hub.supervised in
      let h : HubState = with_verdict r.verdict s (stepped r (record l.hub { arrived = fs })) in
      let route = upward-routed s u l.hub.supervised (unrefused k s (living_opened (opened_tab k s) lv) lv) in
      let same : after_first l.hub (f ∷ fs) ≡ h =
      ap (λ z. after_first l.hub (z ∷ fs)) e ∙ ap (λ z. with_verdict z.verdict s (stepped z (record l.hub { arrived = fs }))) route in
      let act = is_active_for s (after_message st l.hub.supervised) in
      let notes : noted (verdict_of act (message_effect st l.hub.supervised.broker)) s l.hub.early l.hub.greetings ≡ (l.hub.early, l.hub.greetings) =
      ap (λ z. noted (verdict_of act (message_effect st z)) s l.hub.early l.hub.greetings) down in
      subst (λ z. IsResting (with_hub z l)) (sym same)
      (plain-rests l h f fs [] arrived (record {
        supervised = ap (λ z. changed (message_change st k z) l.hub.supervised) down;
        outputs = ap (λ z. l.hub.outputs ++ from_broker (frames_of (message_change st k z))) down;
        plain = λ t g y i. absurd (In-nil i);
        sender = refl;
        arrived = refl;
        untold = refl;
        early = ap (λ z. z.0) notes;
        greetings = ap (λ z. z.1) notes;
      }) (λ b has _. absurd (none-some b (sym down ∙ has))) resting)

  -- The hub handles a frame.
  first-rests : (o : Option BrokerState) (fs : List Frame) → l.hub.supervised.broker ≡ o → l.hub.arrived ≡ fs → IsResting (with_hub (after_first l.hub fs) l)
  first-rests o [] down arrived = resting
  first-rests None (frame.Command x ∷ fs) down arrived = silent-rests (up.Command x) (frame.Command x) fs refl down arrived
  first-rests (Some b) (frame.Command x ∷ fs) has arrived =
      command-rests l b x fs has arrived (may.living (frame.Command x) fs arrived) (may.current b has) (may.once b has) resting (may.knows b x fs has arrived)
  first-rests None (frame.Report r ∷ fs) down arrived = silent-rests (up.Report r) (frame.Report r) fs refl down arrived
  first-rests (Some b) (frame.Report r ∷ fs) has arrived =
      report-rests l b r fs has arrived (may.living (frame.Report r) fs arrived) (may.current b has) (may.once b has) resting (may.told b (up.Report r) (at_once r) fs has refl arrived)
  first-rests None (frame.ReportPart r ∷ fs) down arrived = silent-rests (up.ReportPart r) (frame.ReportPart r) fs refl down arrived
  first-rests (Some b) (frame.ReportPart r ∷ fs) has arrived =
      part-rests l b r fs has arrived (may.living (frame.ReportPart r) fs arrived) (may.current b has) (may.once b has) resting (may.told b (up.ReportPart r) (in_part r) fs has refl arrived)
  first-rests o (frame.Post p ∷ fs) is arrived =
      let k = l.hub.supervised.kernel in
      let s = l.hub.sender in
      let lv = may.living (frame.Post p) fs arrived in
      let heard = map (λ n. (n, heard_of s p)) (hearers s k) in
      let refusal : tab_refusal k s ≡ None = unrefused k s (living_opened (opened_tab k s) lv) lv in
      let r = routed_step (Tabs heard) l.hub.supervised in
      let h : HubState = with_verdict r.verdict s (stepped r (record l.hub { arrived = fs })) in
      let same : after_first l.hub (frame.Post p ∷ fs) ≡ h =
      ap (λ z. let r = cond (is_some z) (routed_step (Tabs []) l.hub.supervised) (routed_step (Tabs heard) l.hub.supervised) in with_verdict r.verdict s (stepped r (record l.hub { arrived = fs }))) refusal in
      subst (λ z. IsResting (with_hub z l)) (sym same)
      (plain-rests l h (frame.Post p) fs heard arrived (record {
        supervised = refl;
        outputs = refl;
        plain = λ t g y i. posted-plain t s g p (hearers s k) y i;
        sender = refl;
        arrived = refl;
        untold = refl;
        early = refl;
        greetings = refl;
      }) (λ b has _. refl) resting)
  first-rests o (f ∷ fs) is arrived =
      plain-rests l (after_first l.hub (f ∷ fs)) f fs [] arrived (record {
        supervised = refl;
        outputs = refl;
        plain = λ t g y i. absurd (In-nil i);
        sender = refl;
        arrived = refl;
        untold = refl;
        early = refl;
        greetings = refl;
      }) (λ b has _. refl) resting

  -- A greeting, or a frame.
  greeting-rests : (b : BrokerState) (n : ℕ) (ts : List ℕ) → l.hub.supervised.broker ≡ Some b → l.hub.greetings ≡ n → l.hub.early ≡ ts → IsResting (with_hub (after_greeting l.hub (greeted_next n ts)) l)
  greeting-rests b zero ts has due early = first-rests (Some b) l.hub.arrived has refl
  greeting-rests b (suc n) [] has due early =
      subst (λ z. IsResting (with_hub (after_greeting l.hub (cond z None None)) l)) (sym (ne_eqb (suc n) 0 (λ e. omega (arith, e)))) (first-rests (Some b) l.hub.arrived has refl)
  greeting-rests b (suc n) (u ∷ us) has due early =
      subst (λ z. IsResting (with_hub (after_greeting l.hub (cond z None (Some u))) l)) (sym (ne_eqb (suc n) 0 (λ e. omega (arith, e))))
      (either (λ z. IsResting (with_hub z l)) (is_active_for u l.hub.supervised) (greeted u l.hub) (postponing l.hub)
      (λ _. greeted-rests l b u us n has (may.current b has) early due resting)
      (λ w. postponed-rests l b u us n has early due w resting))

  told-or : (b : BrokerState) (us : List ℕ) → l.hub.supervised.broker ≡ Some b → l.hub.untold ≡ us → IsResting (with_hub (after_told l.hub us) l)
  told-or b [] has untold = greeting-rests b l.hub.greetings l.hub.early has refl refl
  told-or b (u ∷ us) has untold = told-rests l b u us has untold (may.untold b u us has untold) resting

  pub advance-rests : IsResting (step HubAdvances l)
  unfolding step
  advance-rests = go l.hub.supervised.broker refl
    where
      go : (o : Option BrokerState) → l.hub.supervised.broker ≡ o → IsResting (with_hub (advanced l.hub) l)
      go None e = subst (λ z. IsResting (with_hub (cond (is_some z) (after_told l.hub l.hub.untold) (after_first l.hub l.hub.arrived)) l)) (sym e) (first-rests None l.hub.arrived e refl)
      go (Some b) e = subst (λ z. IsResting (with_hub (cond (is_some z) (after_told l.hub l.hub.untold) (after_first l.hub l.hub.arrived)) l)) (sym e) (told-or b l.hub.untold e refl)
