-- The hub handles a report or a part of one: what is said of other tabs and of the hub. The tab's own part is a premise.
use Rattle.std.proofs.Common.{◌≡◌, ◌≢◌, inl, inr, ⊎_elim, ℕ, true, false, cond, List, [], ◌∷◌, ◌++◌, length, Some, refl, sym, ap, ◌∙◌, subst, arith, length-append}
use Rattle.std.specs.Prelude.{◌==◌}
use Rattle.std.proofs.lemmas.Bool.{cases_eq, eq-eqb, ne_eqb}
use Rattle.wl_draft.specs.Membership.{In}
use Rattle.wl_draft.proofs.Membership.{In-nil}
use Rattle.wl_grammar.specs.declared.frame.Addressed.{Addressed}
use Rattle.wl_grammar.specs.declared.frame.Stamped.{Stamped}
use Rattle.wl_grammar.specs.declared.frame.Frame.{Frame}
use Rattle.wl_broker.specs.Broker.{BrokerState, Taking, Drops, Does, is_active, taking}
use Rattle.wl_broker.specs.BrokerLaws.{IsListedOnce}
use Rattle.wl_broker.proofs.Takings.{Takes, taking-Takes}
use Rattle.wl_kernel.specs.Kernel.{KernelState, is_living, partition_number}
use Rattle.wl_kernel.specs.Kernel.{tab_of as opened_tab}
use Rattle.wl_kernel.specs.Routes.{stamped}
use Rattle.wl_kernel.specs.declared.routes.Routed.TheVariants.{Broker}
use Rattle.wl_supervised_broker.specs.Changes.{message_change}
use Rattle.wl_supervised_broker.specs.SupervisedStates.{SupervisedState, is_active_for, changed, frames_of, after_message}
use Rattle.wl_supervised_broker.specs.Supervising.{message_effect}
use Rattle.wl_hub.specs.Early.{verdict_of, noted}
use Rattle.wl_hub.specs.Hub.{HubState, from_broker, routed_step, stepped, with_verdict, after_first}
use Rattle.wl_world_model.proofs.exclusion.CoverExcludes.{living_opened}
use Rattle.wl_library_model.specs.Library.{Library, runs, with_hub}
use Rattle.wl_library_model.proofs.ProgressHub.{unrefused, upward-routed}
use Rattle.wl_quiescence.proofs.rest.Invariant.{View, outputs_to, arrived_of, view, hub_view, Serves, Keeping, IsResting}
use Rattle.wl_quiescence.proofs.rest.Broker.{after_taking}
use Rattle.wl_quiescence.proofs.hub.Moves.{grown, Spares, spared-serves}
use Rattle.wl_quiescence.proofs.hub.Others.{AreOf, sent-of, takes-moved, moved-spares}
use Rattle.wl_quiescence.proofs.hub.Sender.{outs_of}
use Rattle.wl_quiescence.proofs.hub.Steps.{hub-rests, spares-same}
use Rattle.wl_quiescence.proofs.hub.Taken.{takes-keeping, AreDue}
use Rattle.wl_quiescence.proofs.hub.Commands.{change-of, frames-are}
use Rattle.wl_grammar.specs.declared.frame.Upward.{Upward}
use Rattle.wl_agent.specs.Tab.{upward_frame}
use Rattle.wl_broker.proofs.Activity.{Takes-LeavesAlone}

-- The tabs in front stay due, or recover

pub due-all : (k : KernelState) (c : BrokerState) (ts : List ℕ) → AreDue k c (ts, length ts)
due-all k c ts front back t e lv = let n = ap length e ∙ length-append front (t ∷ back) in inl (omega (arith, n))

pub due-same : (k : KernelState) (b c : BrokerState) (ts : List ℕ) (n : ℕ) → ((q : ℕ) → is_active c q ≡ is_active b q) → AreDue k b (ts, n) → AreDue k c (ts, n)
due-same k b c ts n same due front back t e lv = ⊎_elim (λ y. inl y) (λ y. inr (same (partition_number k t) ∙ y)) (due front back t e lv)

-- A message that leaves its own partition recovering.
pub due-waiting : (k : KernelState) (b c : BrokerState) (s : ℕ) (ts : List ℕ) (n : ℕ) {u : Upward} {outs : List Addressed} → IsListedOnce b → Takes b s (partition_number k s) u c outs → is_active c (partition_number k s) ≡ false
    → AreDue k b (ts, n) → AreDue k c (ts, n)
due-waiting k b c s ts n once takes waits due front back t e lv =
    ⊎_elim
    (λ f. inr (subst (λ z. is_active c z ≡ false) (sym f) waits))
    (λ d. ⊎_elim (λ y. inl y) (λ y. inr ((Takes-LeavesAlone b s (partition_number k s) (partition_number k t) once takes d).active ∙ y)) (due front back t e lv))
    (cases_eq (partition_number k t) (partition_number k s))

-- The step

-- Beside the invariant it takes: the tab that sent the message lives; each tab is listed once; and what is said of the tab afterwards, if it is honest.
module _ (l : Library) (b : BrokerState) (u : Upward) (f : Frame) (fs : List Frame) (has : l.hub.supervised.broker ≡ Some b) (is : f ≡ upward_frame u) (arrived : l.hub.arrived ≡ f ∷ fs)
    (living : is_living l.hub.supervised.kernel l.hub.sender ≡ true) (current : b.generation ≡ l.hub.supervised.kernel.generation) (once : IsListedOnce b) (resting : IsResting l) where
  abbrev k : KernelState
  k = l.hub.supervised.kernel

  abbrev s : ℕ
  s = l.hub.sender

  abbrev pub sent_message : Stamped
  sent_message = record { tab = l.hub.sender; partition = partition_number l.hub.supervised.kernel l.hub.sender; inner = u }

  abbrev o : Taking
  o = taking b sent_message

  abbrev old : SupervisedState
  old = l.hub.supervised

  abbrev early_now : List ℕ × ℕ
  early_now = noted (verdict_of (is_active_for s (after_message sent_message old)) (message_effect sent_message old.broker)) s l.hub.early l.hub.greetings

  abbrev h : HubState
  h = let r = routed_step (Broker (stamped k s u)) old in with_verdict r.verdict s (stepped r (record l.hub { arrived = fs }))

  keeping : Keeping (hub_view l.hub) b
  keeping = resting.keeping b has

  supervised : h.supervised ≡ record { kernel = k; broker = Some (after_taking b o) }
  supervised = ap (λ z. changed (message_change sent_message k z) old) has ∙ change-of old b o has

  sent : from_broker (frames_of (message_change sent_message k old.broker)) ≡ from_broker (outs_of o)
  sent = ap (λ z. from_broker (frames_of (message_change sent_message k z))) has ∙ ap from_broker (frames-are k o)

  keeping-now : (q : Taking) → o ≡ q → AreDue k (after_taking b q) early_now
      → Keeping (record { supervised = record { kernel = k; broker = Some (after_taking b q) }; untold = l.hub.untold; early = early_now.0; greetings = early_now.1 }) (after_taking b q)
  keeping-now (Drops r) e due =
      record { early = due; listed = keeping.listed; joined = keeping.joined; settled = keeping.settled; rows = keeping.rows }
  keeping-now (Does c outs) e due =
      let takes = taking-Takes b sent_message c outs e in
      takes-keeping (hub_view l.hub) b c s early_now.0 early_now.1 takes living once
      due keeping

  spares-now : (v : View) (t : ℕ) → t ≢ s → (q : Taking) → o ≡ q → Spares v (outputs_to t (from_broker (outs_of q))) t b (after_taking b q)
  spares-now v t d (Drops r) e = spares-same v [] t b (λ f g i. absurd (In-nil i))
  spares-now v t d (Does c outs) e = moved-spares v t b s (partition_number k s) c outs d keeping.rows (takes-moved b s (partition_number k s) (taking-Takes b sent_message c outs e))

  -- What is said of the tab itself.
  abbrev pub SenderServes : Type 0
  SenderServes = Serves (grown (view l s) (fs ++ (l.lines s).up) (outputs_to s (from_broker (outs_of o))) early_now.0) s (after_taking b o)

  serves-now : (runs l s ≡ true → SenderServes) → ((t : ℕ) → In t l.hub.early → In t early_now.0) → (t : ℕ) → runs l t ≡ true → Serves (view l t) t b
      → Serves (grown (view l t) (arrived_of h t ++ (l.lines t).up) (outputs_to t (from_broker (outs_of o))) early_now.0) t (after_taking b o)
  serves-now own stays t r v =
      ⊎_elim
      (λ e. subst (λ z. runs l z ≡ true → Serves (grown (view l z) (arrived_of h z ++ (l.lines z).up) (outputs_to z (from_broker (outs_of o))) early_now.0) z (after_taking b o)) (sym e)
      (λ y.
      subst (λ z. Serves (grown (view l s) (z ++ (l.lines s).up) (outputs_to s (from_broker (outs_of o))) early_now.0) s (after_taking b o)) (sym (ap (λ z. cond z fs []) (eq-eqb s s refl))) (own y))
      r)
      (λ d.
      let not-sent : (s == t) ≡ false = ne_eqb s t (λ e. d (sym e)) in
      subst (λ z. Serves (grown (view l t) (z ++ (l.lines t).up) (outputs_to t (from_broker (outs_of o))) early_now.0) t (after_taking b o))
      (ap (λ z. cond z l.hub.arrived []) not-sent ∙ sym (ap (λ z. cond z fs []) not-sent))
      (spared-serves (view l t) (outputs_to t (from_broker (outs_of o))) early_now.0 t b (after_taking b o) (stays t) (spares-now (view l t) t d o refl) v))
      (cases_eq t s)

  -- The hub handles the message, if the tab itself is served afterwards.
  pub message-rests : AreDue k (after_taking b o) early_now → ((t : ℕ) → In t l.hub.early → In t early_now.0) → AreOf b.generation (outs_of o) → (runs l s ≡ true → SenderServes)
      → IsResting (with_hub (after_first l.hub (f ∷ fs)) l)
  message-rests due stays of own =
      let c = after_taking b o in
      let route = upward-routed s u old (unrefused k s (living_opened (opened_tab k s) living) living) in
      let same : after_first l.hub (f ∷ fs) ≡ h = ap (λ z. after_first l.hub (z ∷ fs)) is ∙ ap (λ z. with_verdict z.verdict s (stepped z (record l.hub { arrived = fs }))) route in
      subst (λ z. IsResting (with_hub z l)) (sym same)
      (hub-rests l h b c (from_broker (outs_of o))
      (record { kernel = ap (λ z. z.kernel) supervised; before = has; after = ap (λ z. z.broker) supervised; outputs = ap (λ z. l.hub.outputs ++ z) sent })
      (λ t g y i z. let e = sent-of b.generation (outs_of o) of t g y i z in omega (arith, e, current))
      (subst (λ z. Keeping (record { supervised = z; untold = l.hub.untold; early = early_now.0; greetings = early_now.1 }) c) (sym supervised) (keeping-now o refl due))
      (serves-now own stays) resting)
