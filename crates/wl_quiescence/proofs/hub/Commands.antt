-- The hub handles a command, whole.
use Rattle.std.proofs.Common.{◌≡◌, ◌≢◌, inl, inr, ⊎_elim, ℕ, true, false, cond, List, [], ◌∷◌, ◌++◌, map, Some, None, is_some, refl, sym, ap, ◌∙◌, subst, arith}
use Rattle.std.specs.Prelude.{◌==◌, nat_lt}
use Rattle.std.specs.List.{range_with_len}
use Rattle.std.proofs.lemmas.Bool.{cases_eq, eq-eqb, ne_eqb, eqb-true}
use Rattle.wl_limits.specs.declared.frames.TheConstants.{SNAPSHOT_PART_LIMIT}
use Rattle.wl_draft.proofs.Membership.{either, In-nil, In-one, In-map_cases, In-append_cases}
use Rattle.wl_grammar.specs.declared.frame.Addressed.{Addressed}
use Rattle.wl_grammar.specs.declared.frame.Command.{Command}
use Rattle.wl_grammar.specs.declared.frame.Operation.{Operation}
use Rattle.wl_grammar.specs.declared.frame.Operation.TheVariants.{Request, Release, Abort, Query}
use Rattle.wl_grammar.specs.declared.frame.Outcome.TheVariants.{Gone}
use Rattle.wl_grammar.specs.declared.frame.Stamped.{Stamped}
use Rattle.wl_grammar.specs.declared.frame.Upward.TheVariants as up
use Rattle.wl_grammar.specs.declared.frame.Frame.{Frame}
use Rattle.wl_grammar.specs.declared.frame.Frame.TheVariants as frame
use Rattle.wl_grammar.specs.PartCount.{part_count}
use Rattle.wl_broker_reports.specs.ReportParts.{Told}
use Rattle.wl_broker.specs.Broker.{BrokerState, Taking, Drops, Does, seat_of, is_joined, manager_of, next_of, answer_of, part_of, snapshot_entries, first_answer, taking}
use Rattle.wl_broker.specs.BrokerLaws.{IsListedOnce}
use Rattle.wl_broker.proofs.Takings.{Takes, joins, keeps, repeats, performs, taking-Takes, after_command}
use Rattle.wl_kernel.specs.Kernel.{KernelState, is_living, partition_number}
use Rattle.wl_kernel.specs.Kernel.{tab_of as opened_tab}
use Rattle.wl_kernel.specs.Routes.{frame_of, tab_refusal, stamped}
use Rattle.wl_kernel.specs.declared.routes.Routed.TheVariants.{Broker, Tabs}
use Rattle.wl_supervised_broker.specs.Changes.{taking_change, message_change}
use Rattle.wl_supervised_broker.specs.SupervisedStates.{SupervisedState, is_active_for, changed, frames_of, after_message}
use Rattle.wl_supervised_broker.specs.Supervising.{message_effect}
use Rattle.wl_hub.specs.Early.{verdict_of, noted}
use Rattle.wl_hub.specs.Hub.{HubState, from_broker, routed_step, stepped, with_verdict, after_first}
use Rattle.wl_world_model.proofs.exclusion.CoverExcludes.{living_opened}
use Rattle.wl_library_model.specs.Library.{Library, runs, with_hub}
use Rattle.wl_library_model.proofs.ProgressHub.{unrefused}
use Rattle.wl_quiescence.proofs.rest.Invariant.{View, outputs_to, arrived_of, view, hub_view, is_answer_in, Serves, Keeping, IsResting}
use Rattle.wl_quiescence.proofs.rest.Broker.{after_taking}
use Rattle.wl_quiescence.proofs.hub.Moves.{grown, Spares, spared-serves}
use Rattle.wl_quiescence.proofs.hub.Others.{AreOf, grants-of, sent-of, settled-generation, takes-moved, moved-spares}
use Rattle.wl_quiescence.proofs.hub.Performed.{KnowsTab}
use Rattle.wl_quiescence.proofs.hub.Sender.{outs_of, IsSaidBy, command-serves}
use Rattle.wl_quiescence.proofs.hub.Steps.{hub-rests, spares-same}
use Rattle.wl_quiescence.proofs.hub.Taken.{takes-keeping, command-active, command-verdict, NotedWell, verdict-noted}

-- Answers are of the broker's generation

one-of : (g t n : ℕ) (x : Addressed) → ((m : ℕ) → is_answer_in m (frame_of x.inner) ≡ true → m ≡ g) → AreOf g (x ∷ [])
one-of g t n x f o m i y = f m (sym (ap (λ (z : Addressed). is_answer_in m (frame_of z.inner)) (In-one i)) ∙ y)

first-of : (c : BrokerState) (t p n : ℕ) (o : Operation) → AreOf c.generation (first_answer c t p n o)
first-of c t p n (Request mode if_available name) = one-of c.generation t n _ (λ m y. sym (eqb-true c.generation m y))
first-of c t p n (Release j) = one-of c.generation t n _ (λ m y. sym (eqb-true c.generation m y))
first-of c t p n (Abort j) = one-of c.generation t n _ (λ m y. sym (eqb-true c.generation m y))
first-of c t p n Query =
    let es = snapshot_entries (manager_of c p) in
    either (AreOf c.generation) (nat_lt SNAPSHOT_PART_LIMIT (part_count es)) (answer_of c.generation (next_of c t) t n Gone ∷ []) (map (part_of c.generation t n es) (range_with_len 0 (part_count es)))
    (λ _. one-of c.generation t n (answer_of c.generation (next_of c t) t n Gone) (λ m y. sym (eqb-true c.generation m y)))
    (λ _ o m i y.
    let r = In-map_cases (part_of c.generation t n es) (range_with_len 0 (part_count es)) i in
    sym (eqb-true c.generation m (sym (ap (λ (z : Addressed). is_answer_in m (frame_of z.inner)) r.2) ∙ y)))

pub command-of : (b : BrokerState) (s p : ℕ) {x : Command} {c : BrokerState} {outs : List Addressed} → Takes b s p (up.Command x) c outs → AreOf b.generation outs
command-of b s p (joins told passes may whole) = absurd (none-some told)
  where
    none-some : {x : Told} → None ≡ Some x → ⊥
    none-some e = cc
command-of b s p (keeps told passes may part) = absurd (none-some told)
  where
    none-some : {x : Told} → None ≡ Some x → ⊥
    none-some e = cc
command-of b s p (repeats {c = x} passes served old) = one-of b.generation s x.number _ (λ m y. sym (eqb-true b.generation m y))
command-of b s p (performs {c = x} passes served next) =
    let c = after_command b s p x.number x.operation in
    let same : c.generation ≡ b.generation = settled-generation _ p _ in
    (λ o m i y.
    ⊎_elim (λ j. first-of c s p x.number x.operation o m j y ∙ same) (λ j. grants-of c _ o m j y ∙ same)
    (In-append_cases (first_answer c s p x.number x.operation) _ i))

-- The supervisor

pub change-of : (s : SupervisedState) (b : BrokerState) (o : Taking) → s.broker ≡ Some b → changed (taking_change s.kernel o) s ≡ record { kernel = s.kernel; broker = Some (after_taking b o) }
change-of s b (Drops r) e = ap (λ z. record { kernel = s.kernel; broker = z }) e
change-of s b (Does c outs) e = refl

pub frames-are : (k : KernelState) (o : Taking) → frames_of (taking_change k o) ≡ outs_of o
frames-are k (Drops r) = refl
frames-are k (Does c outs) = refl

-- The step

-- Beside the invariant it takes: the tab that sent the command lives; each tab is listed once; and what is known of the tab, if it is honest.
module _ (l : Library) (b : BrokerState) (x : Command) (fs : List Frame) (has : l.hub.supervised.broker ≡ Some b) (arrived : l.hub.arrived ≡ frame.Command x ∷ fs)
    (living : is_living l.hub.supervised.kernel l.hub.sender ≡ true) (current : b.generation ≡ l.hub.supervised.kernel.generation) (once : IsListedOnce b) (resting : IsResting l) where
  abbrev k : KernelState
  k = l.hub.supervised.kernel

  abbrev s : ℕ
  s = l.hub.sender

  abbrev pub sent_command : Stamped
  sent_command = record { tab = l.hub.sender; partition = partition_number l.hub.supervised.kernel l.hub.sender; inner = up.Command x }

  abbrev o : Taking
  o = taking b sent_command

  abbrev old : SupervisedState
  old = l.hub.supervised

  abbrev early_now : List ℕ × ℕ
  early_now = noted (verdict_of (is_active_for s (after_message sent_command old)) (message_effect sent_command old.broker)) s l.hub.early l.hub.greetings

  abbrev h : HubState
  h = let r = routed_step (Broker (stamped k s (up.Command x))) old in with_verdict r.verdict s (stepped r (record l.hub { arrived = fs }))

  keeping : Keeping (hub_view l.hub) b
  keeping = resting.keeping b has

  notes : NotedWell o k b s l.hub.early early_now
  notes =
      let act = is_active_for s (after_message sent_command old) in
      subst (NotedWell o k b s l.hub.early) (sym (ap (λ z. noted (verdict_of act (message_effect sent_command z)) s l.hub.early l.hub.greetings) has))
      (verdict-noted k b s x _ l.hub.early l.hub.greetings (command-verdict act s (partition_number k s) x o) keeping.early)

  supervised : h.supervised ≡ record { kernel = k; broker = Some (after_taking b o) }
  supervised = ap (λ z. changed (message_change sent_command k z) old) has ∙ change-of old b o has

  sent : from_broker (frames_of (message_change sent_command k old.broker)) ≡ from_broker (outs_of o)
  sent = ap (λ z. from_broker (frames_of (message_change sent_command k z))) has ∙ ap from_broker (frames-are k o)

  of-now : (q : Taking) → o ≡ q → AreOf b.generation (outs_of q)
  of-now (Drops r) e = λ a n i y. absurd (In-nil i)
  of-now (Does c outs) e = command-of b s (partition_number k s) (taking-Takes b sent_command c outs e)

  keeping-now : (q : Taking) → o ≡ q
      → Keeping (record { supervised = record { kernel = k; broker = Some (after_taking b q) }; untold = l.hub.untold; early = early_now.0; greetings = early_now.1 }) (after_taking b q)
  keeping-now (Drops r) e =
      record { early = notes.due; listed = keeping.listed; joined = keeping.joined; settled = keeping.settled; rows = keeping.rows }
  keeping-now (Does c outs) e =
      let takes = taking-Takes b sent_command c outs e in
      takes-keeping (hub_view l.hub) b c s early_now.0 early_now.1 takes living once
      (λ front back t f lv. ⊎_elim (λ y. inl y) (λ y. inr (command-active b s (partition_number k s) (partition_number k t) takes ∙ y)) (notes.due front back t f lv)) keeping

  spares-now : (v : View) (t : ℕ) → t ≢ s → (q : Taking) → o ≡ q → Spares v (outputs_to t (from_broker (outs_of q))) t b (after_taking b q)
  spares-now v t d (Drops r) e = spares-same v [] t b (λ f g i. absurd (In-nil i))
  spares-now v t d (Does c outs) e = moved-spares v t b s (partition_number k s) c outs d keeping.rows (takes-moved b s (partition_number k s) (taking-Takes b sent_command c outs e))

  serves-now : (runs l s ≡ true → (is_joined (seat_of b s) ≡ true → KnowsTab (view l s) s b) × IsSaidBy (view l s) s b x) → (t : ℕ) → runs l t ≡ true → Serves (view l t) t b
      → Serves (grown (view l t) (arrived_of h t ++ (l.lines t).up) (outputs_to t (from_broker (outs_of o))) early_now.0) t (after_taking b o)
  serves-now knows t r v =
      ⊎_elim
      (λ e. subst (λ z. runs l z ≡ true → Serves (view l z) z b → Serves (grown (view l z) (arrived_of h z ++ (l.lines z).up) (outputs_to z (from_broker (outs_of o))) early_now.0) z (after_taking b o)) (sym e)
      (λ y w.
      let n = knows y in
      let first : (view l s).up ≡ frame.Command x ∷ (fs ++ (l.lines s).up) = ap (λ z. cond z l.hub.arrived [] ++ (l.lines s).up) (eq-eqb s s refl) ∙ ap (λ z. z ++ (l.lines s).up) arrived in
      subst (λ z. Serves (grown (view l s) (z ++ (l.lines s).up) (outputs_to s (from_broker (outs_of o))) early_now.0) s (after_taking b o)) (sym (ap (λ z. cond z fs []) (eq-eqb s s refl)))
      (command-serves (view l s) (fs ++ (l.lines s).up) early_now.0 s b x first n.0 n.1 (notes.stays s) w notes.notes))
      r v)
      (λ d.
      let not-sent : (s == t) ≡ false = ne_eqb s t (λ e. d (sym e)) in
      subst (λ z. Serves (grown (view l t) (z ++ (l.lines t).up) (outputs_to t (from_broker (outs_of o))) early_now.0) t (after_taking b o))
      (ap (λ z. cond z l.hub.arrived []) not-sent ∙ sym (ap (λ z. cond z fs []) not-sent))
      (spared-serves (view l t) (outputs_to t (from_broker (outs_of o))) early_now.0 t b (after_taking b o) (notes.stays t) (spares-now (view l t) t d o refl) v))
      (cases_eq t s)

  -- The hub handles the command.
  pub command-rests : (runs l s ≡ true → (is_joined (seat_of b s) ≡ true → KnowsTab (view l s) s b) × IsSaidBy (view l s) s b x) → IsResting (with_hub (after_first l.hub (frame.Command x ∷ fs)) l)
  command-rests knows =
      let c = after_taking b o in
      let refusal : tab_refusal k s ≡ None = unrefused k s (living_opened (opened_tab k s) living) living in
      let same : after_first l.hub (frame.Command x ∷ fs) ≡ h =
      ap (λ z. let r = cond (is_some z) (routed_step (Tabs []) old) (routed_step (Broker (stamped k s (up.Command x))) old) in with_verdict r.verdict s (stepped r (record l.hub { arrived = fs }))) refusal in
      subst (λ z. IsResting (with_hub z l)) (sym same)
      (hub-rests l h b c (from_broker (outs_of o))
      (record { kernel = ap (λ z. z.kernel) supervised; before = has; after = ap (λ z. z.broker) supervised; outputs = ap (λ z. l.hub.outputs ++ z) sent })
      (λ t g f i y. let e = sent-of b.generation (outs_of o) (of-now o refl) t g f i y in omega (arith, e, current))
      (subst (λ z. Keeping (record { supervised = z; untold = l.hub.untold; early = early_now.0; greetings = early_now.1 }) c) (sym supervised) (keeping-now o refl))
      (serves-now knows) resting)
