-- The step of a client that handles a frame keeps it that what comes from the broker agrees with it.
use Rattle.std.proofs.Common.{◌≡◌, ⊎_elim, ℕ, Bool, true, false, cond, List, [], ◌∷◌, ◌++◌, Some, None, refl, sym, ap, ◌∙◌, subst, arith}
use Rattle.std.specs.Prelude.{◌==◌, nat_lt}
use Rattle.std.proofs.lemmas.Bool.{cases_Bool, ltb-true}
use Rattle.wl_draft.specs.Membership.{In, Later as Behind}
use Rattle.wl_draft.proofs.Membership.{apart, either}
use Rattle.wl_grammar.specs.declared.frame.Hello.{Hello}
use Rattle.wl_grammar.specs.declared.frame.Frame.{Frame}
use Rattle.wl_grammar.specs.declared.frame.Frame.TheVariants as frame
use Rattle.wl_grammar.specs.declared.frame.Operation.TheVariants.{Query}
use Rattle.wl_broker.specs.Broker.{BrokerState}
use Rattle.wl_agent.specs.SnapshotParts.{PartsState}
use Rattle.wl_agent.specs.declared.delivered.Delivered.{Delivered}
use Rattle.wl_agent.specs.declared.delivered.Delivered.TheVariants as heard
use Rattle.wl_agent.specs.declared.drop_reason.DropReason.TheVariants as dropped
use Rattle.wl_agent.specs.declared.status.Status.TheVariants.{Querying}
use Rattle.wl_agent.specs.Tab.{TabState, enter, report_frames, status_of, operation_of, is_querying}
use Rattle.wl_agent.specs.Delivery.{delivery}
use Rattle.wl_tab.specs.Tabs.{told}
use Rattle.wl_client.specs.declared.client.Unsent.TheVariants as unsent
use Rattle.wl_client.specs.Client.{ClientState, after_delivery, after_first, after_frame, is_hello_of, after_welcome, welcome_of}
use Rattle.wl_client.specs.Client.{advanced as client_advanced}
use Rattle.wl_world_model.specs.World.{WorldState}
use Rattle.wl_library_model.specs.Library.{Library, Line, client_of, runs}
use Rattle.wl_library_model.proofs.Blind.{hello-late}
use Rattle.wl_library_model.proofs.Carried.{Sim}
use Rattle.wl_quiescence.proofs.rest.Invariant.{view, view_with, outputs_to, IsResting}
use Rattle.wl_quiescence.proofs.client.Kept.{AllFit, Heeds}
use Rattle.wl_quiescence.proofs.client.Frames.{behind, client-none}
use Rattle.wl_quiescence.proofs.client.Others.{first-down, first-handled, wrong-frame, hello-low}
use Rattle.wl_quiescence.proofs.client.Queries.{AreQueries, AreUnheard, enter-unheard}
use Rattle.wl_quiescence.proofs.client.Heeding.{FitsBehind, same-behind, other-behind, answer-behind, part-behind}

-- The client's new line
abbrev pub line_with : Library → ℕ → ClientState → Line
line_with l t n = record (l.lines t) { client = n }

built-heeds : (l : Library) (t : ℕ) (b : BrokerState) (f : Frame) (fs : List Frame) (n : ClientState) → (client_of l t).arrived ≡ f ∷ fs → n.arrived ≡ fs → FitsBehind l t fs b n.locks
    → ((k : ℕ) → is_querying (status_of n.locks k) ≡ true → operation_of n.locks k ≡ Query) → Heeds (view l t) t b → Heeds (view_with l.hub (line_with l t n) t) t b
built-heeds l t b f fs n a came fit queries h =
    let down : (view_with l.hub (line_with l t n) t).down ≡ behind l t fs = ap (λ zs. zs ++ (l.lines t).down ++ outputs_to t l.hub.outputs) came in
    let old : (g : Frame) → In g (view_with l.hub (line_with l t n) t).down → In g (view l t).down = λ g i. subst (In g) (sym (first-down l t f fs a)) (Behind (subst (In g) down i)) in
    record {
      answers = λ x i g. let o = h.answers x (old (frame.Answer x) i) g in (o.0, o.1, λ gone e. o.2 gone (fit.asked x (subst (In (frame.Answer x)) down i) g e));
      snapshots = λ x i. h.snapshots x (old (frame.Snapshot x) i);
      fit = λ k ps e. subst (λ z. AllFit b.generation k z ps) (sym down) (fit.fit k ps e);
      queries = queries;
      unheard = fit.unheard;
    }

delivery-arrived : (f : Frame) (c : ClientState) → (after_delivery f c).arrived ≡ c.arrived
delivery-arrived (frame.Heard h) c = refl
delivery-arrived f c = refl

frame-arrived : (f : Frame) (c : ClientState) → (after_frame f c).arrived ≡ c.arrived
frame-arrived f c = either (λ (z : ClientState). z.arrived ≡ c.arrived) (is_hello_of c.locks.entered f) (record c { unsent = c.unsent ++ unsent.Resend ∷ [] }) (after_delivery f c) (λ _. refl) (λ _. delivery-arrived f c)

hello-enters : (h : Hello) (a : TabState) → nat_lt a.entered h.generation ≡ true → (delivery (frame.Hello h) a).0 ≡ enter h.generation a
unfolding delivery
hello-enters h a e = ap (λ z. let o : TabState × Delivered = cond z (enter h.generation a, heard.Entered (report_frames (enter h.generation a))) (a, heard.Dropped dropped.OldGeneration) in o.0) e

module _ (l : Library) (w : WorldState) (t : ℕ) (s : Sim l w) (x : IsResting l) (b : BrokerState) (r : runs l t ≡ true) (up : l.hub.supervised.broker ≡ Some b) (asked : AreQueries (client_of l t).locks) (heeds : Heeds (view l t) t b) where
  abbrev rest_of_client : List Frame → ClientState
  rest_of_client fs = record (client_of l t) { arrived = fs }

  fits : (f : Frame) (fs : List Frame) → (client_of l t).arrived ≡ f ∷ fs → (client_of l t).is_welcomed ≡ true → FitsBehind l t fs b (after_frame f (rest_of_client fs)).locks
  fits (frame.Hello h) fs a y =
      let o = (client_of l t).locks in
      either (λ (z : ClientState). FitsBehind l t fs b z.locks) (h.generation == o.entered) (record (rest_of_client fs) { unsent = (client_of l t).unsent ++ unsent.Resend ∷ [] }) (after_delivery (frame.Hello h) (rest_of_client fs))
      (λ _. same-behind l w t s x y b r up heeds (frame.Hello h) fs a refl)
      (λ _. ⊎_elim
      (λ lt. let less = ltb-true o.entered h.generation lt in let low = hello-low l w t h fs s a b r up in
      other-behind l w t s x y b r up heeds (frame.Hello h) fs (told (delivery (frame.Hello h) o).0) a (λ e. omega (arith, less, low, e))
      (λ _. subst (λ (z : TabState). AreUnheard (told z).statuses) (sym (hello-enters h o lt)) (enter-unheard h.generation o asked)))
      (λ ge. subst (FitsBehind l t fs b) (sym (hello-late h o ge (client-none l w t s y))) (same-behind l w t s x y b r up heeds (frame.Hello h) fs a refl))
      (cases_Bool (nat_lt o.entered h.generation)))
  fits (frame.Answer z) fs a y = answer-behind l w t s x y b r up heeds z fs a
  fits (frame.Snapshot z) fs a y = part-behind l w t s x y b r up heeds z fs a
  fits (frame.Heard z) fs a y = same-behind l w t s x y b r up heeds (frame.Heard z) fs a refl
  fits f fs a y = subst (λ (z : ClientState). FitsBehind l t fs b z.locks) (sym (wrong-frame f (rest_of_client fs) refl (client-none l w t s y))) (same-behind l w t s x y b r up heeds f fs a refl)

  -- What is said of the client's new line, in the form of `line-rests`.
  pub advance-heeds : ((k : ℕ) → is_querying (status_of (client_advanced (client_of l t)).locks k) ≡ true → operation_of (client_advanced (client_of l t)).locks k ≡ Query)
      → (client_of l t).is_welcomed ≡ true → Heeds (view_with l.hub (line_with l t (client_advanced (client_of l t))) t) t b
  advance-heeds queries y = go (client_of l t).arrived refl
    where
      go : (fs : List Frame) → (client_of l t).arrived ≡ fs → Heeds (view_with l.hub (line_with l t (client_advanced (client_of l t))) t) t b
      go [] a = subst (λ z. Heeds (view_with l.hub (line_with l t z) t) t b) (sym (ap (λ zs. after_first zs (client_of l t)) a)) heeds
      go (f ∷ fs) a =
          let e = first-handled l t f fs a y in
          subst (λ z. Heeds (view_with l.hub (line_with l t z) t) t b) (sym e)
          (built-heeds l t b f fs (after_frame f (rest_of_client fs)) a (frame-arrived f (rest_of_client fs)) (fits f fs a y)
          (subst (λ (z : ClientState). (k : ℕ) → is_querying (status_of z.locks k) ≡ true → operation_of z.locks k ≡ Query) e queries) heeds)

  -- The same at the welcome.
  pub welcome-heeds : (f : Frame) (fs : List Frame) (k : ℕ × Bool) → (client_of l t).arrived ≡ f ∷ fs → (client_of l t).is_welcomed ≡ false → welcome_of f ≡ Some k
      → Heeds (view_with l.hub (line_with l t (client_advanced (client_of l t))) t) t b
  welcome-heeds f fs k a y q =
      let o = client_of l t in
      let e : client_advanced o ≡ after_welcome (Some k) (rest_of_client fs) =
      ap (λ zs. after_first zs o) a ∙ (ap (λ z. cond z (after_frame f (rest_of_client fs)) (after_welcome (welcome_of f) (rest_of_client fs))) y ∙ ap (λ z. after_welcome z (rest_of_client fs)) q) in
      subst (λ z. Heeds (view_with l.hub (line_with l t z) t) t b) (sym e)
      (built-heeds l t b f fs (after_welcome (Some k) (rest_of_client fs)) a refl
      (record { fit = λ j ps z. absurd (none-some ps z); asked = λ x i g z. apart z refl; unheard = λ _ j _ z. apart z refl }) (λ j z. apart z refl) heeds)
    where
      none-some : (ps : PartsState) → None ≡ Some (Querying ps) → ⊥
      none-some ps z = cc
