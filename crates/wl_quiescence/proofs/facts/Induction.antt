-- Induction over the events of a world: what every message and death keeps is true of the broker in all worlds.
use Rattle.std.proofs.Common.{◌≡◌, ℕ, ◌<◌, ◌+◌, Bool, true, false, not, ◌&&◌, List, [], ◌∷◌, Option, Some, None, is_some, refl, arith}
use Rattle.std.proofs.lemmas.Bool.{not-true}
use Rattle.std.proofs.lemmas.Bool.Decides.{nat_tests}
use Rattle.wl_draft.specs.Membership.{In}
use Rattle.wl_draft.proofs.Membership.{either}
use Rattle.wl_grammar.specs.Grammar.{TabsRiseFrom}
use Rattle.wl_grammar.specs.declared.frame.Stamped.{Stamped}
use Rattle.wl_grammar.specs.declared.frame.Addressed.{Addressed}
use Rattle.wl_kernel.specs.Kernel.{tab_of as opened_tab}
use Rattle.wl_kernel.specs.Kernel.{KernelState, is_opened, may_stop, stranger, start_refusal, placed, rises_from}
use Rattle.wl_kernel.specs.TableIndexes.{AreTabs}
use Rattle.wl_kernel.specs.Routes.{frame_of}
use Rattle.wl_kernel.proofs.RisingNumbers.{rises_first, rises_rest, rises_cons}
use Rattle.wl_kernel.proofs.Calls.{opened_some}
use Rattle.wl_kernel.proofs.WellFormed.{start_allowed, tab_from_one}
use Rattle.wl_kernel.specs.declared.fault.StartFault.{StartFault}
use Rattle.wl_broker.specs.Broker.{BrokerState, Taking, Drops, Does, started, taking, death_step}
use Rattle.wl_world_messages.specs.declared.message.Message.{Message}
use Rattle.wl_world_messages.specs.declared.message.Message.TheVariants.{Up, Down, Across}
use Rattle.wl_world_messages.specs.Messages.{is_sent}
use Rattle.wl_world_messages.proofs.Same.{is_sent-In}
use Rattle.wl_world_model.specs.declared.event.Event.{Event}
use Rattle.wl_world_model.specs.declared.event.Event.TheVariants as event
use Rattle.wl_world_model.specs.World.{WorldState, empty_world, tab_of, lives, unchanged, if_allowed, arrives_at_broker, arrives, tells, stops, starts, step_result, after_event, run}
use Rattle.wl_world_model.specs.WorldExamples.{p}
use Rattle.wl_world_model.proofs.apart.RunsApart.{reached}
use Rattle.wl_world_model.proofs.AtBroker.{with_broker, follows, buries, begins}
use Rattle.wl_world_model.proofs.exclusion.Invariant.{broker_of}
use Rattle.wl_world_model.proofs.exclusion.ActsWithinAGeneration.{after}
use Rattle.wl_world_model.proofs.exclusion.SoundRuns.{run-sound}
use Rattle.wl_library_model.proofs.Later.{Later}
use Rattle.wl_library_model.proofs.Happens.{Good, happens-on, happens-good, empty-fit}
use Rattle.wl_quiescence.proofs.facts.Tabs.{ActsOnce, acts-once}
use Rattle.wl_library_model.proofs.ProgressPlaces.{calm, calm-allowed, calm-becomes, calm-takes_frame, at_broker, Steady, Numbered, steady-after, empty-steady}

-- A start list that the kernel accepts has rising numbers of at least 1.
rise-from : (k : KernelState) (a : ℕ) (ts : List ℕ) → rises_from a ts ≡ true → TabsRiseFrom a (placed ts k)
rise-from k a [] up = tt
rise-from k a (t ∷ ts) up = (rises_first a t ts up, rise-from k (t + 1) ts (rises_rest a t ts up))

none-of : (o : Option StartFault) → is_some o ≡ false → o ≡ None
none-of None e = refl
none-of (Some x) e = cc

known-first : (k : KernelState) (t : ℕ) (ts : List ℕ) → stranger k (t ∷ ts) ≡ None → is_opened k t ≡ true
known-first k t ts none = grind (arith, nat_tests)

starts-rise : (k : KernelState) (ts : List ℕ) → AreTabs k.opened → is_some (start_refusal ts k) ≡ false → TabsRiseFrom 1 (placed ts k)
starts-rise k [] tabs e = tt
starts-rise k (t ∷ ts) tabs e =
    let a = start_allowed k (t ∷ ts) (none-of (start_refusal (t ∷ ts) k) e) in
    let x = opened_some (opened_tab k t) (known-first k t ts a.known) in
    rise-from k 1 (t ∷ ts) (rises_cons 1 t ts (tab_from_one k.opened t x.0 tabs x.1) (rises_rest 0 t ts a.up))

-- What a property of broker and world has to keep. It reads of the world the tabs, the kernel and which tabs were taken
-- over. `F` is a fact of all worlds.
pub record Kept (F : WorldState → Type 0) (P : WorldState → BrokerState → Type 0) : Type 0 where
  pub same : (w v : WorldState) (b : BrokerState) → v.tabs ≡ w.tabs → v.kernel ≡ w.kernel → v.corrupt ≡ w.corrupt → P w b → P v b
  pub later :
      (w v : WorldState) → Good w → F w → Later w v → ActsOnce w v → broker_of v ≡ broker_of w →
      P w (broker_of w) → P v (broker_of v)
  pub takes :
      (w : WorldState) (b : BrokerState) → Good (at_broker w (Some b)) → F (at_broker w (Some b)) → P (at_broker w (Some b)) b → (x : Stamped) → In (Up x) w.bag →
      (c : BrokerState) (outs : List Addressed) → taking b x ≡ Does c outs → P (at_broker w (Some b)) c
  pub dies : (w : WorldState) (b : BrokerState) (t : ℕ) → P w b → P w (death_step b t).0
  pub first : P empty_world (broker_of empty_world)
  pub fresh :
      (w v : WorldState) (b : BrokerState) (g : ℕ) (listed : List (ℕ × ℕ)) → v.tabs ≡ w.tabs → v.corrupt ≡ w.corrupt → TabsRiseFrom 1 listed → ((t : ℕ) → (tab_of v t).entered < g) →
      P w b → P v (started g listed)

module _ (F : WorldState → Type 0) (P : WorldState → BrokerState → Type 0) (k : Kept F P) where
  abbrev Holds : WorldState → Type 0
  Holds w = P w (broker_of w)

  follows-kept : (w : WorldState) (b : BrokerState) → P (at_broker w (Some b)) b → (o : Taking) → ((c : BrokerState) (outs : List Addressed) → o ≡ Does c outs → P (at_broker w (Some b)) c)
      → Holds (after (with_broker b w) (follows (with_broker b w) o))
  follows-kept w b y (Drops reason) f = k.same (at_broker w (Some b)) _ b refl refl refl y
  follows-kept w b y (Does c outs) f = k.same (at_broker w (Some b)) _ c refl refl refl (f c outs refl)

  up-kept : (w : WorldState) (v : Option BrokerState) → Good (at_broker w v) → F (at_broker w v) → Holds (at_broker w v) → (x : Stamped) → In (Up x) w.bag → Holds (after (at_broker w v) (arrives_at_broker (at_broker w v) x v))
  up-kept w None g f y x i = k.same (at_broker w None) _ _ refl refl refl y
  up-kept w (Some b) g f y x i = follows-kept w b y (taking b x) (k.takes w b g f y x i)

  tells-kept : (w : WorldState) (v : Option BrokerState) (t : ℕ) → Holds (at_broker w v) → Holds (after (at_broker w v) (tells (at_broker w v) t v))
  tells-kept w None t y = k.same (at_broker w None) _ _ refl refl refl y
  tells-kept w (Some b) t y =
      either (λ d. Holds (after (at_broker w (Some b)) d)) (is_opened w.kernel t && not (lives w t)) (buries (at_broker w (Some b)) t b) (unchanged (at_broker w (Some b)))
      (λ _. k.same (at_broker w (Some b)) _ _ refl refl refl (k.dies (at_broker w (Some b)) b t y))
      (λ _. k.same (at_broker w (Some b)) _ _ refl refl refl y)

  stops-kept : (w : WorldState) (v : Option BrokerState) → Good (at_broker w v) → Holds (at_broker w v) → Holds (after (at_broker w v) (stops (at_broker w v) v))
  stops-kept w None g y = k.same (at_broker w None) _ _ refl refl refl y
  stops-kept w (Some b) g y =
      either (λ d. Holds (after (at_broker w (Some b)) d)) (may_stop w.kernel) _ (unchanged (at_broker w (Some b)))
      (λ _. k.fresh (at_broker w (Some b)) _ b _ [] refl refl tt (λ t. let lt = (g.sound.tabs t).entered in omega (arith, lt)) y)
      (λ _. k.same (at_broker w (Some b)) _ _ refl refl refl y)

  starts-kept : (w : WorldState) (ts : List ℕ) (v : Option BrokerState) → Good (at_broker w v) → AreTabs w.kernel.opened → Holds (at_broker w v) → Holds (after (at_broker w v) (starts (at_broker w v) ts v))
  starts-kept w ts (Some b) g tabs y = k.same (at_broker w (Some b)) _ _ refl refl refl y
  starts-kept w ts None g tabs y =
      either (λ d. Holds (after (at_broker w None) d)) (not (is_some (start_refusal ts w.kernel))) (begins (at_broker w None) ts) (unchanged (at_broker w None))
      (λ h. k.fresh (at_broker w None) _ _ _ _ refl refl (starts-rise w.kernel ts tabs (not-true _ h)) (λ t. (g.sound.tabs t).entered) y)
      (λ _. k.same (at_broker w None) _ _ refl refl refl y)

  arrives-kept : (w : WorldState) → Good w → F w → Numbered w → Holds w → (m : Message) → In m w.bag → Later w (after w (arrives w m)) → ActsOnce w (after w (arrives w m)) → Holds (after w (arrives w m))
  arrives-kept w g f n y (Up x) i later one = up-kept w w.broker g f y x i
  arrives-kept w g f n y (Down v x) i later one = k.later w _ g f later one (calm-allowed w (lives w x.tab) _ n (λ _. calm-takes_frame w x.tab (frame_of x.inner) n)).broker y
  arrives-kept w g f n y (Across t x) i later one = k.later w _ g f later one (calm-allowed w (lives w t) _ n (λ _. calm-becomes w t _ [] n)).broker y

  delivered-kept : (w : WorldState) (m : Message) (b : Bool) → Good w → F w → Numbered w → Holds w → (b ≡ true → In m w.bag) → Later w (after w (if_allowed b w (arrives w m))) → ActsOnce w (after w (if_allowed b w (arrives w m))) → Holds (after w (if_allowed b w (arrives w m)))
  delivered-kept w m true g f n y i later one = arrives-kept w g f n y m (i refl) later one
  delivered-kept w m false g f n y i later one = k.same w _ _ refl refl refl y

  after-kept : (w : WorldState) (e : Event) → Good w → F w → AreTabs w.kernel.opened → Numbered w → Holds w → Later w (after_event w e) → Holds (after_event w e)
  unfolding after_event step_result
  after-kept w (event.Deliver m) g f tabs n y later = delivered-kept w m (is_sent m w.bag) g f n y (λ h. is_sent-In m w.bag h) later (acts-once w g.sound (event.Deliver m))
  after-kept w (event.Tell t) g f tabs n y later = tells-kept w w.broker t y
  after-kept w event.Stop g f tabs n y later = stops-kept w w.broker g y
  after-kept w (event.Start ts) g f tabs n y later = starts-kept w ts w.broker g tabs y
  after-kept w e g f tabs n y later = k.later w _ g f later (acts-once w g.sound e) (calm w e tt n).broker y

  keeps-on : (es : List Event) (w : WorldState) → ((fs : List Event) → F (run fs w)) → ((fs : List Event) → AreTabs (run fs w).kernel.opened) → Good w → Steady w → Holds w → Holds (run es w)
  keeps-on [] w f tabs g y x = x
  keeps-on (e ∷ es) w f tabs g y x =
      let later = (happens-on w e g.sound g.fit).later in
      keeps-on es (after_event w e) (λ fs. f (e ∷ fs)) (λ fs. tabs (e ∷ fs)) (happens-good w e g) (steady-after w e g y later) (after-kept w e g (f []) (tabs []) y.numbers x later)

  pub run-kept : ((es : List Event) → F (run es empty_world)) → (es : List Event) → Holds (run es empty_world)
  run-kept f es = keeps-on es empty_world f (λ fs. (reached p fs).kernel) (record { sound = run-sound []; fit = empty-fit }) empty-steady k.first
