-- Honesty: an event makes no tab dishonest except the one that it takes over.
use Rattle.std.proofs.Common.{◌≡◌, ◌⊎◌, inl, inr, ⊎_elim, ℕ, Bool, false, List, [], ◌∷◌, Option, Some, None, refl, sym, ap, ◌∙◌, subst}
use Rattle.std.specs.Prelude.{◌==◌}
use Rattle.std.specs.List.{list_any}
use Rattle.wl_grammar.specs.declared.frame.Stamped.{Stamped}
use Rattle.wl_broker.specs.Broker.{BrokerState, Taking, Drops, Does, taking}
use Rattle.wl_broadcast.specs.Channels.{ChannelState}
use Rattle.wl_agent.specs.Tab.{TabState}
use Rattle.wl_world_messages.specs.declared.message.Message.{Message}
use Rattle.wl_world_messages.specs.declared.message.Message.TheVariants.{Up, Down, Across}
use Rattle.wl_draft.specs.Membership.{In, Here, Later}
use Rattle.wl_draft.proofs.Membership.{either}
use Rattle.wl_world_model.specs.declared.event.Event.{Event}
use Rattle.wl_world_model.specs.declared.event.Event.TheVariants as event
use Rattle.wl_world_model.specs.World.{WorldState, empty_world, lives, StepResult, unchanged, if_allowed, acts, becomes, arrives_at_broker, arrives, tells, stops, starts, greets, taken_over, step_result, after_event, run}
use Rattle.wl_world_model.proofs.AtBroker.{follows}
use Rattle.wl_world_model.specs.Holdings.{IsHonest}
use Rattle.wl_world_model.specs.Hostile.{HonestUnlessNamed, HonestBefore}
use Rattle.wl_world_model.proofs.exclusion.Corrupting.{honest-before, honest-after}

-- The deed takes no tab over.
abbrev Spares : WorldState → StepResult → Type 0
Spares w d = d.world.corrupt ≡ w.corrupt

allowed-spares : (w : WorldState) (b : Bool) (d : StepResult) → Spares w d → Spares w (if_allowed b w d)
allowed-spares w b d f = either (Spares w) b d (unchanged w) (λ _. f) (λ _. refl)

acts-spares : (w : WorldState) (t : ℕ) (a : TabState) (ms : List Message) → Spares w (acts w t a ms)
unfolding acts
acts-spares w t a ms = refl

becomes-spares : (w : WorldState) (t : ℕ) (c : ChannelState) (ms : List Message) → Spares w (becomes w t c ms)
unfolding becomes
becomes-spares w t c ms = refl

follows-spares : (w : WorldState) (o : Taking) → Spares w (follows w o)
follows-spares w (Drops reason) = refl
follows-spares w (Does b outs) = refl

up-spares : (w : WorldState) (x : Stamped) (v : Option BrokerState) → Spares w (arrives_at_broker w x v)
up-spares w x None = refl
up-spares w x (Some b) = follows-spares w (taking b x)

comes-spares : (w : WorldState) (m : Message) → Spares w (arrives w m)
comes-spares w (Up x) = up-spares w x w.broker
comes-spares w (Down v x) = allowed-spares w (lives w x.tab) _ (acts-spares w x.tab _ _)
comes-spares w (Across t x) = allowed-spares w (lives w t) _ (becomes-spares w t _ _)

tells-spares : (w : WorldState) (t : ℕ) (v : Option BrokerState) → Spares w (tells w t v)
tells-spares w t None = refl
tells-spares w t (Some b) = allowed-spares w _ _ refl

stops-spares : (w : WorldState) (v : Option BrokerState) → Spares w (stops w v)
stops-spares w None = refl
stops-spares w (Some b) = allowed-spares w _ _ refl

starts-spares : (w : WorldState) (ts : List ℕ) (v : Option BrokerState) → Spares w (starts w ts v)
starts-spares w ts (Some b) = refl
starts-spares w ts None = allowed-spares w _ _ refl

greets-spares : (w : WorldState) (t : ℕ) (v : Option BrokerState) → Spares w (greets w t v)
greets-spares w t None = refl
greets-spares w t (Some b) = allowed-spares w _ _ refl

-- The event takes no tab over, or it is a `Corrupt` event that takes one over.
abbrev Takeover : WorldState → Event → Type 0
Takeover w e = Spares w (step_result w e) ⊎ ((t : ℕ) × (e ≡ event.Corrupt t) × (((step_result w e).world.corrupt ≡ w.corrupt) ⊎ ((step_result w e).world.corrupt ≡ taken_over t w.corrupt)))

takeover : (w : WorldState) (e : Event) → Takeover w e
unfolding step_result
takeover w (event.Open t p) = inl (allowed-spares w _ _ refl)
takeover w (event.OpenTwo t p) = inl (allowed-spares w _ _ refl)
takeover w (event.Ask t mode name) = inl (allowed-spares w _ _ (acts-spares w t _ _))
takeover w (event.Probe t mode name) = inl (allowed-spares w _ _ (acts-spares w t _ _))
takeover w (event.Query t) = inl (allowed-spares w _ _ (acts-spares w t _ _))
takeover w (event.Abort t k) = inl (allowed-spares w _ _ (acts-spares w t _ _))
takeover w (event.Release t k) = inl (allowed-spares w _ _ (acts-spares w t _ _))
takeover w (event.Resend t) = inl (allowed-spares w _ _ refl)
takeover w (event.Channel t name) = inl (allowed-spares w _ _ (becomes-spares w t _ _))
takeover w (event.Post t k bytes) = inl (allowed-spares w _ _ (becomes-spares w t _ _))
takeover w (event.Read t k) = inl (allowed-spares w _ _ (becomes-spares w t _ _))
takeover w (event.Close t k) = inl (allowed-spares w _ _ (becomes-spares w t _ _))
takeover w (event.Deliver m) = inl (allowed-spares w _ (arrives w m) (comes-spares w m))
takeover w (event.Kill t) = inl (allowed-spares w _ _ refl)
takeover w (event.Tell t) = inl (tells-spares w t w.broker)
takeover w event.Stop = inl (stops-spares w w.broker)
takeover w (event.Start ts) = inl (starts-spares w ts w.broker)
takeover w (event.Hello t) = inl (greets-spares w t w.broker)
takeover w (event.Corrupt t) = inr (t, refl, either (λ (d : StepResult). (d.world.corrupt ≡ w.corrupt) ⊎ (d.world.corrupt ≡ taken_over t w.corrupt)) (lives w t) (unchanged (record w { corrupt = taken_over t w.corrupt })) (unchanged w) (λ _. inr refl) (λ _. inl refl))
takeover w (event.Forge t x) = inl (allowed-spares w _ _ refl)

abbrev Named : ℕ → List ℕ → Type 0
Named u ts = list_any (λ v. v == u) ts ≡ false

pub happens-honest : (w : WorldState) (e : Event) (u : ℕ) → IsHonest (after_event w e) u → IsHonest w u
unfolding after_event
happens-honest w e u h = ⊎_elim
    (λ s. subst (Named u) s h)
    (λ o. ⊎_elim (λ s. subst (Named u) s h) (λ s. honest-before o.0 u w.corrupt (subst (Named u) s h)) o.2)
    (takeover w e)

stays-honest : (w : WorldState) (e : Event) (u : ℕ) → (event.Corrupt u ≡ e → ⊥) → IsHonest w u → IsHonest (after_event w e) u
unfolding after_event
stays-honest w e u n h = ⊎_elim
    (λ s. subst (Named u) (sym s) h)
    (λ o. ⊎_elim (λ s. subst (Named u) (sym s) h) (λ s. subst (Named u) (sym s) (honest-after o.0 u w.corrupt (λ q. n (sym (ap event.Corrupt q) ∙ sym o.1)) h)) o.2)
    (takeover w e)

pub run-honest : (es : List Event) (w : WorldState) (u : ℕ) → IsHonest (run es w) u → IsHonest w u
run-honest [] w u h = h
run-honest (e ∷ es) w u h = happens-honest w e u (run-honest es (after_event w e) u h)

unnamed-honest : (es : List Event) (w : WorldState) (u : ℕ) → (In (event.Corrupt u) es → ⊥) → IsHonest w u → IsHonest (run es w) u
unnamed-honest [] w u n h = h
unnamed-honest (e ∷ es) w u n h = unnamed-honest es (after_event w e) u (λ i. n (Later i)) (stays-honest w e u (λ q. n (subst (λ z. In (event.Corrupt u) (z ∷ es)) q Here)) h)

pub honest-unless_named : HonestUnlessNamed
honest-unless_named events t n = unnamed-honest events empty_world t n refl

pub honest-sooner : HonestBefore
honest-sooner events more t h = run-honest more (run events empty_world) t h
