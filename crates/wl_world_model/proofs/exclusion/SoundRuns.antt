-- Soundness of every run: each event keeps a world sound.
use Rattle.std.proofs.Common.{◌≡◌, inl, ⊎_elim, ℕ, true, false, not, ◌&&◌, List, [], ◌∷◌, Option, Some, None, refl, subst, arith}
use Rattle.std.proofs.lemmas.Bool.{and_parts, not-true}
use Rattle.wl_draft.specs.declared.row.Row.{Row}
use Rattle.wl_grammar.specs.declared.frame.Frame.TheVariants as frame
use Rattle.wl_grammar.specs.declared.frame.Stamped.{Stamped}
use Rattle.wl_broker.specs.Broker.{BrokerState}
use Rattle.wl_broadcast.specs.Channels.{after_hearing}
use Rattle.wl_agent.specs.Tab.{newborn}
use Rattle.wl_kernel.specs.Kernel.{is_opened}
use Rattle.wl_kernel.specs.Routes.{frame_of}
use Rattle.wl_world_messages.specs.declared.message.Message.{Message}
use Rattle.wl_world_messages.specs.declared.message.Message.TheVariants.{Up, Down, Across}
use Rattle.wl_world_messages.specs.Messages.{is_sent}
use Rattle.wl_draft.specs.Membership.{In}
use Rattle.wl_draft.proofs.Membership.{apart, In-nil}
use Rattle.wl_world_messages.proofs.Same.{is_sent-In}
use Rattle.wl_limits.specs.declared.tabs.TheConstants.{COMMAND_LIMIT}
use Rattle.wl_world_model.specs.declared.event.Event.{Event}
use Rattle.wl_world_model.specs.declared.event.Event.TheVariants as event
use Rattle.wl_world_model.specs.World.{WorldState, empty_world, lives, channels_of, becomes, takes_frame, arrives_at_broker, arrives, tells, step_result, after_event, run}
use Rattle.wl_world_model.proofs.AtBroker.{buries}
use Rattle.wl_world_model.proofs.exclusion.Invariant.{Sound, Claim, stands, reported, carried}
use Rattle.wl_world_model.proofs.exclusion.ActsWithinAGeneration.{after, allowed-sound, asks-sound, queries-sound, aborts-sound, releases-sound, resends-sound, forges-sound}
use Rattle.wl_world_model.proofs.exclusion.OpeningAndKilling.{born-sound, opens-sound, kills-sound}
use Rattle.wl_world_model.proofs.exclusion.Corrupting.{corrupts-sound}
use Rattle.wl_world_model.proofs.exclusion.Starting.{greets-sound, stops-sound, starts-sound}
use Rattle.wl_world_model.proofs.exclusion.CommandsTaken.{taking-sound}
use Rattle.wl_world_model.proofs.exclusion.DeathsTaken.{burial-sound}
use Rattle.wl_world_model.proofs.exclusion.MessagesHeard.{down-sound, opens_channel-sound, posts-sound, reads-sound, closes-sound, across-sound}

-- The empty world

no-claim : (p : ℕ) (r : Row) → Claim empty_world p r → ⊥
no-claim p r (stands h) = In-nil h
no-claim p r (reported c) = In-nil c.3
no-claim p r (carried c) = ⊎_elim (λ i. In-nil i) (λ i. In-nil i.2) c.3.cause

pub empty-sound : Sound empty_world
empty-sound = record {
  positive = omega arith;
  current = refl;
  tabs = λ t. record { state = born-sound t (newborn t COMMAND_LIMIT) (false, refl); entered = omega arith; unopened = λ e. (false, refl); since = omega arith; newcomer = λ e. inl refl };
  messages = λ t. record {
    held = λ k h. apart h refl;
    commands = λ p c i. absurd (In-nil i);
    reports = λ p u x e i. absurd (In-nil i);
    grants = λ g k h. absurd (In-nil h.2);
    hellos = λ v h i. absurd (In-nil i);
  };
  seats = λ t. record { partial = λ k e. cc; joined = λ y j. apart j refl; named = λ d. apart d refl; lists = λ up. apart up refl };
  locks = record {
    granted = λ t g k h. absurd (In-nil h.2);
    known = λ p r i. absurd (⊎_elim (λ a. In-nil a) (λ a. In-nil a) i);
    covers = λ t k y c e j. apart j refl;
    agree = λ p r q a. absurd (no-claim p r a.1);
  };
}

-- Deliveries and deaths

-- The world with another broker, or with none.
abbrev at_broker : WorldState → Option BrokerState → WorldState
at_broker w v = record w { broker = v }

at_broker-sound : (w : WorldState) (v : Option BrokerState) → w.broker ≡ v → Sound w → Sound (at_broker w v)
at_broker-sound w v e s = subst (λ z. Sound (at_broker w z)) e s

up-sound : (w : WorldState) (v : Option BrokerState) → w.broker ≡ v → Sound w → (x : Stamped) → In (Up x) w.bag → Sound (after (at_broker w v) (arrives_at_broker (at_broker w v) x v))
up-sound w None e s x i = at_broker-sound w None e s
up-sound w (Some b) e s x i = taking-sound w b (at_broker-sound w (Some b) e s) x i

comes-sound : (w : WorldState) → Sound w → (m : Message) → In m w.bag → Sound (after w (arrives w m))
comes-sound w s (Up x) i = up-sound w w.broker refl s x i
comes-sound w s (Down v x) i = allowed-sound w (lives w x.tab) (takes_frame w x.tab (frame_of x.inner)) s (λ l. down-sound w v x.tab x.inner s l i)
comes-sound w s (Across t x) i =
    let c = after_hearing (frame.Heard x) (channels_of w t) in
    allowed-sound w (lives w t) (becomes w t c []) s (λ _. across-sound w t c s)

tells-sound : (w : WorldState) (v : Option BrokerState) → w.broker ≡ v → Sound w → (t : ℕ) → Sound (after (at_broker w v) (tells (at_broker w v) t v))
tells-sound w None e s t = at_broker-sound w None e s
tells-sound w (Some b) e s t =
    let s' = at_broker-sound w (Some b) e s in
    allowed-sound (at_broker w (Some b)) (is_opened w.kernel t && not (lives w t)) (buries (at_broker w (Some b)) t b) s'
    (λ h. burial-sound w b s' t (not-true _ (and_parts _ _ h).1) (and_parts _ _ h).0)

-- Events and runs

pub happens-sound : (w : WorldState) (e : Event) → Sound w → Sound (after_event w e)
unfolding after_event step_result
happens-sound w (event.Open t p) s = opens-sound false w t p s
happens-sound w (event.OpenTwo t p) s = opens-sound true w t p s
happens-sound w (event.Ask t mode name) s = asks-sound w t mode false name s
happens-sound w (event.Probe t mode name) s = asks-sound w t mode true name s
happens-sound w (event.Query t) s = queries-sound w t s
happens-sound w (event.Abort t k) s = aborts-sound w t k s
happens-sound w (event.Release t k) s = releases-sound w t k s
happens-sound w (event.Resend t) s = resends-sound w t s
happens-sound w (event.Channel t name) s = opens_channel-sound w t name s
happens-sound w (event.Post t k bytes) s = posts-sound w t k bytes s
happens-sound w (event.Read t k) s = reads-sound w t k s
happens-sound w (event.Close t k) s = closes-sound w t k s
happens-sound w (event.Deliver m) s = allowed-sound w (is_sent m w.bag) (arrives w m) s (λ h. comes-sound w s m (is_sent-In m w.bag h))
happens-sound w (event.Kill t) s = kills-sound w t s
happens-sound w (event.Tell t) s = tells-sound w w.broker refl s t
happens-sound w event.Stop s = stops-sound w w.broker s
happens-sound w (event.Start ts) s = starts-sound w ts w.broker refl s
happens-sound w (event.Hello t) s = greets-sound w t w.broker refl s
happens-sound w (event.Corrupt t) s = corrupts-sound w t s
happens-sound w (event.Forge t x) s = forges-sound w t x s

run-keeps : (events : List Event) (w : WorldState) → Sound w → Sound (run events w)
run-keeps [] w s = s
run-keeps (e ∷ es) w s = run-keeps es (after_event w e) (happens-sound w e s)

pub run-sound : (events : List Event) → Sound (run events empty_world)
run-sound events = run-keeps events empty_world empty-sound
