-- A message that arrives at the broker moves the locks of its own tab alone.
use Rattle.std.proofs.Common.{◌≡◌, ◌≢◌, inl, ℕ, List, Option, Some, None, refl, sym, ap, ◌∙◌, subst}
use Rattle.wl_grammar.specs.declared.frame.Stamped.{Stamped}
use Rattle.wl_grammar.specs.declared.frame.Upward.{Upward}
use Rattle.wl_grammar.specs.declared.frame.Addressed.{Addressed}
use Rattle.wl_broker.specs.Broker.{BrokerState, manager_of, Taking, Drops, Does, taking}
use Rattle.wl_broker.proofs.Takings.{Takes, joins, keeps, repeats, performs, taking-Takes}
use Rattle.wl_broker.proofs.Others.{Takes-moves}
use Rattle.wl_world_messages.specs.declared.message.Message.TheVariants.{Up}
use Rattle.wl_world_messages.specs.Messages.{is_sent}
use Rattle.wl_draft.proofs.Membership.{either}
use Rattle.wl_world_model.specs.declared.event.Event.{Event}
use Rattle.wl_world_model.specs.World.{WorldState, StepResult, unchanged, arrives_at_broker, step_result, after_event}
use Rattle.wl_world_model.proofs.AtBroker.{follows}
use Rattle.wl_world_model.specs.Hostile.{MovesOwnAlone, TakesOwnAlone, MovesOwnAloneBetween}
use Rattle.wl_world_model.proofs.order.TakenIsPicked.{set-else}

taken-elsewhere : (b : BrokerState) (t p : ℕ) {u : Upward} {after : BrokerState} {outs : List Addressed} → Takes b t p u after outs → (q : ℕ) → q ≢ p → manager_of after q ≡ manager_of b q
taken-elsewhere b t p (keeps told passes may part) q n = refl
taken-elsewhere b t p (joins told passes may whole) q n = set-else _ p _ q (λ e. n (sym e))
taken-elsewhere b t p (repeats passes served old) q n = refl
taken-elsewhere b t p (performs passes served next) q n = set-else _ p _ q (λ e. n (sym e))

taken-alone : (b : BrokerState) (s : Stamped) (after : BrokerState) (outs : List Addressed) → taking b s ≡ Does after outs → MovesOwnAlone s.tab s.partition b after
taken-alone b s after outs e =
    let h = taking-Takes b s after outs e in
    let o = Takes-moves b s.tab s.partition h in
    record { elsewhere = taken-elsewhere b s.tab s.partition h; between = o.0; others = o.1; here = o.2 }

some-same : (b c : BrokerState) → Some b ≡ Some c → b ≡ c
some-same b c e = cc

none-some : (c : BrokerState) → None ≡ Some c → ⊥
none-some c e = cc

module _ (w : WorldState) (s : Stamped) (old new : BrokerState) (up : w.broker ≡ Some old) where
  abbrev Alone : StepResult → Type 0
  Alone d = d.world.broker ≡ Some new → MovesOwnAlone s.tab s.partition old new

  unmoved : Alone (unchanged w)
  unmoved e = subst (MovesOwnAlone s.tab s.partition old) (some-same old new (sym up ∙ e)) (record { elsewhere = λ q n. refl; between = manager_of old s.partition; others = record { held = refl; waiting = refl }; here = inl refl })

  follows-alone : (o : Taking) → taking old s ≡ o → Alone (follows w o)
  follows-alone (Drops reason) e = unmoved
  follows-alone (Does after outs) e = λ h. subst (MovesOwnAlone s.tab s.partition old) (some-same after new h) (taken-alone old s after outs e)

  up-alone : (v : Option BrokerState) → w.broker ≡ v → Alone (arrives_at_broker w s v)
  up-alone None e = λ _. absurd (none-some old (sym e ∙ up))
  up-alone (Some b) e = subst (λ z. Alone (arrives_at_broker w s (Some z))) (some-same old b (sym up ∙ e)) (follows-alone (taking old s) refl)

pub takes-own_alone : TakesOwnAlone
unfolding after_event step_result
takes-own_alone w s old new up = either (Alone w s old new up) (is_sent (Up s) w.bag) (arrives_at_broker w s w.broker) (unchanged w) (λ _. up-alone w s old new up w.broker refl) (λ _. unmoved w s old new up)

pub event-moves_own_alone : (w : WorldState) (e : Event) → MovesOwnAloneBetween w e (after_event w e)
event-moves_own_alone w e s old new is up after =
    takes-own_alone w s old new up (ap (λ (x : Event). (after_event w x).broker) (sym is) ∙ after)
