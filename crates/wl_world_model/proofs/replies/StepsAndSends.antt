-- A run with one more event. An event changes the bag only by the messages that it sends.
use Rattle.std.proofs.Common.{◌≡◌, ℕ, List, [], ◌∷◌, ◌++◌, Bool, true, false, Option, Some, None, refl, ap, ◌∙◌}
use Rattle.wl_grammar.specs.declared.frame.Stamped.{Stamped}
use Rattle.wl_broker.specs.Broker.{BrokerState, Taking, Drops, Does, taking}
use Rattle.wl_world_messages.specs.declared.effect.Effect.{Effect}
use Rattle.wl_world_messages.specs.declared.message.Message.{Message}
use Rattle.wl_world_messages.specs.declared.message.Message.TheVariants.{Up, Down, Across}
use Rattle.wl_world_messages.specs.Messages.{sent_all}
use Rattle.wl_world_model.specs.declared.event.Event.{Event}
use Rattle.wl_world_model.specs.declared.event.Event.TheVariants as event
use Rattle.wl_world_model.specs.World.{WorldState, StepResult, if_allowed, acts, becomes, arrives_at_broker, arrives, tells, stops, starts, greets, step_result, after_event, run}
use Rattle.wl_world_model.proofs.AtBroker.{follows}
use Rattle.wl_world_model.specs.Replies.{said_of, sendings, reply_of}

pub run-push : (es : List Event) (e : Event) (w : WorldState) → run (es ++ e ∷ []) w ≡ after_event (run es w) e
run-push [] e w = refl
run-push (x ∷ xs) e w = run-push xs e (after_event w x)

-- The bag

kept : (b : Bool) (w : WorldState) (d : StepResult) → d.world.bag ≡ w.bag → (if_allowed b w d).world.bag ≡ w.bag
kept true w d e = e
kept false w d e = refl

follows-bag : (w : WorldState) (t : Taking) → (follows w t).world.bag ≡ w.bag
follows-bag w (Drops r) = refl
follows-bag w (Does b outs) = refl

comes_up-bag : (w : WorldState) (s : Stamped) (o : Option BrokerState) → (arrives_at_broker w s o).world.bag ≡ w.bag
comes_up-bag w s None = refl
comes_up-bag w s (Some b) = follows-bag w (taking b s)

comes-bag : (w : WorldState) (m : Message) → (arrives w m).world.bag ≡ w.bag
unfolding acts becomes
comes-bag w (Up s) = comes_up-bag w s w.broker
comes-bag w (Down sender x) = kept _ w _ refl
comes-bag w (Across t x) = kept _ w _ refl

tells-bag : (w : WorldState) (t : ℕ) (o : Option BrokerState) → (tells w t o).world.bag ≡ w.bag
tells-bag w t None = refl
tells-bag w t (Some b) = kept _ w _ refl

stops-bag : (w : WorldState) (o : Option BrokerState) → (stops w o).world.bag ≡ w.bag
stops-bag w None = refl
stops-bag w (Some b) = kept _ w _ refl

starts-bag : (w : WorldState) (ts : List ℕ) (o : Option BrokerState) → (starts w ts o).world.bag ≡ w.bag
starts-bag w ts None = kept _ w _ refl
starts-bag w ts (Some b) = refl

greets-bag : (w : WorldState) (t : ℕ) (o : Option BrokerState) → (greets w t o).world.bag ≡ w.bag
greets-bag w t None = refl
greets-bag w t (Some b) = kept _ w _ refl

pub deed-bag : (w : WorldState) (e : Event) → (step_result w e).world.bag ≡ w.bag
unfolding acts becomes step_result
deed-bag w (event.Open t p) = kept _ w _ refl
deed-bag w (event.OpenTwo t p) = kept _ w _ refl
deed-bag w (event.Ask t mode name) = kept _ w _ refl
deed-bag w (event.Probe t mode name) = kept _ w _ refl
deed-bag w (event.Query t) = kept _ w _ refl
deed-bag w (event.Abort t k) = kept _ w _ refl
deed-bag w (event.Release t k) = kept _ w _ refl
deed-bag w (event.Resend t) = kept _ w _ refl
deed-bag w (event.Channel t name) = kept _ w _ refl
deed-bag w (event.Post t k bytes) = kept _ w _ refl
deed-bag w (event.Read t k) = kept _ w _ refl
deed-bag w (event.Close t k) = kept _ w _ refl
deed-bag w (event.Deliver m) = kept _ w _ (comes-bag w m)
deed-bag w (event.Kill t) = kept _ w _ refl
deed-bag w (event.Tell t) = tells-bag w t w.broker
deed-bag w event.Stop = stops-bag w w.broker
deed-bag w (event.Start ts) = starts-bag w ts w.broker
deed-bag w (event.Hello t) = greets-bag w t w.broker
deed-bag w (event.Corrupt t) = kept _ w _ refl
deed-bag w (event.Forge t x) = kept _ w _ refl

-- One event

pub happened : (w p : WorldState) (e : Event) (ms : List Message) → p ≡ (step_result w e).world → ms ≡ (step_result w e).sends → record p { bag = sent_all ms p.bag } ≡ after_event w e
unfolding after_event
happened w p e ms h k =
    ap (λ (q : WorldState). record q { bag = sent_all ms q.bag }) h
    ∙ ap (λ b. record (step_result w e).world { bag = sent_all ms b }) (deed-bag w e)
    ∙ ap (λ xs. record (step_result w e).world { bag = sent_all xs w.bag }) k

pub replied : (w p : WorldState) (e : Event) (ms : List Message) (s : Effect) → p ≡ (step_result w e).world → ms ≡ (step_result w e).sends → s ≡ said_of w e → record { said = s; sent = sendings ms p.bag } ≡ reply_of w e
unfolding reply_of
replied w p e ms s h k v =
    ap (λ (q : WorldState). record { said = s; sent = sendings ms q.bag }) h
    ∙ ap (λ b. record { said = s; sent = sendings ms b }) (deed-bag w e)
    ∙ ap (λ xs. record { said = s; sent = sendings xs w.bag }) k
    ∙ ap (λ x. record { said = x; sent = sendings (step_result w e).sends w.bag }) v
