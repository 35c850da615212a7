-- Parts of the invariant that a step leaves alone.
use Rattle.std.proofs.Common.{◌≡◌, inl, inr, ℕ, List, Option, ◌∙◌}
use Rattle.wl_grammar.specs.declared.frame.Upward.{Upward}
use Rattle.wl_grammar.specs.declared.frame.Downward.{Downward}
use Rattle.wl_broker.specs.Broker.{BrokerState}
use Rattle.wl_agent.specs.Tab.{TabState}
use Rattle.wl_kernel.specs.Kernel.{OpenedTab}
use Rattle.wl_world_messages.specs.declared.message.Sender.{Sender}
use Rattle.wl_world_messages.specs.declared.message.Message.{Message}
use Rattle.wl_draft.specs.Membership.{In}
use Rattle.wl_world_model.specs.World.{WorldState}
use Rattle.wl_world_model.proofs.AtBroker.{with_broker}
use Rattle.wl_world_model.proofs.exclusion.Invariant.{Sound, SoundSeats, SoundLocks, MessagePart, CauseIn, up_message, down_message}

-- A step of the broker leaves the tabs and the messages alone.
pub broker-step : (w : WorldState) (b c : BrokerState) → c.generation ≡ b.generation → Sound (with_broker b w) → SoundSeats (with_broker c w) → SoundLocks (with_broker c w) → Sound (with_broker c w)
broker-step w b c e s seats locks = record { positive = s.positive; current = e ∙ s.current; tabs = s.tabs; messages = s.messages; seats = seats; locks = locks }

-- A cause remains in a bag that has more messages.
pub cause-kept : (bag more : List Message) → ((m : Message) → In m bag → In m more) → (t : ℕ) (x : TabState) (k : ℕ) → CauseIn bag t x k → CauseIn more t x k
cause-kept bag more keeps t x k (inl i) = inl i
cause-kept bag more keeps t x k (inr h) = inr (h.0, h.1, keeps _ h.2, h.3, h.4, h.5)

-- A tab's messages stay sound in a bag with more messages, if none of these is from the tab or to it.
pub messages-kept : (w : WorldState) (bag : List Message) (t : ℕ) (x : TabState) (o : Option OpenedTab) (q : ℕ) → ((m : Message) → In m w.bag → In m bag)
    → ((p : ℕ) (u : Upward) → In (up_message t p u) bag → In (up_message t p u) w.bag) → ((s : Sender) (y : Downward) → In (down_message s t y) bag → In (down_message s t y) w.bag)
    → MessagePart w t x o q → MessagePart (record w { bag = bag }) t x o q
messages-kept w bag t x o q keeps ups downs m = record {
  held = λ k h. cause-kept w.bag bag keeps t x k (m.held k h);
  commands = λ p c i. m.commands p c (ups p _ i);
  reports = λ p u y e i. m.reports p u y e (ups p u i);
  grants = λ g k h. m.grants g k (h.0, h.1, downs h.0 _ h.2, h.3, h.4, h.5);
  hellos = λ s h i. m.hellos s h (downs s _ i);
}
