-- Histories that a sequential run could have made.
use Rattle.std.specs.Prelude.{◌≡◌, ◌≤◌, ℕ, List, [], ◌∷◌, length, replicate, Bool, false}
use Rattle.wl_broker.specs.Broker.{BrokerState}
use Rattle.wl_locked.specs.Stepping.{stepped}
use Rattle.wl_locked.specs.declared.event.BookEvent.{BookEvent}
use Rattle.wl_locked.specs.declared.event.Reply.{Reply}
use Rattle.wl_locked.specs.declared.receipt.Step.{Step}

-- The broker's state after these events.
abbrev pub replay : BrokerState → List BookEvent → BrokerState
replay s [] = s
replay s (e ∷ es) = replay (stepped s e).0 es

abbrev pub events : List Step → List BookEvent
events [] = []
events (e ∷ es) = e.event ∷ events es

-- The step that an event makes after these steps.
abbrev pub taken : BrokerState → List Step → BookEvent → Step
taken s es e = record { event = e; reply = (stepped (replay s (events es)) e).1 }

-- Every reply is the broker's reply to its event.
abbrev pub IsReplay : BrokerState → List Step → Type 0
IsReplay s [] = Unit {0}
IsReplay s (e ∷ es) = (e.reply ≡ (stepped s e.event).1) × IsReplay (stepped s e.event).0 es

-- The reply is the broker's reply to this event after some list of `place` events.
abbrev pub IsAnswer : BrokerState → ℕ → BookEvent → Reply → Type 0
IsAnswer s place event reply =
    (before : List BookEvent) × (length before ≡ place) × (reply ≡ (stepped (replay s before) event).1)

-- A book's broker, steps and count agree, and no step is marked.
pub record IsKept (opening now : BrokerState) (steps : List Step) (marks : List Bool) (limit total : ℕ) : Type 0 where
  pub replays : now ≡ replay opening (events steps)
  pub told : IsReplay opening steps
  pub counted : total ≡ length steps
  pub within : length steps ≤ limit
  pub unmarked : marks ≡ replicate (length steps) false
