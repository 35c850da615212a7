-- Events of a broker: messages that arrive, and deaths of tabs.
use Rattle.std.specs.Prelude.{ℕ, List, [], ◌∷◌}
use Rattle.wl_grammar.specs.declared.frame.Stamped.{Stamped}
use Rattle.wl_broker.specs.Broker.{BrokerState, Taking, Drops, Does, taking, death_step}

pub data Event : Type 0 where
  Comes : (message : Stamped) → Event
  Dies : (tab : ℕ) → Event

-- A dropped message changes nothing.
abbrev pub broker_after : BrokerState → Taking → BrokerState
broker_after b (Drops reason) = b
broker_after b (Does after outs) = after

abbrev pub happens : BrokerState → Event → BrokerState
happens b (Comes s) = broker_after b (taking b s)
happens b (Dies t) = (death_step b t).0

abbrev pub run : BrokerState → List Event → BrokerState
run b [] = b
run b (e ∷ es) = run (happens b e) es
