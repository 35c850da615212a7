-- The brokers that the kernel process runs one after another: the orders of the script, and their outcome.
use Rattle.std.specs.Prelude.{ℕ, Bool, true, false, not, ◌&&◌, ◌==◌, Option, Some, None, Result, Ok, Err}
use Rattle.wl_process.specs.declared.fault.ProcessFault.{ProcessFault}
use Rattle.wl_process_rules.specs.declared.broker_orders.BrokerOrders.{BrokerOrders}
use Rattle.wl_process_rules.specs.declared.broker_orders.Phase.{Phase}
use Rattle.wl_process_rules.specs.declared.broker_orders.Phase.TheVariants.{Idle, Starting, Up, Stopping, Spent, Failed}

-- The state before any order.
abbrev pub no_orders : BrokerOrders
no_orders = record { phase = Idle; started = None; is_ending = false }

abbrev pub in_phase : Phase → BrokerOrders → BrokerOrders
in_phase p o = record { phase = p; started = o.started; is_ending = o.is_ending }

-- The script orders a broker

-- Whether the order is news, because no broker is wanted yet. It fails once a broker could not be started.
abbrev pub is_news : Phase → Result Bool ProcessFault
is_news Idle = Ok true
is_news (Failed fault) = Err fault
is_news p = Ok false

abbrev pub asked_in : Phase → BrokerOrders → BrokerOrders
asked_in Idle o = record { phase = Starting; started = None; is_ending = o.is_ending }
asked_in p o = o

abbrev pub asked : BrokerOrders → BrokerOrders
asked o = asked_in o.phase o

-- The outcome of the last start order: the first generation that came up, or the failure.
abbrev pub outcome_of : Option ℕ → Phase → Option (Result ℕ ProcessFault)
outcome_of (Some generation) p = Some (Ok generation)
outcome_of None (Failed fault) = Some (Err fault)
outcome_of None p = None

abbrev pub first_of : Option ℕ → ℕ → Option ℕ
first_of (Some earlier) generation = Some earlier
first_of None generation = Some generation

-- The broker of this generation is up.
abbrev pub up_as : ℕ → BrokerOrders → BrokerOrders
up_as generation o = record { phase = Up generation; started = first_of o.started generation; is_ending = o.is_ending }

-- The script stops the broker

-- Whether there is a broker to stop.
abbrev pub is_there : Phase → Result Bool ProcessFault
is_there Idle = Ok false
is_there (Failed fault) = Err fault
is_there p = Ok true

-- The broker's process has ended, which completes a stop.
abbrev pub rested : Phase → Phase
rested Stopping = Idle
rested p = p

-- The broker's link ends by itself

abbrev pub runs_as : ℕ → Phase → Bool
runs_as generation (Up other) = other == generation
runs_as generation p = false

-- The end of a link is missed unless the kernel is ending or another broker has come up since. The next
-- broker is then wanted.
abbrev pub is_missed : ℕ → BrokerOrders → Bool
is_missed generation o = runs_as generation o.phase && not o.is_ending

abbrev pub next_phase : Bool → Phase
next_phase true = Starting
next_phase false = Spent

-- The kernel

abbrev pub ending : BrokerOrders → BrokerOrders
ending o = record { phase = o.phase; started = o.started; is_ending = true }

abbrev pub failure_in : Phase → Option ProcessFault
failure_in (Failed fault) = Some fault
failure_in p = None

abbrev pub is_starting : Phase → Bool
is_starting Starting = true
is_starting p = false

abbrev pub is_stopping : Phase → Bool
is_stopping Stopping = true
is_stopping p = false
