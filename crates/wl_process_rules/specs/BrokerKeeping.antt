-- The orders for the broker's keeper after any list of calls.
use Rattle.std.specs.Prelude.{◌≡◌, ℕ, List, [], ◌∷◌, ◌++◌, Bool, true, false, not, Option, Some, None, Ok, Err}
use Rattle.wl_process.specs.declared.fault.ProcessFault.{ProcessFault}
use Rattle.wl_process_rules.specs.declared.broker_orders.BrokerOrders.{BrokerOrders}
use Rattle.wl_process_rules.specs.declared.broker_orders.Phase.TheVariants.{Stopping, Failed}
use Rattle.wl_process_rules.specs.BrokerOrders.{no_orders, in_phase, is_news, asked, up_as, is_there, rested, is_missed, next_phase, ending, is_stopping}

-- A call on the orders. The script orders a broker or stops it. The broker of a generation comes up, its link
-- ends by itself (with or without a next generation), or its process ends. No broker can be started. The kernel
-- ends.
pub data Told : Type 0 where
  Asked : Told
  Stopped : Told
  IsUp : (generation : ℕ) → Told
  IsLost : (has_next : Bool) → Told
  HasEnded : Told
  Fails : (fault : ProcessFault) → Told
  Closes : Told

abbrev pub told : Told → BrokerOrders → BrokerOrders
told Asked o = asked o
told Stopped o = in_phase Stopping o
told (IsUp generation) o = up_as generation o
told (IsLost has_next) o = in_phase (next_phase has_next) o
told HasEnded o = in_phase (rested o.phase) o
told (Fails fault) o = in_phase (Failed fault) o
told Closes o = ending o

abbrev pub after : List Told → BrokerOrders → BrokerOrders
after [] o = o
after (t ∷ ts) o = after ts (told t o)

abbrev pub Every : (Told → Bool) → List Told → Type 0
Every p [] = Unit {0}
Every p (t ∷ ts) = (p t ≡ true) × Every p ts

abbrev pub is_start : Told → Bool
is_start Asked = true
is_start t = false

abbrev pub is_close : Told → Bool
is_close Closes = true
is_close t = false

-- A start

-- The first generation that comes up.
abbrev pub first_up : List Told → Option ℕ
first_up [] = None
first_up (IsUp generation ∷ ts) = Some generation
first_up (t ∷ ts) = first_up ts

-- A caller that requests a broker when none is wanted gets the first generation that comes up afterwards.
abbrev pub TellsTheFirst : Type 0
TellsTheFirst = (o : BrokerOrders) (ts : List Told) → is_news o.phase ≡ Ok true → Every (λ t. not (is_start t)) ts → (after ts (told Asked o)).started ≡ first_up ts

-- A stop

-- The call only orders a broker or ends the kernel.
abbrev pub only_asks : Told → Bool
only_asks Asked = true
only_asks Closes = true
only_asks t = false

-- A stopped broker is waited for until its process has ended, even if a broker is ordered in between. A broker
-- may be ordered again after that.
abbrev pub WaitsForTheEnd : Type 0
WaitsForTheEnd =
    (o : BrokerOrders) (ts : List Told) → Every only_asks ts
    → (is_stopping (after ts (told Stopped o)).phase ≡ true) × (is_news (told HasEnded (after ts (told Stopped o))).phase ≡ Ok true)

-- The end of a broker

-- The call leaves a running broker up: it orders a broker, or an earlier broker's process has ended.
abbrev pub leaves_up : Told → Bool
leaves_up Asked = true
leaves_up HasEnded = true
leaves_up t = false

-- The generation's broker came up, and was neither stopped nor lost since.
pub record Runs (generation : ℕ) (ts : List Told) : Type 0 where
  pub before : List Told
  pub later : List Told
  pub split : ts ≡ before ++ IsUp generation ∷ later
  pub still : Every leaves_up later

-- The end of a link is missed only if its broker runs and the kernel is not ending.
abbrev pub MissesWhatRuns : Type 0
MissesWhatRuns =
    (generation : ℕ) (ts : List Told)
    → is_missed generation (after ts no_orders) ≡ true → Runs generation ts × Every (λ t. not (is_close t)) ts

-- The end of a link is missed if its broker runs and the kernel is not ending.
abbrev pub MissesAllThatRuns : Type 0
MissesAllThatRuns =
    (generation : ℕ) (ts : List Told)
    → Runs generation ts → Every (λ t. not (is_close t)) ts → is_missed generation (after ts no_orders) ≡ true

-- A failure

-- The call brings no broker up, and loses, stops or fails none.
abbrev pub without_broker : Told → Bool
without_broker Asked = true
without_broker HasEnded = true
without_broker Closes = true
without_broker t = false

-- Once a broker has failed to start, every request for one, or for its stop, returns that failure.
abbrev pub FailsForGood : Type 0
FailsForGood =
    (o : BrokerOrders) (fault : ProcessFault) (ts : List Told) → Every without_broker ts
    → (is_news (after ts (told (Fails fault) o)).phase ≡ Err fault) × (is_there (after ts (told (Fails fault) o)).phase ≡ Err fault)
