-- States of the supervisor with its broker: the kernel, and the broker that is up.
use Rattle.std.specs.Prelude.{ℕ, List, [], Bool, false, ◌&&◌, Option, Some, None, if◌then◌else◌}
use Rattle.wl_grammar.specs.declared.frame.Stamped.{Stamped}
use Rattle.wl_grammar.specs.declared.frame.Addressed.{Addressed}
use Rattle.wl_broker.specs.Broker.{BrokerState, is_active}
use Rattle.wl_kernel.specs.Kernel.{KernelState, is_opened, partition_number}
use Rattle.wl_supervised_broker.specs.Changes.{Change, start_change, stop_change, message_change, death_change}

pub record SupervisedState : Type 0 where
  pub kernel : KernelState
  pub broker : Option BrokerState  -- the broker that is up, if there is one

abbrev pub without_broker : KernelState → SupervisedState
without_broker k = record { kernel = k; broker = None }

abbrev pub with_broker : KernelState → BrokerState → SupervisedState
with_broker k b = record { kernel = k; broker = Some b }

abbrev pub with_kernel : KernelState → SupervisedState → SupervisedState
with_kernel k s = record { kernel = k; broker = s.broker }

-- A broker is up and grants locks in the partition with this number.
abbrev pub is_active_at : ℕ → Option BrokerState → Bool
is_active_at p None = false
is_active_at p (Some b) = is_active b p

-- A broker is up and grants locks in the tab's partition.
abbrev pub is_active_for : ℕ → SupervisedState → Bool
is_active_for t s = is_opened s.kernel t && is_active_at (partition_number s.kernel t) s.broker

-- The state after a change.
abbrev pub changed : Change → SupervisedState → SupervisedState
changed c s = if c.happens then record { kernel = c.kernel; broker = c.broker } else s

-- The frames that the broker sends at a change.
abbrev pub frames_of : Change → List Addressed
frames_of c = if c.happens then c.frames else []

abbrev pub after_stop : SupervisedState → SupervisedState
after_stop s = changed (stop_change s.kernel s.broker) s

abbrev pub after_start : List ℕ → SupervisedState → SupervisedState
after_start ts s = changed (start_change ts s.kernel s.broker) s

abbrev pub frames_at_start : List ℕ → SupervisedState → List Addressed
frames_at_start ts s = frames_of (start_change ts s.kernel s.broker)

abbrev pub after_message : Stamped → SupervisedState → SupervisedState
after_message x s = changed (message_change x s.kernel s.broker) s

abbrev pub frames_after_message : Stamped → SupervisedState → List Addressed
frames_after_message x s = frames_of (message_change x s.kernel s.broker)

abbrev pub after_death : ℕ → SupervisedState → SupervisedState
after_death t s = changed (death_change t s.kernel s.broker) s

abbrev pub frames_at_death : ℕ → SupervisedState → List Addressed
frames_at_death t s = frames_of (death_change t s.kernel s.broker)
