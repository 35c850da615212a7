-- Changes of the kernel and its broker by a start, a stop, a message and a death.
-- The supervisor and the world each build their own state from these.
use Rattle.std.specs.Prelude.{ℕ, List, [], Bool, false, true, not, ◌&&◌, Option, Some, None, is_some}
use Rattle.wl_grammar.specs.declared.frame.Stamped.{Stamped}
use Rattle.wl_grammar.specs.declared.frame.Addressed.{Addressed}
use Rattle.wl_broker.specs.Broker.{BrokerState, started, hellos, Taking, Drops, Does, taking, death_step}
use Rattle.wl_kernel.specs.Kernel.{KernelState, is_opened, is_living, may_stop, stopped, start_refusal, placed}

-- The kernel, its broker and the frames that the broker sends. They mean nothing unless something happens.
pub record Change : Type 0 where
  pub happens : Bool
  pub kernel : KernelState
  pub broker : Option BrokerState
  pub frames : List Addressed

abbrev pub no_change : KernelState → Change
no_change k = record { happens = false; kernel = k; broker = None; frames = [] }

-- The broker of the current generation starts with this start list and greets the listed tabs.
abbrev pub start_change : List ℕ → KernelState → Option BrokerState → Change
start_change ts k (Some b) = no_change k
start_change ts k None =
    let g = k.generation in
    record { happens = not (is_some (start_refusal ts k)); kernel = k; broker = Some (started g (placed ts k)); frames = hellos g (placed ts k) }

abbrev pub stop_change : KernelState → Option BrokerState → Change
stop_change k None = no_change k
stop_change k (Some b) = record { happens = may_stop k; kernel = stopped k; broker = None; frames = [] }

-- A message that the broker drops changes nothing.
abbrev pub taking_change : KernelState → Taking → Change
taking_change k (Drops reason) = no_change k
taking_change k (Does b outs) = record { happens = true; kernel = k; broker = Some b; frames = outs }

abbrev pub message_change : Stamped → KernelState → Option BrokerState → Change
message_change s k None = no_change k
message_change s k (Some b) = taking_change k (taking b s)

-- The tab was opened and does not live.
abbrev pub is_dead : KernelState → ℕ → Bool
is_dead k t = is_opened k t && not (is_living k t)

-- The kernel tells the broker that a tab is dead.
abbrev pub death_change : ℕ → KernelState → Option BrokerState → Change
death_change t k None = no_change k
death_change t k (Some b) = record { happens = is_dead k t; kernel = k; broker = Some (death_step b t).0; frames = (death_step b t).1 }
