-- State of the hub as the code stores it.
use Rattle.std.specs.Prelude.{◌≡◌, ◌+◌, ◌≤◌, ℕ, List, [], ◌++◌, Bool, true, false}
use Rattle.std.specs.VecDeque.{deque_len, deque_capacity}
use Rattle.wl_grammar.specs.declared.frame.Frame.{Frame}
use Rattle.wl_world_messages.specs.declared.effect.Effect.{Effect}
use Rattle.wl_world_messages.specs.declared.effect.Effect.TheVariants as said
use Rattle.wl_hub.specs.declared.outputs.Outputs.{Outputs}
use Rattle.wl_hub.specs.Hub.{from_broker}

abbrev pub queued : Outputs → List (ℕ × Frame)
queued o = o.queue.items ++ from_broker o.rest.items

-- All frames stand in the queue, which has room for `n` more.
pub record HasRoom (n : ℕ) (o : Outputs) : Type 0 where
  pub moved : o.rest.items ≡ []
  pub room : deque_len o.queue + n ≤ deque_capacity o.queue

-- The reply says that a broker was stopped.
abbrev pub is_stop : Effect → Bool
is_stop (said.Stopped g) = true
is_stop e = false
