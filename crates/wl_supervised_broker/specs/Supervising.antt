-- Replies of the supervisor to deaths, starts and stops, and to messages for the broker.
use Rattle.std.specs.Prelude.{ℕ, List, not, option_map, Option, Some, None, if◌then◌else◌}
use Rattle.wl_grammar.specs.declared.frame.Stamped.{Stamped}
use Rattle.wl_grammar.specs.declared.frame.Upward.{Upward}
use Rattle.wl_grammar.specs.declared.frame.Upward.TheVariants as up
use Rattle.wl_broker.specs.Broker.{BrokerState, seat_of, is_joined, Taking, Drops, Does, taking}
use Rattle.wl_kernel.specs.Kernel.{KernelState, is_opened, is_living, may_stop, start_refusal}
use Rattle.wl_world_messages.specs.declared.effect.Effect.{Effect}
use Rattle.wl_world_messages.specs.declared.effect.Effect.TheVariants as said
use Rattle.wl_world_messages.specs.declared.effect.Refusal.TheVariants as refusal
use Rattle.wl_world_messages.specs.declared.effect.Reason.TheVariants as reason
use Rattle.wl_world_messages.specs.Refused.{refused, refused_or}

-- The kernel

-- The reply `s` if a broker is up, else a refusal.
abbrev pub up_or : Option BrokerState → Effect → Effect
up_or None s = refused refusal.Down
up_or (Some b) s = s

abbrev pub kill_effect : KernelState → ℕ → Effect
kill_effect k t = if is_living k t then said.Killed t else refused refusal.NoTab

-- The reply to a death notice. It is refused for a tab that was never opened or that lives.
abbrev pub death_effect : KernelState → ℕ → Option BrokerState → Effect
death_effect k t b =
    if not (is_opened k t) then refused refusal.NoTab
    else if is_living k t then refused refusal.Living
    else up_or b (said.Told t)

abbrev pub stop_effect : KernelState → Option BrokerState → Effect
stop_effect k None = refused refusal.AlreadyDown
stop_effect k (Some b) = if may_stop k then said.Stopped k.generation else refused refusal.GenerationsUsedUp

abbrev pub start_effect : KernelState → List ℕ → Option BrokerState → Effect
start_effect k ts (Some b) = refused refusal.AlreadyUp
start_effect k ts None = refused_or (option_map refusal.Start (start_refusal ts k)) (said.Started k.generation)

-- Deliveries to the broker

-- The reply to a taken part. The tab joins when its last missing part is taken.
abbrev pub joined_or : BrokerState → ℕ → Effect → Effect
joined_or b t s = if is_joined (seat_of b t) then said.Joined t else s

abbrev pub taken_said : BrokerState → ℕ → Upward → Effect
taken_said b t (up.Command c) = said.Answered
taken_said b t (up.Report r) = said.Joined t
taken_said b t (up.ReportPart r) = joined_or b t (said.Part r.part r.parts)

abbrev pub taking_said : Stamped → Taking → Effect
taking_said s (Drops d) = said.Dropped (reason.AtBroker d)
taking_said s (Does b outs) = taken_said b s.tab s.inner

abbrev pub message_effect : Stamped → Option BrokerState → Effect
message_effect s None = said.Dropped reason.Down
message_effect s (Some b) = taking_said s (taking b s)
